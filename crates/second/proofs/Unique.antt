-- What the entry promises leaves one choice only.
use Rattle.std.specs.Prelude.{Result, Ok, Err}
use mathlib.Core.Path.{◌≡◌, sym, ap, ◌∙◌}
use mathlib.Core.List.{List}
use Prim.Native.Nat.{ℕ}
use native.Mathlib.Omega.{arith}
use Rattle.model.specs.Graph.{Graph}
use Rattle.model.proofs.Visit.{new_b_2_unique}
use Rattle.second.specs.Answers.{SecondIn, too_many, found, SecondOf, refused, accepted}
use Rattle.units.specs.declared.Parts.{Parts}
use Rattle.graph.specs.Answer.{Accepted, Refused}
use Rattle.graph.specs.declared.Refusal.{Refusal}
use Rattle.second.specs.Seconded.{Seconded, seconded}

-- the answer and the number are all that there is
seconded-same : (r r' : Seconded) → r.answer ≡ r'.answer → r.parts.0 ≡ r'.parts.0 → r ≡ r'
seconded-same r r' a p = λ i. record { answer = a i; parts = record { 0 = p i } }

pub second_in_unique : {G : Graph} (r r' : Seconded) → SecondIn G r → SecondIn G r' → r ≡ r'
second_in_unique r r' (too_many l a z) (too_many m b y) = seconded-same r r' (a ∙ sym b) (z ∙ sym y)
second_in_unique r r' (too_many l a z) (found m b y) = absurd (omega arith)
second_in_unique r r' (found l a x) (too_many m b y) = absurd (omega arith)
second_in_unique r r' (found l a x) (found m b y) = seconded-same r r' (a ∙ sym b) (new_b_2_unique r.parts.0 r'.parts.0 x y)

pub second-of_unique : {s : List ℕ} (r r' : Seconded) → SecondOf s r → SecondOf s r' → r ≡ r'
second-of_unique r r' (refused e a z) (refused d b y) = seconded-same r r' (a ∙ (sym e ∙ (d ∙ sym b))) (z ∙ sym y)
second-of_unique r r' (refused e a z) (accepted d y) = absurd (let z : ◌≡◌ {A = ℕ} 0 1 = cc in omega arith)
second-of_unique r r' (accepted e x) (refused d b y) = absurd (let z : ◌≡◌ {A = ℕ} 0 1 = cc in omega arith)
second-of_unique r r' (accepted e x) (accepted d y) = second_in_unique r r' x y

-- what `second` gives is told by its answer and what stands beside it
pub seconded-one : (x y : Result Parts Refusal) → seconded x ≡ seconded y → x ≡ y
seconded-one (Ok p) (Ok q) e = ap Ok (ap (λ (t : Seconded). t.parts) e)
seconded-one (Ok p) (Err r) e = let q : Accepted ≡ Refused r = ap (λ (t : Seconded). t.answer) e in cc
seconded-one (Err r) (Ok p) e = let q : Refused r ≡ Accepted = ap (λ (t : Seconded). t.answer) e in cc
seconded-one (Err r) (Err q) e = let z : Refused r ≡ Refused q = ap (λ (t : Seconded). t.answer) e in cc
