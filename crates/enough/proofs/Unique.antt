-- What the entry promises leaves one choice only.
use Rattle.std.specs.Prelude.{Result, Ok, Err}
use mathlib.Core.Path.{◌≡◌, sym, ap, ◌∙◌}
use mathlib.Core.List.{List}
use Prim.Native.Nat.{ℕ}
use native.Mathlib.Omega.{arith}
use Rattle.model.specs.Graph.{Graph}
use Rattle.enough.specs.Answers.{EnoughIn, no_kind, none, found, EnoughOf, refused, accepted}
use Rattle.graph.specs.Answer.{Accepted, Refused}
use Rattle.graph.specs.declared.Refusal.{Refusal}
use Rattle.enough.specs.Fewest.{Fewest, fewest}
use Rattle.enough.proofs.Meeting.{smallest_unique}

-- the answer and the number are all that there is
fewest-same : (r r' : Fewest) → r.answer ≡ r'.answer → r.cores ≡ r'.cores → r ≡ r'
fewest-same r r' a c = λ i. record { answer = a i; cores = c i }

pub enough_in_unique : {G : Graph} {s d : ℕ} (r r' : Fewest) → EnoughIn G s d r → EnoughIn G s d r' → r ≡ r'
enough_in_unique r r' (no_kind l a z) (no_kind m b y) = fewest-same r r' (a ∙ sym b) (z ∙ sym y)
enough_in_unique r r' (no_kind l a z) (none m n b y) = absurd (omega arith)
enough_in_unique r r' (no_kind l a z) (found m b y) = absurd (omega arith)
enough_in_unique r r' (none l n a z) (no_kind m b y) = absurd (omega arith)
enough_in_unique r r' (none l n a z) (none m o b y) = fewest-same r r' (a ∙ sym b) (z ∙ sym y)
enough_in_unique r r' (none l n a z) (found m b y) = absurd (n r'.cores y.least y.most y.meets)
enough_in_unique r r' (found l a x) (no_kind m b y) = absurd (omega arith)
enough_in_unique r r' (found l a x) (none m n b y) = absurd (n r.cores x.least x.most x.meets)
enough_in_unique r r' (found l a x) (found m b y) = fewest-same r r' (a ∙ sym b) (smallest_unique x y)

pub enough-of_unique : {f : List ℕ} {s d : ℕ} (r r' : Fewest) → EnoughOf f s d r → EnoughOf f s d r' → r ≡ r'
enough-of_unique r r' (refused e a z) (refused c b y) = fewest-same r r' (a ∙ (sym e ∙ (c ∙ sym b))) (z ∙ sym y)
enough-of_unique r r' (refused e a z) (accepted c y) = absurd (let z : ◌≡◌ {A = ℕ} 0 1 = cc in omega arith)
enough-of_unique r r' (accepted e x) (refused c b y) = absurd (let z : ◌≡◌ {A = ℕ} 0 1 = cc in omega arith)
enough-of_unique r r' (accepted e x) (accepted c y) = enough_in_unique r r' x y

-- what `enough` gives is told by its answer and what stands beside it
pub fewest-one : (x y : Result ℕ Refusal) → fewest x ≡ fewest y → x ≡ y
fewest-one (Ok c) (Ok d) e = ap Ok (ap (λ (t : Fewest). t.cores) e)
fewest-one (Ok c) (Err r) e = let q : Accepted ≡ Refused r = ap (λ (t : Fewest). t.answer) e in cc
fewest-one (Err r) (Ok c) e = let q : Refused r ≡ Accepted = ap (λ (t : Fewest). t.answer) e in cc
fewest-one (Err r) (Err q) e = let z : Refused r ≡ Refused q = ap (λ (t : Fewest). t.answer) e in cc
