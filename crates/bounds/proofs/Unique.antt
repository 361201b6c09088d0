-- What the entries promise leaves one choice only.
use Rattle.std.specs.Prelude.{Result, Ok, Err}
use mathlib.Core.Path.{◌≡◌, refl, sym, ap, ◌∙◌}
use mathlib.Core.List.{List, ◌++◌}
use Prim.Native.Nat.{ℕ, ◌/◌}
use native.Mathlib.Omega.{arith}
use lib.ListN.{length, drop}
use Rattle.model.specs.Graph.{Graph}
use Rattle.model.specs.Bounds.{PARTS}
use Rattle.model.proofs.Longest.{old_b_unique, new_b_1_unique, path_unique}
use Rattle.graph.specs.Model.{as_model}
use Rattle.graph.specs.Judge.{read_of}
use Rattle.graph.specs.Answer.{Answer}
use Rattle.graph.specs.Answer.{Accepted, Refused}
use Rattle.graph.specs.declared.Graph as reader
use Rattle.bounds.specs.Answers.{Figures, Beside, BoundsOf, PathIn, narrow, found, PathOf, refused, accepted}
use Rattle.graph.specs.declared.Refusal.{Refusal}
use Rattle.bounds.specs.Bounded.{Bounded, bounded}
use Rattle.bounds.specs.declared.BothBounds.{BothBounds}
use Rattle.bounds.specs.Pathed.{Pathed}
use Rattle.bounds.specs.Pathed.{Vertices}

-- the answer and the three numbers are all that there is
bounded-same : (r r' : Bounded) → r.answer ≡ r'.answer → r.old.0 ≡ r'.old.0 → r.new.0 ≡ r'.new.0 → r.ticks.0 ≡ r'.ticks.0 → r ≡ r'
bounded-same r r' a o n t = λ i. record { answer = a i; old = record { 0 = o i }; new = record { 0 = n i }; ticks = record { 0 = t i } }

pub figures_unique : {G : Graph} (r r' : Bounded) {a : Answer} → r.answer ≡ a → r'.answer ≡ a → Figures G r → Figures G r' → r ≡ r'
figures_unique r r' p q x y =
    let n = new_b_1_unique r.new.0 r'.new.0 x.new y.new in
    bounded-same r r' (p ∙ sym q) (old_b_unique r.old.0 r'.old.0 x.old y.old) n (x.ticks ∙ ap (λ (b : ℕ). b / PARTS) n ∙ sym y.ticks)

pub bounds_unique : (s : List ℕ) (r r' : Bounded) → BoundsOf s r → BoundsOf s r' → r ≡ r'
bounds_unique s r r' p q = go (read_of s).answer p.figures q.figures
  where
    go : (a : Answer) → Beside a (as_model (read_of s).graph) r → Beside a (as_model (read_of s).graph) r' → r ≡ r'
    go (Ok _) x y = figures_unique r r' p.answer q.answer x y
    go (Err z) x y =
        bounded-same r r' (p.answer ∙ sym q.answer) (x.old ∙ sym y.old) (x.new ∙ sym y.new) (x.ticks ∙ sym y.ticks)

pub path_in_unique : {g : reader.Graph} {old : List ℕ} {r r' : Pathed} {new new' : List ℕ} → PathIn g old r new → PathIn g old r' new'
    → (r ≡ r') × (new ≡ new')
path_in_unique (narrow l) (narrow m) = (refl, refl)
path_in_unique (narrow l) (found m p) = absurd (omega arith)
path_in_unique (found l p) (narrow m) = absurd (omega arith)
path_in_unique {old = old} (found l p) (found m q) =
    let e = path_unique p q in
    (ap (λ (x : List ℕ). Vertices (length x)) e, ap (λ (x : List ℕ). x ++ drop (length x) old) e)

pub path-of_unique : {s old : List ℕ} {r r' : Pathed} {new new' : List ℕ} → PathOf s old r new → PathOf s old r' new' → (r ≡ r') × (new ≡ new')
path-of_unique (refused {x = x} e) (refused {x = y} d) = (cc, refl)
path-of_unique (refused e) (accepted d p) = absurd (let z : ◌≡◌ {A = ℕ} 0 1 = cc in omega arith)
path-of_unique (accepted e p) (refused d) = absurd (let z : ◌≡◌ {A = ℕ} 0 1 = cc in omega arith)
path-of_unique (accepted e p) (accepted d q) = path_in_unique p q

-- what `bounds` gives is told by its answer and what stands beside it
pub bounded-one : (x y : Result BothBounds Refusal) → bounded x ≡ bounded y → x ≡ y
bounded-one (Ok b) (Ok d) e = ap (λ (t : Bounded). Ok (record { old = t.old; new = t.new; ticks = t.ticks })) e
bounded-one (Ok b) (Err r) e = let q : Accepted ≡ Refused r = ap (λ (t : Bounded). t.answer) e in cc
bounded-one (Err r) (Ok b) e = let q : Refused r ≡ Accepted = ap (λ (t : Bounded). t.answer) e in cc
bounded-one (Err r) (Err q) e = let z : Refused r ≡ Refused q = ap (λ (t : Bounded). t.answer) e in cc
