-- What each contract allows is one answer, and one list.
use mathlib.Core.Path.{◌≡◌, refl, sym, ap, ◌∙◌}
use mathlib.Core.List.{List, ◌++◌}
use Prim.Native.Nat.{ℕ}
use native.Mathlib.Omega.{arith}
use lib.ListN.{drop}
use lib.Seq.{ext_get_or}
use Rattle.model.specs.Graph.{Graph}
use Rattle.model.proofs.Gains.{gain_unique}
use Rattle.graph.specs.declared.Graph as reader
use Rattle.gains.specs.Answers.{GainedIn, narrow, found, GainsOf, refused, accepted, AlteredIn, no_vertex, too_long, altered, AlteredOf}
use Rattle.gains.specs.Gained.{Gained}

pub gained_in_unique : {G : Graph} {old : List ℕ} {r r' : Gained} {new new' : List ℕ} → GainedIn G old r new → GainedIn G old r' new' → (r ≡ r') × (new ≡ new')
gained_in_unique (narrow l) (narrow m) = (refl, refl)
gained_in_unique (narrow l) (found q m n g) = absurd (omega arith)
gained_in_unique (found q m n g) (narrow l) = absurd (omega arith)
gained_in_unique {G} {old} (found p l m g) (found q l' m' g') =
    let e : p ≡ q = ext_get_or 0 p q (m ∙ sym m') (λ v k. gain_unique (g v (omega (arith, m))) (g' v (omega (arith, m)))) in
    (refl, ap (λ (x : List ℕ). x ++ drop G.n old) e)

pub gains-of_unique : {s old : List ℕ} {r r' : Gained} {new new' : List ℕ} → GainsOf s old r new → GainsOf s old r' new' → (r ≡ r') × (new ≡ new')
gains-of_unique (refused {x = x} e) (refused {x = y} d) = (cc, refl)
gains-of_unique (refused e) (accepted d p) = absurd (let z : ◌≡◌ {A = ℕ} 0 1 = cc in omega arith)
gains-of_unique (accepted e p) (refused d) = absurd (let z : ◌≡◌ {A = ℕ} 0 1 = cc in omega arith)
gains-of_unique (accepted e p) (accepted d q) = gained_in_unique p q

pub altered_in_unique : {g : reader.Graph} {v x : ℕ} {old : List ℕ} {r r' : Gained} {new new' : List ℕ} → AlteredIn g v x old r new → AlteredIn g v x old r' new'
    → (r ≡ r') × (new ≡ new')
altered_in_unique (no_vertex l) (no_vertex m) = (refl, refl)
altered_in_unique (no_vertex l) (too_long k m) = absurd (omega arith)
altered_in_unique (no_vertex l) (altered k m p) = absurd (omega arith)
altered_in_unique (too_long k m) (no_vertex l) = absurd (omega arith)
altered_in_unique (too_long k m) (too_long l n) = (refl, refl)
altered_in_unique (too_long k m) (altered l n p) = absurd (omega arith)
altered_in_unique (altered k m p) (no_vertex l) = absurd (omega arith)
altered_in_unique (altered k m p) (too_long l n) = absurd (omega arith)
altered_in_unique (altered k m p) (altered l n q) = gained_in_unique p q

pub altered-of_unique : {s : List ℕ} {v x : ℕ} {old : List ℕ} {r r' : Gained} {new new' : List ℕ} → AlteredOf s v x old r new → AlteredOf s v x old r' new'
    → (r ≡ r') × (new ≡ new')
altered-of_unique (refused {y = y} e) (refused {y = z} d) = (cc, refl)
altered-of_unique (refused e) (accepted d p) = absurd (let z : ◌≡◌ {A = ℕ} 0 1 = cc in omega arith)
altered-of_unique (accepted e p) (refused d) = absurd (let z : ◌≡◌ {A = ℕ} 0 1 = cc in omega arith)
altered-of_unique (accepted e p) (accepted d q) = altered_in_unique p q
