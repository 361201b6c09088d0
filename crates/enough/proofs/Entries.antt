-- From what the search left to the answer for a graph g, and from what the reader took of a file f to the entry's answer.
use Rattle.std.specs.Prelude.{Result, Err}
use mathlib.Core.Path.{◌≡◌, refl, sym}
use mathlib.Core.List.{List}
use Prim.Native.Nat.{ℕ, ◌≤◌, ◌<◌}
use Rattle.graph.specs.Model.{as_model}
use Rattle.graph.specs.declared.Graph.{Graph}
use Rattle.graph.specs.declared.Refusal.{Refusal}
use Rattle.graph.specs.Answer.{Accepted, Refused}
use Rattle.reader.specs.Laid.{TakenInto}
use Rattle.reader.specs.declared.Laid.{Laid}
use Rattle.enough.specs.Answers.{undeclared, unmet, EnoughIn, no_kind, none, found, EnoughOf, refused, accepted}
use Rattle.enough.specs.Halving.{Between}
use Rattle.enough.specs.Fewest.{Fewest, fewest}
use Rattle.enough.proofs.Halving.{one_left, none_left}

module _ (g : Graph) {s d : ℕ} {r : Fewest} where
  pub of_no_kind : g.kinds ≤ s → r.answer ≡ Refused undeclared → r.cores ≡ 0 → EnoughIn (as_model g) s d r
  unfolding as_model
  of_no_kind l a z = no_kind l a z

  module _ (known : s < g.kinds) {c : ℕ} (B : Between (as_model g) s d c c) where
    pub of_none : 16 < c → r.answer ≡ Refused unmet → r.cores ≡ 0 → EnoughIn (as_model g) s d r
    unfolding as_model
    of_none l a z = none known (none_left B l) a z

    pub of-found : c ≤ 16 → r.answer ≡ Accepted → r.cores ≡ c → EnoughIn (as_model g) s d r
    unfolding as_model
    of-found l a e = found known a (rw e (one_left B l))

module _ {f : List ℕ} {l : Laid} {s d : ℕ} where
  pub enough-accepted : (r : Result ℕ Refusal) → TakenInto f Accepted l → EnoughIn (as_model l.graph) s d (fewest r) → EnoughOf f s d (fewest r)
  enough-accepted r T x = let a = sym T.answer in accepted a (rw (T.laid a).graph at x)

  pub enough-refused : {x : Refusal} → TakenInto f (Refused x) l → EnoughOf f s d (fewest (Err x))
  enough-refused T = refused (sym T.answer) refl refl
