-- From what the reader took of a file s, and from the gains that were found, to the entries' answers.
use mathlib.Core.Path.{◌≡◌, sym}
use mathlib.Core.List.{List, ◌++◌}
use Prim.Native.Nat.{ℕ, ◌≤◌}
use native.Mathlib.Omega.{arith}
use lib.ListN.{length, take, drop, length-take}
use Rattle.std.proofs.lemmas.List.{get_or-take}
use Rattle.model.specs.Graph.{Graph}
use Rattle.graph.specs.Model.{as_model}
use Rattle.graph.specs.declared.Refusal.{Refusal}
use Rattle.graph.specs.Answer.{Accepted, Refused}
use Rattle.reader.specs.Laid.{TakenInto}
use Rattle.reader.specs.declared.Laid.{Laid}
use Rattle.gaining.specs.Gaining.{GainsIn}
use Rattle.gains.specs.Answers.{GainedIn, found, GainsOf, refused, accepted, AlteredIn, AlteredOf}
use Rattle.gains.specs.Gained.{Gained}
use Rattle.gains.specs.Gained.{Vertices, Refused as NoGains}

-- the table of gains, handed over
pub gains_handed : (G : Graph) (n : ℕ) → n ≡ G.n → {old l new : List ℕ} → n ≤ length old → n ≤ length l → GainsIn G l → new ≡ take n l ++ drop (length (take n l)) old → GainedIn G old (Vertices n) new
gains_handed G n e {old} {l} room some S is =
    let few : length (take n l) ≡ n = omega (arith, length-take n l, some) in
    rw (is, few, e) (found (take G.n l) (omega (arith, room, e)) (rw (← e) few) (λ v k. rw (get_or-take G.n l v 0 k) (S.gain v k)))

module _ {s : List ℕ} {l : Laid} where
  pub gains-accepted : (old : List ℕ) {r : Gained} {new : List ℕ} → TakenInto s Accepted l → GainedIn (as_model l.graph) old r new → GainsOf s old r new
  gains-accepted old T f = let a = sym T.answer in accepted a (rw (T.laid a).graph at f)

  pub gains-refused : (old : List ℕ) {x : Refusal} → TakenInto s (Refused x) l → GainsOf s old (NoGains x) old
  gains-refused old T = refused (sym T.answer)

  pub altered-accepted : (v x : ℕ) (old : List ℕ) {r : Gained} {new : List ℕ} → TakenInto s Accepted l → AlteredIn l.graph v x old r new → AlteredOf s v x old r new
  altered-accepted v x old T f = let a = sym T.answer in accepted a (rw (T.laid a).graph at f)

  pub altered-refused : (v x : ℕ) (old : List ℕ) {y : Refusal} → TakenInto s (Refused y) l → AlteredOf s v x old (NoGains y) old
  altered-refused v x old T = refused (sym T.answer)
