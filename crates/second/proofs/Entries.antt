-- From what the reader took of a file s, and from what was found for its graph, to the entry's answer.
use Rattle.std.specs.Prelude.{Result, Err}
use mathlib.Core.Path.{refl, sym}
use mathlib.Core.List.{List}
use Prim.Native.Nat.{ℕ}
use Rattle.units.specs.declared.Parts.{Parts}
use Rattle.graph.specs.Model.{as_model}
use Rattle.graph.specs.declared.Refusal.{Refusal}
use Rattle.graph.specs.Answer.{Accepted, Refused}
use Rattle.reader.specs.Laid.{TakenInto}
use Rattle.reader.specs.declared.Laid.{Laid}
use Rattle.second.specs.Seconded.{seconded}
use Rattle.second.specs.Answers.{SecondIn, SecondOf, refused, accepted}

module _ {s : List ℕ} {l : Laid} where
  pub second-accepted : (r : Result Parts Refusal) → TakenInto s Accepted l → SecondIn (as_model l.graph) (seconded r) → SecondOf s (seconded r)
  second-accepted r T f = let a = sym T.answer in accepted a (rw (T.laid a).graph at f)

  pub second-refused : {x : Refusal} → TakenInto s (Refused x) l → SecondOf s (seconded (Err x))
  second-refused T = refused (sym T.answer) refl refl
