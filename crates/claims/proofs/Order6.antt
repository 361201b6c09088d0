-- Order 6, "Less stack in the cycle test": "do it with counters for the vertices alone. Its contract remains."
--
-- The test's number is given as before: exactly where document 01's row holds for the file and no lower number applies. That it keeps a
-- number for each vertex and no copy of the edges is seen in `cycle::cyclic`; how much of the stack each entry takes is measured
-- (docs/STACK.md), and no theorem says it.
use mathlib.Core.Path.{◌≡◌, refl}
use mathlib.Core.Bool.{true}
use mathlib.Core.List.{List}
use mathlib.Core.Logic.{◌↔◌}
use Prim.Native.Nat.{ℕ}
use lib.Dec.{lit<, lit≤}
use Rattle.graph.specs.Rules.{holds, rule11}
use Rattle.graph.specs.Judge.{read_of}
use Rattle.graph.specs.Answer.{Refused}
use Rattle.graph.specs.Answer.{Taken}
use Rattle.claims.specs.Claims.{at_0, NoneFrom}
use Rattle.claims.specs.Entries.{ReadGives}
use Rattle.claims.proofs.Entries.{read-given}
use Rattle.claims.proofs.Judged.{whole-judged}

-- THEOREM. Number 11 remains: it is given exactly where its row holds, the edges holding a cycle, and no number below it applies.
pub eleven_remains : {s : List ℕ} {t : Taken} → ReadGives s t → (t.answer ≡ Refused (at_0 11)) ↔ (NoneFrom 1 11 s × (rule11 s ≡ true))
unfolding read_of holds
eleven_remains {s} h = rw (read-given h) (whole-judged s 11 (lit≤ tt) (lit< tt) refl)
