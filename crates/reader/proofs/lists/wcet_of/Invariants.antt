use mathlib.Core.Path.{◌≡◌}
use Rattle.model.specs.Places.{padded}
use Rattle.graph.specs.File.{words}
use Rattle.reader.proofs.lists.wcet_of.Given as goal

abbrev pub invariant-loop-i : goal.invariant-loop-i
invariant-loop-i l = l.a ≡ padded 128 (words l.file l.base) l.i
