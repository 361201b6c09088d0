use mathlib.Core.Path.{◌≡◌}
use Rattle.model.specs.Places.{padded}
use Rattle.graph.specs.File.{keys}
use Rattle.reader.proofs.lists.edge_of.Given as goal

abbrev pub invariant-loop-i : goal.invariant-loop-i
invariant-loop-i l = l.a ≡ padded 1024 (keys l.file l.base) l.i
