use mathlib.Core.Path.{◌≡◌}
use Rattle.model.specs.Places.{padded}
use Rattle.graph.specs.File.{column}
use Rattle.reader.proofs.lists.column_of.Given as goal

abbrev pub invariant-loop-i : goal.invariant-loop-i
invariant-loop-i g l = l.a ≡ padded g.row.N (column l.file l.base 2) l.i
