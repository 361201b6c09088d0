use mathlib.Core.Path.{◌≡◌}
use lib.ListN.{length}
use Rattle.writer.specs.Lists.{lists}
use Rattle.writer.specs.Image.{record_at_of, imaged}
use Rattle.writer.proofs.image.image.Given as goal

abbrev pub invariant-loop-k : goal.invariant-loop-k
invariant-loop-k l =
    (l.t ≡ imaged (record_at_of (lists l.cores l.kinds l.wcets l.edges) l.a l.b) l.k) × (length l.t ≡ 9320)
