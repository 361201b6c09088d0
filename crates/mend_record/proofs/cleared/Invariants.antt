use mathlib.Core.Path.{◌≡◌}
use Rattle.model.specs.Places.{padded}
use Rattle.mends.specs.Mended.{byte_from, everywhere}
use Rattle.mend_record.proofs.cleared.Given as goal

abbrev pub invariant-loop-j : goal.invariant-loop-j
invariant-loop-j l = l.a ≡ padded 8 (byte_from l.file everywhere l.k) l.j
