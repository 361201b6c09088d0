use native.Mathlib.Omega.{arith}
use Rattle.model.proofs.Bools.{clash}
use Rattle.enough.proofs.Halving.{lower-half, upper_half}
use Rattle.enough.proofs.accepted.halved.Goals as goal

pub meets-requires : goal.meets-requires
meets-requires c =
    let p = c.requires in
    let b = p.between.0 in
    record { usable = p.usable; s_lt_kinds = (p.s_lt_kinds, omega (arith, b.least, p.between.1), omega (arith, b.most, p.between.1)) }

pub returns-then-meets : goal.returns-then-meets
returns-then-meets c =
    let p = c.requires in
    record { between_2 = lower-half p.between.0 _ (omega arith) (omega arith) (c.meets.ensures.0 c.if-meets.true); low_bound = omega arith }

pub returns : goal.returns
returns c =
    let p = c.requires in
    let A = p.usable.accepted in
    record { between_2 = upper_half p.between.0 _ (omega arith) (omega arith) A.well_formed A.acyclic (λ M. clash (c.meets.ensures.1 M) c.if-meets.false); low_bound = omega arith }
