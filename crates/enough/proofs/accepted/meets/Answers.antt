use mathlib.Core.Path.{◌≡◌}
use native.Mathlib.Omega.{arith}
use lib.ListN.{set}
use borrow.Author.Tests.{leb-true, le-leb}
use Rattle.model.specs.Bounds.{vol, volume}
use Rattle.graph.specs.Model.{as_model}
use Rattle.reader.specs.Laid.{on_cores}
use Rattle.bounds.proofs.Weighing.{small-stages}
use Rattle.enough.proofs.Meeting.{meets-within}
use Rattle.enough.proofs.Stored.{stored_model, stored_usable}
use Rattle.enough.proofs.accepted.meets.Goals as goal
use Rattle.enough.proofs.accepted.meets.Goals.{After-volume-shares}

pub volume-shares-requires : goal.volume-shares-requires
volume-shares-requires c = let p = c.requires in small-stages (stored_usable p.usable _ _ p.s_lt_kinds.0 p.s_lt_kinds.1 p.s_lt_kinds.2).accepted

-- what the code adds up is the volume
shares : (c : After-volume-shares)
    → c.volume-shares.result.0 ≡ volume (as_model (on_cores c.args.laid.now (set c.args.laid.now.graph.cores c.args.s c.args.m)).graph)
unfolding vol volume as_model
shares c = c.volume-shares.ensures.result_value

pub new_of-new-requires : goal.new_of-new-requires
new_of-new-requires c =
    let p = c.requires in record { usable = stored_usable p.usable _ _ p.s_lt_kinds.0 p.s_lt_kinds.1 p.s_lt_kinds.2; shares_value = (shares (goal.at.new_of-new-requires c).After-volume-shares, c.volume-shares.ensures.result_bound) }

pub returns : goal.returns
returns c =
    let p = c.requires in
    let x = rw (stored_model p.usable c.args.s c.args.m p.s_lt_kinds.0) at c.new_of-new.ensures in
    let whole = c.ticks-ticks.result.0 in
    let e = c.ticks-ticks.ensures in
    (λ b. (meets-within x).1 (omega (arith, leb-true whole c.args.limit b, e)), λ M. le-leb whole c.args.limit (omega (arith, e, (meets-within x).0 M)))
