use mathlib.Core.Path.{refl}
use Prim.Native.Nat.{◌<◌}
use native.Mathlib.Omega.{arith}
use lib.ListN.{get_or}
use Rattle.vset.specs.Members.{is_in}
use Rattle.vset.proofs.Words.{itself}
use Rattle.starts.specs.Starts.{leads_to}
use Rattle.waiting.proofs.Telling.{told_none, told_more, still_counted}
use Rattle.waiting.proofs.tell.Goals as goal
use Rattle.waiting.proofs.tell.Goals.{In-loop-i}

pub loop-i-init : goal.loop-i-init
loop-i-init c =
    let a = c.args in
    told_none a.edge.now a.start a.waiting.now (is_in a.busy) a.s c.requires.waiting_len c.requires.members (itself a.s.done (omega arith) (omega arith) (is_in a.s.done) (λ k. refl))

known : (c : In-loop-i) → leads_to c.args.edge.now c.loop-i.i < 128
known c = c.requires.by_index c.loop-i.i (omega (arith, c.loop-i-test.true))

-- an edge that is still to be followed is counted in what its end waits for
some : (c : In-loop-i) → 0 < get_or c.loop-i.waiting (leads_to c.args.edge.now c.loop-i.i) 0
some c =
    let l = c.loop-i in
    let a = c.args in
    still_counted a.edge.now a.start l.i (omega arith) a.waiting.now l.waiting l.invariant.less a.end (omega (arith, c.loop-i-test.true)) (c.requires.by_index_2 (leads_to a.edge.now l.i) (known c))

pub release-told-requires : goal.release-told-requires
release-told-requires c =
    let l = c.loop-i in
    let h = known (goal.at.release-told-requires c).In-loop-i in
    rw c.to.ensures (h, some (goal.at.release-told-requires c).In-loop-i)

pub loop-i-preserved : goal.loop-i-preserved
loop-i-preserved c =
    let l = c.loop-i in
    let a = c.args in
    told_more a.edge.now a.start a.waiting.now (is_in a.busy) a.s l.i l.waiting l.told l.invariant (omega arith) (known (goal.at.loop-i-preserved c).In-loop-i) (some (goal.at.loop-i-preserved c).In-loop-i) c.release-told.new.waiting c.release-told.result (rw c.to.ensures at c.release-told.ensures)
