use native.Mathlib.Omega.{arith}
use Rattle.std.proofs.lemmas.List.{get_or-take}
use Rattle.weights.proofs.Used.{marked-none, marked_more}
use Rattle.weights.proofs.volume.used_kinds.Goals as goal

pub loop-s-init : goal.loop-s-init
loop-s-init c = marked-none _

pub loop-s-preserved : goal.loop-s-preserved
loop-s-preserved c =
    let l = c.loop-s in
    let k = c.args.kind.now in
    let e = get_or-take c.args.n k l.s-index 0 (omega arith) in
    marked_more k l.used l.s-index _ (rw e (c.requires.by_index l.s-index (omega arith))) e l.invariant
