use Prim.Native.Nat.{◌-◌}
use lib.ListN.{length, drop, length-take, length-drop}
use mathlib.Core.Path.{◌≡◌, refl}
use Rattle.mend_record.proofs.Laying.{over-is}
use native.Mathlib.Omega.{arith}
use Rattle.mend_record.specs.Laying.{put}
use borrow.Author.Rules.{rules}
use Rattle.mend_record.proofs.put.Goals as goal

pub slice_bounds-copy-count : goal.slice_bounds-copy-count
slice_bounds-copy-count c = let l = c.requires c.if-on.true in omega arith

pub slice_bounds-copy-start : goal.slice_bounds-copy-start
slice_bounds-copy-start c = let l = c.requires c.if-on.true in omega arith

pub copy-requires : goal.copy-requires
copy-requires c =
    let a = c.args in
    let l = c.requires c.if-on.true in
    let e : length a.r.now ≡ 8 = search rules in
    omega (arith, length-take (length a.buffer.now - a.at) (drop a.at a.buffer.now), length-drop a.at a.buffer.now)

pub returns-then-on : goal.returns-then-on
unfolding put
returns-then-on c =
    let a = c.args in
    let l = c.requires c.if-on.true in
    let e : length a.r.now ≡ 8 = search rules in
    rw (c.copy.ensures.after, c.if-on.true) (over-is a.buffer.now a.at a.r.now (omega arith))

pub returns-else-on : goal.returns-else-on
unfolding put
returns-else-on c = rw c.if-on.false refl
