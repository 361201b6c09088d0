use native.Mathlib.Omega.{arith}
use borrow.Author.Rules.{rules}
use Rattle.stg_line.proofs.Laying.{laying_none, laying_more, laying_all, long}
use Rattle.stg_line.proofs.number.put.Goals as goal

pub width-requires : goal.width-requires
width-requires c = c.requires.0

pub overflow_add-end : goal.overflow_add-end
overflow_add-end c = omega (arith, c.requires.1, c.width.ensures.0)

pub loop-k-init : goal.loop-k-init
loop-k-init c = let a = c.args in rw c.width.ensures.0 (laying_none a.out.now a.at a.x)

pub bounds-out-k : goal.bounds-out-k
bounds-out-k c =
    let l = c.loop-k in
    let a = c.args in
    omega (arith, l.invariant.to, c.requires.1, long a.out.now a.at a.x l.k l.y l.out l.invariant)

pub loop-k-preserved : goal.loop-k-preserved
loop-k-preserved c =
    let l = c.loop-k in
    let a = c.args in
    laying_more a.out.now a.at a.x l.k l.y l.out c.loop-k-test.true l.invariant

pub shape_of-out : goal.shape_of-out
shape_of-out c =
    let l = c.loop-k in
    let a = c.args in
    long a.out.now a.at a.x l.k l.y l.out l.invariant

pub returns : goal.returns
returns c =
    let l = c.loop-k in
    let a = c.args in
    (omega (arith, c.width.ensures.0), laying_all a.out.now a.at a.x l.k l.y l.out (search rules) l.invariant)
