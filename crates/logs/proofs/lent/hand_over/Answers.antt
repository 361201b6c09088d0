use mathlib.Core.Path.{◌≡◌, ap, ◌∙◌}
use Prim.Native.Nat.{◌-◌, ◌*◌}
use native.Mathlib.Omega.{arith}
use lib.ListN.{length, drop, length-take, length-drop}
use lib.Seq.{take-length}
use borrow.Author.Rules.{rules}
use Rattle.remains.specs.Remains.{place}
use Rattle.recorded.proofs.Entries.{eight}
use Rattle.logs.proofs.Handing.{handed_none, handed_length, handed_more}
use Rattle.logs.proofs.lent.hand_over.Goals as goal
use Rattle.logs.proofs.lent.hand_over.Goals.{At-loop-k}

-- the room stays as long as it is
same : (c : At-loop-k) → length c.loop-k.out ≡ length c.args.out.now
same c = ap length c.loop-k.invariant ∙ handed_length _ _ c.loop-k.k (omega (arith, c.requires.m_bound.1))

pub loop-k-init : goal.loop-k-init
loop-k-init c = handed_none _ _

pub record-r-requires : goal.record-r-requires
record-r-requires c = c.requires.by_index c.loop-k.k c.loop-k-test.true

pub slice_bounds-copy-count : goal.slice_bounds-copy-count
slice_bounds-copy-count c =
    omega (arith, same (goal.at.slice_bounds-copy-count c).At-loop-k, c.requires.m_bound.1)

pub slice_bounds-copy-start : goal.slice_bounds-copy-start
slice_bounds-copy-start c = let q = slice_bounds-copy-count c in search rules

pub slice_bounds-copy-end-in-loop-k : goal.slice_bounds-copy-end-in-loop-k
slice_bounds-copy-end-in-loop-k c = let q = slice_bounds-copy-count c in search rules

pub copy-requires : goal.copy-requires
copy-requires c =
    let l = c.loop-k in
    omega (
      arith,
      ap length c.record-r.ensures,
      eight (place c.args.keys.now l.k),
      length-take (length l.out - 8 * l.k) (drop (8 * l.k) l.out),
      length-drop (8 * l.k) l.out,
      same (goal.at.copy-requires c).At-loop-k,
      c.requires.m_bound.1,
      c.loop-k-test.true,
    )

pub loop-k-preserved : goal.loop-k-preserved
loop-k-preserved c =
    let l = c.loop-k in
    let f = place c.args.keys.now in
    let r = c.record-r in
    let t = c.loop-k-test.true in
    let y = rw (r.ensures, eight (f l.k)) at c.copy.ensures.after in
    rw (y, same (goal.at.loop-k-preserved c).At-loop-k, l.invariant) (handed_more f c.args.out.now l.k (omega (arith, c.requires.m_bound.1)))

pub shape_of-out : goal.shape_of-out
shape_of-out c = same (goal.at.shape_of-out c).At-loop-k

pub returns : goal.returns
returns c =
    let l = c.loop-k in
    let e : l.k ≡ c.args.m = omega arith in
    rw (← e) l.invariant
