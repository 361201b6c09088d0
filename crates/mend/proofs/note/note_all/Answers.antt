use mathlib.Core.Path.{◌≡◌, refl, sym}
use native.Mathlib.Omega.{arith}
use lib.ListN.{get_or, length-append}
use Rattle.model.specs.Places.{count}
use Rattle.model.proofs.Tables.{padded-at}
use Rattle.graph.specs.File.{records}
use Rattle.mends.specs.Mends.{seat}
use Rattle.mends.specs.Listed.{list_up_to, list_of}
use Rattle.mend_keys.specs.Keys.{kept_mark}
use Rattle.mend_keys.proofs.KeySets.{mark-kept}
use Rattle.model.proofs.Bools.{bit_is}
use Rattle.mend_record.proofs.Laying.{held_none, held-length}
use Rattle.mend_record.proofs.Noting.{two-done, noted, next-entry, entries-short}
use Rattle.mend.proofs.Laying.{seat-more, list-more}
use borrow.Author.Rules.{rules}
use Rattle.mend.proofs.note.note_all.Goals as goal

pub loop-k-init : goal.loop-k-init
unfolding list_up_to seat count
loop-k-init c = (held_none _, refl, refl, search rules, search rules)

pub done_to-f-requires : goal.done_to-f-requires
done_to-f-requires c =
    let l = c.loop-k in
    (c.requires.0, omega arith, l.invariant.2)

pub note_fate-n-requires : goal.note_fate-n-requires
note_fate-n-requires c =
    let l = c.loop-k in
    let long = held-length (list_up_to c.args.file.now l.k) c.args.list.now l.list l.invariant.0 in
    (omega (arith, c.requires.0.few), omega (arith, c.requires.0.few, l.invariant.3), omega (arith, l.invariant.3, c.requires.1, long), rw c.done_to-f.ensures (two-done c.args.file.now l.k))

pub loop-k-preserved : goal.loop-k-preserved
loop-k-preserved c =
    let nf = c.note_fate-n.ensures in
    let l = c.loop-k in
    let f = c.args.file.now in
    let step = noted f l.k l.n (list_up_to f l.k) c.args.list.now l.list (sym l.invariant.1) (omega (arith, l.invariant.3, c.requires.1)) l.invariant.0 in
    let next = rw (c.done_to-f.ensures, next-entry f l.k l.n) at nf.0 in
    let mark : get_or c.args.marks.now l.k 0 ≡ kept_mark f l.k = rw c.requires.0.marks (padded-at 1162 (kept_mark f) (records f) l.k (omega arith)) in
    (rw (list-more f l.k, nf.1, c.done_to-f.ensures) step, rw (list-more f l.k, next, l.invariant.1) (sym (length-append (list_up_to f l.k) _)), rw (l.invariant.2, c.from-stood.ensures, bit_is, mark, mark-kept f l.k) (sym (seat-more f l.k)), omega (arith, next, l.invariant.3, entries-short f l.k), search rules)

pub shape_of-list : goal.shape_of-list
shape_of-list c =
    let l = c.loop-k in
    held-length (list_up_to c.args.file.now l.k) c.args.list.now l.list l.invariant.0

pub returns : goal.returns
unfolding list_of
returns c =
    let l = c.loop-k in
    let e : l.k ≡ records c.args.file.now = omega arith in
    (rw e at l.invariant.1, rw e at l.invariant.0.holds)
