use Prim.Native.Nat.{ℕ, ◌<◌}
use mathlib.Core.Path.{◌≡◌, refl}
use mathlib.Core.Bool.{not, ◌&&◌}
use lib.ListN.{get_or}
use lib.Dec.{eqb}
use Rattle.model.proofs.Tables.{padded-at}
use Rattle.graph.specs.File.{records}
use Rattle.mends.specs.Mends.{loop, double, moved}
use Rattle.mend_keys.specs.Keys.{kept_mark}
use Rattle.mend_record.specs.Laying.{fate_of}
use Rattle.mend_keys.proofs.KeySets.{mark-kept, loop-told, double-told}
use Rattle.mend.proofs.note.done_to.Goals as goal

pub returns : goal.returns
unfolding fate_of moved
returns c =
    let f = c.args.file.now in
    let k = c.args.k in
    let od = c.order_of-order.ensures.0 in
    let pl = c.plain-straight.ensures in
    let bytes : (i : ℕ) → get_or f i 0 < 256 = λ i. (c.type_inv.file i).fits in
    let mark : get_or c.args.marks.now k 0 ≡ kept_mark f k = rw c.requires.0.marks (padded-at 1162 (kept_mark f) (records f) k c.requires.1) in
    let looped : eqb c.order_of-order.result 2 && not c.plain-straight.result ≡ loop f k = rw (od, pl) (loop-told f k) in
    let doubled : c.plain-straight.result && not (eqb (get_or c.args.marks.now k 0) 1) ≡ double f k = rw (pl, mark, mark-kept f k) (double-told f bytes k) in
    let moves : eqb (get_or c.args.marks.now k 0) 1 && not (eqb c.args.stood c.rank_of-place.result) ≡ moved f k = rw (mark, mark-kept f k, c.requires.2, c.rank_of-place.ensures.0) refl in
    rw (looped, doubled, moves, c.stray-stray.ensures) refl
