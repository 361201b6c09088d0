use mathlib.Core.Path.{◌≡◌, ◌∙◌}
use Prim.Native.Nat.{ℕ, ◌+◌, ◌*◌}
use native.Mathlib.Omega.{arith}
use borrow.Author.Tests.{ne_eqb}
use lib.ListN.{length, take, length-take}
use Rattle.writer.specs.Lists.{Lists, lists}
use Rattle.writer.specs.Write.{wrote_of, room_after}
use Rattle.writer.specs.Image.{record_at_of, part, seen}
use Rattle.writer.proofs.Joined.{imaged-take}
use Rattle.writer.proofs.Part.{record-length}
use Rattle.writer.proofs.Cut.{wrote-cut, room_cut}
use Rattle.writer.proofs.write.Goals as goal

pub returns-then-kinds-wcets : goal.returns-then-kinds-wcets
unfolding wrote_of room_after
returns-then-kinds-wcets c = (rw (c.whole.ensures, ne_eqb _ _ c.if-kinds-wcets.true), rw (ne_eqb _ _ c.if-kinds-wcets.true))

pub slice_bounds-judged-end : goal.slice_bounds-judged-end
slice_bounds-judged-end c =
    let n : ℕ = c.min-a.result + c.min-b.result + c.min-e.result in
    omega (arith, length-take (8 * n) c.image.new.t, c.image.ensures.1)

pub judged-requires : goal.judged-requires
judged-requires c =
    let n : ℕ = c.min-a.result + c.min-b.result + c.min-e.result in
    omega (arith, length-take (8 * n) c.image.new.t, c.image.ensures.1)

pub returns : goal.returns
unfolding part seen
returns c =
    let s = c.args in
    let i = c.image in
    let x = c.min-a in
    let y = c.min-b in
    let z = c.min-e in
    let g : Lists = lists s.cores.now s.kinds.now s.wcets.now s.edges.now in
    let n : ℕ = x.result + y.result + z.result in
    let f : take (8 * n) i.new.t ≡ seen g =
    rw (i.ensures.0, ← x.ensures, ← y.ensures, ← z.ensures) (imaged-take (record_at_of g x.result y.result) (record-length g x.result y.result) n) in
    let p = rw f at c.judged.ensures.0 in
    let q = rw f at c.judged.ensures.1 in
    let as_many = c.if-kinds-wcets.false in
    (p ∙ wrote-cut g as_many (length s.out.now), rw p at q ∙ room_cut g as_many s.out.now)
