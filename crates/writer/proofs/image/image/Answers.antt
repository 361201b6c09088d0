use mathlib.Core.Path.{◌≡◌, sym, ap, ◌∙◌}
use mathlib.Core.List.{List}
use Prim.Native.Nat.{ℕ, ◌+◌, ◌-◌, ◌*◌}
use native.Mathlib.Omega.{arith}
use lib.ListN.{length, drop, replicate, length-take, length-drop, length-replicate}
use lib.Seq.{take-length}
use borrow.Author.Rules.{rules}
use Rattle.writer.specs.Lists.{lists}
use Rattle.writer.specs.Image.{record_at_of}
use Rattle.writer.proofs.Joined.{imaged-none, imaged-more, imaged-length}
use Rattle.writer.proofs.Part.{record-length}
use Rattle.writer.proofs.image.image.Goals as goal

blank-length : {t : List ℕ} → t ≡ replicate 9320 0 → length t ≡ 9320
blank-length e = ap (λ (l : List ℕ). length l) e ∙ length-replicate {A = ℕ} 9320 0

pub loop-k-init : goal.loop-k-init
loop-k-init c =
    let z = c.requires.t_value in
    (z ∙ imaged-none _, blank-length z)

pub copy-requires : goal.copy-requires
copy-requires c =
    let l = c.loop-k in
    omega (arith, length-take (length l.t - 8 * l.k) (drop (8 * l.k) l.t), length-drop (8 * l.k) l.t)

pub loop-k-preserved : goal.loop-k-preserved
loop-k-preserved c =
    let s = c.args in
    let l = c.loop-k in
    let r = c.record_at-r in
    let g = lists s.cores.now s.kinds.now s.wcets.now s.edges.now in
    let f = record_at_of g s.a s.b in
    let y = rw (r.ensures.1, r.ensures.0) at c.copy.ensures.after in
    let more = imaged-more f (record-length g s.a s.b) l.k (omega arith) in
    (rw (y, l.invariant.1, l.invariant.0) more, rw (y, l.invariant.1, l.invariant.0, more) (imaged-length f (record-length g s.a s.b) (l.k + 1) (omega arith)))

pub shape_of-t : goal.shape_of-t
shape_of-t c = c.loop-k.invariant.1 ∙ sym (blank-length c.requires.t_value)

pub returns : goal.returns
returns c =
    let s = c.args in
    let e : c.loop-k.k ≡ s.a + s.b + s.e = omega arith in
    (rw (← e) c.loop-k.invariant.0, c.loop-k.invariant.1)
