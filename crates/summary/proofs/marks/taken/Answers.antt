use mathlib.Core.Path.{◌≡◌, sym, ap, ◌∙◌}
use mathlib.Core.Bool.{Bool, false, ◌||◌, or-false, or_assoc}
use Prim.Native.Nat.{ℕ}
use native.Mathlib.Omega.{arith}
use lib.ListN.{get_or}
use Rattle.model.specs.Places.{any}
use Rattle.model.proofs.Places.{any-more}
use Rattle.summary.specs.Row.{many, nth}
use Rattle.summary.proofs.marks.taken.Goals as goal

pub many-k-end-requires : goal.many-k-end-requires
many-k-end-requires c = c.requires.span

pub loop-k-init : goal.loop-k-init
unfolding any
loop-k-init c = sym (or-false _)

pub loop-k-preserved : goal.loop-k-preserved
loop-k-preserved c =
    let l = c.loop-k in
    let a = c.args in
    let marks = a.marks.now in
    let next : ℕ → Bool = λ k. get_or marks (nth a.edge.now a.start.now a.u k) false in
    ap (λ (b : Bool). b || get_or marks c.nth.result false) l.invariant ∙ ap (λ (x : ℕ). (get_or marks a.u false || any next l.k) || get_or marks x false) c.nth.ensures.value
    ∙ or_assoc (get_or marks a.u false) (any next l.k) (next l.k) ∙ ap (λ (b : Bool). get_or marks a.u false || b) (sym (any-more next l.k))

pub returns : goal.returns
returns c =
    let e : c.loop-k.k ≡ many c.args.start.now c.args.u = omega (arith, c.many-k-end.ensures) in
    rw e at c.loop-k.invariant
