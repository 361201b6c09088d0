use mathlib.Core.Path.{◌≡◌, refl, sym, ◌∙◌}
use native.Mathlib.Omega.{arith}
use borrow.Author.Count.{below_more}
use borrow.Author.Tests.{lt-ltb, le-ltb}
use Rattle.model.specs.Places.{first}
use Rattle.model.proofs.Places.{first-at, first-none}
use Rattle.boards.proofs.first_at.Goals as goal

pub returns-then-test : goal.returns-then-test
returns-then-test g c p h =
    let l = c.loop-k in
    let e : first p c.args.n ≡ l.k = first-at p c.args.n l.k (omega arith) (l.invariant p h) (sym (h l.k _ (omega arith) c.test.ensures) ∙ c.if-test.true) in
    rw (e, lt-ltb l.k c.args.n (omega arith)) refl

pub loop-k-preserved : goal.loop-k-preserved
loop-k-preserved g c p h =
    let l = c.loop-k in
    below_more _ l.k (l.invariant p h) (sym (h l.k _ (omega arith) c.test.ensures) ∙ c.if-test.false)

pub returns : goal.returns
returns g c p h =
    let l = c.loop-k in
    let n = c.args.n in
    let e : first p n ≡ n = first-none p n (λ u b. l.invariant p h u (omega arith)) in
    rw (e, le-ltb n n (omega arith)) refl
