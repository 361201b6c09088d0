use Rattle.std.proofs.Common.{refl, sym, ◌∙◌, arith}
use borrow.Author.Tests.{lt-ltb, le-ltb}
use Rattle.model.proofs.Places.{first-at, first-none}
use Rattle.texts.specs.Text.{is_named_of}
use Rattle.texts.proofs.which.Goals as goal

pub returns-then-is_named : goal.returns-then-is_named
returns-then-is_named c =
    let a = c.args in
    rw (first-at (is_named_of a.t.now a.names.now a.w.now) a.n c.loop-k.k c.loop-k-test.true c.loop-k.invariant (sym c.is_named.ensures ∙ c.if-is_named.true), lt-ltb c.loop-k.k a.n c.loop-k-test.true) refl

pub returns : goal.returns
returns c =
    let a = c.args in
    rw (first-none (is_named_of a.t.now a.names.now a.w.now) a.n (λ i h. c.loop-k.invariant i (omega arith)), le-ltb a.n a.n (omega arith)) refl
