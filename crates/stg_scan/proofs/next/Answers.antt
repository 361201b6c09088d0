use mathlib.Core.Path.{refl}
use borrow.Author.Tests.{eq-eqb, ne_eqb}
use Rattle.stg_scan.specs.Scan.{token_at, token_from}
use Rattle.stg_scan.proofs.next.Goals as goal

pub returns-then-p-text : goal.returns-then-p-text
unfolding token_at token_from
returns-then-p-text c = rw (← c.skip-p.ensures.0, eq-eqb _ _ c.if-p-text.true) refl

pub returns-then-feed : goal.returns-then-feed
unfolding token_at token_from
returns-then-feed c =
    rw (← c.skip-p.ensures.0, ne_eqb _ _ c.if-p-text.false, ← c.feed.ensures, c.if-feed.true) refl

pub returns : goal.returns
unfolding token_at token_from
returns c =
    rw (← c.skip-p.ensures.0, ne_eqb _ _ c.if-p-text.false, ← c.feed.ensures, c.if-feed.false) c.number.ensures
