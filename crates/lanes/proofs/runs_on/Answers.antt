use mathlib.Core.Path.{◌≡◌, ◌∙◌, sym}
use Prim.Native.Nat.{◌/◌}
use lib.ListN.{length}
use Rattle.recorded.specs.Log.{instant_at, starts}
use native.Mathlib.Omega.{arith}
use borrow.Author.Rules.{rules}
use Rattle.lanes.proofs.Passing.{unmet-none, unmet-more, runs-on-here, runs-on-not, runs-on-past}
use Rattle.lanes.proofs.runs_on.Goals as goal

pub loop-i-init : goal.loop-i-init
loop-i-init c = unmet-none _ _

pub returns-then-word-t : goal.returns-then-word-t
unfolding instant_at
returns-then-word-t c =
    runs-on-past c.requires.2 c.requires.1 c.args.k c.loop-i.i (search rules) c.loop-i-test.true
    (λ q. c.if-word-t.true (c.word.ensures.0 ∙ q ∙ sym c.word-t.ensures.0)) c.loop-i.invariant

pub returns-then-starts-byte : goal.returns-then-starts-byte
unfolding instant_at starts
returns-then-starts-byte c =
    sym (runs-on-here _ c.args.k c.loop-i.i c.loop-i-test.true (record {
      after = search rules;
      start = rw (c.starts.ensures, c.byte.ensures.0, c.byte-v.ensures.0) at c.if-starts-byte.true;
      same = sym c.word.ensures.0 ∙ c.if-word-t.false ∙ c.word-t.ensures.0;
    }))

pub loop-i-preserved : goal.loop-i-preserved
loop-i-preserved c =
    unmet-more _ c.args.k c.loop-i.i c.loop-i.invariant
    (rw (c.starts.ensures, c.byte.ensures.0, c.byte-v.ensures.0) at c.if-starts-byte.false)

pub returns : goal.returns
returns c =
    let e : c.loop-i.i ≡ length c.args.log.now / 8 = omega arith in
    runs-on-not _ _ (rw e at c.loop-i.invariant)
