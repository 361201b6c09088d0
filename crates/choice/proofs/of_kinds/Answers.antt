use mathlib.Core.Path.{◌≡◌, refl}
use native.Mathlib.Omega.{arith}
use lib.Dec.{eqb}
use lib.ListN.{get_or}
use Rattle.vset.specs.Members.{is_in}
use Rattle.vset.proofs.Gather.{gather-more}
use Rattle.vset.proofs.Words.{itself}
use Rattle.choice.specs.Choice.{set_at_of, of_kind_of}
use Rattle.choice.proofs.OfKinds.{no-kinds}
use Rattle.choice.proofs.of_kinds.Goals as goal

pub loop-v-init : goal.loop-v-init
loop-v-init c = (refl, no-kinds c.args.kind.now)

pub join-requires : goal.join-requires
join-requires c =
    let l = c.loop-v in
    record { words_len = l.invariant.0; kind_bound = (c.requires.by_index l.v c.loop-v-test.true, omega arith) }

pub loop-v-preserved : goal.loop-v-preserved
loop-v-preserved c =
    let l = c.loop-v in
    let kind = c.args.kind.now in
    let j = c.join.ensures in (
      j.long,
      λ k h.
          let m = l.invariant.1 k h in
          gather-more (set_at_of l.words k) (set_at_of c.join.new.words k) (λ u. eqb (get_or kind u 0) k) l.v m (j.each k h (itself (set_at_of l.words k) m.low m.high (is_in (set_at_of l.words k)) (λ u. refl))),
    )

pub returns : goal.returns
unfolding of_kind_of
returns c =
    let l = c.loop-v in
    let n = c.args.n in
    let e : l.v ≡ n = omega arith in
    record { long = l.invariant.0; each = λ k h. rw (← e) (l.invariant.1 k h) }
