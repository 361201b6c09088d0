use mathlib.Core.Path.{sym, ap, ap₂, ◌≡◌, ◌∙◌}
use mathlib.Core.Bool.{Bool, ◌&&◌}
use Prim.Native.Nat.{ℕ}
use native.Mathlib.Omega.{arith}
use lib.Dec.{leb}
use lib.ListN.{get_or}
use Rattle.model.specs.Places.{count}
use Rattle.vset.specs.declared.Vset.{Vset}
use Rattle.vset.specs.Members.{is_in}
use Rattle.choice.specs.Choice.{set_at_of, fair_by}
use Rattle.model.proofs.Turns.{every-none, every_more}
use Rattle.choice.proofs.fair.Goals as goal

pub loop-k-init : goal.loop-k-init
unfolding fair_by
loop-k-init c = sym (every-none _)

pub loop-k-preserved : goal.loop-k-preserved
unfolding fair_by
loop-k-preserved c =
    let l = c.loop-k in
    let test : ℕ → Bool = λ k. leb (count (λ v. is_in c.args.ran v && is_in (set_at_of c.args.words.now k) v) 128) (get_or c.args.cores.now k 0) in ap₂ ◌&&◌ l.invariant (c.few_marked-ok.ensures ∙ ap (λ (m : Vset). leb (count (λ v. is_in c.args.ran v && is_in m v) 128) (get_or c.args.cores.now l.k 0)) c.set_at.ensures)
    ∙ sym (every_more test l.k)

pub returns : goal.returns
returns c =
    let l = c.loop-k in
    let e : l.k ≡ c.args.kinds = omega arith in
    l.invariant ∙ ap (λ (k : ℕ). fair_by k c.args.cores.now c.args.words.now (is_in c.args.ran)) e
