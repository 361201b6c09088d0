use mathlib.Core.Path.{◌≡◌, refl, sym, ap, ap₂, ◌∙◌, fun_ext}
use mathlib.Core.Bool.{Bool, false, ◌||◌, or_assoc, or-false}
use Prim.Native.Nat.{ℕ, ◌+◌}
use native.Mathlib.Omega.{arith}
use lib.ListN.{get_or}
use Rattle.model.specs.Places.{any}
use Rattle.model.proofs.Places.{any-more}
use Rattle.vset.specs.declared.Vset.{Vset}
use Rattle.vset.specs.Members.{is_in}
use Rattle.vset.proofs.Gather.{members_ext}
use Rattle.vset.proofs.Words.{itself}
use Rattle.choice.specs.Choice.{set_at_of, go_on, starts, chosen_by}
use Rattle.choice.proofs.chosen.Goals as goal

pub loop-k-init : goal.loop-k-init
unfolding any
loop-k-init c =
    let s = c.both-stay in
    members_ext s.result _ (λ v. is_in s.result v || false) (itself s.result s.ensures.low s.ensures.high (is_in s.result) (λ v. refl)) (λ v. sym (or-false (is_in s.result v)))

pub started-requires : goal.started-requires
unfolding go_on
started-requires c =
    let l = c.loop-k in
    rw (c.set_at.ensures, fun_ext c.both-stay.ensures.are) (c.requires.by_index l.k c.loop-k-test.true)

pub loop-k-preserved : goal.loop-k-preserved
loop-k-preserved c =
    let l = c.loop-k in
    let t = c.started in
    let stay = c.both-stay.result in
    let free = c.minus-free.result in
    let p : ℕ → ℕ → Bool = λ v j. starts (is_in stay) (is_in free) (is_in (set_at_of c.args.words.now j)) (get_or c.args.cores.now j 0) v in members_ext c.either-got.result _ (λ v. is_in stay v || any (p v) (l.k + 1)) c.either-got.ensures (λ v.
    ap₂ ◌||◌ (l.invariant.are v) (t.ensures.are v ∙ ap (λ (m : Vset). starts (is_in stay) (is_in free) (is_in m) (get_or c.args.cores.now l.k 0) v) c.set_at.ensures)
    ∙ or_assoc (is_in stay v) (any (p v) l.k) (p v l.k) ∙ ap (λ (b : Bool). is_in stay v || b) (sym (any-more (p v) l.k)))

pub returns : goal.returns
unfolding chosen_by
returns c =
    let l = c.loop-k in
    let e : l.k ≡ c.args.kinds = omega arith in
    let words = c.args.words.now in
    let cores = c.args.cores.now in
    members_ext l.got _ (chosen_by c.args.kinds cores words (is_in c.args.able) (is_in c.args.ran)) l.invariant (λ v.
    ap (λ (k : ℕ). is_in c.both-stay.result v || any (λ j. starts (is_in c.both-stay.result) (is_in c.minus-free.result) (is_in (set_at_of words j)) (get_or cores j 0) v) k) e
    ∙ ap₂ (λ (stay free : ℕ → Bool). stay v || any (λ j. starts stay free (is_in (set_at_of words j)) (get_or cores j 0) v) c.args.kinds) (fun_ext c.both-stay.ensures.are) (fun_ext c.minus-free.ensures.are))
