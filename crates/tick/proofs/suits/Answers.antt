use mathlib.Core.Path.{◌≡◌, ap, ap₂, ◌∙◌, fun_ext}
use mathlib.Core.Bool.{Bool, true, not, ◌&&◌}
use Prim.Native.Nat.{ℕ}
use lib.ListN.{length}
use Rattle.model.specs.Places.{any}
use Rattle.graph.specs.Model.{as_model}
use Rattle.vset.specs.Members.{is_in}
use Rattle.choice.specs.Choice.{fair_by}
use Rattle.choice.proofs.ByKind.{fair_by_words}
use Rattle.ready.specs.Ready.{some_left, is_behind}
use Rattle.tick.specs.Run.{left_of}
use Rattle.tick.specs.Suits.{numbers_right}
use Rattle.tick.proofs.Suiting.{numbers_tested, standing, all_tested}
use borrow.Author.Rules.{rules}
use Rattle.tick.proofs.suits.Goals as goal
use Rattle.tick.proofs.suits.Goals.{Start}

long-waiting : (s : Start) → length s.args.run.waiting ≡ 128
long-waiting s = search rules

pub fair-fair-requires : goal.fair-fair-requires
fair-fair-requires c =
    rw c.requires.1.kinds_are c.requires.1.accepted.few_kinds

pub returns : goal.returns
unfolding left_of
returns c g L =
    let A = L.accepted in
    let r = c.args.run in
    let able = is_in c.minus-able.result in
    let right : c.agree-numbers.result ≡ numbers_right g r = c.agree-numbers.ensures ∙ numbers_tested g r A (is_in c.busy-busy.result) c.busy-busy.ensures.are c.held-behind.result c.held-behind.ensures (long-waiting (goal.at.returns c).Start) _ L.rows_are in
    let is-able : numbers_right g r ≡ true → (v : ℕ) → able v ≡ some_left r.left v && not (is_behind (as_model g) (some_left r.left) v) = λ ok v.
    c.minus-able.ensures.are v
    ∙ ap₂ (λ (x y : Bool). x && not y) (c.busy-busy.ensures.are v) (standing g r A (is_in c.busy-busy.result) c.busy-busy.ensures.are c.held-behind.result c.held-behind.ensures (long-waiting (goal.at.returns c).Start) ok v) in
    let none : c.is_empty-marked.result ≡ not (any (λ v. is_in r.ran v && not (able v)) 128) =
    c.is_empty-marked.ensures ∙ ap (λ (p : ℕ → Bool). not (any p 128)) (fun_ext c.minus.ensures.are) in
    let words = c.args.words.now in
    let few = ◌∙◌ {b = fair_by g.kinds g.cores words (is_in r.ran)} (rw (L.kinds_are, L.cores_are) at c.fair-fair.ensures) (fair_by_words g A words L.words_are (is_in r.ran)) in
    rw (c.within-within.ensures, c.in_time-timely.ensures, c.total.ensures, none, few, L.n_is, L.wcet_is) (all_tested g r A able c.agree-numbers.result right is-able)
