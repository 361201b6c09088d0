use mathlib.Core.Path.{◌≡◌, refl, sym, ◌∙◌}
use mathlib.Core.Bool.{true, false}
use native.Mathlib.Omega.{arith}
use borrow.Author.Tests.{lt-ltb, le-ltb}
use Rattle.graph.specs.File.{records}
use Rattle.graph.specs.Rules.{rule1}
use Rattle.graph.proofs.Judging.{short}
use Rattle.mends.specs.Answers.{judge_mend}
use Rattle.mend.proofs.judge.judge.Goals as goal

pub returns-then-wrong_length : goal.returns-then-wrong_length
unfolding judge_mend
returns-then-wrong_length c =
    let h : rule1 c.args.file.now ≡ true = sym c.wrong_length.ensures ∙ c.if-wrong_length.true in
    rw (c.whole.ensures, h) refl

pub refused-requires : goal.refused-requires
refused-requires c =
    let F = rw c.in-Some.is at c.first_unknown.ensures in
    omega (arith, F.1, short c.args.file.now (sym c.wrong_length.ensures ∙ c.if-wrong_length.false))

pub returns-in-Some : goal.returns-in-Some
unfolding judge_mend
returns-in-Some c =
    let s = c.args.file.now in
    let h : rule1 s ≡ false = sym c.wrong_length.ensures ∙ c.if-wrong_length.false in
    let F = rw c.in-Some.is at c.first_unknown.ensures in
    c.refused.ensures ∙ rw (h, F.0, lt-ltb c.in-Some.k (records s) F.1) refl

pub refused-requires-in-Some-first_late : goal.refused-requires-in-Some-first_late
refused-requires-in-Some-first_late c =
    let F = rw c.in-Some-first_late.is at c.first_late.ensures in
    omega (arith, F.1, short c.args.file.now (sym c.wrong_length.ensures ∙ c.if-wrong_length.false))

pub returns-in-Some-first_late : goal.returns-in-Some-first_late
unfolding judge_mend
returns-in-Some-first_late c =
    let s = c.args.file.now in
    let h : rule1 s ≡ false = sym c.wrong_length.ensures ∙ c.if-wrong_length.false in
    let N = rw c.in_default.is at c.first_unknown.ensures in
    let F = rw c.in-Some-first_late.is at c.first_late.ensures in
    c.refused-in-Some-first_late.ensures ∙ rw (h, N, le-ltb (records s) (records s) (omega arith), F.0, lt-ltb c.in-Some-first_late.k (records s) F.1) refl

pub returns : goal.returns
unfolding judge_mend
returns c =
    let s = c.args.file.now in
    let h : rule1 s ≡ false = sym c.wrong_length.ensures ∙ c.if-wrong_length.false in
    let N = rw c.in_default.is at c.first_unknown.ensures in
    let F = rw c.in_default-first_late.is at c.first_late.ensures in
    rw (h, N, le-ltb (records s) (records s) (omega arith), F, le-ltb (records s) (records s) (omega arith)) refl
