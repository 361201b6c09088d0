use mathlib.Core.Path.{◌≡◌, refl, sym}
use mathlib.Core.Bool.{true, false, not, ◌&&◌, ◌||◌, or-false, and-true}
use native.Mathlib.Omega.{arith}
use borrow.Author.Tests.{eq-eqb, ne_eqb}
use lib.Dec.{eqb}
use lib.ListN.{get_or}
use Rattle.vset.specs.Members.{is_in}
use Rattle.vset.proofs.Gather.{members_ext}
use Rattle.vset.proofs.Words.{itself}
use Rattle.waiting.proofs.release.Goals as goal

pub returns-then-rest-gt0 : goal.returns-then-rest-gt0
returns-then-rest-gt0 c =
    let a = c.args in
    let w = a.waiting.now in
    let off : eqb (get_or w a.v 0) 1 ≡ false = ne_eqb (get_or w a.v 0) 1 (λ e. omega (arith, c.if-rest-gt0.true)) in
    record {
      less = refl;
      behind = members_ext a.s.behind (is_in a.s.behind) (λ k. is_in a.s.behind k && not (eqb (get_or w a.v 0) 1 && eqb k a.v)) (itself a.s.behind (omega arith) (omega arith) (is_in a.s.behind) (λ k. refl)) (λ k. rw off (sym (and-true (is_in a.s.behind k))));
      done = members_ext a.s.done (is_in a.s.done) (λ k. is_in a.s.done k || ((eqb (get_or w a.v 0) 1 && not (is_in a.busy a.v)) && eqb k a.v)) (itself a.s.done (omega arith) (omega arith) (is_in a.s.done) (λ k. refl)) (λ k. rw off (sym (or-false (is_in a.s.done k))));
    }

pub returns : goal.returns
returns c =
    let a = c.args in
    let w = a.waiting.now in
    let on : eqb (get_or w a.v 0) 1 ≡ true = eq-eqb (get_or w a.v 0) 1 (omega (arith, c.if-rest-gt0.false, c.requires.1)) in
    record {
      less = refl;
      behind = members_ext c.without.result _ (λ k. is_in a.s.behind k && not (eqb (get_or w a.v 0) 1 && eqb k a.v)) c.without.ensures (λ k. rw on refl);
      done = members_ext c.with_if.result _ (λ k. is_in a.s.done k || ((eqb (get_or w a.v 0) 1 && not (is_in a.busy a.v)) && eqb k a.v)) c.with_if.ensures (λ k. rw (on, c.test.ensures) refl);
    }
