use native.Mathlib.Omega.{arith}
use mathlib.Core.Path.{◌≡◌, refl, sym, ap, ◌∙◌}
use mathlib.Core.Bool.{Bool, true, false}
use Prim.Native.Nat.{ℕ, ◌≤◌}
use lib.Dec.{ltb}
use lib.ListN.{length}
use borrow.Author.Tests.{eq-eqb, ne_eqb}
use Rattle.std.specs.Prelude.{Option, Some, None}
use Rattle.model.specs.Places.{pick, first}
use Rattle.model.proofs.Places.{first-le}
use Rattle.graph.specs.Answer.{Answer}
use Rattle.graph.specs.Answer.{Accepted, Refused}
use Rattle.times.specs.Times.{too_long_of, judge_times}
use Rattle.times.proofs.judge.Goals as goal

-- what is said of the first vertex, and its number
said : Option ℕ → Answer
said (Some v) = Refused (record { number = 14; place = v })
said None = Accepted

said-first : (b : Bool) (f : ℕ) → said (pick b (Some f) None) ≡ pick b (Refused (record { number = 14; place = f })) Accepted
unfolding said
said-first true f = refl
said-first false f = refl

number : Option ℕ → ℕ
number (Some v) = v
number None = 0

number-first : (b : Bool) (f : ℕ) → number (pick b (Some f) None) ≤ f
unfolding number
number-first true f = omega arith
number-first false f = omega arith

pub returns-then-times-n : goal.returns-then-times-n
unfolding judge_times
returns-then-times-n c g n_is w-is =
    rw (c.whole.ensures, ← n_is, ne_eqb (length c.args.times.now) c.args.n (λ e. omega (arith, e, c.if-times-n.true))) refl

pub first_too_long-requires : goal.first_too_long-requires
first_too_long-requires c = omega (arith, c.requires, c.if-times-n.false)

pub overflow_cast-result : goal.overflow_cast-result
unfolding number
overflow_cast-result c =
    let n = length c.args.times.now in
    let p = too_long_of c.args.wcet.now c.args.times.now in
    let f = first p n in
    let v : c.in-Some.v ≡ number (pick (ltb f n) (Some f) None) = ap number (sym c.in-Some.is ∙ c.first_too_long.ensures) in
    omega (arith, v, number-first (ltb f n) f, first-le p n, c.requires, c.if-times-n.false)

pub returns-in-Some : goal.returns-in-Some
unfolding judge_times said
returns-in-Some c g n_is w-is =
    let f = first (too_long_of c.args.wcet.now c.args.times.now) (length c.args.times.now) in
    rw (← n_is, ← w-is, eq-eqb _ _ c.if-times-n.false, ← c.if-times-n.false) (ap said (sym c.in-Some.is ∙ c.first_too_long.ensures) ∙ said-first (ltb f (length c.args.times.now)) f)

pub returns-in-None : goal.returns-in-None
unfolding judge_times said
returns-in-None c g n_is w-is =
    let f = first (too_long_of c.args.wcet.now c.args.times.now) (length c.args.times.now) in
    rw (← n_is, ← w-is, eq-eqb _ _ c.if-times-n.false, ← c.if-times-n.false) (ap said (sym c.in-None.is ∙ c.first_too_long.ensures) ∙ said-first (ltb f (length c.args.times.now)) f)
