use mathlib.Core.Path.{◌≡◌, sym, ap, ◌∙◌}
use mathlib.Core.Bool.{Bool, true, false, not, ◌&&◌, ◌||◌}
use Prim.Native.Nat.{ℕ, ◌≤◌, ◌<◌}
use native.Mathlib.Omega.{arith}
use lib.Dec.{eqb}
use Rattle.model.specs.Places.{any}
use Rattle.model.proofs.Places.{any_false, first_below}
use Rattle.vset.specs.Members.{is_in}
use Rattle.vset.proofs.Words.{past-none}
use Rattle.vset.proofs.Gather.{members_ext}
use Rattle.vset.proofs.Taking.{twice, lowest_in}
use Rattle.vset.proofs.Rank.{firsts, lasts, firsts_none, lasts-all, rank-le, rank-of-least, firsts_step, lasts-step, firsts_enough}
use Rattle.vset.proofs.first.Goals as goal
use Rattle.vset.proofs.first.Goals.{After-lowest-t}

pub loop-j-init : goal.loop-j-init
loop-j-init c =
    let s = c.args.s in
    let m = c.none-got.ensures in
    (record { low = m.low; high = m.high; are = λ k. m.are k ∙ firsts_none (is_in s) k }, λ k. lasts-all (is_in s) k)

-- in a turn one is left, so the lowest is one
found : (c : After-lowest-t) → (c.lowest-t.result < 128) × (is_in c.loop-j.rest c.lowest-t.result ≡ true)
found c =
    lowest_in (is_in c.loop-j.rest) c.lowest-t.result c.is_empty.result c.lowest-t.ensures c.is_empty.ensures (ap not c.if-is_empty.false)

pub with-got-requires : goal.with-got-requires
with-got-requires c = (found (goal.at.with-got-requires c).After-lowest-t).0

pub without-rest-requires : goal.without-rest-requires
without-rest-requires c = (found (goal.at.without-rest-requires c).After-lowest-t).0

-- none is left, so that any more than j would give the same
pub returns-then-is_empty : goal.returns-then-is_empty
returns-then-is_empty c =
    let l = c.loop-j in
    let s = c.args.s in
    let n = c.args.n in
    let p : ℕ → Bool = is_in s in
    let none : any (is_in l.rest) 128 ≡ false = sym (twice (any (is_in l.rest) 128)) ∙ ap not (sym c.is_empty.ensures ∙ c.if-is_empty.true) in
    let out : (i : ℕ) → 128 ≤ i → p i ≡ false = λ i g. past-none s (omega arith) (omega arith) i g in
    let few = rank-le p l.j 128 (λ i g. sym (l.invariant.1 i) ∙ any_false (is_in l.rest) 128 i g none) in
    members_ext l.got (firsts p l.j) (firsts p n) l.invariant.0 (λ k. sym (firsts_enough p l.j k out few) ∙ firsts_enough p n k out (omega (arith, few)))

pub loop-j-preserved : goal.loop-j-preserved
loop-j-preserved c =
    let l = c.loop-j in
    let p : ℕ → Bool = is_in c.args.s in
    let o = (goal.at.loop-j-preserved c).After-lowest-t in
    let t = o.lowest-t.result in
    let here : lasts p l.j t ≡ true = sym (l.invariant.1 t) ∙ (found o).1 in
    let none : (k : ℕ) → k < t → lasts p l.j k ≡ false = λ k h. sym (l.invariant.1 k) ∙ first_below (is_in l.rest) 128 k (rw (← o.lowest-t.ensures) h) in
    let h = rank-of-least p l.j t here none in
    let w = c.with-got.ensures in (
      record { low = w.low; high = w.high; are = λ k. w.are k ∙ ap (λ (x : Bool). x || eqb k t) (l.invariant.0.are k) ∙ firsts_step p t l.j h.0 h.1 k },
      λ k. c.without-rest.ensures.are k ∙ ap (λ (x : Bool). x && not (eqb k t)) (l.invariant.1 k) ∙ lasts-step p t l.j h.0 h.1 k,
    )

pub returns : goal.returns
returns c =
    let l = c.loop-j in
    let e : l.j ≡ c.args.n = omega arith in
    rw (← e) l.invariant.0
