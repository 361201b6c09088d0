use mathlib.Core.Path.{◌≡◌, refl, ap, ap₂, ◌∙◌, fun_ext}
use mathlib.Core.Bool.{Bool, false, ◌&&◌}
use Prim.Native.Nat.{ℕ, ◌-◌}
use lib.Dec.{ltb}
use Rattle.model.specs.Places.{count}
use Rattle.vset.specs.Members.{is_in}
use Rattle.vset.proofs.Gather.{members_ext}
use Rattle.vset.proofs.Taking.{none_in}
use Rattle.choice.specs.Choice.{starts}
use Rattle.choice.proofs.started.Goals as goal

pub returns-then-is_empty : goal.returns-then-is_empty
unfolding starts
returns-then-is_empty c =
    let a = c.args in
    let m = c.both-mine in
    let none : (v : ℕ) → is_in a.free v && is_in a.mask v ≡ false = none_in m.result _ m.ensures c.is_empty.result c.is_empty.ensures c.if-is_empty.true in
    members_ext m.result (λ v. is_in a.free v && is_in a.mask v) (starts (is_in a.stay) (is_in a.free) (is_in a.mask) a.m) m.ensures (λ v. rw (none v) refl)

pub overflow_sub-m : goal.overflow_sub-m
overflow_sub-m c =
    let a = c.args in
    rw (c.size-taken.ensures, fun_ext c.both.ensures.are) c.requires

pub returns : goal.returns
unfolding starts
returns c =
    let a = c.args in
    let m = c.both-mine in
    let e : is_in m.result ≡ (λ v. is_in a.free v && is_in a.mask v) = fun_ext m.ensures.are in
    let n : c.size-taken.result ≡ count (λ u. is_in a.stay u && is_in a.mask u) 128 = c.size-taken.ensures ∙ ap (λ (p : ℕ → Bool). count p 128) (fun_ext c.both.ensures.are) in
    members_ext c.first.result (λ v. is_in m.result v && ltb (count (is_in m.result) v) (a.m - c.size-taken.result)) (starts (is_in a.stay) (is_in a.free) (is_in a.mask) a.m) c.first.ensures
    (λ v. ap₂ (λ (p : ℕ → Bool) (x : ℕ). p v && ltb (count p v) (a.m - x)) e n)
