-- A set that a loop gathers, place by place: after v turns it holds the places below v that pass the test.
use mathlib.Core.Path.{◌≡◌, sym, ap, ap₂, ◌∙◌}
use mathlib.Core.Logic.{⊎_elim}
use mathlib.Core.Bool.{Bool, true, false, ◌&&◌, ◌||◌, or-false, and-true, and-false}
use Prim.Native.Nat.{ℕ, ◌+◌, ◌≤◌, ◌<◌, zero-le}
use native.Mathlib.Omega.{arith}
use lib.Dec.{ltb, eqb}
use borrow.Author.Tests.{lt-ltb, le-ltb, eqb-true, eqb-false}
use Rattle.model.proofs.Bools.{cases, le-or-lt}
use Rattle.vset.specs.declared.Vset.{Vset}
use Rattle.vset.specs.Members.{is_in, Members}

-- the same members by another test
pub members_ext : (s : Vset) (p q : ℕ → Bool) → Members s p → ((k : ℕ) → p k ≡ q k) → Members s q
members_ext s p q m e = record { low = m.low; high = m.high; are = λ k. m.are k ∙ e k }

-- a place below v + 1 is below v or is v
pub below_next : (k v : ℕ) → eqb k v ≡ false → ltb k v ≡ ltb k (v + 1)
below_next k v q =
    let ne = eqb-false k v q in
    ⊎_elim
    (λ (l : v ≤ k). le-ltb k v l ∙ sym (le-ltb k (v + 1) (omega arith)))
    (λ (l : k < v). lt-ltb k v l ∙ sym (lt-ltb k (v + 1) (omega arith)))
    (le-or-lt v k)

grow : (p : ℕ → Bool) (v k : ℕ) → (ltb k v && p k) || (p v && eqb k v) ≡ ltb k (v + 1) && p k
grow p v k =
    ⊎_elim
    (λ (q : eqb k v ≡ true).
    let e = eqb-true k v q in
    ap₂ (λ (x y : Bool). (x && p k) || (p v && y)) (le-ltb k v (omega arith)) q
    ∙ and-true (p v) ∙ ap p (sym e) ∙ sym (ap (λ (x : Bool). x && p k) (lt-ltb k (v + 1) (omega arith))))
    (λ (q : eqb k v ≡ false).
    ap (λ (x : Bool). (ltb k v && p k) || (p v && x)) q
    ∙ ap (λ (x : Bool). (ltb k v && p k) || x) (and-false (p v))
    ∙ or-false (ltb k v && p k)
    ∙ ap (λ (x : Bool). x && p k) (below_next k v q))
    (cases (eqb k v))

pub gather_none : (s : Vset) (p : ℕ → Bool) → Members s (λ k. false) → Members s (λ k. ltb k 0 && p k)
gather_none s p m = members_ext s (λ k. false) (λ k. ltb k 0 && p k) m (λ k. sym (ap (λ (x : Bool). x && p k) (le-ltb k 0 zero-le)))

pub gather-more : (s t : Vset) (p : ℕ → Bool) (v : ℕ) → Members s (λ k. ltb k v && p k) → Members t (λ k. is_in s k || (p v && eqb k v))
    → Members t (λ k. ltb k (v + 1) && p k)
gather-more s t p v m h =
    members_ext t (λ k. is_in s k || (p v && eqb k v)) (λ k. ltb k (v + 1) && p k) h
    (λ k. ap (λ (x : Bool). x || (p v && eqb k v)) (m.are k) ∙ grow p v k)

pub gather-all : (s : Vset) (p : ℕ → Bool) (n : ℕ) → Members s (λ k. ltb k n && p k) → ((k : ℕ) → n ≤ k → p k ≡ false) → Members s p
gather-all s p n m past =
    members_ext s (λ k. ltb k n && p k) p m
    (λ k. ⊎_elim (λ (l : n ≤ k). ap (λ (x : Bool). ltb k n && x) (past k l) ∙ and-false (ltb k n) ∙ sym (past k l)) (λ (l : k < n). ap (λ (x : Bool). x && p k) (lt-ltb k n l)) (le-or-lt n k))
