-- The words of the kinds, as the vertices join them one by one.
use mathlib.Core.Path.{◌≡◌, refl, sym, ap, ap₂, ◌∙◌}
use mathlib.Core.List.{List}
use mathlib.Core.Bool.{Bool, false, ◌&&◌, ◌||◌, or-false}
use Prim.Native.Nat.{ℕ, ◌+◌, ◌*◌, ◌/◌, ◌%◌, ◌<◌, zero-le}
use native.Mathlib.Omega.{arith}
use native.Mathlib.Decide.{ℕ_discrete}
use lib.Dec.{eqb, ltb, lit<}
use lib.ListN.{get_or, length, set, replicate, length-set, get_or-replicate}
use lib.Seq.{ext_get_or, get_or-set_same, get_or-set_other}
use borrow.Author.Tests.{le-ltb, eq-eqb, ne_eqb}
use Rattle.vset.specs.declared.Vset.{Vset}
use Rattle.vset.specs.Members.{num, is_in, Members}
use Rattle.vset.proofs.Digits.{has-zero}
use Rattle.vset.proofs.Gather.{members_ext}
use Rattle.vset.proofs.Same.{same_set}
use Rattle.choice.specs.Choice.{set_at_of, OfKinds, Joined}

-- zeros hold no vertex
pub no-kinds : (l : List ℕ) (k : ℕ) → k < 10 → Members (set_at_of (replicate 20 0) k) (λ u. ltb u 0 && eqb (get_or l u 0) k)
unfolding set_at_of is_in num
no-kinds l k h =
    rw (zero-at (2 * k) (omega arith), zero-at (2 * k + 1) (omega arith))
    (record { low = lit< tt; high = lit< tt; are = λ u. has-zero u ∙ sym (ap (λ (b : Bool). b && eqb (get_or l u 0) k) (le-ltb u 0 zero-le)) })
  where
    zero-at : (i : ℕ) → i < 20 → ◌≡◌ {A = ℕ} (get_or (replicate 20 0) i 0) 0
    zero-at i h = get_or-replicate 20 i 0 0 h

-- the two words of a set, stored
module _ (old : List ℕ) (k v : ℕ) (more : Vset) (long : length old ≡ 20) (few : k < 10) where
  abbrev half : List ℕ
  half = set old (2 * k) more.lo

  abbrev new : List ℕ
  new = set half (2 * k + 1) more.hi

  half-long : length half ≡ 20
  half-long = length-set old (2 * k) more.lo ∙ long

  here : set_at_of new k ≡ more
  unfolding set_at_of
  here =
      ap₂ {C = Vset} (λ (x y : ℕ). record { lo = x; hi = y })
      (get_or-set_other half (2 * k + 1) (2 * k) more.hi 0 (λ e. omega arith) ∙ get_or-set_same old (2 * k) more.lo 0 (omega arith))
      (get_or-set_same half (2 * k + 1) more.hi 0 (omega (arith, half-long)))

  other : (j : ℕ) → (j ≡ k → ⊥) → set_at_of new j ≡ set_at_of old j
  unfolding set_at_of
  other j q =
      ap₂ {C = Vset} (λ (x y : ℕ). record { lo = x; hi = y })
      (get_or-set_other half (2 * k + 1) (2 * j) more.hi 0 (λ e. omega arith) ∙ get_or-set_other old (2 * k) (2 * j) more.lo 0 (λ e. q (omega arith)))
      (get_or-set_other half (2 * k + 1) (2 * j + 1) more.hi 0 (λ e. q (omega arith)) ∙ get_or-set_other old (2 * k) (2 * j + 1) more.lo 0 (λ e. omega arith))

  pub joined : Members more (λ u. is_in (set_at_of old k) u || eqb u v) → Joined old k v new
  joined m = record { long = length-set half (2 * k + 1) more.hi ∙ half-long; each = λ j h w. go j w (ℕ_discrete j k) }
    where
      go : (j : ℕ) → Members (set_at_of old j) (is_in (set_at_of old j)) → Dec (j ≡ k) → Members (set_at_of new j) (λ u. is_in (set_at_of old j) u || (eqb k j && eqb u v))
      go j w (yes e) = rw (e, here, eq-eqb k k refl) m
      go j w (no e) = rw (other j e, ne_eqb k j (λ q. e (sym q))) (members_ext (set_at_of old j) (is_in (set_at_of old j)) (λ u. is_in (set_at_of old j) u || false) w (λ u. sym (or-false (is_in (set_at_of old j) u))))

-- the sets say which words they are
pub same-words : (a b l : List ℕ) (n : ℕ) → OfKinds a l n → OfKinds b l n → a ≡ b
unfolding set_at_of
same-words a b l n p q = ext_get_or 0 a b (p.long ∙ sym q.long) (λ i h. go i (omega (arith, p.long)) (ℕ_discrete (i % 2) 0))
  where
    go : (i : ℕ) → i / 2 < 10 → Dec (i % 2 ≡ 0) → get_or a i 0 ≡ get_or b i 0
    go i h (yes e) =
        let z : i ≡ 2 * (i / 2) = omega arith in
        rw z (ap (λ (s : Vset). s.lo) (same_set (set_at_of a (i / 2)) (set_at_of b (i / 2)) _ (p.each (i / 2) h) (q.each (i / 2) h)))
    go i h (no e) =
        let z : i ≡ 2 * (i / 2) + 1 = omega arith in
        rw z (ap (λ (s : Vset). s.hi) (same_set (set_at_of a (i / 2)) (set_at_of b (i / 2)) _ (p.each (i / 2) h) (q.each (i / 2) h)))
