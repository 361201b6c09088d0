-- How many vertices of a kind run: a start makes it one more, a stop one fewer.
use mathlib.Core.Path.{◌≡◌, refl, sym, ap, ◌∙◌}
use mathlib.Core.Logic.{◌⊎◌, inl, inr, ◌≢◌}
use mathlib.Core.Bool.{Bool, true, false, ◌&&◌}
use mathlib.Core.List.{List}
use Prim.Native.Nat.{ℕ, suc, ◌+◌, ◌-◌, ◌*◌, ◌≤◌, ◌<◌}
use native.Mathlib.Numerals.{add-one}
use native.Mathlib.Omega.{arith}
use native.Mathlib.Decide.{ℕ_discrete}
use lib.ListN.{length, get_or, set, replicate, length-set, length-replicate}
use lib.Seq.{get_or-set_same, get_or-set_other}
use lib.Dec.{eqb}
use borrow.Author.Tests.{eq-eqb, ne_eqb}
use Rattle.model.specs.Places.{bit}
use Rattle.model.proofs.Bools.{not-true, bit-one, bit-zero}
use Rattle.model.proofs.Places.{count_ext, count_none, count-le, count-put}
use Rattle.graph.specs.File.{records}
use Rattle.recorded.specs.Log.{is_start, is_stop, who, running, InForm}
use Rattle.frames.specs.Frames.{used_by, Used}
use Rattle.recorded.proofs.Records.{fine-at, not-both}
use Rattle.recorded.proofs.Prefix.{running_none}
use Rattle.formed.proofs.Passing.{other, own}
use Rattle.model.proofs.Tables.{zeros}

pub used-none : (kind : List ℕ) (n : ℕ) (l : List ℕ) → Used kind n l 0 (replicate 10 0)
unfolding used_by
used-none kind n l = record {
  size = length-replicate {A = ℕ} 10 0;
  at = λ s h. zeros 10 s ∙ sym (count_none (λ u. running l 0 u && eqb (get_or kind u 0) s) n (λ u b. ap (λ (x : Bool). x && eqb (get_or kind u 0) s) (running_none l u)));
}

pub used-few : (kind : List ℕ) (n : ℕ) (l : List ℕ) (k s : ℕ) → used_by kind n l k s ≤ n
unfolding used_by
used-few kind n l k s = count-le (λ u. running l k u && eqb (get_or kind u 0) s) n

module _ (kind : List ℕ) {n : ℕ} {l : List ℕ} (f : InForm n l) (few : n ≤ 128) (k : ℕ) (h : k < records l) where
  abbrev s : ℕ
  s = get_or kind (who l k) 0

  others : (u : ℕ) → u ≢ who l k → (i : ℕ) → running l (suc k) u && eqb (get_or kind u 0) i ≡ running l k u && eqb (get_or kind u 0) i
  others u x i = rw (other (fine-at f k h) u x) refl

  pub used_start : is_start l k ≡ true → used_by kind n l (suc k) s ≡ used_by kind n l k s + 1
  unfolding used_by
  used_start e =
      count-put (λ u. running l k u && eqb (get_or kind u 0) s) (λ u. running l (suc k) u && eqb (get_or kind u 0) s) (who l k) n (fine-at f k h).vertex
      (λ u b x. sym (others u x s)) (rw ((fine-at f k h).start e) refl) (rw (own (fine-at f k h), e) (eq-eqb s s refl))

  pub used-stop : is_stop l k ≡ true → used_by kind n l k s ≡ used_by kind n l (suc k) s + 1
  unfolding used_by
  used-stop e =
      let r : running l k (who l k) ≡ true = (fine-at f k h).stop e in
      let x : is_start l k ≡ false = not-true (is_start l k) (λ y. not-both l k y e) in
      count-put (λ u. running l (suc k) u && eqb (get_or kind u 0) s) (λ u. running l k u && eqb (get_or kind u 0) s) (who l k) n (fine-at f k h).vertex
      (λ u b x. others u x s) (rw (own (fine-at f k h), x) refl) (rw r (eq-eqb s s refl))

  pub used_other : (i : ℕ) → i ≢ s → used_by kind n l (suc k) i ≡ used_by kind n l k i
  unfolding used_by
  used_other i x = count_ext (λ u. running l (suc k) u && eqb (get_or kind u 0) i) (λ u. running l k u && eqb (get_or kind u 0) i) n (λ u b. at u (ℕ_discrete u (who l k)))
    where
      none : (b : Bool) → b && false ≡ false
      none true = refl
      none false = refl

      at : (u : ℕ) → Dec (u ≡ who l k) → running l (suc k) u && eqb (get_or kind u 0) i ≡ running l k u && eqb (get_or kind u 0) i
      at u (yes q) = rw (q, ne_eqb s i (λ y. x (sym y)), none (running l (suc k) (who l k)), none (running l k (who l k))) refl
      at u (no q) = others u q i

  -- the number after the record, from the one before it
  pub used-is : used_by kind n l k s + 2 * bit (is_start l k) - 1 ≡ used_by kind n l (suc k) s
  used-is = go (fine-at f k h).known
    where
      go : (is_start l k ≡ true) ⊎ (is_stop l k ≡ true) → used_by kind n l k s + 2 * bit (is_start l k) - 1 ≡ used_by kind n l (suc k) s
      go (inl e) = omega (arith, used_start e, bit-one (is_start l k) e)
      go (inr e) = omega (arith, used-stop e, bit-zero (is_start l k) (not-true (is_start l k) (λ y. not-both l k y e)))

  pub used-some : 1 ≤ used_by kind n l k s + 2 * bit (is_start l k)
  used-some = go (fine-at f k h).known
    where
      go : (is_start l k ≡ true) ⊎ (is_stop l k ≡ true) → 1 ≤ used_by kind n l k s + 2 * bit (is_start l k)
      go (inl e) = omega (arith, bit-one (is_start l k) e)
      go (inr e) = omega (arith, used-stop e)

  pub used-next : ((v : ℕ) → v < n → get_or kind v 0 < 10) → (used : List ℕ) → Used kind n l k used
      → Used kind n l (k + 1) (set used s (get_or used s 0 + 2 * bit (is_start l k) - 1))
  used-next known used u = rw (add-one k) (record { size = length-set used s _ ∙ u.size; at = λ i b. at i b (ℕ_discrete i s) })
    where
      inside : s < length used
      inside = omega (arith, known (who l k) (fine-at f k h).vertex, u.size)

      at : (i : ℕ) → i < 10 → Dec (i ≡ s) → get_or (set used s (get_or used s 0 + 2 * bit (is_start l k) - 1)) i 0 ≡ used_by kind n l (suc k) i
      at i b (yes q) =
          rw (q, get_or-set_same used s (get_or used s 0 + 2 * bit (is_start l k) - 1) 0 inside)
          (ap (λ (x : ℕ). x + 2 * bit (is_start l k) - 1) (u.at s (known (who l k) (fine-at f k h).vertex)) ∙ used-is)
      at i b (no q) = get_or-set_other used s i _ 0 q ∙ (u.at i b ∙ sym (used_other i q))
