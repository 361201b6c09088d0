-- Which number is the lowest, and what a number that does not apply tells.
use mathlib.Core.Path.{◌≡◌, refl, sym, ◌∙◌}
use mathlib.Core.Logic.{◌⊎◌, inl, inr}
use mathlib.Core.Bool.{Bool, true, false, not}
use mathlib.Core.List.{List}
use Prim.Native.Nat.{ℕ, zero, suc, ◌+◌, ◌-◌, ◌%◌, ◌≤◌, ◌<◌}
use native.Mathlib.Omega.{arith}
use lib.ListN.{length}
use lib.Dec.{eqb, ltb, lit<, lit≤}
use borrow.Author.Tests.{lt-ltb, le-ltb, ltb-true, ltb-false}
use Rattle.model.specs.Places.{pick, bit, first, count}
use Rattle.model.proofs.Bools.{clash, le-or-lt, or_neither}
use Rattle.model.proofs.Places.{first-at, first-none, first_below, first-here}
use Rattle.graph.specs.File.{records, byte_at, order, is_order, many}
use Rattle.graph.specs.Rules.{holds, per_record_of, places, rule1}
use Rattle.graph.specs.Judge.{place_of, applies, lowest, judge_from, Rightly}
use Rattle.graph.specs.declared.Refusal.{Refusal}
use Rattle.graph.specs.Answer.{Accepted, Refused}

-- a number that does not apply holds for no place
pub not-applies : (s : List ℕ) (num : ℕ) → applies s num ≡ false → (k : ℕ) → k < places s num → holds s num k ≡ false
unfolding applies place_of
not-applies s num h k l =
    first_below (holds s num) (places s num) k (omega (arith, l, ltb-false (first (holds s num) (places s num)) (places s num) h))

-- a number that is tested for place 0 alone
pub whole-place : (s : List ℕ) (num : ℕ) → per_record_of num ≡ false → holds s num 0 ≡ true → place_of s num ≡ 0
unfolding place_of places first
whole-place s num h e = rw (h, e) refl

pub whole-applies : (s : List ℕ) (num : ℕ) → per_record_of num ≡ false → holds s num 0 ≡ true → applies s num ≡ true
unfolding applies places
whole-applies s num h e = rw (whole-place s num h e, h) refl

pub whole-not : (s : List ℕ) (num : ℕ) → per_record_of num ≡ false → holds s num 0 ≡ false → applies s num ≡ false
unfolding applies place_of places first
whole-not s num h e = rw (h, e) refl

-- each record is of one kind at most, so the counts fit into the records
one-order : (s : List ℕ) (k : ℕ) → bit (is_order s 0 k) + bit (is_order s 1 k) + bit (is_order s 2 k) ≤ 1
unfolding is_order order
one-order s k = go (eqb (byte_at s k 0) 0x54) (eqb (byte_at s k 0) 0x56) (eqb (byte_at s k 0) 0x45)
  where
    r : Bool → Bool → Bool → ℕ
    r x y z = pick x 0 (pick y 1 (pick z 2 3))

    go : (x y z : Bool) → bit (eqb (r x y z) 0) + bit (eqb (r x y z) 1) + bit (eqb (r x y z) 2) ≤ 1
    go true y z = lit≤ tt
    go false true z = lit≤ tt
    go false false true = lit≤ tt
    go false false false = lit≤ tt

orders_below : (s : List ℕ) (n : ℕ) → count (is_order s 0) n + count (is_order s 1) n + count (is_order s 2) n ≤ n
unfolding count
orders_below s zero = lit≤ tt
orders_below s (suc n) = omega (arith, orders_below s n, one-order s n)

pub all_fit : (s : List ℕ) → many s 0 + many s 1 + many s 2 ≤ records s
unfolding many
all_fit s = orders_below s (records s)

module _ (s : List ℕ) (a : ℕ) where
  module _ (num : ℕ) (from : a ≤ num) (below : (j : ℕ) → j < num → a ≤ j → applies s j ≡ false) where
    -- the number at which a search stops
    pub lowest-at : num < 12 → applies s num ≡ true → lowest a s ≡ num
    unfolding lowest
    lowest-at l h =
        let d : a + (num - a) ≡ num = omega arith in
        let e : first (λ i. applies s (a + i)) (12 - a) ≡ num - a = first-at (λ i. applies s (a + i)) (12 - a) (num - a) (omega arith) (λ k q. below (a + k) (omega arith) (omega arith)) (rw d h) in
        rw (e, d)

    pub lowest-past : num ≡ 12 → lowest a s ≡ 12
    unfolding lowest
    lowest-past e =
        let d : a + (12 - a) ≡ 12 = omega arith in
        let f : first (λ i. applies s (a + i)) (12 - a) ≡ 12 - a = first-none (λ i. applies s (a + i)) (12 - a) (λ k q. below (a + k) (omega arith) (omega arith)) in
        rw (f, d)

  -- below the lowest number none applies, and it does itself, if it is one
  pub below-lowest : (j : ℕ) → a ≤ j → j < 12 → j < lowest a s → applies s j ≡ false
  unfolding lowest
  below-lowest j f l q =
      let d : a + (j - a) ≡ j = omega arith in
      rw d at (first_below (λ i. applies s (a + i)) (12 - a) (j - a) (omega arith))

  pub lowest-applies : lowest a s < 12 → applies s (lowest a s) ≡ true
  unfolding lowest
  lowest-applies h = first-here (λ i. applies s (a + i)) (12 - a) (omega arith)

  pub lowest-from : a ≤ lowest a s
  unfolding lowest
  lowest-from = omega arith

  pub lowest-above : (num : ℕ) → a ≤ num → num ≤ 12 → ((j : ℕ) → j < num → a ≤ j → applies s j ≡ false) → num ≤ lowest a s
  lowest-above num f u below = go (le-or-lt num (lowest a s))
    where
      go : (num ≤ lowest a s) ⊎ (lowest a s < num) → num ≤ lowest a s
      go (inl p) = p
      go (inr p) = absurd (clash (lowest-applies (omega arith)) (below (lowest a s) p lowest-from))

  pub judge-at : (num : ℕ) → num < 12 → lowest a s ≡ num → judge_from a s ≡ Refused (record { number = num; place = place_of s num })
  unfolding judge_from
  judge-at num l e = rw (e, lt-ltb num 12 l)

  pub judge-none : lowest a s ≡ 12 → judge_from a s ≡ Accepted
  unfolding judge_from
  judge-none e = rw e refl

-- numbers that do not apply may be left out
lowest-skip : (a b : ℕ) (s : List ℕ) → a ≤ b → b ≤ 12 → ((j : ℕ) → a ≤ j → j < b → applies s j ≡ false) → lowest a s ≡ lowest b s
lowest-skip a b s f l none = go (le-or-lt 12 (lowest b s))
  where
    below : (num : ℕ) → num ≤ 12 → num ≤ lowest b s → (j : ℕ) → j < num → a ≤ j → applies s j ≡ false
    below num k h j q g = at (le-or-lt b j)
      where
        at : (b ≤ j) ⊎ (j < b) → applies s j ≡ false
        at (inl x) = below-lowest s b j x (omega arith) (omega arith)
        at (inr x) = none j g x

    go : (12 ≤ lowest b s) ⊎ (lowest b s < 12) → lowest a s ≡ lowest b s
    go (inl h) =
        lowest-past s a 12 (omega arith) (below 12 (lit≤ tt) h) refl
        ∙ sym (lowest-past s b 12 l (λ j q g. below-lowest s b j g q (omega arith)) refl)
    go (inr h) = lowest-at s a (lowest b s) (omega (arith, lowest-from s b)) (below (lowest b s) (omega arith) (omega arith)) h (lowest-applies s b h)

pub judge-skip : (a b : ℕ) (s : List ℕ) → a ≤ b → b ≤ 12 → ((j : ℕ) → a ≤ j → j < b → applies s j ≡ false) → judge_from a s ≡ judge_from b s
unfolding judge_from
judge-skip a b s f l none = rw (lowest-skip a b s f l none) refl

row_1 : (s : List ℕ) → holds s 1 0 ≡ rule1 s
unfolding holds
row_1 s = refl

-- where number 1 applies it is given, and where it does not the judgement starts at 2
pub judge-second : (s : List ℕ) → rule1 s ≡ false → judge_from 1 s ≡ judge_from 2 s
judge-second s h = judge-skip 1 2 s (lit≤ tt) (lit≤ tt) (λ j f l. let e : j ≡ 1 = omega arith in rw e (whole-not s 1 refl (row_1 s ∙ h)))

pub judge-first : (s : List ℕ) → rule1 s ≡ true → judge_from 1 s ≡ Refused (record { number = 1; place = 0 })
judge-first s h =
    let e : lowest 1 s ≡ 1 = lowest-at s 1 1 (lit≤ tt) (λ j b f. absurd (omega arith)) (lit< tt) (whole-applies s 1 refl (row_1 s ∙ h)) in
    rw (judge-at s 1 1 (lit< tt) e, whole-place s 1 refl (row_1 s ∙ h)) refl

pub short : (s : List ℕ) → rule1 s ≡ false → length s ≤ 9296
unfolding rule1
short s h = ltb-false 9296 (length s) (or_neither (not (eqb (length s % 8) 0)) (ltb 9296 (length s)) h).1

-- of an accepted file no number applies, so no row of the table holds for any place
pub none-holds : (a : ℕ) (s : List ℕ) → judge_from a s ≡ Accepted → (num : ℕ) → a ≤ num → num < 12 → (k : ℕ) → k < places s num → holds s num k ≡ false
unfolding judge_from
none-holds a s ok num f l = not-applies s num (go (ltb (lowest a s) 12) refl ok)
  where
    go : (b : Bool) → ltb (lowest a s) 12 ≡ b → pick b (Refused (record { number = lowest a s; place = place_of s (lowest a s) })) Accepted ≡ Accepted
        → applies s num ≡ false
    go true e q = absurd (let z : ◌≡◌ {A = ℕ} 0 1 = cc in omega arith)
    go false e q = below-lowest s a num f l (omega (arith, ltb-false (lowest a s) 12 e))

-- and of a refused one the answer is the lowest number that applies, with its first place
pub rightly : (a : ℕ) (s : List ℕ) (r : Refusal) → judge_from a s ≡ Refused r → Rightly a s r
unfolding judge_from
rightly a s r h = go (ltb (lowest a s) 12) refl h
  where
    place-holds : (num : ℕ) → applies s num ≡ true → (place_of s num < places s num) × (holds s num (place_of s num) ≡ true)
    place-holds num e = unfold applies place_of in
        let l : first (holds s num) (places s num) < places s num = ltb-true (first (holds s num) (places s num)) (places s num) e in
        (l, first-here (holds s num) (places s num) l)

    here : lowest a s < 12 → Rightly a s (record { number = lowest a s; place = place_of s (lowest a s) })
    here l =
        let p = place-holds (lowest a s) (lowest-applies s a l) in
        record {
          least = lowest-from s a;
          known = l;
          within = p.0;
          there = p.1;
          not_before = λ k b. earlier (lowest a s) k b p.0;
          no_lower = λ num k f b d. not-applies s num (below-lowest s a num f (omega arith) b) k d;
        }
      where
        earlier : (num k : ℕ) → k < place_of s num → place_of s num < places s num → holds s num k ≡ false
        earlier num k b d = unfold place_of in first_below (holds s num) (places s num) k b

    go : (b : Bool) → ltb (lowest a s) 12 ≡ b → pick b (Refused (record { number = lowest a s; place = place_of s (lowest a s) })) Accepted ≡ Refused r
        → Rightly a s r
    go true e q = let f : record { number = lowest a s; place = place_of s (lowest a s) } ≡ r = cc in rw (← f) (here (ltb-true (lowest a s) 12 e))
    go false e q = absurd (let z : ◌≡◌ {A = ℕ} 0 1 = cc in omega arith)

-- ---- and the other way round

pub not_for_any : (s : List ℕ) (num : ℕ) → ((k : ℕ) → k < places s num → holds s num k ≡ false) → applies s num ≡ false
unfolding applies place_of
not_for_any s num h = rw (first-none (holds s num) (places s num) h) (le-ltb (places s num) (places s num) (omega arith))

-- where no row holds for any place, the file is accepted
pub accepts : (a : ℕ) (s : List ℕ) → a ≤ 12 → ((num k : ℕ) → a ≤ num → num < 12 → k < places s num → holds s num k ≡ false) → judge_from a s ≡ Accepted
accepts a s l h = judge-none s a (lowest-past s a 12 l (λ j b f. not_for_any s j (λ k d. h j k f b d)) refl)

-- the lowest number that applies is given, with its first place
pub rightly_judged : (a : ℕ) (s : List ℕ) (r : Refusal) → Rightly a s r → judge_from a s ≡ Refused r
rightly_judged a s r R = judge-at s a num R.known lowest-is ∙ rw place_is refl
  where
    num : ℕ
    num = r.number

    place_is : place_of s num ≡ r.place
    place_is = unfold place_of in first-at (holds s num) (places s num) r.place R.within R.not_before R.there

    here : applies s num ≡ true
    here = unfold applies in lt-ltb (place_of s num) (places s num) (rw place_is R.within)

    lowest-is : lowest a s ≡ num
    lowest-is = lowest-at s a num R.least (λ j b f. not_for_any s j (λ k d. R.no_lower j k f b d)) R.known here

-- where none below it does, a number that is said of the whole file is given, at place 0
pub refuses : (a : ℕ) (s : List ℕ) (num : ℕ) → a ≤ num → num < 12 → ((j k : ℕ) → a ≤ j → j < num → k < places s j → holds s j k ≡ false)
    → per_record_of num ≡ false → holds s num 0 ≡ true → judge_from a s ≡ Refused (record { number = num; place = 0 })
refuses a s num f l h w e = rightly_judged a s (record { number = num; place = 0 }) (record {
  least = f;
  known = l;
  within = unfold places in rw w (lit< tt);
  there = e;
  not_before = λ k b. absurd (omega arith);
  no_lower = h;
})
