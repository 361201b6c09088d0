-- One number more in a row.
use mathlib.Core.Path.{◌≡◌, refl, sym, ap, ◌∙◌}
use mathlib.Core.Bool.{Bool, true, false, not, ◌&&◌, ◌||◌, or-false}
use mathlib.Core.List.{List, [], ◌∷◌, ◌++◌}
use Prim.Native.Nat.{ℕ, zero, suc, ◌+◌, ◌≤◌, ◌<◌}
use native.Mathlib.Omega.{arith}
use lib.ListN.{length, get_or, drop, length-append, get_or-append}
use lib.Seq.{drop-append-le}
use lib.Dec.{eqb}
use borrow.Author.Tests.{le-leb, lt-leb, eq-eqb, eqb-true}
use Rattle.model.proofs.Bools.{both, left-of, right_of, same_test}
use Rattle.vset.specs.Members.{is_in, Members}
use Rattle.vset.specs.declared.Vset.{Vset}
use Rattle.stg_text.specs.Fields.{all, member, distinct}
use Rattle.stg_text.specs.Layout.{within}
use Rattle.stg_scan.specs.Rest.{lawful}
use Rattle.std.specs.Prelude.{Some, None}
use Rattle.stg.specs.Rows.{among, Holds, Taken}
use Rattle.stg.specs.declared.row.Row.{Row}
use Rattle.stg_text.proofs.Those.{member-append}

-- ---- lists

and_assoc : (a b c : Bool) → (a && b) && c ≡ a && (b && c)
and_assoc true b c = refl
and_assoc false b c = refl

and-true : (a : Bool) → a && true ≡ a
and-true true = refl
and-true false = refl

all_more : (p : ℕ → Bool) (us : List ℕ) (x : ℕ) → all p (us ++ (x ∷ [])) ≡ all p us && p x
all_more p [] x = and-true (p x)
all_more p (u ∷ us) x = ap (λ (b : Bool). p u && b) (all_more p us x) ∙ sym (and_assoc (p u) (all p us) (p x))

member-more : (u x : ℕ) (us : List ℕ) → member u (us ++ (x ∷ [])) ≡ member u us || eqb u x
member-more u x us = member-append u us (x ∷ []) ∙ ap (λ (b : Bool). member u us || b) (or-false (eqb u x))

eqb_swap : (a b : ℕ) → eqb a b ≡ eqb b a
eqb_swap a b = same_test (eqb a b) (eqb b a) (λ e. eq-eqb b a (sym (eqb-true a b e))) (λ e. eq-eqb a b (sym (eqb-true b a e)))

distinct_more : (us : List ℕ) (x : ℕ) → distinct (us ++ (x ∷ [])) ≡ distinct us && not (member x us)
distinct_more [] x = refl
distinct_more (u ∷ us) x =
    rw (member-more u x us, distinct_more us x, eqb_swap x u) (go (member u us) (eqb u x) (distinct us) (member x us))
  where
    go : (a b c d : Bool) → not (a || b) && (c && not d) ≡ (not a && c) && not (b || d)
    go true b c d = refl
    go false true true d = refl
    go false true false d = refl
    go false false c d = refl

-- the front of distinct numbers is distinct
distinct-left : (a b : List ℕ) → distinct (a ++ b) ≡ true → distinct a ≡ true
distinct-left [] b h = refl
distinct-left (x ∷ a) b h =
    both (not (member x a)) (distinct a)
    (front (member x a) (member x b) (rw (member-append x a b) at (left-of (not (member x (a ++ b))) (distinct (a ++ b)) h)))
    (distinct-left a b (right_of (not (member x (a ++ b))) (distinct (a ++ b)) h))
  where
    front : (p q : Bool) → not (p || q) ≡ true → not p ≡ true
    front true q e = e
    front false q e = refl

all_left : (p : ℕ → Bool) (a b : List ℕ) → all p (a ++ b) ≡ true → all p a ≡ true
all_left p [] b h = refl
all_left p (x ∷ a) b h = both (p x) (all p a) (left-of (p x) (all p (a ++ b)) h) (all_left p a b (right_of (p x) (all p (a ++ b)) h))

drop-append : (i : ℕ) (a b : List ℕ) → (r : List ℕ) × (drop i (a ++ b) ≡ drop i a ++ r)
drop-append zero a b = (b, refl)
drop-append (suc i) [] b = (drop (suc i) b, refl)
drop-append (suc i) (x ∷ a) b = drop-append i a b

-- ---- lawful numbers

pub lawful-front : (n : ℕ) (a b : List ℕ) → lawful n (a ++ b) ≡ true → lawful n a ≡ true
unfolding lawful
lawful-front n a b h =
    let r = drop-append 3 a b in
    let x : all (within n) (drop 3 (a ++ b)) ≡ true = left-of (all (within n) (drop 3 (a ++ b))) (distinct (drop 3 (a ++ b))) h in
    let y : distinct (drop 3 (a ++ b)) ≡ true = right_of (all (within n) (drop 3 (a ++ b))) (distinct (drop 3 (a ++ b))) h in
    both (all (within n) (drop 3 a)) (distinct (drop 3 a)) (all_left (within n) (drop 3 a) r.0 (rw r.1 at x)) (distinct-left (drop 3 a) r.0 (rw r.1 at y))

lawful-more : (n : ℕ) (xs : List ℕ) (x : ℕ) → 3 ≤ length xs → lawful n xs ≡ true → lawful n (xs ++ (x ∷ [])) ≡ within n x && not (member x (drop 3 xs))
unfolding lawful
lawful-more n xs x l h =
    let a : all (within n) (drop 3 xs) ≡ true = left-of (all (within n) (drop 3 xs)) (distinct (drop 3 xs)) h in
    let d : distinct (drop 3 xs) ≡ true = right_of (all (within n) (drop 3 xs)) (distinct (drop 3 xs)) h in
    rw (drop-append-le 3 xs (x ∷ []) l, all_more (within n) (drop 3 xs) x, distinct_more (drop 3 xs) x, a, d) refl

-- ---- the row

pub no-numbers : (n : ℕ) (v : Vset) → Members v (λ k. false) → Holds n [] (record { many = 0; number = 0; time = 0; count = 0; before = v })
unfolding among lawful
no-numbers n v m = record { all_many = refl; has_number = refl; has_time = refl; has_count = refl; has_before = m; fine = refl }

module _ (n x : ℕ) (r : Row) where
  pub first_taken : (xs : List ℕ) → r.many ≡ 0 → Holds n xs r
      → Taken n (xs ++ (x ∷ [])) (Some (record { many = 1; number = x; time = r.time; count = r.count; before = r.before }))
  unfolding among lawful
  first_taken [] e H =
      record { all_many = refl; has_number = refl; has_time = H.has_time; has_count = H.has_count; has_before = H.has_before; fine = refl }
  first_taken (a ∷ xs) e H = absurd (omega (arith, H.all_many))

  pub second-taken : (xs : List ℕ) → r.many ≡ 1 → Holds n xs r
      → Taken n (xs ++ (x ∷ [])) (Some (record { many = 2; number = r.number; time = x; count = r.count; before = r.before }))
  unfolding among lawful
  second-taken [] e H = absurd (omega (arith, H.all_many))
  second-taken (a ∷ []) e H =
      record { all_many = refl; has_number = H.has_number; has_time = refl; has_count = H.has_count; has_before = H.has_before; fine = refl }
  second-taken (a ∷ b ∷ xs) e H = absurd (omega (arith, H.all_many))

  pub third_taken : (xs : List ℕ) → r.many ≡ 2 → Holds n xs r
      → Taken n (xs ++ (x ∷ [])) (Some (record { many = 3; number = r.number; time = r.time; count = x; before = r.before }))
  unfolding among lawful
  third_taken [] e H = absurd (omega (arith, H.all_many))
  third_taken (a ∷ []) e H = absurd (omega (arith, H.all_many))
  third_taken (a ∷ b ∷ []) e H =
      record { all_many = refl; has_number = H.has_number; has_time = H.has_time; has_count = refl; has_before = H.has_before; fine = refl }
  third_taken (a ∷ b ∷ c ∷ xs) e H = absurd (omega (arith, H.all_many))

  -- a predecessor above n + 1
  pub above-taken : (xs : List ℕ) → 3 ≤ r.many → n + 1 < x → Holds n xs r → Taken n (xs ++ (x ∷ [])) None
  unfolding within
  above-taken xs l a H = rw (lawful-more n xs x (omega (arith, H.all_many)) H.fine, lt-leb x (n + 1) a) refl

  -- one within, that is among the others or is not
  module _ (xs : List ℕ) (l : 3 ≤ r.many) (a : x ≤ n + 1) (H : Holds n xs r) where
    long : 3 ≤ length xs
    long = omega (arith, H.all_many)

    once : lawful n (xs ++ (x ∷ [])) ≡ not (is_in r.before x)
    unfolding within among
    once = rw (lawful-more n xs x long H.fine, le-leb x (n + 1) a) (ap not (sym (H.has_before.are x)))

    pub twice-taken : is_in r.before x ≡ true → Taken n (xs ++ (x ∷ [])) None
    twice-taken t = once ∙ ap not t

    pub within-taken : is_in r.before x ≡ false → (v : Vset) → Members v (λ k. is_in r.before k || eqb k x)
        → Taken n (xs ++ (x ∷ [])) (Some (record { many = r.many + 1; number = r.number; time = r.time; count = r.count; before = v }))
    unfolding among
    within-taken f v m =
        let at : (i : ℕ) → i < 3 → get_or (xs ++ (x ∷ [])) i 0 ≡ get_or xs i 0 = λ i b. get_or-append xs (x ∷ []) 0 i (omega (arith, long)) in
        record {
          all_many = rw (length-append xs (x ∷ []), H.all_many) refl;
          has_number = H.has_number ∙ sym (at 0 (omega arith));
          has_time = H.has_time ∙ sym (at 1 (omega arith));
          has_count = H.has_count ∙ sym (at 2 (omega arith));
          has_before = record {
            low = m.low;
            high = m.high;
            are = λ k. m.are k ∙ rw (H.has_before.are k, drop-append-le 3 xs (x ∷ []) long, member-more k x (drop 3 xs)) refl;
          };
          fine = once ∙ ap not f;
        }
