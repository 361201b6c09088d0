-- `every`, `sum` and `count` with one place more, and with places that do not count; a table is what it holds.
use mathlib.Core.Path.{◌≡◌, refl, sym, ◌∙◌}
use mathlib.Core.Logic.{⊎_elim}
use mathlib.Core.List.{List}
use mathlib.Core.Bool.{Bool, true, false, ◌&&◌}
use Prim.Native.Nat.{ℕ, zero, suc, ◌+◌, ◌≤◌, ◌<◌}
use native.Mathlib.Numerals.{add-one}
use native.Mathlib.Omega.{arith}
use native.Mathlib.Decide.{ℕ_discrete}
use lib.Dec.{eqb}
use lib.ListN.{get_or, set, length}
use lib.Seq.{ext_get_or, get_or-set_same, get_or-set_other}
use borrow.Author.Tests.{eq-eqb, ne_eqb}
use Rattle.model.specs.Places.{pick, every, sum, count, table, padded}
use Rattle.model.proofs.Bools.{le-or-lt}
use Rattle.model.proofs.Places.{count-there, count-not-there, count_none}
use Rattle.model.proofs.Tables.{table-length, table_at, padded-length, padded-at, padded-past}

pub every-none : (p : ℕ → Bool) → every p 0 ≡ true
unfolding every
every-none p = refl

pub every_more : (p : ℕ → Bool) (n : ℕ) → every p (n + 1) ≡ every p n && p n
unfolding every
every_more p n = rw add-one refl

pub sum-none : (f : ℕ → ℕ) → sum f 0 ≡ 0
unfolding sum
sum-none f = refl

pub sum-next : (f : ℕ → ℕ) (n : ℕ) → sum f (n + 1) ≡ sum f n + f n
unfolding sum
sum-next f n = rw add-one refl

-- places from n on at which the test does not hold change no count, and no sum where nothing stands
pub count_past : (p : ℕ → Bool) (n m : ℕ) → n ≤ m → ((v : ℕ) → n ≤ v → v < m → p v ≡ false) → count p m ≡ count p n
unfolding count
count_past p n zero l h = let z : n ≡ 0 = omega arith in rw z refl
count_past p n (suc m) l h = go (ℕ_discrete n (suc m)) (λ k. count_past p n m k (λ v a b. h v a (omega arith)))
  where
    go : Dec (n ≡ suc m) → (n ≤ m → count p m ≡ count p n) → count p (suc m) ≡ count p n
    go (yes e) ih = rw e refl
    go (no e) ih = count-not-there p m (h m (omega arith) (omega arith)) ∙ ih (omega arith)

-- a test that holds from one place on, for d places, and at none before
pub count-from : (p : ℕ → Bool) (a d : ℕ) → ((v : ℕ) → v < a → p v ≡ false) → ((v : ℕ) → a ≤ v → v < a + d → p v ≡ true) → count p (a + d) ≡ d
count-from p a zero off on = let e : a + 0 ≡ a = omega arith in rw e (count_none p a off)
count-from p a (suc d) off on =
    let e : a + suc d ≡ suc (a + d) = omega arith in
    rw e (omega (arith, count-there p (a + d) (on (a + d) (omega arith) (omega arith)), count-from p a d off (λ v l h. on v l (omega arith))))

pub sum_past : (f : ℕ → ℕ) (n m : ℕ) → n ≤ m → ((v : ℕ) → n ≤ v → v < m → f v ≡ 0) → sum f m ≡ sum f n
unfolding sum
sum_past f n zero l h = let z : n ≡ 0 = omega arith in rw z refl
sum_past f n (suc m) l h = go (ℕ_discrete n (suc m)) (λ k. sum_past f n m k (λ v a b. h v a (omega arith)))
  where
    go : Dec (n ≡ suc m) → (n ≤ m → sum f m ≡ sum f n) → sum f m + f m ≡ sum f n
    go (yes e) ih = rw e refl
    go (no e) ih = omega (arith, h m (omega arith) (omega arith), ih (omega arith))

pub table_ext : (f g : ℕ → ℕ) (n : ℕ) → ((v : ℕ) → v < n → f v ≡ g v) → table f n ≡ table g n
unfolding table
table_ext f g zero h = refl
table_ext f g (suc n) h = rw (table_ext f g n (λ v l. h v (omega arith)), h n (omega arith)) refl

-- a list is a table of what stands in it
pub as_table : (f : ℕ → ℕ) (n : ℕ) (l : List ℕ) → length l ≡ n → ((v : ℕ) → v < n → get_or l v 0 ≡ f v) → l ≡ table f n
as_table f n l long h = ext_get_or 0 l (table f n) (long ∙ sym (table-length f n)) (λ v k. let b : v < n = omega (arith, long) in h v b ∙ sym (table_at f n v b))

-- or of its first n places, where the others are zero
pub as_padded : (f : ℕ → ℕ) (m n : ℕ) (l : List ℕ) → n ≤ m → length l ≡ m → ((v : ℕ) → v < n → get_or l v 0 ≡ f v) → ((v : ℕ) → n ≤ v → v < m → get_or l v 0 ≡ 0) → l ≡ padded m f n
as_padded f m n l few long at past =
    ext_get_or 0 l (padded m f n) (long ∙ sym (padded-length m f n few)) (λ v k.
    ⊎_elim (λ (h : n ≤ v). past v h (omega (arith, long)) ∙ sym (padded-past m f n v h)) (λ (h : v < n). at v h ∙ sym (padded-at m f n v h)) (le-or-lt n v))

-- a store changes one place
pub put-at : (l : List ℕ) (t x v : ℕ) → t < length l → get_or (set l t x) v 0 ≡ pick (eqb v t) x (get_or l v 0)
put-at l t x v h = go (ℕ_discrete v t)
  where
    go : Dec (v ≡ t) → get_or (set l t x) v 0 ≡ pick (eqb v t) x (get_or l v 0)
    go (yes e) = rw (e, eq-eqb t t refl) (get_or-set_same l t x 0 h)
    go (no e) = rw (ne_eqb v t e) (get_or-set_other l t v x 0 e)
