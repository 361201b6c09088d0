-- Where the records stand: all types, then all vertices, then all edges. So a record's number tells its kind, and the other way round.
use mathlib.Core.Path.{◌≡◌, refl, sym, ◌∙◌}
use mathlib.Core.Bool.{Bool, true, false}
use mathlib.Core.List.{List}
use mathlib.Core.Logic.{◌⊎◌, inl, inr}
use Prim.Native.Nat.{ℕ, zero, suc, ◌+◌, ◌≤◌, ◌<◌, zero-le}
use native.Mathlib.Omega.{arith}
use native.Mathlib.Decide.{ℕ_discrete}
use lib.Dec.{eqb, ltb, leb, lit<, lit≤}
use borrow.Author.Tests.{lt-ltb, le-ltb, ltb-false, le-leb, leb-true, leb-false, eq-eqb, eqb-true, eqb-false}
use Rattle.model.specs.Places.{pick, bit, count}
use Rattle.model.proofs.Bools.{le-or-lt, or_neither}
use Rattle.model.proofs.Places.{count-le, count-all, count_none, count-there, count-not-there, count_split, any_none, any_false}
use Rattle.graph.specs.File.{records, byte_at, order, is_order, many}
use Rattle.graph.specs.Rules.{rule2, rule3}

down : (p : ℕ → Bool) (n : ℕ) → ((k : ℕ) → k < n → p (suc k) ≡ true → p k ≡ true) → p n ≡ true → (k : ℕ) → k ≤ n → p k ≡ true
down p zero anti h k l = let e : k ≡ 0 = omega arith in rw e h
down p (suc n) anti h k l = at (ℕ_discrete k (suc n)) (down p n (λ j b. anti j (omega arith)) (anti n (omega arith) h))
  where
    at : Dec (k ≡ suc n) → ((j : ℕ) → j ≤ n → p j ≡ true) → p k ≡ true
    at (yes e) f = rw e h
    at (no ne) f = f k (omega arith)

-- a test that, once failed, fails on: it holds just at the places below its count
pub run : (p : ℕ → Bool) (n : ℕ) → ((k : ℕ) → suc k < n → p (suc k) ≡ true → p k ≡ true) → (k : ℕ) → k < n → p k ≡ ltb k (count p n)
run p zero anti k l = absurd (omega arith)
run p (suc n) anti k l = go (p n) refl (run p n (λ j b. anti j (omega arith)))
  where
    go : (b : Bool) → p n ≡ b → ((j : ℕ) → j < n → p j ≡ ltb j (count p n)) → p k ≡ ltb k (count p (suc n))
    go true e ih =
        let all : (j : ℕ) → j ≤ n → p j ≡ true = down p n (λ j b. anti j (omega arith)) e in
        rw (all k (omega arith), count-all p (suc n) (λ j b. all j (omega arith)), lt-ltb k (suc n) l)
    go false e ih = at (count-not-there p n e) (ℕ_discrete k n)
      where
        at : count p (suc n) ≡ count p n → Dec (k ≡ n) → p k ≡ ltb k (count p (suc n))
        at c (yes q) = rw (q, e, c) (sym (le-ltb n (count p n) (count-le p n)))
        at c (no q) = rw c (ih k (omega arith))

two_orders : (s : List ℕ) (k : ℕ) → bit (leb (order s k) 1) ≡ bit (is_order s 0 k) + bit (is_order s 1 k)
unfolding is_order order
two_orders s k = go (eqb (byte_at s k 0) 0x54) (eqb (byte_at s k 0) 0x56) (eqb (byte_at s k 0) 0x45)
  where
    r : Bool → Bool → Bool → ℕ
    r x y z = pick x 0 (pick y 1 (pick z 2 3))

    go : (x y z : Bool) → bit (leb (r x y z) 1) ≡ bit (eqb (r x y z) 0) + bit (eqb (r x y z) 1)
    go true y z = refl
    go false true z = refl
    go false false true = refl
    go false false false = refl

pub order_below : (s : List ℕ) (k : ℕ) → order s k < 4
unfolding order
order_below s k = go (eqb (byte_at s k 0) 0x54) (eqb (byte_at s k 0) 0x56) (eqb (byte_at s k 0) 0x45)
  where
    go : (x y z : Bool) → pick x 0 (pick y 1 (pick z 2 3)) < 4
    go true y z = lit< tt
    go false true z = lit< tt
    go false false true = lit< tt
    go false false false = lit< tt

module _ (s : List ℕ) (sorted : (k : ℕ) → k < records s → rule3 s k ≡ false) where
  pub rising : (k : ℕ) → suc k < records s → order s k ≤ order s (suc k)
  unfolding rule3
  rising k l =
      ltb-false (order s (suc k)) (order s k) (any_false (λ j. ltb (order s (suc k)) (order s j)) (suc k) k (omega arith) (sorted (suc k) l))

  kinds-first : (k : ℕ) → k < records s → is_order s 0 k ≡ ltb k (many s 0)
  unfolding many is_order
  kinds-first k l =
      run (is_order s 0) (records s) (λ j b h. eq-eqb (order s j) 0 (omega (arith, rising j b, eqb-true (order s (suc j)) 0 h))) k l

  edges-last : (k : ℕ) → k < records s → leb (order s k) 1 ≡ ltb k (many s 0 + many s 1)
  unfolding many
  edges-last k l =
      rw (← count_split (λ j. leb (order s j) 1) (is_order s 0) (is_order s 1) (records s) (λ j b. two_orders s j))
      (run (λ j. leb (order s j) 1) (records s) (λ j b h. le-leb (order s j) 1 (omega (arith, rising j b, leb-true (order s (suc j)) 1 h))) k l)

  pub kind-record : (k : ℕ) → k < records s → k < many s 0 → order s k ≡ 0
  unfolding is_order
  kind-record k l h = eqb-true (order s k) 0 (kinds-first k l ∙ lt-ltb k (many s 0) h)

  pub vertex-record : (k : ℕ) → k < records s → many s 0 ≤ k → k < many s 0 + many s 1 → order s k ≡ 1
  unfolding is_order
  vertex-record k l b h =
      let x : order s k ≡ 0 → ⊥ = eqb-false (order s k) 0 (kinds-first k l ∙ le-ltb k (many s 0) b) in
      let y : order s k ≤ 1 = leb-true (order s k) 1 (edges-last k l ∙ lt-ltb k (many s 0 + many s 1) h) in
      omega arith

  pub edge-record : ((k : ℕ) → k < records s → rule2 s k ≡ false) → (k : ℕ) → k < records s → many s 0 + many s 1 ≤ k → order s k ≡ 2
  unfolding rule2
  edge-record known k l b =
      let y : 1 < order s k = leb-false (order s k) 1 (edges-last k l ∙ le-ltb k (many s 0 + many s 1) b) in
      let z : order s k ≡ 3 → ⊥ = eqb-false (order s k) 3 (or_neither (eqb (order s k) 3) _ (known k l)).0 in
      omega (arith, order_below s k)

-- ---- where there are a types, then b vertices, then edges

-- of a file with a types and b vertices, record k is a type, a vertex or an edge
pub data Among (a b k : ℕ) : Type 0 where
  type : k < a → Among a b k
  vertex : a ≤ k → k < a + b → Among a b k
  edge : a + b ≤ k → Among a b k

pub among : (a b k : ℕ) → Among a b k
among a b k = go (le-or-lt a k) (le-or-lt (a + b) k)
  where
    go : (a ≤ k) ⊎ (k < a) → (a + b ≤ k) ⊎ (k < a + b) → Among a b k
    go (inr h) y = type h
    go (inl h) (inr l) = vertex h l
    go (inl h) (inl l) = edge l

-- none below a, then b of them, then none
pub count-between : (p : ℕ → Bool) (a b d : ℕ) → ((k : ℕ) → k < a → p k ≡ false) → ((k : ℕ) → a ≤ k → k < a + b → p k ≡ true)
    → ((k : ℕ) → a + b ≤ k → k < a + b + d → p k ≡ false) → count p (a + b + d) ≡ b
count-between p a zero zero h m g = let e : a + 0 + 0 ≡ a = omega arith in rw e (count_none p a h)
count-between p a (suc b) zero h m g =
    let e : a + suc b + 0 ≡ suc (a + b + 0) = omega arith in
    rw (e, count-there p (a + b + 0) (m (a + b + 0) (omega arith) (omega arith)), count-between p a b zero h (λ k x l. m k x (omega arith)) (λ k x l. absurd (omega arith)))
    (omega arith)
count-between p a b (suc d) h m g =
    let e : a + b + suc d ≡ suc (a + b + d) = omega arith in
    rw (e, count-not-there p (a + b + d) (g (a + b + d) (omega arith) (omega arith))) (count-between p a b d h m (λ k x l. g k x (omega arith)))

-- the orders of all records, where a types stand first, then b vertices, then e edges
pub record Parted (s : List ℕ) (a b e : ℕ) : Type 0 where
  pub all : records s ≡ a + b + e
  pub types : (k : ℕ) → k < a → order s k ≡ 0
  pub vertices : (k : ℕ) → a ≤ k → k < a + b → order s k ≡ 1
  pub edges : (k : ℕ) → a + b ≤ k → k < a + b + e → order s k ≡ 2

module _ {s : List ℕ} {a b e : ℕ} (P : Parted s a b e) where
  -- how many there are of each kind up to some record
  pub types-before : (k : ℕ) → k ≤ a → count (is_order s 0) k ≡ k
  unfolding is_order
  types-before k l = count-all (is_order s 0) k (λ j h. rw (P.types j (omega arith)) refl)

  pub vertices-before : (v : ℕ) → v ≤ b → count (is_order s 1) (a + v) ≡ v
  unfolding is_order
  vertices-before v l =
      let x : a + v ≡ a + v + 0 = omega arith in
      rw x (count-between (is_order s 1) a v 0 (λ k h. rw (P.types k h) refl) (λ k h q. rw (P.vertices k h (omega arith)) refl) (λ k h q. absurd (omega arith)))

  pub many-types : many s 0 ≡ a
  unfolding many is_order
  many-types =
      let x : a + b + e ≡ 0 + a + (b + e) = omega arith in
      rw (P.all, x)
      (count-between (is_order s 0) 0 a (b + e) (λ k l. absurd (omega arith)) (λ k h l. rw (P.types k (omega arith)) refl) (λ k h l. past k (omega arith) (omega arith) (among a b k)))
    where
      past : (k : ℕ) → a ≤ k → k < a + b + e → Among a b k → eqb (order s k) 0 ≡ false
      past k h l (type x) = absurd (omega arith)
      past k h l (vertex x y) = rw (P.vertices k x y) refl
      past k h l (edge x) = rw (P.edges k x l) refl

  pub many-vertices : many s 1 ≡ b
  unfolding many is_order
  many-vertices =
      rw P.all
      (count-between (is_order s 1) a b e (λ k l. rw (P.types k l) refl) (λ k h l. rw (P.vertices k h l) refl) (λ k h l. rw (P.edges k h l) refl))

  pub many-edges : many s 2 ≡ e
  unfolding many is_order
  many-edges =
      let x : a + b + e ≡ a + b + e + 0 = omega arith in
      rw (P.all, x)
      (count-between (is_order s 2) (a + b) e 0 (λ k l. before k l (among a b k)) (λ k h l. rw (P.edges k h l) refl) (λ k h l. absurd (omega arith)))
    where
      before : (k : ℕ) → k < a + b → Among a b k → eqb (order s k) 2 ≡ false
      before k l (type x) = rw (P.types k x) refl
      before k l (vertex x y) = rw (P.vertices k x y) refl
      before k l (edge x) = absurd (omega arith)

  -- the records stand in the order of their kinds
  upwards : (j k : ℕ) → j < k → k < a + b + e → order s j ≤ order s k
  upwards j k h l = go (among a b j) (among a b k)
    where
      go : Among a b j → Among a b k → order s j ≤ order s k
      go (type x) y = rw (P.types j x) zero-le
      go (vertex x y) (type z) = absurd (omega arith)
      go (vertex x y) (vertex z w) = rw (P.vertices j x y, P.vertices k z w) (lit≤ tt)
      go (vertex x y) (edge z) = rw (P.vertices j x y, P.edges k z l) (lit≤ tt)
      go (edge x) (type z) = absurd (omega arith)
      go (edge x) (vertex z w) = absurd (omega arith)
      go (edge x) (edge z) = rw (P.edges j x (omega arith), P.edges k z l) (lit≤ tt)

  pub parted-sorted : (k : ℕ) → k < records s → rule3 s k ≡ false
  unfolding rule3
  parted-sorted k l =
      any_none (λ j. ltb (order s k) (order s j)) k (λ j h. le-ltb (order s k) (order s j) (upwards j k h (omega (arith, P.all))))
