-- The mended file, record by record; and that mending it again does nothing.
--
--   Origin s i         the record of s that stands at i in the mended file, cleared
--   origin             every record of the mended file has one
--   mended-at          and every record that stays is one: it stands, cleared, at its place. No other byte changes
--   mended-mendable    the mended file is not refused
--   mended_tidy        no stray byte, no edge from a vertex to itself, the edges ascend
--   again_none         so it needs no mend
use mathlib.Core.Path.{◌≡◌, refl, sym, ap, ap₂, ◌∙◌}
use mathlib.Core.Logic.{◌⊎◌, inl, inr}
use mathlib.Core.Bool.{true, false, not}
use mathlib.Core.List.{List}
use Prim.Native.Nat.{ℕ, ◌+◌, ◌*◌, ◌%◌, ◌≤◌, ◌<◌}
use native.Mathlib.Omega.{arith}
use native.Mathlib.Decide.{ℕ_discrete}
use lib.Dec.{eqb, ltb, lit<}
use lib.ListN.{length}
use borrow.Author.Tests.{le-ltb, ltb-false, eq-eqb, ne_eqb, eqb-true, eqb-false}
use Rattle.model.specs.Places.{count}
use Rattle.model.proofs.Bools.{cases, le-or-lt, not-true, not-is-true, both, left-of, right_of}
use Rattle.model.proofs.Places.{count-le, any_elim, any_none, any_false}
use Rattle.graph.specs.File.{records, byte_at, key_at, order, is_order, order_of}
use Rattle.graph.specs.Rules.{rule1, rule3}
use Rattle.graph.proofs.Judging.{short}
use Rattle.graph.proofs.Orders.{order_below}
use Rattle.mends.specs.Mends.{NoMend, must_be_zero_of, stray_at, stray, is_edge, loop, double, stays, kept, rank}
use Rattle.mends.specs.Mended.{heads, place, byte_from, everywhere, mended_of}
use Rattle.mends.specs.Answers.{unknown, Mendable}
use Rattle.mends.proofs.Landing.{place-edge, place-head, source-place, place-within, landed, head-low, key-order, distinct}
use Rattle.mends.proofs.Built.{built-length, built-byte}
use Rattle.mends.proofs.Tidy.{Tidy, tidy_none, whole-records}

pub record Origin (s : List ℕ) (i : ℕ) : Type 0 where
  pub number : ℕ
  pub within : number < records s
  pub stayed : stays s number ≡ true
  pub put : place s number ≡ i
  pub bytes : (j : ℕ) → j < 8 → byte_at (mended_of s) i j ≡ byte_from s everywhere number j

-- bytes 0 to 2 are never cleared
low_byte : (s : List ℕ) (k j : ℕ) → j < 3 → byte_from s everywhere k j ≡ byte_at s k j
unfolding byte_from everywhere must_be_zero_of
low_byte s k j l = rw (ne_eqb j 3 (λ e. omega arith), le-ltb 3 j (omega arith)) refl

pub mended-length : (s : List ℕ) → length (mended_of s) ≡ 8 * count (stays s) (records s)
unfolding mended_of
mended-length s = built-length s everywhere (stays s) (place s)

pub mended-records : (s : List ℕ) → records (mended_of s) ≡ count (stays s) (records s)
mended-records s = omega (arith, mended-length s)

module _ (s : List ℕ) (ok : Mendable s) where
  pub mended-at : (k : ℕ) → k < records s → stays s k ≡ true → (j : ℕ) → j < 8
      → byte_at (mended_of s) (place s k) j ≡ byte_from s everywhere k j
  unfolding mended_of
  mended-at k l e j h =
      built-byte s everywhere (stays s) (place s) (place s k) j (place-within s ok k l e) h ∙ ap (λ (x : ℕ). byte_from s everywhere x j) (source-place s ok k l e)

  pub origin : (i : ℕ) → i < records (mended_of s) → Origin s i
  origin i l =
      let r = landed s ok i (omega (arith, mended-records s)) in
      let k = r.0 in
      record { number = k; within = r.1; stayed = r.2; put = r.3; bytes = rw r.3 at (mended-at k r.1 r.2) }

  module _ (i : ℕ) (o : Origin s i) where
    pub low_same : (j : ℕ) → j < 3 → byte_at (mended_of s) i j ≡ byte_at s o.number j
    low_same j l = o.bytes j (omega arith) ∙ low_byte s o.number j l

    pub order_same : order (mended_of s) i ≡ order s o.number
    unfolding order
    order_same = ap order_of (low_same 0 (lit< tt))

    pub kind-same : (r : ℕ) → is_order (mended_of s) r i ≡ is_order s r o.number
    unfolding is_order
    kind-same r = ap (λ (x : ℕ). eqb x r) order_same

    pub key-same : key_at (mended_of s) i ≡ key_at s o.number
    unfolding key_at
    key-same = ap₂ (λ (x y : ℕ). 256 * x + y) (low_same 1 (lit< tt)) (low_same 2 (lit< tt))

    loop-same : loop (mended_of s) i ≡ loop s o.number
    unfolding loop
    loop-same = rw (kind-same 2, low_same 1 (lit< tt), low_same 2 (lit< tt)) refl

    pub no_loop : loop (mended_of s) i ≡ false
    unfolding stays
    no_loop = loop-same ∙ not-is-true (loop s o.number) (left-of (not (loop s o.number)) (not (double s o.number)) o.stayed)

    zero_same : (j : ℕ) → must_be_zero_of (mended_of s) i j ≡ must_be_zero_of s o.number j
    unfolding must_be_zero_of
    zero_same j = rw (kind-same 1) refl

    cleared : (j : ℕ) → j < 8 → must_be_zero_of s o.number j ≡ true → byte_at (mended_of s) i j ≡ 0
    unfolding byte_from everywhere
    cleared j l e = o.bytes j l ∙ rw e refl

    pub no_stray : stray (mended_of s) i ≡ false
    unfolding stray stray_at
    no_stray =
        not-true (stray (mended_of s) i)
        (λ t.
        let r = any_elim (stray_at (mended_of s) i) 8 t in
        let j = r.0 in
        let z = left-of (must_be_zero_of (mended_of s) i j) (not (eqb (byte_at (mended_of s) i j) 0)) r.2 in
        let w = not-is-true (eqb (byte_at (mended_of s) i j) 0) (right_of (must_be_zero_of (mended_of s) i j) (not (eqb (byte_at (mended_of s) i j) 0)) r.2) in
        eqb-false (byte_at (mended_of s) i j) 0 w (cleared j r.1 (sym (zero_same j) ∙ z)))

    kept_here : is_edge (mended_of s) i ≡ true → kept s o.number ≡ true
    unfolding kept
    kept_here e = both (is_edge s o.number) (stays s o.number) (sym (kind-same 2) ∙ e) o.stayed

  -- the keys ascend with the places
  pub up : (i j : ℕ) → i < j → (a : Origin s i) (b : Origin s j) → is_edge (mended_of s) i ≡ true → is_edge (mended_of s) j ≡ true
      → key_at s a.number < key_at s b.number
  up i j l a b x y = go (le-or-lt (key_at s b.number) (key_at s a.number)) (ℕ_discrete (key_at s b.number) (key_at s a.number))
    where
      go : (key_at s b.number ≤ key_at s a.number) ⊎ (key_at s a.number < key_at s b.number) → Dec (key_at s b.number ≡ key_at s a.number) → key_at s a.number < key_at s b.number
      go (inr h) d = h
      go (inl h) d = absurd (worse d)
        where
          pu : place s a.number ≡ heads s + rank s a.number
          pu = place-edge s a.number (sym (kind-same i a 2) ∙ x)

          pv : place s b.number ≡ heads s + rank s b.number
          pv = place-edge s b.number (sym (kind-same j b 2) ∙ y)

          worse : Dec (key_at s b.number ≡ key_at s a.number) → ⊥
          worse (yes e) =
              let q : b.number ≡ a.number = distinct s (records s) b.number a.number b.within a.within (kept_here j b y) (kept_here i a x) e in
              omega (arith, ap (place s) q, a.put, b.put)
          worse (no e) = omega (arith, key-order s ok b.number a.number b.within (kept_here j b y) (omega arith), pu, pv, a.put, b.put)

  pub mended_tidy : Tidy (mended_of s)
  mended_tidy =
      record {
        clean = λ i l. no_stray i (origin i l);
        straight = λ i l. no_loop i (origin i l);
        ascending = λ i j l b x y.
            let a : i < records (mended_of s) = omega arith in
            rw (key-same i (origin i a), key-same j (origin j b)) (up i j l (origin i a) (origin j b) x y);
      }

  known-here : (i : ℕ) → i < records (mended_of s) → unknown (mended_of s) i ≡ false
  unfolding unknown
  known-here i l = rw (order_same i (origin i l)) (ok.known (origin i l).number (origin i l).within)

  order-known : (i : ℕ) → i < records (mended_of s) → order (mended_of s) i < 3
  unfolding unknown
  order-known i l = omega (arith, order_below (mended_of s) i, eqb-false (order (mended_of s) i) 3 (known-here i l))

  -- a record that is no edge stands where it stood, and so do those before it
  pub stood : (i : ℕ) (o : Origin s i) → is_edge s o.number ≡ false → o.number ≡ i
  stood i o e = sym (place-head s o.number e) ∙ o.put

  before_head : (i j : ℕ) → j < i → (a : Origin s i) (b : Origin s j) → is_edge s a.number ≡ false → is_edge s b.number ≡ false
  before_head i j l a b e =
      not-true (is_edge s b.number)
      (λ t. omega (arith, place-edge s b.number t, b.put, stood i a e, head-low s ok a.number a.within e))

  not_before : (i j : ℕ) → j < i → i < records (mended_of s) → order (mended_of s) j ≤ order (mended_of s) i
  not_before i j l h = go (cases (is_edge s a.number))
    where
      k : j < records (mended_of s)
      k = omega arith

      a : Origin s i
      a = origin i h

      b : Origin s j
      b = origin j k

      edge-two : is_edge s a.number ≡ true → order s a.number ≡ 2
      edge-two e = unfold is_order in eqb-true (order s a.number) 2 e

      go : (is_edge s a.number ≡ true) ⊎ (is_edge s a.number ≡ false) → order (mended_of s) j ≤ order (mended_of s) i
      go (inl e) = omega (arith, order-known j k, order_same i a, edge-two e)
      go (inr e) =
          let x = stood i a e in
          let y = stood j b (before_head i j l a b e) in
          let q : order s j ≤ order s i = ltb-false (order s i) (order s j) (earlier (rw x at a.within)) in
          omega (arith, order_same i a, order_same j b, ap (order s) x, ap (order s) y)
        where
          earlier : i < records s → ltb (order s i) (order s j) ≡ false
          earlier w = unfold rule3 in any_false (λ m. ltb (order s i) (order s m)) i j l (ok.sorted i w)

  pub mended-mendable : Mendable (mended_of s)
  unfolding rule1 rule3
  mended-mendable =
      let len : length (mended_of s) % 8 ≡ 0 = omega (arith, mended-length s) in
      let few : length (mended_of s) ≤ 9296 = omega (arith, mended-length s, count-le (stays s) (records s), whole-records s ok.whole, short s ok.whole) in
      record {
        whole = rw (eq-eqb (length (mended_of s) % 8) 0 len) (le-ltb 9296 (length (mended_of s)) few);
        known = known-here;
        sorted = λ i l. any_none (λ j. ltb (order (mended_of s) i) (order (mended_of s) j)) i (λ j b. le-ltb (order (mended_of s) i) (order (mended_of s) j) (not_before i j b l));
      }

  pub again_none : NoMend (mended_of s)
  again_none = tidy_none (mended_of s) mended_tidy
