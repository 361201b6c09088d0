-- The list is ordered by record number, then C, D, X, M; so a record has one entry of a letter at most.
--
-- The list is one row of entries, four for each record, of which those are left out that are not due. So an entry's place is how many are
-- due before it in that row, and places ascend with the row.
--
--   entry_found       each record of the list is that of a mend that is done
--   entries_ascend    and they stand in order
use mathlib.Core.Path.{◌≡◌, refl, sym, ap, ◌∙◌}
use mathlib.Core.Logic.{◌⊎◌, inl, inr}
use mathlib.Core.Bool.{Bool, true}
use mathlib.Core.List.{List, [], ◌++◌, append_assoc}
use Prim.Native.Nat.{ℕ, zero, suc, ◌+◌, ◌*◌, ◌/◌, ◌%◌, ◌≤◌, ◌<◌}
use native.Mathlib.Omega.{arith}
use native.Mathlib.Decide.{ℕ_discrete}
use lib.Dec.{eqb, lit<}
use lib.ListN.{length, get_or, length-append}
use Rattle.model.specs.Places.{pick, count}
use Rattle.model.proofs.Bools.{le-or-lt}
use Rattle.model.proofs.Places.{count-nth, count-there, count-up}
use Rattle.graph.specs.File.{records, byte_at}
use Rattle.mends.specs.Mends.{Mend, clear, drop_loop, drop_double, move, due}
use Rattle.mends.specs.Listed.{letter, turn, entry, entry_if, entries, list_up_to, list_of, Says, Before}
use Rattle.mends.proofs.Listing.{front, back, entry_length}

mend_at : ℕ → Mend
mend_at zero = clear
mend_at (suc zero) = drop_loop
mend_at (suc (suc zero)) = drop_double
mend_at (suc (suc (suc n))) = move

turn_at : (x : ℕ) → x < 4 → turn (mend_at x) ≡ x
unfolding mend_at
turn_at zero l = refl
turn_at (suc zero) l = refl
turn_at (suc (suc zero)) l = refl
turn_at (suc (suc (suc zero))) l = refl
turn_at (suc (suc (suc (suc n)))) l = absurd (omega arith)

-- a letter is that of one mend
turn_of : ℕ → ℕ
turn_of l = pick (eqb l 0x43) 0 (pick (eqb l 0x44) 1 (pick (eqb l 0x58) 2 3))

turn-of : (m : Mend) → turn_of (letter m) ≡ turn m
unfolding turn_of
turn-of clear = refl
turn-of drop_loop = refl
turn-of drop_double = refl
turn-of move = refl

same-letter : (m n : Mend) → letter m ≡ letter n → turn m ≡ turn n
same-letter m n e = sym (turn-of m) ∙ ap turn_of e ∙ turn-of n

module _ (s : List ℕ) where
  due_at : ℕ → Bool
  due_at i = due s (mend_at (i % 4)) (i / 4)

  row : ℕ → List ℕ
  row zero = []
  row (suc i) = row i ++ entry_if s (mend_at (i % 4)) (i / 4)

  row_list : (n : ℕ) → row (4 * n) ≡ list_up_to s n
  unfolding row list_up_to entries mend_at
  row_list zero = refl
  row_list (suc n) =
      let e : 4 * suc n ≡ suc (suc (suc (suc (4 * n)))) = omega arith in
      let a : (4 * n) % 4 ≡ 0 = omega arith in
      let b : suc (4 * n) % 4 ≡ 1 = omega arith in
      let c : suc (suc (4 * n)) % 4 ≡ 2 = omega arith in
      let d : suc (suc (suc (4 * n))) % 4 ≡ 3 = omega arith in
      let p : (4 * n) / 4 ≡ n = omega arith in
      let q : suc (4 * n) / 4 ≡ n = omega arith in
      let r : suc (suc (4 * n)) / 4 ≡ n = omega arith in
      let t : suc (suc (suc (4 * n))) / 4 ≡ n = omega arith in
      let w : (((list_up_to s n ++ entry_if s clear n) ++ entry_if s drop_loop n) ++ entry_if s drop_double n) ++ entry_if s move n ≡ list_up_to s n ++ (entry_if s clear n ++ (entry_if s drop_loop n ++ (entry_if s drop_double n ++ entry_if s move n))) = simp append_assoc in
      rw (e, a, b, c, d, p, q, r, t, row_list n) w

  row-length : (n : ℕ) → length (row n) ≡ 8 * count due_at n
  unfolding row count due_at
  row-length zero = refl
  row-length (suc n) =
      length-append (row n) (entry_if s (mend_at (n % 4)) (n / 4)) ∙ omega (arith, row-length n, entry_length s (mend_at (n % 4)) (n / 4))

  row_at : (n i j : ℕ) → i < n → due_at i ≡ true → j < 8 → byte_at (row n) (count due_at i) j ≡ get_or (entry (mend_at (i % 4)) (i / 4)) j 0
  row_at zero i j l t h = absurd (omega arith)
  row_at (suc n) i j l t h = go (ℕ_discrete i n) (λ b. row_at n i j b t h)
    where
      last : due_at n ≡ true → byte_at (row n ++ entry_if s (mend_at (n % 4)) (n / 4)) (count due_at n + 0) j ≡ get_or (entry (mend_at (n % 4)) (n / 4)) j 0
      last t = unfold due_at entry_if in
          let o : 8 * 0 + j ≡ j = omega arith in
          back (row n) (entry_if s (mend_at (n % 4)) (n / 4)) (count due_at n) (row-length n) 0 j ∙ rw (t, o) refl

      go : Dec (i ≡ n) → (i < n → byte_at (row n) (count due_at i) j ≡ get_or (entry (mend_at (i % 4)) (i / 4)) j 0)
          → byte_at (row (suc n)) (count due_at i) j ≡ get_or (entry (mend_at (i % 4)) (i / 4)) j 0
      go (yes e) ih = unfold row in
          let z : count due_at n + 0 ≡ count due_at n = omega arith in
          ap (λ (x : ℕ). byte_at (row (suc n)) (count due_at x) j) e
          ∙ rw z at (last (rw e at t))
          ∙ ap (λ (x : ℕ). get_or (entry (mend_at (x % 4)) (x / 4)) j 0) (sym e)
      go (no e) ih = unfold row in
          front (row n) (entry_if s (mend_at (n % 4)) (n / 4)) (count due_at n) (row-length n) (count due_at i) j (omega (arith, count-there due_at i t, count-up due_at (suc i) n (omega arith))) h
          ∙ ih (omega arith)

  -- the entry at a place of the list
  record At (e : ℕ) : Type 0 where
    place : ℕ
    within : place / 4 < records s
    done : due_at place ≡ true
    before : count due_at place ≡ e
    says : Says s e (mend_at (place % 4)) (place / 4)

  whole : row (4 * records s) ≡ list_of s
  unfolding list_of
  whole = row_list (records s)

  found : (e i : ℕ) → i < 4 * records s → due_at i ≡ true → count due_at i ≡ e → At e
  found e i l t q = record {
    place = i;
    within = omega arith;
    done = t;
    before = q;
    says = λ j h.
        ap (λ (x : List ℕ). byte_at x e j) (sym whole) ∙ ap (λ (x : ℕ). byte_at (row (4 * records s)) x j) (sym q) ∙ row_at (4 * records s) i j l t h;
  }

  at : (e : ℕ) → e < records (list_of s) → At e
  at e l =
      let r = count-nth due_at (4 * records s) e (omega (arith, row-length (4 * records s), ap length whole)) in
      found e r.0 r.1 r.2 r.3

  pub entry_found : (e : ℕ) → e < records (list_of s) → (m : Mend) × (k : ℕ) × (k < records s) × (due s m k ≡ true) × Says s e m k
  unfolding due_at
  entry_found e l = let a = at e l in (mend_at (a.place % 4), a.place / 4, a.within, a.done, a.says)

  -- what an entry says tells its place in the row
  told : (e : ℕ) (a : At e) (m : Mend) (k : ℕ) → Says s e m k → (k ≡ a.place / 4) × (turn m ≡ a.place % 4)
  told e a m k h =
      let x = sym (h 0 (lit< tt)) ∙ a.says 0 (lit< tt) in
      let y = sym (h 1 (lit< tt)) ∙ a.says 1 (lit< tt) in
      let z = sym (h 2 (lit< tt)) ∙ a.says 2 (lit< tt) in
      (number k (a.place / 4) y z, same-letter m (mend_at (a.place % 4)) x ∙ turn_at (a.place % 4) (omega arith))
    where
      number : (x y : ℕ) → x % 256 ≡ y % 256 → x / 256 ≡ y / 256 → x ≡ y
      number x y a b = omega arith

  -- THEOREM. The list is ordered by record number, then C, D, X, M.
  pub entries_ascend : (e i : ℕ) → e < i → i < records (list_of s) → (m n : Mend) (k l : ℕ) → Says s e m k → Says s i n l → Before k m l n
  entries_ascend e i lt b m n k l p q = go (at e (omega arith)) (at i b)
    where
      go : At e → At i → Before k m l n
      go x y = by (le-or-lt y.place x.place)
        where
          tx : (k ≡ x.place / 4) × (turn m ≡ x.place % 4)
          tx = told e x m k p

          ty : (l ≡ y.place / 4) × (turn n ≡ y.place % 4)
          ty = told i y n l q

          by : (y.place ≤ x.place) ⊎ (x.place < y.place) → Before k m l n
          by (inl h) = absurd (omega (arith, count-up due_at y.place x.place h, x.before, y.before))
          by (inr h) = split (le-or-lt (y.place / 4) (x.place / 4))
            where
              split : (y.place / 4 ≤ x.place / 4) ⊎ (x.place / 4 < y.place / 4) → Before k m l n
              split (inr o) = inl (omega (arith, tx.0, ty.0))
              split (inl o) = inr (omega (arith, tx.0, ty.0), omega (arith, tx.1, ty.1))
