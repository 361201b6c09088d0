-- What the reader says of a mended file, by what it says of the file that was mended. Types and vertices stand as they stood, so the
-- numbers 4 to 7 say of the mended file what they said before; 8 counts the kept edges; 9 is left with undeclared ends.
--
--   quiet              of the mended file of a repairable one no number up to 10 holds anywhere
--   mended-accepted    and its edges are the kept edges: the reader accepts it
use mathlib.Core.Path.{◌≡◌, refl, sym, ap, ◌∙◌}
use mathlib.Core.Logic.{◌⊎◌, inl, inr}
use mathlib.Core.Bool.{Bool, true, false, not, ◌&&◌, ◌||◌}
use mathlib.Core.List.{List}
use Prim.Native.Nat.{ℕ, zero, suc, ◌+◌, ◌*◌, ◌/◌, ◌%◌, ◌≤◌, ◌<◌}
use native.Mathlib.Omega.{arith}
use native.Mathlib.Decide.{ℕ_discrete}
use lib.Dec.{eqb, ltb, leb, lit<, lit≤}
use lib.ListN.{get_or, get_or-eq_default}
use borrow.Author.Tests.{lt-ltb, le-ltb, leb-true, eq-eqb, ne_eqb, eqb-true}
use Rattle.model.specs.Places.{pick, count, any}
use Rattle.model.specs.Graph.{Edge}
use Rattle.model.proofs.Bools.{cases, le-or-lt, not-true, true-not, both, left-of, right_of, or_cases}
use Rattle.model.proofs.Places.{count_ext, any_intro}
use Rattle.model.proofs.Turns.{count_past}
use Rattle.model.proofs.Cycles.{walk_cyclic, walk_within}
use Rattle.graph.specs.File.{records, byte_at, word_at, order, is_order, many, ordinal, graph_of}
use Rattle.graph.specs.Model.{as_model}
use Rattle.graph.specs.Rules.{holds, places, rule4, rule5, rule6, rule7, rule8, rule9, rule11}
use Rattle.graph.specs.Judge.{judge_from}
use Rattle.graph.specs.Answer.{Accepted}
use Rattle.graph.proofs.Judging.{all_fit, accepts}
use Rattle.graph.proofs.Orders.{edge-record}
use Rattle.graph.proofs.Edges.{edge-place}
use Rattle.graph.proofs.Accepted.{from_at, to_at, well_formed}
use Rattle.mends.specs.Mends.{must_be_zero_of, is_edge, stays, kept}
use Rattle.mends.specs.Mended.{no_edge, heads, byte_from, everywhere, mended_of}
use Rattle.mends.specs.Answers.{Mendable}
use Rattle.mends.specs.Repairable.{joins_kept, kept_graph, Repairable}
use Rattle.mends.proofs.Landing.{size, heads-few, place-edge, head-low, edge-high, high-edge}
use Rattle.mends.proofs.Tidy.{count_under, halves}
use Rattle.mends.proofs.Again.{Origin, origin, mended-length, mended-records, low_same, order_same, kind-same, stood, mended-mendable}
use Rattle.mends.proofs.Reader.{mended_2, mended_9, mended_10}

-- what is so of each of the numbers 1 to 10
each : (P : ℕ → Type 0) → P 1 → P 2 → P 3 → P 4 → P 5 → P 6 → P 7 → P 8 → P 9 → P 10 → (num : ℕ) → 1 ≤ num → num < 11 → P num
each P a b c d e f g h i j zero x y = absurd (omega arith)
each P a b c d e f g h i j (suc zero) x y = a
each P a b c d e f g h i j (suc (suc zero)) x y = b
each P a b c d e f g h i j (suc (suc (suc zero))) x y = c
each P a b c d e f g h i j (suc (suc (suc (suc zero)))) x y = d
each P a b c d e f g h i j (suc (suc (suc (suc (suc zero))))) x y = e
each P a b c d e f g h i j (suc (suc (suc (suc (suc (suc zero)))))) x y = f
each P a b c d e f g h i j (suc (suc (suc (suc (suc (suc (suc zero))))))) x y = g
each P a b c d e f g h i j (suc (suc (suc (suc (suc (suc (suc (suc zero)))))))) x y = h
each P a b c d e f g h i j (suc (suc (suc (suc (suc (suc (suc (suc (suc zero))))))))) x y = i
each P a b c d e f g h i j (suc (suc (suc (suc (suc (suc (suc (suc (suc (suc zero)))))))))) x y = j
each P a b c d e f g h i j (suc (suc (suc (suc (suc (suc (suc (suc (suc (suc (suc n))))))))))) x y = absurd (omega arith)

-- a record of one order is of no other
other_order : (s : List ℕ) (k a b : ℕ) → (a ≡ b → ⊥) → is_order s a k ≡ true → is_order s b k ≡ false
unfolding is_order
other_order s k a b d e = ne_eqb (order s k) b (λ q. d (sym (eqb-true (order s k) a e) ∙ q))

module _ (s : List ℕ) (ok : Mendable s) where
  head-many : heads s ≤ records (mended_of s)
  head-many = omega (arith, size s, mended-records s)

  -- below `heads` stands what stood there, from `heads` on stand edges
  head-origin : (i : ℕ) → i < heads s → (o : Origin s i) → o.number ≡ i
  head-origin i l o = go (cases (is_edge s o.number))
    where
      go : (is_edge s o.number ≡ true) ⊎ (is_edge s o.number ≡ false) → o.number ≡ i
      go (inl e) = absurd (omega (arith, place-edge s o.number e, o.put))
      go (inr e) = stood s ok i o e

  edge-origin : (i : ℕ) → heads s ≤ i → (o : Origin s i) → is_edge s o.number ≡ true
  edge-origin i l o = go (cases (is_edge s o.number))
    where
      go : (is_edge s o.number ≡ true) ⊎ (is_edge s o.number ≡ false) → is_edge s o.number ≡ true
      go (inl e) = e
      go (inr e) = absurd (omega (arith, stood s ok i o e, head-low s ok o.number o.within e))

  module _ (i : ℕ) (l : i < heads s) where
    here : Origin s i
    here = origin s ok i (omega (arith, head-many))

    pub head-order : order (mended_of s) i ≡ order s i
    head-order = order_same s ok i here ∙ ap (order s) (head-origin i l here)

    pub head-kind : (r : ℕ) → is_order (mended_of s) r i ≡ is_order s r i
    head-kind r = kind-same s ok i here r ∙ ap (is_order s r) (head-origin i l here)

    pub head_byte : (j : ℕ) → j < 3 → byte_at (mended_of s) i j ≡ byte_at s i j
    head_byte j b = low_same s ok i here j b ∙ ap (λ (x : ℕ). byte_at s x j) (head-origin i l here)

    late : (j : ℕ) → 3 < j → j < 8 → is_order s 1 i ≡ true → byte_at (mended_of s) i j ≡ byte_at s i j
    unfolding byte_from everywhere must_be_zero_of
    late j a b e = here.bytes j b ∙ rw (head-origin i l here, e, ne_eqb j 3 (λ q. omega arith), lt-ltb 3 j a) refl

    pub head-word : is_order s 1 i ≡ true → word_at (mended_of s) i ≡ word_at s i
    unfolding word_at
    head-word e = rw (late 4 (lit< tt) (lit< tt) e, late 5 (lit< tt) (lit< tt) e, late 6 (lit< tt) (lit< tt) e, late 7 (lit< tt) (lit< tt) e) refl

  pub head-ordinal : (i : ℕ) → i < heads s → ordinal (mended_of s) i ≡ ordinal s i
  unfolding ordinal
  head-ordinal i l =
      rw (head-order i l)
      (count_ext (is_order (mended_of s) (order s i)) (is_order s (order s i)) i (λ j b. head-kind j (omega arith) (order s i)))

  -- as many types and vertices as before, and the kept edges
  pub many-heads : (r : ℕ) → (2 ≡ r → ⊥) → many (mended_of s) r ≡ many s r
  unfolding many
  many-heads r d =
      count_past (is_order (mended_of s) r) (heads s) (records (mended_of s)) head-many (λ k a b. edge-there k a (origin s ok k b))
      ∙ count_ext (is_order (mended_of s) r) (is_order s r) (heads s) (λ i l. head-kind i l r)
      ∙ sym (count_past (is_order s r) (heads s) (records s) (heads-few s) (λ k a b. other_order s k 2 r d (edge_here k a b)))
    where
      edge-there : (k : ℕ) → heads s ≤ k → Origin s k → is_order (mended_of s) r k ≡ false
      edge-there k a o = kind-same s ok k o r ∙ other_order s o.number 2 r d (edge-origin k a o)

      edge_here : (k : ℕ) → heads s ≤ k → k < records s → is_edge s k ≡ true
      edge_here k a b = high-edge s ok k b a

  head-test : (i : ℕ) → i < records (mended_of s) → no_edge (mended_of s) i ≡ ltb i (heads s)
  unfolding no_edge
  head-test i b = go (le-or-lt (heads s) i)
    where
      o : Origin s i
      o = origin s ok i b

      go : (heads s ≤ i) ⊎ (i < heads s) → not (is_edge (mended_of s) i) ≡ ltb i (heads s)
      go (inl a) = rw (kind-same s ok i o 2, edge-origin i a o, le-ltb i (heads s) a) refl
      go (inr a) = rw (lt-ltb i (heads s) a) (true-not (is_edge (mended_of s) i) (not-true (is_edge (mended_of s) i) (λ t. omega (arith, edge-high s ok i (omega (arith, heads-few s)) (sym (head-kind i a 2) ∙ t)))))

  pub many-edges : many (mended_of s) 2 ≡ count (kept s) (records s)
  unfolding many
  many-edges =
      omega (arith, halves (mended_of s) (records (mended_of s)), size s, mended-records s, count_ext (no_edge (mended_of s)) (λ i. ltb i (heads s)) (records (mended_of s)) head-test, count_under (heads s) (records (mended_of s)) head-many)

  -- ---- the numbers 4 to 9

  pub mended_4 : rule4 (mended_of s) ≡ rule4 s
  unfolding rule4
  mended_4 = rw (many-heads 0 (λ e. omega arith)) refl

  pub mended_6 : rule6 (mended_of s) ≡ rule6 s
  unfolding rule6
  mended_6 = rw (many-heads 1 (λ e. omega arith)) refl

  pub mended_5 : (i : ℕ) → i < heads s → rule5 (mended_of s) i ≡ rule5 s i
  unfolding rule5
  mended_5 i l = rw (head-order i l, head_byte i l 1 (lit< tt), head_byte i l 2 (lit< tt), head-ordinal i l) refl

  pub mended_7 : (i : ℕ) → i < heads s → rule7 (mended_of s) i ≡ rule7 s i
  unfolding rule7 is_order
  mended_7 i l = go (cases (eqb (order s i) 1))
    where
      go : (eqb (order s i) 1 ≡ true) ⊎ (eqb (order s i) 1 ≡ false) → rule7 (mended_of s) i ≡ rule7 s i
      go (inl e) = rw (head-order i l, head_byte i l 1 (lit< tt), head_byte i l 2 (lit< tt), head-ordinal i l, many-heads 0 (λ q. omega arith), head-word i l e) refl
      go (inr e) = rw (head-order i l, e) refl

  edge-two : (i : ℕ) → heads s ≤ i → i < records (mended_of s) → order (mended_of s) i ≡ 2
  unfolding is_order
  edge-two i a b = eqb-true (order (mended_of s) i) 2 (kind-same s ok i (origin s ok i b) 2 ∙ edge-origin i a (origin s ok i b))

  pub edge_5 : (i : ℕ) → heads s ≤ i → i < records (mended_of s) → rule5 (mended_of s) i ≡ false
  unfolding rule5
  edge_5 i a b = rw (edge-two i a b) refl

  pub edge_7 : (i : ℕ) → heads s ≤ i → i < records (mended_of s) → rule7 (mended_of s) i ≡ false
  unfolding rule7
  edge_7 i a b = rw (edge-two i a b) refl

module _ (s : List ℕ) (fit : Repairable s) where
  five : (k : ℕ) → k < records (mended_of s) → rule5 (mended_of s) k ≡ false
  five k l = go (le-or-lt (heads s) k)
    where
      go : (heads s ≤ k) ⊎ (k < heads s) → rule5 (mended_of s) k ≡ false
      go (inl a) = edge_5 s fit.mendable k a l
      go (inr a) = mended_5 s fit.mendable k a ∙ fit.kinds_right k (omega (arith, heads-few s))

  seven : (k : ℕ) → k < records (mended_of s) → rule7 (mended_of s) k ≡ false
  seven k l = go (le-or-lt (heads s) k)
    where
      go : (heads s ≤ k) ⊎ (k < heads s) → rule7 (mended_of s) k ≡ false
      go (inl a) = edge_7 s fit.mendable k a l
      go (inr a) = mended_7 s fit.mendable k a ∙ fit.vertices_right k (omega (arith, heads-few s))

  eight : rule8 (mended_of s) ≡ false
  unfolding rule8
  eight = le-ltb 1024 (many (mended_of s) 2) (omega (arith, many-edges s fit.mendable, fit.edges_fit))

  nine : (k : ℕ) → k < records (mended_of s) → rule9 (mended_of s) k ≡ false
  unfolding kept
  nine k l = mended_9 s fit.mendable k l ∙ not-true (is_edge (mended_of s) k && (leb (many (mended_of s) 1) (byte_at (mended_of s) k 1) || leb (many (mended_of s) 1) (byte_at (mended_of s) k 2))) bad
    where
      o : Origin s k
      o = origin s fit.mendable k l

      ends : is_edge (mended_of s) k ≡ true → (leb (many (mended_of s) 1) (byte_at (mended_of s) k 1) ≡ true) ⊎ (leb (many (mended_of s) 1) (byte_at (mended_of s) k 2) ≡ true) → ⊥
      ends e c = go c
        where
          keeps : kept s o.number ≡ true
          keeps = both (is_edge s o.number) (stays s o.number) (sym (kind-same s fit.mendable k o 2) ∙ e) o.stayed

          go : (leb (many (mended_of s) 1) (byte_at (mended_of s) k 1) ≡ true) ⊎ (leb (many (mended_of s) 1) (byte_at (mended_of s) k 2) ≡ true) → ⊥
          go (inl q) = omega (arith, leb-true (many (mended_of s) 1) (byte_at (mended_of s) k 1) q, many-heads s fit.mendable 1 (λ z. omega arith), low_same s fit.mendable k o 1 (lit< tt), fit.from_declared o.number o.within keeps)
          go (inr q) = omega (arith, leb-true (many (mended_of s) 1) (byte_at (mended_of s) k 2) q, many-heads s fit.mendable 1 (λ z. omega arith), low_same s fit.mendable k o 2 (lit< tt), fit.to_declared o.number o.within keeps)

      bad : is_edge (mended_of s) k && (leb (many (mended_of s) 1) (byte_at (mended_of s) k 1) || leb (many (mended_of s) 1) (byte_at (mended_of s) k 2)) ≡ true → ⊥
      bad t =
          ends (left-of (is_edge (mended_of s) k) (leb (many (mended_of s) 1) (byte_at (mended_of s) k 1) || leb (many (mended_of s) 1) (byte_at (mended_of s) k 2)) t)
          (or_cases (leb (many (mended_of s) 1) (byte_at (mended_of s) k 1)) (leb (many (mended_of s) 1) (byte_at (mended_of s) k 2)) (right_of (is_edge (mended_of s) k) (leb (many (mended_of s) 1) (byte_at (mended_of s) k 1) || leb (many (mended_of s) 1) (byte_at (mended_of s) k 2)) t))

  -- none of the numbers up to 10 holds anywhere in the mended file
  pub quiet : (num : ℕ) → 1 ≤ num → num < 11 → (k : ℕ) → k < places (mended_of s) num → holds (mended_of s) num k ≡ false
  unfolding places holds
  quiet =
      each (λ num. (k : ℕ) → k < places (mended_of s) num → holds (mended_of s) num k ≡ false)
      (λ k l. (mended-mendable s fit.mendable).whole)
      (λ k l. mended_2 s fit.mendable k l)
      (mended-mendable s fit.mendable).sorted
      (λ k l. mended_4 s fit.mendable ∙ fit.kinds_fit)
      five
      (λ k l. mended_6 s fit.mendable ∙ fit.vertices_fit)
      seven
      (λ k l. eight)
      nine
      (λ k l. mended_10 s fit.mendable k l)

  -- ---- no cycle, where the kept edges have none

  module _ (bytes : (i : ℕ) → get_or s i 0 < 256) where
    still-bytes : (p : ℕ) → get_or (mended_of s) p 0 < 256
    still-bytes p = go (le-or-lt (records (mended_of s)) (p / 8))
      where
        go : (records (mended_of s) ≤ p / 8) ⊎ (p / 8 < records (mended_of s)) → get_or (mended_of s) p 0 < 256
        go (inl h) = rw (get_or-eq_default (mended_of s) 0 {n = p} (omega (arith, mended-length s))) (lit< tt)
        go (inr h) =
            let d : 8 * (p / 8) + p % 8 ≡ p = omega arith in
            rw d at (small (origin s fit.mendable (p / 8) h))
          where
            small : Origin s (p / 8) → byte_at (mended_of s) (p / 8) (p % 8) < 256
            small o = unfold byte_from in
                rw (o.bytes (p % 8) (omega arith)) (either (everywhere o.number && must_be_zero_of s o.number (p % 8)))
              where
                either : (b : Bool) → pick b 0 (byte_at s o.number (p % 8)) < 256
                either true = lit< tt
                either false = bytes (8 * o.number + p % 8)

    later : (num : ℕ) → 2 ≤ num → num < 11 → (k : ℕ) → k < places (mended_of s) num → holds (mended_of s) num k ≡ false
    later num a b = quiet num (omega arith) b

    -- each edge of the mended file's graph is a kept edge
    edge_kept : (u v : ℕ) → Edge (as_model (graph_of (mended_of s))) u v → Edge (kept_graph s) u v
    unfolding kept_graph graph_of
    edge_kept u v e =
        let r = edge-place (graph_of (mended_of s)) u v e in
        let i = r.place in
        let k = many (mended_of s) 0 + many (mended_of s) 1 + i in
        let l : k < records (mended_of s) = omega (arith, all_fit (mended_of s), r.within) in
        let two = edge-record (mended_of s) (mended-mendable s fit.mendable).sorted (mended_2 s fit.mendable) k l (omega arith) in
        at u v k (origin s fit.mendable k l) two
        (sym (from_at (mended_of s) still-bytes later i r.within) ∙ r.is-from) (sym (to_at (mended_of s) still-bytes later i r.within) ∙ r.is-to)
      where
        at : (u v k : ℕ) → (o : Origin s k) → order (mended_of s) k ≡ 2 → byte_at (mended_of s) k 1 ≡ u → byte_at (mended_of s) k 2 ≡ v → any (joins_kept s u v) (records s) ≡ true
        at u v k o two a b = unfold joins_kept kept is_order in
            let j = o.number in
            let edge : is_edge s j ≡ true = sym (kind-same s fit.mendable k o 2) ∙ eq-eqb (order (mended_of s) k) 2 two in
            let x : byte_at s j 1 ≡ u = sym (low_same s fit.mendable k o 1 (lit< tt)) ∙ a in
            let y : byte_at s j 2 ≡ v = sym (low_same s fit.mendable k o 2 (lit< tt)) ∙ b in
            any_intro (joins_kept s u v) (records s) j o.within
            (both (kept s j) (eqb (byte_at s j 1) u && eqb (byte_at s j 2) v) (both (is_edge s j) (stays s j) edge o.stayed) (both (eqb (byte_at s j 1) u) (eqb (byte_at s j 2) v) (eq-eqb (byte_at s j 1) u x) (eq-eqb (byte_at s j 2) v y)))

    eleven : rule11 (mended_of s) ≡ false
    unfolding rule11
    eleven =
        not-true (rule11 (mended_of s))
        (λ t.
        let c = walk_cyclic (well_formed (mended_of s) still-bytes later) t in
        fit.no_cycle c.0 (walk_within edge_kept c.1))

    -- THEOREM. Where the only faults of a file are stray bytes, edges from a vertex to itself, doubles and disorder, the reader accepts the
    -- mended file.
    pub mended-accepted : judge_from 1 (mended_of s) ≡ Accepted
    mended-accepted = accepts 1 (mended_of s) (lit≤ tt) (λ num k a b d. all num k a b d (ℕ_discrete num 11))
      where
        all : (num k : ℕ) → 1 ≤ num → num < 12 → k < places (mended_of s) num → Dec (num ≡ 11) → holds (mended_of s) num k ≡ false
        all num k a b d (yes e) = unfold holds in rw e eleven
        all num k a b d (no e) = quiet num a (omega arith) k d
