-- The code looks at one record more of each kind than is allowed, and no further: that part is judged as the whole file is.
--
-- Say the types are too many: then 4 applies to both. Say the vertices are: then the types are all there, so 4 and 5 go alike, and 6
-- applies to both. Say the edges are: then 4 to 7 go alike, and 8 applies to both. Otherwise nothing was cut.
use Rattle.std.specs.Prelude.{Ok, Err}
use mathlib.Core.Path.{◌≡◌, refl, sym, ◌∙◌}
use mathlib.Core.Bool.{true, false, or-true}
use mathlib.Core.List.{List}
use mathlib.Core.Logic.{◌⊎◌, inl, inr}
use Prim.Native.Nat.{ℕ, suc, ◌+◌, ◌≤◌, ◌<◌, min}
use native.Mathlib.Decide.{ℕ_discrete}
use native.Mathlib.Omega.{arith}
use lib.ListN.{length}
use lib.Dec.{lit<, lit≤}
use borrow.Author.Tests.{lt-ltb, eq-eqb}
use Rattle.model.proofs.Bools.{le-or-lt}
use Rattle.model.proofs.Places.{count_ext}
use Rattle.graph.specs.File.{records, byte_at, word_at, order, is_order, many, ordinal}
use Rattle.graph.specs.Rules.{holds, places, rule4, rule5, rule6, rule7, rule8}
use Rattle.graph.specs.Judge.{judge_from}
use Rattle.graph.specs.Answer.{Answer}
use Rattle.graph.specs.Answer.{Accepted, Refused}
use Rattle.writer.specs.Lists.{Lists}
use Rattle.writer.specs.Write.{file_of, wrote_by, wrote_of, room_by, room_after}
use Rattle.writer.specs.Image.{part, seen}
use Rattle.writer.proofs.Acceptance.{few-types, few_vertices, few_edges}
use Rattle.writer.proofs.Alike.{Alike, alike_whole, alike_records, judged_alike}
use Rattle.graph.proofs.Judging.{judge-skip}
use Rattle.graph.proofs.Orders.{Among, type, vertex, edge, among}
use Rattle.writer.proofs.Part.{record_type, part-records, part-byte, part-types, part-vertices, part-edges, file-part, parted, part-quiet}

-- files whose first c records are the same
module _ (s t : List ℕ) (c : ℕ) (agree : (k : ℕ) → k < c → (j : ℕ) → j < 8 → byte_at s k j ≡ byte_at t k j) where
  order_same : (k : ℕ) → k < c → order s k ≡ order t k
  unfolding order
  order_same k l = rw (agree k l 0 (lit< tt)) refl

  word_same : (k : ℕ) → k < c → word_at s k ≡ word_at t k
  unfolding word_at
  word_same k l = rw (agree k l 4 (lit< tt), agree k l 5 (lit< tt), agree k l 6 (lit< tt), agree k l 7 (lit< tt)) refl

  ordinal-same : (k : ℕ) → k < c → ordinal s k ≡ ordinal t k
  unfolding ordinal is_order
  ordinal-same k l =
      rw (order_same k l) (count_ext (is_order s (order t k)) (is_order t (order t k)) k (λ j b. rw (order_same j (omega arith)) refl))

  rule5-same : (k : ℕ) → k < c → rule5 s k ≡ rule5 t k
  unfolding rule5
  rule5-same k l = rw (order_same k l, ordinal-same k l, agree k l 1 (lit< tt), agree k l 2 (lit< tt)) refl

  rule7-same : many s 0 ≡ many t 0 → (k : ℕ) → k < c → rule7 s k ≡ rule7 t k
  unfolding rule7
  rule7-same h k l = rw (order_same k l, ordinal-same k l, word_same k l, h, agree k l 1 (lit< tt), agree k l 2 (lit< tt)) refl

-- past the types 5 holds for no record, and past the vertices neither does 7
module _ (g : Lists) (a b e : ℕ) where
  rule5-past : (k : ℕ) → a ≤ k → k < records (part g a b e) → rule5 (part g a b e) k ≡ false
  unfolding rule5
  rule5-past k h l = go (among a b k)
    where
      go : Among a b k → rule5 (part g a b e) k ≡ false
      go (type x) = absurd (omega arith)
      go (vertex x y) = rw ((parted g a b e).vertices k x y) refl
      go (edge x) = rw ((parted g a b e).edges k x (omega (arith, part-records g a b e))) refl

  rule7-past : (k : ℕ) → a + b ≤ k → k < records (part g a b e) → rule7 (part g a b e) k ≡ false
  unfolding rule7
  rule7-past k h l = rw ((parted g a b e).edges k h (omega (arith, part-records g a b e))) refl

-- what goes alike where the types are all there, and where the vertices are too
module _ (g : Lists) (a b e b' e' : ℕ) where
  types-agree : (k : ℕ) → k < a → (j : ℕ) → j < 8 → byte_at (part g a b e) k j ≡ byte_at (part g a b' e') k j
  types-agree k l j h =
      rw (part-byte g a b e k j (omega arith) h, part-byte g a b' e' k j (omega arith) h, record_type g a b k l, record_type g a b' k l) refl

  alike-4 : Alike (part g a b e) (part g a b' e') 4
  unfolding holds rule4
  alike-4 = alike_whole _ _ 4 refl (rw (part-types g a b e, part-types g a b' e') refl)

  alike-5 : Alike (part g a b e) (part g a b' e') 5
  unfolding holds
  alike-5 =
      alike_records (part g a b e) (part g a b' e') 5 refl a (omega (arith, part-records g a b e)) (omega (arith, part-records g a b' e'))
      (rule5-same (part g a b e) (part g a b' e') a types-agree) (rule5-past g a b e) (rule5-past g a b' e')

module _ (g : Lists) (a b e e' : ℕ) where
  records-agree : (k : ℕ) → k < a + b → (j : ℕ) → j < 8 → byte_at (part g a b e) k j ≡ byte_at (part g a b e') k j
  records-agree k l j h = part-byte g a b e k j (omega arith) h ∙ sym (part-byte g a b e' k j (omega arith) h)

  alike-6 : Alike (part g a b e) (part g a b e') 6
  unfolding holds rule6
  alike-6 = alike_whole _ _ 6 refl (rw (part-vertices g a b e, part-vertices g a b e') refl)

  alike-7 : Alike (part g a b e) (part g a b e') 7
  unfolding holds
  alike-7 =
      alike_records (part g a b e) (part g a b e') 7 refl (a + b) (omega (arith, part-records g a b e)) (omega (arith, part-records g a b e'))
      (rule7-same (part g a b e) (part g a b e') (a + b) records-agree (part-types g a b e ∙ sym (part-types g a b e')))
      (rule7-past g a b e) (rule7-past g a b e')

-- ---- too many of a kind, in both

module _ (s t : List ℕ) where
  only : Alike s t 4 → (j : ℕ) → 4 ≤ j → j ≤ 4 → Alike s t j
  only x j f l = let e : j ≡ 4 = omega arith in rw e x

  further : (n : ℕ) → ((j : ℕ) → 4 ≤ j → j ≤ n → Alike s t j) → Alike s t (suc n) → (j : ℕ) → 4 ≤ j → j ≤ suc n → Alike s t j
  further n h x j f l = go (ℕ_discrete j (suc n))
    where
      go : Dec (j ≡ suc n) → Alike s t j
      go (yes e) = rw e x
      go (no d) = h j f (omega arith)

many-types : (s : List ℕ) → 10 < many s 0 → holds s 4 0 ≡ true
unfolding holds rule4
many-types s h = rw (lt-ltb 10 (many s 0) h, or-true) refl

many-vertices : (s : List ℕ) → 128 < many s 1 → holds s 6 0 ≡ true
unfolding holds rule6
many-vertices s h = rw (lt-ltb 128 (many s 1) h, or-true) refl

many-edges : (s : List ℕ) → 1024 < many s 2 → holds s 8 0 ≡ true
unfolding holds rule8
many-edges s h = lt-ltb 1024 (many s 2) h

module _ (g : Lists) where
  cut-types : (a b e a' b' e' : ℕ) → 10 < a → 10 < a' → judge_from 4 (part g a b e) ≡ judge_from 4 (part g a' b' e')
  unfolding places
  cut-types a b e a' b' e' x y =
      let s = part g a b e in
      let t = part g a' b' e' in
      let p = many-types s (rw (part-types g a b e) x) in
      let q = many-types t (rw (part-types g a' b' e') y) in
      judged_alike s t 4 (lit≤ tt) (lit< tt) (only s t (alike_whole s t 4 refl (p ∙ sym q))) (lit< tt) p

  cut-vertices : (a b e b' e' : ℕ) → 128 < b → 128 < b' → judge_from 4 (part g a b e) ≡ judge_from 4 (part g a b' e')
  unfolding places
  cut-vertices a b e b' e' x y =
      let s = part g a b e in
      let t = part g a b' e' in
      let p = many-vertices s (rw (part-vertices g a b e) x) in
      let q = many-vertices t (rw (part-vertices g a b' e') y) in
      judged_alike s t 6 (lit≤ tt) (lit< tt)
      (further s t 5 (further s t 4 (only s t (alike-4 g a b e b' e')) (alike-5 g a b e b' e')) (alike_whole s t 6 refl (p ∙ sym q)))
      (lit< tt) p

  cut-edges : (a b e e' : ℕ) → 1024 < e → 1024 < e' → judge_from 4 (part g a b e) ≡ judge_from 4 (part g a b e')
  unfolding places
  cut-edges a b e e' x y =
      let s = part g a b e in
      let t = part g a b e' in
      let p = many-edges s (rw (part-edges g a b e) x) in
      let q = many-edges t (rw (part-edges g a b e') y) in
      judged_alike s t 8 (lit≤ tt) (lit< tt)
      (further s t 7
      (further s t 6 (further s t 5 (further s t 4 (only s t (alike-4 g a b e b e')) (alike-5 g a b e b e')) (alike-6 g a b e e')) (alike-7 g a b e e'))
      (alike_whole s t 8 refl (p ∙ sym q)))
      (lit< tt) p

-- ---- what the code looks at

module _ (g : Lists) (a b e : ℕ) where
  cut-part : judge_from 4 (part g (min a 11) (min b 129) (min e 1025)) ≡ judge_from 4 (part g a b e)
  cut-part = go (le-or-lt a 11) (le-or-lt b 129) (le-or-lt e 1025)
    where
      go : (a ≤ 11) ⊎ (11 < a) → (b ≤ 129) ⊎ (129 < b) → (e ≤ 1025) ⊎ (1025 < e)
          → judge_from 4 (part g (min a 11) (min b 129) (min e 1025)) ≡ judge_from 4 (part g a b e)
      go (inr x) y z = cut-types g (min a 11) (min b 129) (min e 1025) a b e (omega arith) (omega arith)
      go (inl x) (inr y) z =
          let k : min a 11 ≡ a = omega arith in
          rw k (cut-vertices g a (min b 129) (min e 1025) b e (omega arith) (omega arith))
      go (inl x) (inl y) (inr z) =
          let k : min a 11 ≡ a = omega arith in
          let m : min b 129 ≡ b = omega arith in
          rw (k, m) (cut-edges g a b (min e 1025) e (omega arith) (omega arith))
      go (inl x) (inl y) (inl z) =
          let k : min a 11 ≡ a = omega arith in
          let m : min b 129 ≡ b = omega arith in
          let n : min e 1025 ≡ e = omega arith in
          rw (k, m, n) refl

  -- where it is accepted, nothing was cut
  uncut-part : judge_from 4 (part g (min a 11) (min b 129) (min e 1025)) ≡ Accepted → part g (min a 11) (min b 129) (min e 1025) ≡ part g a b e
  uncut-part h =
      let s = part g (min a 11) (min b 129) (min e 1025) in
      let x = few-types s h in
      let y = few_vertices s h in
      let z = few_edges s h in
      let k : min a 11 ≡ a = omega (arith, part-types g (min a 11) (min b 129) (min e 1025)) in
      let m : min b 129 ≡ b = omega (arith, part-vertices g (min a 11) (min b 129) (min e 1025)) in
      let n : min e 1025 ≡ e = omega (arith, part-edges g (min a 11) (min b 129) (min e 1025)) in
      rw (k, m, n) refl

pub cut : (g : Lists) → judge_from 4 (seen g) ≡ judge_from 4 (file_of g)
unfolding seen
cut g = rw (file-part g) (cut-part g (length g.cores) (length g.kinds) (length g.edges))

uncut : (g : Lists) → judge_from 4 (seen g) ≡ Accepted → seen g ≡ file_of g
unfolding seen
uncut g h = rw (file-part g) (uncut-part g (length g.cores) (length g.kinds) (length g.edges) h)

-- the numbers 2 and 3 apply to no such file, so that judging from 2 on is judging from 4 on
from-two : (g : Lists) → judge_from 2 (seen g) ≡ judge_from 4 (seen g)
unfolding seen
from-two g = judge-skip 2 4 (seen g) (lit≤ tt) (lit≤ tt) (part-quiet g (min (length g.cores) 11) (min (length g.kinds) 129) (min (length g.edges) 1025))

-- the answer, and what the room holds, from what the code looks at
module _ (g : Lists) (as_many : length g.kinds ≡ length g.wcets) where
  pub wrote-cut : (room : ℕ) → wrote_by (judge_from 2 (seen g)) (length (seen g)) room ≡ wrote_of g room
  unfolding wrote_of
  wrote-cut room = rw (from-two g, eq-eqb (length g.kinds) (length g.wcets) as_many, ← cut g) (go (judge_from 4 (seen g)) refl)
    where
      go : (x : Answer) → judge_from 4 (seen g) ≡ x → wrote_by x (length (seen g)) room ≡ wrote_by x (length (file_of g)) room
      go (Ok _) e = rw (uncut g e) refl
      go (Err r) e = refl

  pub room_cut : (out : List ℕ) → room_by (wrote_by (judge_from 2 (seen g)) (length (seen g)) (length out)) (seen g) out ≡ room_after g out
  unfolding room_after
  room_cut out = rw (← wrote-cut (length out), from-two g) (go (judge_from 4 (seen g)) refl)
    where
      go : (x : Answer) → judge_from 4 (seen g) ≡ x → room_by (wrote_by x (length (seen g)) (length out)) (seen g) out ≡ room_by (wrote_by x (length (seen g)) (length out)) (file_of g) out
      go (Ok _) e = rw (uncut g e) refl
      go (Err r) e = refl
