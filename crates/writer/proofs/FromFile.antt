-- The lists of an accepted file make that file again: one graph has one file.
use mathlib.Core.Path.{◌≡◌, refl, sym, ap, ◌∙◌}
use mathlib.Core.Bool.{Bool, true, false, not, ◌&&◌}
use mathlib.Core.List.{List, [], ◌∷◌}
use Prim.Native.Nat.{ℕ, zero, suc, ◌+◌, ◌-◌, ◌*◌, ◌/◌, ◌%◌, ◌≤◌, ◌<◌}
use native.Mathlib.Omega.{arith}
use lib.ListN.{length, get_or}
use lib.Seq.{ext_get_or}
use lib.Dec.{eqb, lit<, lit≤}
use borrow.Author.Tests.{eqb-true, eqb-false, ne_eqb, not-false}
use Rattle.model.specs.Places.{pick, bit, count, table}
use Rattle.model.proofs.Bools.{or_neither}
use Rattle.model.proofs.Places.{count-all}
use Rattle.model.proofs.Tables.{table-length, table_at, padded-take}
use Rattle.graph.specs.File.{records, byte_at, word_at, key_at, order, is_order, many, ordinal, column, words, keys, graph_of}
use Rattle.graph.specs.Rules.{holds, places, rule1, rule2, rule3, rule5, rule7}
use Rattle.graph.specs.Judge.{judge_from}
use Rattle.graph.specs.Answer.{Accepted}
use Rattle.graph.proofs.Judging.{none-holds}
use Rattle.graph.proofs.Orders.{kind-record, vertex-record, edge-record}
use Rattle.writer.specs.Lists.{Lists, lists_in, lists_of}
use Rattle.writer.specs.Write.{type_of, vertex_of, edge_of, joined, file_of}
use Rattle.writer.specs.Image.{record_at_of, part}
use Rattle.writer.proofs.Joined.{joined_ext, joined_length, joined_at}
use Rattle.graph.proofs.Orders.{Among, type, vertex, edge, among, count-between}
use Rattle.writer.proofs.Part.{record_type, record-vertex, record-edge, file-part}

-- ---- a list of bytes by its records

-- the bytes of record k
abbrev record_in : List ℕ → ℕ → List ℕ
record_in s k =
    byte_at s k 0 ∷ byte_at s k 1 ∷ byte_at s k 2 ∷ byte_at s k 3 ∷ byte_at s k 4 ∷ byte_at s k 5 ∷ byte_at s k 6 ∷ byte_at s k 7 ∷ []

byte_in : (s : List ℕ) (k j : ℕ) → j < 8 → get_or (record_in s k) j 0 ≡ byte_at s k j
byte_in s k zero l = refl
byte_in s k (suc zero) l = refl
byte_in s k (suc (suc zero)) l = refl
byte_in s k (suc (suc (suc zero))) l = refl
byte_in s k (suc (suc (suc (suc zero)))) l = refl
byte_in s k (suc (suc (suc (suc (suc zero))))) l = refl
byte_in s k (suc (suc (suc (suc (suc (suc zero)))))) l = refl
byte_in s k (suc (suc (suc (suc (suc (suc (suc zero))))))) l = refl
byte_in s k (suc (suc (suc (suc (suc (suc (suc (suc j)))))))) l = absurd (omega arith)

by_records : (s : List ℕ) (n : ℕ) → length s ≡ 8 * n → joined (record_in s) n ≡ s
by_records s n e =
    let m = joined_length (record_in s) (λ k. refl) n in
    ext_get_or 0 (joined (record_in s) n) s (m ∙ sym e)
    (λ p l. let x : 8 * (p / 8) + p % 8 ≡ p = omega arith in
    rw x at (joined_at (record_in s) (λ k. refl) n (p / 8) (p % 8) (omega arith) (omega arith) ∙ byte_in s (p / 8) (p % 8) (omega arith)))

-- ---- what the kinds tell

-- byte 0 from the kind
head : (s : List ℕ) (k : ℕ) → (order s k ≡ 0 → 0x54 ≡ byte_at s k 0) × (order s k ≡ 1 → 0x56 ≡ byte_at s k 0) × (order s k ≡ 2 → 0x45 ≡ byte_at s k 0)
unfolding order
head s k = go (byte_at s k 0) (eqb (byte_at s k 0) 0x54) refl (eqb (byte_at s k 0) 0x56) refl (eqb (byte_at s k 0) 0x45) refl
  where
    r : Bool → Bool → Bool → ℕ
    r x y z = pick x 0 (pick y 1 (pick z 2 3))

    go : (b : ℕ) (x : Bool) → eqb b 0x54 ≡ x → (y : Bool) → eqb b 0x56 ≡ y → (z : Bool) → eqb b 0x45 ≡ z
        → (r x y z ≡ 0 → 0x54 ≡ b) × (r x y z ≡ 1 → 0x56 ≡ b) × (r x y z ≡ 2 → 0x45 ≡ b)
    go b true e y f z g = (λ q. sym (eqb-true b 0x54 e), λ q. absurd (omega arith), λ q. absurd (omega arith))
    go b false e true f z g = (λ q. absurd (omega arith), λ q. sym (eqb-true b 0x56 f), λ q. absurd (omega arith))
    go b false e false f true g = (λ q. absurd (omega arith), λ q. absurd (omega arith), λ q. sym (eqb-true b 0x45 g))
    go b false e false f false g = (λ q. absurd (omega arith), λ q. absurd (omega arith), λ q. absurd (omega arith))

one-order : (s : List ℕ) (k : ℕ) → (order s k ≡ 3 → ⊥) → bit (is_order s 0 k) + bit (is_order s 1 k) + bit (is_order s 2 k) ≡ 1
unfolding is_order order
one-order s k h = go (eqb (byte_at s k 0) 0x54) (eqb (byte_at s k 0) 0x56) (eqb (byte_at s k 0) 0x45) h
  where
    r : Bool → Bool → Bool → ℕ
    r x y z = pick x 0 (pick y 1 (pick z 2 3))

    go : (x y z : Bool) → (r x y z ≡ 3 → ⊥) → bit (eqb (r x y z) 0) + bit (eqb (r x y z) 1) + bit (eqb (r x y z) 2) ≡ 1
    go true y z q = refl
    go false true z q = refl
    go false false true q = refl
    go false false false q = absurd (q refl)

orders_all : (s : List ℕ) (n : ℕ) → ((k : ℕ) → k < n → order s k ≡ 3 → ⊥) → count (is_order s 0) n + count (is_order s 1) n + count (is_order s 2) n ≡ n
unfolding count
orders_all s zero h = refl
orders_all s (suc n) h = omega (arith, orders_all s n (λ k l. h k (omega arith)), one-order s n (h n (omega arith)))

-- the lists, as tables of the file's bytes
abbrev tables : List ℕ → Lists
tables s = record {
  cores = table (column s 0 2) (many s 0);
  kinds = table (column s (many s 0) 2) (many s 1);
  wcets = table (words s (many s 0)) (many s 1);
  edges = table (keys s (many s 0 + many s 1)) (many s 2);
}

lists_tables : (s : List ℕ) → lists_of s ≡ tables s
unfolding lists_of lists_in graph_of
lists_tables s = simp padded-take

pub as_many : (s : List ℕ) → length (lists_of s).kinds ≡ length (lists_of s).wcets
as_many s = rw (lists_tables s) (table-length (column s (many s 0) 2) (many s 1) ∙ sym (table-length (words s (many s 0)) (many s 1)))

-- bytes 4 to 7 of record k are those of the number w, low byte first
record Word (s : List ℕ) (k w : ℕ) : Type 0 where
  low : w % 256 ≡ byte_at s k 4
  second : w / 256 % 256 ≡ byte_at s k 5
  third : w / 65536 % 256 ≡ byte_at s k 6
  high : w / 16777216 ≡ byte_at s k 7

word_bytes : (s : List ℕ) → ((i : ℕ) → get_or s i 0 < 256) → (k w : ℕ) → w ≡ word_at s k → Word s k w
unfolding word_at
word_bytes s bytes k w e =
    let p = bytes (8 * k + 4) in
    let q = bytes (8 * k + 5) in
    let r = bytes (8 * k + 6) in
    let t = bytes (8 * k + 7) in
    rw e (record { low = omega arith; second = omega arith; third = omega arith; high = omega arith })

-- ---- an accepted file

module _ (s : List ℕ) (bytes : (i : ℕ) → get_or s i 0 < 256) (ok : judge_from 1 s ≡ Accepted) where
  fits : rule1 s ≡ false
  unfolding places holds
  fits = none-holds 1 s ok 1 (lit≤ tt) (lit< tt) 0 (lit< tt)

  clean : (k : ℕ) → k < records s → rule2 s k ≡ false
  unfolding places holds
  clean k l = none-holds 1 s ok 2 (lit≤ tt) (lit< tt) k l

  sorted : (k : ℕ) → k < records s → rule3 s k ≡ false
  unfolding places holds
  sorted k l = none-holds 1 s ok 3 (lit≤ tt) (lit< tt) k l

  types-fine : (k : ℕ) → k < records s → rule5 s k ≡ false
  unfolding places holds
  types-fine k l = none-holds 1 s ok 5 (lit≤ tt) (lit< tt) k l

  vertices-fine : (k : ℕ) → k < records s → rule7 s k ≡ false
  unfolding places holds
  vertices-fine k l = none-holds 1 s ok 7 (lit≤ tt) (lit< tt) k l

  -- of each record: its kind is known, byte 3 is 0, and bytes 4 to 7 are 0 unless it is a vertex
  known : (k : ℕ) → k < records s → order s k ≡ 3 → ⊥
  unfolding rule2
  known k l = eqb-false (order s k) 3 (or_neither (eqb (order s k) 3) _ (clean k l)).0

  zeros : (k : ℕ) → k < records s → (not (eqb (byte_at s k 3) 0) ≡ false) × (not (eqb (order s k) 1) && not (eqb (word_at s k) 0) ≡ false)
  unfolding rule2
  zeros k l = or_neither (not (eqb (byte_at s k 3) 0)) _ (or_neither (eqb (order s k) 3) _ (clean k l)).1

  zero-byte : (k : ℕ) → k < records s → 0 ≡ byte_at s k 3
  zero-byte k l = sym (eqb-true (byte_at s k 3) 0 (not-false (eqb (byte_at s k 3) 0) (zeros k l).0))

  zero_word : (k : ℕ) → k < records s → (order s k ≡ 1 → ⊥) → word_at s k ≡ 0
  zero_word k l h = eqb-true (word_at s k) 0 (not-false (eqb (word_at s k) 0) (rw (ne_eqb (order s k) 1 h) at (zeros k l).1))

  all-orders : many s 0 + many s 1 + many s 2 ≡ records s
  unfolding many
  all-orders = orders_all s (records s) known

  -- a type's number and a vertex's
  type-ordinal : (k : ℕ) → k < records s → k < many s 0 → ordinal s k ≡ k
  unfolding ordinal
  type-ordinal k l h =
      rw (kind-record s sorted k l h) (count-all (is_order s 0) k (λ j b. unfold is_order in rw (kind-record s sorted j (omega arith) (omega arith)) refl))

  vertex-ordinal : (k : ℕ) → k < records s → many s 0 ≤ k → k < many s 0 + many s 1 → ordinal s k ≡ k - many s 0
  unfolding ordinal is_order
  vertex-ordinal k l b h =
      let e : k ≡ many s 0 + (k - many s 0) + 0 = omega arith in
      let c = count-between (is_order s 1) (many s 0) (k - many s 0) 0 (λ j x. rw (kind-record s sorted j (omega arith) x) refl) (λ j x y. rw (vertex-record s sorted j (omega arith) x (omega arith)) refl) (λ j x y. absurd (omega arith)) in
      rw (vertex-record s sorted k l b h) (ap (count (is_order s 1)) e ∙ c)

  type-number : (k : ℕ) → k < records s → k < many s 0 → k ≡ byte_at s k 1
  unfolding rule5
  type-number k l h =
      let o = kind-record s sorted k l h in
      let q = (or_neither (not (eqb (byte_at s k 1) (ordinal s k))) _ (rw o at (types-fine k l))).0 in
      sym (eqb-true (byte_at s k 1) (ordinal s k) (not-false (eqb (byte_at s k 1) (ordinal s k)) q) ∙ type-ordinal k l h)

  vertex-number : (k : ℕ) → k < records s → many s 0 ≤ k → k < many s 0 + many s 1 → k - many s 0 ≡ byte_at s k 1
  unfolding rule7
  vertex-number k l b h =
      let o = vertex-record s sorted k l b h in
      let q = (or_neither (not (eqb (byte_at s k 1) (ordinal s k))) _ (rw o at (vertices-fine k l))).0 in
      sym (eqb-true (byte_at s k 1) (ordinal s k) (not-false (eqb (byte_at s k 1) (ordinal s k)) q) ∙ vertex-ordinal k l b h)

  -- what stands in the lists
  core_at : (k : ℕ) → k < many s 0 → get_or (table (column s 0 2) (many s 0)) k 0 ≡ byte_at s k 2
  unfolding column
  core_at k h = let z : 0 + k ≡ k = omega arith in table_at (column s 0 2) (many s 0) k h ∙ rw z refl

  kind-at : (k : ℕ) → many s 0 ≤ k → k < many s 0 + many s 1 → get_or (table (column s (many s 0) 2) (many s 1)) (k - many s 0) 0 ≡ byte_at s k 2
  unfolding column
  kind-at k b h =
      let z : many s 0 + (k - many s 0) ≡ k = omega arith in
      table_at (column s (many s 0) 2) (many s 1) (k - many s 0) (omega arith) ∙ rw z refl

  wcet-at : (k : ℕ) → many s 0 ≤ k → k < many s 0 + many s 1 → get_or (table (words s (many s 0)) (many s 1)) (k - many s 0) 0 ≡ word_at s k
  unfolding words
  wcet-at k b h =
      let z : many s 0 + (k - many s 0) ≡ k = omega arith in
      table_at (words s (many s 0)) (many s 1) (k - many s 0) (omega arith) ∙ rw z refl

  edge_at : (k : ℕ) → many s 0 + many s 1 ≤ k → k < records s → get_or (table (keys s (many s 0 + many s 1)) (many s 2)) (k - many s 0 - many s 1) 0 ≡ key_at s k
  unfolding keys
  edge_at k b l =
      let z : many s 0 + many s 1 + (k - many s 0 - many s 1) ≡ k = omega arith in
      table_at (keys s (many s 0 + many s 1)) (many s 2) (k - many s 0 - many s 1) (omega (arith, all-orders)) ∙ rw z refl

  -- each record is made again, byte by byte
  type-back : (k : ℕ) → k < records s → k < many s 0 → type_of (tables s) k ≡ record_in s k
  unfolding type_of
  type-back k l h =
      let o : order s k ≡ 0 = kind-record s sorted k l h in
      let start : 0x54 ≡ byte_at s k 0 = (head s k).0 o in
      let number = type-number k l h in
      let cores = core_at k h in
      let blank = zero-byte k l in
      let word : Word s k 0 = word_bytes s bytes k 0 (sym (zero_word k l (λ q. omega arith))) in
      cc

  vertex-back : (k : ℕ) → k < records s → many s 0 ≤ k → k < many s 0 + many s 1 → vertex_of (tables s) (k - many s 0) ≡ record_in s k
  unfolding vertex_of
  vertex-back k l b h =
      let start : 0x56 ≡ byte_at s k 0 = (head s k).1 (vertex-record s sorted k l b h) in
      let number = vertex-number k l b h in
      let kind = kind-at k b h in
      let blank = zero-byte k l in
      let word = word_bytes s bytes k (get_or (tables s).wcets (k - many s 0) 0) (wcet-at k b h) in
      cc

  edge-back : (k : ℕ) → k < records s → many s 0 + many s 1 ≤ k → edge_of (tables s) (k - many s 0 - many s 1) ≡ record_in s k
  unfolding edge_of key_at
  edge-back k l b =
      let o : order s k ≡ 2 = edge-record s sorted clean k l b in
      let e : get_or (tables s).edges (k - many s 0 - many s 1) 0 ≡ key_at s k = edge_at k b l in
      let small = bytes (8 * k + 2) in
      let start : 0x45 ≡ byte_at s k 0 = (head s k).2 o in
      let from : get_or (tables s).edges (k - many s 0 - many s 1) 0 / 256 ≡ byte_at s k 1 = omega arith in
      let to : get_or (tables s).edges (k - many s 0 - many s 1) 0 % 256 ≡ byte_at s k 2 = omega arith in
      let blank = zero-byte k l in
      let word : Word s k 0 = word_bytes s bytes k 0 (sym (zero_word k l (λ q. omega arith))) in
      cc

  record-back : (k : ℕ) → k < records s → record_at_of (tables s) (many s 0) (many s 1) k ≡ record_in s k
  record-back k l = go (among (many s 0) (many s 1) k)
    where
      go : Among (many s 0) (many s 1) k → record_at_of (tables s) (many s 0) (many s 1) k ≡ record_in s k
      go (type x) = record_type (tables s) (many s 0) (many s 1) k x ∙ type-back k l x
      go (vertex x y) = record-vertex (tables s) (many s 0) (many s 1) k x y ∙ vertex-back k l x y
      go (edge x) = record-edge (tables s) (many s 0) (many s 1) k x ∙ edge-back k l x

  whole_length : length s ≡ 8 * (many s 0 + many s 1 + many s 2)
  unfolding rule1
  whole_length =
      let m : length s % 8 ≡ 0 = eqb-true (length s % 8) 0 (not-false (eqb (length s % 8) 0) (or_neither (not (eqb (length s % 8) 0)) _ fits).0) in
      omega (arith, all-orders)

  part_back : part (tables s) (many s 0) (many s 1) (many s 2) ≡ s
  unfolding part
  part_back =
      let n : ℕ = many s 0 + many s 1 + many s 2 in
      joined_ext (record_at_of (tables s) (many s 0) (many s 1)) (record_in s) n (λ k l. record-back k (omega (arith, all-orders))) ∙ by_records s n whole_length

  pub file_back : file_of (lists_of s) ≡ s
  file_back =
      rw (lists_tables s, file-part (tables s), table-length (column s 0 2) (many s 0), table-length (column s (many s 0) 2) (many s 1), table-length (keys s (many s 0 + many s 1)) (many s 2)) part_back
