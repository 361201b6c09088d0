-- Order 10, "Predecessors as rows": "Beside the edge list, keep a table with one row of two 64-bit words for each vertex, one bit for each
-- predecessor, and a second such table for all ancestors. The reader fills them; cycle test, bounds and runs read the rows. Prove that the rows and
-- the edge list say the same, and that every answer equals the old one. The file and the refusals don't change."
--
-- Said over the contracts of the reader's functions that fill the tables (`RowsGives` and `KinGives` in specs/Entries): the answer for a file, and
-- the tables. `is_in (row_of t v) u` is bit u of row v of the table t. That every answer equals the old one needs no statement of its own: no entry's
-- contract changed, each leaves one outcome (docs/TIGHT.md), and what the demands and the other orders say of them stands as it stood.
use mathlib.Core.Path.{◌≡◌, sym, ap, ◌∙◌}
use mathlib.Core.Logic.{◌↔◌}
use mathlib.Core.Bool.{Bool, true, false, ◌&&◌}
use mathlib.Core.List.{List}
use Prim.Native.Nat.{ℕ, ◌≤◌, ◌<◌}
use native.Mathlib.Omega.{arith}
use Rattle.model.specs.Places.{count}
use Rattle.model.specs.Graph.{Source}
use Rattle.model.specs.Cycle.{Walk, one}
use Rattle.model.proofs.Bools.{clash, not-true}
use Rattle.graph.specs.Model.{AcceptedGraph, as_model, from, to}
use Rattle.graph.specs.Answer.{Answer}
use Rattle.graph.specs.Answer.{Accepted}
use Rattle.graph.specs.Answer.{Taken}
use Rattle.vset.specs.Members.{is_in}
use Rattle.sets.specs.Sets.{row_of, Table}
use Rattle.sets.proofs.Tables.{holds_unique}
use Rattle.rows.specs.Rows.{Kin}
use Rattle.rows.proofs.Learning.{predecessor-edge}
use Rattle.rows.proofs.Telling.{predecessor-sound, predecessor-complete, predecessor-past, ancestor-sound, ancestor-complete, ancestor-past, ancestor_other, ones-vertices}
use Rattle.graph.proofs.Accepted as reader
use Rattle.claims.specs.Claims.{Bytes}
use Rattle.claims.specs.Entries.{ReadGives, RowsGives, KinGives}
use Rattle.claims.proofs.Entries.{read-given, rows-given, kin_given}

-- THEOREM. Whatever the file, the reader that fills the tables accepts or refuses it as `read` does: the same number, the same place.
pub rows-answer : {s : List ℕ} {t : Taken} {x : Answer} {p : List (List ℕ)} → ReadGives s t → RowsGives s x p → x ≡ t.answer
rows-answer R K = (rows-given K).0 ∙ sym (ap (λ (z : Taken). z.answer) (read-given R))

pub kin_answer : {s : List ℕ} {t : Taken} {x : Answer} {p a : List (List ℕ)} → ReadGives s t → KinGives s x p a → x ≡ t.answer
kin_answer R K = (kin_given K).0 ∙ sym (ap (λ (z : Taken). z.answer) (read-given R))

-- ---- of an accepted file

module _ {s : List ℕ} {t : Taken} (bytes : Bytes s) (R : ReadGives s t) (ok : t.answer ≡ Accepted) where
  A : AcceptedGraph t.graph
  A = rw (read-given R) (reader.taken s bytes (sym (ap (λ (z : Taken). z.answer) (read-given R)) ∙ ok))

  kin : {x : Answer} {p a : List (List ℕ)} → KinGives s x p a → Kin t.graph p a
  kin K = rw (read-given R) ((kin_given K).1 (sym (ap (λ (z : Taken). z.answer) (read-given R)) ∙ ok))

  -- THEOREM. There is one pair of tables only, and who asks for the predecessors alone gets the same ones.
  pub kin_one : {x y : Answer} {p a q b : List (List ℕ)} → KinGives s x p a → KinGives s y q b → (p ≡ q) × (a ≡ b)
  kin_one K L = (holds_unique (kin K).predecessors (kin L).predecessors, holds_unique (kin K).ancestors (kin L).ancestors)

  pub rows_same : {x y : Answer} {p a q : List (List ℕ)} → KinGives s x p a → RowsGives s y q → q ≡ p
  rows_same K L =
      holds_unique (rw (read-given R) ((rows-given L).1 (sym (ap (λ (z : Taken). z.answer) (read-given R)) ∙ ok))) (kin K).predecessors

  module _ {x : Answer} {p a : List (List ℕ)} (K : KinGives s x p a) where
    -- THEOREM. Each table has 128 rows of two words.
    pub predecessor-table : Table p
    predecessor-table = (kin K).predecessors.table

    pub ancestor-table : Table a
    ancestor-table = (kin K).ancestors.table

    -- THEOREM. The rows and the edge list say the same: bit u of row v is set exactly where one of the edges goes from u to v.
    pub predecessor_exactly : (u v : ℕ) → v < 128 → (is_in (row_of p v) u ≡ true) ↔ ((i : ℕ) × (i < t.graph.edges) × (from t.graph i ≡ u) × (to t.graph i ≡ v))
    unfolding from to
    predecessor_exactly u v l = (
      λ b. let r = predecessor-sound A (kin K) u v l b in (r.0, r.1, omega (arith, r.2, l), omega (arith, r.2, l)),
      λ r. predecessor-complete A (kin K) u v r.0 l r.1 (omega (arith, r.2, r.3)),
    )

    -- THEOREM. In the ancestors' table bit u of row v is set exactly where a walk along the edges, of one edge or more, goes from u to v.
    pub ancestor_exactly : (u v : ℕ) → v < 128 → (is_in (row_of a v) u ≡ true) ↔ Walk (as_model t.graph) u v
    ancestor_exactly u v l = (ancestor-sound A (kin K) u v l, ancestor-complete A (kin K) u v)

    -- THEOREM. From row N on no bit is set, in either table; and no vertex is its own predecessor or its own ancestor.
    pub rows-past : (u v : ℕ) → t.graph.n ≤ v → v < 128 → (is_in (row_of p v) u ≡ false) × (is_in (row_of a v) u ≡ false)
    rows-past u v h l = (predecessor-past A (kin K) u v h l, ancestor-past A (kin K) u v h l)

    -- a predecessor is an ancestor
    direct : (u v : ℕ) → v < 128 → is_in (row_of p v) u ≡ true → is_in (row_of a v) u ≡ true
    direct u v l b = ancestor-complete A (kin K) u v (one (sym (predecessor-edge t.graph v u) ∙ sym ((kin K).predecessors.row v u l) ∙ b))

    pub none_its_own : (v : ℕ) → v < 128 → (is_in (row_of p v) v ≡ false) × (is_in (row_of a v) v ≡ false)
    none_its_own v l =
        let o = ancestor_other A (kin K) v l in
        (not-true (is_in (row_of p v) v) (λ b. clash (direct v v l b) o), o)

    -- THEOREM. The ones of a row that are in a set are the predecessors in that set. By these numbers the cycle test begins, runs begin, and a
    -- record's numbers of unfinished predecessors are judged.
    pub ones-are : (q : ℕ → Bool) (v : ℕ) → v < 128 → count (λ u. is_in (row_of p v) u && q u) 128 ≡ count (λ u. (as_model t.graph).edge u v && q u) t.graph.n
    ones-are = ones-vertices A (kin K).predecessors

    -- THEOREM. A vertex is a source exactly where its row has no ones. There the bounds begin their paths.
    pub source_exactly : (v : ℕ) → v < 128 → Source (as_model t.graph) v ↔ ((u : ℕ) → is_in (row_of p v) u ≡ false)
    source_exactly v l = (
      λ S u. not-true (is_in (row_of p v) u) (λ b. S u (sym (edge u) ∙ b)),
      λ f u d. clash (edge u ∙ d) (f u),
    )
      where
        edge : (u : ℕ) → is_in (row_of p v) u ≡ (as_model t.graph).edge u v
        edge u = (kin K).predecessors.row v u l ∙ predecessor-edge t.graph v u
