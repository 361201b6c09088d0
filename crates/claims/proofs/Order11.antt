-- Order 11, "Better hardware never looks worse": "Prove that NEW-B-1 and NEW-B-2 never rise when one type gets more cores (up to 16) or one WCET is
-- lowered, other things equal, wherever both graphs get that bound. For NEW-B-1 alone prove it also when an edge is removed."
--
-- Said over the contracts of the entries `bounds` and `second` (specs/Entries), for two files that both accept: s before the change, s' after it.
-- "Up to 16" is then in their acceptance. That nothing else differs is `SameGraph`, of the model's graphs of the two files.
use mathlib.Core.Path.{◌≡◌, sym, ap, ◌∙◌}
use mathlib.Core.Logic.{◌↔◌, ⊎_elim}
use mathlib.Core.List.{List}
use Prim.Native.Nat.{ℕ, ◌≤◌, ◌<◌}
use native.Mathlib.Omega.{arith}
use Rattle.model.specs.Bounds.{NewB1}
use Rattle.model.specs.PathCount.{path_count}
use Rattle.model.specs.Gain.{with_wcet}
use Rattle.model.specs.Better.{Better, Looser, with_cores, without_edge, SameGraph, Improved, raised, lowered, Loosened, improved, removed, Several}
use Rattle.model.proofs.Better as model
use Rattle.model.proofs.Changes as changes
use Rattle.model.proofs.Longest.{old_b_unique}
use Rattle.model.proofs.Visit.{new_b_2_unique}
use Rattle.graph.specs.Judge.{read_of}
use Rattle.graph.specs.Model.{as_model}
use Rattle.graph.specs.declared.Graph as file
use Rattle.graph.specs.Answer.{Taken}
use Rattle.graph.specs.Answer.{Accepted}
use Rattle.graph.proofs.Accepted as reader
use Rattle.boards.specs.Points.{point_of, IsAsGood}
use Rattle.boards.specs.declared.Point.{Point}
use Rattle.boards.specs.declared.Point.TheVariants.{AsGood}
use Rattle.boards.proofs.Good.{as_good, as_good_but_edges}
use Rattle.second.specs.Answers.{SecondIn, too_many, found, SecondOf, refused, accepted}
use Rattle.second.specs.Seconded.{Seconded}
use Rattle.bounds.specs.Bounded.{Bounded}
use Rattle.claims.specs.Claims.{Bytes, IsAccepted, graph_in}
use Rattle.claims.specs.Entries.{ReadGives, BoundsGives, SecondGives, WorseGives}
use Rattle.claims.specs.Worked as worked
use Rattle.claims.proofs.Entries.{read-given, bounds-given, second-given, worse-given}
use Rattle.claims.proofs.Demand2.{bounds-are}
use Rattle.claims.proofs.Order4.{accepted-file, second_is}
use Rattle.claims.proofs.Worked.{cases, c_raises_b, parted-lacks, joined_paths, parted_paths}

-- ---- NEW-B-1

-- at least as good, but perhaps for edges that are missing
looser : (g h : file.Graph) → IsAsGood (point_of g h) → Looser (as_model g) (as_model h)
looser g h l = ⊎_elim (λ m. model.better_looser (as_good g h m)) (λ m. as_good_but_edges g h m) l

module _ {s s' : List ℕ} {b b' : Bounded} (bytes : Bytes s) (bytes' : Bytes s') (B : BoundsGives s b) (ok : b.answer ≡ Accepted) (B' : BoundsGives s' b') (ok' : b'.answer ≡ Accepted) where
  new-falls : Looser (graph_in s) (graph_in s') → b'.new.0 ≤ b.new.0
  new-falls l =
      let A = reader.taken s bytes (sym (bounds-given B).answer ∙ ok) in
      let A' = reader.taken s' bytes' (sym (bounds-given B').answer ∙ ok') in
      model.looser_new A.well_formed A'.well_formed A.acyclic l _ _ (bounds-are B ok).new (bounds-are B' ok').new

  -- THEOREM. Whole boards: the same stages and types, each type with at least as many cores and each WCET at most what it was, and no edge that was not
  -- there. NEW-B-1 does not rise, and neither do its whole ticks, which people ship by.
  pub board-new : Looser (graph_in s) (graph_in s') → b'.new.0 ≤ b.new.0
  board-new = new-falls

  pub board-ticks : Looser (graph_in s) (graph_in s') → b'.ticks.0 ≤ b.ticks.0
  board-ticks l = omega (arith, (bounds-are B ok).ticks, (bounds-are B' ok').ticks, new-falls l)

  -- THEOREM. One type gets more cores.
  pub cores-new : (t m : ℕ) → (graph_in s).cores t ≤ m → SameGraph (with_cores (graph_in s) t m) (graph_in s') → b'.new.0 ≤ b.new.0
  cores-new t m l e = new-falls (changes.loosened_looser (improved (raised t m l e)))

  -- THEOREM. One WCET is lowered.
  pub wcet-new : (v c : ℕ) → c ≤ (graph_in s).wcet v → SameGraph (with_wcet (graph_in s) v c) (graph_in s') → b'.new.0 ≤ b.new.0
  wcet-new v c l e = new-falls (changes.loosened_looser (improved (lowered v c l e)))

  -- THEOREM. An edge is removed.
  pub edge-new : (u v : ℕ) → SameGraph (without_edge (graph_in s) u v) (graph_in s') → b'.new.0 ≤ b.new.0
  edge-new u v e = new-falls (changes.loosened_looser (removed u v e))

  -- THEOREM. Several such changes, one after the other.
  pub several_new : Several Loosened (graph_in s) (graph_in s') → b'.new.0 ≤ b.new.0
  several_new m = new-falls (changes.several_looser m)

  -- THEOREM. What `plan compare` promises: where it finds no point in which the second board is worse, or only that edges are missing,
  -- NEW-B-1 and its whole ticks do not rise.
  pub promised_new : {p : Point} → WorseGives (read_of s).graph (read_of s').graph p → IsAsGood p → (b'.new.0 ≤ b.new.0) × (b'.ticks.0 ≤ b.ticks.0)
  promised_new {p} w l = let z = looser (read_of s).graph (read_of s').graph (rw (sym (worse-given w)) l) in (new-falls z, board-ticks z)

-- ---- NEW-B-2, wherever both graphs get it

module _ {s s' : List ℕ} {r r' : Seconded} (bytes : Bytes s) (bytes' : Bytes s') (R : SecondGives s r) (ok : r.answer ≡ Accepted) (R' : SecondGives s' r') (ok' : r'.answer ≡ Accepted) where
  -- THEOREM. Whole boards, with the same edges: NEW-B-2 does not rise.
  pub board-second : Better (graph_in s) (graph_in s') → r'.parts.0 ≤ r.parts.0
  board-second l =
      let A = reader.taken s bytes (accepted-file (second-given R) ok) in
      let A' = reader.taken s' bytes' (accepted-file (second-given R') ok') in
      model.better_second A.well_formed A'.well_formed l _ _ (second_is R ok).0 (second_is R' ok').0

  -- THEOREM. What `plan compare` promises of it: where it finds no point in which the second board is worse, NEW-B-2 does not rise.
  pub promised_second : {p : Point} → WorseGives (read_of s).graph (read_of s').graph p → p ≡ AsGood → r'.parts.0 ≤ r.parts.0
  promised_second w e = board-second (as_good (read_of s).graph (read_of s').graph (sym (worse-given w) ∙ e))

  -- THEOREM. One type gets more cores.
  pub cores-second : (t m : ℕ) → (graph_in s).cores t ≤ m → SameGraph (with_cores (graph_in s) t m) (graph_in s') → r'.parts.0 ≤ r.parts.0
  cores-second t m l e = board-second (changes.improved_better (raised t m l e))

  -- THEOREM. One WCET is lowered.
  pub wcet-second : (v c : ℕ) → c ≤ (graph_in s).wcet v → SameGraph (with_wcet (graph_in s) v c) (graph_in s') → r'.parts.0 ≤ r.parts.0
  wcet-second v c l e = board-second (changes.improved_better (lowered v c l e))

  -- THEOREM. Several such changes, one after the other.
  pub several_second : Several Improved (graph_in s) (graph_in s') → r'.parts.0 ≤ r.parts.0
  several_second m = board-second (changes.several_better m)

taken-file : {s : List ℕ} {t : Taken} → ReadGives s t → t.answer ≡ Accepted → IsAccepted s
taken-file T ok = sym (ap (λ (t : Taken). t.answer) (read-given T)) ∙ ok

-- of a file that the reader accepts, `second` accepts where the complete paths are few enough
few : {s : List ℕ} {r : Seconded} → SecondGives s r → IsAccepted s → path_count (graph_in s) ≤ 4096 → r.answer ≡ Accepted
few {s} {r} R ok l = go (second-given R)
  where
    in_graph : SecondIn (graph_in s) r → r.answer ≡ Accepted
    in_graph (too_many m a z) = absurd (omega arith)
    in_graph (found m a z) = a

    go : SecondOf s r → r.answer ≡ Accepted
    go (refused e a z) = absurd (let z : ◌≡◌ {A = ℕ} 0 1 = cc in omega arith)
    go (accepted e f) = in_graph f

module _ {s s' : List ℕ} {t t' : Taken} (bytes : Bytes s) (bytes' : Bytes s') (T : ReadGives s t) (ok : t.answer ≡ Accepted) (T' : ReadGives s' t') (ok' : t'.answer ≡ Accepted) where
  -- THEOREM. Of two accepted files with the same edges, both get NEW-B-2 or neither does.
  pub both-or_neither : Better (graph_in s) (graph_in s') → {r r' : Seconded} → SecondGives s r → SecondGives s' r' → (r.answer ≡ Accepted) ↔ (r'.answer ≡ Accepted)
  both-or_neither l R R' =
      let A = reader.taken s bytes (taken-file T ok) in
      let A' = reader.taken s' bytes' (taken-file T' ok') in
      let same = model.better_count A.well_formed A'.well_formed A.acyclic l in
      (λ q. few R' (taken-file T' ok') (omega (arith, (second_is R q).1, same)), λ q. few R (taken-file T ok) (omega (arith, (second_is R' q).1, same)))

-- ---- one type, whatever is declared

-- THEOREM. An accepted file's graph with another number of cores of one type, from 1 to 16, all else as declared: with more of them NEW-B-1 is no larger.
-- So the numbers of cores that meet a limit are all from some number on.
pub cores-between : {s : List ℕ} {t : Taken} → Bytes s → ReadGives s t → t.answer ≡ Accepted → (k a c : ℕ) → 0 < a → a ≤ c → c ≤ 16 → (x y : ℕ)
    → NewB1 (with_cores (graph_in s) k a) x → NewB1 (with_cores (graph_in s) k c) y → y ≤ x
cores-between {s} bytes T ok = let A = reader.taken s bytes (taken-file T ok) in changes.cores-between A.well_formed A.acyclic

-- ---- what has no such property

-- THEOREM. OLD-B: case C is case B with sixteen cores of type 0 for four, and what `bounds` gives for it is larger.
pub old-rises : {b b' : Bounded} → BoundsGives worked.file_b b → BoundsGives worked.file_c b' → Improved (graph_in worked.file_b) (graph_in worked.file_c) × (b.old.0 < b'.old.0)
old-rises B B' =
    let x : worked.HasBounds worked.file_b 13333320 12612600 17 _ = cases.1.1.1.0 in
    let y : worked.HasBounds worked.file_c 14144130 11801790 16 _ = cases.1.1.1.1.0 in
    let e = old_b_unique _ _ (bounds-are B ((bounds-given B).answer ∙ x.is_accepted)).old x.has_old in
    let f = old_b_unique _ _ (bounds-are B' ((bounds-given B').answer ∙ y.is_accepted)).old y.has_old in
    (c_raises_b, omega (arith, e, f))

-- THEOREM. NEW-B-2, where an edge is removed: three vertices are enough.
pub second-rises : {r r' : Seconded} → SecondGives worked.joined r → SecondGives worked.parted r' → Loosened (graph_in worked.joined) (graph_in worked.parted) × (r.parts.0 < r'.parts.0)
second-rises R R' =
    let x : worked.HasSecond worked.joined 1441440 = cases.1.1.1.1.1.0 in
    let y : worked.HasSecond worked.parted 2162160 = cases.1.1.1.1.1.1.0 in
    let e = new_b_2_unique _ _ (second_is R (few R x.is_accepted (omega (arith, joined_paths)))).0 x.has_second in
    let f = new_b_2_unique _ _ (second_is R' (few R' y.is_accepted (omega (arith, parted_paths)))).0 y.has_second in
    (parted-lacks, omega (arith, e, f))
