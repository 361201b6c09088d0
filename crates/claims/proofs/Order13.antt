-- Order 13, "How many cores are enough": "For a chosen type and a 32-bit tick limit, give the smallest core number from 1 to 16 with which NEW-B-1's
-- whole ticks are at or below the limit, all else as declared."
--
-- Said over the contract of the entry `enough` (specs/Entries), for a file s, a type k and a limit d, beside what `read` and `bounds` give.
-- `with_cores G k m` is the graph G with m cores of type k, all else as declared; `Meets G k d m` says that the whole ticks of its NEW-B-1 are at or
-- below d (`enough`, specs/Answers).
use mathlib.Core.Path.{◌≡◌, sym, ap, ◌∙◌}
use mathlib.Core.Logic.{◌↔◌, ◌⊎◌, inl, inr}
use mathlib.Core.List.{List}
use Prim.Native.Nat.{ℕ, ◌/◌, ◌≤◌, ◌<◌}
use native.Mathlib.Omega.{arith}
use Rattle.model.specs.Bounds.{PARTS, NewB1}
use Rattle.model.specs.Better.{with_cores, SameGraph}
use Rattle.model.proofs.Bools.{le-or-lt}
use Rattle.graph.specs.Judge.{read_of}
use Rattle.graph.specs.Model.{AcceptedGraph}
use Rattle.graph.specs.declared.Refusal.{Refusal}
use Rattle.graph.specs.Answer.{Taken}
use Rattle.graph.specs.Answer.{Answer}
use Rattle.graph.specs.Answer.{Accepted, Refused}
use Rattle.graph.proofs.Accepted as reader
use Rattle.bounds.specs.Bounded.{Bounded}
use Rattle.enough.specs.Answers.{Meets, NoneMeets, Smallest, EnoughIn}
use Rattle.enough.specs.Fewest.{Fewest}
use Rattle.enough.proofs.Meeting.{meets-within, new-there, meets-more, from-smallest, smallest-below}
use Rattle.enough.proofs.Boards.{board-least, board-most, board-tells, as_declared, unused_one}
use Rattle.enough.proofs.Saying.{says_25, says_26, says-no, says-number, some_number, says_first, says-of-graph, says-accepted}
use Rattle.enough.proofs.Unique.{enough-of_unique}
use Rattle.codes.specs.Coded.{coded_enough_of}
use Rattle.codes.specs.declared.PlannerEnough.{PlannerEnough}
use Rattle.claims.specs.Claims.{Bytes, IsAccepted, graph_in, at_0}
use Rattle.claims.specs.Entries.{ReadGives, BoundsGives, EnoughGives, PlannerEnoughGives}
use Rattle.claims.proofs.Entries.{read-given, bounds-given, enough-given, planner_enough-given}
use Rattle.claims.proofs.Demand2.{bounds-are}

-- what `read` answers is the reader's answer
read_as : {s : List ℕ} {t : Taken} {a : Answer} → ReadGives s t → t.answer ≡ a → (read_of s).answer ≡ a
read_as T said = sym (ap (λ (t : Taken). t.answer) (read-given T)) ∙ said

-- ---- what meets a limit

-- THEOREM. Whether m cores meet the limit is told by any NEW-B-1 of the graph with so many of them: its whole ticks are at or below d, or not.
pub meets-told : (s : List ℕ) {k d m B : ℕ} → NewB1 (with_cores (graph_in s) k m) B → Meets (graph_in s) k d m ↔ (B / PARTS ≤ d)
meets-told s x = meets-within x

-- THEOREM. Of an accepted file each of the sixteen numbers has its NEW-B-1.
pub each-has-new : {s : List ℕ} {t : Taken} → Bytes s → ReadGives s t → t.answer ≡ Accepted → (k m : ℕ) → 1 ≤ m → m ≤ 16 → (B : ℕ) × NewB1 (with_cores (graph_in s) k m) B
each-has-new {s} bytes T ok k = let A = reader.taken s bytes (read_as T ok) in new-there A.well_formed A.acyclic k

-- ---- the answer

module _ {s : List ℕ} {k d : ℕ} {r : Fewest} (E : EnoughGives s k d r) (ok : r.answer ≡ Accepted) where
  taken : IsAccepted s
  taken = says-accepted (enough-given E) ok

  -- THEOREM. The type is declared; the answer is a number from 1 to 16 that meets the limit, and no smaller one does.
  pub answer-smallest : (k < (graph_in s).kinds) × Smallest (graph_in s) k d r.cores
  answer-smallest = says-number (says-of-graph (enough-given E) taken) ok

  -- THEOREM. In NEW-B-1's own words: with so many cores its whole ticks are at or below the limit, and with fewer they are above it.
  pub answer-within : (B : ℕ) → NewB1 (with_cores (graph_in s) k r.cores) B → B / PARTS ≤ d
  answer-within B x = (meets-within x).0 answer-smallest.1.meets

  pub fewer-above : (m : ℕ) → 1 ≤ m → m < r.cores → (B : ℕ) → NewB1 (with_cores (graph_in s) k m) B → d < B / PARTS
  fewer-above m l j B x = go (le-or-lt (B / PARTS) d)
    where
      go : (B / PARTS ≤ d) ⊎ (d < B / PARTS) → d < B / PARTS
      go (inl y) = absurd (answer-smallest.1.no_smaller m l j ((meets-within x).1 y))
      go (inr y) = y

  module _ (bytes : Bytes s) where
    graph : AcceptedGraph (read_of s).graph
    graph = reader.taken s bytes taken

    -- THEOREM. By order 11 every larger number up to 16 meets the limit too: of the sixteen, those that meet it are those from the answer on.
    pub answer-on : (m : ℕ) → 1 ≤ m → m ≤ 16 → Meets (graph_in s) k d m ↔ (r.cores ≤ m)
    answer-on m l j =
        let S = answer-smallest.1 in
        (smallest-below S m l, λ h. from-smallest graph.well_formed graph.acyclic k S m h j)

    -- THEOREM. On another board: of an accepted file that declares m cores of the type and is otherwise the same, the ticks that `bounds` gives are at or
    -- below the limit exactly where m is at least the answer.
    pub other_board : {s' : List ℕ} {b : Bounded} → Bytes s' → BoundsGives s' b → b.answer ≡ Accepted → (m : ℕ) → SameGraph (with_cores (graph_in s) k m) (graph_in s')
        → (b.ticks.0 ≤ d) ↔ (r.cores ≤ m)
    other_board {s'} bytes' B yes' m S =
        let W = graph.well_formed in
        let X = (reader.taken s' bytes' (sym (bounds-given B).answer ∙ yes')).well_formed in
        let F = bounds-are B yes' in
        let l = answer-smallest.0 in
        let t = board-tells W graph.acyclic X k m l S {d = d} F.new in
        let o = answer-on m (board-least W graph.acyclic X k m l S) (board-most W graph.acyclic X k m l S) in
        rw F.ticks (λ h. o.0 (t.1 h), λ h. t.0 (o.1 h))

    -- THEOREM. A type that no vertex has is answered like any other: where some number meets the limit, 1 does.
    pub unused_type : ((v : ℕ) → v < (graph_in s).n → (graph_in s).kind v ≡ k → ⊥) → r.cores ≡ 1
    unused_type unused =
        let S = answer-smallest.1 in
        omega (arith, S.least, smallest-below S 1 (omega arith) (unused_one graph.well_formed k unused r.cores S.least S.most S.meets))

-- ---- the refusals

-- THEOREM. Of a file that the reader refuses, `enough` says no as the reader does, 1 to 11 with their places; beside it stands 0.
pub enough-first : {s : List ℕ} {t : Taken} {k d : ℕ} {x : Refusal} {r : Fewest} → ReadGives s t → t.answer ≡ Refused x → EnoughGives s k d r
    → (r.answer ≡ Refused x) × (r.cores ≡ 0)
enough-first T said E = says_first (enough-given E) (read_as T said)

-- Of an accepted file:
module _ {s : List ℕ} {t : Taken} (T : ReadGives s t) (ok : t.answer ≡ Accepted) {k d : ℕ} {r : Fewest} (E : EnoughGives s k d r) where
  said : EnoughIn (graph_in s) k d r
  said = says-of-graph (enough-given E) (read_as T ok)

  -- THEOREM. 25 at 0 is given exactly where the type is not declared: whatever the limit is, so that it comes before 26.
  pub enough_25 : (r.answer ≡ Refused (at_0 25)) ↔ ((graph_in s).kinds ≤ k)
  enough_25 = says_25 said

  -- THEOREM. 26 at 0 is given exactly where the type is declared and none of the sixteen numbers meets the limit.
  pub enough_26 : (r.answer ≡ Refused (at_0 26)) ↔ ((k < (graph_in s).kinds) × NoneMeets (graph_in s) k d)
  enough_26 = says_26 said

  -- THEOREM. Nothing else is refused, and beside a refusal stands 0.
  pub enough-alone : {x : Refusal} → r.answer ≡ Refused x → ((x ≡ at_0 25) ⊎ (x ≡ at_0 26)) × (r.cores ≡ 0)
  enough-alone = says-no said

-- THEOREM. By order 11 none of the sixteen meets the limit exactly where sixteen cores do not.
pub by_sixteen : {s : List ℕ} {t : Taken} → Bytes s → ReadGives s t → t.answer ≡ Accepted → (k d : ℕ) → NoneMeets (graph_in s) k d ↔ (Meets (graph_in s) k d 16 → ⊥)
by_sixteen {s} bytes T ok k d =
    let A = reader.taken s bytes (read_as T ok) in
    (λ n. n 16 (omega arith) (omega arith), λ n m l j M. n (meets-more A.well_formed A.acyclic k m 16 l j (omega arith) M))

-- ---- the declared number

-- THEOREM. Where the ticks that `bounds` gives for the same file are at or below the limit, a declared type gets an answer, and that is at most the
-- declared number.
pub declared_enough : {s : List ℕ} {b : Bounded} {k d : ℕ} {r : Fewest} → Bytes s → BoundsGives s b → b.answer ≡ Accepted → b.ticks.0 ≤ d → k < (graph_in s).kinds → EnoughGives s k d r
    → (r.answer ≡ Accepted) × (r.cores ≤ (graph_in s).cores k)
declared_enough {s} {k = k} {d = d} bytes B ok l known E =
    let file = sym (bounds-given B).answer ∙ ok in
    let A = reader.taken s bytes file in
    let W = A.well_formed in
    let F = bounds-are B ok in
    let c = (graph_in s).cores k in
    let M : Meets (graph_in s) k d c = (board-tells W A.acyclic W k c known (as_declared (graph_in s) k) F.new).1 (rw F.ticks at l) in
    let a = some_number (says-of-graph (enough-given E) file) known c (W.some_core k known) (W.few_cores k known) M in
    (a, smallest-below (answer-smallest E a).1 c (W.some_core k known) M)

-- ---- one answer

-- THEOREM. A file, a type and a limit get one answer. That they get one at all is in the entry's contract, which requires nothing.
pub one_answer : {s : List ℕ} {k d : ℕ} {r r' : Fewest} → EnoughGives s k d r → EnoughGives s k d r' → r ≡ r'
one_answer {r = r} {r' = r'} E E' = enough-of_unique r r' (enough-given E) (enough-given E')

-- ---- for C and Rust

-- THEOREM. The entry for C gives what this gives, in numbers.
pub planner_enough-is : {s : List ℕ} {k d : ℕ} {p : PlannerEnough} {r : Fewest} → PlannerEnoughGives s k d p → EnoughGives s k d r → p ≡ coded_enough_of r
planner_enough-is {r = r} q h =
    let c = planner_enough-given q in c.coded ∙ ap coded_enough_of (enough-of_unique c.fewest r c.of (enough-given h))
