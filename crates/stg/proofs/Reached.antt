-- From line to line: what is reached, and the first fault.
use mathlib.Core.Path.{◌≡◌, refl, sym, ap, ◌∙◌}
use mathlib.Core.Bool.{true, false, not, ◌&&◌, ◌||◌, or-false, and-true, and-false}
use mathlib.Core.Logic.{◌⊎◌, inl, inr}
use mathlib.Core.List.{List, [], ◌∷◌}
use Prim.Native.Nat.{ℕ, suc, ◌+◌, ◌-◌, ◌≤◌, ◌<◌, max, zero-le}
use native.Mathlib.Decide.{ℕ_discrete}
use native.Mathlib.Omega.{arith}
use lib.ListN.{length, get_or, drop, set, length-drop, drop_of_length-le}
use lib.Dec.{eqb, ltb, leb}
use borrow.Author.Tests.{lt-ltb, le-ltb, ne_eqb, eqb-true, leb-true}
use Rattle.model.proofs.Bools.{clash, cases, both, left-of, right_of, not-true}
use Rattle.model.proofs.Places.{first-at, first-none}
use Rattle.model.proofs.Tables.{padded-none, padded-more}
use Rattle.vset.specs.Members.{is_in}
use Rattle.vset.specs.declared.Vset.{Vset}
use Rattle.vset.proofs.Gather.{below_next}
use Rattle.sets.proofs.Tables.{empty-table, empty_in}
use Rattle.stg_text.specs.Fields.{member, numerals, numbers}
use Rattle.stg_text.specs.Layout.{line_at, begun, tasks, count_line, task_line, skipped, fits, faulty, lines_due, fault_at, LIMIT, outside, fault_of}
use Rattle.stg_text.specs.Says.{time_of, before_of, wcet_said}
use Rattle.stg_scan.specs.Rest.{until_feed, has_feed, past_feed, rest_at, lawful}
use Rattle.stg.specs.Rows.{among, counts, LineRead, TaskRead, CommentRead}
use Rattle.stg.specs.After.{Spread}
use Rattle.stg.specs.Lines.{Reached, Faulted, precedes, Blank, Kept}
use Rattle.stg.specs.declared.row.Row.{Row}
use Rattle.std.specs.Prelude.{Option, Some, None, Result, Ok, Err}
use Rattle.std.specs.Option.{ok_or}
use Rattle.std.specs.Result.{IsErrAnd}
use Rattle.stg.specs.declared.lines.Fault.{Fault}
use Rattle.stg.proofs.Rests.{line-is, feed-below, faulty-is, begun-line, begun_all}

-- ---- what `?` hands on

pub handed : {A : Type 0} (r : Result A Fault) (f : Fault) → IsErrAnd r (λ e. e ≡ f) → r ≡ Err f
handed (Err e) f h = ap (λ (x : Fault). Err x) h
handed (Ok x) f h = absurd h

pub fault-of : {A : Type 0} (o : Option A) (k : ℕ) (f : Fault) → ◌≡◌ {A = Result A Fault} (Err f) (ok_or o (record { line = k })) → (o ≡ None) × (f ≡ record { line = k })
fault-of None k f e = (refl, cc)
fault-of (Some x) k f e = absurd (let z : ◌≡◌ {A = ℕ} 0 1 = cc in omega arith)

-- ---- what a line has to be

fits-task : (n v : ℕ) (l : List ℕ) → v < n + 2 → fits n (suc v) l ≡ task_line n v l
unfolding fits
fits-task n v l b =
    let e : suc v - 1 ≡ v = omega arith in
    rw (ne_eqb (suc v) 0 (λ q. omega arith), lt-ltb (suc v) (n + 3) (omega arith), e) refl

fits-skipped : (n k : ℕ) (l : List ℕ) → n + 3 ≤ k → fits n k l ≡ skipped l
unfolding fits
fits-skipped n k l b = rw (ne_eqb k 0 (λ q. omega arith), le-ltb k (n + 3) b) refl

-- ---- one line further

module _ (s : List ℕ) (k at : ℕ) (R : Reached s k at) where
  faulty-here : faulty s k ≡ not (has_feed (drop at s) && fits (tasks s) k (until_feed (drop at s)))
  faulty-here = faulty-is s k R.there ∙ ap (λ (r : List ℕ). not (has_feed r && fits (tasks s) k (until_feed r))) R.here

  reached-more : (e : ℕ) → has_feed (drop at s) && fits (tasks s) k (until_feed (drop at s)) ≡ true → past_feed (drop at s) ≡ drop e s → at < e → e ≤ length s
      → Reached s (suc k) e
  unfolding rest_at
  reached-more e f p l m =
      record {
        fine = λ j b. last j b (ℕ_discrete j k);
        there = feed-below s k R.there (rw R.here (left-of (has_feed (drop at s)) (fits (tasks s) k (until_feed (drop at s))) f));
        here = ap past_feed R.here ∙ p;
        to = m;
        few = omega (arith, R.few);
      }
    where
      last : (j : ℕ) → j < suc k → Dec (j ≡ k) → faulty s j ≡ false
      last j b (yes q) = rw q (faulty-here ∙ ap not f)
      last j b (no q) = R.fine j (omega arith)

  reached-fault : has_feed (drop at s) && fits (tasks s) k (until_feed (drop at s)) ≡ false → k < lines_due s → Faulted s k
  unfolding fault_at
  reached-fault f l = record { within = l; is = first-at (faulty s) (lines_due s) k l R.fine (faulty-here ∙ ap not f); few = omega (arith, R.few, R.to) }

-- ---- the count

reached-none : (s : List ℕ) → Reached s 0 0
unfolding rest_at
reached-none s = record { fine = λ j l. absurd (omega arith); there = zero-le; here = refl; to = zero-le; few = zero-le }

count-lawful : (n : ℕ) (xs : List ℕ) → counts xs ≡ true → lawful n xs ≡ true
unfolding counts lawful
count-lawful n [] h = refl
count-lawful n (x ∷ []) h = refl
count-lawful n (x ∷ y ∷ xs) h =
    let e = eqb-true (suc (suc (length xs))) 1 (left-of (eqb (suc (suc (length xs))) 1) (leb 1 x && leb x 126) h) in
    absurd (omega arith)

module _ (s : List ℕ) where
  pub count-fault : has_feed s && (numerals (until_feed s) && lawful 0 (numbers (until_feed s))) ≡ false → Faulted s 0
  unfolding lines_due fits count_line counts
  count-fault h =
      reached-fault s 0 0 (reached-none s)
      (not-true (has_feed s && (numerals (until_feed s) && counts (numbers (until_feed s)))) (λ t.
      let l = until_feed s in
      let f = left-of (has_feed s) (numerals l && counts (numbers l)) t in
      let g = right_of (has_feed s) (numerals l && counts (numbers l)) t in
      let x = left-of (numerals l) (counts (numbers l)) g in
      let y = right_of (numerals l) (counts (numbers l)) g in
      clash (both (has_feed s) (numerals l && lawful 0 (numbers l)) f (both (numerals l) (lawful 0 (numbers l)) x (count-lawful 0 (numbers l) y))) h))
      (omega arith)

  module _ (r : Row) (e : ℕ) (L : LineRead s 0 0 r e) where
    pub count_no : counts (numbers (until_feed s)) ≡ false → Faulted s 0
    unfolding lines_due fits count_line counts
    count_no f = reached-fault s 0 0 (reached-none s) (rw (L.ends, L.all_numerals) f) (omega arith)

    pub count-further : counts (numbers (until_feed s)) ≡ true → Reached s 1 e
    unfolding fits count_line counts
    count-further f = reached-more s 0 0 (reached-none s) e (rw (L.ends, L.all_numerals) f) L.past L.further L.to

    pub count-is : tasks s ≡ r.number
    unfolding tasks rest_at
    count-is = rw (line-is s 0 zero-le) (sym L.holds.has_number)

    pub count-few : counts (numbers (until_feed s)) ≡ true → r.number ≤ 126
    unfolding counts
    count-few f =
        let xs = numbers (until_feed s) in
        let a = right_of (eqb (length xs) 1) (leb 1 (get_or xs 0 0) && leb (get_or xs 0 0) 126) f in
        rw L.holds.has_number (leb-true (get_or xs 0 0) 126 (right_of (leb 1 (get_or xs 0 0)) (leb (get_or xs 0 0) 126) a))

-- ---- the whole

pub faulted_beyond : (s : List ℕ) (k : ℕ) → length s ≤ 65536 → Faulted s k → (outside s ≡ true) × (fault_of s ≡ k)
unfolding outside fault_of
faulted_beyond s k l F = rw (le-ltb LIMIT (length s) l, F.is, lt-ltb k (lines_due s) F.within) (refl, refl)

pub all-inside : (s : List ℕ) → length s ≤ 65536 → fault_at s ≡ lines_due s → outside s ≡ false
unfolding outside
all-inside s l e = rw (le-ltb LIMIT (length s) l, e) (le-ltb (lines_due s) (lines_due s) (omega arith))

pub faulted_laid : (s : List ℕ) (f : Fault) → length s ≤ 65536 → Faulted s f.line → (outside s ≡ true) × (fault_of s ≡ f.line) × (f.line ≤ 65536)
faulted_laid s f l F =
    let b = faulted_beyond s f.line l F in
    (b.0, b.1, omega (arith, F.few))

-- ---- tasks

module _ (s : List ℕ) (n v at : ℕ) (is : tasks s ≡ n) (b : v < n + 2) (R : Reached s (suc v) at) where
  pub task-further : (time : ℕ) (x : Vset) (e : ℕ) → TaskRead s at n v time x e → Reached s (suc (suc v)) e
  task-further time x e T =
      reached-more s (suc v) at R e (rw (is, fits-task n v (until_feed (drop at s)) b) T.fine) T.past T.further T.to

  pub task_faulted : has_feed (drop at s) && task_line n v (until_feed (drop at s)) ≡ false → Faulted s (suc v)
  unfolding lines_due
  task_faulted f = reached-fault s (suc v) at R (rw (is, fits-task n v (until_feed (drop at s)) b) f) (rw is (omega arith))

  task-line : line_at s (suc v) ≡ until_feed (drop at s)
  task-line = line-is s (suc v) R.there ∙ ap until_feed R.here

  pub kept_more : (wcets : List ℕ) (sets new : List (List ℕ)) (time : ℕ) (x : Vset) (e : ℕ) → v < 128 → Kept s v wcets sets → TaskRead s at n v time x e
      → Spread sets (is_in x) v new → Kept s (v + 1) (set wcets v time) new
  unfolding wcet_said time_of before_of precedes among
  kept_more wcets sets new time x e l K T S =
      record {
        times = rw (K.times, T.has_time, ← task-line) (padded-more 128 (wcet_said s) v l);
        long = S.long;
        after = λ u k h m. S.at u k m ∙ rw (K.after u k h m, T.has_before.are u, ← task-line) (last u k (cases (eqb k v)));
      }
    where
      last : (u k : ℕ) → (eqb k v ≡ true) ⊎ (eqb k v ≡ false)
          → (ltb k v && precedes s k u) || (member u (drop 3 (numbers (line_at s (suc v)))) && eqb k v) ≡ ltb k (v + 1) && precedes s k u
      last u k (inl q) =
          let z : k ≡ v = eqb-true k v q in
          rw (q, z, le-ltb v v (omega arith), lt-ltb v (v + 1) (omega arith), and-true (member u (drop 3 (numbers (line_at s (suc v)))))) refl
      last u k (inr q) =
          rw (q, and-false (member u (drop 3 (numbers (line_at s (suc v))))), or-false (ltb k v && precedes s k u), ← below_next k v q) refl

pub kept-none : (s wcets : List ℕ) (sets : List (List ℕ)) → Blank wcets sets → Kept s 0 wcets sets
kept-none s wcets sets B =
    record {
      times = B.times ∙ padded-none 128 (wcet_said s);
      long = rw B.none empty-table.size;
      after = λ u k l m. rw (B.none, le-ltb k 0 zero-le) (empty_in u k l);
    }

-- ---- lines to skip

module _ (s : List ℕ) (k at : ℕ) (past : tasks s + 3 ≤ k) (R : Reached s k at) where
  pub comment-further : (e : ℕ) → CommentRead s at e → Reached s (suc k) e
  comment-further e C =
      reached-more s k at R e (rw (fits-skipped (tasks s) k (until_feed (drop at s)) past) C.fine) C.past C.further C.to

  pub comment_faulted : at < length s → has_feed (drop at s) && skipped (until_feed (drop at s)) ≡ false → Faulted s k
  unfolding lines_due
  comment_faulted l f =
      let m : 0 < length (rest_at s k) = rw (R.here, length-drop at s) (omega arith) in
      reached-fault s k at R (rw (fits-skipped (tasks s) k (until_feed (drop at s)) past) f) (omega (arith, begun-line s k R.there m))

  pub comments_end : length s ≤ at → fault_at s ≡ lines_due s
  unfolding fault_at lines_due
  comments_end l =
      let d : rest_at s k ≡ [] = R.here ∙ drop_of_length-le s l in
      let b : begun s ≡ k = begun_all s k R.there d in
      let e : max (tasks s + 3) (begun s) ≡ k = omega arith in
      rw e (first-none (faulty s) k R.fine)
