-- From the finish instants of a run to the keys of its log, from the keys in order to the log, and from there to the entry's answer.
use mathlib.Core.Path.{◌≡◌, refl, sym, ap, ◌∙◌}
use mathlib.Core.Logic.{◌⊎◌, inl, inr, ⊎_elim}
use mathlib.Core.Bool.{Bool, true}
use mathlib.Core.List.{List, ◌++◌}
use Prim.Native.Nat.{ℕ, suc, ◌+◌, ◌-◌, ◌*◌, ◌/◌, ◌%◌, ◌≤◌, ◌<◌}
use native.Mathlib.Omega.{arith}
use lib.ListN.{length, get_or, get_or-append}
use borrow.Author.Tests.{lt-ltb, le-ltb}
use Rattle.model.specs.Places.{sum, table, that}
use Rattle.model.specs.Graph as model
use Rattle.model.specs.Schedule.{Schedule, FinishOf}
use Rattle.model.specs.ListSchedule.{begin, list_schedule}
use Rattle.model.proofs.Bools.{le-or-lt}
use Rattle.model.proofs.Places.{first-le}
use Rattle.model.proofs.Sums.{sum-most}
use Rattle.model.proofs.Tables.{padded-at}
use Rattle.model.proofs.Turns.{as_table}
use Rattle.model.proofs.That.{that-length, that_kth}
use Rattle.graph.specs.Model.{as_model, AcceptedGraph}
use Rattle.graph.specs.declared.Graph.{Graph}
use Rattle.graph.specs.declared.Refusal.{Refusal}
use Rattle.graph.specs.Answer.{Answer}
use Rattle.graph.specs.Answer.{Accepted, Refused as No}
use Rattle.graph.specs.Answer.{Taken}
use Rattle.graph.specs.Judge.{read_of}
use Rattle.tick.specs.declared.Run.{Run}
use Rattle.tick.specs.Run.{left_of, record_for}
use Rattle.remains.specs.Remains.{place}
use Rattle.leaps.specs.Finishes.{finish_at}
use Rattle.leaps.specs.Leaps.{Fresh, end_of}
use Rattle.leaps.specs.declared.Ended.{Ended}
use Rattle.leaps.proofs.Finishes.{finish-of-vertex}
use Rattle.leaps.proofs.Instants.{left-start, fresh_start}
use Rattle.times.specs.Times.{times_of, judge_times, Fitting}
use Rattle.times.proofs.Fits.{none_past}
use Rattle.recorded.specs.LogOf.{starts_at, stops_at_of, change, bytes_of, log_up_to, log_of}
use Rattle.recorded.proofs.Entries.{bytes-length}
use Rattle.recorded.proofs.Changes.{start_changes, stop_changes, change-of}
use Rattle.recorded.proofs.Intervals.{Interval, interval, start_only, stop_only}
use Rattle.sorting.specs.Sorted.{Holding}
use Rattle.writer.specs.Write.{room_by}
use Rattle.writer.specs.Wrote.{Wrote}
use Rattle.writer.specs.Wrote.{Bytes, Refused}
use Rattle.logs.specs.Keys.{start_key, stop_key, KeyOf, Gathered, BOUND}
use Rattle.logs.specs.Answers.{log_for, logged_in, logged_on, logged_of, log_room}

-- the test that a key of the log passes, and what all keys are below
abbrev pub is_key : Graph → List ℕ → ℕ → Bool
is_key g l = change (as_model g).n (list_schedule (as_model g) (times_of l))

abbrev pub key_bound : Graph → List ℕ → ℕ
key_bound g l = 512 * suc (sum (times_of l) (as_model g).n)

module _ (g : Graph) (A : AcceptedGraph g) (l : List ℕ) (fit : Fitting g l) where
  abbrev G : model.Graph
  G = as_model g

  abbrev e : ℕ → ℕ
  e = times_of l

  abbrev S : Schedule
  S = list_schedule G e

  pub fresh-begun : Fresh g (record_for (as_model g) 0 (begin (times_of l)))
  fresh-begun = fresh_start g A e (none_past g l fit) fit.short

  -- a run takes no more ticks than there are in all
  few-ticks : sum e G.n ≤ 128000000
  unfolding as_model
  few-ticks = omega (arith, sum-most e 1000000 g.n (λ v b. omega (arith, fit.short v b, A.short v b)), A.few_vertices)

  -- ---- the keys, in any order

  module _ (run : Run) (r : Ended) (is-begun : run ≡ record_for (as_model g) 0 (begin (times_of l))) (ends : r ≡ end_of g (left_of run)) where
    abbrev F : ℕ → ℕ
    F = place r.finishes

    instants : (v : ℕ) → v < G.n → F v ≡ finish_at G e v
    unfolding end_of as_model
    instants v b =
        ap (λ (x : Ended). get_or x.finishes v 0) (ends ∙ ap (end_of g) (ap left_of is-begun ∙ left-start g A e (none_past g l fit)))
        ∙ padded-at 128 (finish_at G e) g.n v b

    finish : (v : ℕ) → v < G.n → FinishOf G S v (F v)
    finish v b = rw (instants v b) (finish-of-vertex A.well_formed A.acyclic e v b)

    in_time : (v : ℕ) → v < G.n → F v ≤ sum e G.n
    unfolding finish_at
    in_time v b = rw (instants v b) (first-le _ (sum e G.n))

    enough : (v : ℕ) → v < G.n → e v ≤ F v
    enough v b = ⊎_elim (λ (z : e v ≤ 0). omega arith)
        (λ (z : 0 < e v). (interval A.well_formed A.acyclic e v b (F v) (finish v b) z).0) (le-or-lt (e v) 0)

    -- the instants are not before their times, nor too late
    pub in_reach : (v : ℕ) → v < g.n → (times_of l v ≤ place r.finishes v) × (place r.finishes v ≤ 128000000)
    unfolding as_model
    in_reach v b = (enough v b, omega (arith, in_time v b, few-ticks))

    module _ (m : ℕ) (keys : List ℕ) (K : Gathered (times_of l) (place r.finishes) g.n m keys) where
      few : G.n ≤ 128
      unfolding as_model
      few = A.few_vertices

      -- a start or a stop that was gathered is one of the schedule,
      changes : {x : ℕ} → KeyOf e F G.n x → (x < 512 * suc (sum e G.n)) × (change G.n S x ≡ true)
      unfolding start_key stop_key
      changes k = ⊎_elim
          (λ q. (
            omega (arith, in_time k.v k.known, few, k.known),
            rw q (stop_changes G.n S (F k.v) k.v k.known (omega (arith, few)) at.1.stops),
          ))
          (λ q. (
            omega (arith, in_time k.v k.known, few, k.known),
            rw q (start_changes G.n S (F k.v - e k.v) k.v k.known (omega (arith, few)) at.1.starts),
          ))
          k.is
        where
          at : (e k.v ≤ F k.v) × Interval S k.v (F k.v - e k.v) (F k.v)
          at = interval A.well_formed A.acyclic e k.v k.known (F k.v) (finish k.v k.known) k.some

      -- and each of the schedule was gathered
      found : (x : ℕ) → change G.n S x ≡ true → (i : ℕ) × (i < m) × (get_or keys i 0 ≡ x)
      unfolding as_model start_key stop_key
      found x c = go (change-of G.n S x c)
        where
          go : (x % 256 < G.n)
              × (((x ≡ 512 * (x / 512) + 256 + x % 256) × (starts_at S (x / 512) (x % 256) ≡ true))
              ⊎ ((x ≡ 512 * (x / 512) + x % 256) × (stops_at_of S (x / 512) (x % 256) ≡ true)))
              → (i : ℕ) × (i < m) × (get_or keys i 0 ≡ x)
          go (b, inl (q, s)) =
              let o = start_only A.well_formed A.acyclic e (x % 256) b (F (x % 256)) (finish (x % 256) b) (x / 512) s in
              let i = K.start (x % 256) b o.0 in
              (i.0, i.1, i.2 ∙ omega (arith, o.1))
          go (b, inr (q, s)) =
              let o = stop_only A.well_formed A.acyclic e (x % 256) b (F (x % 256)) (finish (x % 256) b) (x / 512) s in
              let i = K.stop (x % 256) b o.0 in
              (i.0, i.1, i.2 ∙ omega (arith, o.1))

      pub all-keys : Holding (is_key g l) (key_bound g l) m keys
      unfolding as_model
      all-keys = record {
        below = λ i b. (changes (K.of i b)).0;
        is = λ i b. (changes (K.of i b)).1;
        all = λ x b c. found x c;
        once = K.once;
      }

  -- ---- the keys in order

  module _ (m : ℕ) (keys rest : List ℕ) (as_many : length (that (is_key g l) (key_bound g l)) ≡ m) (are : keys ≡ that (is_key g l) (key_bound g l) ++ rest) where
    key-at : (i : ℕ) → i < m → place keys i ≡ get_or (that (is_key g l) (key_bound g l)) i 0
    key-at i b = ap (λ (x : List ℕ). get_or x i 0) are ∙ get_or-append (that (is_key g l) (key_bound g l)) rest 0 i (omega (arith, as_many))

    pub key_below : (i : ℕ) → i < m → place keys i < BOUND
    key_below i b =
        let k = that_kth (is_key g l) (key_bound g l) i (omega (arith, as_many, that-length (is_key g l) (key_bound g l))) in
        omega (arith, key-at i b, k.below, few-ticks)

    -- THEOREM. The records with these keys are the log.
    pub log_is : bytes_of (table (place keys) m) ≡ log_for g l
    unfolding log_for log_of log_up_to
    log_is = ap bytes_of (sym (as_table (place keys) m (that (is_key g l) (key_bound g l)) as_many (λ i b. sym (key-at i b))))

    log-length : length (log_for g l) ≡ 8 * m
    unfolding log_for log_of log_up_to
    log-length = bytes-length (that (is_key g l) (key_bound g l)) ∙ ap (λ (x : ℕ). 8 * x) as_many

    pub no_room : (room : ℕ) → room < 8 * m → ◌≡◌ {A = Wrote} (Refused (record { number = 15; place = 0 })) (logged_in g l room)
    unfolding logged_in
    no_room room h = rw (lt-ltb room (length (log_for g l)) (omega (arith, log-length))) refl

    pub with-room : (room : ℕ) → 8 * m ≤ room → ◌≡◌ {A = Wrote} (Bytes (8 * m)) (logged_in g l room)
    unfolding logged_in
    with-room room h = rw (le-ltb room (length (log_for g l)) (omega (arith, log-length))) (ap {B = Wrote} Bytes (sym log-length))

-- ---- the times, and the file

module _ (g : Graph) (l : List ℕ) (room : ℕ) where
  pub untimed : (x : Refusal) → judge_times g l ≡ No x → logged_on g l room ≡ Refused x
  unfolding logged_on
  untimed x p = rw p refl

  pub timed : judge_times g l ≡ Accepted → logged_on g l room ≡ logged_in g l room
  unfolding logged_on logged_in
  timed p = rw p refl

module _ (s : List ℕ) (t : Taken) (e : t ≡ read_of s) where
  answered : (a : Answer) → t.answer ≡ a → (read_of s).answer ≡ a
  answered a p = sym (ap (λ (x : Taken). x.answer) e) ∙ p

  pub unread : (x : Refusal) → t.answer ≡ No x → (l old : List ℕ) → (◌≡◌ {A = Wrote} (Refused x) (logged_of s l (length old))) × (old ≡ log_room s l old)
  unfolding logged_of log_room
  unread x p l old = let q : logged_of s l (length old) ≡ Refused x = rw (answered (No x) p) refl in (sym q, rw q refl)

  pub read : t.answer ≡ Accepted → (l old new : List ℕ) (r : Wrote) → r ≡ logged_on t.graph l (length old) → new ≡ room_by r (log_for t.graph l) old
      → (r ≡ logged_of s l (length old)) × (new ≡ log_room s l old)
  unfolding logged_of log_room
  read p l old new r a b = let q : logged_of s l (length old) ≡ r = rw (answered Accepted p, ← e) (sym a) in (sym q, rw (q, ← e) b)
