-- A leap keeps what a whole run rests on, and at the end of the leaps the table holds the finish instants.
--
-- Between two leaps nothing more is finished, so that a vertex that is finished after a leap and was not before it is finished at that
-- very instant for the first time.
use mathlib.Core.Path.{◌≡◌, refl, sym, ap, ap₂, ◌∙◌, subst, fun_ext}
use mathlib.Core.Logic.{◌⊎◌, inl, inr, ⊎_elim}
use mathlib.Core.List.{List}
use mathlib.Core.Bool.{Bool, true, false, not, ◌&&◌}
use Prim.Native.Nat.{ℕ, zero, suc, ◌+◌, ◌-◌, ◌≤◌, ◌<◌}
use native.Mathlib.Nat.{zero-add, suc-add, add_comm}
use native.Mathlib.Omega.{arith}
use lib.ListN.{get_or, length, replicate, length-replicate}
use borrow.Author.Tests.{le-leb}
use Rattle.model.specs.Places.{pick, first, any, every, count, sum, padded}
use Rattle.model.specs.Graph as model
use Rattle.model.specs.ListSchedule.{State, finished, begin, chosen, leap, step, steps, Fair}
use Rattle.model.proofs.Bools.{cases, clash, le-or-lt, not-is-true}
use Rattle.model.proofs.Places.{first-at, first-none, first-here, every-at, every_intro, every_ext, any_intro, any_false, count_none, some-counted, none-counted, any_none}
use Rattle.model.proofs.Sums.{sum-most}
use Rattle.model.proofs.Tables.{padded-none, padded-past}
use Rattle.model.proofs.Finished.{fin_less}
use Rattle.model.proofs.Tests.{finished-tells}
use Rattle.model.proofs.Listed.{fair-begin}
use Rattle.model.proofs.Leap.{leap-steps, leap-finished}
use Rattle.graph.specs.declared.Graph.{Graph}
use Rattle.graph.specs.Model.{as_model, AcceptedGraph}
use Rattle.vset.specs.Members.{is_in}
use Rattle.vset.proofs.Taking.{twice}
use Rattle.tick.specs.declared.Run.{Run}
use Rattle.tick.specs.Run.{MOST, left_of, state_of, record_for}
use Rattle.ready.specs.Ready.{some_left}
use Rattle.waiting.specs.Waiting.{Settled}
use Rattle.remains.specs.Remains.{TOP}
use Rattle.remains.proofs.Fewest.{least-none}
use Rattle.leaps.specs.Finishes.{done_at, finish_at, finish_of}
use Rattle.leaps.proofs.Finishes.{all_done}
use Rattle.tick.proofs.Moved.{moved-state, less-left, spend}
use Rattle.model.proofs.Turns.{as_padded}
use Rattle.leaps.proofs.OneLeap.{unfinished-is, unfinished-past, over-all, one-runs}
use Rattle.leaps.specs.Leaps.{Work, stamped, unfinished, Sound, Leapt, Fresh, Kept}

pub steps-add : (G : model.Graph) (s : State) (d t : ℕ) → steps G (d + t) s ≡ steps G d (steps G t s)
unfolding steps
steps-add G s zero t = ap (λ (x : ℕ). steps G x s) (zero-add t)
steps-add G s (suc d) t = ap (λ (x : ℕ). steps G x s) (suc-add d t) ∙ ap (step G) (steps-add G s d t)

-- the first place, where it is at most the end
pub first_is : (p : ℕ → Bool) (m k : ℕ) → k ≤ m → ((i : ℕ) → i < k → p i ≡ false) → p k ≡ true → first p m ≡ k
first_is p m k l below here =
    ⊎_elim
    (λ (h : m ≤ k). let e : m ≡ k = omega arith in first-none p m (λ i j. below i (omega arith)) ∙ e)
    (λ (h : k < m). first-at p m k h below here)
    (le-or-lt m k)

module _ (g : Graph) (A : AcceptedGraph g) where
  abbrev G : model.Graph
  G = as_model g

  module _ (e : ℕ → ℕ) (room : ℕ) (w new : Work) (kept : Kept g e w) (some-busy : 0 < count (is_in w.busy) 128) (leapt : Leapt g room w new) where
    abbrev now : ℕ
    now = w.run.instant

    abbrev s : State
    s = state_of w.run

    fair : Fair G s
    fair = kept.sound.fair

    past : (v : ℕ) → g.n ≤ v → s.rest v ≡ 0
    unfolding state_of
    past = kept.sound.past

    long-enough : (v : ℕ) → chosen G s v ≡ true → leapt.d ≤ s.rest v
    unfolding state_of
    long-enough = leapt.enough

    pub later : new.run.instant ≡ now + leapt.d
    unfolding record_for
    later = ap (λ (r : Run). r.instant) leapt.moved

    -- the record after the leap stands for the state after the leap
    leaps-to : state_of new.run ≡ leap G leapt.d s
    leaps-to = moved-state g A w.run kept.sound.past leapt.d new.run leapt.moved

    there : state_of new.run ≡ steps G new.run.instant (begin e)
    unfolding as_model
    there =
        leaps-to
        ∙ sym (leap-steps A.well_formed s fair past leapt.d leapt.some long-enough)
        ∙ ap (steps G leapt.d) kept.state
        ∙ sym (steps-add G (begin e) leapt.d now)
        ∙ ap (λ (t : ℕ). steps G t (begin e)) (add_comm leapt.d now ∙ sym later)

    done-there : (v : ℕ) → v < g.n → done_at G e new.run.instant v ≡ not (unfinished new v)
    unfolding done_at state_of
    done-there v l =
        ap (λ (x : State). finished G x.rest v) (sym there)
        ∙ sym (ap not (unfinished-is g A new leapt.sound v l) ∙ twice (finished G (left_of new.run) v))

    -- before the leap's end nothing more is finished
    during : (t : ℕ) → now ≤ t → t < new.run.instant → (v : ℕ) → done_at G e t v ≡ finished G (left_of w.run) v
    unfolding done_at state_of as_model
    during t a b v =
        let q : t ≡ (t - now) + now = omega arith in
        ap (λ (x : ℕ). finished G (steps G x (begin e)).rest v) q
        ∙ ap (λ (x : State). finished G x.rest v) (steps-add G (begin e) (t - now) now ∙ ap (steps G (t - now)) (sym kept.state))
        ∙ leap-finished A.well_formed s fair past leapt.d (t - now) (omega (arith, later)) long-enough v

    -- until then, an unfinished vertex stays so
    not_before : (v : ℕ) → v < g.n → unfinished w v ≡ true → (t : ℕ) → t < new.run.instant → done_at G e t v ≡ false
    not_before v l u t h =
        ⊎_elim
        (λ (k : now ≤ t). during t k h v ∙ not-is-true (finished G (left_of w.run) v) (sym (unfinished-is g A w kept.sound v l) ∙ u))
        (λ (k : t < now). kept.going v l u t (omega arith))
        (le-or-lt now t)

    -- what is finished stays finished
    stays : (v : ℕ) → v < g.n → unfinished new v ≡ true → unfinished w v ≡ true
    unfolding as_model
    stays v l u =
        ⊎_elim (λ x. x)
        (λ (x : unfinished w v ≡ false).
        let f = (finished-tells A.well_formed (left_of w.run) A.acyclic).sound v l (true_of (finished G (left_of w.run) v) (sym (unfinished-is g A w kept.sound v l) ∙ x)) in
        absurd (clash ((finished-tells A.well_formed (left_of new.run) A.acyclic).complete v l (fin_less (less-left g A w.run kept.sound.past leapt.d new.run leapt.moved) f)) (not-is-true (finished G (left_of new.run) v) (sym (unfinished-is g A new leapt.sound v l) ∙ u))))
        (cases (unfinished w v))
      where
        true_of : (b : Bool) → not b ≡ false → b ≡ true
        true_of true e = refl
        true_of false e = absurd (clash refl e)

    fewer-ticks : sum (left_of new.run) g.n + leapt.d ≤ sum (left_of w.run) g.n
    fewer-ticks =
        let u = one-runs g A w kept.sound some-busy in
        spend g A w.run kept.sound.past leapt.d new.run leapt.moved u.0 u.1 u.2 (leapt.enough u.0 u.2)

    stamp-at : (v : ℕ) → v < g.n → get_or new.finishes v 0 ≡ pick (unfinished w v && not (unfinished new v)) new.run.instant (get_or w.finishes v 0)
    unfolding stamped
    stamp-at v l = leapt.stamps.at v (omega (arith, A.few_vertices))

    -- finished now, or before
    newly : (v : ℕ) → v < g.n → unfinished new v ≡ false → (unfinished w v ≡ true) ⊎ (unfinished w v ≡ false)
        → ((unfinished w v ≡ true) × (get_or new.finishes v 0 ≡ new.run.instant)) ⊎ ((unfinished w v ≡ false) × (get_or new.finishes v 0 ≡ get_or w.finishes v 0))
    newly v l f (inl u) = inl (u, stamp-at v l ∙ ap₂ (λ (a b : Bool). pick (a && not b) new.run.instant (get_or w.finishes v 0)) u f)
    newly v l f (inr u) = inr (u, stamp-at v l ∙ ap (λ (a : Bool). pick (a && not (unfinished new v)) new.run.instant (get_or w.finishes v 0)) u)

    has_ended : (v : ℕ) → v < g.n → unfinished new v ≡ false
        → (get_or new.finishes v 0 ≤ new.run.instant) × (done_at G e (get_or new.finishes v 0) v ≡ true)
    has_ended v l f = go (newly v l f (cases (unfinished w v)))
      where
        go : ((unfinished w v ≡ true) × (get_or new.finishes v 0 ≡ new.run.instant)) ⊎ ((unfinished w v ≡ false) × (get_or new.finishes v 0 ≡ get_or w.finishes v 0))
            → (get_or new.finishes v 0 ≤ new.run.instant) × (done_at G e (get_or new.finishes v 0) v ≡ true)
        go (inl (u, q)) = (omega (arith, q), ap (λ (t : ℕ). done_at G e t v) q ∙ done-there v l ∙ ap not f)
        go (inr (u, q)) =
            let k = kept.ended v l u in
            (omega (arith, q, k.0, later), ap (λ (t : ℕ). done_at G e t v) q ∙ k.1)

    for-the-first : (v : ℕ) → v < g.n → unfinished new v ≡ false → (t : ℕ) → t < get_or new.finishes v 0 → done_at G e t v ≡ false
    for-the-first v l f t h = go (newly v l f (cases (unfinished w v)))
      where
        go : ((unfinished w v ≡ true) × (get_or new.finishes v 0 ≡ new.run.instant)) ⊎ ((unfinished w v ≡ false) × (get_or new.finishes v 0 ≡ get_or w.finishes v 0))
            → done_at G e t v ≡ false
        go (inl (u, q)) = not_before v l u t (omega (arith, q))
        go (inr (u, q)) = kept.first v l u t (omega (arith, q))

    still-going : (v : ℕ) → v < g.n → unfinished new v ≡ true → (t : ℕ) → t ≤ new.run.instant → done_at G e t v ≡ false
    still-going v l u t h =
        ⊎_elim
        (λ (k : new.run.instant ≤ t). let q : t ≡ new.run.instant = omega arith in ap (λ (x : ℕ). done_at G e x v) q ∙ done-there v l ∙ ap not u)
        (λ (k : t < new.run.instant). not_before v l (stays v l u) t k)
        (le-or-lt new.run.instant t)

    some-going : (t : ℕ) → t < new.run.instant → every (done_at G e t) g.n ≡ false
    some-going t h =
        ⊎_elim
        (λ (k : now ≤ t).
        every_ext (done_at G e t) (finished G (left_of w.run)) g.n (λ v l. during t k h v)
        ∙ over-all g A w kept.sound
        ∙ ap not (let b = some-counted (is_in w.busy) 128 some-busy in any_intro (is_in w.busy) 128 b.0 b.1 b.2))
        (λ (k : t < now). kept.not_all t k)
        (le-or-lt now t)

    still-blank : (v : ℕ) → g.n ≤ v → v < 128 → get_or new.finishes v 0 ≡ 0
    unfolding stamped
    still-blank v l h =
        leapt.stamps.at v h
        ∙ ap (λ (a : Bool). pick (a && not (unfinished new v)) new.run.instant (get_or w.finishes v 0)) (unfinished-past g A w kept.sound v l)
        ∙ kept.blank v l h

    pub keeps_on : Kept g e new
    keeps_on = record {
      sound = leapt.sound;
      state = there;
      spent = omega (arith, kept.spent, fewer-ticks, later);
      ended = has_ended;
      first = for-the-first;
      going = still-going;
      blank = still-blank;
      not_all = some-going;
    }

  -- ---- the start

  module _ (r : Run) (fresh : Fresh g r) where
    as-begun : state_of r ≡ begin (left_of r)
    unfolding state_of
    as-begun = ap {B = State} (λ (p : ℕ → Bool). record { rest = left_of r; ran = p }) (fun_ext fresh.unmarked)

    fair-start : Fair G (state_of r)
    fair-start = subst (Fair G) (sym as-begun) (fair-begin G (left_of r))

    state-start : state_of r ≡ steps G r.instant (begin (left_of r))
    unfolding steps
    state-start = as-begun ∙ sym (ap (λ (t : ℕ). steps G t (begin (left_of r))) fresh.at_start)

    pub in_time-start : r.instant + sum (left_of r) g.n ≤ MOST
    in_time-start = omega (arith, fresh.at_start, A.few_vertices, sum-most (left_of r) 1000000 g.n (λ v l. omega (arith, fresh.short v l, A.short v l)))

    module _ (w : Work) (is-run : w.run ≡ r) (is-least : w.least ≡ TOP) (is_busy : (v : ℕ) → is_in w.busy v ≡ some_left r.left v)
        (settled : Settled g.edge g.edges w.run.waiting (is_in w.busy) w.behind) (is-table : w.finishes ≡ replicate 128 0) (long : length w.run.left ≡ 128) where
      sound-start : Sound g w
      sound-start = record {
        agrees = rw is-run fresh.agrees;
        past = rw is-run fresh.past;
        fair = rw is-run fair-start;
        in_time = rw is-run in_time-start;
        goes_on = λ v t. absurd (clash (rw is-run at t) (fresh.unmarked v));
        fewest = rw is-least (least-none (left_of w.run) (is_in w.run.ran) TOP (rw is-run fresh.unmarked));
        is_busy = rw is-run is_busy;
        settled = settled;
        long_left = long;
        long_finishes = ap (λ (l : List ℕ). length l) is-table ∙ length-replicate {A = ℕ} 128 0;
      }

      zero-table : (v : ℕ) → get_or w.finishes v 0 ≡ 0
      zero-table v = ap (λ (l : List ℕ). get_or l v 0) (is-table ∙ padded-none 128 (λ v. 0)) ∙ padded-past 128 (λ v. 0) 0 v (omega arith)

      at_zero : (v : ℕ) → v < g.n → done_at G (left_of r) 0 v ≡ not (unfinished w v)
      unfolding done_at steps
      at_zero v l = sym (ap not (unfinished-is g A w sound-start v l ∙ ap (λ (x : Run). not (finished G (left_of x) v)) is-run) ∙ twice (finished G (left_of r) v))

      pub kept-start : Kept g (left_of r) w
      kept-start = record {
        sound = sound-start;
        state = rw is-run state-start;
        spent = rw is-run (omega (arith, fresh.at_start));
        ended = λ v l f. (omega (arith, zero-table v), ap (λ (t : ℕ). done_at G (left_of r) t v) (zero-table v) ∙ at_zero v l ∙ ap not f);
        first = λ v l f t h. absurd (omega (arith, zero-table v));
        blank = λ v l h. zero-table v;
        going = λ v l u t h. ap (λ (x : ℕ). done_at G (left_of r) x v) (nought t (rw is-run at h)) ∙ at_zero v l ∙ ap not u;
        not_all = λ t h. absurd (omega (arith, rw is-run at h, fresh.at_start));
      }
        where
          nought : (t : ℕ) → t ≤ r.instant → t ≡ 0
          nought t h = omega (arith, fresh.at_start)

  -- ---- the end

  doneAt-state : (e : ℕ → ℕ) (w : Work) → Kept g e w → (v : ℕ) → done_at G e w.run.instant v ≡ finished G (left_of w.run) v
  unfolding done_at state_of
  doneAt-state e w k v = ap (λ (x : State). finished G x.rest v) (sym k.state)

  -- not all is finished before, so that the finish is not before
  pub not_sooner : (e : ℕ → ℕ) (w : Work) → Kept g e w → w.run.instant ≤ finish_of G e
  unfolding finish_of as_model
  not_sooner e w k =
      ⊎_elim (λ l. l)
      (λ (l : first p (sum e g.n) < w.run.instant). absurd (clash (first-here p (sum e g.n) (omega (arith, k.spent))) (k.not_all (first p (sum e g.n)) l)))
      (le-or-lt w.run.instant (first p (sum e g.n)))
    where
      p : ℕ → Bool
      p t = every (done_at G e t) g.n

  -- where all is finished nobody is busy
  pub none-busy : (e : ℕ → ℕ) (w : Work) → Kept g e w → w.run.instant ≡ finish_of G e → count (is_in w.busy) 128 ≡ 0
  unfolding as_model
  none-busy e w k q =
      let done : every (finished G (left_of w.run)) g.n ≡ true = every_ext (finished G (left_of w.run)) (done_at G e w.run.instant) g.n (λ v l. sym (doneAt-state e w k v))
      ∙ all_done A.well_formed A.acyclic e w.run.instant (omega arith) ∙ le-leb (finish_of G e) w.run.instant (omega arith) in
      let none = not-is-true (any (is_in w.busy) 128) (sym (over-all g A w k.sound) ∙ done) in
      count_none (is_in w.busy) 128 (λ v h. any_false (is_in w.busy) 128 v h none)

  module _ (e : ℕ → ℕ) (w : Work) (k : Kept g e w) (z : count (is_in w.busy) 128 ≡ 0) where
    none : any (is_in w.busy) 128 ≡ false
    none = any_none (is_in w.busy) 128 (none-counted (is_in w.busy) 128 z)

    is-done : (v : ℕ) → v < g.n → finished G (left_of w.run) v ≡ true
    is-done v l = every-at (finished G (left_of w.run)) g.n (over-all g A w k.sound ∙ ap not none) v l

    over-now : (v : ℕ) → v < g.n → unfinished w v ≡ false
    over-now v l = unfinished-is g A w k.sound v l ∙ ap not (is-done v l)

    pub at-finish : w.run.instant ≡ finish_of G e
    unfolding finish_of as_model
    at-finish =
        sym (first_is (λ t. every (done_at G e t) g.n) (sum e g.n) w.run.instant (omega (arith, k.spent)) k.not_all
        (every_intro (done_at G e w.run.instant) g.n (λ v l. doneAt-state e w k v ∙ is-done v l)))

    pub all-stamped : w.finishes ≡ padded 128 (finish_at G e) g.n
    unfolding finish_at as_model
    all-stamped = as_padded (finish_at G e) 128 g.n w.finishes A.few_vertices k.sound.long_finishes instants k.blank
      where
        instants : (v : ℕ) → v < g.n → get_or w.finishes v 0 ≡ finish_at G e v
        instants v l =
            let f = k.ended v l (over-now v l) in
            sym (first_is (λ t. done_at G e t v) (sum e g.n) (get_or w.finishes v 0) (omega (arith, f.0, k.spent)) (k.first v l (over-now v l)) f.1)
