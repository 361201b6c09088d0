-- The test `suits` tells document 01's sentences and order 8's, and is what the code tests.
use mathlib.Core.Path.{◌≡◌, refl, sym, ap, ◌∙◌, fun_ext}
use mathlib.Core.Logic.{◌⊎◌, inl, inr, ⊎_elim}
use mathlib.Core.Bool.{Bool, true, false, not, ◌&&◌, ◌||◌, and-false}
use mathlib.Core.List.{List}
use Prim.Native.Nat.{ℕ, ◌+◌, ◌≤◌, ◌<◌, zero-le}
use native.Mathlib.Omega.{arith}
use lib.Dec.{eqb, ltb, leb}
use lib.ListN.{get_or, length, get_or-eq_default}
use borrow.Author.Tests.{lt-ltb, le-ltb, le-leb, leb-true, eqb-true, eq-eqb}
use Rattle.model.specs.Places.{count, every, any, sum}
use Rattle.model.specs.ListSchedule.{ready}
use Rattle.model.proofs.Bools.{cases, clash, le-or-lt, not-true, true-not, not-is-true, both, left-of, right_of, or_left, or_right, or_cases, imp, imp_intro, same_test}
use Rattle.model.proofs.Places.{every-at, every_intro, any_none, any_false}
use Rattle.model.proofs.Tests.{ready-tells}
use Rattle.graph.specs.declared.Graph.{Graph}
use Rattle.graph.specs.Model.{as_model, AcceptedGraph}
use Rattle.vset.specs.declared.Vset.{Vset}
use Rattle.vset.specs.Members.{is_in, Members}
use Rattle.sets.specs.Sets.{Holds}
use Rattle.rows.specs.Rows.{predecessor}
use Rattle.tick.specs.declared.Run.{Run}
use Rattle.tick.specs.Run.{MOST, left_of, waiting_of, state_of, awaited}
use Rattle.ready.specs.Ready.{some_left, is_behind}
use Rattle.remains.specs.Remains.{no_more}
use Rattle.tick.specs.Suits.{SuitsBefore, NumbersRight, Suits, suits_before, numbers_right, suits}
use Rattle.ready.proofs.Standing.{ready-is}
use Rattle.ready.proofs.ByNumbers.{settled-behind, agreed, agrees}
use Rattle.waiting.specs.Waiting.{Settled, self_counted}
use Rattle.tick.proofs.Awaited.{settled-awaited, awaited-settled}
use Rattle.tick.proofs.Records.{numbers-listed, listed-numbers}

module _ (g : Graph) (r : Run) where
  abbrev within : Bool
  within = every (λ v. leb (left_of r v) (get_or g.wcet v 0)) g.n

  abbrev timely : Bool
  timely = leb (r.instant + sum (left_of r) g.n) MOST

  abbrev marked : Bool
  marked = every (λ v. not (is_in r.ran v) || ready (as_model g) (left_of r) v) g.n

  abbrev marked-of : ℕ → ℕ → Bool
  marked-of k v = is_in r.ran v && eqb (get_or g.kind v 0) k

  abbrev few : Bool
  few = every (λ k. leb (count (marked-of k) g.n) (get_or g.cores k 0)) g.kinds

  abbrev unused : Bool
  unused = every (λ v. ltb v g.n || (eqb (left_of r v) 0 && not (is_in r.ran v))) 128

  -- the six tests one by one
  pub record Passed : Type 0 where
    pub agrees : eqb r.n g.n ≡ true
    pub no_more : within ≡ true
    pub in_time : timely ≡ true
    pub ready-marks : marked ≡ true
    pub fair : few ≡ true
    pub past : unused ≡ true

  pub passed : suits_before g r ≡ true → Passed
  unfolding suits_before
  passed t =
      let a = right_of (eqb r.n g.n) (within && (timely && (marked && (few && unused)))) t in
      let b = right_of within (timely && (marked && (few && unused))) a in
      let c = right_of timely (marked && (few && unused)) b in
      let d = right_of marked (few && unused) c in
      record {
        agrees = left-of (eqb r.n g.n) (within && (timely && (marked && (few && unused)))) t;
        no_more = left-of within (timely && (marked && (few && unused))) a;
        in_time = left-of timely (marked && (few && unused)) b;
        ready-marks = left-of marked (few && unused) c;
        fair = left-of few unused d;
        past = right_of few unused d;
      }

  pub all_passed : Passed → suits_before g r ≡ true
  unfolding suits_before
  all_passed p =
      both (eqb r.n g.n) (within && (timely && (marked && (few && unused)))) p.agrees
      (both within (timely && (marked && (few && unused))) p.no_more
      (both timely (marked && (few && unused)) p.in_time
      (both marked (few && unused) p.ready-marks (both few unused p.fair p.past))))

  -- places from N on
  pub zero-from : Passed → (v : ℕ) → g.n ≤ v → v < 128 → (left_of r v ≡ 0) × (is_in r.ran v ≡ false)
  zero-from p v l h =
      go (or_cases (ltb v g.n) (eqb (left_of r v) 0 && not (is_in r.ran v)) (every-at (λ v. ltb v g.n || (eqb (left_of r v) 0 && not (is_in r.ran v))) 128 p.past v h))
    where
      go : (ltb v g.n ≡ true) ⊎ (eqb (left_of r v) 0 && not (is_in r.ran v) ≡ true) → (left_of r v ≡ 0) × (is_in r.ran v ≡ false)
      go (inl t) = absurd (clash t (le-ltb v g.n l))
      go (inr t) = (
        eqb-true (left_of r v) 0 (left-of (eqb (left_of r v) 0) (not (is_in r.ran v)) t),
        not-is-true (is_in r.ran v) (right_of (eqb (left_of r v) 0) (not (is_in r.ran v)) t),
      )

  pub nothing_left : Passed → length r.left ≡ 128 → (v : ℕ) → g.n ≤ v → left_of r v ≡ 0
  unfolding left_of
  nothing_left p long v l =
      ⊎_elim (λ (h : 128 ≤ v). get_or-eq_default r.left 0 (omega arith)) (λ (h : v < 128). (zero-from p v l h).0) (le-or-lt 128 v)

  module _ (A : AcceptedGraph g) where
    -- THEOREM. The test of before tells document 01's sentences.
    pub before-sound : suits_before g r ≡ true → SuitsBefore g r
    unfolding as_model state_of
    before-sound t =
        let p = passed t in
        record {
          agrees = eqb-true r.n g.n p.agrees;
          no_more = λ v l. leb-true (left_of r v) (get_or g.wcet v 0) (every-at (λ v. leb (left_of r v) (get_or g.wcet v 0)) g.n p.no_more v l);
          in_time = leb-true (r.instant + sum (left_of r) g.n) MOST p.in_time;
          marked_ready = λ v l m. (ready-tells A.well_formed (left_of r) A.acyclic).sound v l
              (imp (is_in r.ran v) (ready (as_model g) (left_of r) v) (every-at (λ v. not (is_in r.ran v) || ready (as_model g) (left_of r) v) g.n p.ready-marks v l) m);
          few_marked = λ k l. leb-true (count (marked-of k) g.n) (get_or g.cores k 0) (every-at (λ k. leb (count (marked-of k) g.n) (get_or g.cores k 0)) g.kinds p.fair k l);
          zero_past = λ v l h. (zero-from p v l h).0;
          unmarked_past = λ v l h. (zero-from p v l h).1;
        }

    -- THEOREM. And it tells all of them.
    pub before-complete : SuitsBefore g r → suits_before g r ≡ true
    unfolding as_model state_of
    before-complete s = all_passed (record {
      agrees = eq-eqb r.n g.n s.agrees;
      no_more = every_intro (λ v. leb (left_of r v) (get_or g.wcet v 0)) g.n (λ v l. le-leb (left_of r v) (get_or g.wcet v 0) (s.no_more v l));
      in_time = le-leb (r.instant + sum (left_of r) g.n) MOST s.in_time;
      ready-marks = every_intro (λ v. not (is_in r.ran v) || ready (as_model g) (left_of r) v) g.n
          (λ v l. imp_intro (is_in r.ran v) (ready (as_model g) (left_of r) v) (λ m. (ready-tells A.well_formed (left_of r) A.acyclic).complete v l (s.marked_ready v l m)));
      fair = every_intro (λ k. leb (count (marked-of k) g.n) (get_or g.cores k 0)) g.kinds (λ k l. le-leb (count (marked-of k) g.n) (get_or g.cores k 0) (s.few_marked k l));
      past = every_intro (λ v. ltb v g.n || (eqb (left_of r v) 0 && not (is_in r.ran v))) 128 (λ v h.
          ⊎_elim
          (λ (l : g.n ≤ v). or_right (ltb v g.n) (eqb (left_of r v) 0 && not (is_in r.ran v))
          (both (eqb (left_of r v) 0) (not (is_in r.ran v)) (eq-eqb (left_of r v) 0 (s.zero_past v l h)) (true-not (is_in r.ran v) (s.unmarked_past v l h))))
          (λ (l : v < g.n). or_left (ltb v g.n) (eqb (left_of r v) 0 && not (is_in r.ran v)) (lt-ltb v g.n l))
          (le-or-lt g.n v));
    })

    -- ---- the stored numbers

    abbrev right-number : ℕ → Bool
    right-number v = eqb (waiting_of r v) (awaited (as_model g) (left_of r) v)

    abbrev none_number : ℕ → Bool
    none_number v = ltb v g.n || eqb (waiting_of r v) 0

    -- THEOREM. The other test tells order 8's sentence, all of it.
    pub numbers-sound : numbers_right g r ≡ true → NumbersRight g r
    unfolding numbers_right
    numbers-sound t = record {
      counted = λ v l. eqb-true (waiting_of r v) (awaited (as_model g) (left_of r) v) (every-at right-number g.n (left-of (every right-number g.n) (every none_number 128) t) v l);
      none_past = λ v l h. out v l (or_cases (ltb v g.n) (eqb (waiting_of r v) 0) (every-at none_number 128 (right_of (every right-number g.n) (every none_number 128) t) v h));
    }
      where
        out : (v : ℕ) → g.n ≤ v → (ltb v g.n ≡ true) ⊎ (eqb (waiting_of r v) 0 ≡ true) → waiting_of r v ≡ 0
        out v l (inl x) = absurd (clash x (le-ltb v g.n l))
        out v l (inr x) = eqb-true (waiting_of r v) 0 x

    pub numbers-complete : NumbersRight g r → numbers_right g r ≡ true
    unfolding numbers_right
    numbers-complete N =
        both (every right-number g.n) (every none_number 128) (every_intro right-number g.n (λ v l. eq-eqb (waiting_of r v) (awaited (as_model g) (left_of r) v) (N.counted v l)))
        (every_intro none_number 128 (λ v h.
        ⊎_elim (λ (l : g.n ≤ v). or_right (ltb v g.n) (eqb (waiting_of r v) 0) (eq-eqb (waiting_of r v) 0 (N.none_past v l h)))
        (λ (l : v < g.n). or_left (ltb v g.n) (eqb (waiting_of r v) 0) (lt-ltb v g.n l)) (le-or-lt g.n v)))

    -- THEOREM. Both together tell both.
    pub suits-sound : suits g r ≡ true → Suits g r
    unfolding suits
    suits-sound t = record { before = before-sound (left-of (suits_before g r) (numbers_right g r) t); numbers = numbers-sound (right_of (suits_before g r) (numbers_right g r) t) }

    pub suits-complete : Suits g r → suits g r ≡ true
    unfolding suits
    suits-complete s = both (suits_before g r) (numbers_right g r) (before-complete s.before) (numbers-complete s.numbers)

    -- a record that suits has nothing left from N on
    pub nothing-past : suits g r ≡ true → length r.left ≡ 128 → (v : ℕ) → g.n ≤ v → left_of r v ≡ 0
    unfolding suits
    nothing-past t = nothing_left (passed (left-of (suits_before g r) (numbers_right g r) t))

    -- ---- the tests of the code

    -- THEOREM. Numbers that agree with themselves are right, and no others do.
    module _ (busy : ℕ → Bool) (is_busy : (v : ℕ) → busy v ≡ some_left r.left v) (behind : Vset) (is-behind : Members behind (λ v. ltb 0 (get_or r.waiting v 0))) (long : length r.waiting ≡ 128) where
      settles : numbers_right g r ≡ true → Settled g.edge g.edges r.waiting busy behind
      unfolding some_left left_of
      settles t = awaited-settled g A (left_of r) busy is_busy r.waiting behind (numbers-listed g A r long (numbers-sound t)) is-behind

      pub suits-settled : suits g r ≡ true → Settled g.edge g.edges r.waiting busy behind
      unfolding suits
      suits-settled t = settles (right_of (suits_before g r) (numbers_right g r) t)

      pub numbers_tested : (p : List (List ℕ)) → Holds p (predecessor g.edge g.edges) → self_counted p r.waiting busy (is_in behind) ≡ numbers_right g r
      unfolding some_left left_of
      numbers_tested p H = same_test (self_counted p r.waiting busy (is_in behind)) (numbers_right g r)
          (λ t. numbers-complete (listed-numbers g A r (settled-awaited g A (left_of r) busy is_busy r.waiting behind (agreed g A p H r.waiting busy behind long is-behind t))))
          (λ t. agrees g A p H r.waiting busy behind (settles t))

      pub standing : numbers_right g r ≡ true → (v : ℕ) → is_in behind v ≡ is_behind (as_model g) (some_left r.left) v
      standing t v = settled-behind g A r.waiting busy behind (settles t) v ∙ ap (λ (p : ℕ → Bool). is_behind (as_model g) p v) (fun_ext is_busy)

    -- able: ready by the code's sets
    module _ (able : ℕ → Bool) (is-able : (v : ℕ) → able v ≡ some_left r.left v && not (is_behind (as_model g) (some_left r.left) v)) where
      able-below : (v : ℕ) → v < g.n → able v ≡ ready (as_model g) (left_of r) v
      unfolding left_of some_left as_model
      able-below v l = is-able v ∙ sym (ready-is A.well_formed A.acyclic (left_of r) v l)

      able-past : (v : ℕ) → left_of r v ≡ 0 → able v ≡ false
      unfolding left_of some_left
      able-past v z = is-able v ∙ ap (λ (b : Bool). b && not (is_behind (as_model g) (some_left r.left) v)) (ap (ltb 0) z ∙ le-ltb 0 0 zero-le)

      abbrev new : ℕ → Bool
      new v = is_in r.ran v && not (able v)

      abbrev tested : Bool
      tested = eqb r.n g.n && (every (no_more r.left g.wcet) 128 && (timely && (not (any new 128) && few)))

      to : suits_before g r ≡ true → tested ≡ true
      unfolding no_more left_of
      to t =
          let p = passed t in
          both (eqb r.n g.n) (every (no_more r.left g.wcet) 128 && (timely && (not (any new 128) && few))) p.agrees
          (both (every (no_more r.left g.wcet) 128) (timely && (not (any new 128) && few)) (every_intro (no_more r.left g.wcet) 128 (low p))
          (both timely (not (any new 128) && few) p.in_time
          (both (not (any new 128)) few (true-not (any new 128) (any_none new 128 (mark p))) p.fair)))
        where
          low : Passed → (v : ℕ) → v < 128 → leb (get_or r.left v 0) (get_or g.wcet v 0) ≡ true
          low p v h =
              ⊎_elim
              (λ (l : g.n ≤ v). le-leb (get_or r.left v 0) (get_or g.wcet v 0) (omega (arith, (zero-from p v l h).0)))
              (λ (l : v < g.n). every-at (λ v. leb (left_of r v) (get_or g.wcet v 0)) g.n p.no_more v l)
              (le-or-lt g.n v)

          mark : Passed → (v : ℕ) → v < 128 → is_in r.ran v && not (able v) ≡ false
          mark p v h = not-true (is_in r.ran v && not (able v)) (λ x.
              let m = left-of (is_in r.ran v) (not (able v)) x in
              ⊎_elim
              (λ (l : g.n ≤ v). clash m (zero-from p v l h).1)
              (λ (l : v < g.n). clash (able-below v l ∙ imp (is_in r.ran v) (ready (as_model g) (left_of r) v)
              (every-at (λ v. not (is_in r.ran v) || ready (as_model g) (left_of r) v) g.n p.ready-marks v l) m)
              (not-is-true (able v) (right_of (is_in r.ran v) (not (able v)) x)))
              (le-or-lt g.n v))

      from : tested ≡ true → suits_before g r ≡ true
      unfolding no_more left_of
      from t =
          let a = right_of (eqb r.n g.n) (every (no_more r.left g.wcet) 128 && (timely && (not (any new 128) && few))) t in
          let b = right_of (every (no_more r.left g.wcet) 128) (timely && (not (any new 128) && few)) a in
          let d = right_of timely (not (any new 128) && few) b in
          let e = left-of (every (no_more r.left g.wcet) 128) (timely && (not (any new 128) && few)) a in
          let f = not-is-true (any new 128) (left-of (not (any new 128)) few d) in
          all_passed (record {
            agrees = left-of (eqb r.n g.n) (every (no_more r.left g.wcet) 128 && (timely && (not (any new 128) && few))) t;
            no_more = every_intro (λ v. leb (left_of r v) (get_or g.wcet v 0)) g.n (λ v l. every-at (no_more r.left g.wcet) 128 e v (omega (arith, A.few_vertices)));
            in_time = left-of timely (not (any new 128) && few) b;
            ready-marks = every_intro (λ v. not (is_in r.ran v) || ready (as_model g) (left_of r) v) g.n
                (λ v l. imp_intro (is_in r.ran v) (ready (as_model g) (left_of r) v) (λ m. sym (able-below v l) ∙ must f v (omega (arith, A.few_vertices)) m));
            fair = right_of (not (any new 128)) few d;
            past = every_intro (λ v. ltb v g.n || (eqb (left_of r v) 0 && not (is_in r.ran v))) 128 (λ v h. out e f v h);
          })
        where
          -- a mark is on a vertex that is able
          must : any new 128 ≡ false → (v : ℕ) → v < 128 → is_in r.ran v ≡ true → able v ≡ true
          must f v h m = ⊎_elim (λ x. x) (λ (x : able v ≡ false). absurd (clash (both (is_in r.ran v) (not (able v)) m (true-not (able v) x)) (any_false new 128 v h f))) (cases (able v))

          out : every (no_more r.left g.wcet) 128 ≡ true → any new 128 ≡ false → (v : ℕ) → v < 128 → ltb v g.n || (eqb (get_or r.left v 0) 0 && not (is_in r.ran v)) ≡ true
          out e f v h =
              ⊎_elim
              (λ (l : g.n ≤ v).
              let z : get_or r.left v 0 ≡ 0 = omega (arith, leb-true (get_or r.left v 0) (get_or g.wcet v 0) (every-at (no_more r.left g.wcet) 128 e v h), A.wcet_past v l) in
              or_right (ltb v g.n) (eqb (get_or r.left v 0) 0 && not (is_in r.ran v))
              (both (eqb (get_or r.left v 0) 0) (not (is_in r.ran v)) (eq-eqb (get_or r.left v 0) 0 z)
              (true-not (is_in r.ran v) (not-true (is_in r.ran v) (λ m. clash (must f v h m) (able-past v z))))))
              (λ (l : v < g.n). or_left (ltb v g.n) (eqb (get_or r.left v 0) 0 && not (is_in r.ran v)) (lt-ltb v g.n l))
              (le-or-lt g.n v)

      tested-is : tested ≡ suits_before g r
      tested-is = same_test tested (suits_before g r) from to

    -- THEOREM. All tests of the code together: where the numbers are right they tell who is able, and where they are not the others do not matter.
    module _ (able : ℕ → Bool) (numbers : Bool) (is_right : numbers ≡ numbers_right g r)
        (is-able : numbers_right g r ≡ true → (v : ℕ) → able v ≡ some_left r.left v && not (is_behind (as_model g) (some_left r.left) v)) where
      abbrev others : Bool
      others = eqb r.n g.n && (every (no_more r.left g.wcet) 128 && (timely && (not (any (λ v. is_in r.ran v && not (able v)) 128) && few)))

      pub all_tested : others && numbers ≡ suits g r
      unfolding suits
      all_tested = ap (λ (b : Bool). others && b) is_right ∙ go (numbers_right g r) refl
        where
          go : (b : Bool) → numbers_right g r ≡ b → others && b ≡ suits_before g r && b
          go true e = ap (λ (x : Bool). x && true) (tested-is able (is-able e))
          go false e = and-false others ∙ sym (and-false (suits_before g r))
