-- One pass over the records finds the first at fault: what it has met before a record tells whether that record is at fault.
use mathlib.Core.Path.{◌≡◌, refl, sym, ap, ◌∙◌}
use mathlib.Core.Logic.{◌⊎◌, inl, inr, ◌≢◌}
use mathlib.Core.Bool.{Bool, true, false, not, ◌&&◌, ◌||◌}
use mathlib.Core.List.{List}
use Prim.Native.Nat.{ℕ, zero, suc, ◌+◌, ◌-◌, ◌%◌, ◌≤◌, ◌<◌}
use native.Mathlib.Numerals.{add-one}
use native.Mathlib.Omega.{arith}
use native.Mathlib.Decide.{ℕ_discrete}
use lib.ListN.{length}
use lib.Dec.{eqb, ltb, leb}
use borrow.Author.Tests.{lt-ltb, le-ltb, ltb-false, eq-eqb, ne_eqb, lt-leb, le-leb}
use Rattle.model.specs.Places.{pick, bit, any}
use Rattle.model.proofs.Bools.{le-or-lt, or_left, or_right, or_neither, not-true, same_test}
use Rattle.model.proofs.Places.{any_intro, any_elim, first_below}
use Rattle.graph.specs.File.{records}
use Rattle.graph.specs.Answer.{Accepted, Refused}
use Rattle.vset.specs.declared.Vset.{Vset}
use Rattle.vset.specs.Members.{is_in, Members}
use Rattle.vset.proofs.Taking.{twice}
use Rattle.recorded.specs.Log.{is_start, is_stop, who, key, starts, stops, running, unknown_kind, unknown_vertex, spare_set, wrong_order, start_while_running, stop_while_not_running, too_late, fault, wrong_length_of, unended}
use Rattle.recorded.proofs.Records.{Fine, fine, not-both, running_elim, start_of}
use Rattle.recorded.proofs.Prefix.{running_none, running-step}
use Rattle.formed.specs.Passing.{least_key, fault_by, MetBy, FoundBy, form_of}
use Rattle.formed.specs.declared.Met.{Met}
use Rattle.std.specs.Prelude.{Ok, Err}

-- ---- who runs after one record more

module _ {n : ℕ} {l : List ℕ} {k : ℕ} (f : Fine n l k) where
  -- a record of another vertex changes nothing
  pub other : (v : ℕ) → v ≢ who l k → running l (suc k) v ≡ running l k v
  unfolding starts stops
  other v x =
      let e : eqb (who l k) v ≡ false = ne_eqb (who l k) v (λ q. x (sym q)) in
      running-step l k v ∙ rw e (same (is_start l k) (is_stop l k) (running l k v))
    where
      same : (a b c : Bool) → a && false || (c && not (b && false)) ≡ c
      same true true true = refl
      same true true false = refl
      same true false true = refl
      same true false false = refl
      same false true true = refl
      same false true false = refl
      same false false true = refl
      same false false false = refl

  -- its own vertex runs after a start, and not after a stop
  pub own : running l (suc k) (who l k) ≡ is_start l k
  unfolding starts stops
  own = running-step l k (who l k) ∙ rw (eq-eqb (who l k) (who l k) refl) (by f.known)
    where
      started : (b c : Bool) → (true && true) || (c && not (b && true)) ≡ true
      started b c = refl

      stopped : (c : Bool) → (false && true) || (c && not (true && true)) ≡ false
      stopped true = refl
      stopped false = refl

      by : (is_start l k ≡ true) ⊎ (is_stop l k ≡ true) → (is_start l k && true) || (running l k (who l k) && not (is_stop l k && true)) ≡ is_start l k
      by (inl s) = rw s (started (is_stop l k) (running l k (who l k)))
      by (inr s) = rw (s, not-true (is_start l k) (λ x. not-both l k x s)) (stopped (running l k (who l k)))

  pub switch_is : (on : ℕ → Bool) → ((v : ℕ) → on v ≡ running l k v)
      → (v : ℕ) → pick (is_start l k) (on v || eqb v (who l k)) (on v && not (eqb v (who l k))) ≡ running l (suc k) v
  switch_is on are v = go (ℕ_discrete v (who l k))
    where
      at : (a b : Bool) → pick a (b || true) (b && not true) ≡ a
      at true true = refl
      at true false = refl
      at false true = refl
      at false false = refl

      off : (a b : Bool) → pick a (b || false) (b && not false) ≡ b
      off true true = refl
      off true false = refl
      off false true = refl
      off false false = refl

      go : Dec (v ≡ who l k) → pick (is_start l k) (on v || eqb v (who l k)) (on v && not (eqb v (who l k))) ≡ running l (suc k) v
      go (yes q) = rw (q, eq-eqb (who l k) (who l k) refl) (at (is_start l k) (on (who l k)) ∙ sym own)
      go (no q) = rw (ne_eqb v (who l k) q) (off (is_start l k) (on v) ∙ are v ∙ sym (other v q))

-- ---- number 18 of a record

pub met_none : (l : List ℕ) (on : Vset) → Members on (λ v. false) → MetBy l 0 (record { on = on; least = 0 })
unfolding least_key
met_none l on m = record { on_are = record { low = m.low; high = m.high; are = λ v. m.are v ∙ sym (running_none l v) }; least_is = refl }

module _ (n : ℕ) (l : List ℕ) (k : ℕ) (p : Met) (m : MetBy l k p) where
  pub met_next : fault n l k ≡ false → (on : Vset)
      → Members on (λ v. pick (is_start l k) (is_in p.on v || eqb v (who l k)) (is_in p.on v && not (eqb v (who l k))))
      → MetBy l (k + 1) (record { on = on; least = key l k + 1 })
  unfolding least_key
  met_next f on s = record {
    on_are = record { low = s.low; high = s.high; are = λ v. rw (add-one k) (s.are v ∙ switch_is (fine n l k f) (is_in p.on) m.on_are.are v) };
    least_is =
        let e : k + 1 - 1 ≡ k = omega arith in
        rw (lt-ltb 0 (k + 1) (omega arith), e) refl;
  }

  pub fault-unknown : n ≤ who l k → fault n l k ≡ true
  unfolding fault unknown_vertex
  fault-unknown h = or_right (unknown_kind l k) _ (or_left (leb n (who l k)) _ (le-leb n (who l k) h))

  pub fault_met : (on : Bool) → on ≡ is_in p.on (who l k) → fault_by n l k on p.least ≡ fault n l k
  unfolding fault_by fault unknown_kind unknown_vertex spare_set wrong_order start_while_running stop_while_not_running too_late
  fault_met on e = rw (e ∙ m.on_are.are (who l k), m.least_is, order k) refl
    where
      order : (k : ℕ) → ltb (key l k) (least_key l k) ≡ ltb 0 k && leb (key l k) (key l (k - 1))
      order zero = unfold least_key in le-ltb (key l 0) 0 (omega arith)
      order (suc k) = unfold least_key in go (le-or-lt (key l (suc k)) (key l (suc k - 1)))
        where
          go : (key l (suc k) ≤ key l (suc k - 1)) ⊎ (key l (suc k - 1) < key l (suc k))
              → ltb (key l (suc k)) (pick (ltb 0 (suc k)) (key l (suc k - 1) + 1) 0) ≡ ltb 0 (suc k) && leb (key l (suc k)) (key l (suc k - 1))
          go (inl h) =
              rw (lt-ltb 0 (suc k) (omega arith), le-leb (key l (suc k)) (key l (suc k - 1)) h) (lt-ltb (key l (suc k)) (key l (suc k - 1) + 1) (omega arith))
          go (inr h) =
              rw (lt-ltb 0 (suc k) (omega arith), lt-leb (key l (suc k)) (key l (suc k - 1)) h) (le-ltb (key l (suc k)) (key l (suc k - 1) + 1) (omega arith))

-- ---- the answer of 18

pub form_length : (n : ℕ) (l : List ℕ) → wrong_length_of l ≡ true → form_of n l ≡ Refused (record { number = 18; place = 0 })
unfolding form_of
form_length n l e = rw e refl

pub few-records : (l : List ℕ) → wrong_length_of l ≡ false → records l ≤ 8192
unfolding wrong_length_of
few-records l right = omega (arith, ltb-false 65536 (length l) (or_neither (not (eqb (length l % 8) 0)) (ltb 65536 (length l)) right).1)

module _ (n : ℕ) (l : List ℕ) (right : wrong_length_of l ≡ false) where
  pub form_record : (k : ℕ) → FoundBy n l (Err k) → form_of n l ≡ Refused (record { number = 18; place = k })
  unfolding form_of
  form_record k f = rw (right, f.0, lt-ltb k (records l) f.1) refl

  -- where no record is at fault, those that run at the end are vertices of the graph
  pub form_end : n ≤ 128 → (on : Vset) → FoundBy n l (Ok on) → (none : Bool) → none ≡ not (any (is_in on) 128)
      → form_of n l ≡ pick (not none) (Refused (record { number = 18; place = 0 })) Accepted
  unfolding form_of unended
  form_end few on f none e =
      rw (right, f.0, le-ltb (records l) (records l) (omega arith), e, ends)
      (ap (λ (b : Bool). pick b (Refused (record { number = 18; place = 0 })) Accepted) (sym (twice (any (is_in on) 128))))
    where
      are : (v : ℕ) → is_in on v ≡ running l (records l) v
      are v = f.1.are v

      known : (v : ℕ) → running l (records l) v ≡ true → v < n
      known v x =
          let y = running_elim l (records l) v x in
          let w = start_of l v y.from y.is in
          omega (arith, (fine n l y.from (first_below (fault n l) (records l) y.from (omega (arith, y.within, f.0)))).vertex, w.1)

      ends : any (running l (records l)) n ≡ any (is_in on) 128
      ends = same_test (any (running l (records l)) n) (any (is_in on) 128)
          (λ x. let y = any_elim (running l (records l)) n x in any_intro (is_in on) 128 y.0 (omega (arith, y.1)) (are y.0 ∙ y.2))
          (λ x. let y = any_elim (is_in on) 128 x in
          let z : running l (records l) y.0 ≡ true = sym (are y.0) ∙ y.2 in any_intro (running l (records l)) n y.0 (known y.0 z) z)
