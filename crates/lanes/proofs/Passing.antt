-- What one record changes: who has a core, and the core that its vertex got.
use mathlib.Core.Path.{◌≡◌, refl, sym, ap, ◌∙◌}
use mathlib.Core.Logic.{⊎_elim, ◌≢◌}
use mathlib.Core.Bool.{Bool, true, false, not, ◌&&◌, ◌||◌, and-true, and-false}
use mathlib.Core.List.{List, ◌++◌}
use Prim.Native.Nat.{ℕ, suc, ◌+◌, ◌≤◌, ◌<◌}
use native.Mathlib.Numerals.{add-one}
use native.Mathlib.Omega.{arith}
use native.Mathlib.Decide.{ℕ_discrete}
use lib.ListN.{length, get_or, set, drop, replicate, length-set, length-replicate}
use lib.Seq.{get_or-set_same, get_or-set_other}
use lib.Dec.{eqb, ltb}
use borrow.Author.Tests.{lt-ltb, ltb-true, eq-eqb, ne_eqb, eqb-true}
use Rattle.model.specs.Places.{pick, any, first, table}
use Rattle.model.proofs.Bools.{clash, both, left-of, right_of, not-true, le-or-lt}
use Rattle.model.proofs.Places.{any_intro, any_none, any_ext, any-more, first_ext}
use Rattle.model.proofs.Tables.{zeros}
use Rattle.model.proofs.Written.{written-more}
use Rattle.graph.specs.File.{records}
use Rattle.vset.specs.declared.Vset.{Vset}
use Rattle.vset.specs.Members.{is_in, Members}
use Rattle.vset.proofs.Gather.{members_ext}
use Rattle.recorded.specs.Log.{is_start, who, instant_at, starts, InForm}
use Rattle.recorded.proofs.Records.{instants_rise, start_of}
use Rattle.lanes.specs.Lanes.{starts_later, runs_on_of, has_core, taken, core_of}
use Rattle.lanes.specs.Passing.{listed, Got}

-- ---- whether a vertex runs on

pub record Later (l : List ℕ) (k i : ℕ) : Type 0 where
  pub after : k < i
  pub start : starts l (who l k) i ≡ true
  pub same : instant_at l i ≡ instant_at l k

pub later_elim : (l : List ℕ) (k i : ℕ) → starts_later l k i ≡ true → Later l k i
unfolding starts_later
later_elim l k i e =
    let r = right_of (ltb k i) (starts l (who l k) i && eqb (instant_at l i) (instant_at l k)) e in
    record {
      after = ltb-true k i (left-of (ltb k i) _ e);
      start = left-of (starts l (who l k) i) _ r;
      same = eqb-true (instant_at l i) (instant_at l k) (right_of (starts l (who l k) i) _ r);
    }

pub runs-on-here : (l : List ℕ) (k i : ℕ) → i < records l → Later l k i → runs_on_of l k ≡ true
unfolding runs_on_of starts_later
runs-on-here l k i h r =
    any_intro (starts_later l k) (records l) i h
    (both (ltb k i) (starts l (who l k) i && eqb (instant_at l i) (instant_at l k)) (lt-ltb k i r.after)
    (both (starts l (who l k) i) (eqb (instant_at l i) (instant_at l k)) r.start (eq-eqb (instant_at l i) (instant_at l k) r.same)))

-- up to the record i no start is met
pub Unmet : List ℕ → ℕ → ℕ → Type 0
Unmet l k i = (j : ℕ) → j < i → Later l k j → ⊥

pub unmet-none : (l : List ℕ) (k : ℕ) → Unmet l k (k + 1)
unfolding Unmet
unmet-none l k j h r = omega (arith, r.after)

pub unmet-more : (l : List ℕ) (k i : ℕ) → Unmet l k i → is_start l i && eqb (who l i) (who l k) ≡ false → Unmet l k (i + 1)
unfolding Unmet
unmet-more l k i u e j h r = at (ℕ_discrete j i)
  where
    at : Dec (j ≡ i) → ⊥
    at (yes q) =
        let s = start_of l (who l k) i (rw q at r.start) in
        clash (both (is_start l i) (eqb (who l i) (who l k)) s.0 (eq-eqb (who l i) (who l k) s.1)) e
    at (no q) = u j (omega arith) r

pub runs-on-not : (l : List ℕ) (k : ℕ) → Unmet l k (records l) → false ≡ runs_on_of l k
unfolding runs_on_of Unmet
runs-on-not l k u = sym (any_none (starts_later l k) (records l) (λ j h. not-true (starts_later l k j) (λ e. u j h (later_elim l k j e))))

-- from a record of another instant on none is at the record's
pub runs-on-past : {n : ℕ} {l : List ℕ} → InForm n l → n ≤ 128 → (k i : ℕ) → k < i → i < records l → instant_at l i ≢ instant_at l k → Unmet l k i → false ≡ runs_on_of l k
unfolding Unmet
runs-on-past {n} {l} f few k i a b x u = runs-on-not l k (λ j h r. ⊎_elim (λ (m : i ≤ j). past j h m r (ℕ_discrete i j)) (λ (m : j < i). u j m r) (le-or-lt i j))
  where
    past : (j : ℕ) → j < records l → i ≤ j → Later l k j → Dec (i ≡ j) → ⊥
    past j h m r (yes q) = x (ap (instant_at l) q ∙ r.same)
    past j h m r (no q) = omega (arith, instants_rise f (omega arith) i j (omega arith) h, instants_rise f (omega arith) k i a b, r.same, x)

-- ---- who has a core

switches : (b x e : Bool) → pick b (x || e) (x && not e) ≡ pick e b x
switches true true true = refl
switches true true false = refl
switches true false true = refl
switches true false false = refl
switches false true true = refl
switches false true false = refl
switches false false true = refl
switches false false false = refl

pub has-none : (l : List ℕ) (s : Vset) → Members s (λ k. false) → Members s (has_core l 0)
unfolding has_core
has-none l s m = m

module _ (l : List ℕ) (k : ℕ) (held r : Vset) (m : Members held (has_core l k)) where
  pub has-start : is_start l k ≡ true → Members r (λ u. is_in held u || eqb u (who l k)) → Members r (has_core l (k + 1))
  unfolding has_core
  has-start s h = rw (add-one k) (members_ext r _ (has_core l (suc k)) h (λ u. rw (s, m.are u) (switches true (has_core l k u) (eqb u (who l k)))))

  pub has-stop : is_start l k ≡ false → Members r (λ u. pick (runs_on_of l k) (is_in held u || eqb u (who l k)) (is_in held u && not (eqb u (who l k)))) → Members r (has_core l (k + 1))
  unfolding has_core
  has-stop s h = rw (add-one k) (members_ext r _ (has_core l (suc k)) h (λ u. rw (s, m.are u) (switches (runs_on_of l k) (has_core l k u) (eqb u (who l k)))))

-- ---- the cores

module _ (held : ℕ → Bool) (core kind : ℕ → ℕ) (s : ℕ) where
  pub taken_none : (r : Vset) → Members r (λ j. false) → Members r (taken held core kind 0 s)
  unfolding taken any
  taken_none r m = m

  pub taken_more : (u : ℕ) (got r : Vset) → Members got (taken held core kind u s)
      → Members r (λ j. is_in got j || ((held u && eqb (kind u) s) && eqb j (core u))) → Members r (taken held core kind (u + 1) s)
  unfolding taken
  taken_more u got r m h = members_ext r _ _ h (λ j. rw (m.are j) (sym (any-more (λ u. (held u && eqb (kind u) s) && eqb j (core u)) u)))

module _ (n : ℕ) (l kind cores : List ℕ) (k : ℕ) where
  abbrev core : ℕ → ℕ → ℕ
  core = core_of n l (listed kind) (listed cores)

  -- the core of the record's vertex after it
  pub lane-is : core (k + 1) (who l k) ≡ pick (is_start l k && not (has_core l k (who l k)))
      (first (λ j. not (taken (has_core l k) (core k) (listed kind) n (get_or kind (who l k) 0) j)) (get_or cores (get_or kind (who l k) 0) 0)) (core k (who l k))
  unfolding core_of starts
  lane-is = rw (add-one k, eq-eqb (who l k) (who l k) refl, and-true (is_start l k)) refl

  -- that of another vertex
  pub lane_other : (v : ℕ) → v ≢ who l k → core (k + 1) v ≡ core k v
  unfolding core_of starts
  lane_other v x = rw (add-one k, ne_eqb (who l k) v (λ q. x (sym q)), and-false (is_start l k)) refl

  module _ (few : n ≤ 128) (held : Vset) (m : Members held (has_core l k)) (got : List ℕ) (g : Got n l kind cores k got) where
    taken_is : (s j : ℕ) → taken (is_in held) (listed got) (listed kind) n s j ≡ taken (has_core l k) (core k) (listed kind) n s j
    unfolding taken
    taken_is s j = any_ext _ _ n (λ u h. rw (m.are u, g.at u (omega arith)) refl)

    pub lane-new : is_start l k && not (is_in held (who l k)) ≡ true
        → (r : ℕ) (busy : Vset) → Members busy (taken (is_in held) (listed got) (listed kind) n (get_or kind (who l k) 0))
        → r ≡ first (λ j. not (is_in busy j)) (get_or cores (get_or kind (who l k) 0) 0) → r ≡ core (k + 1) (who l k)
    lane-new e r busy b is =
        is
        ∙ first_ext _ _ (get_or cores (get_or kind (who l k) 0) 0) (λ j h. ap not (b.are j ∙ taken_is (get_or kind (who l k) 0) j))
        ∙ sym (lane-is ∙ rw (sym (m.are (who l k)), e) refl)

    pub lane-old : who l k < n → is_start l k && not (is_in held (who l k)) ≡ false → get_or got (who l k) 0 ≡ core (k + 1) (who l k)
    lane-old h e = g.at (who l k) (omega arith) ∙ sym (lane-is ∙ rw (sym (m.are (who l k)), e) refl)

    pub got_next : who l k < n → (c : ℕ) → c ≡ core (k + 1) (who l k) → c ≤ 16 → Got n l kind cores (k + 1) (set got (who l k) c)
    got_next h c is most = record {
      size = length-set got (who l k) c ∙ g.size;
      at = λ v b. at v b (ℕ_discrete v (who l k));
      few = λ v. low v (ℕ_discrete v (who l k));
    }
      where
        inside : who l k < length got
        inside = omega (arith, g.size)

        at : (v : ℕ) → v < 128 → Dec (v ≡ who l k) → get_or (set got (who l k) c) v 0 ≡ core (k + 1) v
        at v b (yes q) = rw (q, get_or-set_same got (who l k) c 0 inside) is
        at v b (no q) = get_or-set_other got (who l k) v c 0 q ∙ (g.at v b ∙ sym (lane_other v q))

        low : (v : ℕ) → Dec (v ≡ who l k) → get_or (set got (who l k) c) v 0 ≤ 16
        low v (yes q) = rw (q, get_or-set_same got (who l k) c 0 inside) most
        low v (no q) = rw (get_or-set_other got (who l k) v c 0 q) (g.few v)

pub got_none : (n : ℕ) (l kind cores : List ℕ) → Got n l kind cores 0 (replicate 128 0)
unfolding core_of
got_none n l kind cores = record {
  size = length-replicate {A = ℕ} 128 0;
  at = λ v h. zeros 128 v;
  few = λ v. omega (arith, zeros 128 v);
}

-- ---- the list that is written

module _ (n : ℕ) (l : List ℕ) (kind cores : ℕ → ℕ) where
  abbrev pub lane_at : ℕ → ℕ
  lane_at k = core_of n l kind cores (suc k) (who l k)

  pub lanes_next : (out : List ℕ) (k r : ℕ) → k < length out → r ≡ core_of n l kind cores (k + 1) (who l k)
      → set (table lane_at k ++ drop k out) k r ≡ table lane_at (k + 1) ++ drop (k + 1) out
  lanes_next out k r h is = let e : r ≡ lane_at k = rw (add-one k) at is in rw e (written-more lane_at out k h)
