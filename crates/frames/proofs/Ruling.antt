-- What the frame between two records tells of 19, 20 and 22.
--
-- At a start all stops of its instant are passed, so that a vertex has ticks left at that instant just where it has records to come. So it is
-- at the instant of the record before, where the next is later: the frame is then that of the whole tick, and of each tick up to the next
-- record.
use mathlib.Core.Path.{◌≡◌, refl, sym, ap, ap₂, ◌∙◌, fun_ext}
use mathlib.Core.Logic.{◌⊎◌, inl, inr, ⊎_elim}
use mathlib.Core.Bool.{Bool, true, false, not, ◌&&◌, ◌||◌, and-true}
use mathlib.Core.List.{List}
use Prim.Native.Nat.{ℕ, zero, suc, ◌+◌, ◌-◌, ◌≤◌, ◌<◌}
use native.Mathlib.Numerals.{add-one}
use native.Mathlib.Omega.{arith}
use native.Mathlib.Decide.{ℕ_discrete}
use lib.ListN.{get_or}
use lib.Dec.{eqb, ltb, leb}
use borrow.Author.Tests.{lt-ltb, le-ltb, ltb-true, lt-leb, le-leb}
use Rattle.model.specs.Places.{any, count}
use Rattle.model.specs.Graph.{Edge, WellFormed}
use Rattle.model.specs.Graph as model
use Rattle.model.specs.Cycle.{Walk, Acyclic}
use Rattle.model.specs.Schedule.{Finished, left}
use Rattle.model.specs.ListSchedule.{finished, ready}
use Rattle.model.proofs.Bools.{cases, clash, le-or-lt, both, left-of, right_of, not-true, true-not, not-is-true, same_test}
use Rattle.model.proofs.Places.{any_intro, any_elim, count_ext}
use Rattle.model.proofs.Finished.{fin_left, fin_ancestor}
use Rattle.model.proofs.Tests.{finished-tells}
use Rattle.graph.specs.File.{records}
use Rattle.graph.specs.Model.{as_model, AcceptedGraph}
use Rattle.graph.specs.declared.Graph.{Graph}
use Rattle.reader.specs.declared.Laid.{Laid}
use Rattle.vset.specs.Members.{is_in}
use Rattle.ready.specs.Ready.{is_behind}
use Rattle.ready.proofs.Ancestors.{last-edge, behind_walk, edge-behind}
use Rattle.ready.proofs.Standing.{ready-is, finished-is}
use Rattle.ready.proofs.ByNumbers.{settled-behind, edges-counted}
use Rattle.recorded.specs.Log.{is_start, is_stop, who, instant_at, running, InForm}
use Rattle.recorded.specs.Recorded.{runs_in, schedule_of}
use Rattle.recorded.specs.Rules.{rule19, rule20, waiting, rule22}
use Rattle.recorded.proofs.Records.{fine-at, not-both, stop-of, instants_rise, start-then-stop}
use Rattle.recorded.proofs.Prefix.{Behind, runs_prefix}
use Rattle.recorded.proofs.Seen.{idle-on}
use Rattle.formed.specs.Passing.{clock_at}
use Rattle.formed.proofs.Clocks.{clock_zero, clock_plus, clock_up, clock_before, clock_after}
use Rattle.formed.proofs.Lasting.{Parted, left-later-record, later-record}
use Rattle.frames.specs.Frames.{LentOf, used_by, full_by, Framed, idles, crowded_by, MovedBy, FaultsBy, PassedBy}
use Rattle.frames.specs.declared.Frame.{Frame}
use Rattle.frames.specs.declared.Moved.{Moved}
use Rattle.frames.specs.declared.Faults.{Faults}
use Rattle.frames.specs.declared.Pass.{Pass}
use Rattle.frames.proofs.Scan.{first_on, first_in-none}
use Rattle.std.specs.Prelude.{Option, None}
use Rattle.std.specs.Option.{option_or}
use Rattle.std.specs.Bool.{then_some}

-- a predecessor is unfinished just where the vertex stands behind one that has ticks left
early-is : {G : model.Graph} → WellFormed G → Acyclic G → (c : ℕ → ℕ) (v : ℕ) → v < G.n
    → any (λ u. G.edge u v && not (finished G c u)) G.n ≡ is_behind G (λ u. ltb 0 (c u)) v
early-is {G} W A c v l = same_test (any (λ u. G.edge u v && not (finished G c u)) G.n) (is_behind G (λ u. ltb 0 (c u)) v) to from
  where
    unfinished : (a b x : Bool) → x ≡ not a && not b → not x ≡ true → a || b ≡ true
    unfinished true b x e h = refl
    unfinished false true x e h = refl
    unfinished false false x e h = absurd (clash e (not-is-true x h))

    to : any (λ u. G.edge u v && not (finished G c u)) G.n ≡ true → is_behind G (λ u. ltb 0 (c u)) v ≡ true
    to t =
        let r = any_elim (λ u. G.edge u v && not (finished G c u)) G.n t in
        let u = r.0 in
        edge-behind (λ u. ltb 0 (c u)) W A u v (left-of (G.edge u v) _ r.2)
        (unfinished (ltb 0 (c u)) (is_behind G (λ u. ltb 0 (c u)) u) (finished G c u) (finished-is W A c u r.1) (right_of (G.edge u v) _ r.2))

    from : is_behind G (λ u. ltb 0 (c u)) v ≡ true → any (λ u. G.edge u v && not (finished G c u)) G.n ≡ true
    from t = go (behind_walk (λ u. ltb 0 (c u)) v t)
      where
        go : (w : ℕ) × (ltb 0 (c w) ≡ true) × Walk G w v → any (λ u. G.edge u v && not (finished G c u)) G.n ≡ true
        go (w, p, x) = on (last-edge x)
          where
            on : (u : ℕ) × Edge G u v × ((w ≡ u) ⊎ Walk G w u) → any (λ u. G.edge u v && not (finished G c u)) G.n ≡ true
            on (u, e, y) =
                any_intro (λ u. G.edge u v && not (finished G c u)) G.n u (W.from u v e)
                (both (G.edge u v) (not (finished G c u)) e (true-not (finished G c u)
                (not-true (finished G c u) (λ f. wrong y ((finished-tells W c A).sound u (W.from u v e) f)))))
              where
                wrong : (w ≡ u) ⊎ Walk G w u → Finished G c u → ⊥
                wrong (inl q) f = omega (arith, rw q at (ltb-true 0 (c w) p), fin_left f)
                wrong (inr z) f = omega (arith, ltb-true 0 (c w) p, fin_ancestor z f)

module _ (g : Graph) {lent : Laid} (L : LentOf g lent) {l : List ℕ} (f : InForm lent.graph.n l) (k : ℕ) (h : k < records l)
    (used wait : List ℕ) (x : Frame) (F : Framed lent l k used wait x) where
  abbrev n : ℕ
  n = lent.graph.n

  abbrev kind : List ℕ
  kind = lent.graph.kind

  abbrev cores : List ℕ
  cores = lent.graph.cores

  A : AcceptedGraph g
  A = L.accepted

  few : n ≤ 128
  few = rw L.n_is A.few_vertices

  abbrev G : model.Graph
  G = as_model g

  -- where the frame tells who has ticks left at t, it tells who stands behind one that has
  behind-at : (t : ℕ) → ((v : ℕ) → Parted l v t k) → (v : ℕ) → is_in x.behind v ≡ is_behind G (λ u. ltb 0 (left (schedule_of l) t u)) v
  behind-at t parted v =
      settled-behind g A wait (is_in x.busy) x.behind (rw (L.edges_are, L.starts_are, edges-counted g A) at F.settled) v
      ∙ ap (λ (p : ℕ → Bool). is_behind G p v) (fun_ext (λ u. F.busy_are.are u ∙ sym (left-later-record f few u t k (parted u))))

  -- ---- 19

  at_start : is_start l k ≡ true → (v : ℕ) → Parted l v (instant_at l k) k
  at_start s v = record {
    before = λ j a b y. instants_rise f (omega (arith, few)) j k a h;
    after = λ j a b y. later j a b (stop-of l v j y).0 (ℕ_discrete k j);
  }
    where
      later : (j : ℕ) → k ≤ j → j < records l → is_stop l j ≡ true → Dec (k ≡ j) → instant_at l k < instant_at l j
      later j a b y (yes q) = absurd (not-both l k s (rw q y))
      later j a b y (no q) = start-then-stop f (omega (arith, few)) k j (omega arith) b s y

  pub rule19-is : is_start l k && is_in x.behind (who l k) ≡ rule19 G l k
  unfolding rule19 as_model
  rule19-is = go (cases (is_start l k))
    where
      v : who l k < g.n
      v = omega (arith, (fine-at f k h).vertex, L.n_is)

      go : (is_start l k ≡ true) ⊎ (is_start l k ≡ false) → is_start l k && is_in x.behind (who l k)
          ≡ is_start l k && any (λ u. G.edge u (who l k) && not (finished G (left (schedule_of l) (instant_at l k)) u)) g.n
      go (inl s) = ap (λ (b : Bool). is_start l k && b)
          (behind-at (instant_at l k) (at_start s) (who l k) ∙ sym (early-is A.well_formed A.acyclic (left (schedule_of l) (instant_at l k)) (who l k) v))
      go (inr s) = rw s refl

  -- ---- 20

  pub rule20-is : crowded_by kind cores n l k ≡ rule20 G l k
  unfolding rule20 crowded_by used_by as_model
  rule20-is = rw (L.kind_is, L.cores_are, L.n_is, add-one k) refl

  -- ---- 22

  at-clock : clock_at l k < instant_at l k → (v : ℕ) → Parted l v (clock_at l k) k
  at-clock m v = record {
    before = λ j a b y. clock_before f few k h j a;
    after = λ j a b y. omega (arith, clock_after f few k h j a b);
  }

  module _ (m : clock_at l k < instant_at l k) where
    behind-clock : Behind l (clock_at l k) k
    behind-clock = record { most = omega arith; before = λ i b. clock_before f few k h i b; after = λ i b c. omega (arith, clock_after f few k h i b c) }

    able_is : (v : ℕ) → v < g.n → is_in x.busy v && not (is_in x.behind v) ≡ ready G (left (schedule_of l) (clock_at l k)) v
    unfolding as_model
    able_is v b =
        ap₂ (λ (p q : Bool). p && not q) (F.busy_are.are v ∙ sym (left-later-record f few v (clock_at l k) k (at-clock m v))) (behind-at (clock_at l k) (at-clock m) v)
        ∙ sym (ready-is A.well_formed A.acyclic (left (schedule_of l) (clock_at l k)) v b)

    on-is : (v : ℕ) → is_in x.on v ≡ runs_in l (clock_at l k) v
    on-is v = F.on_are.are v ∙ sym (runs_prefix l (clock_at l k) k v behind-clock)

    idle-is : (v : ℕ) → v < n → not (is_in x.full v)
        ≡ ltb (count (λ u. runs_in l (clock_at l k) u && eqb (get_or kind u 0) (get_or kind v 0)) n) (get_or cores (get_or kind v 0) 0)
    idle-is v b = ap not (F.full_are.are v) ∙ (by ∙ ap (λ (c : ℕ). ltb c (get_or cores (get_or kind v 0) 0)) same)
      where
        by : not (full_by kind cores n l k v) ≡ ltb (used_by kind n l k (get_or kind v 0)) (get_or cores (get_or kind v 0) 0)
        by = unfold full_by in rw (lt-ltb v n b) (go (le-or-lt (get_or cores (get_or kind v 0) 0) (used_by kind n l k (get_or kind v 0))))
          where
            go : (get_or cores (get_or kind v 0) 0 ≤ used_by kind n l k (get_or kind v 0)) ⊎ (used_by kind n l k (get_or kind v 0) < get_or cores (get_or kind v 0) 0)
                → not (leb (get_or cores (get_or kind v 0) 0) (used_by kind n l k (get_or kind v 0))) ≡ ltb (used_by kind n l k (get_or kind v 0)) (get_or cores (get_or kind v 0) 0)
            go (inl y) = rw (le-leb _ _ y, le-ltb _ _ y) refl
            go (inr y) = rw (lt-leb _ _ y, lt-ltb _ _ y) refl

        same : used_by kind n l k (get_or kind v 0) ≡ count (λ u. runs_in l (clock_at l k) u && eqb (get_or kind u 0) (get_or kind v 0)) n
        same = unfold used_by in
            count_ext (λ u. running l k u && eqb (get_or kind u 0) (get_or kind v 0)) (λ u. runs_in l (clock_at l k) u && eqb (get_or kind u 0) (get_or kind v 0)) n
            (λ u y. ap (λ (b : Bool). b && eqb (get_or kind u 0) (get_or kind v 0)) (sym (runs_prefix l (clock_at l k) k u behind-clock)))

    -- a vertex with records to come is one of the graph
    known : (v : ℕ) → is_in x.busy v ≡ true → v < n
    known v t = let r = later-record l v k (ltb-true k _ (sym (F.busy_are.are v) ∙ t)) in omega (arith, (fine-at f r.0 r.2).vertex, r.3)

    abbrev rule : ℕ → Bool
    rule v = (ready G (left (schedule_of l) (clock_at l k)) v && not (runs_in l (clock_at l k) v))
        && ltb (count (λ u. runs_in l (clock_at l k) u && eqb (get_or kind u 0) (get_or kind v 0)) n) (get_or cores (get_or kind v 0) 0)

    each : (v : ℕ) → v < n → idles x v ≡ rule v
    each v b = rw (able_is v (omega (arith, L.n_is)), on-is v, idle-is v b) refl

    pub rule22-is : any (idles x) 128 ≡ rule22 G l (clock_at l k)
    unfolding rule22 waiting as_model
    rule22-is = go ∙ rw (L.kind_is, L.cores_are, L.n_is) refl
      where
        go : any (idles x) 128 ≡ any rule n
        go = same_test (any (idles x) 128) (any rule n)
            (λ t. let r = any_elim (idles x) 128 t in
            let b = known r.0 (left-of (is_in x.busy r.0) _ (left-of (is_in x.busy r.0 && not (is_in x.behind r.0)) _
            (left-of ((is_in x.busy r.0 && not (is_in x.behind r.0)) && not (is_in x.on r.0)) _ r.2))) in
            any_intro rule n r.0 b (sym (each r.0 b) ∙ r.2))
            (λ t. let r = any_elim rule n t in any_intro (idles x) 128 r.0 (omega (arith, r.1, few)) (each r.0 r.1 ∙ r.2))

  -- between the clock and the next record nothing changes
  same-between : (d : ℕ) → d + clock_at l k < instant_at l k → rule22 G l (d + clock_at l k) ≡ rule22 G l (clock_at l k)
  same-between zero m = let e : 0 + clock_at l k ≡ clock_at l k = omega arith in rw e refl
  same-between (suc d) m =
      let e : suc d + clock_at l k ≡ suc (d + clock_at l k) = omega arith in
      rw e (idle-on G form (d + clock_at l k) none ∙ same-between d (omega arith))
    where
      form : InForm G.n l
      form = unfold as_model in rw (← L.n_is) f

      none : (i : ℕ) → i < records l → instant_at l i ≡ suc (d + clock_at l k) → ⊥
      none i b q = ⊎_elim (λ (y : k ≤ i). omega (arith, clock_after f few k h i y b)) (λ (y : i < k). omega (arith, clock_before f few k h i y)) (le-or-lt k i)

  -- ---- what is found, with one record more

  faults-next : (r : Faults) → FaultsBy G l k r → (at_start waits crowded : Bool) → at_start ≡ is_start l k && is_in x.behind (who l k)
      → waits ≡ any (idles x) 128 → crowded ≡ crowded_by kind cores n l k → FaultsBy G l (k + 1) (record {
        early = option_or r.early (then_some at_start k);
        crowded = option_or r.crowded (then_some crowded k);
        idle = option_or r.idle (then_some (waits && ltb (clock_at l k) (instant_at l k)) (clock_at l k));
      })
  faults-next r P at_start waits crowded s w c = record {
    early = first_on (rule19 G l) k (k + 1) at_start (omega arith) (λ i a b. let q : i ≡ k = omega arith in rw q (sym (s ∙ rule19-is))) (λ t. omega arith) r.early P.early;
    crowded = first_on (rule20 G l) k (k + 1) crowded (omega arith) (λ i a b. let q : i ≡ k = omega arith in rw q (sym (c ∙ rule20-is))) (λ t. omega arith) r.crowded P.crowded;
    idle = rw (clock_plus l k) (first_on (rule22 G l) (clock_at l k) (instant_at l k) (waits && ltb (clock_at l k) (instant_at l k)) (clock_up f few k h)
        (λ i a b. between i a b ∙ (sym w ∙ sym (rw (lt-ltb (clock_at l k) (instant_at l k) (omega arith)) (and-true waits))))
        (λ t. ltb-true (clock_at l k) (instant_at l k) (right_of waits _ t)) r.idle P.idle);
  }
    where
      between : (i : ℕ) → clock_at l k ≤ i → i < instant_at l k → rule22 G l i ≡ any (idles x) 128
      between i a b =
          let e : i ≡ (i - clock_at l k) + clock_at l k = omega arith in
          rw e (same-between (i - clock_at l k) (omega arith)) ∙ sym (rule22-is (omega arith))

-- ---- the pass

pub passed_none : {lent : Laid} {l used wait : List ℕ} (p : Pass) → Framed lent l 0 used wait p.frame
    → p.faults ≡ record { early = None; crowded = None; idle = None } → p.clock ≡ 0 → PassedBy lent l 0 used wait p
passed_none {l = l} p F e c = record {
  framed = F;
  clock_is = c ∙ sym (clock_zero l);
  found = λ g L. rw e (record { early = first_in-none _; crowded = first_in-none _; idle = rw (clock_zero l) (first_in-none _) });
}

pub passed_next : {lent : Laid} {l : List ℕ} → InForm lent.graph.n l → (k : ℕ) → k < records l → {used wait after later : List ℕ} (p : Pass)
    → PassedBy lent l k used wait p → (m : Moved) → MovedBy lent l k after later m
    → (at_start waits : Bool) → at_start ≡ is_start l k && is_in p.frame.behind (who l k) → waits ≡ any (idles p.frame) 128
    → (t : ℕ) (early crowded idle : Option ℕ) → t ≡ instant_at l k → early ≡ option_or p.faults.early (then_some at_start k)
    → crowded ≡ option_or p.faults.crowded (then_some m.crowded k)
    → idle ≡ option_or p.faults.idle (then_some (waits && ltb p.clock t) p.clock)
    → PassedBy lent l (k + 1) after later (record { frame = m.frame; faults = record { early = early; crowded = crowded; idle = idle }; clock = t })
passed_next {l = l} f k h {used} {wait} p P m M at_start waits s w t early crowded idle q a b c = record {
  framed = M.framed;
  clock_is = q ∙ sym (clock_plus l k);
  found = λ g L. rw (a, b, c, q, P.clock_is)
      (faults-next g L f k h used wait p.frame P.framed p.faults (P.found g L) at_start waits m.crowded s w M.crowded_is);
}
