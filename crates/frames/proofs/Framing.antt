-- How it stands before the first record, and after one record more.
use mathlib.Core.Path.{◌≡◌, refl, sym, ap, subst, ◌∙◌}
use mathlib.Core.Logic.{◌⊎◌, inl, inr, ◌≢◌}
use mathlib.Core.Bool.{Bool, true, false, not, ◌&&◌, ◌||◌}
use mathlib.Core.List.{List}
use Prim.Native.Nat.{ℕ, ◌+◌, ◌-◌, ◌*◌, ◌≤◌, ◌<◌}
use native.Mathlib.Numerals.{add-one}
use native.Mathlib.Omega.{arith}
use native.Mathlib.Decide.{ℕ_discrete}
use lib.ListN.{get_or, set, get_or-eq_default}
use lib.Seq.{get_or-set_same}
use lib.Dec.{eqb, ltb, leb}
use borrow.Author.Tests.{lt-ltb, le-ltb, ltb-true, eq-eqb, ne_eqb, lt-leb}
use Rattle.model.specs.Places.{pick, bit, count}
use Rattle.model.proofs.Bools.{cases, le-or-lt}
use Rattle.model.proofs.Places.{count_none}
use Rattle.graph.specs.File.{records}
use Rattle.graph.specs.Model.{as_model}
use Rattle.graph.specs.declared.Graph.{Graph}
use Rattle.reader.specs.declared.Laid.{Laid}
use Rattle.ready.proofs.ByNumbers.{layout}
use Rattle.choice.proofs.ByKind.{kinds-known}
use Rattle.vset.specs.declared.Vset.{Vset}
use Rattle.vset.specs.Members.{is_in, Members}
use Rattle.vset.proofs.Gather.{members_ext}
use Rattle.choice.specs.Choice.{of_kind_of, set_at_of, OfKinds}
use Rattle.waiting.specs.Waiting.{edges_by, Layout, Settled}
use Rattle.recorded.specs.Log.{is_start, who, running, InForm}
use Rattle.recorded.proofs.Records.{Fine, fine-at}
use Rattle.recorded.proofs.Prefix.{running_none}
use Rattle.formed.specs.Passing.{last_of, Lasted}
use Rattle.formed.proofs.Passing.{switch_is}
use Rattle.formed.proofs.Lasting.{later-record, record-later}
use Rattle.frames.specs.Frames.{LentOf, Lists, Used, used_by, full_by, Framed, crowded_by, MovedBy}
use Rattle.frames.specs.declared.Frame.{Frame}
use Rattle.frames.proofs.Using.{used_other, used-next}

-- ---- what the graph gives

module _ {g : Graph} {lent : Laid} (L : LentOf g lent) where
  few : lent.graph.n ≤ 128
  few = rw L.n_is L.accepted.few_vertices

  pub kinds-below : (lent.graph.n ≤ 128) × ((v : ℕ) → v < lent.graph.n → get_or lent.graph.kind v 0 < 10)
  kinds-below = (few, rw (L.n_is, L.kind_is) (kinds-known g L.accepted))

  pub layout-of : Layout lent.graph.edge lent.starts
  layout-of = rw (L.edges_are, L.starts_are) (layout g L.accepted)

  pub lists : {l words lasts : List ℕ} → InForm lent.graph.n l → OfKinds words lent.graph.kind lent.graph.n → Lasted l (records l) lasts → Lists lent l words lasts
  lists f w s = record { few = few; in_form = f; known = kinds-below.1; words_are = w; layout = layout-of; lasts_are = s }

  some_core : (v : ℕ) → v < lent.graph.n → 0 < get_or lent.graph.cores (get_or lent.graph.kind v 0) 0
  unfolding as_model
  some_core v h =
      let W = L.accepted.well_formed in
      rw (L.cores_are, L.kind_is) (W.some_core _ (W.kind_known v (rw L.n_is at h)))

  -- before the first record nobody runs, so that every kind has an idle core
  module _ {l lasts : List ℕ} (f : InForm lent.graph.n l) (s : Lasted l (records l) lasts) where
    pub framed-none : (x : Frame) (used waiting : List ℕ) → Members x.busy (λ v. ltb 0 (get_or lasts v 0))
        → Settled lent.graph.edge (edges_by lent.starts) waiting (is_in x.busy) x.behind → Members x.on (λ v. false) → Members x.full (λ v. false)
        → Used lent.graph.kind lent.graph.n l 0 used → Framed lent l 0 used waiting x
    unfolding full_by used_by
    framed-none x used waiting busy settled on full u = record {
      on_are = members_ext x.on (λ v. false) (running l 0) on (λ v. sym (running_none l v));
      busy_are = members_ext x.busy (λ v. ltb 0 (get_or lasts v 0)) (λ v. ltb 0 (last_of l v (records l))) busy (λ v. ap (ltb 0) (at v (le-or-lt 128 v)));
      settled = settled;
      full_are = members_ext x.full (λ v. false) _ full (λ v. sym (idle v (cases (ltb v lent.graph.n))));
      used_are = u;
    }
      where
        none : (v : ℕ) → 128 ≤ v → (last_of l v (records l) ≤ 0) ⊎ (0 < last_of l v (records l)) → 0 ≡ last_of l v (records l)
        none v h (inl z) = omega arith
        none v h (inr z) = absurd (let r = later-record l v 0 z in omega (arith, (fine-at f r.0 r.2).vertex, r.3, few))

        at : (v : ℕ) → (128 ≤ v) ⊎ (v < 128) → get_or lasts v 0 ≡ last_of l v (records l)
        at v (inl h) = get_or-eq_default lasts 0 (omega (arith, s.size)) ∙ none v h (le-or-lt (last_of l v (records l)) 0)
        at v (inr h) = s.at v h

        nobody : (i : ℕ) → count (λ u. running l 0 u && eqb (get_or lent.graph.kind u 0) i) lent.graph.n ≡ 0
        nobody i = count_none (λ u. running l 0 u && eqb (get_or lent.graph.kind u 0) i) lent.graph.n (λ u h. ap (λ (b : Bool). b && eqb (get_or lent.graph.kind u 0) i) (running_none l u))

        idle : (v : ℕ) → (ltb v lent.graph.n ≡ true) ⊎ (ltb v lent.graph.n ≡ false)
            → ltb v lent.graph.n && leb (get_or lent.graph.cores (get_or lent.graph.kind v 0) 0) (count (λ u. running l 0 u && eqb (get_or lent.graph.kind u 0) (get_or lent.graph.kind v 0)) lent.graph.n) ≡ false
        idle v (inl t) = rw (t, nobody (get_or lent.graph.kind v 0)) (lt-leb (get_or lent.graph.cores (get_or lent.graph.kind v 0) 0) 0 (some_core v (ltb-true v lent.graph.n t)))
        idle v (inr t) = rw t refl

-- ---- one record more

module _ {lent : Laid} {l words lasts : List ℕ} (L : Lists lent l words lasts) (k : ℕ) (h : k < records l) where
  abbrev n : ℕ
  n = lent.graph.n

  abbrev kind : List ℕ
  kind = lent.graph.kind

  abbrev cores : List ℕ
  cores = lent.graph.cores

  fine : Fine n l k
  fine = fine-at L.in_form k h

  abbrev s : ℕ
  s = get_or kind (who l k) 0

  -- the vertex of the record has ticks left before it
  pub was-busy : ltb k (last_of l (who l k) (records l)) ≡ true
  was-busy = lt-ltb k (last_of l (who l k) (records l)) (record-later l (who l k) k h refl)

  last-known : get_or lasts (who l k) 0 ≡ last_of l (who l k) (records l)
  last-known = L.lasts_are.at (who l k) (omega (arith, fine.vertex, L.few))

  -- a vertex has no records to come where this one is its last
  pub busy-next : (u : ℕ) → ltb k (last_of l u (records l)) && not (eqb (get_or lasts (who l k) 0) (k + 1) && eqb u (who l k)) ≡ ltb (k + 1) (last_of l u (records l))
  busy-next u = go (ℕ_discrete u (who l k))
    where
      kept : (b : Bool) → b && not (false) ≡ b
      kept true = refl
      kept false = refl

      none : (a : Bool) → not (a && false) ≡ true
      none true = refl
      none false = refl

      own : Dec (last_of l (who l k) (records l) ≡ k + 1)
          → ltb k (last_of l (who l k) (records l)) && not (eqb (last_of l (who l k) (records l)) (k + 1) && true) ≡ ltb (k + 1) (last_of l (who l k) (records l))
      own (yes e) = rw (was-busy, eq-eqb (last_of l (who l k) (records l)) (k + 1) e) (sym (le-ltb (k + 1) (last_of l (who l k) (records l)) (omega arith)))
      own (no e) =
          rw (was-busy, ne_eqb (last_of l (who l k) (records l)) (k + 1) e)
          (sym (lt-ltb (k + 1) (last_of l (who l k) (records l)) (omega (arith, record-later l (who l k) k h refl))))

      other : u ≢ who l k → (last_of l u (records l) ≤ k) ⊎ (k < last_of l u (records l)) → ltb k (last_of l u (records l)) ≡ ltb (k + 1) (last_of l u (records l))
      other x (inl m) = le-ltb k (last_of l u (records l)) m ∙ sym (le-ltb (k + 1) (last_of l u (records l)) (omega arith))
      other x (inr m) =
          let r = later-record l u k m in
          let y : r.0 ≢ k = λ q. x (sym r.3 ∙ ap (who l) q) in
          lt-ltb k (last_of l u (records l)) m ∙ sym (lt-ltb (k + 1) (last_of l u (records l)) (omega (arith, r.1, record-later l u r.0 r.2 r.3)))

      go : Dec (u ≡ who l k)
          → ltb k (last_of l u (records l)) && not (eqb (get_or lasts (who l k) 0) (k + 1) && eqb u (who l k)) ≡ ltb (k + 1) (last_of l u (records l))
      go (yes q) = rw (q, eq-eqb (who l k) (who l k) refl, last-known) (own (ℕ_discrete (last_of l (who l k) (records l)) (k + 1)))
      go (no q) =
          rw (ne_eqb u (who l k) q, none (eqb (get_or lasts (who l k) 0) (k + 1)))
          (kept (ltb k (last_of l u (records l))) ∙ other q (le-or-lt (last_of l u (records l)) k))

  -- those of the record's kind are told by the number after it, the others as before
  pub full-next : (v : ℕ) → pick (of_kind_of kind n s v) (leb (get_or cores s 0) (used_by kind n l (k + 1) s)) (full_by kind cores n l k v) ≡ full_by kind cores n l (k + 1) v
  unfolding of_kind_of full_by
  full-next v = go (cases (ltb v n)) (ℕ_discrete (get_or kind v 0) s)
    where
      go : (ltb v n ≡ true) ⊎ (ltb v n ≡ false) → Dec (get_or kind v 0 ≡ s)
          → pick (ltb v n && eqb (get_or kind v 0) s) (leb (get_or cores s 0) (used_by kind n l (k + 1) s))
          (ltb v n && leb (get_or cores (get_or kind v 0) 0) (used_by kind n l k (get_or kind v 0)))
          ≡ ltb v n && leb (get_or cores (get_or kind v 0) 0) (used_by kind n l (k + 1) (get_or kind v 0))
      go (inr t) d = rw t refl
      go (inl t) (yes q) = rw (t, q, eq-eqb s s refl) refl
      go (inl t) (no q) =
          rw (t, ne_eqb (get_or kind v 0) s q, add-one k) (ap (leb (get_or cores (get_or kind v 0) 0)) (sym (used_other kind L.in_form L.few k h (get_or kind v 0) q)))

  module _ (used waiting : List ℕ) (f : Frame) (F : Framed lent l k used waiting f) (many : ℕ)
      (many_is : many ≡ get_or used s 0 + 2 * bit (is_start l k) - 1) where
    kind_known : s < 10
    kind_known = L.known (who l k) fine.vertex

    used-then : Used kind n l (k + 1) (set used s many)
    used-then = rw many_is (used-next kind L.in_form L.few k h L.known used F.used_are)

    many-then : many ≡ used_by kind n l (k + 1) s
    many-then = sym (get_or-set_same used s many 0 (omega (arith, kind_known, F.used_are.size))) ∙ used-then.at s kind_known

    crowded_is : is_start l k && ltb (get_or cores s 0) many ≡ crowded_by kind cores n l k
    unfolding crowded_by
    crowded_is = ap (λ (x : ℕ). is_start l k && ltb (get_or cores s 0) x) many-then

    framed-next : (on busy behind full : Vset) (after : List ℕ)
        → Members on (λ v. pick (is_start l k) (is_in f.on v || eqb v (who l k)) (is_in f.on v && not (eqb v (who l k))))
        → Members busy (λ v. is_in f.busy v && not (eqb (get_or lasts (who l k) 0) (k + 1) && eqb v (who l k)))
        → Settled lent.graph.edge (edges_by lent.starts) after (is_in busy) behind
        → Members full (λ v. pick (is_in (set_at_of words s) v) (leb (get_or cores s 0) many) (is_in f.full v))
        → Framed lent l (k + 1) (set used s many) after (record { on = on; busy = busy; behind = behind; full = full })
    framed-next on busy behind full after o b settled u = record {
      on_are = members_ext on _ (running l (k + 1)) o (λ v. rw (add-one k) (switch_is fine (is_in f.on) F.on_are.are v));
      busy_are = members_ext busy _ (λ v. ltb (k + 1) (last_of l v (records l))) b
          (λ v. ap (λ (x : Bool). x && not (eqb (get_or lasts (who l k) 0) (k + 1) && eqb v (who l k))) (F.busy_are.are v) ∙ busy-next v);
      settled = settled;
      full_are = members_ext full _ (full_by kind cores n l (k + 1)) u (λ v. full_is v);
      used_are = used-then;
    }
      where
        full_is : (v : ℕ) → pick (is_in (set_at_of words s) v) (leb (get_or cores s 0) many) (is_in f.full v) ≡ full_by kind cores n l (k + 1) v
        full_is v = rw ((L.words_are.each s kind_known).are v, many-then, F.full_are.are v) (full-next v)

  -- after record k, whose vertex is v
  module _ (used waiting : List ℕ) (f : Frame) (F : Framed lent l k used waiting f) where
    abbrev Step : ℕ → Bool → Type 0
    Step v start = (many : ℕ) → many ≡ get_or used (get_or kind v 0) 0 + 2 * bit start - 1 → (on busy behind full : Vset) (after : List ℕ)
        → Members on (λ u. pick start (is_in f.on u || eqb u v) (is_in f.on u && not (eqb u v)))
        → Members busy (λ u. is_in f.busy u && not (eqb (get_or lasts v 0) (k + 1) && eqb u v))
        → Settled lent.graph.edge (edges_by lent.starts) after (is_in busy) behind
        → Members full (λ u. pick (is_in (set_at_of words (get_or kind v 0)) u) (leb (get_or cores (get_or kind v 0) 0) many) (is_in f.full u))
        → MovedBy lent l k (set used (get_or kind v 0) many) after
        (record { frame = record { on = on; busy = busy; behind = behind; full = full }; crowded = start && ltb (get_or cores (get_or kind v 0) 0) many })

    pub moved : (v : ℕ) (start : Bool) → v ≡ who l k → start ≡ is_start l k → Step v start
    moved v start q e = subst (λ (u : ℕ). Step u start) (sym q) (subst (Step (who l k)) (sym e) (λ many m on busy behind full after o b settled u. record {
      framed = framed-next used waiting f F many m on busy behind full after o b settled u;
      crowded_is = crowded_is used waiting f F many m;
    }))
