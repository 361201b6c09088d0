-- Kind by kind: what is found for each kind is what is said of all.
use mathlib.Core.Path.{◌≡◌, refl, sym, ap, ap₂, ◌∙◌, fun_ext}
use mathlib.Core.Logic.{⊎_elim}
use mathlib.Core.Bool.{Bool, true, false, not, ◌&&◌, ◌||◌, and-false}
use Prim.Native.Nat.{ℕ, ◌-◌, ◌≤◌, ◌<◌}
use native.Mathlib.Omega.{arith}
use lib.Dec.{ltb, leb, eqb}
use lib.ListN.{get_or}
use mathlib.Core.List.{List}
use borrow.Author.Tests.{lt-ltb, le-ltb, eqb-true, eq-eqb}
use Rattle.model.specs.Places.{any, count, every}
use Rattle.model.specs.ListSchedule.{State, Fair}
use Rattle.model.proofs.Bools.{le-or-lt, both, left-of, right_of, same_test}
use Rattle.model.proofs.Places.{any_elim, any_intro, any_none, count_ext, count-sub, every_ext}
use Rattle.graph.specs.declared.Graph.{Graph}
use Rattle.graph.specs.Model.{as_model, AcceptedGraph}
use Rattle.vset.specs.Members.{is_in}
use Rattle.choice.specs.Choice.{of_kind_of, set_at_of, OfKinds, go_on, wait, starts, filled, choice, chosen_by, fair_by}
use Rattle.model.proofs.Turns.{count_past}

-- a place of kind k is below n
pub of-kind-past : (l : List ℕ) (n k v : ℕ) → n ≤ v → of_kind_of l n k v ≡ false
unfolding of_kind_of
of-kind-past l n k v h = ap (λ (b : Bool). b && eqb (get_or l v 0) k) (le-ltb v n h)

pub of-kind-below : (l : List ℕ) (n k v : ℕ) → v < n → of_kind_of l n k v ≡ eqb (get_or l v 0) k
unfolding of_kind_of
of-kind-below l n k v h = ap (λ (b : Bool). b && eqb (get_or l v 0) k) (lt-ltb v n h)

pub kinds-known : (g : Graph) → AcceptedGraph g → (v : ℕ) → v < g.n → get_or g.kind v 0 < 10
unfolding as_model
kinds-known g A v l = omega (arith, A.well_formed.kind_known v l, A.few_kinds)

module _ (g : Graph) (A : AcceptedGraph g) (words : List ℕ) (W : OfKinds words g.kind g.n) where
  -- the sets in the words are the vertices of each kind
  pub mask_is : (k : ℕ) → k < g.kinds → is_in (set_at_of words k) ≡ of_kind_of g.kind g.n k
  mask_is k l = fun_ext (W.each k (omega (arith, A.few_kinds))).are

  -- where no more are marked than there are cores, no more go on
  pub few_go_on : (able : ℕ → Bool) (s : State) → Fair (as_model g) s → (k : ℕ) → k < g.kinds → count (go_on able s.ran (is_in (set_at_of words k))) 128 ≤ get_or g.cores k 0
  unfolding go_on as_model
  few_go_on able s f k l =
      let ran : ℕ → Bool = s.ran in
      let m : ℕ → Bool = of_kind_of g.kind g.n k in
      let a = count_past (go_on able ran m) g.n 128 A.few_vertices (λ v h i. ap (λ (b : Bool). (able v && ran v) && b) (of-kind-past g.kind g.n k v h) ∙ and-false (able v && ran v)) in
      let b = count-sub (go_on able ran m) (λ v. ran v && eqb (get_or g.kind v 0) k) g.n (λ v h t.
      both (ran v) (eqb (get_or g.kind v 0) k) (right_of (able v) (ran v) (left-of (able v && ran v) (m v) t)) (sym (of-kind-below g.kind g.n k v h) ∙ right_of (able v && ran v) (m v) t)) in
      rw (mask_is k l) (omega (arith, f k l))

  -- how many are marked of a kind, counted over all places
  marked-count : (ran : ℕ → Bool) (k : ℕ) → k < g.kinds → count (λ v. ran v && is_in (set_at_of words k) v) 128 ≡ count (λ v. ran v && eqb (get_or g.kind v 0) k) g.n
  marked-count ran k l =
      ap (λ (m : ℕ → Bool). count (λ v. ran v && m v) 128) (mask_is k l)
      ∙ count_past (λ v. ran v && of_kind_of g.kind g.n k v) g.n 128 A.few_vertices (λ v h i. ap (λ (b : Bool). ran v && b) (of-kind-past g.kind g.n k v h) ∙ and-false (ran v))
      ∙ count_ext (λ v. ran v && of_kind_of g.kind g.n k v) (λ v. ran v && eqb (get_or g.kind v 0) k) g.n (λ v h. ap (λ (b : Bool). ran v && b) (of-kind-below g.kind g.n k v h))

  -- few enough are marked by the words just where they are by the kinds
  pub fair_by_words : (ran : ℕ → Bool)
      → fair_by g.kinds g.cores words ran ≡ every (λ k. leb (count (λ v. ran v && eqb (get_or g.kind v 0) k) g.n) (get_or g.cores k 0)) g.kinds
  unfolding fair_by
  fair_by_words ran =
      every_ext (λ k. leb (count (λ v. ran v && is_in (set_at_of words k) v) 128) (get_or g.cores k 0))
      (λ k. leb (count (λ v. ran v && eqb (get_or g.kind v 0) k) g.n) (get_or g.cores k 0)) g.kinds (λ k l. ap (λ (x : ℕ). leb x (get_or g.cores k 0)) (marked-count ran k l))

  module _ (able ran : ℕ → Bool) where
    abbrev stay : ℕ → Bool
    stay u = able u && ran u

    abbrev free : ℕ → Bool
    free u = able u && not (ran u)

    abbrev begins : ℕ → ℕ → Bool
    begins v k = starts stay free (is_in (set_at_of words k)) (get_or g.cores k 0) v

    -- who starts does so among its own kind
    own_kind : (v k : ℕ) → k < g.kinds → begins v k ≡ true → get_or g.kind v 0 ≡ k
    unfolding starts of_kind_of
    own_kind v k l t =
        let in-mask = right_of (free v) (is_in (set_at_of words k) v)
        (left-of (free v && is_in (set_at_of words k) v) (ltb (count (λ u. free u && is_in (set_at_of words k) u) v) (get_or g.cores k 0 - count (λ u. stay u && is_in (set_at_of words k) u) 128)) t) in
        eqb-true (get_or g.kind v 0) k (right_of (ltb v g.n) (eqb (get_or g.kind v 0) k) (sym (ap (λ (p : ℕ → Bool). p v) (mask_is k l)) ∙ in-mask))

    only-own : (v : ℕ) → get_or g.kind v 0 < g.kinds → any (begins v) g.kinds ≡ begins v (get_or g.kind v 0)
    only-own v h =
        same_test (any (begins v) g.kinds) (begins v (get_or g.kind v 0))
        (λ t. let j = any_elim (begins v) g.kinds t in rw (own_kind v j.0 j.1 j.2) j.2)
        (any_intro (begins v) g.kinds (get_or g.kind v 0) h)

    -- chosen kind by kind, from the words, is chosen
    pub by_words : ((v : ℕ) → g.n ≤ v → able v ≡ false) → (v : ℕ) → chosen_by g.kinds g.cores words able ran v ≡ choice g able ran v
    unfolding chosen_by choice filled starts wait go_on as_model
    by_words past v = ⊎_elim out into (le-or-lt g.n v)
      where
        k : ℕ
        k = get_or g.kind v 0

        none : (j : ℕ) → able v ≡ false → begins v j ≡ false
        none j e = rw e refl

        out : g.n ≤ v → stay v || any (begins v) g.kinds ≡ choice g able ran v
        out l =
            let e = past v l in
            ap₂ (λ (a b : Bool). (a && ran v) || b) e (any_none (begins v) g.kinds (λ j h. none j e))
            ∙ sym (ap (λ (a : Bool). (a && (ran v || ltb (count (wait able ran (of_kind_of g.kind g.n k)) v) (get_or g.cores k 0 - count (go_on able ran (of_kind_of g.kind g.n k)) 128))) && of_kind_of g.kind g.n k v) e)

        whole : (a b d : Bool) → (a && b) || (((a && not b) && true) && d) ≡ (a && (b || d)) && true
        whole true true d = refl
        whole true false true = refl
        whole true false false = refl
        whole false b d = refl

        into : v < g.n → stay v || any (begins v) g.kinds ≡ choice g able ran v
        into l =
            let known = A.well_formed.kind_known v l in
            let mine : of_kind_of g.kind g.n k v ≡ true = of-kind-below g.kind g.n k v l ∙ eq-eqb k k refl in
            ap (λ (b : Bool). stay v || b) (only-own v known)
            ∙ ap (λ (m : ℕ → Bool). stay v || ((free v && m v) && ltb (count (λ u. free u && m u) v) (get_or g.cores k 0 - count (λ u. stay u && m u) 128))) (mask_is k known)
            ∙ rw mine (whole (able v) (ran v) (ltb (count (wait able ran (of_kind_of g.kind g.n k)) v) (get_or g.cores k 0 - count (go_on able ran (of_kind_of g.kind g.n k)) 128)))
