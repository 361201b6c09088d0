-- The successors of a vertex are told, edge by edge.
use mathlib.Core.Path.{◌≡◌, refl, sym, ap, ap₂, ◌∙◌}
use mathlib.Core.List.{List}
use mathlib.Core.Bool.{Bool, false, not, ◌&&◌, ◌||◌, or-false, and-true, and-false}
use Prim.Native.Nat.{ℕ, zero, suc, ◌+◌, ◌-◌, ◌≤◌, ◌<◌}
use native.Mathlib.Omega.{arith}
use native.Mathlib.Decide.{ℕ_discrete}
use lib.Dec.{eqb, ltb, leb}
use lib.ListN.{get_or, length, length-set}
use borrow.Author.Tests.{lt-ltb, le-ltb, le-leb, lt-leb, eq-eqb, ne_eqb}
use Rattle.model.specs.Places.{pick, bit, count}
use Rattle.model.proofs.Places.{count-more, count_none, count-up}
use Rattle.vset.specs.Members.{is_in, Members}
use Rattle.vset.proofs.Gather.{members_ext}
use Rattle.waiting.specs.declared.News.{News}
use Rattle.waiting.specs.Waiting.{leading, Released, Told}
use Rattle.starts.specs.Starts.{leads_to}
use Rattle.model.proofs.Turns.{put-at}

-- ---- how many edges lead to v

pub leading-none : (l : List ℕ) (a v : ℕ) → leading l a a v ≡ 0
unfolding leading
leading-none l a v = count_none (λ i. leb a i && eqb (leads_to l i) v) a (λ i h. ap (λ (b : Bool). b && eqb (leads_to l i) v) (lt-leb a i h))

leading-more : (l : List ℕ) (a i v : ℕ) → a ≤ i → leading l a (i + 1) v ≡ leading l a i v + bit (eqb (leads_to l i) v)
unfolding leading
leading-more l a i v h =
    count-more (λ i. leb a i && eqb (leads_to l i) v) i
    ∙ ap (λ (b : Bool). count (λ i. leb a i && eqb (leads_to l i) v) i + bit (b && eqb (leads_to l i) v)) (le-leb a i h)

leading-up : (l : List ℕ) (a i b v : ℕ) → i ≤ b → leading l a i v ≤ leading l a b v
unfolding leading
leading-up l a i b v h = count-up (λ i. leb a i && eqb (leads_to l i) v) i b h

-- ---- one edge more is followed: one less for the vertex that it leads to, and nothing else

module _ (l : List ℕ) (a i : ℕ) (h : a ≤ i) (w old : List ℕ) (less : (v : ℕ) → get_or old v 0 ≡ get_or w v 0 - leading l a i v) where
  abbrev end : ℕ
  end = leads_to l i

  one_more : leading l a (i + 1) end ≡ leading l a i end + 1
  one_more = leading-more l a i end h ∙ ap (λ (b : Bool). leading l a i end + bit b) (eq-eqb end end refl)

  -- an edge that is still to be followed is counted
  pub still_counted : (b : ℕ) → i < b → leading l a b end ≤ get_or w end 0 → 0 < get_or old end 0
  still_counted b k enough = omega (arith, less end, enough, leading-up l a (i + 1) b end (omega arith), one_more)

  pub one_followed : (new : List ℕ) → get_or new end 0 ≡ get_or old end 0 - 1 → ((v : ℕ) → (v ≡ end → ⊥) → get_or new v 0 ≡ get_or old v 0) → (v : ℕ) → get_or new v 0 ≡ get_or w v 0 - leading l a (i + 1) v
  one_followed new here other v = go (ℕ_discrete v end)
    where
      go : Dec (v ≡ end) → get_or new v 0 ≡ get_or w v 0 - leading l a (i + 1) v
      go (yes e) = rw e (omega (arith, here, less end, one_more))
      go (no e) = omega (arith, other v e, less v, leading-more l a i v h ∙ ap (λ (b : Bool). leading l a i v + bit b) (ne_eqb end v (λ q. e (sym q))))

-- ---- numbers

some-none : (x : ℕ) → ltb 0 x && eqb x 0 ≡ false
some-none zero = ap (λ (b : Bool). b && eqb 0 0) (le-ltb 0 0 (omega arith))
some-none (suc x) = ap (λ (b : Bool). ltb 0 (suc x) && b) (ne_eqb (suc x) 0 (λ e. omega arith)) ∙ and-false (ltb 0 (suc x))

-- one less of a number that is not 0
last_one : (x : ℕ) → 0 < x → eqb (x - 1) 0 ≡ eqb x 1
last_one x h = go (ℕ_discrete x 1)
  where
    go : Dec (x ≡ 1) → eqb (x - 1) 0 ≡ eqb x 1
    go (yes e) = eq-eqb (x - 1) 0 (omega arith) ∙ sym (eq-eqb x 1 e)
    go (no e) = ne_eqb (x - 1) 0 (λ q. e (omega arith)) ∙ sym (ne_eqb x 1 e)

still_some : (x : ℕ) → 0 < x → not (eqb x 1) ≡ ltb 0 (x - 1)
still_some x h = go (ℕ_discrete x 1)
  where
    go : Dec (x ≡ 1) → not (eqb x 1) ≡ ltb 0 (x - 1)
    go (yes e) = ap not (eq-eqb x 1 e) ∙ sym (le-ltb 0 (x - 1) (omega arith))
    go (no e) = ap not (ne_eqb x 1 e) ∙ sym (lt-ltb 0 (x - 1) (omega arith))

-- ---- along the edges

module _ (l : List ℕ) (a : ℕ) (w : List ℕ) (busy : ℕ → Bool) (s : News) where
  pub told_none : length w ≡ 128 → Members s.behind (λ v. ltb 0 (get_or w v 0)) → Members s.done (is_in s.done) → Told l a a w busy s w s
  told_none long m d = record {
    long = long;
    less = λ v. omega (arith, leading-none l a v);
    behind = m;
    done = members_ext s.done (is_in s.done) (λ v. is_in s.done v || ((ltb 0 (get_or w v 0) && eqb (get_or w v 0) 0) && not (busy v))) d
        (λ v. sym (ap (λ (b : Bool). is_in s.done v || (b && not (busy v))) (some-none (get_or w v 0)) ∙ or-false (is_in s.done v)));
  }

  module _ (i : ℕ) (old : List ℕ) (r : News) (T : Told l a i w busy s old r) (h : a ≤ i) (known : leads_to l i < 128) (some : 0 < get_or old (leads_to l i) 0)
      (new : List ℕ) (r' : News) (R : Released old (leads_to l i) busy r new r') where
    abbrev t : ℕ
    t = leads_to l i

    at : (v : ℕ) → get_or new v 0 ≡ pick (eqb v t) (get_or old t 0 - 1) (get_or old v 0)
    at v = ap (λ (x : List ℕ). get_or x v 0) R.less ∙ put-at old t (get_or old t 0 - 1) v (omega (arith, T.long))

    at-t : get_or new t 0 ≡ get_or old t 0 - 1
    at-t = at t ∙ ap (λ (b : Bool). pick b (get_or old t 0 - 1) (get_or old t 0)) (eq-eqb t t refl)

    at_other : (v : ℕ) → (v ≡ t → ⊥) → get_or new v 0 ≡ get_or old v 0
    at_other v e = at v ∙ ap (λ (b : Bool). pick b (get_or old t 0 - 1) (get_or old v 0)) (ne_eqb v t e)

    pub told_more : Told l a (i + 1) w busy s new r'
    told_more = record {
      long = ap (λ (x : List ℕ). length x) R.less ∙ length-set old t (get_or old t 0 - 1) ∙ T.long;
      less = one_followed l a i h w old T.less new at-t at_other;
      behind = members_ext r'.behind (λ k. is_in r.behind k && not (eqb (get_or old t 0) 1 && eqb k t)) (λ v. ltb 0 (get_or new v 0)) R.behind
          (λ v. ap (λ (b : Bool). b && not (eqb (get_or old t 0) 1 && eqb v t)) (T.behind.are v) ∙ behind v (ℕ_discrete v t));
      done = members_ext r'.done (λ k. is_in r.done k || ((eqb (get_or old t 0) 1 && not (busy t)) && eqb k t)) (λ v. goal v) R.done
          (λ v. ap (λ (b : Bool). b || ((eqb (get_or old t 0) 1 && not (busy t)) && eqb v t)) (T.done.are v) ∙ done v (ℕ_discrete v t));
    }
      where
        goal : ℕ → Bool
        goal v = is_in s.done v || ((ltb 0 (get_or w v 0) && eqb (get_or new v 0) 0) && not (busy v))

        behind : (v : ℕ) → Dec (v ≡ t) → ltb 0 (get_or old v 0) && not (eqb (get_or old t 0) 1 && eqb v t) ≡ ltb 0 (get_or new v 0)
        behind v (yes e) =
            rw (e, at-t, eq-eqb t t refl, lt-ltb 0 (get_or old t 0) some, and-true (eqb (get_or old t 0) 1)) (still_some (get_or old t 0) some)
        behind v (no e) = rw (at_other v e, ne_eqb v t e, and-false (eqb (get_or old t 0) 1)) (and-true (ltb 0 (get_or old v 0)))

        done : (v : ℕ) → Dec (v ≡ t)
            → (is_in s.done v || ((ltb 0 (get_or w v 0) && eqb (get_or old v 0) 0) && not (busy v))) || ((eqb (get_or old t 0) 1 && not (busy t)) && eqb v t)
            ≡ is_in s.done v || ((ltb 0 (get_or w v 0) && eqb (get_or new v 0) 0) && not (busy v))
        done v (yes e) =
            rw (e, at-t, eq-eqb t t refl, lt-ltb 0 (get_or w t 0) (omega (arith, T.less t, some)), ne_eqb (get_or old t 0) 0 (λ z. omega arith), last_one (get_or old t 0) some)
            (ap₂ ◌||◌ (or-false (is_in s.done t)) (and-true (eqb (get_or old t 0) 1 && not (busy t))))
        done v (no e) =
            rw (at_other v e, ne_eqb v t e, and-false (eqb (get_or old t 0) 1 && not (busy t)))
            (or-false (is_in s.done v || ((ltb 0 (get_or w v 0) && eqb (get_or old v 0) 0) && not (busy v))))
