-- Leaping d ticks is d single steps, while no vertex that runs finishes before.
--
-- Until one of those that run is finished, the same vertices are ready. Those that were chosen run on. Of a kind that has a ready
-- vertex which was not chosen, as many were chosen as there are cores, so none is free for it; of every other kind all ready ones
-- run already. So the same are chosen again, tick after tick.
use mathlib.Core.Path.{◌≡◌, refl, ap, ap₂, sym, ◌∙◌, subst, fun_ext}
use mathlib.Core.Logic.{◌⊎◌, inl, inr}
use mathlib.Core.Bool.{Bool, true, false, not, ◌&&◌, ◌||◌}
use Prim.Native.Nat.{ℕ, zero, suc, ◌-◌, ◌≤◌, ◌<◌, zero-le}
use native.Mathlib.Omega.{arith}
use lib.Dec.{eqb, ltb}
use borrow.Author.Tests.{eq-eqb, ne_eqb, lt-ltb, le-ltb}
use Rattle.model.specs.Places.{pick, count, every}
use Rattle.model.specs.Graph.{Graph, WellFormed}
use Rattle.model.specs.ListSchedule.{finished_within, finished, ready, State, goes_on_next, waits, chosen, leap, step, steps, Fair}
use Rattle.model.proofs.Bools.{cases, clash, not-true, both, left-of, right_of, imp_intro, le-or-lt}
use Rattle.model.proofs.Places.{count_ext, count_less, every_intro}
use Rattle.model.proofs.Tests.{finished-zeros, ready-zeros}
use Rattle.model.proofs.Listed.{chosen-ready, chosen-count}

-- a vertex that the graph does not have, with nothing left, is not ready
finished-past : {G : Graph} → WellFormed G → (c : ℕ → ℕ) (v : ℕ) → G.n ≤ v → c v ≡ 0 → (k : ℕ) → finished_within G c (suc k) v ≡ true
unfolding finished_within
finished-past {G} W c v l z k =
    both (eqb (c v) 0) (every (λ u. not (G.edge u v) || finished_within G c k u) G.n) (eq-eqb (c v) 0 z)
    (every_intro (λ u. not (G.edge u v) || finished_within G c k u) G.n
    (λ u m. imp_intro (G.edge u v) (finished_within G c k u) (λ e. absurd (omega (arith, W.to u v e)))))

pub ready-past : {G : Graph} → WellFormed G → (c : ℕ → ℕ) (v : ℕ) → G.n ≤ v → c v ≡ 0 → ready G c v ≡ false
unfolding ready finished
ready-past {G} W c v l z =
    let e : G.n ≡ suc (G.n - 1) = omega (arith, W.some) in
    let f : finished_within G c G.n v ≡ true = subst (λ (k : ℕ). finished_within G c k v ≡ true) (sym e) (finished-past W c v l z (G.n - 1)) in
    rw f refl

chosen_is : (G : Graph) (s : State) (v : ℕ)
    → chosen G s v ≡ ready G s.rest v && (s.ran v || ltb (count (waits G s (G.kind v)) v) (G.cores (G.kind v) - count (goes_on_next G s (G.kind v)) G.n))
unfolding chosen
chosen_is G s v = refl

module _ {G : Graph} (W : WellFormed G) (s : State) (fair : Fair G s) (past : (v : ℕ) → G.n ≤ v → s.rest v ≡ 0) where
  -- a ready vertex that is not chosen: as many of its kind are chosen as there are cores
  full : (v : ℕ) → v < G.n → ready G s.rest v ≡ true → chosen G s v ≡ false
      → count (λ u. chosen G s u && eqb (G.kind u) (G.kind v)) G.n ≡ G.cores (G.kind v)
  full v l r x =
      omega (
        arith,
        chosen-count G s fair (G.kind v) (W.kind_known v l),
        count_less (λ u. chosen G s u && eqb (G.kind u) (G.kind v)) (λ u. ready G s.rest u && eqb (G.kind u) (G.kind v)) v G.n l
            (λ u m t. both (ready G s.rest u) (eqb (G.kind u) (G.kind v)) (chosen-ready G s u (left-of (chosen G s u) _ t)) (right_of (chosen G s u) _ t))
            (both (ready G s.rest v) (eqb (G.kind v) (G.kind v)) r (eq-eqb (G.kind v) (G.kind v) refl))
            (not-true (chosen G s v && eqb (G.kind v) (G.kind v)) (λ t. clash (left-of (chosen G s v) _ t) x)),
      )

  -- where the same are ready, and those chosen have the mark, the same are chosen again
  module _ (s' : State) (same-ready : (v : ℕ) → ready G s'.rest v ≡ ready G s.rest v) (same-ran : (v : ℕ) → s'.ran v ≡ chosen G s v) where
    all-go-on : (k : ℕ) → count (goes_on_next G s' k) G.n ≡ count (λ u. chosen G s u && eqb (G.kind u) k) G.n
    unfolding goes_on_next
    all-go-on k = count_ext (goes_on_next G s' k) (λ u. chosen G s u && eqb (G.kind u) k) G.n (λ u l. at u)
      where
        kept : (r c : Bool) → (c ≡ true → r ≡ true) → r && c ≡ c
        kept true c h = refl
        kept false true h = h refl
        kept false false h = refl

        at : (u : ℕ) → (ready G s'.rest u && s'.ran u) && eqb (G.kind u) k ≡ chosen G s u && eqb (G.kind u) k
        at u = rw (same-ready u, same-ran u, kept (ready G s.rest u) (chosen G s u) (chosen-ready G s u)) refl

    again : (v : ℕ) → chosen G s' v ≡ chosen G s v
    again v = chosen_is G s' v ∙ go (cases (chosen G s v)) (cases (ready G s.rest v)) (le-or-lt G.n v)
      where
        go : (chosen G s v ≡ true) ⊎ (chosen G s v ≡ false) → (ready G s.rest v ≡ true) ⊎ (ready G s.rest v ≡ false) → (G.n ≤ v) ⊎ (v < G.n)
            → ready G s'.rest v && (s'.ran v || ltb (count (waits G s' (G.kind v)) v) (G.cores (G.kind v) - count (goes_on_next G s' (G.kind v)) G.n)) ≡ chosen G s v
        go (inl c) r p = rw (same-ready v, same-ran v, chosen-ready G s v c, c) refl
        go (inr c) (inr r) p = rw (same-ready v, r, c) refl
        go (inr c) (inl r) (inl p) = absurd (clash r (ready-past W s.rest v p (past v p)))
        go (inr c) (inl r) (inr p) =
            let e : G.cores (G.kind v) - count (goes_on_next G s' (G.kind v)) G.n ≡ 0 = omega (arith, all-go-on (G.kind v), full v p r c) in
            rw (same-ready v, same-ran v, r, c, e) (le-ltb (count (waits G s' (G.kind v)) v) 0 zero-le)

  -- while those chosen have more than d ticks left, a leap by d leaves the same vertices with something left, and marks those chosen
  module _ (d : ℕ) (long : (v : ℕ) → chosen G s v ≡ true → d < s.rest v) where
    same-zeros : (v : ℕ) → eqb ((leap G d s).rest v) 0 ≡ eqb (s.rest v) 0
    unfolding leap
    same-zeros v = go (chosen G s v) refl
      where
        go : (b : Bool) → chosen G s v ≡ b → eqb (s.rest v - pick (chosen G s v) d 0) 0 ≡ eqb (s.rest v) 0
        go true e =
            let l = long v e in
            rw e (ne_eqb (s.rest v - d) 0 (λ z. omega arith) ∙ sym (ne_eqb (s.rest v) 0 (λ z. omega arith)))
        go false e = let z : s.rest v - 0 ≡ s.rest v = omega arith in rw (e, z) refl

    marked : (v : ℕ) → (leap G d s).ran v ≡ chosen G s v
    unfolding leap
    marked v = go (chosen G s v) refl
      where
        go : (b : Bool) → chosen G s v ≡ b → chosen G s v && ltb 0 (s.rest v - pick (chosen G s v) d 0) ≡ chosen G s v
        go true e = let l = long v e in rw e (lt-ltb 0 (s.rest v - d) (omega arith))
        go false e = rw e refl

    leap-ready : (v : ℕ) → ready G (leap G d s).rest v ≡ ready G s.rest v
    leap-ready v = ready-zeros G (leap G d s).rest s.rest same-zeros v

    leap-chosen : (v : ℕ) → chosen G (leap G d s) v ≡ chosen G s v
    leap-chosen = again (leap G d s) leap-ready marked

    -- one step more
    leap-more : step G (leap G d s) ≡ leap G (suc d) s
    unfolding leap
    leap-more = ap₂ {C = State} (λ (r : ℕ → ℕ) (q : ℕ → Bool). record { rest = r; ran = q })
        (fun_ext (λ v. rests (chosen G s v) (chosen G (leap G d s) v) (s.rest v) (leap-chosen v)))
        (fun_ext (λ v. rans (chosen G s v) (chosen G (leap G d s) v) (s.rest v) (leap-chosen v)))
      where
        rests : (b b' : Bool) (x : ℕ) → b' ≡ b → (x - pick b d 0) - pick b' 1 0 ≡ x - pick b (suc d) 0
        rests true b' x e = rw e (omega arith)
        rests false b' x e = rw e (omega arith)

        rans : (b b' : Bool) (x : ℕ) → b' ≡ b → b' && ltb 0 ((x - pick b d 0) - pick b' 1 0) ≡ b && ltb 0 (x - pick b (suc d) 0)
        rans true b' x e = let z : x - d - 1 ≡ x - suc d = omega arith in rw e (ap (λ (y : ℕ). ltb 0 y) z)
        rans false b' x e = rw e refl

  -- THEOREM. d ticks at once are d single steps, where each vertex that runs has d ticks left at least.
  pub leap-steps : (d : ℕ) → 0 < d → ((v : ℕ) → chosen G s v ≡ true → d ≤ s.rest v) → steps G d s ≡ leap G d s
  unfolding steps
  leap-steps zero p long = absurd (omega arith)
  leap-steps (suc zero) p long = refl
  leap-steps (suc (suc d)) p long =
      ap (step G) (leap-steps (suc d) (omega arith) (λ v c. omega (arith, long v c))) ∙ leap-more (suc d) (λ v c. omega (arith, long v c))

  -- and before the last of them nothing more is finished
  pub leap-finished : (d j : ℕ) → j < d → ((v : ℕ) → chosen G s v ≡ true → d ≤ s.rest v) → (v : ℕ) → finished G (steps G j s).rest v ≡ finished G s.rest v
  unfolding steps
  leap-finished d zero l long v = refl
  leap-finished d (suc j) l long v =
      ap (λ (x : State). finished G x.rest v) (leap-steps (suc j) (omega arith) (λ v c. omega (arith, long v c)))
      ∙ finished-zeros G (leap G (suc j) s).rest s.rest (same-zeros (suc j) (λ v c. omega (arith, long v c))) v
