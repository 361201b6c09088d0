-- The rows of a set's members are united one by one: what is united so far, and the rows of who is left, are the whole.
use mathlib.Core.Path.{◌≡◌, refl, sym, ap, ap₂, ◌∙◌}
use mathlib.Core.Logic.{◌⊎◌, inl, inr}
use mathlib.Core.Bool.{Bool, true, false, not, ◌&&◌, ◌||◌, or-false}
use mathlib.Core.List.{List}
use Prim.Native.Nat.{ℕ, ◌<◌}
use native.Mathlib.Decide.{ℕ_discrete}
use lib.Dec.{eqb}
use borrow.Author.Tests.{ne_eqb}
use Rattle.model.specs.Places.{any}
use Rattle.model.proofs.Bools.{both, left-of, right_of, or_left, or_right, or_cases, same_test}
use Rattle.model.proofs.Places.{any_intro, any_elim, any_none}
use Rattle.vset.specs.declared.Vset.{Vset}
use Rattle.vset.specs.Members.{is_in, Members}
use Rattle.vset.proofs.Taking.{still_in}
use Rattle.sets.specs.Sets.{row_of}
use Rattle.rows.specs.Gathered.{gathered}

-- one of them is taken out
any-less : (rest next q : ℕ → Bool) (x : ℕ) → ((k : ℕ) → next k ≡ rest k && not (eqb k x)) → rest x ≡ true → x < 128
    → any (λ u. rest u && q u) 128 ≡ q x || any (λ u. next u && q u) 128
any-less rest next q x is here l = same_test (any (λ u. rest u && q u) 128) (q x || any (λ u. next u && q u) 128) to from
  where
    to : any (λ u. rest u && q u) 128 ≡ true → q x || any (λ u. next u && q u) 128 ≡ true
    to t = let r = any_elim (λ u. rest u && q u) 128 t in go r.0 r.1 r.2 (ℕ_discrete r.0 x)
      where
        go : (u : ℕ) → u < 128 → rest u && q u ≡ true → Dec (u ≡ x) → q x || any (λ u. next u && q u) 128 ≡ true
        go u h y (yes e) = or_left (q x) (any (λ u. next u && q u) 128) (rw e at (right_of (rest u) (q u) y))
        go u h y (no e) =
            or_right (q x) (any (λ u. next u && q u) 128)
            (any_intro (λ u. next u && q u) 128 u h (both (next u) (q u) (is u ∙ ap₂ (λ (a b : Bool). a && not b) (left-of (rest u) (q u) y) (ne_eqb u x e)) (right_of (rest u) (q u) y)))

    from : q x || any (λ u. next u && q u) 128 ≡ true → any (λ u. rest u && q u) 128 ≡ true
    from t = go (or_cases (q x) (any (λ u. next u && q u) 128) t)
      where
        go : (q x ≡ true) ⊎ (any (λ u. next u && q u) 128 ≡ true) → any (λ u. rest u && q u) 128 ≡ true
        go (inl y) = any_intro (λ u. rest u && q u) 128 x l (both (rest x) (q x) here y)
        go (inr y) =
            let r = any_elim (λ u. next u && q u) 128 y in
            let u = r.0 in
            any_intro (λ u. rest u && q u) 128 u r.1
            (both (rest u) (q u) (still_in rest next x is here u (left-of (next u) (q u) r.2)) (right_of (next u) (q u) r.2))

module _ (t : List (List ℕ)) (s : Vset) where
  -- what is united, and the rows of who is left
  abbrev pub United : Vset → Vset → Type 0
  United got rest = (w : ℕ) → is_in got w || any (λ u. is_in rest u && is_in (row_of t u) w) 128 ≡ gathered t s w

  pub united_none : United s s
  unfolding gathered
  united_none w = refl

  pub united_more : (got rest got' next : Vset) (x : ℕ) → ((k : ℕ) → is_in next k ≡ is_in rest k && not (eqb k x)) → is_in rest x ≡ true → x < 128
      → Members got' (λ w. is_in got w || is_in (row_of t x) w)
      → United got rest
      → United got' next
  united_more got rest got' next x is here l M U w =
      ap (λ (b : Bool). b || any (λ u. is_in next u && is_in (row_of t u) w) 128) (M.are w)
      ∙ grouped (is_in got w) (is_in (row_of t x) w) (any (λ u. is_in next u && is_in (row_of t u) w) 128)
      ∙ ap (λ (b : Bool). is_in got w || b) (sym (any-less (is_in rest) (is_in next) (λ u. is_in (row_of t u) w) x is here l))
      ∙ U w
    where
      grouped : (a b c : Bool) → (a || b) || c ≡ a || (b || c)
      grouped true b c = refl
      grouped false b c = refl

  pub united_all : (got rest : Vset) → ((u : ℕ) → is_in rest u ≡ false) → United got rest → (w : ℕ) → is_in got w ≡ gathered t s w
  united_all got rest none U w =
      sym (or-false (is_in got w))
      ∙ ap (λ (b : Bool). is_in got w || b) (sym (any_none (λ u. is_in rest u && is_in (row_of t u) w) 128 (λ u l. ap (λ (b : Bool). b && is_in (row_of t u) w) (none u))))
      ∙ U w
