-- The members of a set taken one by one, the lowest first: what is taken is what is no longer in the rest.
use mathlib.Core.Path.{◌≡◌, refl, sym, ap, ap₂, ◌∙◌}
use mathlib.Core.Logic.{◌⊎◌, inl, inr, ⊎_elim}
use mathlib.Core.Bool.{Bool, true, false, not, ◌&&◌, ◌||◌, or-false, and-true}
use Prim.Native.Nat.{ℕ, ◌^◌, ◌≤◌, ◌<◌}
use lib.Dec.{eqb}
use borrow.Author.Tests.{eqb-true, eq-eqb}
use Rattle.model.specs.Places.{any, first, count}
use Rattle.model.proofs.Bools.{cases, clash, le-or-lt, not-true, not-is-true, left-of}
use Rattle.model.proofs.Places.{first_found, first-here, any_elim, any_false, count_less}
use Rattle.vset.specs.declared.Vset.{Vset}
use Rattle.vset.specs.Members.{is_in, Members}
use Rattle.vset.proofs.Words.{past-none}

pub twice : (b : Bool) → not (not b) ≡ b
twice true = refl
twice false = refl

-- the rest is empty, as a loop's test says
pub emptied : (on : Vset) (rest : ℕ → Bool) → on.lo < 2 ^ 64 → on.hi < 2 ^ 64 → ((v : ℕ) → rest v ≡ true → is_in on v ≡ true) → (e : Bool) → e ≡ not (any rest 128) → not e ≡ false → (v : ℕ) → rest v ≡ false
emptied on rest low high inside e is t v =
    ⊎_elim
    (λ (l : 128 ≤ v). not-true (rest v) (λ h. clash (inside v h) (past-none on low high v l)))
    (λ (l : v < 128). any_false rest 128 v l (sym (twice (any rest 128)) ∙ ap not (sym is) ∙ t))
    (le-or-lt 128 v)

-- an empty set has no member
pub none_in : (s : Vset) (p : ℕ → Bool) → Members s p → (e : Bool) → e ≡ not (any (is_in s) 128) → e ≡ true → (v : ℕ) → p v ≡ false
none_in s p m e is t v = sym (m.are v) ∙ emptied s (is_in s) m.low m.high (λ k h. h) e is (ap not t) v

-- the rest is not empty, as a loop's test says
pub some_in : (rest : ℕ → Bool) (e : Bool) → e ≡ not (any rest 128) → not e ≡ true → any rest 128 ≡ true
some_in rest e is f = some (any rest 128) (sym is ∙ not-is-true e f)
  where
    some : (b : Bool) → not b ≡ false → b ≡ true
    some true q = refl
    some false q = absurd (clash refl q)

-- its lowest is one of it
pub first_in : (rest : ℕ → Bool) (t : ℕ) → t ≡ first rest 128 → any rest 128 ≡ true → (t < 128) × (rest t ≡ true)
first_in rest t is-t f =
    let m = any_elim rest 128 f in
    let l = first_found rest 128 m.0 m.1 m.2 in
    (rw is-t l, rw is-t (first-here rest 128 l))

pub lowest_in : (rest : ℕ → Bool) (t : ℕ) (e : Bool) → t ≡ first rest 128 → e ≡ not (any rest 128) → not e ≡ true → (t < 128) × (rest t ≡ true)
lowest_in rest t e is-t is-e f = first_in rest t is-t (some_in rest e is-e f)

module _ (rest next : ℕ → Bool) (t : ℕ) (is-next : (k : ℕ) → next k ≡ rest k && not (eqb k t)) (here : rest t ≡ true) where
  pub still_in : (k : ℕ) → next k ≡ true → rest k ≡ true
  still_in k h = left-of (rest k) (not (eqb k t)) (sym (is-next k) ∙ h)

  pub fewer_in : t < 128 → count next 128 < count rest 128
  fewer_in l = count_less next rest t 128 l (λ v h. still_in v) here (is-next t ∙ ap₂ (λ (x y : Bool). x && not y) here (eq-eqb t t refl))

  pub taken_more : (on : ℕ → Bool) → on t ≡ true → (k : ℕ) → on k && not (next k) ≡ (on k && not (rest k)) || eqb k t
  taken_more on o k = ap (λ (x : Bool). on k && not x) (is-next k) ∙ go (cases (eqb k t))
    where
      go : (eqb k t ≡ true) ⊎ (eqb k t ≡ false) → on k && not (rest k && not (eqb k t)) ≡ (on k && not (rest k)) || eqb k t
      go (inl q) = let e = eqb-true k t q in rw (q, e, o, here) refl
      go (inr q) = rw q (ap (λ (x : Bool). on k && not x) (and-true (rest k)) ∙ sym (or-false (on k && not (rest k))))

-- at first none is taken, and in the end all are
pub none-taken : (on : ℕ → Bool) (v : ℕ) → on v && not (on v) ≡ false
none-taken on v = neither (on v)
  where
    neither : (b : Bool) → b && not b ≡ false
    neither true = refl
    neither false = refl

pub all-taken : (on rest : ℕ → Bool) → ((v : ℕ) → rest v ≡ false) → (v : ℕ) → on v && not (rest v) ≡ on v
all-taken on rest none v = ap (λ (b : Bool). on v && not b) (none v) ∙ and-true (on v)
