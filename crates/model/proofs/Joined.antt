-- Paths from a source to a vertex: one joined with a path from there to a sink is complete, and every complete path comes apart at a
-- rank. A vertex's weight counts once at most along a path, since ranks rise.
use mathlib.Core.Path.{◌≡◌, refl, ap}
use mathlib.Core.List.{List, [], ◌∷◌, ◌++◌, append-nil}
use mathlib.Core.Logic.{◌⊎◌, inl, inr}
use mathlib.Core.Bool.{Bool, true, false}
use Prim.Native.Nat.{ℕ, ◌+◌, ◌≤◌, ◌<◌, zero-le}
use native.Mathlib.Omega.{arith}
use lib.Dec.{eqb}
use lib.Seq.{append_snoc}
use borrow.Author.Tests.{eq-eqb, ne_eqb}
use Rattle.model.specs.Places.{pick, along}
use Rattle.model.specs.Graph.{Graph, Edge, WellFormed}
use Rattle.model.specs.Cycle.{Ranked}
use Rattle.model.specs.Path.{ToSink, end, link, Complete, complete}
use Rattle.model.specs.Summary.{FromSource, begin, onward}
use Rattle.model.proofs.Bools.{le-or-lt}
use Rattle.model.proofs.Paths.{head-known}

pub along-append : (f : ℕ → ℕ) (p q : List ℕ) → along f (p ++ q) ≡ along f p + along f q
unfolding along
along-append f [] q = omega arith
along-append f (v ∷ p) q = omega (arith, along-append f p q)

-- one vertex more at the end
pub along-last : (f : ℕ → ℕ) (p : List ℕ) (v : ℕ) → along f (p ++ (v ∷ [])) ≡ along f p + f v
unfolding along
along-last f p v = omega (arith, along-append f p (v ∷ []))

pub last-known : {G : Graph} {p : List ℕ} {v : ℕ} → WellFormed G → FromSource G p v → v < G.n
last-known W (begin l s) = l
last-known {v = v} W (onward {u = u} c e) = W.to u v e

-- the last vertex's weight counts
pub path-own : {G : Graph} (f : ℕ → ℕ) {p : List ℕ} {v : ℕ} → FromSource G p v → f v ≤ along f p
unfolding along
path-own f (begin l s) = omega arith
path-own f {v = v} (onward {p = p} c e) = omega (arith, along-last f p v)

-- ---- together and apart

pub joined : {G : Graph} {p q : List ℕ} {v : ℕ} → FromSource G p v → ToSink G (v ∷ q) → Complete G (p ++ q)
joined (begin l s) t = complete s t
joined {q = q} {v = v} (onward {p = p} c e) t = rw (append_snoc p v q) (joined c (link e t))

-- how a complete path lies to a rank r: it ends at or below it; begins above it; or leads over it
pub data Cut (G : Graph) (rank : ℕ → ℕ) (r : ℕ) : List ℕ → Type 0 where
  ends : {p : List ℕ} {t : ℕ} → FromSource G p t → rank t ≤ r → Cut G rank r p
  begins : {u : ℕ} {q : List ℕ} → ToSink G (u ∷ q) → r < rank u → Cut G rank r (u ∷ q)
  leads : {p q : List ℕ} {a b : ℕ} → FromSource G p a → Edge G a b → ToSink G (b ∷ q) → rank a ≤ r → r < rank b → Cut G rank r (p ++ (b ∷ q))

module _ {G : Graph} (rank : ℕ → ℕ) (r : ℕ) where
  cut_on : (p : List ℕ) (u : ℕ) (q : List ℕ) → FromSource G p u → ToSink G (u ∷ q) → rank u ≤ r → Cut G rank r (p ++ q)
  cut_on p u [] c (end l s) h = rw append-nil (ends c h)
  cut_on p u (w ∷ q) c (link e t) h = go (le-or-lt (rank w) r) (λ k. cut_on (p ++ (w ∷ [])) w q (onward c e) t k)
    where
      go : (rank w ≤ r) ⊎ (r < rank w) → (rank w ≤ r → Cut G rank r (p ++ (w ∷ []) ++ q)) → Cut G rank r (p ++ (w ∷ q))
      go (inl k) ih = rw (append_snoc p w q) at (ih k)
      go (inr k) ih = leads c e t h k

  pub cut : WellFormed G → {p : List ℕ} → Complete G p → Cut G rank r p
  cut W (complete {u = u} {p = q} s t) = go (le-or-lt (rank u) r)
    where
      go : (rank u ≤ r) ⊎ (r < rank u) → Cut G rank r (u ∷ q)
      go (inl k) = cut_on (u ∷ []) u q (begin (head-known W t) s) t k
      go (inr k) = begins t k

-- ---- a vertex whose weight does not count

-- the weights f, with that of v taken as 0
abbrev pub without : (ℕ → ℕ) → ℕ → ℕ → ℕ
without f v u = pick (eqb u v) 0 (f u)

pub without_at : (f : ℕ → ℕ) (v : ℕ) → without f v v ≡ 0
without_at f v = rw (eq-eqb v v refl) refl

pub without_other : (f : ℕ → ℕ) (v u : ℕ) → (u ≡ v → ⊥) → without f v u ≡ f u
without_other f v u x = rw (ne_eqb u v x) refl

pub without-le : (f : ℕ → ℕ) (v u : ℕ) → without f v u ≤ f u
without-le f v u = go (eqb u v)
  where
    go : (b : Bool) → pick b 0 (f u) ≤ f u
    go true = zero-le
    go false = omega arith

module _ {G : Graph} (R : Ranked G) (f : ℕ → ℕ) (v : ℕ) where
  -- of another rank, it is another vertex
  pub other : (u : ℕ) → (R.rank u < R.rank v) ⊎ (R.rank v < R.rank u) → u ≡ v → ⊥
  other u (inl l) e = let z = ap R.rank e in omega arith
  other u (inr l) e = let z = ap R.rank e in omega arith

  -- a path that starts elsewhere, not below v, does not meet v; nor does one that ends elsewhere, not above v
  pub above : {u : ℕ} {q : List ℕ} → ToSink G (u ∷ q) → (u ≡ v → ⊥) → R.rank v ≤ R.rank u → along (without f v) (u ∷ q) ≡ along f (u ∷ q)
  unfolding along
  above {u = u} (end l s) x h = omega (arith, without_other f v u x)
  above {u = u} (link {v = w} e t) x h =
      let k : R.rank v < R.rank w = omega (arith, R.up u w e) in
      omega (arith, without_other f v u x, above t (other w (inr k)) (omega arith))

  pub below : {p : List ℕ} {u : ℕ} → FromSource G p u → (u ≡ v → ⊥) → R.rank u ≤ R.rank v → along (without f v) p ≡ along f p
  unfolding along
  below {u = u} (begin l s) x h = omega (arith, without_other f v u x)
  below {u = u} (onward {u = w} {p = p} c e) x h =
      let k : R.rank w < R.rank v = omega (arith, R.up w u e) in
      omega (arith, along-last f p u, along-last (without f v) p u, without_other f v u x, below c (other w (inl k)) (omega arith))

  -- a path that ends at v, and one that starts there, has its weight once
  pub until : {p : List ℕ} → FromSource G p v → along (without f v) p + f v ≡ along f p
  unfolding along
  until (begin l s) = omega (arith, without_at f v)
  until (onward {u = w} {p = p} c e) =
      let k : R.rank w < R.rank v = R.up w v e in
      omega (arith, along-last f p v, along-last (without f v) p v, without_at f v, below c (other w (inl k)) (omega arith))

  pub since : {q : List ℕ} → ToSink G (v ∷ q) → along (without f v) q + f v ≡ along f (v ∷ q)
  unfolding along
  since (end l s) = omega arith
  since (link {v = w} e t) = let k : R.rank v < R.rank w = R.up v w e in omega (arith, above t (other w (inr k)) (omega arith))
