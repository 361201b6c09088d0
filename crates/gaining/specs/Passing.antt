-- For our own layers alone: no contract for callers and no claim cites this file.
--
-- What passes the places of the order, as the code keeps it along the order o. A `Top` is the largest of some sums with the vertex that it is of.
--
--   at o l q              what the list l has for the vertex at place q
--   higher_of t x v        t, or x with v where that is larger
--   TopFrom o l n p t     t is the largest that l has for the vertices at the places from p on, below n, or 0
--   onward s b x          the sum b, and on from x: what s has for it
--   Led e st b u k t r    r is t, or b x with x where that is larger, for the vertices x that the first k edges of u go to
use Rattle.std.specs.Prelude.{◌≡◌, List, ◌⊎◌, ℕ, ◌+◌, ◌≤◌, ◌<◌, ltb, get_or}
use Rattle.model.specs.Places.{pick}
use Rattle.summary.specs.Row.{nth}
use Rattle.gaining.specs.declared.passing.Top.{Top}

abbrev pub at : List ℕ → List ℕ → ℕ → ℕ
at o l q = get_or l (get_or o q 0) 0

abbrev pub higher_of : Top → ℕ → ℕ → Top
higher_of t x v = pick (ltb t.most x) (record { most = x; vertex = v }) t

pub record TopFrom (o l : List ℕ) (n p : ℕ) (t : Top) : Type 0 where
  pub most : (q : ℕ) → p ≤ q → q < n → at o l q ≤ t.most
  pub is : (t.most ≡ 0) ⊎ ((q : ℕ) × (p ≤ q) × (q < n) × (t.vertex ≡ get_or o q 0) × (t.most ≡ at o l q))

abbrev pub onward : List ℕ → ℕ → ℕ → ℕ
onward s b x = b + get_or s x 0

pub record Led (e st : List ℕ) (b : ℕ → ℕ) (u k : ℕ) (t r : Top) : Type 0 where
  pub kept : t.most ≤ r.most
  pub most : (j : ℕ) → j < k → b (nth e st u j) ≤ r.most
  pub is : (r ≡ t) ⊎ ((j : ℕ) × (j < k) × (r.vertex ≡ nth e st u j) × (r.most ≡ b (nth e st u j)))
