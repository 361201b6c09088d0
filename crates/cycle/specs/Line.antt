-- For our own layers alone: no contract for callers and no claim cites this file.
--
-- The vertices in line: listed in the order in which they are taken up. Each vertex has a number, that of its predecessors who have not
-- told it that they are taken up. Who waits for nobody, its number being 0, is taken up. Those in the line tell their successors, from the
-- first on. Nothing is said of the order in which those are listed who come free at the same time.
--
--   free w v                     v waits for nobody
--   due n w v                    v is one of the n vertices, and waits for nobody
--   times o k v                  how often v stands in the first k places of o
--   untold o k v                 v does not stand there
--   everyone w k                 how many there are: k in the line, and all who wait
--   Unled w n o k                the first k places of o list who of the n vertices waits for nobody, each once
--   Told l a b w o k w' o' k'    along the edges from place a up to b the successors are told; who comes free by that is listed
--   Line l m n w o told k        the same along the first m edges of l, once the first `told` in the line have told their successors; each
--                                edge to one in the line comes from one before it
use Rattle.std.specs.Prelude.{◌≡◌, Bool, not, ◌&&◌, List, ℕ, ◌+◌, ◌-◌, ◌≤◌, ◌<◌, eqb, ltb, get_or, length}
use Rattle.model.specs.Places.{bit, count, any}
use Rattle.starts.specs.Starts.{comes_from, leads_to}
use Rattle.waiting.specs.Waiting.{entering, leading}

abbrev pub free : List ℕ → ℕ → Bool
free w v = eqb (get_or w v 0) 0

abbrev pub due : ℕ → List ℕ → ℕ → Bool
due n w v = ltb v n && free w v

unfoldable pub times : List ℕ → ℕ → ℕ → ℕ
times o k v = count (λ j. eqb v (get_or o j 0)) k

unfoldable pub untold : List ℕ → ℕ → ℕ → Bool
untold o k v = not (any (λ j. eqb v (get_or o j 0)) k)

abbrev pub everyone : List ℕ → ℕ → ℕ
everyone w k = k + count (λ v. not (free w v)) 128

pub record Unled (w : List ℕ) (n : ℕ) (o : List ℕ) (k : ℕ) : Type 0 where
  pub size : length o ≡ 128
  pub all : k ≡ count (free w) n
  pub once : (v : ℕ) → times o k v ≡ bit (due n w v)

pub record Told (l : List ℕ) (a b : ℕ) (w o : List ℕ) (k : ℕ) (w' o' : List ℕ) (k' : ℕ) : Type 0 where
  pub long : length w' ≡ 128
  pub less : (v : ℕ) → get_or w' v 0 ≡ get_or w v 0 - leading l a b v
  pub size : length o' ≡ 128
  pub more : k ≤ k'
  pub kept : (j : ℕ) → j < k → get_or o' j 0 ≡ get_or o j 0
  pub once : (v : ℕ) → times o' k' v ≡ times o k v + bit (not (free w v) && free w' v)
  pub rest : everyone w' k' ≡ everyone w k

pub record Line (l : List ℕ) (m n : ℕ) (w o : List ℕ) (told k : ℕ) : Type 0 where
  pub long : length w ≡ 128
  pub size : length o ≡ 128
  pub ahead : told ≤ k
  pub counts : (v : ℕ) → v < 128 → get_or w v 0 ≡ entering l (untold o told) m v
  pub once : (v : ℕ) → times o k v ≡ bit (due n w v)
  pub rest : everyone w k ≡ n
  pub earlier : (i j : ℕ) → i < m → j < k → get_or o j 0 ≡ leads_to l i → (d : ℕ) × (d < j) × (get_or o d 0 ≡ comes_from l i)
