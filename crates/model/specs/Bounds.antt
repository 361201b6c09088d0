-- The two bounds, in parts of a tick (document 003, theorem 2.1 and definition 3.1; document 01, "The two bounds").
--
--   PARTS           one tick is 720,720 parts, the least common multiple of 1 to 16
--   vol G s         the sum of the WCETs over the vertices of kind s
--   volume G        for each kind its vol × PARTS / cores, added up
--   used G s        at least one vertex has kind s, as a test; one with WCET 0 counts
--   most_cores_of G     the largest core number among the kinds that at least one vertex has (Mmax; document 02, order 2)
--   scaled G v      the scaled weight of v
--   OldB G B        B is OLD-B of G
--   NewB1 G B       B is NEW-B-1 of G
--   ThePath G p     the complete path with the largest scaled sum; of several, the least
use Rattle.std.specs.Prelude.{◌≡◌, Bool, List, ℕ, ◌+◌, ◌-◌, ◌*◌, ◌/◌, eqb}
use Rattle.model.specs.Places.{pick, any, sum, largest, along}
use Rattle.model.specs.Graph.{Graph}
use Rattle.model.specs.Path.{Greatest, LeastLongest}

abbrev pub PARTS : ℕ
PARTS = 720720

unfoldable pub vol : Graph → ℕ → ℕ
vol G s = sum (λ v. pick (eqb (G.kind v) s) (G.wcet v) 0) G.n

unfoldable pub volume : Graph → ℕ
volume G = sum (λ s. vol G s * PARTS / G.cores s) G.kinds

unfoldable pub used : Graph → ℕ → Bool
used G s = any (λ v. eqb (G.kind v) s) G.n

-- a kind that no vertex has counts as one without cores
unfoldable pub most_cores_of : Graph → ℕ
most_cores_of G = largest (λ s. pick (used G s) (G.cores s) 0) G.kinds

unfoldable pub scaled : Graph → ℕ → ℕ
scaled G v = G.wcet v * (PARTS - PARTS / G.cores (G.kind v))

-- (PARTS - PARTS / Mmax) × len, with len the largest sum of WCETs along a complete path; plus the volume
pub record OldB (G : Graph) (B : ℕ) : Type 0 where
  pub len : ℕ
  pub longest : Greatest G (along G.wcet) len
  pub is : B ≡ (PARTS - PARTS / most_cores_of G) * len + volume G

-- the largest sum of scaled weights along a complete path, plus the volume
pub record NewB1 (G : Graph) (B : ℕ) : Type 0 where
  pub len : ℕ
  pub longest : Greatest G (along (scaled G)) len
  pub is : B ≡ len + volume G

abbrev pub ThePath : Graph → List ℕ → Type 0
ThePath G p = LeastLongest G (scaled G) p
