-- Parts of a tick: 720,720 is divided by 1 to 16 without remainder, so every division of the bounds is exact.
use mathlib.Core.Path.{◌≡◌, refl, ap, sym, ◌∙◌}
use Prim.Native.Nat.{ℕ, zero, suc, ◌+◌, ◌-◌, ◌*◌, ◌/◌, ◌≤◌, ◌<◌}
use native.Mathlib.Nat.{mul-div_cancel, le-div_iff_mul-le, div-mul-le_self, mul-le-mul_left, div-le_self}
use native.Mathlib.Omega.{arith}
use lib.Dec.{eqb}
use borrow.Author.Tests.{eqb-true}
use Rattle.model.specs.Places.{sum, every}
use Rattle.model.specs.Graph.{Graph, WellFormed}
use Rattle.model.specs.Bounds.{PARTS, vol, volume}
use Rattle.model.proofs.Places.{every-at}
use Rattle.model.proofs.Sums.{sum_ext, by_kind, of_kind_of}

-- THEOREM. Each of 1 to 16 divides 720,720, by computing all sixteen.
pub divides : (m : ℕ) → 0 < m → m ≤ 16 → m * (PARTS / m) ≡ PARTS
unfolding every
divides zero l h = absurd (omega arith)
divides (suc m) l h =
    eqb-true (suc m * (PARTS / suc m)) PARTS (every-at (λ k. eqb (suc k * (PARTS / suc k)) PARTS) 16 refl m (omega arith))

pub share_exact : {G : Graph} → WellFormed G → (s : ℕ) → s < G.kinds → G.cores s * (PARTS / G.cores s) ≡ PARTS
share_exact {G} W s l = divides (G.cores s) (W.some_core s l) (W.few_cores s l)

-- more cores, a smaller share
pub share_falls : (L a b : ℕ) → 0 < a → a ≤ b → L / b ≤ L / a
share_falls L a b h l = (le-div_iff_mul-le h).1 (omega (arith, div-mul-le_self L b, mul-le-mul_left (L / b) l))

-- x parts in m shares
pub exact : (x m : ℕ) → 0 < m → m * (PARTS / m) ≡ PARTS → x * PARTS / m ≡ x * (PARTS / m)
exact x m h e = ap (λ (y : ℕ). x * y / m) (sym e) ∙ (ap (λ (y : ℕ). y / m) (omega arith) ∙ mul-div_cancel (x * (PARTS / m)) h)

-- the share of a tick that one core of v's kind is, and the rest of the tick
unfoldable pub share : Graph → ℕ → ℕ
share G v = PARTS / G.cores (G.kind v)

unfoldable pub toll : Graph → ℕ → ℕ
toll G v = PARTS - PARTS / G.cores (G.kind v)

pub share_toll : (G : Graph) (v : ℕ) → share G v + toll G v ≡ PARTS
unfolding share toll
share_toll G v = omega (arith, div-le_self PARTS (G.cores (G.kind v)))

pub share-of : (G : Graph) (v s : ℕ) → G.kind v ≡ s → share G v ≡ PARTS / G.cores s
unfolding share
share-of G v s e = rw e

-- the volume as a sum over the vertices
pub volume_by_vertex : {G : Graph} → WellFormed G → volume G ≡ sum (λ v. G.wcet v * (PARTS / G.cores (G.kind v))) G.n
unfolding volume vol
volume_by_vertex {G} W =
    sum_ext _ (λ s. of_kind_of G.kind G.wcet G.n s * (PARTS / G.cores s)) G.kinds
    (λ s l. exact (vol G s) (G.cores s) (W.some_core s l) (share_exact W s l))
    ∙ by_kind G.kind G.wcet (λ s. PARTS / G.cores s) G.n G.kinds W.kind_known
