-- The run record and the state that it stands for: a record moved on is the record of the state moved on.
use mathlib.Core.Path.{◌≡◌, refl, sym, ap, ap₂, ◌∙◌, fun_ext}
use mathlib.Core.Logic.{⊎_elim}
use mathlib.Core.List.{List}
use mathlib.Core.Bool.{Bool, true, false, not, ◌&&◌}
use Prim.Native.Nat.{ℕ, zero, suc, ◌-◌, ◌^◌, ◌≤◌, ◌<◌}
use native.Mathlib.Omega.{arith}
use lib.Dec.{eqb, ltb}
use lib.ListN.{get_or, length, get_or-eq_default}
use borrow.Author.Tests.{lt-ltb, ne_eqb}
use Rattle.model.specs.Places.{pick, table, padded}
use Rattle.model.specs.Graph as model
use Rattle.model.specs.ListSchedule.{State}
use Rattle.model.proofs.Bools.{le-or-lt}
use Rattle.model.proofs.Tables.{table-length, table_at, padded-at, padded-past}
use Rattle.graph.specs.declared.Graph.{Graph}
use Rattle.graph.specs.Model.{as_model, AcceptedGraph}
use Rattle.vset.specs.Members.{is_in}
use Rattle.vset.proofs.Same.{set-of, set_in}
use Rattle.tick.specs.declared.Run.{Run}
use Rattle.tick.specs.Run.{left_of, waiting_of, state_of, awaited, record_for}
use Rattle.tick.specs.Suits.{NumbersRight}
use Rattle.remains.specs.Remains.{lowered}
use Rattle.model.proofs.Turns.{as_padded}

-- of those that ran, who has not run out of ticks has some left
pub still_left : (b : Bool) (x : ℕ) → b && not (b && eqb x 0) ≡ b && ltb 0 x
still_left false x = refl
still_left true zero = refl
still_left true (suc x) = ap not (ne_eqb (suc x) 0 (λ e. omega arith)) ∙ sym (lt-ltb 0 (suc x) (omega arith))

-- what stands in the table after d ticks
pub lowered-at : (l : List ℕ) (on : ℕ → Bool) (d : ℕ) (next : List ℕ) → ((v : ℕ) → 128 ≤ v → get_or l v 0 ≡ 0) → next ≡ table (lowered l on d) 128 → (v : ℕ) → get_or next v 0 ≡ get_or l v 0 - pick (on v) d 0
unfolding lowered
lowered-at l on d next past e v =
    ap (λ (l : List ℕ). get_or l v 0) e
    ∙ ⊎_elim
    (λ (h : 128 ≤ v).
    let z : get_or l v 0 - pick (on v) d 0 ≡ 0 = omega (arith, past v h) in
    get_or-eq_default (table (lowered l on d) 128) 0 (omega (arith, table-length (lowered l on d) 128)) ∙ sym z)
    (λ (h : v < 128). table_at (lowered l on d) 128 v h)
    (le-or-lt 128 v)

-- the state of the record of a state, where places from N on are zero and unmarked
pub state-record : (G : model.Graph) (t : ℕ) (s : State) → G.n ≤ 128 → ((v : ℕ) → G.n ≤ v → s.rest v ≡ 0) → ((v : ℕ) → G.n ≤ v → s.ran v ≡ false)
    → state_of (record_for G t s) ≡ s
unfolding state_of record_for left_of
state-record G t s l nought none =
    ap₂ {C = State} (λ (x : ℕ → ℕ) (y : ℕ → Bool). record { rest = x; ran = y })
    (fun_ext (λ v. ⊎_elim (λ (h : G.n ≤ v). padded-past 128 s.rest G.n v h ∙ sym (nought v h)) (λ (h : v < G.n). padded-at 128 s.rest G.n v h) (le-or-lt G.n v)))
    (fun_ext (λ v. set_in s.ran (λ k h. none k (omega arith)) v))

module _ (g : Graph) (A : AcceptedGraph g) (r : Run) where
  -- the stored numbers as one list
  pub numbers-listed : length r.waiting ≡ 128 → NumbersRight g r → r.waiting ≡ padded 128 (awaited (as_model g) (left_of r)) g.n
  unfolding waiting_of
  numbers-listed long N = as_padded (awaited (as_model g) (left_of r)) 128 g.n r.waiting A.few_vertices long N.counted N.none_past

  pub listed-numbers : r.waiting ≡ padded 128 (awaited (as_model g) (left_of r)) g.n → NumbersRight g r
  unfolding waiting_of
  listed-numbers e = record {
    counted = λ v h. ap (λ (l : List ℕ). get_or l v 0) e ∙ padded-at 128 (awaited (as_model g) (left_of r)) g.n v h;
    none_past = λ v h k. ap (λ (l : List ℕ). get_or l v 0) e ∙ padded-past 128 (awaited (as_model g) (left_of r)) g.n v h;
  }

  -- the record of the state of a record, where its places from N on are zero, its marks are words and its numbers are right
  pub record-state : r.n ≡ g.n → length r.left ≡ 128 → ((v : ℕ) → g.n ≤ v → left_of r v ≡ 0) → r.ran.lo < 2 ^ 64 → r.ran.hi < 2 ^ 64
      → r.waiting ≡ padded 128 (awaited (as_model g) (left_of r)) g.n → r ≡ record_for (as_model g) r.instant (state_of r)
  unfolding state_of record_for left_of as_model
  record-state agrees long past low high numbers =
      let left = as_padded (left_of r) 128 g.n r.left A.few_vertices long (λ v h. refl) (λ v h k. past v h) in
      let ran = set-of r.ran (is_in r.ran) (record { low = low; high = high; are = λ k. refl }) in
      λ i. record { n = agrees i; instant = r.instant; left = left i; ran = ran i; waiting = numbers i }

-- THEOREM. The record of a state has the right numbers, where it stands for that state.
pub record-numbers : (g : Graph) → AcceptedGraph g → (t : ℕ) (s : State) → state_of (record_for (as_model g) t s) ≡ s → NumbersRight g (record_for (as_model g) t s)
unfolding record_for state_of as_model
record-numbers g A t s e = listed-numbers g A (record_for (as_model g) t s) (ap (λ (x : State). padded 128 (awaited (as_model g) x.rest) g.n) (sym e))
