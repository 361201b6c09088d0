-- Two files to which each number, up to one that applies, comes alike are judged alike from 4 on.
use mathlib.Core.Path.{◌≡◌, refl, sym, ◌∙◌}
use mathlib.Core.Bool.{Bool, true, false}
use mathlib.Core.List.{List}
use mathlib.Core.Logic.{◌⊎◌, inl, inr}
use Prim.Native.Nat.{ℕ, ◌≤◌, ◌<◌}
use native.Mathlib.Omega.{arith}
use lib.Dec.{ltb}
use borrow.Author.Tests.{lt-ltb, le-ltb, ltb-true}
use Rattle.model.specs.Places.{first}
use Rattle.model.proofs.Bools.{clash, le-or-lt}
use Rattle.model.proofs.Places.{first-at, first-none, first-here, first_below}
use Rattle.graph.specs.File.{records}
use Rattle.graph.specs.Rules.{holds, places, per_record_of}
use Rattle.graph.specs.Judge.{place_of, applies, lowest, judge_from}
use Rattle.graph.proofs.Judging.{not-applies, lowest-at, below-lowest, lowest-applies, lowest-from}

-- ---- two scans

-- two tests that agree below c, and fail from there on
module _ (p q : ℕ → Bool) (c n m : ℕ) (cn : c ≤ n) (cm : c ≤ m) (agree : (k : ℕ) → k < c → p k ≡ q k)
    (pf : (k : ℕ) → c ≤ k → k < n → p k ≡ false) (qf : (k : ℕ) → c ≤ k → k < m → q k ≡ false) where
  scans : (ltb (first p n) n ≡ ltb (first q m) m) × (ltb (first p n) n ≡ true → first p n ≡ first q m)
  scans = go (le-or-lt c (first p c))
    where
      all : (r : ℕ → Bool) (o : ℕ) → ((k : ℕ) → c ≤ k → k < o → r k ≡ false) → ((k : ℕ) → k < c → r k ≡ false) → (k : ℕ) → k < o → (c ≤ k) ⊎ (k < c) → r k ≡ false
      all r o f g k l (inl h) = f k h l
      all r o f g k l (inr h) = g k h

      go : (c ≤ first p c) ⊎ (first p c < c) → (ltb (first p n) n ≡ ltb (first q m) m) × (ltb (first p n) n ≡ true → first p n ≡ first q m)
      go (inl h) =
          let below : (k : ℕ) → k < c → p k ≡ false = λ k l. first_below p c k (omega arith) in
          let x : first p n ≡ n = first-none p n (λ k l. all p n pf below k l (le-or-lt c k)) in
          let y : first q m ≡ m = first-none q m (λ k l. all q m qf (λ j z. sym (agree j z) ∙ below j z) k l (le-or-lt c k)) in
          (rw (x, y, le-ltb n n (omega arith), le-ltb m m (omega arith)) refl, λ t. absurd (omega (arith, ltb-true (first p n) n t)))
      go (inr l) =
          let at : ℕ = first p c in
          let here : p at ≡ true = first-here p c l in
          let below : (k : ℕ) → k < at → p k ≡ false = λ k b. first_below p c k b in
          let x : first p n ≡ at = first-at p n at (omega arith) below here in
          let y : first q m ≡ at = first-at q m at (omega arith) (λ k b. sym (agree k (omega arith)) ∙ below k b) (sym (agree at l) ∙ here) in
          (rw (x, y, lt-ltb at n (omega arith), lt-ltb at m (omega arith)) refl, λ t. x ∙ sym y)

-- ---- two files

-- the number comes to the same in both
pub record Alike (s t : List ℕ) (num : ℕ) : Type 0 where
  pub tests : applies s num ≡ applies t num
  pub place : applies s num ≡ true → place_of s num ≡ place_of t num

-- a number that is told of the whole file
pub alike_whole : (s t : List ℕ) (num : ℕ) → per_record_of num ≡ false → holds s num 0 ≡ holds t num 0 → Alike s t num
unfolding applies place_of places first
alike_whole s t num w h = record { tests = rw (w, h) refl; place = λ z. rw (w, h) refl }

-- a number that is told of records, where only the first c count
module _ (s t : List ℕ) (num : ℕ) (w : per_record_of num ≡ true) (c : ℕ) (cs : c ≤ records s) (ct : c ≤ records t)
    (agree : (k : ℕ) → k < c → holds s num k ≡ holds t num k)
    (sf : (k : ℕ) → c ≤ k → k < records s → holds s num k ≡ false) (tf : (k : ℕ) → c ≤ k → k < records t → holds t num k ≡ false) where
  pub alike_records : Alike s t num
  unfolding applies place_of places
  alike_records =
      let r = scans (holds s num) (holds t num) c (records s) (records t) cs ct agree sf tf in
      record { tests = rw w r.0; place = rw w r.1 }

-- the numbers from 4 to n go alike, and n holds for place 0
module _ (s t : List ℕ) (n : ℕ) (n4 : 4 ≤ n) (n12 : n < 12) (alike : (j : ℕ) → 4 ≤ j → j ≤ n → Alike s t j)
    (some : 0 < places s n) (here : holds s n 0 ≡ true) where
  -- none below the lowest number of s applies to t
  lowest-alike : lowest 4 s ≤ n → lowest 4 t ≡ lowest 4 s
  lowest-alike l =
      lowest-at t 4 (lowest 4 s) (lowest-from s 4) (λ j b f. sym (alike j f (omega arith)).tests ∙ below-lowest s 4 j f (omega arith) b) (omega arith)
      (sym (alike (lowest 4 s) (lowest-from s 4) l).tests ∙ lowest-applies s 4 (omega arith))

  pub judged_alike : judge_from 4 s ≡ judge_from 4 t
  unfolding judge_from
  judged_alike = go (le-or-lt (lowest 4 s) n)
    where
      go : (lowest 4 s ≤ n) ⊎ (n < lowest 4 s) → judge_from 4 s ≡ judge_from 4 t
      go (inl l) = rw (lowest-alike l, (alike (lowest 4 s) (lowest-from s 4) l).place (lowest-applies s 4 (omega arith))) refl
      go (inr l) = absurd (clash here (not-applies s n (below-lowest s 4 n n4 n12 l) 0 some))
