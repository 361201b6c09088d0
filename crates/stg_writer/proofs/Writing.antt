-- The writer's answer, and what the room holds, from what was gathered.
use mathlib.Core.Path.{◌≡◌, refl, ap, ◌∙◌}
use mathlib.Core.Bool.{true, false}
use mathlib.Core.List.{List, ◌++◌}
use Prim.Native.Nat.{ℕ, ◌+◌, ◌≤◌, ◌<◌}
use native.Mathlib.Omega.{arith}
use lib.ListN.{length, drop}
use lib.Seq.{sets, sets-eq}
use lib.Dec.{ltb}
use borrow.Author.Tests.{lt-ltb, le-ltb, ltb-false}
use Rattle.model.proofs.Bools.{or_neither}
use Rattle.graph.specs.Model.{AcceptedGraph}
use Rattle.graph.specs.Answer as answers
use Rattle.graph.specs.declared.Graph.{Graph}
use Rattle.graph.specs.declared.Refusal.{Refusal}
use Rattle.reader.specs.Laid.{TakenInto}
use Rattle.reader.specs.declared.Laid.{Laid}
use Rattle.reader.proofs.Laying.{handed_over, handed_back}
use Rattle.vset.specs.declared.Vset.{Vset}
use Rattle.writer.specs.Write.{room_by}
use Rattle.writer.specs.Wrote.{Wrote}
use Rattle.writer.specs.Wrote.{Bytes, Refused}
use Rattle.stg_text.specs.Canonical.{text_of}
use Rattle.stg_text.specs.Answers.{write_of, write_stg_of, write_room}
use Rattle.stg_writer.specs.Before.{Gathered, ends_other, text_in}
use Rattle.stg_writer.proofs.Model.{ends_same, text_same}

module _ (h : Graph) (G : AcceptedGraph h) (s : Vset) (t : List (List ℕ)) (L : Gathered h.edge h.edges s t) (out : List ℕ) where
  pub ends-refused : ends_other h.n t s h.wcet ≡ true → Refused (record { number = 24; place = 0 }) ≡ write_of h (length out)
  unfolding write_of
  ends-refused e = rw (← ends_same h G s t L, e) refl

  module _ (e : ends_other h.n t s h.wcet ≡ false) where
    pub three : 3 ≤ h.n
    unfolding ends_other
    three = ltb-false h.n 3 (or_neither (ltb h.n 3) _ e).0

    long : length (text_in h.n t h.wcet) ≡ length (text_of h)
    long = ap (λ (x : List ℕ). length x) (text_same h G s t L (omega (arith, three)))

    pub room-refused : length out < length (text_in h.n t h.wcet) → Refused (record { number = 15; place = 0 }) ≡ write_of h (length out)
    unfolding write_of
    room-refused l = rw (← ends_same h G s t L, e, lt-ltb (length out) (length (text_of h)) (omega (arith, long))) refl

    pub all-written : length (text_in h.n t h.wcet) ≤ length out → Bytes (length (text_in h.n t h.wcet)) ≡ write_of h (length out)
    unfolding write_of
    all-written l = rw (← ends_same h G s t L, e, long, le-ltb (length out) (length (text_of h)) (omega (arith, long))) refl

    pub all_laid : length (text_in h.n t h.wcet) ≤ length out → sets out 0 (text_in h.n t h.wcet) ≡ text_of h ++ drop (length (text_in h.n t h.wcet)) out
    all_laid l =
        let z : 0 + length (text_in h.n t h.wcet) ≡ length (text_in h.n t h.wcet) = omega arith in
        (rw z at (sets-eq (text_in h.n t h.wcet) out 0 (omega arith)))
        ∙ ap (λ (x : List ℕ). x ++ drop (length (text_in h.n t h.wcet)) out) (text_same h G s t L (omega (arith, three)))

-- ---- by what the reader says

module _ {s : List ℕ} (out : List ℕ) {l : Laid} where
  pub of-accepted : {r : Wrote} {room : List ℕ} → TakenInto s answers.Accepted l → r ≡ write_of l.graph (length out) → room ≡ room_by r (text_of l.graph) out
      → (r ≡ write_stg_of s (length out)) × (room ≡ write_room s out)
  unfolding write_stg_of write_room
  of-accepted T p q =
      let g = handed_over s l T in
      (rw (← g) p, rw (← g) (q ∙ ap (λ (x : Wrote). room_by x (text_of l.graph) out) p))

  pub of-refused : {x : Refusal} → TakenInto s (answers.Refused x) l → (Refused x ≡ write_stg_of s (length out)) × (out ≡ write_room s out)
  unfolding write_stg_of write_room
  of-refused T = let g = handed_back s T in (rw (← g) refl, rw (← g) refl)
