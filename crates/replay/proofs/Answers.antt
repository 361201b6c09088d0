-- The answer for a graph, and for a file, from those of the parts.
use mathlib.Core.Path.{◌≡◌, refl, sym, ◌∙◌}
use mathlib.Core.List.{List}
use Prim.Native.Nat.{ℕ, ◌≤◌}
use native.Mathlib.Omega.{arith}
use lib.ListN.{get_or, length}
use Rattle.model.specs.Places.{table}
use Rattle.model.proofs.Turns.{table_ext}
use Rattle.graph.specs.Model.{as_model, AcceptedGraph}
use Rattle.graph.specs.declared.Graph.{Graph}
use Rattle.graph.specs.declared.Refusal.{Refusal}
use Rattle.graph.specs.Answer as answers
use Rattle.recorded.specs.Log.{InForm}
use Rattle.recorded.specs.Recorded.{last_instant, total, finish_in_of}
use Rattle.recorded.specs.Judge.{judge_log}
use Rattle.replay.specs.Answers.{replay_on_of, replay_of, times_beside, times_after_of}
use Rattle.reader.specs.Laid.{TakenInto}
use Rattle.reader.specs.declared.Laid.{Laid}
use Rattle.formed.specs.Passing.{TotalsOf}
use Rattle.replay.specs.Replayed.{Replayed}
use Rattle.replay.specs.Replayed.{Finish, Refused}
use Rattle.recorded.proofs.Finishing.{finish_in}
use Rattle.recorded.proofs.Judging as judging

-- a refusal of the log
pub on-refused : (g : Graph) (l : List ℕ) (room : ℕ) {r : Refusal} → judge_log (as_model g) l room ≡ answers.Refused r → replay_on_of g l room ≡ Refused r
unfolding replay_on_of
on-refused g l room q = rw q refl

module _ {g : Graph} (a : AcceptedGraph g) (l : List ℕ) (room : ℕ) (ok : judge_log (as_model g) l room ≡ answers.Accepted) where
  pub on_form : InForm g.n l
  unfolding as_model
  on_form = judging.in_form (as_model g) l room ok

  pub on_room : g.n ≤ room
  unfolding as_model
  on_room = judging.room-enough (as_model g) l room ok

  pub on-finish : (t : ℕ) → t ≡ last_instant l → replay_on_of g l room ≡ Finish (record { 0 = t })
  unfolding replay_on_of as_model
  on-finish t q =
      let f : finish_in_of (as_model g) l ≡ t = finish_in a.well_formed a.acyclic (omega (arith, a.few_vertices)) on_form ∙ sym q in
      rw (ok, f) refl

pub on-times : {n : ℕ} {l totals : List ℕ} → TotalsOf n l totals → table (λ v. get_or totals v 0) n ≡ table (total l) n
on-times {n} {l} {totals} t = table_ext (λ v. get_or totals v 0) (total l) n t.at

-- ---- the entry

module _ {s : List ℕ} (l old : List ℕ) {e : Laid} where
  pub replay-accepted : {new : List ℕ} {r : Replayed} → TakenInto s answers.Accepted e → r ≡ replay_on_of e.graph l (length old) → new ≡ times_beside r e.graph l old
      → (r ≡ replay_of s l (length old)) × (new ≡ times_after_of s l old)
  unfolding replay_of times_after_of
  replay-accepted T a b =
      let ok = sym T.answer in
      let g = (T.laid ok).graph in
      let q : replay_of s l (length old) ≡ _ = rw (ok, ← g) (sym a) in
      (sym q, rw (q, ← g) b)

  pub replay-refused : {x : Refusal} → TakenInto s (answers.Refused x) e → (◌≡◌ {A = Replayed} (Refused x) (replay_of s l (length old))) × (old ≡ times_after_of s l old)
  unfolding replay_of times_after_of
  replay-refused {x} T =
      let q : replay_of s l (length old) ≡ Refused x = rw (sym T.answer) refl in
      (sym q, rw q refl)
