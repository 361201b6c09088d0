-- From NEW-B-1, or from a run that was played up to tick d, to what is told; and from what the reader took of a file to the entry's answer.
use Rattle.std.specs.Prelude.{Ok, Err}
use mathlib.Core.Path.{◌≡◌, refl, sym, ap, ◌∙◌, subst}
use mathlib.Core.Bool.{true}
use mathlib.Core.List.{List}
use Prim.Native.Nat.{ℕ, ◌/◌, ◌≤◌, ◌<◌, min}
use native.Mathlib.Omega.{arith}
use lib.Dec.{eqb, leb}
use borrow.Author.Tests.{le-leb, lt-leb}
use Rattle.model.specs.Places.{sum}
use Rattle.model.specs.Graph as model
use Rattle.model.specs.Bounds.{PARTS, volume, NewB1}
use Rattle.model.specs.ListSchedule.{begin}
use Rattle.graph.specs.Model.{as_model, AcceptedGraph}
use Rattle.graph.specs.declared.Graph.{Graph}
use Rattle.graph.specs.declared.Refusal.{Refusal}
use Rattle.graph.specs.Answer.{Answer}
use Rattle.graph.specs.Answer.{Accepted, Refused}
use Rattle.reader.specs.Laid.{TakenInto}
use Rattle.reader.specs.declared.Laid.{Laid}
use Rattle.tick.specs.declared.Run.{Run}
use Rattle.tick.specs.Run.{left_of, record_for}
use Rattle.bounds.proofs.Computed.{new_found, new_b_1_computed}
use Rattle.leaps.specs.Finishes.{finish_of}
use Rattle.leaps.specs.Leaps.{Fresh, until_of}
use Rattle.leaps.proofs.Finishes.{finish-below-new}
use Rattle.leaps.proofs.Instants.{left-start, fresh_start, nobody_left}
use Rattle.times.specs.Times.{times_of, judge_times, Fitting}
use Rattle.times.proofs.Fits.{none_past}
use Rattle.late.specs.Answers.{Told, judged_of, LateOf}
use Rattle.late.specs.Lateness.{Lateness, lateness}
use Rattle.late.specs.declared.Ending.{Ending}

module _ (g : Graph) (A : AcceptedGraph g) (l : List ℕ) (fit : Fitting g l) (d : ℕ) where
  abbrev G : model.Graph
  G = as_model g

  abbrev finish : ℕ
  finish = finish_of G (times_of l)

  -- ---- by the bound

  module _ (B : ℕ) (new : NewB1 G B) (r : Lateness) where
    -- THEOREM. Where NEW-B-1's whole ticks are at most d, so is the finish: this is demand 3.
    pub told-at-once : B / PARTS ≤ d → r.yes ≡ true → r.played.0 ≡ 0 → Told G (times_of l) d r
    unfolding as_model
    told-at-once h y p = record {
      yes = y ∙ sym (le-leb finish d (omega (arith, finish-below-new A.well_formed A.acyclic (times_of l) fit.short B new)));
      new = B;
      is_new = new;
      played = rw (le-leb (B / PARTS) d h) p;
    }

    pub told_by_run : d < B / PARTS → r.yes ≡ leb finish d → r.played.0 ≡ min d finish → Told G (times_of l) d r
    told_by_run h y p = record { yes = y; new = B; is_new = new; played = rw (lt-leb (B / PARTS) d h) p }

  -- where the volume alone is above d NEW-B-1 is so as well, since a path's sum comes on top of it
  pub above : d < volume G / PARTS → (B : ℕ) × NewB1 G B × (d < B / PARTS)
  unfolding as_model
  above h = let b = new_b_1_computed A.well_formed A.acyclic in (new_found G, b, omega (arith, b.is))

  -- ---- by the run

  module _ (begun : Run) (is-begun : begun ≡ record_for G 0 (begin (times_of l))) where
    pub fresh : Fresh g begun
    fresh = subst (Fresh g) (sym is-begun) (fresh_start g A (times_of l) (none_past g l fit) fit.short)

    module _ (end : Run) (is-end : end ≡ until_of g (left_of begun) d) where
      ends : end ≡ until_of g (times_of l) d
      ends = is-end ∙ ap (λ (e : ℕ → ℕ). until_of g e d) (ap left_of is-begun ∙ left-start g A (times_of l) (none_past g l fit))

      pub ticks-played : end.instant ≡ min d finish
      unfolding until_of record_for
      ticks-played = ap (λ (x : Run). x.instant) ends

      pub has_ended : eqb (sum (left_of end) g.n) 0 ≡ leb finish d
      has_ended = ap (λ (x : Run). eqb (sum (left_of x) g.n) 0) ends ∙ nobody_left g A (times_of l) (none_past g l fit) d

-- ---- the entry

module _ {s : List ℕ} {o : Laid} (l : List ℕ) (d : ℕ) where
  pub late-unread : {x : Refusal} → TakenInto s (Refused x) o → LateOf s l d (lateness (Err x))
  unfolding judged_of
  late-unread T = let a = sym T.answer in record { answer = rw a refl; said = rw a (record { yes = refl; played = refl }) }

  judged : TakenInto s Accepted o → {a : Answer} → judge_times o.graph l ≡ a → judged_of s l ≡ a
  unfolding judged_of
  judged T j = let a = sym T.answer in rw (a, ← (T.laid a).graph) j

  pub late_untimed : {x : Refusal} → TakenInto s Accepted o → judge_times o.graph l ≡ Refused x → LateOf s l d (lateness (Err x))
  late_untimed T j = let a = judged T j in record { answer = sym a; said = rw a (record { yes = refl; played = refl }) }

  pub late-told : {t : Ending} → TakenInto s Accepted o → judge_times o.graph l ≡ Accepted → Told (as_model o.graph) (times_of l) d (lateness (Ok t)) → LateOf s l d (lateness (Ok t))
  late-told T j t = let a = judged T j in record { answer = sym a; said = rw a (rw (T.laid (sym T.answer)).graph at t) }
