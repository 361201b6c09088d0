-- The rows from 19 on, by what the passes find.
use mathlib.Core.Path.{◌≡◌, refl, sym, ap, ◌∙◌}
use mathlib.Core.List.{List}
use Prim.Native.Nat.{ℕ, suc, ◌≤◌, ◌<◌}
use native.Mathlib.Omega.{arith}
use lib.ListN.{get_or}
use Rattle.std.specs.Prelude.{Some, None}
use Rattle.frames.specs.Frames.{FirstIn}
use lib.Dec.{ltb, lit<}
use borrow.Author.Tests.{lt-ltb, le-ltb}
use Rattle.model.specs.Places.{first}
use Rattle.model.proofs.Places.{first_ext}
use Rattle.graph.specs.File.{records}
use Rattle.graph.specs.Model.{as_model}
use Rattle.graph.specs.declared.Graph.{Graph}
use Rattle.graph.specs.Answer.{Accepted, Refused}
use Rattle.recorded.specs.Recorded.{last_instant, total}
use Rattle.recorded.specs.Rules.{rule19, rule20, rule21, rule22, holds, number, places}
use Rattle.recorded.specs.Judge.{place_of, judge_log}
use Rattle.replay.specs.Steps.{above}
use Rattle.formed.specs.Passing.{TotalsOf}
use Rattle.recorded.specs.Log.{InForm}
use Rattle.recorded.proofs.Judging.{Off, row_off, off_more, off_form, judge-row, judge-none}

module _ (g : Graph) (l : List ℕ) (room : ℕ) where
  place_21 : (totals : List ℕ) → TotalsOf g.n l totals → place_of (as_model g) l room 5 ≡ first (above g.wcet totals) g.n
  unfolding place_of holds places rule21 above as_model
  place_21 totals t = first_ext (λ v. ltb (get_or g.wcet v 0) (total l v)) (above g.wcet totals) g.n (λ v b. ap (ltb (get_or g.wcet v 0)) (sym (t.at v b)))

  -- a row holds nowhere, or it is given with its first place
  next : (row : ℕ) → Off (as_model g) l room row → place_of (as_model g) l room row ≡ places (as_model g) l row → Off (as_model g) l room (suc row)
  next row o e = off_more (as_model g) l room row o (row_off (as_model g) l room row (omega (arith, e)))

  given : (row r : ℕ) → row < 8 → Off (as_model g) l room row → (place_of (as_model g) l room row ≡ r) × (r < places (as_model g) l row)
      → judge_log (as_model g) l room ≡ Refused (record { number = number row; place = r })
  given row r b o f = judge-row (as_model g) l room row b o (omega (arith, f.0, f.1)) ∙ rw f.0 refl

  module _ (f : InForm g.n l) where
    pub next_19 : FirstIn (rule19 (as_model g) l) (records l) None → Off (as_model g) l room 4
    unfolding place_of holds places as_model
    next_19 x = next 3 (off_form (as_model g) l room f) x

    pub given_19 : (r : ℕ) → FirstIn (rule19 (as_model g) l) (records l) (Some r) → judge_log (as_model g) l room ≡ Refused (record { number = 19; place = r })
    unfolding place_of holds places number as_model
    given_19 r x = given 3 r (lit< tt) (off_form (as_model g) l room f) x

  module _ (o : Off (as_model g) l room 4) where
    pub next_20 : FirstIn (rule20 (as_model g) l) (records l) None → Off (as_model g) l room 5
    unfolding place_of holds places
    next_20 x = next 4 o x

    pub given_20 : (r : ℕ) → FirstIn (rule20 (as_model g) l) (records l) (Some r) → judge_log (as_model g) l room ≡ Refused (record { number = 20; place = r })
    unfolding place_of holds places number
    given_20 r x = given 4 r (lit< tt) o x

  module _ (totals : List ℕ) (t : TotalsOf g.n l totals) (o : Off (as_model g) l room 5) where
    pub next_21 : FirstIn (above g.wcet totals) g.n None → Off (as_model g) l room 6
    unfolding places as_model
    next_21 x = next 5 o (place_21 totals t ∙ x)

    pub given_21 : (r : ℕ) → FirstIn (above g.wcet totals) g.n (Some r) → judge_log (as_model g) l room ≡ Refused (record { number = 21; place = r })
    unfolding places number as_model
    given_21 r x = given 5 r (lit< tt) o (place_21 totals t ∙ x.0, x.1)

  module _ (o : Off (as_model g) l room 6) where
    pub next_22 : FirstIn (rule22 (as_model g) l) (last_instant l) None → Off (as_model g) l room 7
    unfolding place_of holds places
    next_22 x = next 6 o x

    pub given_22 : (r : ℕ) → FirstIn (rule22 (as_model g) l) (last_instant l) (Some r) → judge_log (as_model g) l room ≡ Refused (record { number = 22; place = r })
    unfolding place_of holds places number
    given_22 r x = given 6 r (lit< tt) o x

  module _ (o : Off (as_model g) l room 7) where
    pub given_15 : room < g.n → judge_log (as_model g) l room ≡ Refused (record { number = 15; place = 0 })
    unfolding places number place_of holds first as_model
    given_15 h =
        let z : place_of (as_model g) l room 7 ≡ 0 = rw (lt-ltb room g.n h) refl in
        given 7 0 (lit< tt) o (z, lit< tt)

    pub all_passed : g.n ≤ room → judge_log (as_model g) l room ≡ Accepted
    unfolding places place_of holds first as_model
    all_passed h =
        let z : place_of (as_model g) l room 7 ≡ 1 = rw (le-ltb room g.n h) refl in
        judge-none (as_model g) l room (next 7 o z)
