-- One answer at most: the contract determines whether the run ends by tick d, and the ticks played.
use Rattle.std.specs.Prelude.{Result, Ok, Err}
use mathlib.Core.Path.{◌≡◌, sym, ap, ◌∙◌}
use mathlib.Core.List.{List}
use Prim.Native.Nat.{ℕ, ◌/◌, min}
use lib.Dec.{leb}
use Rattle.model.specs.Places.{pick}
use Rattle.model.specs.Bounds.{PARTS}
use Rattle.model.proofs.Longest.{new_b_1_unique}
use Rattle.graph.specs.Model.{as_model}
use Rattle.graph.specs.Judge.{read_of}
use Rattle.graph.specs.Answer.{Answer}
use Rattle.graph.specs.Answer.{Accepted, Refused}
use Rattle.leaps.specs.Finishes.{finish_of}
use Rattle.times.specs.Times.{times_of}
use Rattle.late.specs.Answers.{Beside, judged_of, LateOf}
use Rattle.graph.specs.declared.Refusal.{Refusal}
use Rattle.late.specs.Lateness.{Lateness, lateness}
use Rattle.late.specs.declared.Ending.{Ending}

pub late_unique : (s e : List ℕ) (d : ℕ) (r r' : Lateness) → LateOf s e d r → LateOf s e d r' → r ≡ r'
late_unique s e d r r' p q = go (judged_of s e) p.said q.said
  where
    -- the answer, the word and the ticks are all that there is
    same : r.yes ≡ r'.yes → r.played.0 ≡ r'.played.0 → r ≡ r'
    same y t = let a = p.answer ∙ sym q.answer in λ i. record { answer = a i; yes = y i; played = record { 0 = t i } }

    go : (a : Answer) → Beside a (as_model (read_of s).graph) (times_of e) d r → Beside a (as_model (read_of s).graph) (times_of e) d r' → r ≡ r'
    go (Ok _) x y =
        let n = new_b_1_unique x.new y.new x.is_new y.is_new in
        same (x.yes ∙ sym y.yes) (x.played ∙ ap (λ (b : ℕ). pick (leb (b / PARTS) d) 0 (min d (finish_of (as_model (read_of s).graph) (times_of e)))) n ∙ sym y.played)
    go (Err z) x y = same (x.yes ∙ sym y.yes) (x.played ∙ sym y.played)

-- what `late` gives is told by its answer and what stands beside it
pub lateness-one : (x y : Result Ending Refusal) → lateness x ≡ lateness y → x ≡ y
lateness-one (Ok t) (Ok u) e = ap (λ (x : Lateness). Ok (record { yes = x.yes; played = x.played })) e
lateness-one (Ok t) (Err r) e = let z : Accepted ≡ Refused r = ap (λ (x : Lateness). x.answer) e in cc
lateness-one (Err r) (Ok t) e = let z : Refused r ≡ Accepted = ap (λ (x : Lateness). x.answer) e in cc
lateness-one (Err r) (Err q) e = let z : Refused r ≡ Refused q = ap (λ (x : Lateness). x.answer) e in cc
