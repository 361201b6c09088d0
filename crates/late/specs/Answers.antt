-- Late or not, for a file s, times e and tick d (order 5: "with these execution times, does the list schedule end by tick d? Answer yes or no,
-- equal to comparing the full run's finish with d, and give the ticks played: 0 when NEW-B-1's whole ticks are at most d, otherwise the
-- smaller of d and the finish."). The finish is that of `leaps`, specs/Finishes; the times are judged as `times` says, specs/Times.
--
--   Told G e d r        r says whether the list schedule of G with the times e ends by tick d, and how many ticks were played
--   Nothing r           no, and 0: what stands beside a refusal
--   Beside a G e d r    what stands beside the answer a: what is told, or nothing
--   judged_of s e        "Refusals: those of a run, without 15": the reader's, then 13 and 14
--   LateOf s e d r      the answer of `late`
use Rattle.std.specs.Prelude.{Ok, Err}
use Rattle.std.specs.Prelude.{◌≡◌, false, List, ℕ, ◌/◌, min, leb}
use Rattle.model.specs.Places.{pick}
use Rattle.model.specs.Graph.{Graph}
use Rattle.model.specs.Bounds.{PARTS, NewB1}
use Rattle.graph.specs.Model.{as_model}
use Rattle.graph.specs.Judge.{read_of}
use Rattle.graph.specs.declared.Graph as reader
use Rattle.graph.specs.Answer.{Answer}
use Rattle.graph.specs.Answer.{Refused}
use Rattle.leaps.specs.Finishes.{finish_of}
use Rattle.times.specs.Times.{times_of, judge_times}
use Rattle.late.specs.Lateness.{Lateness}

pub record Told (G : Graph) (e : ℕ → ℕ) (d : ℕ) (r : Lateness) : Type 0 where
  -- yes exactly where the finish is at most d
  pub yes : r.yes ≡ leb (finish_of G e) d
  pub new : ℕ
  pub is_new : NewB1 G new
  -- 0 when NEW-B-1's whole ticks are at most d, otherwise the smaller of d and the finish
  pub played : r.played.0 ≡ pick (leb (new / PARTS) d) 0 (min d (finish_of G e))

pub record Nothing (r : Lateness) : Type 0 where
  pub yes : r.yes ≡ false
  pub played : r.played.0 ≡ 0

abbrev pub Beside : Answer → Graph → (ℕ → ℕ) → ℕ → Lateness → Type 0
Beside (Ok _) G e d r = Told G e d r
Beside (Err x) G e d r = Nothing r

abbrev pub judged_after : Answer → reader.Graph → List ℕ → Answer
judged_after (Ok _) g e = judge_times g e
judged_after (Err x) g e = Refused x

unfoldable pub judged_of : List ℕ → List ℕ → Answer
judged_of s e = judged_after (read_of s).answer (read_of s).graph e

pub record LateOf (s e : List ℕ) (d : ℕ) (r : Lateness) : Type 0 where
  pub answer : r.answer ≡ judged_of s e
  pub said : Beside (judged_of s e) (as_model (read_of s).graph) (times_of e) d r
