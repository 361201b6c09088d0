-- How much room the log of a run takes, from the file's bytes.
use mathlib.Core.Path.{◌≡◌}
use mathlib.Core.List.{List}
use Prim.Native.Nat.{ℕ, ◌≤◌, ◌<◌}
use lib.ListN.{length, get_or}
use Rattle.graph.specs.Model.{as_model, AcceptedGraph}
use Rattle.graph.specs.Judge.{read_of}
use Rattle.graph.specs.Answer.{Accepted}
use Rattle.graph.proofs.Accepted.{taken}
use Rattle.times.specs.Times.{times_of, judge_times, Fitting}
use Rattle.times.proofs.Fits.{times_fit, none_past}
use Rattle.recorded.proofs.ListLog.{list-log-short}
use Rattle.logs.specs.Answers.{log_for}

-- THEOREM. 2,048 bytes are always room enough.
pub log-short : (s : List ℕ) → ((i : ℕ) → get_or s i 0 < 256) → (read_of s).answer ≡ Accepted → (e : List ℕ) → judge_times (read_of s).graph e ≡ Accepted
    → length (log_for (read_of s).graph e) ≤ 2048
unfolding log_for as_model
log-short s bytes ok e fit =
    let A : AcceptedGraph (read_of s).graph = taken s bytes ok in
    let F : Fitting (read_of s).graph e = times_fit (read_of s).graph e fit in
    list-log-short A.well_formed A.acyclic (times_of e) A.few_vertices F.short A.short (none_past (read_of s).graph e F)
