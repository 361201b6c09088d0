-- What was laid, as `read` says it.
use Rattle.std.specs.Prelude.{Ok, Err}
use mathlib.Core.Path.{◌≡◌}
use mathlib.Core.List.{List}
use Prim.Native.Nat.{ℕ}
use Rattle.graph.specs.Answer.{Answer, taken}
use Rattle.graph.specs.Judge.{read_of}
use Rattle.reader.specs.Laid.{TakenInto}
use Rattle.reader.specs.declared.Laid.{Laid}
use Rattle.reader.proofs.Laying.{handed_over, handed_back}
use Rattle.codes.specs.Coded.{with_graph}

pub graph_given : (s : List ℕ) (l : Laid) (r : Answer) → TakenInto s r l → taken (with_graph r l.graph) ≡ read_of s
graph_given s l (Ok _) T = handed_over s l T
graph_given s l (Err x) T = handed_back s T
