-- From what the reader took of a file s, and from what was found for its graph, to the entries' answers.
use Rattle.std.specs.Prelude.{Result, Ok, Err}
use mathlib.Core.Path.{◌≡◌, refl, sym}
use mathlib.Core.List.{List}
use Prim.Native.Nat.{ℕ, ◌≤◌}
use native.Mathlib.Omega.{arith}
use lib.ListN.{length, drop, length-append}
use Rattle.model.specs.Places.{padded}
use Rattle.model.specs.Bounds.{scaled}
use Rattle.graph.specs.Model.{AcceptedGraph, as_model}
use Rattle.graph.specs.Judge.{read_of}
use Rattle.graph.specs.declared.Graph.{Graph}
use Rattle.graph.specs.declared.Refusal.{Refusal}
use Rattle.graph.specs.Answer.{Answer}
use Rattle.graph.specs.Answer.{Accepted, Refused}
use Rattle.reader.specs.Laid.{TakenInto}
use Rattle.reader.specs.declared.Laid.{Laid}
use Rattle.weights.specs.Weight.{weight_by, stages}
use Rattle.weights.specs.declared.Measure.TheVariants.{Scaled}
use Rattle.paths.specs.Ahead.{weigh, Summed}
use Rattle.paths.specs.declared.ahead.Sums.{Sums}
use Rattle.paths.specs.Trace.{Traced}
use Rattle.bounds.specs.Answers.{Figures, Nothing, BoundsOf, PathIn, narrow, found, PathOf, refused, accepted}
use Rattle.bounds.specs.Bounded.{bounded}
use Rattle.bounds.specs.declared.BothBounds.{BothBounds}
use Rattle.bounds.specs.Pathed.{Pathed}
use Rattle.bounds.specs.Pathed.{Vertices, Refused as NoPath}
use Rattle.paths.proofs.Complete.{least-longest-same}
use Rattle.paths.proofs.Traces.{trace-path}
use Rattle.bounds.proofs.Weighing.{weighs}

module _ {s : List ℕ} {l : Laid} where
  pub bounds-accepted : {b : BothBounds} → TakenInto s Accepted l → Figures (as_model l.graph) (bounded (Ok b)) → BoundsOf s (bounded (Ok b))
  bounds-accepted T f = let a = sym T.answer in record { answer = sym a; figures = rw a (rw (T.laid a).graph at f) }

  pub bounds-refused : {x : Refusal} → TakenInto s (Refused x) l → BoundsOf s (bounded (Err x))
  bounds-refused T = let a = sym T.answer in record { answer = sym a; figures = rw a (record { old = refl; new = refl; ticks = refl }) }

  pub path-accepted : (old : List ℕ) {r : Pathed} {new : List ℕ} → TakenInto s Accepted l → PathIn l.graph old r new → PathOf s old r new
  path-accepted old T f = let a = sym T.answer in accepted a (rw (T.laid a).graph at f)

  pub path-refused : (old : List ℕ) {x : Refusal} → TakenInto s (Refused x) l → PathOf s old (NoPath x) old
  path-refused old T = refused (sym T.answer)

-- the trace from the source, over the scaled weights, is the path
pub path-found : {g : Graph} (G : AcceptedGraph g) (w old : List ℕ) {r : Sums} {new : List ℕ} {n : ℕ} → w ≡ padded 128 (weight_by Scaled (stages g.kind g.wcet g.cores g.kinds g.n)) g.n
    → Summed (as_model g) (weigh w) r → g.n ≤ length old → Traced (as_model g) (weigh w) (weigh r.ahead) r.head old new n → PathIn g old (Vertices n) new
unfolding as_model weight_by scaled
path-found {g} G w old {r} e S l T =
    let W = G.well_formed in
    let p = trace-path W (weigh w) (weigh r.ahead) S.longest.ahead r.head T.rest S.head T.trace in
    rw (T.held, T.count) (found l (least-longest-same W (weigh w) (scaled (as_model g)) (weighs (weight_by Scaled (as_model g)) g.n e) p))
