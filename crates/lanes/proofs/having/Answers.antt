use Prim.Native.Nat.{◌<◌}
use native.Mathlib.Omega.{arith}
use mathlib.Core.Path.{◌∙◌, sym}
use Rattle.recorded.proofs.Records.{fine-at}
use Rattle.lanes.proofs.Passing.{has-start, has-stop}
use Rattle.lanes.proofs.having.Goals as goal
use Rattle.lanes.proofs.having.Goals.{After-byte-v}

-- the vertex of the record is one of the graph
vertex : (b : After-byte-v) → b.byte-v.result < 128
vertex b = omega (arith, (fine-at b.requires.k_bound.2 b.args.k b.requires.k_bound.0).vertex, b.byte-v.ensures.0, b.requires.k_bound.1)

pub with-requires : goal.with-requires
with-requires c = vertex (goal.at.with-requires c).After-byte-v

pub returns-then-starts : goal.returns-then-starts
returns-then-starts c =
    has-start _ _ _ _ c.requires.members (sym c.starts.ensures ∙ c.if-starts.true) (rw c.byte-v.ensures.0 at c.with.ensures)

pub switched-requires : goal.switched-requires
switched-requires c = vertex (goal.at.switched-requires c).After-byte-v

pub returns : goal.returns
returns c =
    has-stop _ _ _ _ c.requires.members (sym c.starts.ensures ∙ c.if-starts.false) (rw (c.byte-v.ensures.0, c.runs_on.ensures) at c.switched.ensures)
