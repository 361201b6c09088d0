use Prim.Native.Nat.{◌<◌}
use native.Mathlib.Omega.{arith}
use Rattle.recorded.specs.Log.{instant_at}
use Rattle.recorded.proofs.Records.{fine-at}
use Rattle.formed.proofs.Passing.{few-records}
use Rattle.formed.proofs.Clocks.{cell-low, clock_next}
use Rattle.formed.proofs.Lasting.{lasts-next}
use Rattle.formed.proofs.turn.Goals as goal
use Rattle.formed.proofs.turn.Goals.{After-byte-v}

-- the vertex of the record is a place of the tables
vertex : (b : After-byte-v) → b.byte-v.result < 128
vertex b = omega (arith, (fine-at b.requires.k_bound.2 b.args.k b.requires.k_bound.0).vertex, b.byte-v.ensures.0, b.requires.k_bound.1)

pub bounds-cells-v : goal.bounds-cells-v
bounds-cells-v c = vertex (goal.at.bounds-cells-v c).After-byte-v

pub overflow_sub-cells : goal.overflow_sub-cells
unfolding instant_at
overflow_sub-cells c =
    rw (c.byte-v.ensures.0, c.word-t.ensures.0) (cell-low c.requires.k_bound.2 c.requires.k_bound.1 c.args.k c.requires.k_bound.0 _ c.requires.clocked)

pub bounds-cells-v-2 : goal.bounds-cells-v-2
bounds-cells-v-2 c = vertex (goal.at.bounds-cells-v-2 c).After-byte-v

pub overflow_cast-lasts : goal.overflow_cast-lasts
overflow_cast-lasts c = omega (arith, few-records _ c.requires.k_bound.2.right_length, c.requires.k_bound.0)

pub bounds-lasts-v : goal.bounds-lasts-v
bounds-lasts-v c = vertex (goal.at.bounds-lasts-v c).After-byte-v

pub returns : goal.returns
unfolding instant_at
returns c =
    let v = (fine-at c.requires.k_bound.2 c.args.k c.requires.k_bound.0).vertex in
    rw (c.byte-v.ensures.0, c.word-t.ensures.0) record { clocked_2 = clock_next c.requires.k_bound.2 c.requires.k_bound.1 c.args.k c.requires.k_bound.0 _ c.requires.clocked; lasted_2 = lasts-next _ c.args.k _ (omega (arith, c.requires.k_bound.1)) c.requires.lasted }
