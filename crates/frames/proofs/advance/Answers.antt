use Rattle.frames.proofs.Framing.{was-busy, moved}
use mathlib.Core.Path.{◌≡◌, refl, ap, ◌∙◌}
use Rattle.model.specs.Places.{bit}
use Rattle.graph.specs.File.{records}
use Rattle.frames.specs.Frames.{used_by}
use Prim.Native.Nat.{◌≤◌, ◌<◌}
use native.Mathlib.Omega.{arith}
use lib.ListN.{get_or}
use Rattle.recorded.specs.Log.{who}
use Rattle.recorded.proofs.Records.{fine-at}
use Rattle.model.proofs.Bools.{bit_le}
use Rattle.formed.proofs.Passing.{few-records}
use Rattle.model.proofs.Bools.{bit_is}
use Rattle.formed.proofs.Lasting.{last-low}
use Rattle.frames.proofs.Using.{used-few, used-some}
use Rattle.frames.proofs.advance.Goals as goal
use Rattle.frames.proofs.advance.Goals.{After-byte-v}

-- the vertex of the record is one of the graph, its kind is known, and its last record is one of the log
vertex : (b : After-byte-v) → b.byte-v.result < 128
vertex b = omega (arith, (fine-at b.requires.lists.in_form b.args.k b.requires.k_bound).vertex, b.byte-v.ensures.0, b.requires.lists.few)

kind-in : (b : After-byte-v) → get_or b.args.laid.now.graph.kind b.byte-v.result 0 < 10
kind-in b = rw b.byte-v.ensures.0 (b.requires.lists.known _ (fine-at b.requires.lists.in_form b.args.k b.requires.k_bound).vertex)

kind-used : (b : After-byte-v) → get_or b.args.used.now (get_or b.args.laid.now.graph.kind b.byte-v.result 0) 0 ≡ used_by b.args.laid.now.graph.kind b.args.laid.now.graph.n b.args.log.now b.args.k (get_or b.args.laid.now.graph.kind (who b.args.log.now b.args.k) 0)
kind-used b = rw (← b.byte-v.ensures.0) (b.requires.framed.used_are.at _ (kind-in b))

last-in : (b : After-byte-v) → get_or b.args.lasts.now b.byte-v.result 0 ≤ 8192
last-in b =
    omega (arith, b.requires.lists.lasts_are.at b.byte-v.result (vertex b), last-low b.args.log.now b.byte-v.result (records b.args.log.now), few-records b.args.log.now b.requires.lists.in_form.right_length)

pub bounds-laid-v : goal.bounds-laid-v
bounds-laid-v c = vertex (goal.at.bounds-laid-v c).After-byte-v

pub overflow_cast-s : goal.overflow_cast-s
overflow_cast-s c = omega (arith, kind-in (goal.at.overflow_cast-s c).After-byte-v)

pub bounds-laid-s : goal.bounds-laid-s
bounds-laid-s c = kind-in (goal.at.bounds-laid-s c).After-byte-v

pub bounds-used-s : goal.bounds-used-s
bounds-used-s c = kind-in (goal.at.bounds-used-s c).After-byte-v

pub overflow_add-many : goal.overflow_add-many
overflow_add-many c =
    omega (arith, kind-used (goal.at.overflow_add-many c).After-byte-v, c.from.ensures, bit_is c.starts-start.result, bit_le c.starts-start.result, used-few c.args.laid.now.graph.kind c.args.laid.now.graph.n c.args.log.now c.args.k (get_or c.args.laid.now.graph.kind (who c.args.log.now c.args.k) 0), c.requires.lists.few)

pub overflow_sub-many : goal.overflow_sub-many
overflow_sub-many c =
    omega (arith, kind-used (goal.at.overflow_sub-many c).After-byte-v, c.from.ensures, bit_is c.starts-start.result, ap bit c.starts-start.ensures, used-some c.args.laid.now.graph.kind c.requires.lists.in_form c.requires.lists.few c.args.k c.requires.k_bound)

pub bounds-used-s-2 : goal.bounds-used-s-2
bounds-used-s-2 c = kind-in (goal.at.bounds-used-s-2 c).After-byte-v

pub switched-on-requires : goal.switched-on-requires
switched-on-requires c = vertex (goal.at.switched-on-requires c).After-byte-v

pub set_at-requires : goal.set_at-requires
set_at-requires c = kind-in (goal.at.set_at-requires c).After-byte-v

pub bounds-lasts-v : goal.bounds-lasts-v
bounds-lasts-v c = vertex (goal.at.bounds-lasts-v c).After-byte-v

pub overflow_cast-lasts : goal.overflow_cast-lasts
overflow_cast-lasts c = omega (arith, last-in (goal.at.overflow_cast-lasts c).After-byte-v)

pub ended-rest-requires : goal.ended-rest-requires
ended-rest-requires c =
    let F = c.requires.framed in
    record { layout = c.requires.lists.layout; settled = F.settled; v_bound = (vertex (goal.at.ended-rest-requires c).After-byte-v, F.busy_are.are c.byte-v.result ∙ rw c.byte-v.ensures.0 (was-busy c.requires.lists c.args.k c.requires.k_bound), record { low = F.busy_are.low; high = F.busy_are.high; are = λ u. refl }) }

pub returns : goal.returns
returns c =
    moved c.requires.lists c.args.k c.requires.k_bound _ _ _ c.requires.framed c.byte-v.result c.starts-start.result c.byte-v.ensures.0 c.starts-start.ensures
    _ (omega (arith, c.from.ensures, bit_is c.starts-start.result)) _ _ _ _ _ c.switched-on.ensures c.ended-rest.ensures.members c.ended-rest.ensures.settled_2 (rw c.set_at.ensures at c.shifted-full.ensures)
