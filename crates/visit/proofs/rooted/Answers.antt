use mathlib.Core.Path.{◌≡◌}
use Prim.Native.Nat.{◌<◌}
use native.Mathlib.Omega.{arith}
use Rattle.visit.proofs.Opening.{few_vertices, short, numbers-few, kind-few, share-small, all_sources}
use Rattle.visit.proofs.Walking.{root_reached}
use Rattle.visit.proofs.rooted.Goals as goal

pub returns-then-depth-gt0 : goal.returns-then-depth-gt0
returns-then-depth-gt0 c g D S is among K = record { some = c.if-depth-gt0.true; kept = K }

pub source-s-requires : goal.source-s-requires
source-s-requires c =
    let p = c.requires in
    let D = p.1 in
    record { n_bound = (omega (arith, p.3, few_vertices D), omega (arith, p.4, D.few), rw p.3 (rw (all_sources D _ p.2) p.4)); by_index = numbers-few D }

pub opened-c-requires : goal.opened-c-requires
opened-c-requires c =
    let p = c.requires in
    let D = p.1 in
    let l : c.source-s.result.v < p.0.n = rw p.3 at c.source-s.ensures.known in
    record { v_bound = (omega (arith, l, few_vertices D), kind-few D _ l, share-small D _ l); by_index = short D; value_bound = omega arith }

pub returns : goal.returns
returns c g D S is among K =
    let z : c.args.depth ≡ 0 = omega (arith, c.if-depth-gt0.false) in
    rw c.put.ensures (root_reached D _ _ _ S (rw z at K) c.source-s.result (rw is at c.source-s.ensures) c.none.result c.none.ensures c.opened-c.result c.opened-c.ensures)
