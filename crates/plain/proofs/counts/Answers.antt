use mathlib.Core.Path.{refl}
use native.Mathlib.Omega.{arith}
use Rattle.plain.specs.Plain.{plain_of}
use Rattle.plain.proofs.Passed.{types-few, vertices-few}
use Rattle.plain.proofs.counts.Goals as goal

pub vertices-n-requires : goal.vertices-n-requires
vertices-n-requires c = rw c.types-kinds.ensures (types-few _).1

pub overflow_add-kinds : goal.overflow_add-kinds
overflow_add-kinds c =
    let s = c.args.file.now in
    omega (arith, c.types-kinds.ensures, (types-few s).0, c.vertices-n.ensures, (vertices-few s c.types-kinds.result).0)

pub edges-edges-requires : goal.edges-edges-requires
edges-edges-requires c =
    let s = c.args.file.now in
    omega (arith, c.types-kinds.ensures, (types-few s).1, c.vertices-n.ensures, (vertices-few s c.types-kinds.result).1)

pub returns : goal.returns
unfolding plain_of
returns c = rw (c.edges-edges.ensures, c.vertices-n.ensures, c.types-kinds.ensures) refl
