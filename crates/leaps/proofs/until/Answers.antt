use mathlib.Core.Path.{◌≡◌, refl}
use lib.ListN.{length}
use Rattle.tick.specs.Run.{left_of}
use Rattle.leaps.proofs.Stopping.{timed}
use borrow.Author.Rules.{rules}
use Rattle.leaps.proofs.until.Goals as goal
use Rattle.leaps.proofs.until.Goals.{Start}

long : (s : Start) → length s.args.run.left ≡ 128
long s = search rules

pub up_to-m-requires : goal.up_to-m-requires
up_to-m-requires c =
    let L = c.requires.1 in
    record { graph_of = (c.requires.0, L, timed c.requires.0 L.edges.accepted c.args.run c.requires.2 (long (goal.at.up_to-m-requires c).Start)); finishes_value = refl }

pub returns : goal.returns
unfolding left_of
returns c g L F =
    rw L.edges.n_is (c.up_to-m.ensures g L (timed g L.edges.accepted c.args.run F (long (goal.at.returns c).Start))).run
