use mathlib.Core.Path.{◌≡◌, refl}
use lib.ListN.{length}
use Rattle.tick.specs.Run.{left_of}
use Rattle.leaps.proofs.Stopping.{timed, ran-whole}
use borrow.Author.Rules.{rules}
use Rattle.leaps.proofs.play.Goals as goal
use Rattle.leaps.proofs.play.Goals.{Start}

long : (s : Start) → length s.args.run.left ≡ 128
long s = search rules

pub up_to-m-requires : goal.up_to-m-requires
up_to-m-requires c =
    let L = c.requires.1 in
    record { graph_of = (c.requires.0, L, timed c.requires.0 L.edges.accepted c.args.run c.requires.2 (long (goal.at.up_to-m-requires c).Start)); finishes_value = refl }

pub returns : goal.returns
unfolding left_of
returns c g L F =
    let u = c.up_to-m in
    ran-whole g L.edges.accepted c.args.run F u.result u.new.left u.new.waiting u.new.finishes
    (u.ensures g L (timed g L.edges.accepted c.args.run F (long (goal.at.returns c).Start)))
