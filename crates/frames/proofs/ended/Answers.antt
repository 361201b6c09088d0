use mathlib.Core.Path.{sym, ap, ◌∙◌}
use mathlib.Core.Bool.{Bool, not, ◌&&◌, ◌||◌, and-true}
use lib.Dec.{eqb}
use Rattle.vset.specs.Members.{is_in}
use Rattle.vset.proofs.Gather.{members_ext}
use Rattle.frames.proofs.Ending.{unsettled}
use Rattle.frames.proofs.ended.Goals as goal

pub returns-then-not-over : goal.returns-then-not-over
returns-then-not-over c =
    rw c.if-not-over.true record { members = members_ext _ _ _ c.requires.v_bound.2 (λ u. sym (and-true (is_in c.args.busy u))); settled_2 = c.requires.settled }

pub settle-requires : goal.settle-requires
settle-requires c =
    record {
      layout = c.requires.layout;
      unsettled = unsettled _ _ _ _ _ c.requires.settled c.args.v c.requires.v_bound.1 _ _ c.without-rest.ensures.are
          (λ u. c.minus-done.ensures.are u ∙ ap (λ (b : Bool). b && not (is_in c.args.behind u)) (c.with.ensures.are u ∙ ap (λ (b : Bool). b || eqb u c.args.v) (c.none.ensures.are u)));
    }

pub returns : goal.returns
returns c =
    rw c.if-not-over.false record { members = c.without-rest.ensures; settled_2 = c.settle.ensures }
