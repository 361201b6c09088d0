use mathlib.Core.Path.{ap, ◌∙◌}
use mathlib.Core.Bool.{Bool, not, ◌&&◌, ◌||◌}
use lib.Dec.{eqb}
use Rattle.vset.specs.Members.{is_in}
use Rattle.vset.proofs.Gather.{members_ext}
use Rattle.parallel.proofs.apart.Goals as goal

pub returns : goal.returns
returns c =
    let a = c.args in
    members_ext _ _ _ c.minus.ensures (λ k. ap (λ (b : Bool). is_in a.same k && not b) (c.with.ensures.are k ∙ ap (λ (b : Bool). b || eqb k a.v) (c.either.ensures.are k)))
