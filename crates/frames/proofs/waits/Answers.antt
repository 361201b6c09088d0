use mathlib.Core.Path.{ap, ◌∙◌}
use mathlib.Core.Bool.{Bool, not, ◌&&◌}
use Rattle.vset.specs.Members.{is_in}
use Rattle.model.specs.Places.{any}
use Rattle.model.proofs.Places.{any_ext}
use Rattle.vset.proofs.Taking.{twice}
use Rattle.frames.proofs.waits.Goals as goal

pub returns : goal.returns
returns c =
    ap not c.is_empty.ensures
    ∙ twice (any (is_in c.minus.result) 128)
    ∙ any_ext _ _ 128 (λ v h. c.minus.ensures.are v ∙ ap (λ (b : Bool). b && not (is_in c.args.f.full v))
    (c.minus-apart.ensures.are v ∙ ap (λ (b : Bool). b && not (is_in c.args.f.on v)) (c.minus-able.ensures.are v)))
