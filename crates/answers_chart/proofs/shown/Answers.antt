use mathlib.Core.Path.{sym, ◌∙◌}
use Rattle.graph.specs.Model.{as_model}
use Rattle.formed.proofs.Forming.{form_accepted}
use Rattle.answers_chart.proofs.shown.Goals as goal

pub drawn-requires : goal.drawn-requires
unfolding as_model
drawn-requires g c =
    (c.requires, form_accepted (as_model c.args.g) c.args.log.now 0 (sym c.judge.ensures ∙ c.in-Ok.is))
