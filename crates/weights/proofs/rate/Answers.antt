use mathlib.Core.Path.{sym, ap, ◌∙◌}
use Rattle.weights.specs.Weight.{rate_of}
use Rattle.weights.specs.declared.Measure.{Measure}
use Rattle.weights.proofs.rate.Goals as goal

pub returns-in-Scaled : goal.returns-in-Scaled
returns-in-Scaled c =
    let a = c.args in
    c.rest.ensures ∙ sym (ap (λ (m : Measure). rate_of m a.cores) c.in-Scaled.is)
