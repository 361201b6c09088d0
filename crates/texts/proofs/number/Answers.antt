use mathlib.Core.Path.{◌∙◌, ap}
use Rattle.texts.specs.Text.{number_of}
use Rattle.texts.proofs.number.Goals as goal

pub returns : goal.returns
returns c = c.value.ensures ∙ ap number_of c.word.ensures
