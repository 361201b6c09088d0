use mathlib.Core.Path.{◌∙◌, ap}
use Rattle.texts.specs.Text.{part_of}
use Rattle.texts.proofs.word.Goals as goal

pub returns : goal.returns
returns c =
    let a = c.args in
    c.part.ensures ∙ ap (part_of a.t.now a.at) c.until.ensures
