use mathlib.Core.Path.{◌∙◌, ap}
use mathlib.Core.List.{List}
use Prim.Native.Nat.{ℕ}
use Rattle.texts.specs.Text.{same}
use Rattle.texts.proofs.word_is.Goals as goal

pub returns : goal.returns
returns c =
    let a = c.args in
    c.equal.ensures ∙ ap (λ (x : List ℕ). same x a.w.now) c.word.ensures
