use mathlib.Core.Path.{◌≡◌, sym, ◌∙◌}
use Rattle.plain.proofs.Passed.{counted, quiet}
use Rattle.reader.proofs.Taking.{found-quiet}
use Rattle.reader.proofs.numbers.lowest.Goals as goal

pub returns-then-whole : goal.returns-then-whole
returns-then-whole c =
    let s = c.args.file.now in
    let p = c.counts-plain.ensures in
    let t = sym c.whole.ensures ∙ c.if-whole.true in
    record { answer = sym (found-quiet s (quiet s c.counts-plain.result p t)); counted = λ x e. let q : c.counts-plain.result ≡ x = cc in rw q at (counted s c.counts-plain.result p t) }
