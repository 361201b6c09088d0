use mathlib.Core.Path.{◌≡◌, sym, ◌∙◌}
use mathlib.Core.Bool.{true, false}
use Rattle.rules.specs.Rows.{of_counts}
use Rattle.reader.proofs.Scan.{place-record, place-counts}
use Rattle.reader.proofs.numbers.place.Goals as goal

pub returns-then-per_record : goal.returns-then-per_record
returns-then-per_record c =
    c.scan.ensures ∙ place-record _ _ (sym c.per_record.ensures ∙ c.if-per_record.true)

pub returns-then-counts_fail : goal.returns-then-counts_fail
returns-then-counts_fail c =
    let t : of_counts c.args.c c.args.number ≡ true = sym c.counts_fail.ensures ∙ c.if-counts_fail.true in
    rw t at (place-counts c.args.file.now c.args.number c.args.c c.requires.0 c.requires.1 c.requires.2 (sym c.per_record.ensures ∙ c.if-per_record.false))

pub returns-else-counts_fail : goal.returns-else-counts_fail
returns-else-counts_fail c =
    let t : of_counts c.args.c c.args.number ≡ false = sym c.counts_fail.ensures ∙ c.if-counts_fail.false in
    rw t at (place-counts c.args.file.now c.args.number c.args.c c.requires.0 c.requires.1 c.requires.2 (sym c.per_record.ensures ∙ c.if-per_record.false))
