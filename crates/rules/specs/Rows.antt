-- For our own layers alone: no contract for callers and no claim cites this file.
--
-- The rows 2 to 10 of the table as one record, or the counts, show them.
--
--   of_record s num k     the row of a number that is tested for each record
--   of_counts c num       the row of a number that is tested on the counts
use Rattle.std.specs.Prelude.{Bool, ◌||◌, List, ℕ, eqb, ltb}
use Rattle.model.specs.Places.{pick}
use Rattle.graph.specs.Rules.{rule2, rule3, rule5, rule7, rule9, rule10}
use Rattle.records.specs.declared.Counts.{Counts}

unfoldable pub of_record : List ℕ → ℕ → ℕ → Bool
of_record s num k =
    pick (eqb num 2) (rule2 s k)
    (pick (eqb num 3) (rule3 s k) (pick (eqb num 5) (rule5 s k) (pick (eqb num 7) (rule7 s k) (pick (eqb num 9) (rule9 s k) (rule10 s k)))))

unfoldable pub of_counts : Counts → ℕ → Bool
of_counts c num =
    pick (eqb num 4) (eqb c.kinds 0 || ltb 10 c.kinds)
    (pick (eqb num 6) (eqb c.n 0 || ltb 128 c.n) (ltb 1024 c.edges))
