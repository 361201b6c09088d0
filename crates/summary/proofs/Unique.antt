-- What the contracts promise leaves one choice only. So a summary that was brought up to date is the one that is made afresh.
use mathlib.Core.Path.{◌≡◌}
use mathlib.Core.List.{List}
use Prim.Native.Nat.{ℕ}
use Rattle.model.specs.Graph.{Graph}
use Rattle.model.proofs.Tables.{same-table}
use Rattle.model.proofs.Summaries.{summary_unique}
use Rattle.summary.specs.Tables.{Tables}
use Rattle.summary.specs.declared.Summary.{Summary}

-- THEOREM. There is one summary only, as a value.
pub tables_unique : {G : Graph} {w : List ℕ} {r r' : Summary} → Tables G w r → Tables G w r' → r ≡ r'
tables_unique {G} {r = r} {r' = r'} a b =
    let e = same-table G.n a.ending_size b.ending_size (λ v l. (summary_unique a.sums b.sums v l).0) a.ending_past b.ending_past in
    let s = same-table G.n a.starting_size b.starting_size (λ v l. (summary_unique a.sums b.sums v l).1) a.starting_past b.starting_past in
    λ i. record { ending = e i; starting = s i }
