-- No public contract of this crate leaves a choice.
use mathlib.Core.Path.{◌≡◌, refl, sym, ◌∙◌}
use mathlib.Core.List.{List}
use Prim.Native.Nat.{ℕ}
use Rattle.model.specs.Graph.{Graph}
use Rattle.model.proofs.Tables.{same-table}
use Rattle.outcome.specs.OneOutcome.{OneOutcome}
use Rattle.ways.specs.Counts.{Counts}
use Rattle.ways.specs.contracts.table as table
use Rattle.ways.proofs.table.Reads as table-reads
use Rattle.ways.specs.contracts.from_source as from_source
use Rattle.ways.proofs.from_source.Reads as from-source-reads
use Rattle.ways.specs.contracts.whole as whole
use Rattle.ways.proofs.whole.Reads as whole-reads

counts_unique : {G : Graph} {t t' : List ℕ} → Counts G t → Counts G t' → t ≡ t'
counts_unique {G} a b = same-table G.n a.size b.size (λ v l. a.number v l ∙ sym (b.number v l)) a.past b.past

pub table-one : OneOutcome table.ended table-reads.Pre table-reads.Post
table-one κs a r r' ws ws' pre p q = (counts_unique (p pre.0 pre.1) (q pre.0 pre.1), refl)

pub whole-one : OneOutcome whole.ended whole-reads.Pre whole-reads.Post
whole-one κs a r r' ws ws' pre p q = (p ∙ sym q, refl)

pub from-source-one : OneOutcome from_source.ended from-source-reads.Pre from-source-reads.Post
from-source-one κs a r r' ws ws' pre p q = (p ∙ sym q, refl)
