-- No public contract of this crate leaves a choice: a graph has one list of gains.
use mathlib.Core.Path.{◌≡◌, refl}
use mathlib.Core.List.{List}
use Prim.Native.Nat.{ℕ}
use Rattle.outcome.specs.OneOutcome.{OneOutcome}
use Rattle.model.specs.Graph.{Graph}
use Rattle.model.proofs.Tables.{same-table}
use Rattle.model.proofs.Gains.{gain_unique}
use Rattle.gaining.specs.Gaining.{GainsIn}
use Rattle.gaining.specs.contracts.table.gains as gains
use Rattle.gaining.proofs.table.gains.Reads as gains-reads

pub gains_unique : {G : Graph} {l m : List ℕ} → GainsIn G l → GainsIn G m → l ≡ m
gains_unique {G} a b = same-table G.n a.size b.size (λ v l. gain_unique (a.gain v l) (b.gain v l)) a.past b.past

pub gains-one : OneOutcome gains.ended gains-reads.Pre gains-reads.Post
gains-one κs a r r' ws ws' pre p q = (gains_unique (p pre.0 pre.1) (q pre.0 pre.1), refl)
