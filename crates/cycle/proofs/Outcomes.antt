-- The contract fixes the answer. It leaves the order open on purpose: our own layers alone see it, and each of them needs only that it goes
-- along the edges.
use mathlib.Core.Path.{◌≡◌, sym, ◌∙◌}
use contract.Lifetimes.{Lfts}
use denote.Triple.Entry.{Args, Res}
use denote.Triple.Clauses.{Lasts, at_exit}
use Rattle.cycle.specs.contracts.cyclic as cyclic
use Rattle.cycle.proofs.cyclic.Reads as cyclic-reads

-- as `OneOutcome`, of the result alone
pub cyclic_outcome : (κs : Lfts (cyclic.ended).signature.lifetimes) (a : Args (cyclic.ended).signature κs) (r r' : Res (cyclic.ended).signature κs) (ws ws' : Lasts cyclic.ended κs a)
    → cyclic-reads.Pre κs a → cyclic-reads.Post κs a r (at_exit cyclic.ended κs a ws) → cyclic-reads.Post κs a r' (at_exit cyclic.ended κs a ws') → r ≡ r'
cyclic_outcome κs a r r' ws ws' pre p q = p.0 ∙ sym q.0
