-- Each public function's contract leaves one outcome: two results that it allows for the same file are equal.
--
-- `take_rows`, `take_kin` and `along_rows` are for our own layers alone. Their contracts leave open which order of the vertices is handed on, and what
-- stands in the lists and tables beside a refusal: whoever calls them needs only that the order goes along the edges, and looks at no list beside a refusal.
-- `Laid::blank` leaves open what stands in the lists that are filled before they are read, the starts and the order.
use mathlib.Core.Path.{◌≡◌, refl, sym, ◌∙◌}
use contract.Lifetimes.{Lfts}
use denote.Triple.Entry.{Args, Res}
use denote.Triple.Clauses.{Lasts, at_exit}
use Rattle.graph.specs.Answer.{Accepted}
use Rattle.graph.specs.declared.Graph.{Graph}
use Rattle.outcome.specs.OneOutcome.{OneOutcome}
use Rattle.sets.proofs.Tables.{holds_unique}
use Rattle.graph.proofs.Answers.{taken-one}
use Rattle.reader.specs.contracts.Laid.blank as blank
use Rattle.reader.proofs.Laid.blank.Reads as blank-reads
use Rattle.reader.specs.contracts.read as read
use Rattle.reader.proofs.read.Reads as read-reads
use Rattle.reader.specs.contracts.judge as judge
use Rattle.reader.proofs.judge.Reads as judge-reads
use Rattle.reader.specs.contracts.along_rows as along-rows
use Rattle.reader.proofs.along_rows.Reads as along-rows-reads
use Rattle.reader.specs.contracts.take_rows as take-rows
use Rattle.reader.proofs.take_rows.Reads as take-rows-reads
use Rattle.reader.specs.contracts.take_kin as take-kin
use Rattle.reader.proofs.take_kin.Reads as take-kin-reads

-- of the graph and the rows
pub blank_outcome : (κs : Lfts (blank.ended).signature.lifetimes) (a : Args (blank.ended).signature κs) (r r' : Res (blank.ended).signature κs) (ws ws' : Lasts blank.ended κs a)
    → blank-reads.Pre κs a → blank-reads.Post κs a r (at_exit blank.ended κs a ws) → blank-reads.Post κs a r' (at_exit blank.ended κs a ws')
    → (r.graph ≡ r'.graph) × (r.pred ≡ r'.pred)
blank_outcome κs a r r' ws ws' pre p q = (p.graph ∙ sym q.graph, p.pred ∙ sym q.pred)

pub read_outcome : OneOutcome read.ended read-reads.Pre read-reads.Post
read_outcome κs a r r' ws ws' pre p q = (taken-one _ _ (p ∙ sym q), refl)

pub judge_outcome : OneOutcome judge.ended judge-reads.Pre judge-reads.Post
judge_outcome κs a r r' ws ws' pre p q = (p ∙ sym q, refl)

-- as `OneOutcome`, of the answer, and of an accepted file's graph, its starts and the rows of its predecessors
pub take-rows_outcome : (κs : Lfts (take-rows.ended).signature.lifetimes) (a : Args (take-rows.ended).signature κs) (r r' : Res (take-rows.ended).signature κs) (ws ws' : Lasts take-rows.ended κs a)
    → take-rows-reads.Pre κs a → take-rows-reads.Post κs a r (at_exit take-rows.ended κs a ws) → take-rows-reads.Post κs a r' (at_exit take-rows.ended κs a ws')
    → (r ≡ r')
    × (r ≡ Accepted
    → (ws.1.0.graph ≡ ws'.1.0.graph)
    × (ws.1.0.starts ≡ ws'.1.0.starts)
    × (ws.1.0.pred ≡ ws'.1.0.pred))
take-rows_outcome κs a r r' ws ws' pre p q = (
  p.0.answer ∙ sym q.0.answer,
  λ ok.
      let t = sym p.0.answer ∙ ok in
      ((p.0.laid t).graph ∙ sym (q.0.laid t).graph, (p.0.laid t).along.starts ∙ sym (q.0.laid t).along.starts, holds_unique (p.1 t) (q.1 t)),
)

-- the same, and of both tables
pub take_kin_outcome : (κs : Lfts (take-kin.ended).signature.lifetimes) (a : Args (take-kin.ended).signature κs) (r r' : Res (take-kin.ended).signature κs) (ws ws' : Lasts take-kin.ended κs a)
    → take-kin-reads.Pre κs a → take-kin-reads.Post κs a r (at_exit take-kin.ended κs a ws) → take-kin-reads.Post κs a r' (at_exit take-kin.ended κs a ws')
    → (r ≡ r')
    × (r ≡ Accepted
    → (ws.1.0.graph ≡ ws'.1.0.graph)
    × (ws.1.0.starts ≡ ws'.1.0.starts)
    × (ws.1.0.pred ≡ ws'.1.0.pred)
    × (ws.1.1.0 ≡ ws'.1.1.0))
take_kin_outcome κs a r r' ws ws' pre p q = (
  p.0.answer ∙ sym q.0.answer,
  λ ok.
      let t = sym p.0.answer ∙ ok in (
        (p.0.laid t).graph ∙ sym (q.0.laid t).graph,
        (p.0.laid t).along.starts ∙ sym (q.0.laid t).along.starts,
        holds_unique (p.1 t).predecessors (q.1 t).predecessors,
        holds_unique (p.1 t).ancestors (q.1 t).ancestors,
      ),
)

-- as `OneOutcome`, of the graph, its starts and the rows
pub along-rows_outcome : (κs : Lfts (along-rows.ended).signature.lifetimes) (a : Args (along-rows.ended).signature κs) (r r' : Res (along-rows.ended).signature κs) (ws ws' : Lasts along-rows.ended κs a)
    → along-rows-reads.Pre κs a → along-rows-reads.Post κs a r (at_exit along-rows.ended κs a ws) → along-rows-reads.Post κs a r' (at_exit along-rows.ended κs a ws')
    → (ws.1.0.graph ≡ ws'.1.0.graph) × (ws.1.0.starts ≡ ws'.1.0.starts) × (ws.1.0.pred ≡ ws'.1.0.pred)
along-rows_outcome κs a r r' ws ws' pre p q = (p.graph ∙ sym q.graph, p.along.starts ∙ sym q.along.starts, holds_unique p.rows q.rows)
