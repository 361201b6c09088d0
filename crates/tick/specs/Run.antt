-- The run record, the state of the model that it stands for, and a tick of it.
--
--   left_of r v           the ticks remaining of v
--   waiting_of r v        the number that is stored for v
--   state_of r            the state that the record stands for
--   awaited G c v        how many direct predecessors of v are unfinished, where c is what is left of each vertex (order 8)
--   record_for G t s       the record of the state s of the graph G at the instant t; places from N on are zero
--   over g r             the run is finished: every vertex is
--   ticked_of g r         what a tick reports and hands back
--   of_report x           what a tick reports in document 01's numbers: its value is 1 for moved and 0 for done
--   MOST                 the limit for an instant and all that remains from it on
use Rattle.std.specs.Prelude.{Ok, Err}
use Rattle.std.specs.Prelude.{Bool, not, ◌&&◌, ℕ, ◌+◌, get_or}
use Rattle.model.specs.Places.{pick, count, every, padded}
use Rattle.model.specs.Graph as model
use Rattle.model.specs.ListSchedule.{State, finished, step}
use Rattle.graph.specs.declared.Graph.{Graph}
use Rattle.graph.specs.Model.{as_model}
use Rattle.graph.specs.Said.{Said, said_no}
use Rattle.vset.specs.Members.{is_in, set_of}
use Rattle.tick.specs.declared.Run.{Run}
use Rattle.tick.specs.Report.{Report}
use Rattle.tick.specs.Report.{Moved, Done}
use Rattle.tick.specs.declared.Step.TheVariants as steps
use Rattle.tick.specs.declared.Ticked.{Ticked}

abbrev pub MOST : ℕ
MOST = 128000000

unfoldable pub left_of : Run → ℕ → ℕ
left_of r v = get_or r.left v 0

unfoldable pub waiting_of : Run → ℕ → ℕ
waiting_of r v = get_or r.waiting v 0

unfoldable pub state_of : Run → State
state_of r = record { rest = left_of r; ran = is_in r.ran }

-- a vertex with nothing left behind an unfinished one is unfinished itself
unfoldable pub awaited : model.Graph → (ℕ → ℕ) → ℕ → ℕ
awaited G c v = count (λ u. G.edge u v && not (finished G c u)) G.n

unfoldable pub record_for : model.Graph → ℕ → State → Run
record_for G t s = record {
  n = G.n;
  instant = t;
  left = padded 128 s.rest G.n;
  ran = set_of s.ran;
  waiting = padded 128 (awaited G s.rest) G.n;
}

unfoldable pub over : Graph → Run → Bool
over g r = every (finished (as_model g) (left_of r)) g.n

unfoldable pub ticked_of : Graph → Run → Ticked
ticked_of g r =
    pick (over g r)
    (record { report = Done; run = r })
    (record { report = Moved; run = record_for (as_model g) (r.instant + 1) (step (as_model g) (state_of r)) })

abbrev pub of_report : Report → Said
of_report (Ok steps.Moved) = record { number = 0; place = 0; value = 1 }
of_report (Ok steps.Done) = record { number = 0; place = 0; value = 0 }
of_report (Err r) = said_no r
