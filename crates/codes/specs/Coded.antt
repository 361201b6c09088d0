-- The answers as C sees them: document 01's number and place, 0 and 0 where nothing is refused, and the values beside them.
--
--   coded_graph_of, coded_wrote_of, ..        each entry's answer, by its number, place and value (`Said`)
--   with_graph a g                    the graph g where a accepts, else its refusal
--   coded_count_of r                  a count, or a refusal
--   BoundsCoded s r                   r is the coded answer of `bounds` for the file s
--   SecondCoded s r                   so too for `second`
--   EnoughCoded s k d r               so too for `enough`, with the type k and the limit d
--   PathCoded s old r new             r is the coded answer of `path` for the file s, and the lent list goes from old to new
--   GainsCoded s old r new            so too for `gains`
--   AlteredCoded s v x old r new      so too for `gains_altered`, with the WCET of v set to x
use Rattle.std.specs.Prelude.{◌≡◌, List, ℕ, Result, Ok, Err}
use Rattle.graph.specs.Said.{of_answer}
use Rattle.graph.specs.declared.Refusal.{Refusal}
use Rattle.graph.specs.Answer.{Answer, Taken}
use Rattle.graph.specs.declared.Graph.{Graph}
use Rattle.writer.specs.Wrote.{Wrote}
use Rattle.writer.specs.Write.{of_wrote}
use Rattle.mends.specs.Answers.{Mended}
use Rattle.mends.specs.Answers.{Lengths, Refused}
use Rattle.bounds.specs.Answers.{BoundsOf, PathOf, of_pathed}
use Rattle.bounds.specs.Bounded.{Bounded}
use Rattle.bounds.specs.Pathed.{Pathed}
use Rattle.second.specs.Answers.{SecondOf}
use Rattle.second.specs.Seconded.{Seconded}
use Rattle.enough.specs.Answers.{EnoughOf}
use Rattle.enough.specs.Fewest.{Fewest}
use Rattle.gains.specs.Answers.{GainsOf, AlteredOf, of_gained}
use Rattle.gains.specs.Gained.{Gained}
use Rattle.codes.specs.declared.PlannerGraph.{PlannerGraph}
use Rattle.codes.specs.declared.PlannerCount.{PlannerCount}
use Rattle.codes.specs.declared.PlannerMended.{PlannerMended}
use Rattle.codes.specs.declared.PlannerBounds.{PlannerBounds}
use Rattle.codes.specs.declared.PlannerSecond.{PlannerSecond}
use Rattle.codes.specs.declared.PlannerEnough.{PlannerEnough}

-- the graph where it is accepted, else the refusal
abbrev pub with_graph : Answer → Graph → Result Graph Refusal
with_graph (Ok _) g = Ok g
with_graph (Err r) g = Err r

abbrev pub coded_graph_of : Taken → PlannerGraph
coded_graph_of t = record { number = (of_answer t.answer).number; place = (of_answer t.answer).place; graph = t.graph }

-- whatever is counted: the bytes of a file, the vertices of a path, the gains
abbrev pub coded_count_of : Result ℕ Refusal → PlannerCount
coded_count_of (Ok n) = record { number = 0; place = 0; count = n }
coded_count_of (Err r) = record { number = r.number; place = r.place; count = 0 }

abbrev pub coded_wrote_of : Wrote → PlannerCount
coded_wrote_of w = record { number = (of_wrote w).number; place = (of_wrote w).place; count = (of_wrote w).value }

abbrev pub coded_mend_of : Mended → PlannerMended
coded_mend_of (Ok sizes) = record { number = 0; place = 0; file = sizes.file; list = sizes.list }
coded_mend_of (Err r) = record { number = r.number; place = r.place; file = 0; list = 0 }

abbrev pub coded_path_of : Pathed → PlannerCount
coded_path_of p = record { number = (of_pathed p).number; place = (of_pathed p).place; count = (of_pathed p).value }

abbrev pub coded_gains_of : Gained → PlannerCount
coded_gains_of g = record { number = (of_gained g).number; place = (of_gained g).place; count = (of_gained g).value }

abbrev pub coded_bounds_of : Bounded → PlannerBounds
coded_bounds_of b = record {
  number = (of_answer b.answer).number;
  place = (of_answer b.answer).place;
  old = b.old.0;
  new = b.new.0;
  ticks = b.ticks.0;
}

pub record BoundsCoded (s : List ℕ) (r : PlannerBounds) : Type 0 where
  pub bounded : Bounded
  pub of : BoundsOf s bounded
  pub coded : r ≡ coded_bounds_of bounded

abbrev pub coded_second_of : Seconded → PlannerSecond
coded_second_of r = record { number = (of_answer r.answer).number; place = (of_answer r.answer).place; parts = r.parts.0 }

pub record SecondCoded (s : List ℕ) (r : PlannerSecond) : Type 0 where
  pub seconded : Seconded
  pub of : SecondOf s seconded
  pub coded : r ≡ coded_second_of seconded

abbrev pub coded_enough_of : Fewest → PlannerEnough
coded_enough_of r = record { number = (of_answer r.answer).number; place = (of_answer r.answer).place; cores = r.cores }

pub record EnoughCoded (s : List ℕ) (k d : ℕ) (r : PlannerEnough) : Type 0 where
  pub fewest : Fewest
  pub of : EnoughOf s k d fewest
  pub coded : r ≡ coded_enough_of fewest

pub record PathCoded (s old : List ℕ) (r : PlannerCount) (new : List ℕ) : Type 0 where
  pub found : Pathed
  pub of : PathOf s old found new
  pub coded : r ≡ coded_path_of found

pub record GainsCoded (s old : List ℕ) (r : PlannerCount) (new : List ℕ) : Type 0 where
  pub found : Gained
  pub of : GainsOf s old found new
  pub coded : r ≡ coded_gains_of found

pub record AlteredCoded (s : List ℕ) (v x : ℕ) (old : List ℕ) (r : PlannerCount) (new : List ℕ) : Type 0 where
  pub found : Gained
  pub of : AlteredOf s v x old found new
  pub coded : r ≡ coded_gains_of found
