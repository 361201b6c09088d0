-- What the entries give for a file s (document 01, "Numbers that say no", "The two bounds").
--
--   Figures G r         r has the two bounds of G, and NEW-B-1 in whole ticks, rounded down once
--   Nothing r           every figure is 0: what stands beside a refusal
--   Beside a G r        what stands beside the answer a: the figures of G, or nothing
--   BoundsOf s r        the answer of `bounds`: the reader's, and its graph's figures
--   no_room_left              lent room too small: 15 at 0
--   PathIn g old r new  the answer r for an accepted graph, and the lent list from old to new: 15 where there are fewer than N
--                       places, else the path; whatever is not the path stays as it was
--   of_pathed r          the answer in document 01's numbers: its value is how many vertices the path has
--   PathOf s old r new  the answer of `path`, and the lent list: the reader's refusal, or that
use Rattle.std.specs.Prelude.{Ok, Err}
use Rattle.std.specs.Prelude.{◌≡◌, List, ◌++◌, ℕ, ◌/◌, ◌≤◌, ◌<◌, length, drop}
use Rattle.model.specs.Graph.{Graph}
use Rattle.model.specs.Bounds.{PARTS, OldB, NewB1, ThePath}
use Rattle.graph.specs.Model.{as_model}
use Rattle.graph.specs.Judge.{read_of}
use Rattle.graph.specs.Said.{Said, said_no}
use Rattle.graph.specs.declared.Graph as reader
use Rattle.graph.specs.declared.Refusal.{Refusal}
use Rattle.graph.specs.Answer.{Answer}
use Rattle.graph.specs.Answer.{Accepted, Refused}
use Rattle.bounds.specs.Bounded.{Bounded}
use Rattle.bounds.specs.Pathed.{Pathed}
use Rattle.bounds.specs.Pathed.{Vertices, Refused as NoPath}

pub record Figures (G : Graph) (r : Bounded) : Type 0 where
  pub old : OldB G r.old.0
  pub new : NewB1 G r.new.0
  pub ticks : r.ticks.0 ≡ r.new.0 / PARTS

pub record Nothing (r : Bounded) : Type 0 where
  pub old : r.old.0 ≡ 0
  pub new : r.new.0 ≡ 0
  pub ticks : r.ticks.0 ≡ 0

abbrev pub Beside : Answer → Graph → Bounded → Type 0
Beside (Ok _) G r = Figures G r
Beside (Err x) G r = Nothing r

pub record BoundsOf (s : List ℕ) (r : Bounded) : Type 0 where
  pub answer : r.answer ≡ (read_of s).answer
  pub figures : Beside (read_of s).answer (as_model (read_of s).graph) r

abbrev pub no_room_left : Refusal
no_room_left = record { number = 15; place = 0 }

pub data PathIn (g : reader.Graph) (old : List ℕ) : Pathed → List ℕ → Type 0 where
  narrow : length old < g.n → PathIn g old (NoPath no_room_left) old
  found : {p : List ℕ} → g.n ≤ length old → ThePath (as_model g) p → PathIn g old (Vertices (length p)) (p ++ drop (length p) old)

abbrev pub of_pathed : Pathed → Said
of_pathed (Ok n) = record { number = 0; place = 0; value = n }
of_pathed (Err r) = said_no r

pub data PathOf (s old : List ℕ) : Pathed → List ℕ → Type 0 where
  refused : {x : Refusal} → (read_of s).answer ≡ Refused x → PathOf s old (NoPath x) old
  accepted : {r : Pathed} {new : List ℕ} → (read_of s).answer ≡ Accepted → PathIn (read_of s).graph old r new → PathOf s old r new
