-- What the entries of order 1 give for a file s. A lent list goes from old to new.
--
--   GainedIn G old r new         of the graph G: 15 where there are fewer than N places, else the gain of each vertex at its place; the places past
--                                them keep what they held
--   GainsOf s old r new          the answer of `gains`: the reader's refusal, or that
--   AlteredIn g v x old r new    of an accepted graph with the WCET of v set to x: 7 at 0 where it has no vertex v, whatever x is; 7 at the vertex's
--                                record where x is above the limit; else the gains of the altered graph
--   AlteredOf s v x old r new    the answer of `gains_altered`: the reader's refusal, or that
--   of_gained r                   the answer in document 01's numbers: its value is how many vertices there are
use Rattle.std.specs.Prelude.{Ok, Err}
use Rattle.std.specs.Prelude.{◌≡◌, List, ◌++◌, ℕ, ◌+◌, ◌≤◌, ◌<◌, length, get_or, drop}
use Rattle.model.specs.Graph.{Graph}
use Rattle.model.specs.Gain.{with_wcet, GainOf}
use Rattle.graph.specs.Model.{as_model}
use Rattle.graph.specs.Judge.{read_of}
use Rattle.graph.specs.Said.{Said, said_no}
use Rattle.graph.specs.declared.Graph as reader
use Rattle.graph.specs.declared.Refusal.{Refusal}
use Rattle.graph.specs.Answer.{Accepted, Refused}
use Rattle.gains.specs.Gained.{Gained}
use Rattle.gains.specs.Gained.{Vertices, Refused as NoGains}

pub data GainedIn (G : Graph) (old : List ℕ) : Gained → List ℕ → Type 0 where
  narrow : length old < G.n → GainedIn G old (NoGains (record { number = 15; place = 0 })) old
  found : (l : List ℕ) → G.n ≤ length old → length l ≡ G.n → ((v : ℕ) → v < G.n → GainOf G v (get_or l v 0)) → GainedIn G old (Vertices G.n) (l ++ drop G.n old)

pub data GainsOf (s old : List ℕ) : Gained → List ℕ → Type 0 where
  refused : {x : Refusal} → (read_of s).answer ≡ Refused x → GainsOf s old (NoGains x) old
  accepted : {r : Gained} {new : List ℕ} → (read_of s).answer ≡ Accepted → GainedIn (as_model (read_of s).graph) old r new → GainsOf s old r new

pub data AlteredIn (g : reader.Graph) (v x : ℕ) (old : List ℕ) : Gained → List ℕ → Type 0 where
  no_vertex : g.n ≤ v → AlteredIn g v x old (NoGains (record { number = 7; place = 0 })) old
  too_long : v < g.n → 1000000 < x → AlteredIn g v x old (NoGains (record { number = 7; place = g.kinds + v })) old
  altered : {r : Gained} {new : List ℕ} → v < g.n → x ≤ 1000000 → GainedIn (with_wcet (as_model g) v x) old r new → AlteredIn g v x old r new

pub data AlteredOf (s : List ℕ) (v x : ℕ) (old : List ℕ) : Gained → List ℕ → Type 0 where
  refused : {y : Refusal} → (read_of s).answer ≡ Refused y → AlteredOf s v x old (NoGains y) old
  accepted : {r : Gained} {new : List ℕ} → (read_of s).answer ≡ Accepted → AlteredIn (read_of s).graph v x old r new → AlteredOf s v x old r new

abbrev pub of_gained : Gained → Said
of_gained (Ok n) = record { number = 0; place = 0; value = n }
of_gained (Err r) = said_no r
