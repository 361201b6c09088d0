-- For our own layers alone: no contract for callers and no claim cites this file.
--
-- A graph whose lists are lent one by one, since a graph by value is copied on its way.
--
--   EdgesOf g n edge starts                          N and the edges that are lent are those of the graph, which is accepted
--   ListsOf g kinds cores words edge starts          what a tick or a leap goes by is the graph's
--   GraphOf g kinds n cores kind edge starts         what a run goes by is the graph's
--   TestOf g kinds n cores words wcet pred           what a record is tested by is the graph's
use Rattle.std.specs.Prelude.{◌≡◌, List, ℕ}
use Rattle.model.specs.Places.{table}
use Rattle.graph.specs.declared.Graph.{Graph}
use Rattle.graph.specs.Model.{AcceptedGraph}
use Rattle.choice.specs.Choice.{OfKinds}
use Rattle.starts.specs.Starts.{first_edge}
use Rattle.sets.specs.Sets.{Holds}
use Rattle.rows.specs.Rows.{predecessor}

pub record EdgesOf (g : Graph) (n : ℕ) (edge starts : List ℕ) : Type 0 where
  pub accepted : AcceptedGraph g
  pub n_is : n ≡ g.n
  pub edges_are : edge ≡ g.edge
  pub starts_are : starts ≡ table (first_edge g) 129

pub record ListsOf (g : Graph) (kinds : ℕ) (cores words edge starts : List ℕ) : Type 0 where
  pub accepted : AcceptedGraph g
  pub kinds_are : kinds ≡ g.kinds
  pub cores_are : cores ≡ g.cores
  pub words_are : OfKinds words g.kind g.n
  pub edges_are : edge ≡ g.edge
  pub starts_are : starts ≡ table (first_edge g) 129

pub record GraphOf (g : Graph) (kinds n : ℕ) (cores kind edge starts : List ℕ) : Type 0 where
  pub edges : EdgesOf g n edge starts
  pub kinds_are : kinds ≡ g.kinds
  pub cores_are : cores ≡ g.cores
  pub kind_is : kind ≡ g.kind

pub record TestOf (g : Graph) (kinds n : ℕ) (cores words wcet : List ℕ) (pred : List (List ℕ)) : Type 0 where
  pub accepted : AcceptedGraph g
  pub kinds_are : kinds ≡ g.kinds
  pub n_is : n ≡ g.n
  pub cores_are : cores ≡ g.cores
  pub words_are : OfKinds words g.kind g.n
  pub wcet_is : wcet ≡ g.wcet
  pub rows_are : Holds pred (predecessor g.edge g.edges)
