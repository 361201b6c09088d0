-- For our own layers alone: no contract for callers and no claim cites this file.
--
-- What the pass over a log in form has between two records. `lent` is the graph that was laid, `l` the log, n how many vertices there are, k how
-- many records are passed.
--
--   LentOf g lent               what is lent is of the graph g, which is accepted
--   Lists lent l words lasts     what a step goes by
--   used_by kind n l k s         how many vertices of kind s run
--   Used kind n l k used        the list has these numbers
--   full_by kind cores n l k v   v is of a kind with no idle core
--   Framed lent l k used waiting f    the frame f, and the tables that go with it, say how it stands
--   idles f v                   v could run, does not, and a core of its kind is idle, by the frame f
--   crowded_by kind cores n l k  number 20 holds for record k
--   MovedBy lent l k used waiting r    how it stands after record k, and whether 20 holds for it
--   FirstIn p m o               o is the first place below m at which p holds, or None
--   FaultsBy G l k r            r holds the first places of 19, 20 and 22, as far as k records tell them
--   PassedBy lent l k used waiting p   a pass: how it stands, the instant of the record before, and what is found of the graph
use Rattle.std.specs.Prelude.{◌≡◌, Bool, not, ◌&&◌, List, ℕ, ◌+◌, ◌≤◌, ◌<◌, length, get_or, eqb, ltb, leb, Option, Some, None}
use Rattle.model.specs.Places.{first, count, table}
use Rattle.model.specs.Graph as model
use Rattle.graph.specs.File.{records}
use Rattle.graph.specs.Model.{as_model, AcceptedGraph}
use Rattle.graph.specs.declared.Graph.{Graph}
use Rattle.reader.specs.declared.Laid.{Laid}
use Rattle.vset.specs.Members.{is_in, Members}
use Rattle.starts.specs.Starts.{first_edge}
use Rattle.choice.specs.Choice.{OfKinds}
use Rattle.waiting.specs.Waiting.{edges_by, Layout, Settled}
use Rattle.recorded.specs.Log.{is_start, who, running, InForm}
use Rattle.recorded.specs.Rules.{rule19, rule20, rule22}
use Rattle.formed.specs.Passing.{clock_at, last_of, Lasted}
use Rattle.frames.specs.declared.Frame.{Frame}
use Rattle.frames.specs.declared.Moved.{Moved}
use Rattle.frames.specs.declared.Faults.{Faults}
use Rattle.frames.specs.declared.Pass.{Pass}

pub record LentOf (g : Graph) (lent : Laid) : Type 0 where
  pub accepted : AcceptedGraph g
  pub n_is : lent.graph.n ≡ g.n
  pub cores_are : lent.graph.cores ≡ g.cores
  pub kind_is : lent.graph.kind ≡ g.kind
  pub edges_are : lent.graph.edge ≡ g.edge
  pub starts_are : lent.starts ≡ table (first_edge g) 129

pub record Lists (lent : Laid) (l words lasts : List ℕ) : Type 0 where
  pub few : lent.graph.n ≤ 128
  pub in_form : InForm lent.graph.n l
  pub known : (v : ℕ) → v < lent.graph.n → get_or lent.graph.kind v 0 < 10
  pub words_are : OfKinds words lent.graph.kind lent.graph.n
  pub layout : Layout lent.graph.edge lent.starts
  pub lasts_are : Lasted l (records l) lasts

unfoldable pub used_by : List ℕ → ℕ → List ℕ → ℕ → ℕ → ℕ
used_by kind n l k s = count (λ u. running l k u && eqb (get_or kind u 0) s) n

pub record Used (kind : List ℕ) (n : ℕ) (l : List ℕ) (k : ℕ) (used : List ℕ) : Type 0 where
  pub size : length used ≡ 10
  pub at : (s : ℕ) → s < 10 → get_or used s 0 ≡ used_by kind n l k s

unfoldable pub full_by : List ℕ → List ℕ → ℕ → List ℕ → ℕ → ℕ → Bool
full_by kind cores n l k v = ltb v n && leb (get_or cores (get_or kind v 0) 0) (used_by kind n l k (get_or kind v 0))

pub record Framed (lent : Laid) (l : List ℕ) (k : ℕ) (used waiting : List ℕ) (f : Frame) : Type 0 where
  pub on_are : Members f.on (running l k)
  -- a vertex has ticks left as long as it has records to come
  pub busy_are : Members f.busy (λ v. ltb k (last_of l v (records l)))
  pub settled : Settled lent.graph.edge (edges_by lent.starts) waiting (is_in f.busy) f.behind
  pub full_are : Members f.full (full_by lent.graph.kind lent.graph.cores lent.graph.n l k)
  pub used_are : Used lent.graph.kind lent.graph.n l k used

abbrev pub idles : Frame → ℕ → Bool
idles f v = ((is_in f.busy v && not (is_in f.behind v)) && not (is_in f.on v)) && not (is_in f.full v)

unfoldable pub crowded_by : List ℕ → List ℕ → ℕ → List ℕ → ℕ → Bool
crowded_by kind cores n l k =
    is_start l k && ltb (get_or cores (get_or kind (who l k) 0) 0) (used_by kind n l (k + 1) (get_or kind (who l k) 0))

pub record MovedBy (lent : Laid) (l : List ℕ) (k : ℕ) (used waiting : List ℕ) (r : Moved) : Type 0 where
  pub framed : Framed lent l (k + 1) used waiting r.frame
  pub crowded_is : r.crowded ≡ crowded_by lent.graph.kind lent.graph.cores lent.graph.n l k

abbrev pub FirstIn : (ℕ → Bool) → ℕ → Option ℕ → Type 0
FirstIn p m (Some i) = (first p m ≡ i) × (i < m)
FirstIn p m None = first p m ≡ m

pub record FaultsBy (G : model.Graph) (l : List ℕ) (k : ℕ) (r : Faults) : Type 0 where
  pub early : FirstIn (rule19 G l) k r.early
  pub crowded : FirstIn (rule20 G l) k r.crowded
  pub idle : FirstIn (rule22 G l) (clock_at l k) r.idle

pub record PassedBy (lent : Laid) (l : List ℕ) (k : ℕ) (used waiting : List ℕ) (p : Pass) : Type 0 where
  pub framed : Framed lent l k used waiting p.frame
  pub clock_is : p.clock ≡ clock_at l k
  pub found : (g : Graph) → LentOf g lent → FaultsBy (as_model g) l k p.faults
