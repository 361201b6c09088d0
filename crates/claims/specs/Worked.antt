-- The starred cases of document 01, "Worked on paper", and those of the orders, from the file's bytes: one table.
--
--   Row            a line of the table
--   Right          what a line says
--   rows           all lines
use Rattle.std.specs.Prelude.{◌≡◌, List, [], ◌∷◌, ◌++◌, ℕ, suc, ◌/◌, length, get_or, replicate}
use Rattle.model.specs.Graph.{Graph}
use Rattle.model.specs.Bounds.{PARTS, OldB, NewB1, ThePath}
use Rattle.model.specs.Second.{NewB2}
use Rattle.model.specs.Gain.{GainOf}
use Rattle.model.specs.Ranking.{Ranking}
use Rattle.graph.specs.Judge.{read_of}
use Rattle.graph.specs.Answer.{Answer}
use Rattle.graph.specs.Answer.{Refused}
use Rattle.schedule.specs.Start.{start_of}
use Rattle.schedule.specs.Whole.{play_of, finishes_of}
use Rattle.schedule.specs.Played.{Finish}
use Rattle.claims.specs.Claims.{IsAccepted, graph_in}

-- the file's bounds in parts, NEW-B-1 in whole ticks, and its path; NEW-B-2 in parts; the gain of each vertex, and the vertices by gain; a whole run with these
-- times: finish instants and finish; a refused file; a refused start
pub data Row : Type 0 where
  bounds : (file : List ℕ) (old new ticks : ℕ) (path : List ℕ) → Row
  second : (file : List ℕ) (parts : ℕ) → Row
  gains : (file gain ranking : List ℕ) → Row
  run : (file times finishes : List ℕ) (finish : ℕ) → Row
  no_file : (file : List ℕ) (number place : ℕ) → Row
  no_start : (file times : List ℕ) (number place : ℕ) → Row

pub record HasBounds (file : List ℕ) (old new ticks : ℕ) (path : List ℕ) : Type 0 where
  pub is_accepted : IsAccepted file
  pub has_old : OldB (graph_in file) old
  pub has_new : NewB1 (graph_in file) new
  pub has_ticks : new / PARTS ≡ ticks
  pub has_path : ThePath (graph_in file) path

pub record HasSecond (file : List ℕ) (parts : ℕ) : Type 0 where
  pub is_accepted : IsAccepted file
  pub has_second : NewB2 (graph_in file) parts

-- the gains of the vertices from v on
abbrev pub EachGain : Graph → ℕ → List ℕ → Type 0
EachGain G v [] = Unit {0}
EachGain G v (x ∷ l) = GainOf G v x × EachGain G (suc v) l

pub record HasGains (file gain ranking : List ℕ) : Type 0 where
  pub is_accepted : IsAccepted file
  pub has_many : length gain ≡ (graph_in file).n
  pub has_gains : EachGain (graph_in file) 0 gain
  pub has_ranking : Ranking (length gain) (λ v. get_or gain v 0) ranking

pub record HasRun (file times finishes : List ℕ) (finish : ℕ) : Type 0 where
  pub answer : play_of file times (length finishes) ≡ Finish (record { 0 = finish })
  pub lent : finishes_of file times (replicate (length finishes) 0) ≡ finishes

abbrev refused_with : ℕ → ℕ → Answer
refused_with number place = Refused (record { number = number; place = place })

abbrev pub Right : Row → Type 0
Right (bounds file old new ticks path) = HasBounds file old new ticks path
Right (second file parts) = HasSecond file parts
Right (gains file gain ranking) = HasGains file gain ranking
Right (run file times finishes finish) = HasRun file times finishes finish
Right (no_file file number place) = (read_of file).answer ≡ refused_with number place
Right (no_start file times number place) = (start_of file times).answer ≡ refused_with number place

abbrev pub All : (Row → Type 0) → List Row → Type 0
All P [] = Unit {0}
All P (r ∷ l) = P r × All P l

-- ---- the files

abbrev kind : ℕ → ℕ → List ℕ
kind i cores = 0x54 ∷ i ∷ cores ∷ 0 ∷ 0 ∷ 0 ∷ 0 ∷ 0 ∷ []

abbrev vertex : ℕ → ℕ → ℕ → List ℕ
vertex i k wcet = 0x56 ∷ i ∷ k ∷ 0 ∷ wcet ∷ 0 ∷ 0 ∷ 0 ∷ []

abbrev edge : ℕ → ℕ → List ℕ
edge u v = 0x45 ∷ u ∷ v ∷ 0 ∷ 0 ∷ 0 ∷ 0 ∷ 0 ∷ []

abbrev vertices_a : List ℕ
vertices_a = vertex 0 0 4 ++ vertex 1 1 9 ++ vertex 2 0 6 ++ vertex 3 1 3

-- case A with another number of cores of kind 0, and with other edges
abbrev with_edges : ℕ → List ℕ → List ℕ
with_edges cores edges = kind 0 cores ++ kind 1 3 ++ vertices_a ++ edges

abbrev edges_a : List ℕ
edges_a = edge 0 1 ++ edge 0 2 ++ edge 1 3 ++ edge 2 3

abbrev pub file_a : List ℕ
file_a = with_edges 2 edges_a

abbrev pub file_b : List ℕ
file_b = with_edges 4 edges_a

abbrev pub file_c : List ℕ
file_c = with_edges 16 edges_a

-- case A with a third kind, of 16 cores
abbrev with_vision : List ℕ → List ℕ
with_vision rest = kind 0 2 ++ kind 1 3 ++ kind 2 16 ++ vertices_a ++ rest

abbrev pub file_d : List ℕ
file_d =
    kind 0 1 ++ kind 1 1 ++ vertex 0 0 0 ++ vertex 1 0 3 ++ vertex 2 1 2 ++ vertex 3 1 5 ++ vertex 4 1 1 ++ vertex 5 0 6 ++ vertex 6 0 0
    ++ edge 0 1 ++ edge 0 2 ++ edge 1 3 ++ edge 2 4 ++ edge 3 6 ++ edge 4 5 ++ edge 5 6

abbrev pub file_f : List ℕ
file_f = kind 0 1 ++ vertex 0 0 0

abbrev pub two_equal : List ℕ
two_equal = kind 0 2 ++ vertex 0 0 2 ++ vertex 1 0 3 ++ vertex 2 0 3 ++ vertex 3 0 4 ++ edges_a

-- three vertices of WCET 1, two kinds of one core; 0 has kind 1, and 1 and 2 have kind 0
abbrev three : List ℕ → List ℕ
three edges = kind 0 1 ++ kind 1 1 ++ vertex 0 1 1 ++ vertex 1 0 1 ++ vertex 2 0 1 ++ edges

abbrev pub joined : List ℕ
joined = three (edge 0 2 ++ edge 1 2)

abbrev pub parted : List ℕ
parted = three (edge 0 2)

abbrev pub chain : List ℕ
chain = kind 0 2 ++ vertex 0 0 3 ++ vertex 1 0 0 ++ vertex 2 0 2 ++ edge 0 1 ++ edge 1 2

-- ---- the table

abbrev pub rows : List Row
rows =
    -- A
    bounds file_a 14174160 13693680 19 (0 ∷ 1 ∷ 3 ∷ [])
    ∷ run file_a (4 ∷ 9 ∷ 6 ∷ 3 ∷ []) (4 ∷ 13 ∷ 10 ∷ 16 ∷ []) 16
    ∷ gains file_a (2882880 ∷ 4324320 ∷ 2162160 ∷ 2162160 ∷ []) (1 ∷ 0 ∷ 2 ∷ 3 ∷ [])
    -- B, C: A with 4 and with 16 cores of kind 0. With more cores OLD-B is larger
    ∷ bounds file_b 13333320 12612600 17 (0 ∷ 1 ∷ 3 ∷ [])
    ∷ bounds file_c 14144130 11801790 16 (0 ∷ 1 ∷ 3 ∷ [])
    -- order 11: without the edge 1-2 NEW-B-2 is larger
    ∷ second joined 1441440
    ∷ second parted 2162160
    -- D, and E: vertex 1 takes 2
    ∷ bounds file_d 12252240 12252240 17 (0 ∷ 1 ∷ 3 ∷ 6 ∷ [])
    ∷ run file_d (0 ∷ 3 ∷ 2 ∷ 5 ∷ 1 ∷ 6 ∷ 0 ∷ []) (0 ∷ 3 ∷ 2 ∷ 8 ∷ 3 ∷ 9 ∷ 9 ∷ []) 9
    ∷ run file_d (0 ∷ 2 ∷ 2 ∷ 5 ∷ 1 ∷ 6 ∷ 0 ∷ []) (0 ∷ 2 ∷ 2 ∷ 7 ∷ 8 ∷ 14 ∷ 14 ∷ []) 14
    -- F
    ∷ bounds file_f 0 0 0 (0 ∷ [])
    ∷ run file_f (0 ∷ []) (0 ∷ []) 0
    -- order 1: two equal longest paths, 0 1 3 and 0 2 3; a WCET of 0 in a chain
    ∷ gains two_equal (1441440 ∷ 1081080 ∷ 1081080 ∷ 2882880 ∷ []) (3 ∷ 0 ∷ 1 ∷ 2 ∷ [])
    ∷ gains chain (2162160 ∷ 0 ∷ 1441440 ∷ []) (0 ∷ 2 ∷ 1 ∷ [])
    -- G: empty; H: seven bytes
    ∷ no_file [] 4 0
    ∷ no_file (0x54 ∷ 0 ∷ 2 ∷ 0 ∷ 0 ∷ 0 ∷ 0 ∷ []) 1 0
    -- I: A with 3-0 added last; J: A without 0-2, which order 3 accepts; K: A with 0-1 twice
    ∷ no_file (with_edges 2 (edges_a ++ edge 3 0)) 11 0
    ∷ bounds (with_edges 2 (edge 0 1 ++ edge 1 3 ++ edge 2 3)) 14174160 13693680 19 (0 ∷ 1 ∷ 3 ∷ [])
    ∷ no_file (with_edges 2 (edge 0 1 ++ edges_a)) 10 7
    -- L: times 4, 10, 6, 3 on A
    ∷ no_start file_a (4 ∷ 10 ∷ 6 ∷ 3 ∷ []) 14 1
    -- order 2: A with a third kind of 16 cores that no vertex has; and that a vertex of WCET 0 has, between 0 and 3
    ∷ bounds (with_vision edges_a) 14174160 13693680 19 (0 ∷ 1 ∷ 3 ∷ [])
    ∷ bounds (with_vision (vertex 4 2 0 ++ edge 0 1 ++ edge 0 2 ++ edge 0 4 ++ edge 1 3 ++ edge 2 3 ++ edge 4 3)) 17297280 13693680 19 (0 ∷ 1 ∷ 3 ∷ [])
    -- order 4: A, 16 ticks, below its NEW-B-1; J, which has two sources: vertex 2 is parallel to the first vertex of the path 0 1 3, and counts
    ∷ second file_a 11531520
    ∷ second (with_edges 2 (edge 0 1 ++ edge 1 3 ++ edge 2 3)) 13693680
    ∷ []
