-- A small log, computed from the definitions. Three vertices of one kind of two cores: vertex 1 runs from 0 on and, after a stop and a start at
-- the instant 2, on to 4; vertex 0 runs from 2 to 4. At 2 the stop of vertex 1 frees nothing: vertex 0, which starts before it, takes the core 1.
use mathlib.Core.Path.{◌≡◌, refl}
use mathlib.Core.List.{List, [], ◌∷◌, ◌++◌}
use Prim.Native.Nat.{ℕ}
use Rattle.model.specs.Places.{any, first, table}
use Rattle.graph.specs.File.{word_at}
use Rattle.recorded.specs.Log.{is_start, instant_at, starts}
use Rattle.lanes.specs.Lanes.{starts_later, runs_on_of, has_core, taken, core_of, lanes_of}

abbrev start : ℕ → ℕ → List ℕ
start v t = 0x53 ∷ v ∷ 0 ∷ 0 ∷ t ∷ 0 ∷ 0 ∷ 0 ∷ []

abbrev stop : ℕ → ℕ → List ℕ
stop v t = 0x50 ∷ v ∷ 0 ∷ 0 ∷ t ∷ 0 ∷ 0 ∷ 0 ∷ []

pub runs-on-keeps :
    lanes_of 3 (start 1 0 ++ (stop 1 2 ++ (start 0 2 ++ (start 1 2 ++ (stop 0 4 ++ stop 1 4))))) (λ v. 0) (λ s. 2) ≡ 0 ∷ 0 ∷ 1 ∷ 0 ∷ 1 ∷ 0 ∷ []
unfolding lanes_of core_of has_core runs_on_of starts_later taken any first table starts is_start instant_at word_at
runs-on-keeps = refl
