-- A file with all four faults, mended by the definitions and computed: a stray byte in a vertex, one in an edge that moves and one in an
-- edge that goes; an edge from vertex 1 to itself; a double; edges out of order; and one that slides past those that go and is not moved.
use mathlib.Core.Path.{◌≡◌, refl}
use mathlib.Core.List.{List, [], ◌∷◌, ◌++◌}
use Prim.Native.Nat.{ℕ}
use Rattle.model.specs.Places.{first, count, any, table}
use Rattle.graph.specs.File.{key_at, order, is_order}
use Rattle.mends.specs.Mends.{must_be_zero_of, stray_at, stray, loop, has_same_ends, double, stays, kept, seat, lesser, rank, moved}
use Rattle.mends.specs.Mended.{no_edge, heads, place, lands, source, byte_from, built, everywhere, mended_of}
use Rattle.mends.specs.Listed.{entry_if, entries, list_up_to, list_of}

abbrev kinds : List ℕ
kinds = 0x54 ∷ 0 ∷ 2 ∷ 0 ∷ 0 ∷ 0 ∷ 0 ∷ 0 ∷ []

abbrev vertex : ℕ → ℕ → ℕ → List ℕ
vertex v spare wcet = 0x56 ∷ v ∷ 0 ∷ spare ∷ wcet ∷ 0 ∷ 0 ∷ 0 ∷ []

abbrev edge : ℕ → ℕ → ℕ → List ℕ
edge u v spare = 0x45 ∷ u ∷ v ∷ spare ∷ 0 ∷ spare ∷ 0 ∷ 0 ∷ []

abbrev note : ℕ → ℕ → List ℕ
note letter k = letter ∷ k ∷ 0 ∷ 0 ∷ 0 ∷ 0 ∷ 0 ∷ 0 ∷ []

abbrev tangled : List ℕ
tangled =
    kinds
    ++ (vertex 0 7 4 ++ (vertex 1 0 9 ++ (vertex 2 0 6 ++ (vertex 3 0 1 ++ (edge 1 2 0 ++ (edge 0 1 5 ++ (edge 1 1 3 ++ (edge 1 2 0 ++ (edge 0 2 0 ++ edge 2 3 0)))))))))

abbrev clean : List ℕ
clean =
    kinds ++ (vertex 0 0 4 ++ (vertex 1 0 9 ++ (vertex 2 0 6 ++ (vertex 3 0 1 ++ (edge 0 1 0 ++ (edge 0 2 0 ++ (edge 1 2 0 ++ edge 2 3 0)))))))

pub tangled_mended : mended_of tangled ≡ clean
unfolding first count any table key_at order is_order must_be_zero_of stray_at stray loop has_same_ends double stays kept lesser rank no_edge heads place lands source byte_from built everywhere mended_of
tangled_mended = refl

-- C 1, M 5, C 6, M 6, C 7, D 7, X 8, M 9
pub tangled_list : list_of tangled
    ≡ note 0x43 1 ++ (note 0x4D 5 ++ (note 0x43 6 ++ (note 0x4D 6 ++ (note 0x43 7 ++ (note 0x44 7 ++ (note 0x58 8 ++ note 0x4D 9))))))
unfolding first count any table key_at order is_order must_be_zero_of stray_at stray loop has_same_ends double stays kept seat lesser rank moved entry_if entries list_up_to list_of
tangled_list = refl
