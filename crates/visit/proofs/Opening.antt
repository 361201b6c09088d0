-- What a cell that is opened says. The path up to its vertex has the value of the cell, and beside it are the vertices of its set; so the value of
-- each path that goes on from there follows. From a cell to the next: the paths that go on to the chosen vertex are those whose numbers the step
-- says, and at a sink the path ends with the value of the cell.
use mathlib.Core.Path.{◌≡◌, refl, sym, ap, ap₂, ◌∙◌}
use mathlib.Core.Logic.{◌⊎◌, inl, inr}
use mathlib.Core.Bool.{Bool, true, false, not, ◌&&◌, ◌||◌}
use mathlib.Core.List.{List, [], ◌∷◌}
use Prim.Native.Nat.{ℕ, suc, ◌+◌, ◌-◌, ◌*◌, ◌/◌, ◌≤◌, ◌<◌}
use native.Mathlib.Nat.{div-le_self}
use native.Mathlib.Omega.{arith}
use lib.ListN.{get_or}
use borrow.Author.Tests.{lt-ltb, le-ltb, eq-eqb, ne_eqb}
use Rattle.model.specs.Places.{pick, sum, count}
use Rattle.model.specs.Graph.{Edge, source, sink, WellFormed}
use Rattle.model.specs.Graph as model
use Rattle.model.specs.Cycle.{Acyclic, ancestor}
use Rattle.model.specs.Bounds.{PARTS}
use Rattle.model.specs.Second.{parallel, second}
use Rattle.model.specs.PathCount.{ways, path_count}
use Rattle.model.specs.Visit.{path_within, path_at, nothing, fresh, widened, gained, value_from}
use Rattle.model.proofs.Bools.{le-or-lt}
use Rattle.model.proofs.Sums.{sum_ext, sum_more, sum-up, sum-most}
use Rattle.model.proofs.Turns.{sum_past}
use Rattle.model.proofs.Cycles.{ranked}
use Rattle.model.proofs.Numbered.{amid-at}
use Rattle.model.proofs.Counted.{path-ends, path-goes-on}
use Rattle.model.proofs.Ways.{ways-step, ways-below}
use Rattle.model.proofs.Visit.{gained-most, value_same, second_walked}
use Rattle.graph.specs.declared.Graph as reader
use Rattle.graph.specs.Model.{as_model}
use Rattle.vset.specs.declared.Vset.{Vset}
use Rattle.vset.specs.Members.{is_in}
use Rattle.summary.specs.Row.{many, nth, Row}
use Rattle.summary.proofs.Along.{nth-joins, row}
use Rattle.ways.specs.Counts.{from_source_of}
use Rattle.ways.proofs.Counting.{counts-few}
use Rattle.ways.proofs.Rows.{row-part, row-whole, row-sink}
use Rattle.sets.specs.Sets.{row_of}
use Rattle.parallel.specs.Rows.{beside}
use Rattle.visit.specs.declared.cell.Cell.{Cell}
use Rattle.visit.specs.declared.choose.Step.{Step}
use Rattle.paths.specs.Ahead.{Sources}
use Rattle.visit.specs.Cells.{Ground, Laid, Open, Stands, total_of, Opened, Chosen, Begun}

-- the paths that go on with v have the numbers from base on, and the value x where U is beside them
abbrev pub Passing : model.Graph → (ℕ → Bool) → ℕ → ℕ → ℕ → Type 0
Passing G U x v base = (k : ℕ) → base ≤ k → k < base + ways G v → second G (path_at G k) ≡ value_from G U x (path_within G G.n v (k - base))

module _ {g : reader.Graph} {wy : List ℕ} {r : List (List ℕ)} {k c sh : List ℕ} (D : Ground g wy r k c sh) where
  well_formed : WellFormed (as_model g)
  well_formed = D.accepted.well_formed

  acyclic : Acyclic (as_model g)
  acyclic = D.accepted.acyclic

  -- ---- the tables

  pub few_vertices : g.n ≤ 128
  few_vertices = D.accepted.few_vertices

  pub short : (v : ℕ) → get_or c v 0 ≤ 1000000
  short v = rw (← D.wcet) (go (le-or-lt g.n v))
    where
      go : (g.n ≤ v) ⊎ (v < g.n) → get_or g.wcet v 0 ≤ 1000000
      go (inl h) = omega (arith, D.accepted.wcet_past v h)
      go (inr h) = D.accepted.short v h

  -- no number was cut
  pub number : (v : ℕ) → v < g.n → get_or wy v 0 ≡ ways (as_model g) v
  unfolding as_model
  number v l = omega (arith, D.numbers.number v l, ways-below well_formed acyclic v l, D.few)

  pub numbers-few : (v : ℕ) → get_or wy v 0 ≤ 4097
  numbers-few = counts-few D.numbers

  pub kind-few : (v : ℕ) → v < g.n → get_or k v 0 < 10
  unfolding as_model
  kind-few v l = rw (← D.kind) (omega (arith, well_formed.kind_known v l, D.accepted.few_kinds))

  share-is : (v : ℕ) → v < g.n → get_or sh (get_or k v 0) 0 ≡ PARTS / (as_model g).cores ((as_model g).kind v)
  unfolding as_model
  share-is v l = rw (← D.kind) (D.shares (get_or g.kind v 0) (well_formed.kind_known v l))

  pub share-small : (v : ℕ) → v < g.n → get_or sh (get_or k v 0) 0 ≤ 720720
  share-small v l = omega (arith, share-is v l, div-le_self PARTS ((as_model g).cores ((as_model g).kind v)))

  -- ---- a cell that is opened

  module _ (v : ℕ) (l : v < g.n) (base : ℕ) (U : Vset) (x : ℕ) (cell : Cell) (O : Opened r k c sh v base U x cell) where
    in_row : (w : ℕ) → is_in (row_of r v) w ≡ beside (as_model g) v w
    in_row w = D.rows.row v w (omega (arith, few_vertices))

    -- in its row are those parallel to it
    known-row : (w : ℕ) → w < g.n → is_in (row_of r v) w ≡ parallel (as_model g) w v
    unfolding beside as_model
    known-row w m = in_row w ∙ rw (lt-ltb v g.n l, lt-ltb w g.n m) refl

    past_row : (w : ℕ) → g.n ≤ w → is_in (row_of r v) w ≡ false
    unfolding beside as_model
    past_row w m = in_row w ∙ rw (lt-ltb v g.n l, le-ltb w g.n m) refl

    fresh-total : total_of c (λ w. is_in (row_of r v) w && not (is_in U w)) ≡ sum (λ w. pick (fresh (as_model g) (is_in U) v w) ((as_model g).wcet w) 0) g.n
    unfolding fresh as_model
    fresh-total =
        sum_past (λ w. pick (is_in (row_of r v) w && not (is_in U w)) (get_or c w 0) 0) g.n 128 few_vertices (λ w a b. rw (past_row w a) refl)
        ∙ sum_ext (λ w. pick (is_in (row_of r v) w && not (is_in U w)) (get_or c w 0) 0) (λ w. pick (not (is_in U w) && parallel (as_model g) w v) (get_or g.wcet w 0) 0) g.n
        (λ w m. ap₂ (λ (b : Bool) (y : List ℕ). pick b (get_or y w 0) 0) (ap (λ (b : Bool). b && not (is_in U w)) (known-row w m) ∙ turned (parallel (as_model g) w v) (is_in U w)) (sym D.wcet))
      where
        turned : (a b : Bool) → a && not b ≡ not b && a
        turned true true = refl
        turned true false = refl
        turned false true = refl
        turned false false = refl

    value-is : cell.value ≡ x + gained (as_model g) (is_in U) v
    unfolding gained as_model
    value-is =
        O.value
        ∙ ap₂ (λ (a b : ℕ). x + (get_or c v 0 * PARTS + a * b)) fresh-total (share-is v l)
        ∙ ap (λ (y : List ℕ). x + (get_or y v 0 * PARTS + sum (λ w. pick (fresh (as_model g) (is_in U) v w) ((as_model g).wcet w) 0) g.n * (PARTS / get_or g.cores (get_or g.kind v 0) 0)))
        (sym D.wcet)

    set_is : (w : ℕ) → w < (as_model g).n → widened (as_model g) (is_in U) v w ≡ is_in cell.beside w
    unfolding as_model
    set_is w m = sym (O.set.are w ∙ ap (λ (b : Bool). is_in U w || b) (known-row w m))

    pub opens : Passing (as_model g) (is_in U) x v base → Open (as_model g) cell
    unfolding value_from
    opens P i a b p q =
        P i (omega (arith, O.first)) (omega (arith, O.first, ap (ways (as_model g)) O.vertex))
        ∙ ap (value_from (as_model g) (is_in U) x) (ap₂ (λ (y z : ℕ). path_within (as_model g) (as_model g).n y (i - z)) (sym O.vertex) (sym O.first) ∙ (q ∙ ap (λ (y : ℕ). y ∷ p) O.vertex))
        ∙ value_same (as_model g) (widened (as_model g) (is_in U) v) (is_in cell.beside) (x + gained (as_model g) (is_in U) v) p set_is
        ∙ ap (λ (y : ℕ). value_from (as_model g) (is_in cell.beside) y p) (sym value-is)

    pub value-small : cell.value ≤ x + 92972880000000
    unfolding as_model
    value-small =
        omega (
          arith,
          value-is,
          gained-most (as_model g) (is_in U) v,
          D.accepted.short v l,
          sum-most (as_model g).wcet 1000000 g.n D.accepted.short,
          few_vertices,
        )

    -- the cell of the i-th vertex
    pub stands : (i m : ℕ) → i ≤ count (λ u. ancestor (as_model g) u v) (as_model g).n → base ≤ m → x ≤ 92972880000000 * i
        → Passing (as_model g) (is_in U) x v base
        → Stands (as_model g) i m cell
    unfolding as_model
    stands i m deep low small P = record {
      known = rw O.vertex l;
      deep = rw O.vertex deep;
      begun = rw O.first low;
      carries = opens P;
      small = omega (arith, value-small);
    }

  -- ---- the source

  module _ (w : List ℕ) (S : Sources g w) where
    from-sources : (n : ℕ) → n ≤ g.n → sum (from_source_of w wy) n ≡ sum (λ v. pick (source (as_model g) v) (ways (as_model g) v) 0) n
    from-sources n h = sum_ext (from_source_of w wy) (λ v. pick (source (as_model g) v) (ways (as_model g) v) 0) n
        (λ v m. ap₂ (λ (b : Bool) (y : ℕ). pick b y 0) (S v (omega arith)) (number v (omega arith)))

    pub all_sources : sum (from_source_of w wy) g.n ≡ path_count (as_model g)
    unfolding path_count as_model
    all_sources = from-sources g.n (omega arith)

    pub source-passing : (m : ℕ) (s : Step) → Begun w wy g.n m s → Passing (as_model g) nothing 0 s.v s.base
    unfolding path_at as_model
    source-passing m s B i a b =
        let base = B.base ∙ from-sources s.v (omega (arith, B.known)) in
        let next : sum (λ v. pick (source (as_model g) v) (ways (as_model g) v) 0) (suc s.v) ≡ s.base + ways (as_model g) s.v
        = sum_more (λ v. pick (source (as_model g) v) (ways (as_model g) v) 0) s.v ∙ ap₂ (λ (y : ℕ) (t : Bool). y + pick t (ways (as_model g) s.v) 0) (sym base) (sym (S s.v B.known) ∙ B.is_source) in
        second_walked well_formed (path_at (as_model g) i)
        ∙ ap (value_from (as_model g) nothing 0)
        (amid-at (λ v. pick (source (as_model g) v) (ways (as_model g) v) 0) (λ v. path_within (as_model g) (as_model g).n v) (as_model g).n s.v i B.known (omega (arith, base)) (omega (arith, next))
        ∙ ap (λ (y : ℕ). path_within (as_model g) (as_model g).n s.v (i - y)) (sym base))

  -- ---- on to a successor, or the end

  module _ {e st : List ℕ} (L : Laid g e st) (v : ℕ) (l : v < g.n) where
    pub row-there : Row e st v
    row-there = row L.lists v l

    joined : (j : ℕ) → j < many st v → Edge (as_model g) v (nth e st v j)
    joined j h = nth-joins L.lists v j l h

    onward : (n : ℕ) → n ≤ many st v → sum (λ j. get_or wy (nth e st v j) 0) n ≡ sum (λ j. ways (as_model g) (nth e st v j)) n
    unfolding as_model
    onward n h = sum_ext (λ j. get_or wy (nth e st v j) 0) (λ j. ways (as_model g) (nth e st v j)) n
        (λ j m. number (nth e st v j) (well_formed.to v (nth e st v j) (joined j (omega arith))))

    not-sink : 0 < many st v → sink (as_model g) v ≡ false
    not-sink h = row-sink L.lists v l ∙ ne_eqb (many st v) 0 (λ z. omega arith)

    abbrev over : ℕ → ℕ
    over x = pick ((as_model g).edge v x) (ways (as_model g) x) 0

    by-successors : 0 < many st v → ways (as_model g) v ≡ sum over g.n
    unfolding as_model
    by-successors h = ways-step well_formed acyclic v l ∙ ap (λ (b : Bool). pick b 1 (sum over g.n)) (not-sink h)

    -- the numbers of its successors are shared out
    pub row-ways : 0 < many st v → ways (as_model g) v ≡ sum (λ j. get_or wy (nth e st v j) 0) (many st v)
    unfolding as_model
    row-ways h =
        by-successors h
        ∙ row-whole L.lists v l (ways (as_model g))
        ∙ sym (onward (many st v) (omega arith))

    module _ (cell : Cell) (is : cell.v ≡ v) (C : Open (as_model g) cell) where
      pub at_end : (m : ℕ) → many st v ≡ 0 → cell.base ≤ m → m < cell.base + ways (as_model g) v
          → second (as_model g) (path_at (as_model g) m) ≡ cell.value
      unfolding value_from as_model
      at_end m z a b =
          C m a (omega (arith, ap (ways (as_model g)) is)) []
          (ap (λ (y : ℕ). path_within (as_model g) (as_model g).n y (m - cell.base)) is
          ∙ (path-ends well_formed acyclic v (m - cell.base) l (row-sink L.lists v l ∙ eq-eqb (many st v) 0 z) (omega arith) ∙ ap (λ (y : ℕ). y ∷ []) (sym is)))

      module _ (m : ℕ) (s : Step) (H : Chosen e st wy v cell.base m s) where
        abbrev u : ℕ
        u = nth e st v H.place

        edge : Edge (as_model g) v u
        edge = joined H.place H.within

        pub child-known : s.v < g.n
        unfolding as_model
        child-known = rw H.vertex (well_formed.to v u edge)

        pub child-deep : count (λ x. ancestor (as_model g) x v) (as_model g).n < count (λ x. ancestor (as_model g) x s.v) (as_model g).n
        unfolding ranked
        child-deep = rw H.vertex ((ranked well_formed acyclic).up v u edge)

        pub child-passing : Passing (as_model g) (is_in cell.beside) cell.value s.v s.base
        unfolding as_model
        child-passing i a b =
            C i (omega (arith, part)) (omega (arith, part, next, whole, more, ap (ways (as_model g)) is, ap (ways (as_model g)) H.vertex)) (path_within (as_model g) (as_model g).n u (i - cell.base - sum over u))
            (ap (λ (y : ℕ). path_within (as_model g) (as_model g).n y (i - cell.base)) is
            ∙ (path-goes-on well_formed acyclic v u (i - cell.base) l (not-sink some) (omega (arith, part, next, whole, more, ap (ways (as_model g)) H.vertex)) known (omega (arith, part))
            (omega (arith, part, next, ap (ways (as_model g)) H.vertex))
            ∙ ap (λ (y : ℕ). y ∷ path_within (as_model g) (as_model g).n u (i - cell.base - sum over u)) (sym is)))
            ∙ ap (value_from (as_model g) (is_in cell.beside) cell.value) (ap₂ (λ (y z : ℕ). path_within (as_model g) (as_model g).n y z) (sym H.vertex) after)
          where
            some : 0 < many st v
            some = omega (arith, H.within)

            known : u < g.n
            known = well_formed.to v u edge

            part : s.base ≡ cell.base + sum over u
            part = H.base ∙ ap (λ (y : ℕ). cell.base + y) (onward H.place (omega (arith, H.within)) ∙ sym (row-part L.lists v l (ways (as_model g)) H.place H.within))

            next : sum over (suc u) ≡ sum over u + ways (as_model g) u
            next = sum_more over u ∙ ap (λ (t : Bool). sum over u + pick t (ways (as_model g) u) 0) edge

            whole : ways (as_model g) v ≡ sum over g.n
            whole = by-successors some

            more : sum over (suc u) ≤ sum over g.n
            more = sum-up over (suc u) g.n known

            after : i - cell.base - sum over u ≡ i - s.base
            after = omega (arith, part)
