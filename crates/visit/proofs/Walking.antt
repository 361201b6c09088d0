-- The cells of the path that is walked: one more is put, or the walk goes back to those that the next path has as well.
use mathlib.Core.Path.{◌≡◌, refl, sym, ap, ap₂, subst, fun_ext, ◌∙◌}
use mathlib.Core.Bool.{Bool}
use mathlib.Core.List.{List, []}
use Prim.Native.Nat.{ℕ, zero, suc, ◌+◌, ◌-◌, ◌≤◌, ◌<◌, max}
use native.Mathlib.Omega.{arith}
use native.Mathlib.Decide.{ℕ_discrete}
use lib.ListN.{get_or, length, set, replicate, length-set, length-replicate}
use lib.Seq.{get_or-set_same, get_or-set_other}
use Rattle.model.specs.Places.{sum, count, largest}
use Rattle.model.specs.Graph.{Graph, WellFormed}
use Rattle.model.specs.Cycle.{Acyclic, ancestor}
use Rattle.model.specs.PathCount.{ways, path_count}
use Rattle.model.specs.Second.{second, NewB2}
use Rattle.model.specs.Visit.{path_at, nothing}
use Rattle.model.proofs.Sums.{largest-more}
use Rattle.model.proofs.Cycles.{ranked, rank_below}
use Rattle.model.proofs.Visit.{greatest_numbered}
use Rattle.graph.specs.declared.Graph as reader
use Rattle.graph.specs.Model.{as_model}
use Rattle.vset.specs.declared.Vset.{Vset}
use Rattle.vset.specs.Members.{Members}
use Rattle.summary.specs.Row.{many, nth, Row}
use Rattle.visit.specs.declared.cell.Cell.{Cell}
use Rattle.visit.specs.declared.choose.Step.{Step}
use Rattle.paths.specs.Ahead.{Sources}
use Rattle.visit.specs.Cells.{Ground, Laid, cell_of, cell_words, Stands, Kept, Reached, Ended, Opened, Chosen, Begun}
use Rattle.visit.proofs.Opening.{Passing, few_vertices, number, stands, source-passing, row-there, row-ways, at_end, child-known, child-deep, child-passing}

of_words : List ℕ → Cell
of_words r = record { v = get_or r 0 0; base = get_or r 1 0; beside = record { lo = get_or r 2 0; hi = get_or r 3 0 }; value = get_or r 4 0 }

cell_same : (l : List (List ℕ)) (i : ℕ) (c : Cell) → i < length l → cell_of (set l i (cell_words c)) i ≡ c
unfolding of_words
cell_same l i c h = ap of_words (get_or-set_same l i (cell_words c) [] h)

cell_other : (l : List (List ℕ)) (i : ℕ) (c : Cell) (j : ℕ) → (j ≡ i → ⊥) → cell_of (set l i (cell_words c)) j ≡ cell_of l j
unfolding of_words
cell_other l i c j d = ap of_words (get_or-set_other l i j (cell_words c) [] d)

pub cell-last : (l : List (List ℕ)) (d : ℕ) (c : Cell) → d < length l → cell_of (set l d (cell_words c)) (d + 1 - 1) ≡ c
cell-last l d c h = let e : d + 1 - 1 ≡ d = omega arith in ap (cell_of (set l d (cell_words c))) e ∙ cell_same l d c h

-- one cell more
pub put-reached : (G : Graph) (l : List (List ℕ)) (d k : ℕ) (c : Cell) → length l ≡ 128 → d < 128 → ((i : ℕ) → i < d → Stands G i k (cell_of l i))
    → Stands G d k c
    → k < c.base + ways G c.v → Reached G (set l d (cell_words c)) (d + 1) k
put-reached G l d k c long room stand new has = record {
  some = omega arith;
  kept = record {
    size = length-set l d (cell_words c) ∙ long;
    stands = λ i h. go i h (ℕ_discrete i d);
    has = λ h. subst (λ (x : Cell). k < x.base + ways G x.v) (sym (cell-last l d c within)) has;
  };
}
  where
    within : d < length l
    within = omega (arith, long)

    go : (i : ℕ) → i < d + 1 → Dec (i ≡ d) → Stands G i k (cell_of (set l d (cell_words c)) i)
    go i h (yes e) = rw e (subst (Stands G d k) (sym (cell_same l d c within)) new)
    go i h (no e) = subst (Stands G i k) (sym (cell_other l d c i e)) (stand i (omega arith))

-- no path has more vertices than there are
pub deep-below : {G : Graph} → WellFormed G → Acyclic G → {i k : ℕ} {c : Cell} → Stands G i k c → i < G.n
unfolding ranked
deep-below W A {c = c} S = omega (arith, S.deep, rank_below W A c.v S.known)

kept-below : {G : Graph} → WellFormed G → Acyclic G → (l : List (List ℕ)) (d : ℕ) {k : ℕ} → ((i : ℕ) → i < d → Stands G i k (cell_of l i)) → d ≤ G.n
kept-below W A l zero S = omega arith
kept-below W A l (suc d) S = deep-below W A (S d (omega arith))

-- the numbers of a cell begin no later for a later path
pub stands-later : {G : Graph} {i k : ℕ} {c : Cell} → Stands G i k c → Stands G i (k + 1) c
stands-later S = record { known = S.known; deep = S.deep; begun = omega (arith, S.begun); carries = S.carries; small = S.small }

pub kept-few : {g : reader.Graph} {wy : List ℕ} {r : List (List ℕ)} {k c sh : List ℕ} → Ground g wy r k c sh → (l : List (List ℕ)) (d : ℕ) {m : ℕ}
    → ((i : ℕ) → i < d → Stands (as_model g) i m (cell_of l i)) → d ≤ 128
unfolding as_model
kept-few D l d S = omega (arith, kept-below D.accepted.well_formed D.accepted.acyclic l d S, few_vertices D)

pub cell-known : {g : reader.Graph} {wy : List ℕ} {r : List (List ℕ)} {k c sh : List ℕ} → Ground g wy r k c sh → {i m : ℕ} {x : Cell}
    → Stands (as_model g) i m x → (x.v < 128) × (x.base ≤ m)
unfolding as_model
cell-known D S = (omega (arith, S.known, few_vertices D), S.begun)

-- ---- the first cell, the next one, and the last

-- the path with the number m has the opened cell
opened-has : {g : reader.Graph} {wy : List ℕ} {r : List (List ℕ)} {k c sh : List ℕ} → Ground g wy r k c sh → (m : ℕ) (s : Step) (U : Vset) (x : ℕ) (cell : Cell)
    → s.v < g.n → m < s.base + get_or wy s.v 0 → Opened r k c sh s.v s.base U x cell → m < cell.base + ways (as_model g) cell.v
opened-has {g} D m s U x cell h high O = omega (arith, high, O.first, number D s.v h, ap (ways (as_model g)) O.vertex)

pub root_reached : {g : reader.Graph} {wy : List ℕ} {r : List (List ℕ)} {k c sh : List ℕ} → Ground g wy r k c sh → (l : List (List ℕ)) (m : ℕ) (w : List ℕ) → Sources g w
    → Kept (as_model g) l 0 m → (s : Step) → Begun w wy g.n m s → (U : Vset) → Members U nothing → (cell : Cell) → Opened r k c sh s.v s.base U 0 cell
    → Reached (as_model g) (set l 0 (cell_words cell)) 1 m
root_reached {g} D l m w S K s B U none cell O =
    put-reached (as_model g) l 0 m cell K.size (omega arith) (λ i h. absurd (omega arith))
    (stands D s.v B.known s.base U 0 cell O 0 m (omega arith) B.low (omega arith)
    (subst (λ (P : ℕ → Bool). Passing (as_model g) P 0 s.v s.base) (sym (fun_ext none.are)) (source-passing D w S m s B)))
    (opened-has D m s U 0 cell B.known B.high O)

-- over the tables of g, the path with the number m has the first d cells of l, and top is the last of these
pub record Top (g : reader.Graph) (wy : List ℕ) (r : List (List ℕ)) (k c sh e st : List ℕ) (l : List (List ℕ)) (d m : ℕ) (top : Cell) : Type 0 where
  pub ground : Ground g wy r k c sh
  pub laid : Laid g e st
  pub among : m < path_count (as_model g)
  pub reached : Reached (as_model g) l d m
  pub is : top ≡ cell_of l (d - 1)

module _ {g : reader.Graph} {wy : List ℕ} {r : List (List ℕ)} {k c sh e st : List ℕ} {l : List (List ℕ)} {d m : ℕ} {top : Cell} (T : Top g wy r k c sh e st l d m top) where
  stand : Stands (as_model g) (d - 1) m top
  stand = subst (Stands (as_model g) (d - 1) m) (sym T.is) (T.reached.kept.stands (d - 1) (omega (arith, T.reached.some)))

  has : m < top.base + ways (as_model g) top.v
  has = subst (λ (x : Cell). m < x.base + ways (as_model g) x.v) (sym T.is) (T.reached.kept.has T.reached.some)

  known : top.v < g.n
  unfolding as_model
  known = stand.known

  pub top-row : Row e st top.v
  top-row = row-there T.ground T.laid top.v known

  pub top_range : 0 < many st top.v → (top.base ≤ m) × (m ≤ 4096) × (m < top.base + sum (λ j. get_or wy (nth e st top.v j) 0) (many st top.v))
  top_range h = (stand.begun, omega (arith, T.among, T.ground.few), omega (arith, has, row-ways T.ground T.laid top.v known h))

  pub top-ended : many st top.v ≡ 0 → Ended (as_model g) l d m
  top-ended z = record {
    reached = T.reached;
    value = at_end T.ground T.laid top.v known top refl stand.carries m z stand.begun has ∙ ap (λ (x : Cell). x.value) T.is;
  }

  pub top_small : top.value ≤ 18000000000000000000
  unfolding as_model
  top_small = omega (arith, stand.small, deep-below T.ground.accepted.well_formed T.ground.accepted.acyclic stand, few_vertices T.ground)

  module _ (s : Step) (H : Chosen e st wy top.v top.base m s) where
    pub next_known : s.v < g.n
    next_known = child-known T.ground T.laid top.v known top refl stand.carries m s H

    deeper : d ≤ count (λ u. ancestor (as_model g) u s.v) (as_model g).n
    deeper = omega (arith, T.reached.some, stand.deep, child-deep T.ground T.laid top.v known top refl stand.carries m s H)

    pub next-room : d < 128
    unfolding ranked as_model
    next-room = omega (arith, deeper, rank_below T.ground.accepted.well_formed T.ground.accepted.acyclic s.v next_known, few_vertices T.ground)

    pub next-reached : (cell : Cell) → Opened r k c sh s.v s.base top.beside top.value cell → Reached (as_model g) (set l d (cell_words cell)) (d + 1) m
    next-reached cell O =
        put-reached (as_model g) l d m cell T.reached.kept.size next-room T.reached.kept.stands
        (stands T.ground s.v next_known s.base top.beside top.value cell O d m deeper H.low (omega (arith, stand.small, T.reached.some))
        (child-passing T.ground T.laid top.v known top refl stand.carries m s H))
        (opened-has T.ground m s top.beside top.value cell next_known H.high O)

-- ---- all paths

-- the paths with numbers below k are visited: best is their largest value, and the cells are those of the last
pub record Visited (G : Graph) (l : List (List ℕ)) (best d k : ℕ) : Type 0 where
  pub size : length l ≡ 128
  pub stands : (i : ℕ) → i < d → Stands G i k (cell_of l i)
  pub most : best ≡ largest (λ i. second G (path_at G i)) k

pub visited_none : (G : Graph) → Visited G (replicate 128 (replicate 5 0)) 0 0 0
unfolding largest
visited_none G = record { size = length-replicate 128 (replicate {A = ℕ} 5 0); stands = λ i h. absurd (omega arith); most = refl }

-- the first s cells are those of the next path too
pub visited_kept : {g : reader.Graph} {wy : List ℕ} {r : List (List ℕ)} {k c sh : List ℕ} → Ground g wy r k c sh
    → (l : List (List ℕ)) {best d m : ℕ} → Visited (as_model g) l best d m
    → (s : ℕ) → s ≤ d → (0 < s → m < (cell_of l (s - 1)).base + get_or wy (cell_of l (s - 1)).v 0) → Kept (as_model g) l s m
unfolding as_model
visited_kept D l B s low has = record {
  size = B.size;
  stands = λ i h. B.stands i (omega arith);
  has = λ h. omega (arith, has h, number D (cell_of l (s - 1)).v (B.stands (s - 1) (omega arith)).known);
}

pub visited_more : {G : Graph} {l l' : List (List ℕ)} {best best' d d' k : ℕ} → Visited G l best d k → Ended G l' d' k
    → best' ≡ max best (cell_of l' (d' - 1)).value
    → Visited G l' best' d' (k + 1)
visited_more {G} {best = best} {k = k} B E is = record {
  size = E.reached.kept.size;
  stands = λ i h. stands-later (E.reached.kept.stands i h);
  most = is ∙ ap₂ (λ (x y : ℕ). max x y) B.most (sym E.value) ∙ sym (largest-more (λ i. second G (path_at G i)) k);
}

-- THEOREM. When all paths are visited, the best is NEW-B-2.
pub visited_all : {g : reader.Graph} {wy : List ℕ} {r : List (List ℕ)} {k c sh : List ℕ} → Ground g wy r k c sh → {l : List (List ℕ)} {best d : ℕ}
    → Visited (as_model g) l best d (path_count (as_model g)) → NewB2 (as_model g) best
visited_all {g} D B = rw B.most (greatest_numbered D.accepted.well_formed D.accepted.acyclic (second (as_model g)))
