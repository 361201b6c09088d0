-- The rows of the descendants become those of the parallel vertices, one after the other.
use mathlib.Core.Path.{◌≡◌, refl, sym, ap, ap₂, ◌∙◌}
use mathlib.Core.Logic.{◌⊎◌, inl, inr}
use mathlib.Core.Bool.{Bool, true, false, not, ◌&&◌, ◌||◌}
use mathlib.Core.List.{List, []}
use Prim.Native.Nat.{ℕ, ◌+◌, ◌≤◌, ◌<◌}
use native.Mathlib.Omega.{arith}
use native.Mathlib.Decide.{ℕ_discrete}
use lib.Dec.{eqb, ltb}
use lib.ListN.{get_or, set}
use borrow.Author.Tests.{lt-ltb, le-ltb}
use Rattle.model.specs.Graph.{Graph}
use Rattle.model.specs.Cycle.{ancestor}
use Rattle.model.specs.Second.{parallel}
use Rattle.model.proofs.Bools.{le-or-lt}
use Rattle.vset.specs.declared.Vset.{Vset}
use Rattle.vset.specs.Members.{is_in, Members}
use Rattle.graph.specs.declared.Graph as reader
use Rattle.paths.specs.Ahead.{Weighed}
use Rattle.graph.specs.Model.{as_model}
use Rattle.choice.specs.Choice.{of_kind_of, set_at_of, OfKinds}
use Rattle.summary.proofs.Along.{well_formed}
use Rattle.sets.specs.Sets.{row_of, words_of, Table, Holds}
use Rattle.sets.proofs.Tables.{put-table, in_same, in_other}
use Rattle.rows.specs.Rows.{above}
use Rattle.parallel.specs.Rows.{below, beside}

-- a vertex of the same kind, apart from those above, those below and v itself
apart-beside : (a k x y q : Bool) → (a && k) && not (((true && x) || (true && y)) || q) ≡ true && (a && ((k && not q) && (not x && not y)))
apart-beside false k x y q = refl
apart-beside true false x y q = refl
apart-beside true true true y true = refl
apart-beside true true true y false = refl
apart-beside true true false true true = refl
apart-beside true true false true false = refl
apart-beside true true false false true = refl
apart-beside true true false false false = refl

module _ (G : Graph) where
  pub record Filled (t : List (List ℕ)) (v : ℕ) : Type 0 where
    pub table : Table t
    pub done : (x w : ℕ) → x < v → is_in (row_of t x) w ≡ beside G x w
    pub rest : (x w : ℕ) → v ≤ x → x < 128 → is_in (row_of t x) w ≡ below G x w

  pub filled_none : (t : List (List ℕ)) → Holds t (below G) → Filled t 0
  filled_none t H = record { table = H.table; done = λ x w l. absurd (omega arith); rest = λ x w l m. H.row x w m }

  module _ (t up : List (List ℕ)) (v : ℕ) (l : v < G.n) (few : G.n ≤ 128) (F : Filled t v) (U : Holds up (above G)) (same s : Vset)
      (kind : (w : ℕ) → is_in same w ≡ ltb w G.n && eqb (G.kind w) (G.kind v))
      (S : Members s (λ w. is_in same w && not ((is_in (row_of up v) w || is_in (row_of t v) w) || eqb w v))) where
    small : v < 128
    small = omega arith

    own : (w : ℕ) → is_in s w ≡ beside G v w
    unfolding above below beside parallel
    own w =
        S.are w
        ∙ ap₂ (λ (a b : Bool). a && not (b || eqb w v)) (kind w) (ap₂ ◌||◌ (U.row v w small) (F.rest v w (omega arith) small))
        ∙ rw (lt-ltb v G.n l) (apart-beside (ltb w G.n) (eqb (G.kind w) (G.kind v)) (ancestor G w v) (ancestor G v w) (eqb w v))

    pub filled_more : Filled (set t v (words_of s)) (v + 1)
    filled_more = record {
      table = put-table t v s F.table small S;
      done = λ x w m. done x w m (ℕ_discrete x v);
      rest = λ x w m k. in_other t v s F.table small x w (λ q. omega arith) ∙ F.rest x w (omega arith) k;
    }
      where
        done : (x w : ℕ) → x < v + 1 → Dec (x ≡ v) → is_in (row_of (set t v (words_of s)) x) w ≡ beside G x w
        done x w m (yes q) = rw q (in_same t v s F.table small w ∙ own w)
        done x w m (no q) = in_other t v s F.table small x w q ∙ F.done x w (omega arith)

  pub filled-all : (t : List (List ℕ)) → Filled t G.n → Holds t (beside G)
  unfolding below beside
  filled-all t F = record { table = F.table; row = λ x w l. go x w l (le-or-lt G.n x) }
    where
      go : (x w : ℕ) → x < 128 → (G.n ≤ x) ⊎ (x < G.n) → is_in (row_of t x) w ≡ ltb x G.n && (ltb w G.n && parallel G w x)
      go x w l (inl h) = F.rest x w h l ∙ rw (le-ltb x G.n h) refl
      go x w l (inr h) = F.done x w h

-- ---- the vertices of a kind, from the lists

module _ {g : reader.Graph} {e st o : List ℕ} {n : ℕ} (T : Weighed g e st o n []) {kind : List ℕ} (is : g.kind ≡ kind) where
  pub kind-few : (v : ℕ) → v < n → get_or kind v 0 < 10
  unfolding as_model
  kind-few v l =
      let h : get_or g.kind v 0 < 10 = omega (arith, (well_formed T).kind_known v (omega (arith, T.vertices)), T.rows.accepted.few_kinds) in
      rw is at h

  pub kind-in : (words : List ℕ) → OfKinds words kind n → (v : ℕ) → v < n → (same : Vset) → same ≡ set_at_of words (get_or kind v 0)
      → (w : ℕ) → is_in same w ≡ ltb w (as_model g).n && eqb ((as_model g).kind w) ((as_model g).kind v)
  unfolding as_model of_kind_of
  kind-in words K v l same q w =
      ap (λ (s : Vset). is_in s w) q
      ∙ (K.each (get_or kind v 0) (kind-few v l)).are w
      ∙ ap₂ (λ (m : ℕ) (k : List ℕ). ltb w m && eqb (get_or k w 0) (get_or k v 0)) T.vertices (sym is)
