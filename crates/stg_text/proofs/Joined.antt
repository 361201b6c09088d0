-- The edges of the reader's value: an edge of the model's graph is a member of the edge list.
use mathlib.Core.Path.{◌≡◌}
use mathlib.Core.List.{List}
use Prim.Native.Nat.{ℕ, ◌+◌, ◌*◌, ◌/◌, ◌%◌, ◌≤◌, ◌<◌}
use native.Mathlib.Omega.{arith}
use lib.ListN.{length, get_or, take}
use lib.Seq.{get_or-take, length-take-le}
use lib.Dec.{eqb}
use borrow.Author.Tests.{eq-eqb, eqb-true}
use Rattle.model.proofs.Bools.{same_test, both, left-of, right_of}
use Rattle.model.proofs.Places.{any_intro, any_elim}
use Rattle.graph.specs.Model.{as_model, joins, from, to}
use Rattle.graph.specs.declared.Graph.{Graph}
use Rattle.stg_text.specs.Fields.{member}
use Rattle.stg_text.proofs.Those.{member-at, member-place}

pub edge-member : (h : Graph) → h.edges ≤ length h.edge → (u v : ℕ) → v < 256 → (as_model h).edge u v ≡ member (256 * u + v) (take h.edges h.edge)
unfolding as_model joins from to
edge-member h fit u v l =
    let xs : List ℕ = take h.edges h.edge in
    let long : length xs ≡ h.edges = length-take-le h.edges h.edge fit in
    let at : (i : ℕ) → i < h.edges → get_or xs i 0 ≡ get_or h.edge i 0 = λ i b. get_or-take h.edges h.edge i 0 b in
    same_test ((as_model h).edge u v) (member (256 * u + v) xs)
    (λ e. let r = any_elim (joins h u v) h.edges e in
    let i : ℕ = r.0 in
    let f = eqb-true (get_or h.edge i 0 / 256) u (left-of (eqb (get_or h.edge i 0 / 256) u) (eqb (get_or h.edge i 0 % 256) v) r.2) in
    let t = eqb-true (get_or h.edge i 0 % 256) v (right_of (eqb (get_or h.edge i 0 / 256) u) (eqb (get_or h.edge i 0 % 256) v) r.2) in
    let k : get_or xs i 0 ≡ 256 * u + v = omega (arith, at i r.1) in
    rw k at (member-at xs i (omega arith)))
    (λ m. let r = member-place (256 * u + v) xs m in
    let i : ℕ = r.0 in
    let b : i < h.edges = omega arith in
    let k : get_or h.edge i 0 ≡ 256 * u + v = omega (arith, at i b) in
    any_intro (joins h u v) h.edges i b
    (both (eqb (get_or h.edge i 0 / 256) u) (eqb (get_or h.edge i 0 % 256) v) (eq-eqb (get_or h.edge i 0 / 256) u (omega arith)) (eq-eqb (get_or h.edge i 0 % 256) v (omega arith))))
