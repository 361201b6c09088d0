use native.Mathlib.Omega.{arith}
use mathlib.Core.Path.{◌≡◌, sym, ap, ◌∙◌, fun_ext}
use mathlib.Core.Logic.{⊎_elim}
use mathlib.Core.List.{List}
use mathlib.Core.Bool.{false}
use Prim.Native.Nat.{ℕ, ◌≤◌, ◌<◌}
use lib.ListN.{get_or, length, get_or-eq_default}
use Rattle.model.specs.Places.{padded}
use Rattle.model.proofs.Bools.{le-or-lt}
use Rattle.model.proofs.Tables.{padded-at, padded-past}
use Rattle.graph.specs.Model.{as_model}
use Rattle.vset.specs.Members.{is_in}
use Rattle.vset.proofs.Same.{set-of}
use Rattle.ready.specs.Ready.{some_left}
use Rattle.ready.proofs.ByNumbers.{edges-counted, begins}
use Rattle.tick.specs.Run.{awaited, record_for}
use Rattle.tick.proofs.Awaited.{settled-awaited}
use Rattle.times.specs.Times.{times_of}
use Rattle.times.proofs.begun.Goals as goal

-- what is laid is the times: from n on both are zero
laid-at : (l e : List ℕ) (n : ℕ) → l ≡ padded 128 (times_of e) n → length e ≡ n → (v : ℕ) → get_or l v 0 ≡ times_of e v
laid-at l e n p q v =
    ap (λ (x : List ℕ). get_or x v 0) p
    ∙ ⊎_elim (λ (h : n ≤ v). padded-past 128 (times_of e) n v h ∙ sym (get_or-eq_default e 0 (omega (arith, q)))) (λ (h : v < n). padded-at 128 (times_of e) n v h) (le-or-lt n v)

pub laid-left-requires : goal.laid-left-requires
laid-left-requires c = let E = c.requires.edges_of.1 in (rw E.n_is E.accepted.few_vertices, c.requires.times_len)

pub begun-begun-requires : goal.begun-begun-requires
begun-begun-requires c =
    let p = c.requires.edges_of in
    let E = p.1 in
    let whole = begins p.0 E.accepted E.n_is E.edges_are E.starts_are p.2 in
    record { layout = whole.0; rows = whole.1.0; holds = whole.1.1 }

pub returns : goal.returns
unfolding record_for as_model some_left
returns c g E =
    let A = E.accepted in
    let e = c.args.times.now in
    let left = c.laid-left.result in
    let at : (v : ℕ) → get_or left v 0 ≡ times_of e v = laid-at left e c.args.n c.laid-left.ensures c.requires.times_len in
    let settled = rw (E.edges_are, E.starts_are, edges-counted g A) at c.begun-begun.ensures in
    let numbers = settled-awaited g A (λ v. get_or left v 0) (is_in c.busy-busy.result) c.busy-busy.ensures.are c.begun-begun.result.waiting c.begun-begun.result.behind settled
    ∙ ap (λ (f : ℕ → ℕ). padded 128 (awaited (as_model g) f) g.n) (fun_ext at) in
    let laid : left ≡ padded 128 (times_of e) g.n = c.laid-left.ensures ∙ ap (padded 128 (times_of e)) E.n_is in
    let none = set-of c.none-ran.result (λ v. false) c.none-ran.ensures in
    λ i. record { n = E.n_is i; instant = 0; left = laid i; ran = none i; waiting = numbers i }
