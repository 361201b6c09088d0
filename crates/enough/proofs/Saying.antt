-- What each answer says of the graph, and when it is given.
use mathlib.Core.Path.{◌≡◌, sym, ap, ◌∙◌}
use mathlib.Core.Logic.{◌↔◌, ◌⊎◌, inl, inr}
use mathlib.Core.List.{List}
use Prim.Native.Nat.{ℕ, ◌≤◌, ◌<◌}
use native.Mathlib.Omega.{arith}
use Rattle.model.specs.Graph.{Graph}
use Rattle.graph.specs.Model.{as_model}
use Rattle.graph.specs.Judge.{read_of}
use Rattle.graph.specs.declared.Refusal.{Refusal}
use Rattle.graph.specs.Answer.{Accepted, Refused}
use Rattle.enough.specs.Answers.{Meets, NoneMeets, Smallest, undeclared, unmet, EnoughIn, no_kind, none, found, EnoughOf, refused, accepted}
use Rattle.enough.specs.Fewest.{Fewest}

apart : Refused unmet ≡ Refused undeclared → ⊥
apart e = let q : unmet ≡ undeclared = cc in let c = ap (λ (x : Refusal). x.number) q in omega arith

-- ---- of a graph

module _ {G : Graph} {s d : ℕ} {r : Fewest} where
  -- THEOREM. 25 exactly where the type is not declared, whatever the limit is.
  pub says_25 : EnoughIn G s d r → (r.answer ≡ Refused undeclared) ↔ (G.kinds ≤ s)
  says_25 (no_kind l a z) = (λ q. l, λ q. a)
  says_25 (none l n a z) = (λ q. absurd (apart (sym a ∙ q)), λ q. absurd (omega arith))
  says_25 (found l a x) = (λ q. absurd (let z : ◌≡◌ {A = ℕ} 0 1 = cc in omega arith), λ q. absurd (omega arith))

  -- THEOREM. 26 exactly where the type is declared and none of the sixteen numbers meets the limit.
  pub says_26 : EnoughIn G s d r → (r.answer ≡ Refused unmet) ↔ ((s < G.kinds) × NoneMeets G s d)
  says_26 (no_kind l a z) = (λ q. absurd (apart (sym q ∙ a)), λ q. absurd (omega arith))
  says_26 (none l n a z) = (λ q. (l, n), λ q. a)
  says_26 (found l a x) = (λ q. absurd (let z : ◌≡◌ {A = ℕ} 0 1 = cc in omega arith), λ q. absurd (q.1 r.cores x.least x.most x.meets))

  -- THEOREM. Nothing else is refused, and beside a refusal stands 0.
  pub says-no : {x : Refusal} → EnoughIn G s d r → r.answer ≡ Refused x → ((x ≡ undeclared) ⊎ (x ≡ unmet)) × (r.cores ≡ 0)
  says-no (no_kind l a z) q = (inl (cc), z)
  says-no (none l n a z) q = (inr (cc), z)
  says-no (found l a x) q = absurd (let z : ◌≡◌ {A = ℕ} 0 1 = cc in omega arith)

  -- THEOREM. A number is given only for a declared type, and it is the smallest; where some number from 1 to 16 meets the limit, one is given.
  pub says-number : EnoughIn G s d r → r.answer ≡ Accepted → (s < G.kinds) × Smallest G s d r.cores
  says-number (no_kind l a z) q = absurd (let z : ◌≡◌ {A = ℕ} 0 1 = cc in omega arith)
  says-number (none l n a z) q = absurd (let z : ◌≡◌ {A = ℕ} 0 1 = cc in omega arith)
  says-number (found l a x) q = (l, x)

  pub some_number : EnoughIn G s d r → s < G.kinds → (m : ℕ) → 1 ≤ m → m ≤ 16 → Meets G s d m → r.answer ≡ Accepted
  some_number (no_kind h a z) l m p q M = absurd (omega arith)
  some_number (none h n a z) l m p q M = absurd (n m p q M)
  some_number (found h a x) l m p q M = a

-- ---- of a file

module _ {f : List ℕ} {s d : ℕ} {r : Fewest} where
  -- THEOREM. The reader's refusal comes first; where `enough` accepts, the reader did.
  pub says_first : {x : Refusal} → EnoughOf f s d r → (read_of f).answer ≡ Refused x → (r.answer ≡ Refused x) × (r.cores ≡ 0)
  says_first (refused e a z) q = (a ∙ (sym e ∙ q), z)
  says_first (accepted e y) q = absurd (let z : ◌≡◌ {A = ℕ} 0 1 = cc in omega arith)

  pub says-of-graph : EnoughOf f s d r → (read_of f).answer ≡ Accepted → EnoughIn (as_model (read_of f).graph) s d r
  says-of-graph (refused e a z) q = absurd (let z : ◌≡◌ {A = ℕ} 0 1 = cc in omega arith)
  says-of-graph (accepted e y) q = y

  pub says-accepted : EnoughOf f s d r → r.answer ≡ Accepted → (read_of f).answer ≡ Accepted
  says-accepted (refused e a z) q = absurd (let z : ◌≡◌ {A = ℕ} 0 1 = cc in omega arith)
  says-accepted (accepted e y) q = e
