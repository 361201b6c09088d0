-- How many cores are enough (order 13: "For a chosen type and a 32-bit tick limit, give the smallest core number from 1 to 16 with which
-- NEW-B-1's whole ticks are at or below the limit, all else as declared. Refusals: 25 for an undeclared type, after 11; 26 exactly when none of
-- the sixteen numbers meets the limit, last."). The type is s, the limit d. A declared type that no vertex has is answered like any other.
--
--   Meets G s d m       with m cores of type s, all else as declared, NEW-B-1's whole ticks are at or below d
--   NoneMeets G s d     none of the sixteen numbers meets the limit
--   Smallest G s d c    c is the smallest number from 1 to 16 that meets the limit
--   undeclared          an undeclared type: 25 at 0
--   unmet               none of the sixteen numbers meets the limit: 26 at 0
--   EnoughIn G s d r    of the graph G: 25 exactly where the type is not declared, then 26 exactly where no number meets the limit, else the smallest
--                       that does; beside a refusal 0
--   EnoughOf f s d r    the answer of `enough` for the file f: the reader's refusal, or that
use Rattle.std.specs.Prelude.{◌≡◌, List, ℕ, ◌/◌, ◌≤◌, ◌<◌}
use Rattle.model.specs.Graph.{Graph}
use Rattle.model.specs.Bounds.{PARTS, NewB1}
use Rattle.model.specs.Better.{with_cores}
use Rattle.graph.specs.Model.{as_model}
use Rattle.graph.specs.Judge.{read_of}
use Rattle.graph.specs.declared.Refusal.{Refusal}
use Rattle.graph.specs.Answer.{Accepted, Refused}
use Rattle.enough.specs.Fewest.{Fewest}

pub record Meets (G : Graph) (s d m : ℕ) : Type 0 where
  pub new : ℕ
  pub is_new : NewB1 (with_cores G s m) new
  pub within : new / PARTS ≤ d

abbrev pub NoneMeets : Graph → ℕ → ℕ → Type 0
NoneMeets G s d = (m : ℕ) → 1 ≤ m → m ≤ 16 → Meets G s d m → ⊥

pub record Smallest (G : Graph) (s d c : ℕ) : Type 0 where
  pub least : 1 ≤ c
  pub most : c ≤ 16
  pub meets : Meets G s d c
  pub no_smaller : (m : ℕ) → 1 ≤ m → m < c → Meets G s d m → ⊥

abbrev pub undeclared : Refusal
undeclared = record { number = 25; place = 0 }

abbrev pub unmet : Refusal
unmet = record { number = 26; place = 0 }

pub data EnoughIn (G : Graph) (s d : ℕ) (r : Fewest) : Type 0 where
  no_kind : G.kinds ≤ s → r.answer ≡ Refused undeclared → r.cores ≡ 0 → EnoughIn G s d r
  none : s < G.kinds → NoneMeets G s d → r.answer ≡ Refused unmet → r.cores ≡ 0 → EnoughIn G s d r
  found : s < G.kinds → r.answer ≡ Accepted → Smallest G s d r.cores → EnoughIn G s d r

pub data EnoughOf (f : List ℕ) (s d : ℕ) (r : Fewest) : Type 0 where
  refused : {x : Refusal} → (read_of f).answer ≡ Refused x → r.answer ≡ Refused x → r.cores ≡ 0 → EnoughOf f s d r
  accepted : (read_of f).answer ≡ Accepted → EnoughIn (as_model (read_of f).graph) s d r → EnoughOf f s d r
