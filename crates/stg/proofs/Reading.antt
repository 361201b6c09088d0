-- The reader's answer from what the lines gave.
use mathlib.Core.Path.{◌≡◌, refl, sym, ◌∙◌}
use mathlib.Core.Bool.{Bool, true}
use mathlib.Core.List.{List}
use Prim.Native.Nat.{ℕ, ◌+◌, ◌*◌, ◌≤◌, ◌<◌}
use native.Mathlib.Omega.{arith}
use lib.ListN.{length, take}
use borrow.Author.Tests.{lt-ltb}
use Rattle.model.specs.Places.{that}
use Rattle.model.proofs.Tables.{padded-take, padded-length}
use Rattle.writer.specs.Lists.{lists}
use Rattle.writer.specs.Write.{wrote_of, room_after}
use Rattle.writer.specs.Wrote.{Wrote}
use Rattle.writer.specs.Wrote.{Refused}
use Rattle.stg_text.specs.Layout.{LIMIT, outside, fault_of}
use Rattle.stg_text.specs.Says.{edge_said, wcet_said, wcets_of, edges_said, says}
use Rattle.sets.specs.Sets.{row_of}
use Rattle.stg_text.specs.Answers.{read_stg_of, read_room}
use Rattle.stg.specs.After.{From}
use Rattle.stg.specs.Lines.{LaidOut, Gathered}
use Rattle.stg.specs.Listed.{Listed}
use Rattle.std.specs.Prelude.{Ok}
use Rattle.stg.specs.declared.lines.Fault.{Fault}
use Rattle.stg.specs.declared.Found.{Found}
use Rattle.stg_text.proofs.RoundTrip.{read-inside, room-inside}
use Rattle.stg.proofs.Cut.{from-kept, wrote-same, room-same}

-- the answer, and what the room holds
pub record Given (s cores kinds out : List ℕ) (r : Wrote) (room : List ℕ) : Type 0 where
  pub answer : r ≡ read_stg_of s cores kinds (length out)
  pub left : room ≡ read_room s cores kinds out

module _ (s cores kinds out : List ℕ) where
  given-beyond : (k : ℕ) → outside s ≡ true → fault_of s ≡ k → Given s cores kinds out (Refused (record { number = 23; place = k })) out
  unfolding read_stg_of read_room
  given-beyond k e f = record { answer = rw (e, f) refl; left = rw e refl }

  pub too_long : LIMIT < length s → Given s cores kinds out (Refused (record { number = 23; place = 0 })) out
  unfolding outside fault_of
  too_long l = given-beyond 0 (rw (lt-ltb LIMIT (length s) l) refl) (rw (lt-ltb LIMIT (length s) l) refl)

  pub at-fault : (f : Fault) → (outside s ≡ true) × (fault_of s ≡ f.line) × (f.line ≤ 65536) → Given s cores kinds out (Refused (record { number = 23; place = f.line })) out
  at-fault f G = given-beyond f.line G.0 G.1

  -- the lists of a text within the layout
  module _ (r : Found) (wcets list : List ℕ) (G : Gathered s (Ok r) wcets list) where
    pub wcets-long : length wcets ≡ 128
    wcets-long = rw G.3 (padded-length 128 (wcet_said s) (r.n + 2) (omega (arith, G.2)))

    times-same : take (r.n + 2) wcets ≡ wcets_of s
    unfolding wcets_of
    times-same = rw (G.3, G.1) (padded-take 128 (wcet_said s) (r.n + 2))

    -- the lists that are handed on say what the text says, but for edges that are too many
    pub handed_answer : (room : ℕ) → wrote_of (lists cores kinds (take (r.n + 2) wcets) (take r.edges list)) room ≡ read_stg_of s cores kinds room
    unfolding says
    handed_answer room =
        rw (times-same, G.4.kept) (wrote-same cores kinds (wcets_of s) (edges_said s) room ∙ sym (read-inside s cores kinds room G.0))

    pub handed_room : room_after (lists cores kinds (take (r.n + 2) wcets) (take r.edges list)) out ≡ read_room s cores kinds out
    unfolding says
    handed_room =
        rw (times-same, G.4.kept) (room-same cores kinds (wcets_of s) (edges_said s) out ∙ sym (room-inside s cores kinds out G.0))

-- ---- from the lines to the lists

pub laid-all : (s : List ℕ) (n : ℕ) (wcets : List ℕ) (sets : List (List ℕ)) → LaidOut s (Ok n) wcets sets → (list : List ℕ) (many : ℕ)
    → ((p : ℕ → Bool) → ((u : ℕ) → u < n + 2 → From p u (row_of sets u)) → Listed (that p (256 * (n + 2))) many list)
    → Gathered s (Ok (record { n = n; edges = many })) wcets list
unfolding edges_said
laid-all s n wcets sets L list many h = (L.0, L.1, L.2, L.3.times, rw L.1 (h (edge_said s) (from-kept s wcets sets n L.1 L.2 L.3)))
