-- The log of a schedule (document 02, order 7: "A log need not be our list schedule, but the log of one is accepted").
--
-- A vertex starts at an instant where it runs in the tick from there on and did not run in the tick before; it stops where it ran in
-- the tick before and does not run on. A record is named by its key, as in Log: 512 × instant + 256 for a start + vertex; the log has the
-- records in ascending order of their keys.
--
--   ran_before S t v       v ran in the tick that ends at the instant t
--   change n S x          the record with the key x is a start or a stop of a vertex below n in the schedule S
--   log_record x           the 8 bytes of the record with the key x
--   bytes_of xs            the records with these keys, one after the other
--   log_up_to n S h         the log of S, with the records up to the instant h
--   log_of G e             the log of G's list schedule with the times e: a run ends when all its ticks are done, at the latest
use Rattle.std.specs.Prelude.{Bool, false, not, ◌&&◌, List, [], ◌∷◌, ◌++◌, ℕ, zero, suc, ◌*◌, ◌/◌, ◌%◌, eqb, ltb}
use Rattle.model.specs.Places.{pick, sum, that}
use Rattle.model.specs.Graph.{Graph}
use Rattle.model.specs.Schedule.{Schedule}
use Rattle.model.specs.ListSchedule.{list_schedule}

unfoldable pub ran_before : Schedule → ℕ → ℕ → Bool
ran_before S zero v = false
ran_before S (suc t) v = S.runs t v

unfoldable pub starts_at : Schedule → ℕ → ℕ → Bool
starts_at S t v = S.runs t v && not (ran_before S t v)

unfoldable pub stops_at_of : Schedule → ℕ → ℕ → Bool
stops_at_of S t v = ran_before S t v && not (S.runs t v)

-- x / 512 is the instant, x / 256 % 2 tells a start from a stop, x % 256 is the vertex
unfoldable pub change : ℕ → Schedule → ℕ → Bool
change n S x = ltb (x % 256) n && pick (eqb (x / 256 % 2) 1) (starts_at S (x / 512) (x % 256)) (stops_at_of S (x / 512) (x % 256))

abbrev pub eight_bytes : ℕ → ℕ → ℕ → List ℕ
eight_bytes b v t = b ∷ v ∷ 0 ∷ 0 ∷ t % 256 ∷ t / 256 % 256 ∷ t / 65536 % 256 ∷ t / 16777216 ∷ []

unfoldable pub log_record : ℕ → List ℕ
log_record x = eight_bytes (pick (eqb (x / 256 % 2) 1) 0x53 0x50) (x % 256) (x / 512)

unfoldable pub bytes_of : List ℕ → List ℕ
bytes_of [] = []
bytes_of (x ∷ xs) = log_record x ++ bytes_of xs

unfoldable pub log_up_to : ℕ → Schedule → ℕ → List ℕ
log_up_to n S h = bytes_of (that (change n S) (512 * suc h))

unfoldable pub log_of : Graph → (ℕ → ℕ) → List ℕ
log_of G e = log_up_to G.n (list_schedule G e) (sum e G.n)
