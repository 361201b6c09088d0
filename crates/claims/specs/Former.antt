-- How a file was judged before order 3, with row 12 of document 01's table. Only order 3's theorems cite this file.
--
--   rule12 s               row 12
--   held_before s num k     the row of number num, of the table's first twelve, held for the place k
--   AcceptedBefore a s     none of them from a on applied: the reader accepted the file (from 1 on), the writer the lists that give it (from 4 on)
--   RefusedBefore a s r    r is the lowest of them from a on that applied, with the first place that it held for
use Rattle.std.specs.Prelude.{◌≡◌, Bool, true, false, not, ◌||◌, List, ℕ, ◌≤◌, ◌<◌, eqb}
use Rattle.model.specs.Places.{pick, count}
use Rattle.model.specs.Graph.{source, sink}
use Rattle.graph.specs.File.{many}
use Rattle.graph.specs.Rules.{holds, places}
use Rattle.graph.specs.declared.Refusal.{Refusal}
use Rattle.claims.specs.Claims.{drawn_in}

-- not exactly one source, or not exactly one sink
unfoldable pub rule12 : List ℕ → Bool
rule12 s = not (eqb (count (source (drawn_in s)) (many s 1)) 1) || not (eqb (count (sink (drawn_in s)) (many s 1)) 1)

unfoldable pub held_before : List ℕ → ℕ → ℕ → Bool
held_before s num k = pick (eqb num 12) (rule12 s) (holds s num k)

abbrev pub AcceptedBefore : ℕ → List ℕ → Type 0
AcceptedBefore a s = (num k : ℕ) → a ≤ num → num < 13 → k < places s num → held_before s num k ≡ false

pub record RefusedBefore (a : ℕ) (s : List ℕ) (r : Refusal) : Type 0 where
  pub least : a ≤ r.number
  pub known : r.number < 13
  pub within : r.place < places s r.number
  pub there : held_before s r.number r.place ≡ true
  pub not_before : (k : ℕ) → k < r.place → held_before s r.number k ≡ false
  pub no_lower : (num k : ℕ) → a ≤ num → num < r.number → k < places s num → held_before s num k ≡ false
