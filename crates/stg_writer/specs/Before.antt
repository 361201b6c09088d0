-- For our own layers alone: no contract for callers and no claim cites this file.
--
-- A graph as the code writes it: t is the table of each vertex's predecessors, s the set of those that are a predecessor, w the WCETs.
--
--   joins_in l u v i        edge i of the list l leads from u to v
--   Gathered l m s t       t and s are those of the first m edges of the list l
--   other_end_of n t s v       of n vertices, v is another source than the first, or another sink than the last
--   ends_other n t s w      there is one; or there are fewer than three vertices, or the first or the last has a time above 0
--   line_in t w v           the line of vertex v
--   lines_in n t w m        the count's line, and those of the first m vertices
--   text_in n t w           the text of n vertices
use Rattle.std.specs.Prelude.{◌≡◌, Bool, not, ◌&&◌, ◌||◌, List, [], ◌∷◌, ◌++◌, ℕ, ◌-◌, ◌<◌, length, get_or, eqb, ltb}
use Rattle.model.specs.Places.{any}
use Rattle.vset.specs.Members.{is_in}
use Rattle.vset.specs.declared.Vset.{Vset}
use Rattle.sets.specs.Sets.{row_of}
use Rattle.writer.specs.Write.{joined}
use Rattle.starts.specs.Starts.{comes_from, leads_to}
use Rattle.stg_text.specs.Canonical.{line_of}
use Rattle.stg_line.specs.Laid.{task_text}

unfoldable pub joins_in : List ℕ → ℕ → ℕ → ℕ → Bool
joins_in l u v i = eqb (comes_from l i) u && eqb (leads_to l i) v

pub record Gathered (l : List ℕ) (m : ℕ) (s : Vset) (t : List (List ℕ)) : Type 0 where
  pub long : length t ≡ 128
  pub rows : (u v : ℕ) → u < 128 → v < 128 → is_in (row_of t v) u ≡ any (joins_in l u v) m
  pub some : (u : ℕ) → is_in s u ≡ any (λ i. eqb (comes_from l i) u) m

unfoldable pub other_end_of : ℕ → List (List ℕ) → Vset → ℕ → Bool
other_end_of n t s v = (not (eqb v 0) && not (any (is_in (row_of t v)) 128)) || (not (eqb v (n - 1)) && not (is_in s v))

unfoldable pub ends_other : ℕ → List (List ℕ) → Vset → List ℕ → Bool
ends_other n t s w = ltb n 3 || (any (other_end_of n t s) n || (ltb 0 (get_or w 0 0) || ltb 0 (get_or w (n - 1) 0)))

unfoldable pub line_in : List (List ℕ) → List ℕ → ℕ → List ℕ
line_in t w v = task_text v (get_or w v 0) (is_in (row_of t v))

unfoldable pub lines_in : ℕ → List (List ℕ) → List ℕ → ℕ → List ℕ
lines_in n t w m = line_of ((n - 2) ∷ []) ++ joined (line_in t w) m

unfoldable pub text_in : ℕ → List (List ℕ) → List ℕ → List ℕ
text_in n t w = lines_in n t w n
