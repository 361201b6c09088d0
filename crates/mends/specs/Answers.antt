-- What `mend` answers, and what the two lent buffers hold afterwards (order 12: "Refusals: 1, 2 for an unknown kind only, 3, then 15 when
-- the mended buffer is shorter than the input or the list has under 16 bytes for each input record").
--
--   Mended                      how many bytes the mended file and the list have, or a refusal
--   unknown s k                 record k is of no known kind
--   judge_mend s                 the answer of 1, 2 and 3
--   Mendable s                  none of the three applies
--   tight s room listRoom       15: one of the buffers is too short
--   mend_of s room listRoom      the answer where so many bytes are lent: how long the mended file and the list are
--   file_after s room list       what the buffer for the file holds at the end, where it held room and the list's buffer held list
--   list_after_of s room list       what the buffer for the list holds at the end
--   Same s room list file       the answer is the length of the file and an empty list; the one buffer holds the file, the other what it held
use Rattle.std.specs.Prelude.{Result, Ok, Err}
use Rattle.std.specs.Prelude.{◌≡◌, Bool, false, ◌||◌, List, ◌++◌, ℕ, ◌*◌, ◌<◌, length, drop, eqb, ltb}
use Rattle.model.specs.Places.{pick, first}
use Rattle.graph.specs.File.{records, order}
use Rattle.graph.specs.Rules.{rule1, rule3}
use Rattle.graph.specs.Answer.{Answer}
use Rattle.graph.specs.Answer as answers
use Rattle.graph.specs.declared.Refusal.{Refusal}
use Rattle.mends.specs.Mended.{mended_of}
use Rattle.mends.specs.Listed.{list_of}
use Rattle.mends.specs.declared.Sizes.{Sizes}

abbrev pub Mended : Type 0
Mended = Result Sizes Refusal

abbrev pub Lengths : Sizes → Mended
Lengths x = Ok x

abbrev pub Refused : Refusal → Mended
Refused r = Err r

unfoldable pub unknown : List ℕ → ℕ → Bool
unknown s k = eqb (order s k) 3

-- the number with the first record that has p, or else the answer x
abbrev pub refused_at : ℕ → (ℕ → Bool) → ℕ → Answer → Answer
refused_at number p n x = pick (ltb (first p n) n) (answers.Refused (record { number = number; place = first p n })) x

unfoldable pub judge_mend : List ℕ → Answer
judge_mend s =
    pick (rule1 s) (answers.Refused (record { number = 1; place = 0 }))
    (refused_at 2 (unknown s) (records s) (refused_at 3 (rule3 s) (records s) answers.Accepted))

pub record Mendable (s : List ℕ) : Type 0 where
  pub whole : rule1 s ≡ false
  pub known : (k : ℕ) → k < records s → unknown s k ≡ false
  pub sorted : (k : ℕ) → k < records s → rule3 s k ≡ false

unfoldable pub tight : List ℕ → ℕ → ℕ → Bool
tight s room listRoom = ltb room (length s) || ltb listRoom (16 * records s)

abbrev pub mend_by : Answer → List ℕ → ℕ → ℕ → Mended
mend_by (Ok _) s room listRoom =
    pick (tight s room listRoom) (Refused (record { number = 15; place = 0 }))
    (Lengths (record { file = length (mended_of s); list = length (list_of s) }))
mend_by (Err r) s room listRoom = Refused r

unfoldable pub mend_of : List ℕ → ℕ → ℕ → Mended
mend_of s room listRoom = mend_by (judge_mend s) s room listRoom

-- on success the answer, then what stood past it; beside a refusal what stood there
abbrev pub held_by : Mended → List ℕ → List ℕ → List ℕ
held_by (Ok x) answer old = answer ++ drop (length answer) old
held_by (Err r) answer old = old

unfoldable pub file_after : List ℕ → List ℕ → List ℕ → List ℕ
file_after s room list = held_by (mend_of s (length room) (length list)) (mended_of s) room

unfoldable pub list_after_of : List ℕ → List ℕ → List ℕ → List ℕ
list_after_of s room list = held_by (mend_of s (length room) (length list)) (list_of s) list

pub record Same (s room list : List ℕ) (file : List ℕ) : Type 0 where
  pub answer : mend_of s (length room) (length list) ≡ Lengths (record { file = length file; list = 0 })
  pub file_holds : file_after s room list ≡ file ++ drop (length file) room
  pub list_holds : list_after_of s room list ≡ list
