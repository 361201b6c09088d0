-- For our own layers alone: no contract for callers and no claim cites this file.
--
-- Which of the vertices that can run do so: the model's `chosen`, said of any test for "ready", and kind by kind.
--
--   of_kind_of l n k v              v is one of the first n, and of kind k by the list l
--   set_at_of words k               the set in the words 2 k and 2 k + 1
--   OfKinds words l n           the words hold the vertices of each kind
--   Joined old k v new          v has joined the set k
--   go_on able ran mask v        in the mask, ready, and ran in the tick before
--   wait able ran mask v        in the mask, ready, and did not
--   starts stay free mask m v    v is free and in the mask, and gets one of the m cores that those in `stay` leave
--   filled able ran mask m v    v runs, where m cores are there for the mask
--   choice g able ran v         v runs
--   chosen_by kinds cores words able ran v    the same, by the words of the kinds
--   fair_by kinds cores words ran             no more vertices of a kind are marked than it has cores, by the words of the kinds
use Rattle.std.specs.Prelude.{◌≡◌, Bool, not, ◌&&◌, ◌||◌, List, ℕ, ◌+◌, ◌-◌, ◌*◌, ◌<◌, eqb, ltb, leb, get_or, length}
use Rattle.model.specs.Places.{any, count, every}
use Rattle.graph.specs.declared.Graph.{Graph}
use Rattle.vset.specs.declared.Vset.{Vset}
use Rattle.vset.specs.Members.{is_in, Members}

unfoldable pub of_kind_of : List ℕ → ℕ → ℕ → ℕ → Bool
of_kind_of l n k v = ltb v n && eqb (get_or l v 0) k

unfoldable pub set_at_of : List ℕ → ℕ → Vset
set_at_of words k = record { lo = get_or words (2 * k) 0; hi = get_or words (2 * k + 1) 0 }

pub record OfKinds (words l : List ℕ) (n : ℕ) : Type 0 where
  pub long : length words ≡ 20
  pub each : (k : ℕ) → k < 10 → Members (set_at_of words k) (of_kind_of l n k)

pub record Joined (old : List ℕ) (k v : ℕ) (new : List ℕ) : Type 0 where
  pub long : length new ≡ 20
  pub each : (j : ℕ) → j < 10 → Members (set_at_of old j) (is_in (set_at_of old j)) → Members (set_at_of new j) (λ u. is_in (set_at_of old j) u || (eqb k j && eqb u v))

unfoldable pub go_on : (ℕ → Bool) → (ℕ → Bool) → (ℕ → Bool) → ℕ → Bool
go_on able ran mask v = (able v && ran v) && mask v

unfoldable pub wait : (ℕ → Bool) → (ℕ → Bool) → (ℕ → Bool) → ℕ → Bool
wait able ran mask v = (able v && not (ran v)) && mask v

unfoldable pub starts : (ℕ → Bool) → (ℕ → Bool) → (ℕ → Bool) → ℕ → ℕ → Bool
starts stay free mask m v = (free v && mask v) && ltb (count (λ u. free u && mask u) v) (m - count (λ u. stay u && mask u) 128)

unfoldable pub filled : (ℕ → Bool) → (ℕ → Bool) → (ℕ → Bool) → ℕ → ℕ → Bool
filled able ran mask m v = (able v && (ran v || ltb (count (wait able ran mask) v) (m - count (go_on able ran mask) 128))) && mask v

unfoldable pub choice : Graph → (ℕ → Bool) → (ℕ → Bool) → ℕ → Bool
choice g able ran v = filled able ran (of_kind_of g.kind g.n (get_or g.kind v 0)) (get_or g.cores (get_or g.kind v 0) 0) v

unfoldable pub chosen_by : ℕ → List ℕ → List ℕ → (ℕ → Bool) → (ℕ → Bool) → ℕ → Bool
chosen_by kinds cores words able ran v =
    (able v && ran v) || any (λ k. starts (λ u. able u && ran u) (λ u. able u && not (ran u)) (is_in (set_at_of words k)) (get_or cores k 0) v) kinds

unfoldable pub fair_by : ℕ → List ℕ → List ℕ → (ℕ → Bool) → Bool
fair_by kinds cores words ran = every (λ k. leb (count (λ v. ran v && is_in (set_at_of words k) v) 128) (get_or cores k 0)) kinds
