-- A task put after each member of a set, one by one.
use mathlib.Core.Path.{◌≡◌, refl, ap, ◌∙◌}
use mathlib.Core.Bool.{Bool, true, false, not, ◌&&◌, ◌||◌, or-false}
use mathlib.Core.List.{List}
use Prim.Native.Nat.{ℕ, ◌<◌}
use native.Mathlib.Omega.{arith}
use lib.ListN.{length}
use lib.Dec.{eqb}
use Rattle.vset.specs.Members.{is_in}
use Rattle.vset.proofs.Taking.{still_in, taken_more, none-taken, all-taken}
use Rattle.sets.specs.Sets.{row_of, joined}
use Rattle.sets.proofs.Joining.{joined-long, joined_in}
use Rattle.stg.specs.After.{Spread}

-- those that are no longer in the rest have it
pub record Spreading (old : List (List ℕ)) (on : ℕ → Bool) (v : ℕ) (new : List (List ℕ)) (rest : ℕ → Bool) : Type 0 where
  pub inside : (u : ℕ) → rest u ≡ true → on u ≡ true
  pub so_far : Spread old (λ u. on u && not (rest u)) v new

module _ (old : List (List ℕ)) (on : ℕ → Bool) (v : ℕ) where
  pub spreading_none : length old ≡ 128 → Spreading old on v old on
  spreading_none l = record { inside = λ u h. h; so_far = record { long = l; at = λ u k h. rw (none-taken on u, or-false (is_in (row_of old u) k)) refl } }

  pub spreading_more : (new : List (List ℕ)) (rest : ℕ → Bool) (t : ℕ) → Spreading old on v new rest → t < 128 → rest t ≡ true → (next : ℕ → Bool) → ((k : ℕ) → next k ≡ rest k && not (eqb k t))
      → Spreading old on v (joined new t v) next
  spreading_more new rest t S l here next is-next = record {
    inside = λ u h. S.inside u (still_in rest next t is-next here u h);
    so_far = record {
      long = joined-long new t v ∙ S.so_far.long;
      at = λ u k h. joined_in new t v (omega (arith, S.so_far.long)) u k h ∙ rw (S.so_far.at u k h, taken_more rest next t is-next here on (S.inside t here) u) (go (is_in (row_of old u) k) (on u && not (rest u)) (eqb u t) (eqb k v));
    };
  }
    where
      go : (a b c d : Bool) → (a || (b && d)) || (c && d) ≡ a || ((b || c) && d)
      go true b c d = refl
      go false true c true = refl
      go false true true false = refl
      go false true false false = refl
      go false false c d = refl

  pub spreading_all : (new : List (List ℕ)) (rest : ℕ → Bool) → Spreading old on v new rest → ((u : ℕ) → rest u ≡ false) → Spread old on v new
  spreading_all new rest S none = record {
    long = S.so_far.long;
    at = λ u k h. S.so_far.at u k h ∙ ap (λ (b : Bool). is_in (row_of old u) k || (b && eqb k v)) (all-taken on rest none u);
  }
