-- What a table has after a number was put into one of its rows.
use mathlib.Core.Path.{◌≡◌, refl, ap, ◌∙◌}
use mathlib.Core.Bool.{Bool, ◌&&◌, ◌||◌, or-false}
use mathlib.Core.List.{List}
use Prim.Native.Nat.{ℕ, ◌<◌}
use native.Mathlib.Omega.{arith}
use native.Mathlib.Decide.{ℕ_discrete}
use lib.ListN.{length, set, length-set}
use lib.Dec.{eqb}
use borrow.Author.Tests.{eq-eqb, ne_eqb, lt-ltb}
use Rattle.vset.specs.Members.{is_in, Members, set_of}
use Rattle.vset.specs.declared.Vset.{Vset}
use Rattle.vset.proofs.Same.{set-members, set-of, set_in}
use Rattle.vset.proofs.Words.{past-none}
use Rattle.sets.specs.Sets.{row_of, words_of, Holds, joined}
use Rattle.sets.proofs.Tables.{row_same, row_other, put-table, in_same, in_other}

pub joined-long : (t : List (List ℕ)) (v k : ℕ) → length (joined t v k) ≡ length t
unfolding joined
joined-long t v k = length-set t v (words_of (set_of (λ j. is_in (row_of t v) j || eqb j k)))

pub joined_in : (t : List (List ℕ)) (v k : ℕ) → v < length t → (a j : ℕ) → j < 128 → is_in (row_of (joined t v k) a) j ≡ is_in (row_of t a) j || (eqb a v && eqb j k)
unfolding joined
joined_in t v k l a j h = go (ℕ_discrete a v)
  where
    go : Dec (a ≡ v) → is_in (row_of (joined t v k) a) j ≡ is_in (row_of t a) j || (eqb a v && eqb j k)
    go (yes e) =
        rw (e, eq-eqb v v refl)
        (ap (λ (s : Vset). is_in s j) (row_same t v (set_of (λ j. is_in (row_of t v) j || eqb j k)) l) ∙ ((set-members (λ j. is_in (row_of t v) j || eqb j k)).are j ∙ rw (lt-ltb j 128 h) refl))
    go (no d) = rw (ne_eqb a v d, or-false (is_in (row_of t a) j)) (ap (λ (s : Vset). is_in s j) (row_other t v (set_of (λ j. is_in (row_of t v) j || eqb j k)) a d))

-- the set that `vset` gives is the one that is put
pub joined_is : (t : List (List ℕ)) (v k : ℕ) (old new : Vset) → old ≡ row_of t v → Members new (λ j. is_in old j || eqb j k) → set t v (words_of new) ≡ joined t v k
unfolding joined
joined_is t v k old new e m =
    ap (λ (x : Vset). set t v (words_of x)) (set-of new (λ j. is_in old j || eqb j k) m) ∙ ap (λ (x : Vset). set t v (words_of (set_of (λ j. is_in x j || eqb j k)))) e

-- the members of each row, after k was put into row v
pub joined-holds : {t : List (List ℕ)} {p : ℕ → ℕ → Bool} (v k : ℕ) → Holds t p → v < 128 → k < 128 → Holds (joined t v k) (λ a j. p a j || (eqb a v && eqb j k))
unfolding joined
joined-holds {t} {p} v k H l m = record { table = put-table t v s H.table l M; row = λ a j h. go a j h (ℕ_discrete a v) }
  where
    more : ℕ → Bool
    more j = is_in (row_of t v) j || eqb j k

    s : Vset
    s = set_of more

    M : Members s more
    M =
        let q = set-members more in
        record {
          low = q.low;
          high = q.high;
          are = set_in more (λ j h. rw (past-none (row_of t v) (H.table.low v l) (H.table.high v l) j h) (ne_eqb j k (λ e. omega (arith, e))));
        }

    go : (a j : ℕ) → a < 128 → Dec (a ≡ v) → is_in (row_of (set t v (words_of s)) a) j ≡ p a j || (eqb a v && eqb j k)
    go a j h (yes e) = rw (e, eq-eqb v v refl) (in_same t v s H.table l j ∙ M.are j ∙ ap (λ (b : Bool). b || eqb j k) (H.row v j l))
    go a j h (no d) = rw (ne_eqb a v d, or-false (p a j)) (in_other t v s H.table l a j d ∙ H.row a j h)
