-- A list and a number of the payload, from what the code tests.
use mathlib.Core.Path.{◌≡◌, refl}
use mathlib.Core.List.{List}
use Prim.Native.Nat.{ℕ, ◌+◌, ◌*◌, ◌≤◌, ◌<◌}
use lib.ListN.{length}
use Rattle.std.specs.Prelude.{Option, Some, None}
use borrow.Author.Tests.{le-leb, lt-leb}
use Rattle.wire.specs.Payload.{four_bytes, list_at, number_at}
use Rattle.wire.specs.declared.Part.{Part}
use Rattle.wire.specs.declared.Eight.{Eight}

module _ (p : List ℕ) (i : ℕ) where
  pub list-there : (w : ℕ) → w ≡ four_bytes p i → i + 4 + w ≤ length p → ◌≡◌ {A = Option Part} (Some (record { start = i + 4; end = i + 4 + w })) (list_at p i)
  unfolding list_at
  list-there w e l = rw e (rw (le-leb (i + 4 + four_bytes p i) (length p) (rw e at l)) refl)

  pub list_missing : length p < i + 4 + four_bytes p i → ◌≡◌ {A = Option Part} None (list_at p i)
  unfolding list_at
  list_missing l = rw (lt-leb (i + 4 + four_bytes p i) (length p) l) refl

  pub number-there : (v w : ℕ) → v ≡ four_bytes p i → w ≡ four_bytes p (i + 4) → i + 8 ≤ length p
      → ◌≡◌ {A = Option Eight} (Some (record { value = v + 4294967296 * w; end = i + 8 })) (number_at p i)
  unfolding number_at
  number-there v w e f l = rw (e, f) (rw (le-leb (i + 8) (length p) l) refl)

  pub number_missing : length p < i + 8 → ◌≡◌ {A = Option Eight} None (number_at p i)
  unfolding number_at
  number_missing l = rw (lt-leb (i + 8) (length p) l) refl
