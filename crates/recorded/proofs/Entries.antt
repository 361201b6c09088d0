-- The records of `bytes_of`: record k is the one with the k-th key.
use mathlib.Core.Path.{◌≡◌, refl, sym, ap, ◌∙◌}
use mathlib.Core.Bool.{Bool, true, false, not}
use mathlib.Core.List.{List, [], ◌∷◌, ◌++◌, append_assoc, append-nil}
use Prim.Native.Nat.{ℕ, zero, suc, ◌+◌, ◌*◌, ◌/◌, ◌%◌, ◌≤◌, ◌<◌}
use native.Mathlib.Omega.{arith}
use native.Mathlib.Decide.{ℕ_discrete}
use lib.ListN.{length, get_or, length-append, get_or-append}
use lib.Seq.{get_or-append-add}
use lib.Dec.{eqb, lit<}
use borrow.Author.Tests.{eq-eqb, ne_eqb}
use Rattle.model.specs.Places.{pick, bit}
use Rattle.graph.specs.File.{byte_at, word_at}
use Rattle.recorded.specs.Log.{is_start, is_stop, who, instant_at, key, spare_set}
use Rattle.recorded.specs.LogOf.{log_record, bytes_of}

pub eight : (x : ℕ) → length (log_record x) ≡ 8
unfolding log_record
eight x = refl

pub bytes-length : (xs : List ℕ) → length (bytes_of xs) ≡ 8 * length xs
unfolding bytes_of
bytes-length [] = refl
bytes-length (x ∷ xs) = length-append (log_record x) (bytes_of xs) ∙ omega (arith, eight x, bytes-length xs)

pub bytes-more : (xs : List ℕ) (x : ℕ) → bytes_of (xs ++ (x ∷ [])) ≡ bytes_of xs ++ log_record x
unfolding bytes_of
bytes-more [] x = append-nil (log_record x)
bytes-more (y ∷ xs) x = ap (λ (l : List ℕ). log_record y ++ l) (bytes-more xs x) ∙ sym (append_assoc (log_record y) (bytes_of xs) (log_record x))

pub bytes-at : (xs : List ℕ) (k j : ℕ) → k < length xs → j < 8 → byte_at (bytes_of xs) k j ≡ get_or (log_record (get_or xs k 0)) j 0
unfolding bytes_of
bytes-at [] k j l h = absurd (omega arith)
bytes-at (x ∷ xs) zero j l h =
    let e : 8 * 0 + j ≡ j = omega arith in
    let b : j < length (log_record x) = omega (arith, eight x) in
    rw e (get_or-append (log_record x) (bytes_of xs) 0 j b)
bytes-at (x ∷ xs) (suc k) j l h =
    let e : 8 * suc k + j ≡ length (log_record x) + (8 * k + j) = omega (arith, eight x) in
    rw e (get_or-append-add (log_record x) (bytes_of xs) (8 * k + j) 0 ∙ bytes-at xs k j (omega arith) h)

-- and their bytes are bytes
pub record-bytes : (x j : ℕ) → x / 512 ≤ 128000000 → get_or (log_record x) j 0 < 256
unfolding log_record
record-bytes x zero h = kinds (eqb (x / 256 % 2) 1)
  where
    kinds : (b : Bool) → pick {A = ℕ} b 0x53 0x50 < 256
    kinds true = lit< tt
    kinds false = lit< tt
record-bytes x (suc zero) h = omega arith
record-bytes x (suc (suc zero)) h = lit< tt
record-bytes x (suc (suc (suc zero))) h = lit< tt
record-bytes x (suc (suc (suc (suc zero)))) h = omega arith
record-bytes x (suc (suc (suc (suc (suc zero))))) h = omega arith
record-bytes x (suc (suc (suc (suc (suc (suc zero)))))) h = omega arith
record-bytes x (suc (suc (suc (suc (suc (suc (suc zero))))))) h = omega arith
record-bytes x (suc (suc (suc (suc (suc (suc (suc (suc j)))))))) h = lit< tt

-- what a record says
pub record Says (l : List ℕ) (k x : ℕ) : Type 0 where
  pub start : is_start l k ≡ eqb (x / 256 % 2) 1
  pub stop : is_stop l k ≡ not (eqb (x / 256 % 2) 1)
  pub vertex : who l k ≡ x % 256
  pub instant : instant_at l k ≡ x / 512
  pub has_key : key l k ≡ x
  pub spare : spare_set l k ≡ false

module _ (xs : List ℕ) (k : ℕ) (l : k < length xs) where
  abbrev x : ℕ
  x = get_or xs k 0

  kinds : (b : Bool) → (eqb (pick {A = ℕ} b 0x53 0x50) 0x53 ≡ b) × (eqb (pick {A = ℕ} b 0x53 0x50) 0x50 ≡ not b)
  kinds true = (refl, refl)
  kinds false = (refl, refl)

  byte-0 : byte_at (bytes_of xs) k 0 ≡ pick (eqb (x / 256 % 2) 1) 0x53 0x50
  unfolding log_record
  byte-0 = bytes-at xs k 0 l (lit< tt)

  starts_by : is_start (bytes_of xs) k ≡ eqb (x / 256 % 2) 1
  unfolding is_start
  starts_by = rw byte-0 (kinds (eqb (x / 256 % 2) 1)).0

  stops-by : is_stop (bytes_of xs) k ≡ not (eqb (x / 256 % 2) 1)
  unfolding is_stop
  stops-by = rw byte-0 (kinds (eqb (x / 256 % 2) 1)).1

  vertex-by : who (bytes_of xs) k ≡ x % 256
  unfolding log_record
  vertex-by = bytes-at xs k 1 l (lit< tt)

  instant-by : instant_at (bytes_of xs) k ≡ x / 512
  unfolding instant_at word_at log_record
  instant-by = omega (
    arith,
    bytes-at xs k 4 l (lit< tt),
    bytes-at xs k 5 l (lit< tt),
    bytes-at xs k 6 l (lit< tt),
    bytes-at xs k 7 l (lit< tt),
  )

  spare-by : spare_set (bytes_of xs) k ≡ false
  unfolding spare_set log_record
  spare-by = rw (eq-eqb (byte_at (bytes_of xs) k 2) 0 (bytes-at xs k 2 l (lit< tt)), eq-eqb (byte_at (bytes_of xs) k 3) 0 (bytes-at xs k 3 l (lit< tt))) refl

  key-by : key (bytes_of xs) k ≡ x
  unfolding key
  key-by = rw starts_by (go (ℕ_discrete (x / 256 % 2) 1))
    where
      go : Dec (x / 256 % 2 ≡ 1) → 512 * instant_at (bytes_of xs) k + 256 * bit (eqb (x / 256 % 2) 1) + who (bytes_of xs) k ≡ x
      go (yes q) = rw (eq-eqb (x / 256 % 2) 1 q) (omega (arith, instant-by, vertex-by))
      go (no q) = rw (ne_eqb (x / 256 % 2) 1 q) (omega (arith, instant-by, vertex-by))

  pub says : Says (bytes_of xs) k (get_or xs k 0)
  says = record { start = starts_by; stop = stops-by; vertex = vertex-by; instant = instant-by; has_key = key-by; spare = spare-by }
