-- Bytes laid in a room, one after another.
use mathlib.Core.Path.{◌≡◌, refl, sym, ap, ◌∙◌}
use mathlib.Core.Bool.{Bool, true, false, not, ◌&&◌}
use mathlib.Core.List.{List, [], ◌∷◌, ◌++◌, append_assoc, append-nil}
use Prim.Native.Nat.{ℕ, zero, suc, ◌+◌, ◌-◌, ◌*◌, ◌/◌, ◌%◌, ◌^◌, ◌≤◌, ◌<◌}
use native.Mathlib.Omega.{arith}
use native.Mathlib.Nat.{div-div-eq-div-mul, pow-suc}
use lib.ListN.{length, drop, set, length-append}
use lib.Seq.{sets, length-sets, set_comm, drop-cons, drop-length}
use lib.Dec.{eqb}
use Rattle.model.specs.Places.{pick, bit, first, count, that}
use Rattle.stg_text.specs.Canonical.{decimal, spaced, line_of}
use Rattle.stg_text.proofs.Digits.{decimal-some, decimal-length, decimal-least, decimal-place}
use Rattle.stg_text.proofs.Taken.{Upto, upto_none, upto_more, those_more, those_done}
use Rattle.stg_line.specs.Laid.{tailed, task_text}

-- ---- how many digits

pub width_one : (x : ℕ) → x < 10 → 1 ≡ length (decimal x)
width_one x l = omega (arith, decimal-some x, decimal-length x 0 l)

pub width-more : (x j : ℕ) → j < 9 → 10 ^ suc j ≤ x → x < 10 ^ suc (suc j) → suc (suc j) ≡ length (decimal x)
width-more x j k l h = omega (arith, decimal-length x (suc j) h, decimal-least x (suc j) (omega arith) l)

-- ---- runs of stores

pub sets_then : (o : List ℕ) (at : ℕ) (w w' : List ℕ) → sets (sets o at w) (at + length w) w' ≡ sets o at (w ++ w')
sets_then o at [] w' = let e : at + 0 ≡ at = omega arith in rw e refl
sets_then o at (a ∷ w) w' = let e : at + suc (length w) ≡ suc at + length w = omega arith in rw e (sets_then (set o at a) (suc at) w w')

-- a store before all of them may come first
set_sets : (o : List ℕ) (i a j : ℕ) (w : List ℕ) → i < j → set (sets o j w) i a ≡ sets (set o i a) j w
set_sets o i a j [] l = refl
set_sets o i a j (b ∷ w) l = set_sets (set o j b) i a (suc j) w (omega arith) ∙ ap (λ (z : List ℕ). sets z (suc j) w) (set_comm o j i b a (λ e. omega arith))

-- the bytes w laid from the place at on, up to r
pub record Put (o : List ℕ) (at r : ℕ) (o' w : List ℕ) : Type 0 where
  pub is : r ≡ at + length w
  pub laid : o' ≡ sets o at w

-- one thing put after the other
pub put_then : (o : List ℕ) (at r : ℕ) (o' w : List ℕ) (q : ℕ) (o'' w' : List ℕ) → Put o at r o' w → Put o' r q o'' w' → Put o at q o'' (w ++ w')
put_then o at r o' w q o'' w' P Q =
    record {
      is = rw (length-append w w') (omega (arith, P.is, Q.is));
      laid = Q.laid ∙ (rw (P.laid, P.is) (sets_then o at w w'));
    }

pub put-long : (o : List ℕ) (at r : ℕ) (o' w : List ℕ) → Put o at r o' w → length o' ≡ length o
put-long o at r o' w P = rw P.laid (length-sets o at w)

pub put_byte : (o : List ℕ) (at c : ℕ) → Put o at (at + 1) (set o at c) (c ∷ [])
put_byte o at c = record { is = refl; laid = refl }

-- ---- a number, the last digit first

module _ (o : List ℕ) (at x : ℕ) where
  -- the digits from the place k on are laid, and y is what is left
  pub record Laying (k y : ℕ) (o' : List ℕ) : Type 0 where
    pub from : at ≤ k
    pub to : k ≤ at + length (decimal x)
    pub left : y ≡ x / 10 ^ (at + length (decimal x) - k)
    pub laid : o' ≡ sets o k (drop (k - at) (decimal x))

  pub long : (k y : ℕ) (o' : List ℕ) → Laying k y o' → length o' ≡ length o
  long k y o' L = rw L.laid (length-sets o k (drop (k - at) (decimal x)))

  pub laying_none : Laying (at + length (decimal x)) x o
  laying_none =
      let e : at + length (decimal x) - (at + length (decimal x)) ≡ 0 = omega arith in
      let f : at + length (decimal x) - at ≡ length (decimal x) = omega arith in
      record {
        from = omega arith;
        to = omega arith;
        left = rw e (omega arith);
        laid = rw (f, drop-length (decimal x)) refl;
      }

  pub laying_more : (k y : ℕ) (o' : List ℕ) → at < k → Laying k y o' → Laying (k - 1) (y / 10) (set o' (k - 1) (48 + y % 10))
  laying_more k y o' l L =
      let n : ℕ = length (decimal x) in
      let i : ℕ = at + n - k in
      let to = L.to in
      let e : at + n - (k - 1) ≡ suc i = omega arith in
      let j : suc (k - 1 - at) ≡ k - at = omega arith in
      let m : k - 1 - at ≡ n - suc i = omega arith in
      let s : suc (k - 1) ≡ k = omega arith in
      let below : k - 1 < k = omega arith in
      let start : at ≤ k - 1 = omega arith in
      let end : k - 1 ≤ at + n = omega arith in
      let d : drop (k - 1 - at) (decimal x) ≡ (48 + y % 10) ∷ drop (k - at) (decimal x) =
      drop-cons (decimal x) (k - 1 - at) 0 (omega arith) ∙ rw (j, m, decimal-place x i (omega arith), ← L.left) refl in
      record {
        from = start;
        to = end;
        left = rw (e, L.left) (div-div-eq-div-mul x (10 ^ i) 10 ∙ ap (λ (z : ℕ). x / z) (sym (pow-suc 10 i)));
        laid = ap (λ (z : List ℕ). set z (k - 1) (48 + y % 10)) L.laid
            ∙ (set_sets o (k - 1) (48 + y % 10) k (drop (k - at) (decimal x)) below
            ∙ (ap (λ (z : ℕ). sets (set o (k - 1) (48 + y % 10)) z (drop (k - at) (decimal x))) (sym s) ∙ ap (λ (w : List ℕ). sets o (k - 1) w) (sym d)));
      }

  pub laying_all : (k y : ℕ) (o' : List ℕ) → k ≤ at → Laying k y o' → o' ≡ sets o at (decimal x)
  laying_all k y o' l L =
      let e : k ≡ at = omega (arith, L.from) in
      let f : at - at ≡ 0 = omega arith in
      rw (e, f) at L.laid

-- ---- the members of a set

pub tailed_more : (xs : List ℕ) (x : ℕ) → tailed (xs ++ (x ∷ [])) ≡ tailed xs ++ (32 ∷ decimal x)
unfolding tailed
tailed_more [] x = append-nil (32 ∷ decimal x)
tailed_more (y ∷ xs) x = rw (tailed_more xs x) (sym (append_assoc (32 ∷ decimal y) (tailed xs) (32 ∷ decimal x)))

-- more numbers have no fewer bytes, and none more than four
step : (p : ℕ → Bool) (w : ℕ) → w < 1000 → (length (tailed (that p w)) ≤ length (tailed (that p (suc w)))) × (length (tailed (that p (suc w))) ≤ length (tailed (that p w)) + 4)
unfolding that
step p w l = go (p w)
  where
    go : (b : Bool) → (length (tailed (that p w)) ≤ length (tailed (that p w ++ pick b (w ∷ []) []))) × (length (tailed (that p w ++ pick b (w ∷ []) [])) ≤ length (tailed (that p w)) + 4)
    go false = rw (append-nil (that p w)) (omega arith, omega arith)
    go true = rw (tailed_more (that p w) w, length-append (tailed (that p w)) (32 ∷ decimal w)) (omega arith, omega (arith, decimal-length w 2 l))

pub tailed-up : (p : ℕ → Bool) (w d : ℕ) → w + d ≤ 1000 → length (tailed (that p w)) ≤ length (tailed (that p (w + d)))
tailed-up p w zero l = let e : w + 0 ≡ w = omega arith in rw e (omega arith)
tailed-up p w (suc d) l = let e : w + suc d ≡ suc (w + d) = omega arith in rw e (omega (arith, tailed-up p w d (omega arith), (step p (w + d) (omega arith)).0))

pub tailed-few : (p : ℕ → Bool) (w : ℕ) → w ≤ 1000 → length (tailed (that p w)) ≤ 4 * w
unfolding that tailed
tailed-few p zero l = omega arith
tailed-few p (suc w) l = omega (arith, tailed-few p w (omega arith), (step p w (omega arith)).1)

-- those below w are done: so many bytes
pub record Done (set rest : ℕ → Bool) (sum : ℕ) : Type 0 where
  pub w : ℕ
  pub upto : Upto set rest w
  pub so_far : sum ≡ length (tailed (that set w))

module _ (set : ℕ → Bool) where
  same : (v : ℕ) → v < 128 → set (0 + v) ≡ set v
  same v l = let e : 0 + v ≡ v = omega arith in rw e refl

  pub done_none : Done set set 0
  unfolding that tailed
  done_none = record { w = 0; upto = upto_none set; so_far = refl }

  module _ (rest : ℕ → Bool) (w : ℕ) (U : Upto set rest w) (t : ℕ) (e : t ≡ first rest 128) (l : t < 128) (here : rest t ≡ true) where
    -- one member more
    pub tail_more : tailed (that set (suc t)) ≡ tailed (that set w) ++ (32 ∷ decimal t)
    tail_more =
        let a : 0 + suc t ≡ suc t = omega arith in
        let b : 0 + w ≡ w = omega arith in
        let c : 0 + t ≡ t = omega arith in
        ap tailed (rw (a, b, c) at (those_more set rest w U t e l here 0 set same)) ∙ tailed_more (that set w) t

    pub tail-length : length (tailed (that set (suc t))) ≡ length (tailed (that set w)) + length (32 ∷ decimal t)
    tail-length = rw tail_more (length-append (tailed (that set w)) (32 ∷ decimal t))

    -- it has room where all of them have
    pub tail-fits : length (tailed (that set w)) + length (32 ∷ decimal t) ≤ length (tailed (that set 128))
    tail-fits = let d : suc t + (128 - suc t) ≡ 128 = omega arith in omega (arith, tail-length, rw d at (tailed-up set (suc t) (128 - suc t) (omega arith)))

  pub tail_all : (rest : ℕ → Bool) (w : ℕ) → Upto set rest w → ((v : ℕ) → v < 128 → rest v ≡ false) → tailed (that set w) ≡ tailed (that set 128)
  tail_all rest w U none =
      let a : 0 + 128 ≡ 128 = omega arith in
      let b : 0 + w ≡ w = omega arith in
      ap tailed (sym (rw (a, b) at (those_done set rest w U 0 set same none)))

  -- ---- how many bytes they take

  pub done-few : (rest : ℕ → Bool) (sum : ℕ) → Done set rest sum → sum ≤ 512
  done-few rest sum D = let far = D.upto.far in omega (arith, D.so_far, tailed-few set D.w (omega arith))

  pub done_more : (rest : ℕ → Bool) (sum : ℕ) → Done set rest sum → (t : ℕ) → t ≡ first rest 128 → t < 128 → rest t ≡ true → (next : ℕ → Bool) → ((k : ℕ) → next k ≡ rest k && not (eqb k t))
      → (r : ℕ) → r ≡ length (decimal t) → Done set next (sum + r + 1)
  done_more rest sum D t e l here next is-next r q = record {
    w = suc t;
    upto = upto_more set rest D.w D.upto t e l here next is-next;
    so_far = omega (arith, D.so_far, tail-length rest D.w D.upto t e l here);
  }

  pub done_all : (rest : ℕ → Bool) (sum : ℕ) → Done set rest sum → ((v : ℕ) → v < 128 → rest v ≡ false) → sum ≡ length (tailed (that set 128))
  done_all rest sum D none = D.so_far ∙ ap (λ (z : List ℕ). length z) (tail_all rest D.w D.upto none)

  -- ---- and the bytes themselves

  pub record Going (o : List ℕ) (at : ℕ) (rest : ℕ → Bool) (i : ℕ) (o' : List ℕ) : Type 0 where
    pub w : ℕ
    pub upto : Upto set rest w
    pub put : Put o at i o' (tailed (that set w))

  module _ (o : List ℕ) (at : ℕ) where
    pub going-none : Going o at set at o
    unfolding that tailed
    going-none = record { w = 0; upto = upto_none set; put = record { is = omega arith; laid = refl } }

    module _ (rest : ℕ → Bool) (i : ℕ) (o' : List ℕ) (G : Going o at rest i o') (t : ℕ) (e : t ≡ first rest 128) (l : t < 128) (here : rest t ≡ true) where
      pub going-fits : at + length (tailed (that set 128)) ≤ length o → i + length (decimal t) < length o'
      going-fits f =
          omega (arith, put-long o at i o' (tailed (that set G.w)) G.put, G.put.is, tail-fits rest G.w G.upto t e l here)

      pub going_more : (next : ℕ → Bool) → ((k : ℕ) → next k ≡ rest k && not (eqb k t)) → (r : ℕ) (o'' : List ℕ) → Put o' i r o'' (32 ∷ decimal t) → Going o at next r o''
      going_more next is-next r o'' P = record {
        w = suc t;
        upto = upto_more set rest G.w G.upto t e l here next is-next;
        put = rw (tail_more rest G.w G.upto t e l here) (put_then o at i o' (tailed (that set G.w)) r o'' (32 ∷ decimal t) G.put P);
      }

    pub going-all : (rest : ℕ → Bool) (i : ℕ) (o' : List ℕ) → Going o at rest i o' → ((v : ℕ) → v < 128 → rest v ≡ false) → Put o at i o' (tailed (that set 128))
    going-all rest i o' G none = rw (← tail_all rest G.w G.upto none) G.put

-- ---- a line

pub line-one : (x : ℕ) → line_of (x ∷ []) ≡ decimal x ++ (10 ∷ [])
unfolding line_of spaced
line-one x = refl

pub line-long : (x : ℕ) → length (line_of (x ∷ [])) ≡ length (decimal x) + 1
line-long x = rw (line-one x) (length-append (decimal x) (10 ∷ []))

spaced-tailed : (x : ℕ) (xs : List ℕ) → spaced (x ∷ xs) ≡ decimal x ++ tailed xs
unfolding spaced tailed
spaced-tailed x [] = sym (append-nil (decimal x))
spaced-tailed x (y ∷ xs) = ap (λ (z : List ℕ). decimal x ++ (32 ∷ z)) (spaced-tailed y xs)

-- the parts of a task's line in their order
pub task-parts : (v time : ℕ) (p : ℕ → Bool)
    → (((decimal v ++ (32 ∷ decimal time)) ++ (32 ∷ decimal (length (that p 128)))) ++ tailed (that p 128)) ++ (10 ∷ []) ≡ task_text v time p
unfolding task_text line_of tailed
task-parts v time p =
    let x : List ℕ = 32 ∷ decimal time in
    let y : List ℕ = 32 ∷ decimal (length (that p 128)) in
    let z : List ℕ = tailed (that p 128) in
    ap (λ (w : List ℕ). w ++ (10 ∷ []))
    (append_assoc (decimal v ++ x) y z ∙ (append_assoc (decimal v) x (y ++ z) ∙ sym (spaced-tailed v (time ∷ length (that p 128) ∷ that p 128))))

pub task-long : (v time : ℕ) (p : ℕ → Bool)
    → length (task_text v time p) ≡ length (decimal v) + length (decimal time) + length (decimal (length (that p 128))) + length (tailed (that p 128)) + 3
task-long v time p =
    let x : List ℕ = 32 ∷ decimal time in
    let y : List ℕ = 32 ∷ decimal (length (that p 128)) in
    let z : List ℕ = tailed (that p 128) in
    rw (← task-parts v time p, length-append (((decimal v ++ x) ++ y) ++ z) (10 ∷ []), length-append ((decimal v ++ x) ++ y) z, length-append (decimal v ++ x) y, length-append (decimal v) x) (omega arith)

pub those_count : (p : ℕ → Bool) (m : ℕ) → length (that p m) ≡ count p m
unfolding that count
those_count p zero = refl
those_count p (suc m) = rw (length-append (that p m) (pick (p m) (m ∷ []) []), those_count p m) (go (p m))
  where
    go : (b : Bool) → count p m + length (pick b (m ∷ []) []) ≡ count p m + bit b
    go true = refl
    go false = refl
