-- What comes first in the rest of a text, and the fields of the line that begins there.
use mathlib.Core.Path.{◌≡◌, refl, sym, ap, ◌∙◌}
use mathlib.Core.Bool.{Bool, true, false, not, ◌&&◌, and-false}
use mathlib.Core.List.{List, [], ◌∷◌, ◌++◌, append_assoc}
use Prim.Native.Nat.{ℕ, suc, ◌+◌, ◌-◌, ◌*◌, ◌≤◌, ◌<◌}
use native.Mathlib.Omega.{arith}
use lib.ListN.{length, get_or, drop, length-append, length-drop}
use lib.Dec.{eqb, ltb, leb}
use borrow.Author.Tests.{eqb-true, eqb-false, lt-ltb, le-leb, ltb-true, leb-true}
use Rattle.model.specs.Places.{pick}
use Rattle.model.proofs.Bools.{clash, both, left-of, right_of, or_neither, not-true, not-is-true}
use Rattle.stg_text.specs.Fields.{pieces, all, nonempty, feed, blank, fields, digit, numeral, value_from, value, numerals}
use Rattle.stg_scan.specs.Scan.{parts, skip_at, scan, token_from, token_at}
use Rattle.stg_scan.specs.Rest.{until_feed, has_feed, past_feed}
use Rattle.std.specs.Prelude.{Some, None}
use Rattle.stg_scan.specs.declared.Token.TheVariants.{End, Number}
use Rattle.stg_text.proofs.Pieces.{free, all_append}
use Rattle.stg_scan.proofs.Skips.{Skipped, drop-next, after-skip}
use Rattle.stg_scan.proofs.Words.{stops, until-word, has_word, past_word, nonempty-first, word-field, pieces-head, all_left, all_right, digits_free-blank, digits_free-feed}
use Rattle.stg_scan.proofs.Going.{drop_here, drop-end}

-- ---- digits scanned

record Scanned (s r : List ℕ) (i k x y e : ℕ) : Type 0 where
  word : List ℕ
  digits : all digit word ≡ true
  long : k + length word ≤ 10
  says : value_from x word ≡ y
  rest : r ≡ word ++ drop e s
  stopped : stops (drop e s) ≡ true
  at : e ≡ i + length word

scanned : (s r : List ℕ) (i k x y e : ℕ) → drop i s ≡ r → k ≤ 10 → scan i k x r ≡ Some (Number y e) → Scanned s r i k x y e
unfolding scan value_from
scanned s [] i k x y e d l h =
    let p : x ≡ y = cc in
    let q : i ≡ e = cc in
    record { word = []; digits = refl; long = omega arith; says = p; rest = rw (← q, d) refl; stopped = rw (← q, d) refl; at = omega arith }
scanned s (c ∷ r) i k x y e d l h = go (parts c) refl (digit c && ltb k 10) refl h (λ m g. scanned s r (i + 1) (k + 1) (10 * x + (c - 48)) y e (drop-next s i c r d) m g)
  where
    go : (b : Bool) → parts c ≡ b → (g : Bool) → digit c && ltb k 10 ≡ g
        → pick b (Some (Number x i)) (pick g (scan (i + 1) (k + 1) (10 * x + (c - 48)) r) None) ≡ Some (Number y e)
        → (k + 1 ≤ 10 → scan (i + 1) (k + 1) (10 * x + (c - 48)) r ≡ Some (Number y e) → Scanned s r (i + 1) (k + 1) (10 * x + (c - 48)) y e)
        → Scanned s (c ∷ r) i k x y e
    go true b g f h ih =
        let p : x ≡ y = cc in
        let q : i ≡ e = cc in
        record { word = []; digits = refl; long = omega arith; says = p; rest = rw (← q, d) refl; stopped = rw (← q, d) b; at = omega arith }
    go false b true f h ih =
        let w = ih (omega (arith, ltb-true k 10 (right_of (digit c) (ltb k 10) f))) h in
        record {
          word = c ∷ w.word;
          digits = both (digit c) (all digit w.word) (left-of (digit c) (ltb k 10) f) w.digits;
          long = omega (arith, w.long);
          says = w.says;
          rest = ap (λ (z : List ℕ). c ∷ z) w.rest;
          stopped = w.stopped;
          at = omega (arith, w.at);
        }
    go false b false f h ih = absurd (let z : ◌≡◌ {A = ℕ} 0 1 = cc in omega arith)

scan-no-end : (r : List ℕ) (i k x e : ℕ) → scan i k x r ≡ Some (End e) → ⊥
unfolding scan
scan-no-end [] i k x e h = let z : ◌≡◌ {A = ℕ} 0 1 = cc in omega arith
scan-no-end (c ∷ r) i k x e h = go (parts c) (digit c && ltb k 10) h (scan-no-end r (i + 1) (k + 1) (10 * x + (c - 48)) e)
  where
    go : (b g : Bool) → pick b (Some (Number x i)) (pick g (scan (i + 1) (k + 1) (10 * x + (c - 48)) r) None) ≡ Some (End e)
        → (scan (i + 1) (k + 1) (10 * x + (c - 48)) r ≡ Some (End e) → ⊥) → ⊥
    go true g h ih = let z : ◌≡◌ {A = ℕ} 0 1 = cc in omega arith
    go false true h ih = ih h
    go false false h ih = let z : ◌≡◌ {A = ℕ} 0 1 = cc in omega arith

-- a fault: a byte that is no digit, or an eleventh digit
record Broken (r : List ℕ) (k : ℕ) : Type 0 where
  word : List ℕ
  digits : all digit word ≡ true
  byte : ℕ
  others : List ℕ
  rest : r ≡ word ++ (byte ∷ others)
  no_part : parts byte ≡ false
  bad : digit byte && ltb (k + length word) 10 ≡ false

broken : (r : List ℕ) (i k x : ℕ) → scan i k x r ≡ None → Broken r k
unfolding scan
broken [] i k x h = absurd (let z : ◌≡◌ {A = ℕ} 0 1 = cc in omega arith)
broken (c ∷ r) i k x h = go (parts c) refl (digit c && ltb k 10) refl h (broken r (i + 1) (k + 1) (10 * x + (c - 48)))
  where
    go : (b : Bool) → parts c ≡ b → (g : Bool) → digit c && ltb k 10 ≡ g
        → pick b (Some (Number x i)) (pick g (scan (i + 1) (k + 1) (10 * x + (c - 48)) r) None) ≡ None
        → (scan (i + 1) (k + 1) (10 * x + (c - 48)) r ≡ None → Broken r (k + 1)) → Broken (c ∷ r) k
    go true b g f h ih = absurd (let z : ◌≡◌ {A = ℕ} 0 1 = cc in omega arith)
    go false b false f h ih =
        let e : k + 0 ≡ k = omega arith in
        record { word = []; digits = refl; byte = c; others = r; rest = refl; no_part = b; bad = rw e f }
    go false b true f h ih =
        let w = ih h in
        let e : k + suc (length w.word) ≡ k + 1 + length w.word = omega arith in
        record {
          word = c ∷ w.word;
          digits = both (digit c) (all digit w.word) (left-of (digit c) (ltb k 10) f) w.digits;
          byte = w.byte;
          others = w.others;
          rest = ap (λ (z : List ℕ). c ∷ z) w.rest;
          no_part = w.no_part;
          bad = rw e w.bad;
        }

-- a word that goes on after a fault is no numeral
broken_word : (r b : List ℕ) (B : Broken r 0) → numeral ((B.word ++ (B.byte ∷ [])) ++ b) ≡ false
unfolding numeral
broken_word r b B = not-true (numeral (a ++ b)) (λ h.
    let sized = left-of (leb 1 (length (a ++ b)) && leb (length (a ++ b)) 10) (all digit (a ++ b)) h in
    let few : length (a ++ b) ≤ 10 = leb-true (length (a ++ b)) 10 (right_of (leb 1 (length (a ++ b))) (leb (length (a ++ b)) 10) sized) in
    let digits = right_of (leb 1 (length (a ++ b)) && leb (length (a ++ b)) 10) (all digit (a ++ b)) h in
    let last : digit B.byte ≡ true = left-of (digit B.byte) true (all_right digit B.word (B.byte ∷ []) (all_left digit a b digits)) in
    let short : 0 + length B.word < 10 = omega (arith, length-append a b, length-append B.word (B.byte ∷ [])) in
    clash (both (digit B.byte) (ltb (0 + length B.word) 10) last (lt-ltb (0 + length B.word) 10 short)) B.bad)
  where
    a : List ℕ
    a = B.word ++ (B.byte ∷ [])

-- so the first field of such a rest is no numeral
broken_fields : (r : List ℕ) → Broken r 0 → (w : List ℕ) × (ws : List (List ℕ)) × (numeral w ≡ false) × (fields (until_feed r) ≡ w ∷ ws)
unfolding fields parts
broken_fields r B = (a ++ q.0, nonempty q.1, broken_word r q.0 B, ap (λ (z : List ℕ). fields (until_feed z)) rest ∙ (ap fields (until-word a ff B.others) ∙ (ap nonempty q.2 ∙ nonempty-first (a ++ q.0) q.1 some)))
  where
    a : List ℕ
    a = B.word ++ (B.byte ∷ [])

    n : (blank B.byte ≡ false) × (feed B.byte ≡ false)
    n = or_neither (blank B.byte) (feed B.byte) B.no_part

    ff : free feed a ≡ true
    ff = all_append (λ c. not (feed c)) B.word (B.byte ∷ []) (digits_free-feed B.word B.digits) (rw n.1 refl)

    fb : free blank a ≡ true
    fb = all_append (λ c. not (blank c)) B.word (B.byte ∷ []) (digits_free-blank B.word B.digits) (rw n.0 refl)

    rest : r ≡ a ++ B.others
    rest = B.rest ∙ sym (append_assoc B.word (B.byte ∷ []) B.others)

    q : (b : List ℕ) × (ws : List (List ℕ)) × (pieces blank (a ++ until_feed B.others) ≡ (a ++ b) ∷ ws)
    q = pieces-head blank a (until_feed B.others) fb

    some : 0 < length (a ++ q.0)
    some = omega (arith, length-append a q.0, length-append B.word (B.byte ∷ []))

-- ---- the three that come first

pub record Numbered (s : List ℕ) (at x e : ℕ) : Type 0 where
  pub word : List ℕ
  pub is-numeral : numeral word ≡ true
  pub says : value word ≡ x
  pub line : fields (until_feed (drop at s)) ≡ word ∷ fields (until_feed (drop e s))
  pub ends : has_feed (drop at s) ≡ has_feed (drop e s)
  pub past : past_feed (drop at s) ≡ past_feed (drop e s)
  pub further : at < e
  pub to : e ≤ length s

pub record Ended (s : List ℕ) (at e : ℕ) : Type 0 where
  pub line : fields (until_feed (drop at s)) ≡ []
  pub ends : has_feed (drop at s) ≡ true
  pub past : past_feed (drop at s) ≡ drop e s
  pub further : at < e
  pub to : e ≤ length s

-- the byte at a place, where the rest is not empty, parts nothing if it is bare and no line feed
byte-no-part : (c : ℕ) → not (blank c) ≡ true → feed c ≡ false → parts c ≡ false
unfolding parts
byte-no-part c b f = rw (not-is-true (blank c) b, f) refl

module _ (s : List ℕ) (at : ℕ) (l : at ≤ length s) where
  abbrev p : ℕ
  p = skip_at at (drop at s)

  K : Skipped s at p
  K = after-skip s (drop at s) at refl l

  number-first : (x e : ℕ) → p < length s → feed (get_or s p 0) ≡ false → scan p 0 0 (drop p s) ≡ Some (Number x e) → Numbered s at x e
  unfolding numeral value
  number-first x e b f h =
      let w = scanned s (drop p s) p 0 0 x e refl (omega arith) h in
      let d : drop p s ≡ get_or s p 0 ∷ drop (p + 1) s = drop_here s p b in
      let no_part : parts (get_or s p 0) ≡ false = byte-no-part (get_or s p 0) (rw d at K.is-bare) f in
      let some : 0 < length w.word = begins w.word refl no_part d in
      let sum : length s - p ≡ length w.word + (length s - e) =
      sym (length-drop p s) ∙ (ap (λ (z : List ℕ). length z) w.rest ∙ (length-append w.word (drop e s) ∙ ap (λ (z : ℕ). length w.word + z) (length-drop e s))) in
      let ff = digits_free-feed w.word w.digits in
      record {
        word = w.word;
        is-numeral = rw (le-leb 1 (length w.word) some, le-leb (length w.word) 10 (omega (arith, w.long)), w.digits) refl;
        says = w.says;
        line = K.same.line
            ∙ (ap (λ (z : List ℕ). fields (until_feed z)) w.rest
            ∙ (ap fields (until-word w.word ff (drop e s)) ∙ word-field w.word (drop e s) (digits_free-blank w.word w.digits) some w.stopped));
        ends = K.same.ends ∙ (ap has_feed w.rest ∙ has_word w.word ff (drop e s));
        past = K.same.past ∙ (ap past_feed w.rest ∙ past_word w.word ff (drop e s));
        further = omega (arith, w.at, K.from);
        to = omega (arith, w.at);
      }
    where
      w : Scanned s (drop p s) p 0 0 x e
      w = scanned s (drop p s) p 0 0 x e refl (omega arith) h

      begins : (v : List ℕ) → w.word ≡ v → parts (get_or s p 0) ≡ false → drop p s ≡ get_or s p 0 ∷ drop (p + 1) s → 0 < length v
      begins (c ∷ v) q n d = omega arith
      begins [] q n d =
          let z : e ≡ p = omega (arith, w.at, ap (λ (y : List ℕ). length y) q) in
          absurd (clash (rw (z, d) at w.stopped) n)

  feed-first : p < length s → feed (get_or s p 0) ≡ true → Ended s at (p + 1)
  unfolding until_feed has_feed past_feed fields pieces
  feed-first b f =
      let d : drop p s ≡ get_or s p 0 ∷ drop (p + 1) s = drop_here s p b in
      record {
        line = K.same.line ∙ rw (d, f) refl;
        ends = K.same.ends ∙ rw (d, f) refl;
        past = K.same.past ∙ rw (d, f) refl;
        further = omega (arith, K.from);
        to = omega arith;
      }

  fault-first : scan p 0 0 (drop p s) ≡ None → has_feed (drop at s) && numerals (until_feed (drop at s)) ≡ false
  unfolding numerals
  fault-first h =
      let r = broken_fields (drop p s) (broken (drop p s) p 0 0 h) in
      rw (K.same.line ∙ r.3, r.2) (and-false (has_feed (drop at s)))

  -- ---- by what the code is told

  -- no byte is left after the blanks
  nothing_left : p ≡ length s → has_feed (drop at s) && numerals (until_feed (drop at s)) ≡ false
  unfolding has_feed
  nothing_left e =
      let d : drop p s ≡ [] = drop-end s p (omega arith) in
      rw (K.same.ends, d) refl

  pub token_number : (x e : ℕ) → token_at s at ≡ Some (Number x e) → Numbered s at x e
  unfolding token_at token_from
  token_number x e h = go (eqb p (length s)) refl (feed (get_or s p 0)) refl h
    where
      go : (a : Bool) → eqb p (length s) ≡ a → (b : Bool) → feed (get_or s p 0) ≡ b
          → pick a None (pick b (Some (End (p + 1))) (scan p 0 0 (drop p s))) ≡ Some (Number x e) → Numbered s at x e
      go true i b j h = absurd (let z : ◌≡◌ {A = ℕ} 0 1 = cc in omega arith)
      go false i true j h = absurd (let z : ◌≡◌ {A = ℕ} 0 1 = cc in omega arith)
      go false i false j h = number-first x e (let d = eqb-false p (length s) i in omega (arith, K.to)) j h

  pub token_end : (e : ℕ) → token_at s at ≡ Some (End e) → Ended s at e
  unfolding token_at token_from
  token_end e h = go (eqb p (length s)) refl (feed (get_or s p 0)) refl h
    where
      go : (a : Bool) → eqb p (length s) ≡ a → (b : Bool) → feed (get_or s p 0) ≡ b
          → pick a None (pick b (Some (End (p + 1))) (scan p 0 0 (drop p s))) ≡ Some (End e) → Ended s at e
      go true i b j h = absurd (let z : ◌≡◌ {A = ℕ} 0 1 = cc in omega arith)
      go false i true j h =
          let q : p + 1 ≡ e = cc in
          rw (← q) (feed-first (let d = eqb-false p (length s) i in omega (arith, K.to)) j)
      go false i false j h = absurd (scan-no-end (drop p s) p 0 0 e h)

  pub token_fault : token_at s at ≡ None → has_feed (drop at s) && numerals (until_feed (drop at s)) ≡ false
  unfolding token_at token_from
  token_fault h = go (eqb p (length s)) refl (feed (get_or s p 0)) refl h
    where
      go : (a : Bool) → eqb p (length s) ≡ a → (b : Bool) → feed (get_or s p 0) ≡ b
          → pick a None (pick b (Some (End (p + 1))) (scan p 0 0 (drop p s))) ≡ None → has_feed (drop at s) && numerals (until_feed (drop at s)) ≡ false
      go true i b j h = nothing_left (eqb-true p (length s) i)
      go false i true j h = absurd (let z : ◌≡◌ {A = ℕ} 0 1 = cc in omega arith)
      go false i false j h = fault-first h
