-- Along a line of numbers: what the row keeps, and what is still to come.
use mathlib.Core.Path.{◌≡◌, refl, sym, ap, ◌∙◌}
use mathlib.Core.Bool.{Bool, true, false, ◌&&◌}
use mathlib.Core.List.{List, [], ◌∷◌, ◌++◌, map, append-nil, append_assoc}
use Prim.Native.Nat.{ℕ, ◌+◌, ◌≤◌}
use native.Mathlib.Omega.{arith}
use lib.ListN.{length, drop, length-append}
use Rattle.model.proofs.Bools.{clash, not-true}
use Rattle.stg_text.specs.Fields.{value, numerals, numbers}
use Rattle.stg_scan.specs.Scan.{token_at}
use Rattle.stg_scan.specs.Rest.{until_feed, has_feed, past_feed, lawful}
use Rattle.stg.specs.Rows.{Holds, Taken, LineRead, Lined}
use Rattle.stg.specs.declared.row.Row.{Row}
use Rattle.std.specs.Prelude.{Some, None}
use Rattle.stg_scan.specs.declared.Token.TheVariants.{End, Number}
use Rattle.stg_scan.proofs.Tokens.{Numbered, token_number, token_end, token_fault}
use Rattle.stg.proofs.Kept.{lawful-front}

pub record Along (s : List ℕ) (at n i : ℕ) (r : Row) : Type 0 where
  pub xs : List ℕ
  pub holds : Holds n xs r
  pub few : r.many + at ≤ i
  pub to : i ≤ length s
  pub all-numbers : numbers (until_feed (drop at s)) ≡ xs ++ numbers (until_feed (drop i s))
  pub all_numerals : numerals (until_feed (drop at s)) ≡ numerals (until_feed (drop i s))
  pub ends : has_feed (drop at s) ≡ has_feed (drop i s)
  pub past : past_feed (drop at s) ≡ past_feed (drop i s)

pub along-start : (s : List ℕ) (at n : ℕ) (r : Row) → at ≤ length s → Holds n [] r → Along s at n at r
along-start s at n r l H =
    record { xs = []; holds = H; few = omega (arith, H.all_many); to = l; all-numbers = refl; all_numerals = refl; ends = refl; past = refl }

module _ (s : List ℕ) (at n i : ℕ) (r : Row) (A : Along s at n i r) where
  pub along-end : (e : ℕ) → token_at s i ≡ Some (End e) → LineRead s at n r e
  unfolding numbers numerals
  along-end e h =
      let E = token_end s i A.to e h in
      let all : numbers (until_feed (drop at s)) ≡ A.xs = A.all-numbers ∙ (ap (λ (f : List (List ℕ)). A.xs ++ map value f) E.line ∙ append-nil A.xs) in
      record {
        ends = A.ends ∙ E.ends;
        all_numerals = A.all_numerals ∙ rw E.line refl;
        holds = rw all A.holds;
        past = A.past ∙ E.past;
        further = omega (arith, A.few, E.further);
        to = E.to;
      }

  pub along-fault : token_at s i ≡ None → Lined s at n None
  along-fault h =
      let l : List ℕ = until_feed (drop at s) in
      rw (A.ends, A.all_numerals) (cut (has_feed (drop i s)) (numerals (until_feed (drop i s))) (lawful n (numbers l)) (token_fault s i A.to h))
    where
      cut : (a b c : Bool) → a && b ≡ false → a && (b && c) ≡ false
      cut true true c h = absurd (clash refl h)
      cut true false c h = refl
      cut false b c h = refl

  module _ (x e : ℕ) (h : token_at s i ≡ Some (Number x e)) where
    N : Numbered s i x e
    N = token_number s i A.to x e h

    next-numbers : numbers (until_feed (drop i s)) ≡ x ∷ numbers (until_feed (drop e s))
    unfolding numbers
    next-numbers = rw (N.line, N.says) refl

    next-numerals : numerals (until_feed (drop i s)) ≡ numerals (until_feed (drop e s))
    unfolding numerals
    next-numerals = rw (N.line, N.is-numeral) refl

    more_numbers : numbers (until_feed (drop at s)) ≡ (A.xs ++ (x ∷ [])) ++ numbers (until_feed (drop e s))
    more_numbers =
        A.all-numbers
        ∙ (ap (λ (z : List ℕ). A.xs ++ z) next-numbers ∙ sym (append_assoc A.xs (x ∷ []) (numbers (until_feed (drop e s)))))

    pub along-more : (q : Row) → Taken n (A.xs ++ (x ∷ [])) (Some q) → Along s at n e q
    along-more q H =
        record {
          xs = A.xs ++ (x ∷ []);
          holds = H;
          few = omega (arith, H.all_many, length-append A.xs (x ∷ []), A.holds.all_many, A.few, N.further);
          to = N.to;
          all-numbers = more_numbers;
          all_numerals = A.all_numerals ∙ next-numerals;
          ends = A.ends ∙ N.ends;
          past = A.past ∙ N.past;
        }

    pub along_unlawful : Taken n (A.xs ++ (x ∷ [])) None → Lined s at n None
    along_unlawful f =
        let bad : lawful n (numbers (until_feed (drop at s))) ≡ false =
        not-true (lawful n (numbers (until_feed (drop at s)))) (λ t. clash (lawful-front n (A.xs ++ (x ∷ [])) (numbers (until_feed (drop e s))) (rw more_numbers at t)) f) in
        rw bad (cut (has_feed (drop at s)) (numerals (until_feed (drop at s))))
      where
        cut : (a b : Bool) → a && (b && false) ≡ false
        cut true true = refl
        cut true false = refl
        cut false b = refl
