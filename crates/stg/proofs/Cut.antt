-- The edge list as the code makes it: the numbers for which a test holds, up to one more than is allowed; and that no more are needed.
use mathlib.Core.Path.{◌≡◌, refl, sym, ap, ◌∙◌}
use mathlib.Core.Bool.{Bool, true, false, not, ◌&&◌}
use mathlib.Core.List.{List, [], ◌∷◌, ◌++◌}
use Prim.Native.Nat.{ℕ, suc, ◌+◌, ◌-◌, ◌*◌, ◌/◌, ◌%◌, ◌≤◌, ◌<◌, min}
use native.Mathlib.Omega.{arith}
use native.Mathlib.Decide.{ℕ_discrete}
use native.Mathlib.Numerals.{add-one}
use lib.ListN.{length, take, set, replicate, length-append, length-replicate, length-set, length-take}
use lib.Seq.{take_all, take-append-le, take-suc-set, get_or-take}
use lib.Dec.{eqb}
use borrow.Author.Tests.{ne_eqb, le-ltb}
use Rattle.model.specs.Places.{first, that}
use Rattle.graph.specs.Judge.{judge_from}
use Rattle.writer.specs.Lists.{Lists, lists}
use Rattle.writer.specs.Write.{type_of, vertex_of, edge_of, wrote_by, wrote_of, room_by, room_after}
use Rattle.writer.specs.Image.{record_at_of, part, seen}
use Rattle.writer.proofs.Joined.{joined_ext}
use Rattle.writer.proofs.Cut.{wrote-cut, room_cut}
use Rattle.vset.specs.Members.{is_in}
use Rattle.vset.specs.declared.Vset.{Vset}
use Rattle.sets.specs.Sets.{row_of}
use Rattle.stg_text.specs.Layout.{tasks}
use Rattle.stg_text.specs.Says.{edge_said}
use Rattle.stg_text.proofs.Those.{those_quiet}
use Rattle.stg_text.proofs.Taken.{Upto, upto_none, upto_more, those_more, those_done}
use Rattle.stg.specs.After.{From}
use Rattle.stg.specs.Lines.{precedes, Kept}
use Rattle.stg.specs.Listed.{FULL, Listed}

-- ---- one edge more

pub listed-none : Listed [] 0 (replicate 1025 0)
listed-none = record { kept = refl; count = refl; long = length-replicate {A = ℕ} 1025 0 }

pub listed-full : (xs : List ℕ) (many : ℕ) (list : List ℕ) (x : ℕ) → 1025 ≤ many → Listed xs many list → Listed (xs ++ (x ∷ [])) many list
listed-full xs many list x f L =
    let m : FULL ≤ length xs = omega (arith, L.count) in
    record {
      kept = L.kept ∙ sym (take-append-le FULL xs (x ∷ []) m);
      count = L.count ∙ rw (length-append xs (x ∷ [])) (omega arith);
      long = L.long;
    }

pub listed_more : (xs : List ℕ) (many : ℕ) (list : List ℕ) (x : ℕ) → many < 1025 → Listed xs many list → Listed (xs ++ (x ∷ [])) (many + 1) (set list many x)
listed_more xs many list x f L =
    let m : length xs < FULL = omega (arith, L.count) in
    let all : take FULL (xs ++ (x ∷ [])) ≡ xs ++ (x ∷ []) = take_all FULL (xs ++ (x ∷ [])) (rw (length-append xs (x ∷ [])) (omega arith)) in
    record {
      kept = rw (add-one many) (take-suc-set list many x (omega (arith, L.long)) ∙ rw all (ap (λ (z : List ℕ). z ++ (x ∷ [])) (L.kept ∙ take_all FULL xs (omega arith))));
      count = rw (length-append xs (x ∷ [])) (omega (arith, L.count));
      long = length-set list many x ∙ L.long;
    }

-- ---- the edges from one task

-- of the set of u, the rest holds the members from w on; those below w are listed
pub record Listing (u : ℕ) (set : Vset) (many₀ : ℕ) (list₀ : List ℕ) (rest : ℕ → Bool) (many : ℕ) (list : List ℕ) : Type 0 where
  pub w : ℕ
  pub upto : Upto (is_in set) rest w
  pub done : (p : ℕ → Bool) → From p u set → Listed (that p (256 * u)) many₀ list₀ → Listed (that p (256 * u + w)) many list
  pub few : many ≤ 1025
  pub long : length list ≡ 1025

module _ (u : ℕ) (set : Vset) (many₀ : ℕ) (list₀ : List ℕ) where
  pub listing_none : many₀ ≤ 1025 → length list₀ ≡ 1025 → Listing u set many₀ list₀ (is_in set) many₀ list₀
  listing_none f l = record {
    w = 0;
    upto = upto_none (is_in set);
    done = λ p F L. let e : 256 * u + 0 ≡ 256 * u = omega arith in rw e L;
    few = f;
    long = l;
  }

  pub listing_more : (rest : ℕ → Bool) (many : ℕ) (list : List ℕ) (t : ℕ) (next : ℕ → Bool) (r : ℕ) (list' : List ℕ) → Listing u set many₀ list₀ rest many list → t ≡ first rest 128 → t < 128
      → rest t ≡ true → ((k : ℕ) → next k ≡ rest k && not (eqb k t)) → ((xs : List ℕ) → Listed xs many list → Listed (xs ++ ((256 * u + t) ∷ [])) r list') → r ≤ 1025 → length list' ≡ 1025
      → Listing u set many₀ list₀ next r list'
  listing_more rest many list t next r list' G e l here is-next push few long = record {
    w = suc t;
    upto = upto_more (is_in set) rest G.w G.upto t e l here next is-next;
    done = λ p F L. rw (those_more (is_in set) rest G.w G.upto t e l here (256 * u) p F.members) (push (that p (256 * u + G.w)) (G.done p F L));
    few = few;
    long = long;
  }

  pub listing_all : (rest : ℕ → Bool) (many : ℕ) (list : List ℕ) → Listing u set many₀ list₀ rest many list → ((v : ℕ) → v < 128 → rest v ≡ false)
      → (p : ℕ → Bool) → From p u set → Listed (that p (256 * u)) many₀ list₀ → Listed (that p (256 * (u + 1))) many list
  listing_all rest many list G none p F L =
      let d : 256 * u + 128 + 128 ≡ 256 * (u + 1) = omega arith in
      rw (
        ← d,
        those_quiet p (256 * u + 128) 128 (λ j a b.
            let e : 256 * u + (j - 256 * u) ≡ j = omega arith in
            rw e at (F.others (j - 256 * u) (omega arith) (omega arith))),
        those_done (is_in set) rest G.w G.upto (256 * u) p F.members none,
      ) (G.done p F L)

-- ---- the sets of a text

-- row u of the table is who comes after u in the text
pub from-kept : (s wcets : List ℕ) (sets : List (List ℕ)) (n : ℕ) → tasks s ≡ n → n ≤ 126 → Kept s (n + 2) wcets sets → (u : ℕ) → u < n + 2 → From (edge_said s) u (row_of sets u)
unfolding edge_said precedes
from-kept s wcets sets n is few K u l = record {
  members = λ v h. let q : (256 * u + v) / 256 ≡ u = omega arith in let r : (256 * u + v) % 256 ≡ v = omega arith in rw (q, r, is) (sym (K.after u v (omega arith) h));
  others = λ v h b. let r : (256 * u + v) % 256 ≡ v = omega arith in rw (r, is, le-ltb v (n + 2) (omega arith)) refl;
}

-- ---- no more edges are needed

module _ (cores kinds wcets edges : List ℕ) where
  abbrev whole : Lists
  whole = lists cores kinds wcets edges

  abbrev some : Lists
  some = lists cores kinds wcets (take FULL edges)

  record_same : (a b k : ℕ) → k - a - b < FULL → record_at_of some a b k ≡ record_at_of whole a b k
  unfolding record_at_of type_of vertex_of edge_of
  record_same a b k l = rw (get_or-take FULL edges (k - a - b) 0 l) refl

  seen_same : seen some ≡ seen whole
  unfolding seen part
  seen_same =
      let e : min (length (take FULL edges)) 1025 ≡ min (length edges) 1025 = omega (arith, length-take FULL edges) in
      let a : ℕ = min (length cores) 11 in
      let b : ℕ = min (length kinds) 129 in
      rw e (joined_ext (record_at_of some a b) (record_at_of whole a b) (a + b + min (length edges) 1025) (λ k l. record_same a b k (omega arith)))

  pub wrote-same : (room : ℕ) → wrote_of some room ≡ wrote_of whole room
  unfolding wrote_of
  wrote-same room = go (ℕ_discrete (length kinds) (length wcets))
    where
      go : Dec (length kinds ≡ length wcets) → wrote_of some room ≡ wrote_of whole room
      go (yes q) = sym (wrote-cut some q room) ∙ (ap (λ (z : List ℕ). wrote_by (judge_from 2 z) (length z) room) seen_same ∙ wrote-cut whole q room)
      go (no d) = rw (ne_eqb (length kinds) (length wcets) d) refl

  pub room-same : (out : List ℕ) → room_after some out ≡ room_after whole out
  unfolding room_after wrote_of
  room-same out = go (ℕ_discrete (length kinds) (length wcets))
    where
      go : Dec (length kinds ≡ length wcets) → room_after some out ≡ room_after whole out
      go (yes q) = sym (room_cut some q out) ∙ (ap (λ (z : List ℕ). room_by (wrote_by (judge_from 2 z) (length z) (length out)) z out) seen_same ∙ room_cut whole q out)
      go (no d) = rw (ne_eqb (length kinds) (length wcets) d) refl
