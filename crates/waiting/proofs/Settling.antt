-- Those who are finished tell their successors, one after another, until nobody has anything left to tell. A vertex counts as long as
-- it is unfinished or has not told its successors. Whoever tells them no longer counts, and for nobody else that changes. So the
-- numbers stay those of the predecessors that count.
use mathlib.Core.Path.{◌≡◌, refl, sym, ap, ap₂, ◌∙◌}
use mathlib.Core.Logic.{◌⊎◌, inl, inr}
use mathlib.Core.List.{List}
use mathlib.Core.Bool.{Bool, true, false, not, ◌&&◌, ◌||◌, or-false, and-true, and-false}
use Prim.Native.Nat.{ℕ, zero, suc, ◌+◌, ◌≤◌, ◌<◌}
use native.Mathlib.Omega.{arith}
use lib.Dec.{eqb, ltb}
use lib.ListN.{get_or}
use borrow.Author.Tests.{lt-ltb, le-ltb, ltb-false, eq-eqb, eqb-true}
use Rattle.model.specs.Places.{count}
use Rattle.model.proofs.Bools.{clash, cases, left-of, right_of, or_right, or_cases, or_neither, not-is-true}
use Rattle.model.proofs.Places.{count_less}
use Rattle.vset.specs.declared.Vset.{Vset}
use Rattle.vset.specs.Members.{is_in, Members}
use Rattle.starts.specs.Starts.{start_in}
use Rattle.waiting.specs.declared.News.{News}
use Rattle.waiting.specs.Waiting.{leading, edges_by, Layout, Told, Unsettled, Settled}
use Rattle.waiting.proofs.Rows.{start-listed, split}
use Rattle.waiting.proofs.Numbers.{entering_ext}

-- a vertex stands no longer behind another: then it is done unless it has ticks left
freed : (b d : Bool) (x y : ℕ) → y ≤ x → (b || ltb 0 y) || (d || ((ltb 0 x && eqb y 0) && not b)) ≡ (b || ltb 0 x) || d
freed true d x y h = refl
freed false d x zero h = turned d (ltb 0 x)
  where
    turned : (d e : Bool) → d || ((e && true) && true) ≡ e || d
    turned true true = refl
    turned true false = refl
    turned false true = refl
    turned false false = refl
freed false d x (suc y) h = rw (lt-ltb 0 (suc y) (omega arith), lt-ltb 0 x (omega arith)) refl

module _ (l starts : List ℕ) (L : Layout l starts) where
  abbrev m : ℕ
  m = edges_by starts

  abbrev start : ℕ → ℕ
  start u = start_in l m u

  pub start-at : (u : ℕ) → u < 129 → get_or starts u 0 ≡ start u
  start-at u h = start-listed l m starts L.begin u h

  module _ (w : List ℕ) (busy behind done : ℕ → Bool) (U : Unsettled l m w busy behind done) (u : ℕ) (here : done u ≡ true) where
    abbrev counting : ℕ → Bool
    counting v = (busy v || behind v) || done v

    counts-here : counting u ≡ true
    counts-here = or_right (busy u || behind u) (done u) here

    -- what u has to tell is counted
    pub enough : (v : ℕ) → v < 128 → leading l (start u) (start (u + 1)) v ≤ get_or w v 0
    enough v h = omega (arith, U.counts v h, split l m L.together counting u v counts-here)

    module _ (new : List ℕ) (s r : News) (is-done : (v : ℕ) → is_in s.done v ≡ done v && not (eqb v u)) (T : Told l (start u) (start (u + 1)) w busy s new r) where
      fewer : (v : ℕ) → get_or new v 0 ≤ get_or w v 0
      fewer v = omega (arith, T.less v)

      -- who is finished waits for nobody
      waits-not : (v : ℕ) → busy v || behind v ≡ false → (busy v ≡ false) × ((get_or w v 0 ≡ 0) × (get_or new v 0 ≡ 0))
      waits-not v e =
          let n = or_neither (busy v) (behind v) e in
          let z = ltb-false 0 (get_or w v 0) (sym (U.stand v) ∙ n.1) in
          (n.0, (omega (arith, z), omega (arith, z, fewer v)))

      pub counts-less : (v : ℕ) → (busy v || is_in r.behind v) || is_in r.done v ≡ counting v && not (eqb v u)
      counts-less v =
          ap₂ (λ (a b : Bool). (busy v || a) || b) (T.behind.are v) (T.done.are v ∙ ap (λ (a : Bool). a || ((ltb 0 (get_or w v 0) && eqb (get_or new v 0) 0) && not (busy v))) (is-done v))
          ∙ go (cases (eqb v u))
        where
          go : (eqb v u ≡ true) ⊎ (eqb v u ≡ false)
              → (busy v || ltb 0 (get_or new v 0)) || ((done v && not (eqb v u)) || ((ltb 0 (get_or w v 0) && eqb (get_or new v 0) 0) && not (busy v))) ≡ ((busy v || behind v) || done v) && not (eqb v u)
          go (inl q) =
              let e = eqb-true v u q in
              let z = waits-not v (ap (λ (x : ℕ). busy x || behind x) e ∙ U.apart u here) in
              rw (q, z.0, z.1.0, z.1.1, le-ltb 0 0 (omega arith), and-false (done v)) (sym (and-false ((false || behind v) || done v)))
          go (inr q) =
              rw (q, U.stand v, and-true (done v)) (freed (busy v) (done v) (get_or w v 0) (get_or new v 0) (fewer v) ∙ sym (and-true ((busy v || ltb 0 (get_or w v 0)) || done v)))

      pub told-one : Unsettled l m new busy (is_in r.behind) (is_in r.done)
      told-one = record {
        long = T.long;
        counts = λ v h.
            omega (
              arith,
              T.less v,
              U.counts v h,
              split l m L.together counting u v counts-here,
              entering_ext l (λ x. (busy x || is_in r.behind x) || is_in r.done x) (λ x. counting x && not (eqb x u)) m v counts-less,
            );
        stand = T.behind.are;
        apart = λ v t. apart v (or_cases (is_in s.done v) ((ltb 0 (get_or w v 0) && eqb (get_or new v 0) 0) && not (busy v)) (sym (T.done.are v) ∙ t));
      }
        where
          off : (v : ℕ) → busy v ≡ false → get_or new v 0 ≡ 0 → busy v || is_in r.behind v ≡ false
          off v a z = ap₂ ◌||◌ a (T.behind.are v ∙ ap (ltb 0) z ∙ le-ltb 0 0 (omega arith))

          apart : (v : ℕ) → (is_in s.done v ≡ true) ⊎ ((ltb 0 (get_or w v 0) && eqb (get_or new v 0) 0) && not (busy v) ≡ true) → busy v || is_in r.behind v ≡ false
          apart v (inl t) =
              let z = waits-not v (U.apart v (left-of (done v) (not (eqb v u)) (sym (is-done v) ∙ t))) in
              off v z.0 z.1.1
          apart v (inr t) =
              off v (not-is-true (busy v) (right_of (ltb 0 (get_or w v 0) && eqb (get_or new v 0) 0) (not (busy v)) t))
              (eqb-true (get_or new v 0) 0 (right_of (ltb 0 (get_or w v 0)) (eqb (get_or new v 0) 0) (left-of (ltb 0 (get_or w v 0) && eqb (get_or new v 0) 0) (not (busy v)) t)))

      pub fewer-count : u < 128 → count (λ v. (busy v || is_in r.behind v) || is_in r.done v) 128 < count counting 128
      fewer-count h =
          count_less (λ v. (busy v || is_in r.behind v) || is_in r.done v) counting u 128 h (λ v k t. left-of (counting v) (not (eqb v u)) (sym (counts-less v) ∙ t)) counts-here
          (counts-less u ∙ ap (λ (b : Bool). counting u && not b) (eq-eqb u u refl) ∙ and-false (counting u))

  -- nobody is left who has something to tell
  pub all_told : (w : List ℕ) (busy : ℕ → Bool) (behind : Vset) (done : ℕ → Bool) → Unsettled l m w busy (is_in behind) done → Members behind (is_in behind) → ((v : ℕ) → done v ≡ false) → Settled l m w busy behind
  all_told w busy behind done U b none = record {
    long = U.long;
    counts = λ v h. U.counts v h ∙ entering_ext l (λ u. (busy u || is_in behind u) || done u) (λ u. busy u || is_in behind u) m v (λ u. ap (λ (x : Bool). (busy u || is_in behind u) || x) (none u) ∙ or-false (busy u || is_in behind u));
    stand = record { low = b.low; high = b.high; are = U.stand };
  }

-- ---- some have run out of ticks

-- who has run out of ticks, and stands behind nobody, is finished, and has its successors to tell
pub run_out : (l : List ℕ) (m : ℕ) (w : List ℕ) (busy : ℕ → Bool) (behind : Vset) → Settled l m w busy behind → (over rest : ℕ → Bool) → ((v : ℕ) → over v ≡ true → busy v && not (is_in behind v) ≡ true)
    → ((v : ℕ) → rest v ≡ busy v && not (over v)) → Unsettled l m w rest (is_in behind) over
run_out l m w busy behind S over rest free is-rest = record {
  long = S.long;
  counts = λ v h. S.counts v h ∙ entering_ext l (λ u. busy u || is_in behind u) (λ u. (rest u || is_in behind u) || over u) m v same;
  stand = S.stand.are;
  apart = λ v t. ap₂ ◌||◌ (is-rest v ∙ ap (λ (b : Bool). busy v && not b) t ∙ and-false (busy v)) (not-is-true (is_in behind v) (right_of (busy v) (not (is_in behind v)) (free v t)));
}
  where
    moved : (b h o : Bool) → (o ≡ true → b ≡ true) → b || h ≡ ((b && not o) || h) || o
    moved true true true f = refl
    moved true true false f = refl
    moved true false true f = refl
    moved true false false f = refl
    moved false h true f = absurd (clash (f refl) refl)
    moved false h false f = sym (or-false h)

    same : (u : ℕ) → busy u || is_in behind u ≡ (rest u || is_in behind u) || over u
    same u = moved (busy u) (is_in behind u) (over u) (λ t. left-of (busy u) (not (is_in behind u)) (free u t)) ∙ ap (λ (b : Bool). (b || is_in behind u) || over u) (sym (is-rest u))
