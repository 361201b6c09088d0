-- What the contracts say leaves one choice only: of a table, a head, a trace.
use mathlib.Core.Path.{◌≡◌, refl, sym, ap, ap₂, ◌∙◌}
use mathlib.Core.List.{List, ◌∷◌, ◌++◌}
use mathlib.Core.Logic.{◌⊎◌, inl, inr}
use Prim.Native.Nat.{ℕ, suc, ◌≤◌, ◌<◌}
use native.Mathlib.Omega.{arith}
use lib.ListN.{length, drop}
use Rattle.model.specs.Graph.{Graph}
use Rattle.model.proofs.Bools.{le-or-lt}
use Rattle.model.proofs.Tables.{same-table}
use Rattle.paths.specs.Ahead.{weigh, sum_at, Ahead, Longest, Head, Summed}
use Rattle.paths.specs.declared.ahead.Sums.{Sums}
use Rattle.paths.specs.Trace.{Trace, stop, on, Traced}

ahead_unique : {G : Graph} {f : ℕ → ℕ} {v x y : ℕ} → Ahead G f v x → Ahead G f v y → x ≡ y
ahead_unique a b =
    omega (arith, a.attained, b.attained, a.unexceeded b.path b.to_sink, b.unexceeded a.path a.to_sink)

longest_unique : {G : Graph} (f : ℕ → ℕ) (s t : List ℕ) → Longest G f s → Longest G f t → s ≡ t
longest_unique {G} f s t a b = same-table G.n a.size b.size (λ v l. ahead_unique (a.ahead v l) (b.ahead v l)) a.past b.past

head_unique : {G : Graph} (value : ℕ → ℕ) (h k : ℕ) → Head G value h → Head G value k → h ≡ k
head_unique value h k a b = go (le-or-lt h k) (le-or-lt k h)
  where
    go : (h ≤ k) ⊎ (k < h) → (k ≤ h) ⊎ (h < k) → h ≡ k
    go (inl l) (inl m) = omega arith
    go (inr l) x = absurd (omega (arith, a.first k l b.is_source, b.most h a.known a.is_source))
    go (inl l) (inr m) = absurd (omega (arith, b.first h m a.is_source, a.most k b.known b.is_source))

pub summed_unique : {G : Graph} {f : ℕ → ℕ} (r r' : Sums) → Summed G f r → Summed G f r' → r ≡ r'
summed_unique {f = f} r r' a b =
    let t = longest_unique f r.ahead r'.ahead a.longest b.longest in
    let h = head_unique (sum_at f (weigh r'.ahead)) r.head r'.head (rw t at a.head) b.head in
    λ i. record { ahead = t i; head = h i }

trace_unique : {G : Graph} {f s : ℕ → ℕ} {u : ℕ} {p q : List ℕ} → Trace G f s u p → Trace G f s u q → p ≡ q
trace_unique (stop l n) (stop m k) = refl
trace_unique (stop l n) (on {v = v} e k m t) = absurd (n v e)
trace_unique (on {v = v} e k m t) (stop l n) = absurd (n v e)
trace_unique (on {v = v} {p = p} e k m t) (on {v = w} {p = q} d j n r) =
    let z : v ≡ w = omega (arith, m w d j, n v e k) in ap₂ (λ (x : ℕ) (y : List ℕ). x ∷ y) z (trace_unique (rw z at t) r)

pub traced_unique : {G : Graph} (f s : ℕ → ℕ) (h : ℕ) (old : List ℕ) {new new' : List ℕ} {n n' : ℕ} → Traced G f s h old new n → Traced G f s h old new' n'
    → (n ≡ n') × (new ≡ new')
traced_unique f s h old {n = n} {n' = n'} a b =
    let e = trace_unique a.trace b.trace in
    let m : n ≡ n' = a.count ∙ ap (λ (p : List ℕ). suc (length p)) e ∙ sym b.count in
    (m, a.held ∙ ap₂ (λ (p : List ℕ) (k : ℕ). (h ∷ p) ++ drop k old) e m ∙ sym b.held)
