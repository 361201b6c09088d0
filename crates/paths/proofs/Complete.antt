-- The largest sum along a complete path: that of the head. Weights count only at the vertices that there are.
use mathlib.Core.Path.{◌≡◌, sym, ap, ◌∙◌}
use mathlib.Core.List.{List, ◌∷◌}
use Prim.Native.Nat.{ℕ, ◌+◌, ◌*◌, ◌≤◌, ◌<◌}
use native.Mathlib.Nat.{mul-le-mul_left}
use native.Mathlib.Omega.{arith}
use lib.ListN.{get_or, length}
use Rattle.model.specs.Places.{along}
use Rattle.model.specs.Graph.{Graph, WellFormed}
use Rattle.model.specs.Cycle.{Acyclic}
use Rattle.model.specs.Path.{ToSink, end, link, Complete, complete, Greatest, LeastLongest}
use Rattle.model.proofs.Paths.{along-path, head-known, path-short}
use Rattle.paths.specs.Ahead.{weigh, sum_at, Light, Ahead, Longest, Head}

-- no weight above c: no sum above c for each vertex
along-most : (f : ℕ → ℕ) (c : ℕ) {G : Graph} (W : WellFormed G) {p : List ℕ} → ToSink G p → ((v : ℕ) → v < G.n → f v ≤ c) → along f p ≤ c * length p
unfolding along
along-most f c W (end {v = v} l s) h = omega (arith, h v l)
along-most f c W (link {u = u} {v = v} e t) h = omega (arith, along-most f c W t h, h u (W.from u v e))

module _ {G : Graph} (W : WellFormed G) where
  pub head_greatest : (f s : ℕ → ℕ) (h : ℕ) → ((v : ℕ) → v < G.n → Ahead G f v (s v)) → Head G (sum_at f s) h → Greatest G (along f) (f h + s h)
  unfolding along
  head_greatest f s h L H =
      let a = L h H.known in
      record { path = h ∷ a.path; is_complete = complete H.is_source a.to_sink; attained = ap (λ (x : ℕ). f h + x) a.attained; unexceeded = most }
    where
      most : (p : List ℕ) → Complete G p → along f p ≤ f h + s h
      most p (complete {u = u} {p = q} t c) =
          let l = head-known W c in omega (arith, H.most u l t, (L u l).unexceeded q c)

  -- no sum ahead lies above what 128 vertices can weigh
  pub ahead_small : Acyclic G → G.n ≤ 128 → (w s : List ℕ) → Light G w → Longest G (weigh w) s → (v : ℕ) → v < G.n → get_or s v 0 ≤ 92252160000000
  unfolding along
  ahead_small A small w s light L v l =
      let a = L.ahead v l in
      omega (arith, a.attained, along-most (weigh w) 720720000000 W a.to_sink light, path-short W A a.to_sink)

  -- two weights that agree on the vertices
  pub along-same : (f g : ℕ → ℕ) {p : List ℕ} → ToSink G p → ((v : ℕ) → v < G.n → f v ≡ g v) → along f p ≡ along g p
  along-same f g t e =
      omega (arith, along-path W f g t (λ v l. omega (arith, e v l)), along-path W g f t (λ v l. omega (arith, e v l)))

  complete-to-sink : {p : List ℕ} → Complete G p → ToSink G p
  complete-to-sink (complete s c) = c

  pub greatest_same : (f g : ℕ → ℕ) {x : ℕ} → ((v : ℕ) → v < G.n → f v ≡ g v) → Greatest G (along f) x → Greatest G (along g) x
  greatest_same f g e r = record {
    path = r.path;
    is_complete = r.is_complete;
    attained = sym (along-same f g (complete-to-sink r.is_complete) e) ∙ r.attained;
    unexceeded = λ p c. omega (arith, along-same f g (complete-to-sink c) e, r.unexceeded p c);
  }

  pub least-longest-same : (f g : ℕ → ℕ) {p : List ℕ} → ((v : ℕ) → v < G.n → f v ≡ g v) → LeastLongest G f p → LeastLongest G g p
  least-longest-same f g {p} e r = record {
    is_complete = r.is_complete;
    longest = λ q c. omega (arith, same q c, same p r.is_complete, r.longest q c);
    least = λ q c h. r.least q c (same q c ∙ h ∙ sym (same p r.is_complete));
  }
    where
      same : (q : List ℕ) → Complete G q → along f q ≡ along g q
      same q c = along-same f g (complete-to-sink c) e

  pub greatest_small : Acyclic G → (f : ℕ → ℕ) (c : ℕ) {x : ℕ} → ((v : ℕ) → v < G.n → f v ≤ c) → Greatest G (along f) x → x ≤ c * G.n
  greatest_small A f c h r =
      let t = complete-to-sink r.is_complete in
      omega (arith, r.attained, along-most f c W t h, mul-le-mul_left c (path-short W A t))
