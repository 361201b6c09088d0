-- The round trips: what is written reads back as the same file, and a canonical text that is read and written gives the same bytes.
use Rattle.std.specs.Prelude.{Ok, Err}
use mathlib.Core.Path.{◌≡◌, refl, sym, ap, ◌∙◌}
use mathlib.Core.Bool.{Bool, true, false, ◌&&◌}
use mathlib.Core.List.{List, ◌++◌}
use Prim.Native.Nat.{ℕ, suc, ◌+◌, ◌-◌, ◌*◌, ◌/◌, ◌%◌, ◌^◌, ◌≤◌, ◌<◌, zero-le}
use native.Mathlib.Omega.{arith}
use lib.ListN.{length, get_or, take, drop}
use lib.Seq.{take_at, ext_get_or, get_or-take, length-take-le}
use lib.Dec.{ltb}
use borrow.Author.Tests.{lt-ltb, ltb-false}
use Rattle.model.specs.Places.{any, table}
use Rattle.model.specs.Graph.{Edge}
use Rattle.model.proofs.Bools.{same_test, right_of, or_neither}
use Rattle.model.proofs.Tables.{table-length, table_at, padded-length}
use Rattle.graph.specs.File.{graph_of}
use Rattle.graph.specs.Model.{AcceptedGraph, as_model, from}
use Rattle.graph.specs.Judge.{judge_from, read_of}
use Rattle.graph.specs.Answer.{Answer}
use Rattle.graph.specs.Answer as answers
use Rattle.graph.specs.declared.Graph.{Graph}
use Rattle.graph.proofs.Accepted.{taken}
use Rattle.writer.specs.Lists.{Lists, lists_in}
use Rattle.writer.specs.Write.{wrote_of, room_after}
use Rattle.writer.specs.Wrote.{Bytes}
use Rattle.writer.proofs.RoundTrip.{read-written}
use Rattle.stg_text.specs.Fields.{member}
use Rattle.stg_text.specs.Layout.{outside}
use Rattle.stg_text.specs.Says.{edge_said, wcet_said, wcets_of, edges_said, says}
use Rattle.stg_text.specs.Canonical.{lay_out_of, text_of}
use Rattle.stg_text.specs.Answers.{read_stg_of, read_room, other_source, other_sink, other_ends_of, write_of, write_by, write_stg_of, write_room}
use Rattle.stg_text.specs.RoundTrip.{cores_for, kinds_of, ReadBack}
use Rattle.stg_text.proofs.Those.{Ascends, those_ext, those_members, ascends-places}
use Rattle.stg_text.proofs.Laid.{laid-tasks, laid-time, laid-edge, laid-inside}
use Rattle.stg_text.proofs.Length.{laid-short}
use Rattle.stg_text.proofs.Joined.{edge-member}

-- ---- what an answer tells

-- what a graph that has no other ends is
record Ends (h : Graph) : Type 0 where
  three : 3 ≤ h.n
  entry : (as_model h).wcet 0 ≡ 0
  exit : (as_model h).wcet (h.n - 1) ≡ 0

ends : (h : Graph) → other_ends_of h ≡ false → Ends h
unfolding other_ends_of
ends h e =
    let a = or_neither (ltb h.n 3) _ e in
    let b = or_neither (any (other_source h) h.n) _ a.1 in
    let c = or_neither (any (other_sink h) h.n) _ b.1 in
    let d = or_neither (ltb 0 ((as_model h).wcet 0)) (ltb 0 ((as_model h).wcet (h.n - 1))) c.1 in
    record {
      three = ltb-false h.n 3 a.0;
      entry = omega (arith, ltb-false 0 ((as_model h).wcet 0) d.0);
      exit = omega (arith, ltb-false 0 ((as_model h).wcet (h.n - 1)) d.1);
    }

-- the lists of a file are as long as its counts say
vertices-long : (s : List ℕ) → (graph_of s).n ≤ 128 → length (graph_of s).wcet ≡ 128
unfolding graph_of
vertices-long s l = padded-length 128 _ _ l

edges-long : (s : List ℕ) → (graph_of s).edges ≤ 1024 → length (graph_of s).edge ≡ 1024
unfolding graph_of
edges-long s l = padded-length 1024 _ _ l

-- ---- the text of a graph says the graph's lists

module _ (h : Graph) (G : AcceptedGraph h) (wide : length h.wcet ≡ 128) (long : length h.edge ≡ 1024) (E : Ends h) where
  abbrev text : List ℕ
  text = lay_out_of (h.n - 2) (as_model h).wcet (as_model h).edge

  all-tasks : (h.n - 2) + 2 ≡ h.n
  all-tasks = omega (arith, E.three)

  some : 1 ≤ h.n - 2
  some = omega (arith, E.three)

  few : h.n - 2 ≤ 126
  few = omega (arith, G.few_vertices)

  short : (v : ℕ) → v < (h.n - 2) + 2 → (as_model h).wcet v ≤ 1000000
  unfolding as_model
  short v l = G.short v (omega (arith, all-tasks))

  small : (v : ℕ) → v < (h.n - 2) + 2 → (as_model h).wcet v < 10 ^ 10
  small v l = omega (arith, short v l)

  abbrev xs : List ℕ
  xs = take h.edges h.edge

  inside : outside text ≡ false
  inside =
      let e : (h.n - 2) + 1 ≡ h.n - 1 = omega (arith, E.three) in
      laid-inside (h.n - 2) (as_model h).wcet (as_model h).edge some few small E.entry (rw e E.exit) (laid-short (h.n - 2) (as_model h).wcet (as_model h).edge few short)

  same-wcets : wcets_of text ≡ take h.n h.wcet
  unfolding wcets_of wcet_said as_model
  same-wcets =
      let m : length (take h.n h.wcet) ≡ h.n = length-take-le h.n h.wcet (omega (arith, G.few_vertices)) in
      rw (laid-tasks (h.n - 2) (as_model h).wcet (as_model h).edge some few small, all-tasks)
      (ext_get_or 0 (table (wcet_said text) h.n) (take h.n h.wcet) (table-length (wcet_said text) h.n ∙ sym m)
      (λ v b. let l : v < h.n = rw (table-length (wcet_said text) h.n) at b in
      let c : v < (h.n - 2) + 2 = omega (arith, all-tasks) in
      table_at (wcet_said text) h.n v l ∙ (rw (laid-time (h.n - 2) (as_model h).wcet (as_model h).edge some few small v c, get_or-take h.n h.wcet v 0 l) (omega (arith, G.short v l)))))

  known-to : (u v : ℕ) → Edge (as_model h) u v → v < h.n
  unfolding as_model
  known-to u v t = G.well_formed.to u v t

  known_from : (u v : ℕ) → Edge (as_model h) u v → u < h.n
  unfolding as_model
  known_from u v t = G.well_formed.from u v t

  same-edge : (k : ℕ) → edge_said text k ≡ member k xs
  same-edge k =
      let u : ℕ = k / 256 in
      let v : ℕ = k % 256 in
      let e : 256 * (k / 256) + k % 256 ≡ k = omega arith in
      let m : (as_model h).edge u v ≡ member k xs = rw e at (edge-member h (omega (arith, G.few_edges)) (k / 256) (k % 256) (omega arith)) in
      rw (laid-edge (h.n - 2) (as_model h).wcet (as_model h).edge some few small k, all-tasks, ← m)
      (same_test (ltb v h.n && (ltb u h.n && (as_model h).edge u v)) ((as_model h).edge u v)
      (λ t. right_of (ltb u h.n) ((as_model h).edge u v) (right_of (ltb v h.n) (ltb u h.n && (as_model h).edge u v) t))
      (λ t. rw (lt-ltb v h.n (known-to u v t), lt-ltb u h.n (known_from u v t)) t))

  ascends : Ascends (256 * h.n) 0 xs
  unfolding from
  ascends =
      let m : length xs ≡ h.edges = length-take-le h.edges h.edge (omega (arith, G.few_edges)) in
      let at : (i : ℕ) → i < h.edges → get_or xs i 0 ≡ get_or h.edge i 0 = λ i b. get_or-take h.edges h.edge i 0 b in
      ascends-places (256 * h.n) 0 xs
      (λ i l. rw (at i (omega arith), at (suc i) (omega arith)) (G.ascending i (omega arith)))
      (λ i l. rw (at i (omega arith)) (omega (arith, G.from_known i (omega arith))))
      (λ l. zero-le)

  same_edges : edges_said text ≡ xs
  unfolding edges_said
  same_edges =
      rw (laid-tasks (h.n - 2) (as_model h).wcet (as_model h).edge some few small, all-tasks)
      (those_ext (edge_said text) (λ k. member k xs) (256 * h.n) (λ k l. same-edge k) ∙ those_members (256 * h.n) xs ascends)

  says-lists : says (text_of h) (lists_in h).cores (lists_in h).kinds ≡ lists_in h
  unfolding says text_of lists_in
  says-lists = rw (same-wcets, same_edges) refl

-- ---- what is written reads back

-- what an answer of so many bytes tells
record Written (s : List ℕ) (size : ℕ) : Type 0 where
  judged : (read_of s).answer ≡ answers.Accepted
  no_other : other_ends_of (read_of s).graph ≡ false
  whole : size ≡ length (text_of (read_of s).graph)

written : (s : List ℕ) (room size : ℕ) → write_stg_of s room ≡ Bytes size → Written s size
unfolding write_stg_of write_of
written s room size h = go (read_of s).answer refl (other_ends_of (read_of s).graph) refl (ltb room (length (text_of (read_of s).graph))) refl h
  where
    go : (y : Answer) → (read_of s).answer ≡ y → (x : Bool) → other_ends_of (read_of s).graph ≡ x → (z : Bool) → ltb room (length (text_of (read_of s).graph)) ≡ z
        → write_by y (read_of s).graph room ≡ Bytes size → Written s size
    go (Err r) q x p z l e = absurd (let c : ◌≡◌ {A = ℕ} 0 1 = cc in omega arith)
    go (Ok _) q true p z l e = absurd (let t = rw p at e in let c : ◌≡◌ {A = ℕ} 0 1 = cc in omega arith)
    go (Ok _) q false p true l e = absurd (let t = rw (p, l) at e in let c : ◌≡◌ {A = ℕ} 0 1 = cc in omega arith)
    go (Ok _) q false p false l e = record { judged = q; no_other = p; whole = let t = rw (p, l) at e in cc }

room-written : (s out : List ℕ) (size : ℕ) → write_stg_of s (length out) ≡ Bytes size → write_room s out ≡ text_of (read_of s).graph ++ drop size out
unfolding write_room
room-written s out size e = rw e refl

pub read-inside : (t cores kinds : List ℕ) (room : ℕ) → outside t ≡ false → read_stg_of t cores kinds room ≡ wrote_of (says t cores kinds) room
unfolding read_stg_of
read-inside t cores kinds room e = rw e refl

pub room-inside : (t cores kinds out : List ℕ) → outside t ≡ false → read_room t cores kinds out ≡ room_after (says t cores kinds) out
unfolding read_room room_after
room-inside t cores kinds out e = rw (read-inside t cores kinds (length out) e) refl

graph-read : (s : List ℕ) → (read_of s).answer ≡ answers.Accepted → (read_of s).graph ≡ graph_of s
unfolding read_of
graph-read s ok = rw ok refl

judged-read : (s : List ℕ) → (read_of s).answer ≡ answers.Accepted → judge_from 1 s ≡ answers.Accepted
unfolding read_of
judged-read s ok = ok

pub text-read : (s out : List ℕ) (size : ℕ) → ((i : ℕ) → get_or s i 0 < 256) → write_stg_of s (length out) ≡ Bytes size → ReadBack s size out
unfolding text_of
text-read s out size bytes e =
    let w = written s (length out) size e in
    let h : Graph = (read_of s).graph in
    let is : h ≡ graph_of s = graph-read s w.judged in
    let G : AcceptedGraph h = taken s bytes w.judged in
    let wide : length h.wcet ≡ 128 = rw is (vertices-long s (rw is at G.few_vertices)) in
    let long : length h.edge ≡ 1024 = rw is (edges-long s (rw is at G.few_edges)) in
    let E : Ends h = ends h w.no_other in
    let in-layout : outside (text_of h) ≡ false = inside h G wide long E in
    let same : says (text_of h) (lists_in h).cores (lists_in h).kinds ≡ lists_in h = says-lists h G wide long E in
    record {
      text = rw (room-written s out size e) (take_at (text_of h) (drop size out) size (sym w.whole));
      answer = λ room l. read-inside (text_of h) (cores_for s) (kinds_of s) (length room) in-layout
          ∙ (ap (λ (g : Lists). wrote_of g (length room)) same ∙ (read-written s room bytes (judged-read s w.judged) l).answer);
      file = λ room l. room-inside (text_of h) (cores_for s) (kinds_of s) room in-layout
          ∙ (ap (λ (g : Lists). room_after g room) same ∙ (read-written s room bytes (judged-read s w.judged) l).room);
    }
