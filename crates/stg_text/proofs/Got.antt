-- What reading a text hands back: the file of the graph that the text says.
use mathlib.Core.Path.{◌≡◌, refl, ap, ◌∙◌}
use mathlib.Core.Bool.{Bool, true, false, not, ◌||◌}
use mathlib.Core.List.{List}
use Prim.Native.Nat.{ℕ, ◌+◌, ◌-◌, ◌*◌, ◌/◌, ◌%◌, ◌≤◌, ◌<◌, min}
use native.Mathlib.Omega.{arith}
use lib.ListN.{length, get_or, take, replicate, length-append, get_or-append}
use lib.Dec.{eqb, ltb, leb, lit≤, lit<}
use borrow.Author.Tests.{eqb-true, lt-ltb, leb-true, ltb-false, not-false}
use Rattle.model.specs.Places.{first}
use Rattle.model.proofs.Bools.{right_of, or_neither}
use Rattle.model.proofs.Places.{first_below}
use Rattle.model.proofs.Tables.{table-length, table_at, padded-at}
use Rattle.graph.specs.File.{records, byte_at, word_at, many, ordinal, words, graph_of}
use Rattle.graph.specs.Rules.{holds, places, rule7}
use Rattle.graph.specs.Model.{as_model}
use Rattle.graph.specs.Judge.{judge_from, read_of}
use Rattle.graph.specs.Answer as answers
use Rattle.graph.specs.Answer.{Taken}
use Rattle.graph.proofs.Judging.{none-holds}
use Rattle.writer.specs.Lists.{Lists, lists_in, filled, graph_from}
use Rattle.writer.specs.Write.{file_of, wrote_of}
use Rattle.writer.specs.Image.{part}
use Rattle.writer.specs.Wrote.{Bytes}
use Rattle.writer.proofs.Part.{parted, part-types, part-vertices, part-records, file-part}
use Rattle.writer.proofs.FromLists.{graph_back}
use Rattle.writer.proofs.RoundTrip.{written_read}
use Rattle.stg_text.specs.Fields.{member, numerals, numbers}
use Rattle.stg_text.specs.Layout.{line_at, ended, tasks, count_line, fits, faulty, lines_due, fault_at, LIMIT, outside}
use Rattle.stg_text.specs.Says.{time_of, before_of, edge_said, wcet_said, wcets_of, edges_said, says}
use Rattle.stg_text.specs.Answers.{read_stg_of}
use Rattle.stg_text.specs.RoundTrip.{file_got_of}
use Rattle.stg_text.specs.GraphSaid.{GraphSaid}
use Rattle.stg_text.proofs.Those.{member_those}
use Rattle.stg_text.proofs.Joined.{edge-member}
use Rattle.stg_text.proofs.RoundTrip.{room-inside}

-- what an answer of so many bytes tells of the text, and of the lists
pub record Taken-in (t : List ℕ) (g : Lists) (room size : ℕ) : Type 0 where
  pub inside : outside t ≡ false
  pub as_many : length g.kinds ≡ length g.wcets
  pub wrote : wrote_of g room ≡ Bytes size

wrote-many : (g : Lists) (room size : ℕ) → wrote_of g room ≡ Bytes size → length g.kinds ≡ length g.wcets
unfolding wrote_of
wrote-many g room size h = go (eqb (length g.kinds) (length g.wcets)) refl
  where
    go : (x : Bool) → eqb (length g.kinds) (length g.wcets) ≡ x → length g.kinds ≡ length g.wcets
    go true p = eqb-true (length g.kinds) (length g.wcets) p
    go false p = absurd (let r = rw p at h in let c : ◌≡◌ {A = ℕ} 0 1 = cc in omega arith)

taken_in : (t cores kinds : List ℕ) (room size : ℕ) → read_stg_of t cores kinds room ≡ Bytes size → Taken-in t (says t cores kinds) room size
unfolding read_stg_of
taken_in t cores kinds room size h = go (outside t) refl
  where
    go : (x : Bool) → outside t ≡ x → Taken-in t (says t cores kinds) room size
    go true p = absurd (let r = rw p at h in let c : ◌≡◌ {A = ℕ} 0 1 = cc in omega arith)
    go false p = let r = rw p at h in record { inside = p; as_many = wrote-many (says t cores kinds) room size r; wrote = r }

-- a list filled up has what the list has
filled_at : (n : ℕ) (l : List ℕ) (i : ℕ) → i < length l → get_or (filled n l) i 0 ≡ get_or l i 0
unfolding filled
filled_at n l i h = get_or-append l (replicate (n - length l) 0) 0 i h

filled-longer : (n : ℕ) (l : List ℕ) → length l ≤ length (filled n l)
unfolding filled
filled-longer n l = rw (length-append l (replicate (n - length l) 0)) (omega arith)

-- the times of an accepted file are within the limit, whatever its bytes
short-wcets : (g : Lists) → length g.kinds ≡ length g.wcets → judge_from 1 (file_of g) ≡ answers.Accepted → (v : ℕ) → v < length g.kinds
    → get_or (graph_from g).wcet v 0 ≤ 1000000
unfolding graph_of words rule7 places holds
short-wcets g m ok v l =
    let a : ℕ = length g.cores in
    let b : ℕ = length g.kinds in
    let e : ℕ = length g.edges in
    let s = part g a b e in
    let k : ℕ = a + v in
    let judged : judge_from 1 s ≡ answers.Accepted = rw (file-part g) at ok in
    let in-file : k < records s = omega (arith, part-records g a b e) in
    let row = rw ((parted g a b e).vertices k (omega arith) (omega arith)) at (none-holds 1 s judged 7 (lit≤ tt) (lit< tt) k in-file) in
    let x = or_neither (not (eqb (byte_at s k 1) (ordinal s k))) (leb (many s 0) (byte_at s k 2) || ltb 1000000 (word_at s k)) row in
    let y = or_neither (leb (many s 0) (byte_at s k 2)) (ltb 1000000 (word_at s k)) x.1 in
    let z : word_at s k ≤ 1000000 = ltb-false 1000000 (word_at s k) y.1 in
    let same : graph_of s ≡ graph_from g = rw (← file-part g) (graph_back g m) in
    let w : get_or (graph_of s).wcet v 0 ≡ word_at s (many s 0 + v) = padded-at 128 (words s (many s 0)) (many s 1) v (rw (part-vertices g a b e) l) in
    rw (← same, w, part-types g a b e) z

-- a text within the layout has 126 tasks at most
inside-few : (t : List ℕ) → outside t ≡ false → tasks t ≤ 126
unfolding outside fault_at lines_due faulty fits count_line tasks
inside-few t e =
    let due = (or_neither (ltb LIMIT (length t)) _ e).1 in
    let whole = ltb-false (first (faulty t) (lines_due t)) (lines_due t) due in
    let fine = first_below (faulty t) (lines_due t) 0 (omega arith) in
    let fit = (or_neither (leb (ended t) 0) _ fine).1 in
    let line = not-false (count_line (line_at t 0)) fit in
    let n = get_or (numbers (line_at t 0)) 0 0 in
    let one = right_of (numerals (line_at t 0)) _ line in
    let range = right_of (eqb (length (numbers (line_at t 0))) 1) _ one in
    leb-true n 126 (right_of (leb 1 n) (leb n 126) range)

module _ (t cores kinds out : List ℕ) (size : ℕ) (h : read_stg_of t cores kinds (length out) ≡ Bytes size) where
  abbrev g : Lists
  g = says t cores kinds

  got : Taken-in t g (length out) size
  got = taken_in t cores kinds (length out) size h

  pub read-graph : read_of (file_of g) ≡ record { answer = answers.Accepted; graph = graph_from g }
  read-graph = (written_read g size out got.wrote).read

  pub file_got : file_got_of t cores kinds size out ≡ file_of g
  file_got = rw (room-inside t cores kinds out got.inside) (written_read g size out got.wrote).file

  judged : judge_from 1 (file_of g) ≡ answers.Accepted
  unfolding read_of
  judged = ap (λ (r : Taken). r.answer) read-graph

  wcets-long : length (wcets_of t) ≡ tasks t + 2
  unfolding wcets_of
  wcets-long = table-length (wcet_said t) (tasks t + 2)

  pub kinds-long : length kinds ≡ tasks t + 2
  unfolding says
  kinds-long = got.as_many ∙ wcets-long

  pub got_time : (v : ℕ) → v < tasks t + 2 → (as_model (graph_from g)).wcet v ≡ time_of t v
  unfolding as_model graph_from wcets_of wcet_said says
  got_time v l =
      let few : get_or (graph_from g).wcet v 0 ≤ 1000000 = short-wcets g got.as_many judged v (rw kinds-long l) in
      let at : get_or (filled 128 (wcets_of t)) v 0 ≡ min (time_of t v) 4294967295 =
      filled_at 128 (wcets_of t) v (rw wcets-long l) ∙ table_at (wcet_said t) (tasks t + 2) v l in
      omega arith

  pub got_edge : (u v : ℕ) → u < tasks t + 2 → v < tasks t + 2 → (as_model (graph_from g)).edge u v ≡ member u (before_of t v)
  unfolding graph_from says edges_said edge_said
  got_edge u v a b =
      let k : ℕ = 256 * u + v in
      let few = inside-few t got.inside in
      let p : k / 256 ≡ u = omega arith in
      let q : k % 256 ≡ v = omega arith in
      let listed : take (length (edges_said t)) (filled 1024 (edges_said t)) ≡ edges_said t = unfold lists_in in ap (λ (x : Lists). x.edges) (written_read g size out got.wrote).lists in
      edge-member (graph_from g) (filled-longer 1024 (edges_said t)) u v (omega arith)
      ∙ (ap (member k) listed
      ∙ (member_those (edge_said t) (256 * (tasks t + 2)) k
      ∙ rw (lt-ltb k (256 * (tasks t + 2)) (omega arith), p, q, lt-ltb v (tasks t + 2) b) refl))

  -- THEOREM. The file that is handed back is that of the graph which the text says, with the lent cores and kinds.
  pub graph-said : GraphSaid t cores kinds (file_got_of t cores kinds size out)
  unfolding graph_from says
  graph-said = rw file_got (record {
    accepted = rw read-graph refl;
    lent_cores = rw read-graph (ap (λ (x : Lists). x.cores) (written_read g size out got.wrote).lists);
    lent_kinds = rw read-graph (ap (λ (x : Lists). x.kinds) (written_read g size out got.wrote).lists);
    vertices = rw read-graph kinds-long;
    times = rw read-graph got_time;
    edges = rw read-graph got_edge;
  })
