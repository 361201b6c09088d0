-- A canonical text that is read and written gives the same bytes.
use mathlib.Core.Path.{◌≡◌, refl, sym, ap, ◌∙◌}
use mathlib.Core.Bool.{Bool}
use mathlib.Core.List.{List, [], ◌∷◌, ◌++◌}
use Prim.Native.Nat.{ℕ, ◌+◌, ◌-◌, ◌<◌}
use native.Mathlib.Omega.{arith}
use lib.ListN.{length}
use borrow.Author.Tests.{lt-ltb}
use Rattle.model.specs.Places.{pick}
use Rattle.graph.specs.Model.{as_model}
use Rattle.graph.specs.Judge.{read_of}
use Rattle.graph.specs.Answer as answers
use Rattle.graph.specs.Answer.{Taken}
use Rattle.writer.specs.Lists.{Lists, graph_from}
use Rattle.writer.specs.Write.{file_of, wrote_by}
use Rattle.writer.specs.Wrote.{Bytes, Refused}
use Rattle.writer.proofs.Joined.{joined_ext}
use Rattle.stg_text.specs.Layout.{tasks}
use Rattle.stg_text.specs.Says.{says}
use Rattle.stg_text.specs.Canonical.{line_of, before, task_of, task_line_of, lay_out_of, text_of}
use Rattle.stg_text.specs.Answers.{read_stg_of, other_ends_of, write_of, write_stg_of}
use Rattle.stg_text.specs.RoundTrip.{Canonical, file_got_of, WrittenBack}
use Rattle.stg_text.proofs.Those.{those_ext, member_those}
use Rattle.stg_text.proofs.Laid.{laid-tasks, laid-time, laid-before}
use Rattle.stg_text.proofs.Got.{read-graph, file_got, kinds-long, got_time, got_edge}

-- texts of the same tasks are the same
laid_ext : (n : ℕ) (time time' : ℕ → ℕ) (pred pred' : ℕ → ℕ → Bool) → ((v : ℕ) → v < n + 2 → time v ≡ time' v)
    → ((u v : ℕ) → u < n + 2 → v < n + 2 → pred u v ≡ pred' u v) → lay_out_of n time pred ≡ lay_out_of n time' pred'
unfolding lay_out_of task_line_of task_of before
laid_ext n time time' pred pred' a b =
    ap (λ (x : List ℕ). line_of (n ∷ []) ++ x)
    (joined_ext (task_line_of n time pred) (task_line_of n time' pred') (n + 2) (λ v l. rw (a v l, those_ext (λ u. pred u v) (λ u. pred' u v) (n + 2) (λ u m. b u v m l)) refl))

-- ---- the text of what was read

module _ (t cores kinds out : List ℕ) (size : ℕ) (C : Canonical t) (h : read_stg_of t cores kinds (length out) ≡ Bytes size) where
  abbrev g : Lists
  g = says t cores kinds

  graph-read : read_of (file_of g) ≡ record { answer = answers.Accepted; graph = graph_from g }
  graph-read = read-graph t cores kinds out size h

  tasks-are : tasks t ≡ C.n
  tasks-are = rw C.is (laid-tasks C.n C.time C.pred C.some C.few C.small)

  same-time : (v : ℕ) → v < C.n + 2 → (as_model (graph_from g)).wcet v ≡ C.time v
  same-time v l = got_time t cores kinds out size h v (rw tasks-are l) ∙ rw C.is (laid-time C.n C.time C.pred C.some C.few C.small v l)

  same-pred : (u v : ℕ) → u < C.n + 2 → v < C.n + 2 → (as_model (graph_from g)).edge u v ≡ C.pred u v
  unfolding before
  same-pred u v a b =
      got_edge t cores kinds out size h u v (rw tasks-are a) (rw tasks-are b)
      ∙ rw (C.is, laid-before C.n C.time C.pred C.some C.few C.small v b) (member_those (λ w. C.pred w v) (C.n + 2) u ∙ rw (lt-ltb u (C.n + 2) a) refl)

  text_same : text_of (graph_from g) ≡ t
  unfolding text_of graph_from says
  text_same =
      let e : length kinds - 2 ≡ C.n = omega (arith, kinds-long t cores kinds out size h, tasks-are) in
      rw e (laid_ext C.n (as_model (graph_from g)).wcet C.time (as_model (graph_from g)).edge C.pred same-time same-pred ∙ sym C.is)

  text-answer : (room : ℕ)
      → write_stg_of (file_of g) room ≡ pick (other_ends_of (read_of (file_of g)).graph) (Refused (record { number = 24; place = 0 })) (wrote_by answers.Accepted (length t) room)
  unfolding write_stg_of write_of
  text-answer room = rw (graph-read, text_same) refl

  pub text-written : WrittenBack t (file_got_of t cores kinds size out)
  text-written = rw (file_got t cores kinds out size h) (record { text = ap (λ (r : Taken). text_of r.graph) graph-read ∙ text_same; answer = text-answer })
