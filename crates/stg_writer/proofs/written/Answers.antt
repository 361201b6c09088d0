use mathlib.Core.Path.{refl, sym, ◌∙◌}
use native.Mathlib.Omega.{arith}
use Rattle.graph.specs.Model.{AcceptedGraph, from}
use Rattle.graph.specs.declared.Graph.{Graph}
use Rattle.stg_writer.proofs.Gathering.{gathered}
use Rattle.stg_writer.proofs.Writing.{ends-refused, three, room-refused, all-written, all_laid}
use Rattle.stg_writer.proofs.written.Goals as goal

pub leading-some-requires-clause-by_index : goal.leading-some-requires-clause-by_index
unfolding from
leading-some-requires-clause-by_index c =
    let G = c.requires.accepted in
    λ i l. omega (arith, G.from_known i l, G.few_vertices)

pub returns-then-other_ends : goal.returns-then-other_ends
returns-then-other_ends c =
    let a = c.args in
    let g : Graph = a.laid.now.graph in
    let G : AcceptedGraph g = c.requires.accepted in
    let L = gathered c.requires c.leading-some.ensures in
    (rw c.whole.ensures (ends-refused g G c.leading-some.result a.laid.now.pred L a.out.now (sym c.other_ends.ensures ∙ c.if-other_ends.true)), refl)

pub text_length-size-requires : goal.text_length-size-requires
text_length-size-requires c =
    let a = c.args in
    let g : Graph = a.laid.now.graph in
    let G : AcceptedGraph g = c.requires.accepted in
    let L = gathered c.requires c.leading-some.ensures in
    let fine = sym c.other_ends.ensures ∙ c.if-other_ends.false in
    let many = three g G c.leading-some.result a.laid.now.pred L a.out.now fine in
    (omega arith, G.few_vertices, (λ v l. let k = G.short v l in omega arith))

pub returns-then-out-size : goal.returns-then-out-size
returns-then-out-size c =
    let a = c.args in
    let g : Graph = a.laid.now.graph in
    let G : AcceptedGraph g = c.requires.accepted in
    let L = gathered c.requires c.leading-some.ensures in
    let fine = sym c.other_ends.ensures ∙ c.if-other_ends.false in
    let many = three g G c.leading-some.result a.laid.now.pred L a.out.now fine in
    let size = c.text_length-size.ensures in
    (rw c.whole-then-out-size.ensures (room-refused g G c.leading-some.result a.laid.now.pred L a.out.now fine (rw (← size) c.if-out-size.true)), refl)

pub put_text-requires : goal.put_text-requires
put_text-requires c =
    let a = c.args in
    let g : Graph = a.laid.now.graph in
    let G : AcceptedGraph g = c.requires.accepted in
    let L = gathered c.requires c.leading-some.ensures in
    let fine = sym c.other_ends.ensures ∙ c.if-other_ends.false in
    let many = three g G c.leading-some.result a.laid.now.pred L a.out.now fine in
    let size = c.text_length-size.ensures in
    let room = c.if-out-size.false in
    (omega arith, G.few_vertices, (λ v l. let k = G.short v l in omega arith), rw (← size) room)

pub returns : goal.returns
returns c =
    let a = c.args in
    let g : Graph = a.laid.now.graph in
    let G : AcceptedGraph g = c.requires.accepted in
    let L = gathered c.requires c.leading-some.ensures in
    let fine = sym c.other_ends.ensures ∙ c.if-other_ends.false in
    let many = three g G c.leading-some.result a.laid.now.pred L a.out.now fine in
    let size = c.text_length-size.ensures in
    let room = rw size at c.if-out-size.false in
    (rw size (all-written g G c.leading-some.result a.laid.now.pred L a.out.now fine room), rw size (c.put_text.ensures ∙ all_laid g G c.leading-some.result a.laid.now.pred L a.out.now fine room))
