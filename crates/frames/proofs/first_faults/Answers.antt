use Rattle.ready.proofs.ByNumbers.{begins}
use Rattle.frames.proofs.Using.{used-none}
use Rattle.frames.proofs.Framing.{kinds-below, lists, framed-none}
use Rattle.frames.proofs.Ruling.{passed_none}
use Rattle.frames.proofs.first_faults.Goals as goal

pub of_kinds-words-requires : goal.of_kinds-words-requires
of_kinds-words-requires c =
    let whole = kinds-below c.requires.lent_of.1 in
    record { n_bound = whole.0; by_index = whole.1 }

pub begun-begun-requires : goal.begun-begun-requires
begun-begun-requires c =
    let p = c.requires.lent_of in
    let L = p.1 in
    let whole = begins p.0 L.accepted L.n_is L.edges_are L.starts_are p.2 in
    record { layout = whole.0; rows = whole.1.0; holds = whole.1.1 }

pub loop-k-init : goal.loop-k-init
loop-k-init c =
    let o = c.outset-p.ensures in
    passed_none _ (framed-none c.requires.lent_of.1 c.requires.in_form.0 c.requires.in_form.1 _ _ _ (rw o.busy_value.0 c.with_records-busy.ensures) (rw (o.busy_value.0, o.busy_value.1) c.begun-begun.ensures) o.busy_value.2 o.busy_value.3 (used-none _ _ _)) o.faults_value.0 o.faults_value.1

pub step-p-requires : goal.step-p-requires
step-p-requires c =
    record { lists = lists c.requires.lent_of.1 c.requires.in_form.0 c.of_kinds-words.ensures c.requires.in_form.1; k_bound = c.loop-k-test.true; passed_by = c.loop-k.invariant }
