use mathlib.Core.Path.{ap}
use lib.ListN.{length}
use borrow.Author.Tests.{lt-ltb, le-ltb}
use Rattle.writer.specs.Write.{type_of, vertex_of, edge_of}
use Rattle.writer.specs.Image.{record_at_of}
use Rattle.writer.proofs.written.record_at.Goals as goal

pub returns-then-k-a : goal.returns-then-k-a
unfolding record_at_of type_of
returns-then-k-a c =
    (rw (lt-ltb _ _ c.if-k-a.true) c.type_record.ensures, ap length c.type_record.ensures)

pub returns-then-v-b : goal.returns-then-v-b
unfolding record_at_of vertex_of
returns-then-v-b c =
    (rw (le-ltb _ _ c.if-k-a.false, lt-ltb _ _ c.if-v-b.true) c.vertex_record.ensures, ap length c.vertex_record.ensures)

pub returns : goal.returns
unfolding record_at_of edge_of
returns c =
    (rw (le-ltb _ _ c.if-k-a.false, le-ltb _ _ c.if-v-b.false) c.edge_record.ensures, ap length c.edge_record.ensures)
