-- Each public function's contract leaves one outcome: two results that it allows for the same arguments are equal.
use mathlib.Core.Path.{◌≡◌, refl, sym, ◌∙◌}
use mathlib.Core.List.{[]}
use Rattle.records.specs.declared.Counts.{Counts}
use Rattle.records.specs.declared.Passed.{Passed}
use Rattle.outcome.specs.OneOutcome.{OneOutcome}
use Rattle.records.specs.contracts.byte as byte
use Rattle.records.proofs.byte.Reads as byte-Reads
use Rattle.records.specs.contracts.word as word
use Rattle.records.proofs.word.Reads as word-reads
use Rattle.records.specs.contracts.key as key
use Rattle.records.proofs.key.Reads as key_reads
use Rattle.records.specs.contracts.order_of as order-of
use Rattle.records.proofs.order_of.Reads as order-of-reads
use Rattle.records.specs.contracts.start as start
use Rattle.records.proofs.start.Reads as start-reads
use Rattle.records.specs.contracts.pass as pass
use Rattle.records.proofs.pass.Reads as pass-reads
use Rattle.records.specs.contracts.count_all as count-all
use Rattle.records.proofs.count_all.Reads as count-all-reads

-- values with the same fields
alike : (p q : Passed) → p.kinds ≡ q.kinds → p.vertices ≡ q.vertices → p.edges ≡ q.edges → p.latest ≡ q.latest → p ≡ q
alike p q a b c d =
    let e : ◌≡◌ {A = Passed} (record { kinds = p.kinds; vertices = p.vertices; edges = p.edges; latest = p.latest }) q = rw (a, b, c, d) refl in
    e

same : (p q : Counts) → p.kinds ≡ q.kinds → p.n ≡ q.n → p.edges ≡ q.edges → p ≡ q
same p q a b c =
    let e : ◌≡◌ {A = Counts} (record { kinds = p.kinds; n = p.n; edges = p.edges }) q = rw (a, b, c) refl in
    e

pub byte_one : OneOutcome byte.ended byte-Reads.Pre byte-Reads.Post
byte_one κs a r r' ws ws' pre p q = (p.0 ∙ sym q.0, refl)

pub word-one : OneOutcome word.ended word-reads.Pre word-reads.Post
word-one κs a r r' ws ws' pre p q = (p.0 ∙ sym q.0, refl)

pub key_one : OneOutcome key.ended key_reads.Pre key_reads.Post
key_one κs a r r' ws ws' pre p q = (p.0 ∙ sym q.0, refl)

pub order-of-one : OneOutcome order-of.ended order-of-reads.Pre order-of-reads.Post
order-of-one κs a r r' ws ws' pre p q = (p.0 ∙ sym q.0, refl)

pub start-one : OneOutcome start.ended start-reads.Pre start-reads.Post
start-one κs a r r' ws ws' pre p q = (let b = p [] in let d = q [] in alike r r' (b.kinds_passed ∙ sym d.kinds_passed) (b.vertices_passed ∙ sym d.vertices_passed) (b.edges_passed ∙ sym d.edges_passed) (b.latest_passed ∙ sym d.latest_passed), refl)

pub pass-one : OneOutcome pass.ended pass-reads.Pre pass-reads.Post
pass-one κs a r r' ws ws' pre p q = (alike r r' (p.kinds_passed ∙ sym q.kinds_passed) (p.vertices_passed ∙ sym q.vertices_passed) (p.edges_passed ∙ sym q.edges_passed) (p.latest_passed ∙ sym q.latest_passed), refl)

pub count-all-one : OneOutcome count-all.ended count-all-reads.Pre count-all-reads.Post
count-all-one κs a r r' ws ws' pre p q = (same r r' (p.all_kinds ∙ sym q.all_kinds) (p.all_vertices ∙ sym q.all_vertices) (p.all_edges ∙ sym q.all_edges), refl)
