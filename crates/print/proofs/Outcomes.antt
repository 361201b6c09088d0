-- The public functions hand nothing back and leave what they are lent; what they print is in no contract.
use mathlib.Core.Path.{refl}
use Rattle.outcome.specs.OneOutcome.{OneOutcome}
use Rattle.print.specs.contracts.text as text
use Rattle.print.proofs.text.Reads as text-reads
use Rattle.print.specs.contracts.field as field
use Rattle.print.proofs.field.Reads as field-reads
use Rattle.print.specs.contracts.given as given
use Rattle.print.proofs.given.Reads as given-reads
use Rattle.print.specs.contracts.refused as refused
use Rattle.print.proofs.refused.Reads as refused-reads
use Rattle.print.specs.contracts.bytes as bytes
use Rattle.print.proofs.bytes.Reads as bytes-reads
use Rattle.print.specs.contracts.words as words
use Rattle.print.proofs.words.Reads as words-reads
use Rattle.print.specs.contracts.lent_bytes as lent-bytes
use Rattle.print.proofs.lent_bytes.Reads as lent-bytes-reads
use Rattle.print.specs.contracts.lent_words as lent-words
use Rattle.print.proofs.lent_words.Reads as lent-words-reads
use Rattle.print.specs.contracts.lent_longs as lent-longs
use Rattle.print.proofs.lent_longs.Reads as lent-longs-reads
use Rattle.print.specs.contracts.bad as bad
use Rattle.print.proofs.bad.Reads as bad-reads

pub text-one : OneOutcome text.ended text-reads.Pre text-reads.Post
text-one κs a r r' ws ws' pre p q = (refl, refl)

pub field-one : OneOutcome field.ended field-reads.Pre field-reads.Post
field-one κs a r r' ws ws' pre p q = (refl, refl)

pub given-one : OneOutcome given.ended given-reads.Pre given-reads.Post
given-one κs a r r' ws ws' pre p q = (refl, refl)

pub refused-one : OneOutcome refused.ended refused-reads.Pre refused-reads.Post
refused-one κs a r r' ws ws' pre p q = (refl, refl)

pub bytes_one : OneOutcome bytes.ended bytes-reads.Pre bytes-reads.Post
bytes_one κs a r r' ws ws' pre p q = (refl, refl)

pub words-one : OneOutcome words.ended words-reads.Pre words-reads.Post
words-one κs a r r' ws ws' pre p q = (refl, refl)

pub lent-bytes-one : OneOutcome lent-bytes.ended lent-bytes-reads.Pre lent-bytes-reads.Post
lent-bytes-one κs a r r' ws ws' pre p q = (refl, refl)

pub lent-words-one : OneOutcome lent-words.ended lent-words-reads.Pre lent-words-reads.Post
lent-words-one κs a r r' ws ws' pre p q = (refl, refl)

pub lent_longs_one : OneOutcome lent-longs.ended lent-longs-reads.Pre lent-longs-reads.Post
lent_longs_one κs a r r' ws ws' pre p q = (refl, refl)

pub bad-one : OneOutcome bad.ended bad-reads.Pre bad-reads.Post
bad-one κs a r r' ws ws' pre p q = (refl, refl)
