-- No public contract of this crate leaves a choice.
use mathlib.Core.Path.{◌≡◌, refl, sym, ◌∙◌}
use contract.Lifetimes.{Lfts}
use denote.Triple.Entry.{Args, Res}
use denote.Triple.Clauses.{Lasts, at_exit}
use Rattle.outcome.specs.OneOutcome.{OneOutcome}
use Rattle.texts.specs.contracts.until as until
use Rattle.texts.proofs.until.Reads as until-reads
use Rattle.texts.specs.contracts.part as part
use Rattle.texts.proofs.part.Reads as part-reads
use Rattle.texts.specs.contracts.is_word as is_IsWord
use Rattle.texts.proofs.is_word.Reads as is-word-reads
use Rattle.texts.specs.contracts.after as after
use Rattle.texts.proofs.after.Reads as after-reads
use Rattle.texts.specs.contracts.next as next
use Rattle.texts.proofs.next.Reads as next-reads
use Rattle.texts.specs.contracts.word_is as word-is
use Rattle.texts.proofs.word_is.Reads as word-is-reads
use Rattle.texts.specs.contracts.equal as equal
use Rattle.texts.proofs.equal.Reads as equal-reads
use Rattle.texts.specs.contracts.find as find
use Rattle.texts.proofs.find.Reads as find-reads
use Rattle.texts.specs.contracts.number as number
use Rattle.texts.proofs.number.Reads as number-reads

pub until-one : OneOutcome until.ended until-reads.Pre until-reads.Post
until-one κs a r r' ws ws' pre p q = (p ∙ sym q, refl)

-- where a part points is in the caller's text; what it refers to is fixed
pub part_outcome : (κs : Lfts (part.ended).signature.lifetimes) (a : Args (part.ended).signature κs) (r r' : Res (part.ended).signature κs)
    (ws ws' : Lasts part.ended κs a) → part-reads.Pre κs a → part-reads.Post κs a r (at_exit part.ended κs a ws)
    → part-reads.Post κs a r' (at_exit part.ended κs a ws') → (r.now ≡ r'.now) × (ws ≡ ws')
part_outcome κs a r r' ws ws' pre p q = (p ∙ sym q, refl)

pub is-word-one : OneOutcome is_IsWord.ended is-word-reads.Pre is-word-reads.Post
is-word-one κs a r r' ws ws' pre p q = (p ∙ sym q, refl)

pub after_one : OneOutcome after.ended after-reads.Pre after-reads.Post
after_one κs a r r' ws ws' pre p q = (p ∙ sym q, refl)

pub next_one : OneOutcome next.ended next-reads.Pre next-reads.Post
next_one κs a r r' ws ws' pre p q = (p ∙ sym q, refl)

pub equal-one : OneOutcome equal.ended equal-reads.Pre equal-reads.Post
equal-one κs a r r' ws ws' pre p q = (p ∙ sym q, refl)

pub word-is-one : OneOutcome word-is.ended word-is-reads.Pre word-is-reads.Post
word-is-one κs a r r' ws ws' pre p q = (p ∙ sym q, refl)

pub find-one : OneOutcome find.ended find-reads.Pre find-reads.Post
find-one κs a r r' ws ws' pre p q = (p ∙ sym q, refl)

pub number-one : OneOutcome number.ended number-reads.Pre number-reads.Post
number-one κs a r r' ws ws' pre p q = (p ∙ sym q, refl)
