use Rattle.recorded.specs.Log.{instant_at, key}
use borrow.Author.Rules.{rules}
use Rattle.model.proofs.Bools.{bit_is}
use Rattle.formed.proofs.key.Goals as goal

pub returns : goal.returns
unfolding key instant_at
returns c =
    (simp (c.byte.ensures.0, c.from.ensures, bit_is, c.starts.ensures, c.word.ensures.0), search rules)
