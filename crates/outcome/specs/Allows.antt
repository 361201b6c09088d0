-- What the contract of a function allows. `Allows T Post seen`: there is a call, with its arguments, its result and what was lent at the
-- end, of which the contract's `ensures` holds, and `seen` says how it looks. T and Post are as in `OneOutcome`: so a statement over
-- `Allows` is one about the contract itself, and breaks where the contract is weakened.
use contract.Lifetimes.{Lfts}
use denote.Triple.Entry.{Args, Res}
use denote.Triple.Clauses.{Ended, Lasts, at_exit}
use Rattle.outcome.specs.OneOutcome.{Out}

pub record Allows (T : Ended) (post seen : Out T) : Type 0 where
  pub lifetimes : Lfts T.signature.lifetimes
  pub args : Args T.signature lifetimes
  pub result : Res T.signature lifetimes
  pub lent : Lasts T lifetimes args
  pub ensured : post lifetimes args result (at_exit T lifetimes args lent)
  pub as_seen : seen lifetimes args result (at_exit T lifetimes args lent)
