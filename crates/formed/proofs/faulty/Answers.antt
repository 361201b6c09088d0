use mathlib.Core.Path.{sym, ap, ◌∙◌}
use Rattle.vset.specs.Members.{is_in}
use native.Mathlib.Omega.{arith}
use Rattle.formed.proofs.Passing.{fault-unknown, fault_met}
use Rattle.formed.proofs.faulty.Goals as goal

pub returns-then-n-v : goal.returns-then-n-v
returns-then-n-v c =
    sym (fault-unknown _ _ _ _ c.requires.2 (omega (arith, c.if-n-v.true, c.byte-v.ensures.0)))

pub returns : goal.returns
returns c =
    let on = c.test.ensures ∙ ap (is_in c.args.p.on) c.byte-v.ensures.0 in
    c.at_fault.ensures ∙ fault_met _ _ _ _ c.requires.2 _ on
