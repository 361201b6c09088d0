use Rattle.std.proofs.lemmas.Result.{err_from_is_err_and}
use Rattle.reader.proofs.Laying.{usable, kin_given}
use Rattle.second.proofs.Entries.{second-accepted, second-refused}
use Rattle.second.proofs.second.Goals as goal

pub returns-in_err-take_kin : goal.returns-in_err-take_kin
returns-in_err-take_kin c =
    let p = err_from_is_err_and c.from_residual.result c.from_residual.ensures.1 in
    rw (p.1, p.2) (second-refused c.in_err-take_kin.ensures.taken_into)

pub second_of-requires : goal.second_of-requires
second_of-requires c =
    let T = c.in_ok-take_kin.ensures in
    record { usable = usable T.taken_into (λ i. (c.shared_slice_known-1.given i).fits); kin = kin_given T.taken_into T.kin_into }

pub returns : goal.returns
returns c = second-accepted _ c.in_ok-take_kin.ensures.taken_into c.second_of.ensures
