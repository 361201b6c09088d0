use Rattle.std.proofs.lemmas.Result.{err_from_is_err_and}
use Rattle.reader.proofs.Laying.{usable}
use Rattle.replay.proofs.Answers.{replay-accepted, replay-refused}
use Rattle.replay.proofs.replay.Goals as goal

pub returns-in_err-take_rows : goal.returns-in_err-take_rows
returns-in_err-take_rows c =
    let p = err_from_is_err_and c.from_residual.result c.from_residual.ensures.1 in
    rw (p.1, p.2) (replay-refused _ _ c.in_err-take_rows.ensures.taken_into)

pub replay_on-requires : goal.replay_on-requires
replay_on-requires c = usable c.in_ok-take_rows.ensures.taken_into (λ i. (c.shared_slice_known-1.given i).fits)

pub returns : goal.returns
returns c = replay-accepted _ _ c.in_ok-take_rows.ensures.taken_into c.replay_on.ensures.value c.replay_on.ensures.times_after
