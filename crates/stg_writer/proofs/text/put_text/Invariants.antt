use Rattle.stg_line.proofs.Laying.{Put}
use Rattle.writer.specs.Write.{joined}
use Rattle.stg_writer.specs.Before.{line_in}
use Rattle.stg_writer.proofs.text.put_text.Given as goal

abbrev pub invariant-loop-v : goal.invariant-loop-v
invariant-loop-v l = Put l.initial.out l.initial.i l.i l.out (joined (line_in l.before l.wcet) l.v)
