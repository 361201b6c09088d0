use native.Mathlib.Omega.{arith}
use Rattle.stg_line.proofs.Laying.{width_one, width-more}
use Rattle.stg_line.proofs.number.width.Goals as goal

pub returns-then-x-lt10 : goal.returns-then-x-lt10
returns-then-x-lt10 c = (width_one c.args.x c.if-x-lt10.true, omega arith, omega arith)

pub returns-then-x-lt100 : goal.returns-then-x-lt100
returns-then-x-lt100 c = (width-more c.args.x 0 (omega arith) c.if-x-lt10.false c.if-x-lt100.true, omega arith, omega arith)

pub returns-then-x-lt1000 : goal.returns-then-x-lt1000
returns-then-x-lt1000 c = (width-more c.args.x 1 (omega arith) c.if-x-lt100.false c.if-x-lt1000.true, omega arith, omega arith)

pub returns-then-x-lt10000 : goal.returns-then-x-lt10000
returns-then-x-lt10000 c = (width-more c.args.x 2 (omega arith) c.if-x-lt1000.false c.if-x-lt10000.true, omega arith, omega arith)

pub returns-then-x-lt100000 : goal.returns-then-x-lt100000
returns-then-x-lt100000 c = (width-more c.args.x 3 (omega arith) c.if-x-lt10000.false c.if-x-lt100000.true, omega arith, omega arith)

pub returns-then-x-lt1000000 : goal.returns-then-x-lt1000000
returns-then-x-lt1000000 c = (width-more c.args.x 4 (omega arith) c.if-x-lt100000.false c.if-x-lt1000000.true, omega arith, omega arith)

pub returns : goal.returns
returns c = (width-more c.args.x 5 (omega arith) c.if-x-lt1000000.false c.requires, omega arith, omega arith)
