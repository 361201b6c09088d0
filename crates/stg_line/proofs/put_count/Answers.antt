use native.Mathlib.Omega.{arith}
use Rattle.stg_text.specs.Canonical.{decimal}
use Rattle.stg_line.proofs.Laying.{Put, put_then, put-long, put_byte, line-one, line-long}
use Rattle.stg_line.proofs.put_count.Goals as goal

pub put-end-requires : goal.put-end-requires
put-end-requires c = let n = c.args.n in (omega (arith, c.requires.0), omega (arith, c.requires.1, line-long n))

pub bounds-out-end : goal.bounds-out-end
bounds-out-end c = let p = c.put-end in omega (arith, p.ensures.0, put-long c.args.out.now 0 p.result p.new.out (decimal c.args.n) (record { is = p.ensures.0; laid = p.ensures.1 }), c.requires.1, line-long c.args.n)

pub overflow_add-result : goal.overflow_add-result
overflow_add-result c = let p = c.put-end in omega (arith, p.ensures.0, c.requires.1, line-long c.args.n)

pub returns : goal.returns
returns c =
    let n = c.args.n in
    let p = c.put-end in
    let P : Put c.args.out.now 0 p.result p.new.out (decimal n) = record { is = p.ensures.0; laid = p.ensures.1 } in
    let Q = rw (← line-one n) at (put_then _ _ _ _ _ _ _ _ P (put_byte p.new.out p.result 10)) in
    (omega (arith, Q.is), Q.laid)
