use Prim.Native.Nat.{ℕ, ◌≤◌, ◌<◌}
use mathlib.Core.Path.{◌≡◌, sym, ◌∙◌}
use mathlib.Core.List.{List, ◌∷◌, ◌++◌}
use native.Mathlib.Omega.{arith}
use lib.ListN.{length, length-set, length-append}
use Rattle.model.proofs.Places.{count-le}
use Rattle.vset.specs.Members.{is_in}
use Rattle.model.specs.Places.{that}
use Rattle.stg_text.specs.Canonical.{decimal}
use Rattle.stg_line.specs.Laid.{tailed}
use Rattle.stg_line.proofs.Laying.{Put, put_then, put-long, put_byte, task-parts, task-long, those_count}
use Rattle.stg_line.proofs.put_task.Goals as goal
use Rattle.stg_line.proofs.put_task.Goals.{After-put-a, After-put_field-b, After-put_field-c, After-put_members-d, After-size-count}

-- how many predecessors there are
many : (c : After-size-count) → c.size-count.result ≡ length (that (is_in c.args.before) 128)
many c = c.size-count.ensures ∙ sym (those_count (is_in c.args.before) 128)

few : (c : After-size-count) → c.size-count.result ≤ 128
few c = omega (arith, c.size-count.ensures, count-le (is_in c.args.before) 128)

-- what is laid after each part
with_number : (c : After-put-a) → Put c.args.out.now c.args.at c.put-a.result c.put-a.new.out (decimal c.args.v)
with_number c = record { is = c.put-a.ensures.0; laid = c.put-a.ensures.1 }

with-time : (c : After-put_field-b)
    → Put c.args.out.now c.args.at c.put_field-b.result c.put_field-b.new.out (decimal c.args.v ++ (32 ∷ decimal c.args.time))
with-time c = put_then _ _ _ _ _ _ _ _ (with_number (goal.at.After-put_field-b c).After-put-a) (record { is = c.put_field-b.ensures.0; laid = c.put_field-b.ensures.1 })

with-count : (c : After-put_field-c)
    → Put c.args.out.now c.args.at c.put_field-c.result c.put_field-c.new.out
    ((decimal c.args.v ++ (32 ∷ decimal c.args.time)) ++ (32 ∷ decimal (length (that (is_in c.args.before) 128))))
with-count c =
    rw (← many (goal.at.After-put_field-c c).After-size-count) (put_then _ _ _ _ _ _ _ _ (with-time (goal.at.After-put_field-c c).After-put_field-b) (record { is = c.put_field-c.ensures.0; laid = c.put_field-c.ensures.1 }))

with-members : (c : After-put_members-d)
    → Put c.args.out.now c.args.at c.put_members-d.result c.put_members-d.new.out
    (((decimal c.args.v ++ (32 ∷ decimal c.args.time)) ++ (32 ∷ decimal (length (that (is_in c.args.before) 128)))) ++ tailed (that (is_in c.args.before) 128))
with-members c = put_then _ _ _ _ _ _ _ _ (with-count (goal.at.After-put_members-d c).After-put_field-c) (record { is = c.put_members-d.ensures.0; laid = c.put_members-d.ensures.1 })

-- the line feed has room
here : (c : After-put_members-d) → c.put_members-d.result < length c.put_members-d.new.out
here c =
    let a = c.args in
    let fits = c.requires.2 in
    let long = task-long a.v a.time (is_in a.before) in
    let P = with-members c in
    let same = put-long _ _ _ _ _ P in
    let x : List ℕ = 32 ∷ decimal a.time in
    let y : List ℕ = 32 ∷ decimal (length (that (is_in a.before) 128)) in
    let sum = length-append (decimal a.v) x in
    let more = length-append (decimal a.v ++ x) y in
    let most = length-append ((decimal a.v ++ x) ++ y) (tailed (that (is_in a.before) 128)) in
    omega (arith, P.is)

pub put-a-requires : goal.put-a-requires
put-a-requires c =
    let a = c.args in
    let fits = c.requires.2 in
    let long = task-long a.v a.time (is_in a.before) in
    (omega (arith, c.requires.0), omega arith)

pub put_field-b-requires : goal.put_field-b-requires
put_field-b-requires c =
    let a = c.args in
    let fits = c.requires.2 in
    let long = task-long a.v a.time (is_in a.before) in
    let P = with_number (goal.at.put_field-b-requires c).After-put-a in
    let same = put-long _ _ _ _ _ P in
    (c.requires.1, omega (arith, P.is))

pub put_field-c-requires : goal.put_field-c-requires
put_field-c-requires c =
    let a = c.args in
    let fits = c.requires.2 in
    let long = task-long a.v a.time (is_in a.before) in
    let P = with-time (goal.at.put_field-c-requires c).After-put_field-b in
    let same = put-long _ _ _ _ _ P in
    let sum = length-append (decimal a.v) (32 ∷ decimal a.time) in
    let n = many (goal.at.put_field-c-requires c).After-size-count in
    (omega (arith, few (goal.at.put_field-c-requires c).After-size-count), rw n (omega (arith, P.is)))

pub put_members-d-requires : goal.put_members-d-requires
put_members-d-requires c =
    let a = c.args in
    let fits = c.requires.2 in
    let long = task-long a.v a.time (is_in a.before) in
    let P = with-count (goal.at.put_members-d-requires c).After-put_field-c in
    let same = put-long _ _ _ _ _ P in
    let sum = length-append (decimal a.v) (32 ∷ decimal a.time) in
    let more = length-append (decimal a.v ++ (32 ∷ decimal a.time)) (32 ∷ decimal (length (that (is_in a.before) 128))) in
    omega (arith, P.is)

pub bounds-out-d : goal.bounds-out-d
bounds-out-d c = here (goal.at.bounds-out-d c).After-put_members-d

pub overflow_add-result : goal.overflow_add-result
overflow_add-result c = omega (arith, here (goal.at.overflow_add-result c).After-put_members-d)

pub shape_of-out : goal.shape_of-out
shape_of-out c =
    let P = with-members (goal.at.shape_of-out c).After-put_members-d in
    length-set c.put_members-d.new.out c.put_members-d.result 10 ∙ put-long _ _ _ _ _ P

pub returns : goal.returns
returns c =
    let a = c.args in
    let m = c.put_members-d in
    let P = with-members (goal.at.returns c).After-put_members-d in
    let T = rw (task-parts a.v a.time (is_in a.before)) at (put_then _ _ _ _ _ _ _ _ P (put_byte m.new.out m.result 10)) in
    (T.is, T.laid)
