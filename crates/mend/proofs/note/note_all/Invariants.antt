use Prim.Native.Nat.{◌≤◌, ◌*◌}
use mathlib.Core.Path.{◌≡◌}
use lib.ListN.{length}
use Rattle.mends.specs.Mends.{seat}
use Rattle.mends.specs.Listed.{list_up_to}
use Rattle.mend_record.specs.Laying.{Held}
use Rattle.mend.proofs.note.note_all.Given as goal

abbrev pub invariant-loop-k : goal.invariant-loop-k
invariant-loop-k l =
    Held (list_up_to l.file l.k) l.initial.list l.list × (l.n ≡ length (list_up_to l.file l.k)) × (l.stood ≡ seat l.file l.k) × (l.n ≤ 16 * l.k) × (l.stood ≤ l.k)
