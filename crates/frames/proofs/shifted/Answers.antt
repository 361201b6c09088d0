use mathlib.Core.Path.{◌≡◌, refl}
use mathlib.Core.Bool.{Bool, true, false, not, ◌&&◌, ◌||◌}
use Rattle.vset.specs.Members.{is_in}
use Rattle.vset.proofs.Gather.{members_ext}
use Rattle.model.specs.Places.{pick}
use Rattle.frames.proofs.shifted.Goals as goal

joins : (a b : Bool) → a || b ≡ pick b true a
joins true true = refl
joins true false = refl
joins false true = refl
joins false false = refl

leaves : (a b : Bool) → a && not b ≡ pick b false a
leaves true true = refl
leaves true false = refl
leaves false true = refl
leaves false false = refl

pub returns-then-in_it : goal.returns-then-in_it
returns-then-in_it c = let s = c.args in rw c.if-in_it.true (members_ext _ _ _ c.either.ensures (λ v. joins (is_in s.full v) (is_in s.mine v)))

pub returns-else-in_it : goal.returns-else-in_it
returns-else-in_it c = let s = c.args in rw c.if-in_it.false (members_ext _ _ _ c.minus.ensures (λ v. leaves (is_in s.full v) (is_in s.mine v)))
