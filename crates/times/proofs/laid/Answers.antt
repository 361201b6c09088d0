use mathlib.Core.Path.{◌≡◌, refl, ◌∙◌}
use Prim.Native.Nat.{ℕ, ◌-◌}
use lib.ListN.{drop, replicate}
use Rattle.std.proofs.lemmas.List.{drop-replicate}
use Rattle.model.specs.Places.{padded}
use Rattle.model.proofs.Turns.{as_table}
use Rattle.times.specs.Times.{times_of}
use Rattle.times.proofs.laid.Goals as goal

pub returns : goal.returns
unfolding padded
returns c =
    let n = c.args.n in
    let times = c.args.times.now in
    let laid = c.copy_from_slice.ensures.after ∙ as_table (times_of times) n times c.requires.1 (λ v h. refl) in
    let zeros : drop {A = ℕ} n (replicate 128 0) ≡ replicate (128 - n) 0 = drop-replicate n 128 0 in
    rw (laid, zeros) refl
