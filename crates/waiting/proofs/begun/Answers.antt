use mathlib.Core.Path.{ap, ap₂, ◌∙◌}
use mathlib.Core.List.{List}
use mathlib.Core.Bool.{Bool, true, not, ◌&&◌}
use Prim.Native.Nat.{ℕ}
use lib.ListN.{get_or, length}
use Rattle.model.proofs.Tables.{table-length, table_at}
use Rattle.vset.specs.Members.{is_in}
use Rattle.waiting.specs.Waiting.{entering, edges_by}
use Rattle.waiting.proofs.Rows.{ones-count}
use Rattle.waiting.proofs.Numbers.{unsettled_all}
use Rattle.waiting.proofs.begun.Goals as goal

pub settle-behind-requires : goal.settle-behind-requires
settle-behind-requires c =
    let R = c.requires.rows in
    let l = c.args.edge.now in
    let m = edges_by c.args.starts.now in
    let w = c.counted-waiting.result in
    let e = ones-count R _ w c.requires.holds c.counted-waiting.ensures in
    let h = c.held-hind in
    let f = entering l (λ u. true) m in record {
      layout = c.requires.layout;
      unsettled = unsettled_all l m c.args.n w (is_in c.args.busy) (is_in h.result) (is_in c.minus-done.result) (ap (λ (x : List ℕ). length x) e ∙ table-length f 128)
          (λ v b. ap (λ (x : List ℕ). get_or x v 0) e ∙ table_at f 128 v b) R.from_known h.ensures.are
          (λ v. c.minus-done.ensures.are v ∙ ap₂ (λ (x y : Bool). x && not y) (c.all.ensures.are v) (c.either.ensures.are v));
    }
