-- One tick for a caller (document 01: "a refused tick hands back the record it was given").
--
--   tick_on_of g r      16 where the record does not suit the graph g; else the tick
--   tick_of s r      what `tick` gives for the file s
use Rattle.std.specs.Prelude.{Ok, Err}
use Rattle.std.specs.Prelude.{List, ℕ}
use Rattle.model.specs.Places.{pick}
use Rattle.graph.specs.Judge.{read_of}
use Rattle.graph.specs.declared.Graph.{Graph}
use Rattle.graph.specs.Answer.{Answer}
use Rattle.tick.specs.declared.Run.{Run}
use Rattle.tick.specs.declared.Ticked.{Ticked}
use Rattle.tick.specs.Report.{Refused}
use Rattle.tick.specs.Run.{ticked_of}
use Rattle.tick.specs.Suits.{suits}

unfoldable pub tick_on_of : Graph → Run → Ticked
tick_on_of g r = pick (suits g r) (ticked_of g r) (record { report = Refused (record { number = 16; place = 0 }); run = r })

abbrev pub tick_after : Answer → Graph → Run → Ticked
tick_after (Ok _) g r = tick_on_of g r
tick_after (Err x) g r = record { report = Refused x; run = r }

unfoldable pub tick_of : List ℕ → Run → Ticked
tick_of s r = tick_after (read_of s).answer (read_of s).graph r
