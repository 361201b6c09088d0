-- What each entry gives, said over its contract. `ReadGives s t`: the contract of `read` allows, for a file whose bytes are s, the value t.
-- An entry has no `requires` and ends, so that there is such a value for every input; its one-outcome theorem says that there is one only.
--
--   ReadGives s t                    `read`: the value for the file s
--   WriteGives g old w new           `write`: the answer for the lists g, and the lent room from old to new
--   BoundsGives s b                  `bounds`: the answer for the file s
--   SecondGives s r                  `second`: the answer for the file s
--   PathGives s old p new            `path`: the answer for the file s, and the lent list from old to new
--   GainsGives s old r new           `gains`: the answer for the file s, and the lent list from old to new
--   AlteredGives s v x old r new     `gains_altered`: the same with the WCET of v set to x
--   StartGives s e r                 `start`: the answer for the file s and the times e
--   TickGives s r t                  `tick`: what the record r becomes
--   TickInPlaceGives s r x r'        `tick_in_place`: the report, and the caller's record from r to r'
--   RunGives s e old p new           `run`: the answer for the file s and the times e, and the lent list from old to new
--   LateGives s e d r                `late`: the answer for the file s, the times e and the tick d
--   EnoughGives s k d r              `enough`: the answer for the file s, the type k and the limit d
--   ReplayGives s l old r new        `replay`: the answer for the file s and the log l, and the lent list from old to new
--   LogGives s e old w new           `log`: the answer for the file s and the times e, and the lent room from old to new
--   StgReadGives t cores kinds old w new   `stg::read`: the answer for the text t with these lists, and the lent room from old to new
--   StgWriteGives s old w new        `stg_writer::write`: the answer for the file s, and the lent room from old to new
--   MendGives s old list m new list'      `mend`: the answer for the file s, and the lent buffers from old to new and from list to list'
--   PlannerReadGives s r, ..         the same of the entries for C and Rust
--
-- Of functions inside, which rest on what their `requires` says:
--
--   RowsGives s x p                  the reader's answer x for the file s, and the table p of each vertex's predecessors (`take_rows`)
--   KinGives s x p a                 the same, and the table a of its ancestors (`take_kin`)
--   AfreshGives e st o n w r         the summary r that is made afresh, of the edges e with the starts st, in the order o of n vertices, with the
--                                    weights w
--   RenewedGives .. w old v r        the summary r that old is brought up to date to, where w differs in the weight of v
--   RankingGives gain n l            the ranking l by the gains of n vertices
--   UntilGives g run d x             the record x of a run of the graph g up to tick d, from the record `run`
--   WorseGives g h p                 `boards::worse`: the first point p in which the graph h is worse than g
--   LanesGives l n kind cores old new   `lanes::name`: the lent list from old to new, for the log l of n vertices with these kinds and cores
use Rattle.std.specs.Prelude.{◌≡◌, List, ℕ}
use Rattle.outcome.specs.Allows.{Allows}
use Rattle.graph.specs.Answer.{Answer}
use Rattle.graph.specs.declared.Graph.{Graph}
use Rattle.graph.specs.Answer.{Taken, taken}
use Rattle.reader.specs.contracts.read as read
use Rattle.reader.proofs.read.Reads as read-reads
use Rattle.reader.specs.contracts.take_rows as take-rows
use Rattle.reader.proofs.take_rows.Reads as take-rows-reads
use Rattle.reader.specs.contracts.take_kin as take-kin
use Rattle.reader.proofs.take_kin.Reads as take-kin-reads
use Rattle.writer.specs.Lists.{Lists, lists}
use Rattle.writer.specs.Wrote.{Wrote}
use Rattle.writer.specs.contracts.write as write
use Rattle.writer.proofs.write.Reads as write-reads
use Rattle.bounds.specs.Bounded.{Bounded, bounded}
use Rattle.bounds.specs.Pathed.{Pathed}
use Rattle.bounds.specs.contracts.bounds as bounds
use Rattle.bounds.proofs.bounds.Reads as bounds-reads
use Rattle.bounds.specs.contracts.path as path
use Rattle.bounds.proofs.path.Reads as path-reads
use Rattle.second.specs.Seconded.{Seconded, seconded}
use Rattle.second.specs.contracts.second as second
use Rattle.second.proofs.second.Reads as second_reads
use Rattle.gains.specs.Gained.{Gained}
use Rattle.gains.specs.contracts.gains as gains
use Rattle.gains.proofs.gains.Reads as gains-reads
use Rattle.gains.specs.contracts.gains_altered as gains-altered
use Rattle.gains.proofs.gains_altered.Reads as gains-altered-reads
use Rattle.summary.specs.declared.Summary.{Summary}
use Rattle.summary.specs.contracts.afresh as afresh
use Rattle.summary.proofs.afresh.Reads as afresh-reads
use Rattle.summary.specs.contracts.altered as renewed
use Rattle.summary.proofs.altered.Reads as renewed-reads
use Rattle.ranks.specs.contracts.ranking as ranking
use Rattle.ranks.proofs.ranking.Reads as ranking-reads
use Rattle.tick.specs.declared.Run.{Run}
use Rattle.tick.specs.Lists.{GraphOf}
use Rattle.tick.specs.Report.{Report}
use Rattle.tick.specs.declared.Ticked.{Ticked}
use Rattle.schedule.specs.Start.{Started, started}
use Rattle.schedule.specs.Played.{Played}
use Rattle.schedule.specs.contracts.start as start
use Rattle.schedule.proofs.start.Reads as start-reads
use Rattle.schedule.specs.contracts.tick as tick
use Rattle.schedule.proofs.tick.Reads as tick-reads
use Rattle.schedule.specs.contracts.tick_in_place as tick-in-place
use Rattle.schedule.specs.contracts.run as run
use Rattle.schedule.proofs.run.Reads as run-reads
use Rattle.schedule.proofs.Outcomes.{tick_in_place_stated}
use Rattle.leaps.specs.contracts.until as until
use Rattle.leaps.proofs.until.Reads as until-reads
use Rattle.late.specs.Lateness.{Lateness, lateness}
use Rattle.late.specs.contracts.late as late
use Rattle.late.proofs.late.Reads as late-reads
use Rattle.enough.specs.Fewest.{Fewest, fewest}
use Rattle.enough.specs.contracts.enough as enough
use Rattle.enough.proofs.enough.Reads as enough-reads
use Rattle.boards.specs.declared.Point.{Point}
use Rattle.boards.specs.contracts.worse as worse
use Rattle.boards.proofs.worse.Reads as worse-reads
use Rattle.lanes.specs.contracts.name as lanes-name
use Rattle.lanes.proofs.name.Reads as lanes-name-reads
use Rattle.replay.specs.Replayed.{Replayed}
use Rattle.replay.specs.contracts.replay as replay
use Rattle.replay.proofs.replay.Reads as replay-reads
use Rattle.logs.specs.contracts.log as log
use Rattle.logs.proofs.log.Reads as log-reads
use Rattle.stg.specs.contracts.read as stg-read
use Rattle.stg.proofs.read.Reads as stg-read-reads
use Rattle.stg_writer.specs.contracts.write as stg-write
use Rattle.stg_writer.proofs.write.Reads as stg-write-reads
use Rattle.mends.specs.Answers.{Mended}
use Rattle.mend.specs.contracts.mend as mend
use Rattle.mend.proofs.mend.Reads as mend-reads
use Rattle.codes.specs.declared.PlannerGraph.{PlannerGraph}
use Rattle.codes.specs.declared.PlannerCount.{PlannerCount}
use Rattle.codes.specs.declared.PlannerBounds.{PlannerBounds}
use Rattle.codes.specs.declared.PlannerSecond.{PlannerSecond}
use Rattle.codes.specs.declared.PlannerRun.{PlannerRun}
use Rattle.codes.specs.declared.PlannerMoved.{PlannerMoved}
use Rattle.codes.specs.declared.PlannerTick.{PlannerTick}
use Rattle.codes.specs.declared.PlannerFinish.{PlannerFinish}
use Rattle.codes.specs.declared.PlannerLate.{PlannerLate}
use Rattle.codes.specs.declared.PlannerMended.{PlannerMended}
use Rattle.codes.specs.declared.PlannerEnough.{PlannerEnough}
use Rattle.planner.specs.contracts.planner_read as planner-read
use Rattle.planner.proofs.planner_read.Reads as planner-read-reads
use Rattle.planner.specs.contracts.planner_write as planner-write
use Rattle.planner.proofs.planner_write.Reads as planner-write-reads
use Rattle.planner.specs.contracts.planner_bounds as planner-bounds
use Rattle.planner.proofs.planner_bounds.Reads as planner-bounds-reads
use Rattle.planner.specs.contracts.planner_second as planner-second
use Rattle.planner.proofs.planner_second.Reads as planner-second-reads
use Rattle.planner.specs.contracts.planner_path as planner-path
use Rattle.planner.proofs.planner_path.Reads as planner-path-reads
use Rattle.planner.specs.contracts.planner_gains as planner-gains
use Rattle.planner.proofs.planner_gains.Reads as planner-gains-reads
use Rattle.planner.specs.contracts.planner_gains_altered as planner-gains-altered
use Rattle.planner.proofs.planner_gains_altered.Reads as planner-gains-altered-reads
use Rattle.planner.specs.contracts.planner_start as planner-start
use Rattle.planner.proofs.planner_start.Reads as planner-start-reads
use Rattle.planner.specs.contracts.planner_tick as planner-tick
use Rattle.planner.proofs.planner_tick.Reads as planner-tick-reads
use Rattle.planner.specs.contracts.planner_tick_in_place as planner-tick-in-place
use Rattle.planner.specs.contracts.planner_run as planner-run
use Rattle.planner.proofs.planner_run.Reads as planner-run-reads
use Rattle.planner.specs.contracts.planner_late as planner-late
use Rattle.planner.proofs.planner_late.Reads as planner-late-reads
use Rattle.planner.specs.contracts.planner_replay as planner-replay
use Rattle.planner.proofs.planner_replay.Reads as planner-replay-reads
use Rattle.planner.specs.contracts.planner_log as planner-log
use Rattle.planner.proofs.planner_log.Reads as planner-log-reads
use Rattle.planner.specs.contracts.planner_stg_read as planner-stg-read
use Rattle.planner.proofs.planner_stg_read.Reads as planner-stg-read-reads
use Rattle.planner.specs.contracts.planner_stg_write as planner-stg-write
use Rattle.planner.proofs.planner_stg_write.Reads as planner-stg-write-reads
use Rattle.planner.specs.contracts.planner_enough as planner-enough
use Rattle.planner.proofs.planner_enough.Reads as planner-enough-reads
use Rattle.planner.specs.contracts.planner_mend as planner-mend
use Rattle.planner.proofs.planner_mend.Reads as planner-mend-reads
use Rattle.planner.proofs.Outcomes.{planner_tick_in_place_stated}

abbrev pub ReadGives : List ℕ → Taken → Type 0
ReadGives s t = Allows read.ended read-reads.Post (λ κs a r e. (a.0.now ≡ s) × (taken r ≡ t))

abbrev pub WriteGives : Lists → List ℕ → Wrote → List ℕ → Type 0
WriteGives g old w new =
    Allows write.ended write-reads.Post
    (λ κs a r e. (lists a.0.now a.1.0.now a.1.1.0.now a.1.1.1.0.now ≡ g) × (a.1.1.1.1.0.now ≡ old) × (r ≡ w) × (e.1.1.1.1.0.now ≡ new))

abbrev pub BoundsGives : List ℕ → Bounded → Type 0
BoundsGives s b = Allows bounds.ended bounds-reads.Post (λ κs a r e. (a.0.now ≡ s) × (bounded r ≡ b))

abbrev pub SecondGives : List ℕ → Seconded → Type 0
SecondGives s b = Allows second.ended second_reads.Post (λ κs a r e. (a.0.now ≡ s) × (seconded r ≡ b))

abbrev pub PathGives : List ℕ → List ℕ → Pathed → List ℕ → Type 0
PathGives s old p new =
    Allows path.ended path-reads.Post (λ κs a r e. (a.0.now ≡ s) × (a.1.0.now ≡ old) × (r ≡ p) × (e.1.0.now ≡ new))

abbrev pub GainsGives : List ℕ → List ℕ → Gained → List ℕ → Type 0
GainsGives s old g new =
    Allows gains.ended gains-reads.Post (λ κs a r e. (a.0.now ≡ s) × (a.1.0.now ≡ old) × (r ≡ g) × (e.1.0.now ≡ new))

abbrev pub AlteredGives : List ℕ → ℕ → ℕ → List ℕ → Gained → List ℕ → Type 0
AlteredGives s v x old g new =
    Allows gains-altered.ended gains-altered-reads.Post
    (λ κs a r e. (a.0.now ≡ s) × (a.1.0 ≡ v) × (a.1.1.0 ≡ x) × (a.1.1.1.0.now ≡ old) × (r ≡ g) × (e.1.1.1.0.now ≡ new))

abbrev pub StartGives : List ℕ → List ℕ → Started → Type 0
StartGives s e r = Allows start.ended start-reads.Post (λ κs a x w. (a.0.now ≡ s) × (a.1.0.now ≡ e) × (started x ≡ r))

abbrev pub TickGives : List ℕ → Run → Ticked → Type 0
TickGives s r t = Allows tick.ended tick-reads.Post (λ κs a x e. (a.1.0.now ≡ s) × (a.0 ≡ r) × (x ≡ t))

abbrev pub TickInPlaceGives : List ℕ → Run → Report → Run → Type 0
TickInPlaceGives s r x r' =
    Allows tick-in-place.ended tick_in_place_stated.post (λ κs a y e. (a.1.0.now ≡ s) × (a.0.now ≡ r) × (y ≡ x) × (e.0.now ≡ r'))

abbrev pub RunGives : List ℕ → List ℕ → List ℕ → Played → List ℕ → Type 0
RunGives s e old p new =
    Allows run.ended run-reads.Post (λ κs a r w. (a.0.now ≡ s) × (a.1.0.now ≡ e) × (a.1.1.0.now ≡ old) × (r ≡ p) × (w.1.1.0.now ≡ new))

abbrev pub LateGives : List ℕ → List ℕ → ℕ → Lateness → Type 0
LateGives s e d r = Allows late.ended late-reads.Post (λ κs a x w. (a.0.now ≡ s) × (a.1.0.now ≡ e) × (a.1.1.0 ≡ d) × (lateness x ≡ r))

abbrev pub EnoughGives : List ℕ → ℕ → ℕ → Fewest → Type 0
EnoughGives s k d r = Allows enough.ended enough-reads.Post (λ κs a x w. (a.0.now ≡ s) × (a.1.0 ≡ k) × (a.1.1.0 ≡ d) × (fewest x ≡ r))

abbrev pub RowsGives : List ℕ → Answer → List (List ℕ) → Type 0
RowsGives s x p =
    Allows take-rows.ended take-rows-reads.Post (λ κs b r e. (b.0.now ≡ s) × (r ≡ x) × (e.1.0.now.pred ≡ p))

abbrev pub KinGives : List ℕ → Answer → List (List ℕ) → List (List ℕ) → Type 0
KinGives s x p a =
    Allows take-kin.ended take-kin-reads.Post
    (λ κs b r e. (b.0.now ≡ s) × (r ≡ x) × (e.1.0.now.pred ≡ p) × (e.1.1.0.now ≡ a))

abbrev pub WorseGives : Graph → Graph → Point → Type 0
WorseGives g h p = Allows worse.ended worse-reads.Post (λ κs a r e. (a.0 ≡ g) × (a.1.0 ≡ h) × (r ≡ p))

abbrev pub LanesGives : List ℕ → ℕ → List ℕ → List ℕ → List ℕ → List ℕ → Type 0
LanesGives l n kind cores old new =
    Allows lanes-name.ended lanes-name-reads.Post
    (λ κs b r e. (b.0.now ≡ l) × (b.1.0 ≡ n) × (b.1.1.0.now ≡ kind) × (b.1.1.1.0.now ≡ cores) × (b.1.1.1.1.0.now ≡ old)
    × (e.1.1.1.1.0.now ≡ new))

abbrev pub ReplayGives : List ℕ → List ℕ → List ℕ → Replayed → List ℕ → Type 0
ReplayGives s l old r new =
    Allows replay.ended replay-reads.Post
    (λ κs a x w. (a.0.now ≡ s) × (a.1.0.now ≡ l) × (a.1.1.0.now ≡ old) × (x ≡ r) × (w.1.1.0.now ≡ new))

abbrev pub LogGives : List ℕ → List ℕ → List ℕ → Wrote → List ℕ → Type 0
LogGives s e old w new =
    Allows log.ended log-reads.Post (λ κs a r x. (a.0.now ≡ s) × (a.1.0.now ≡ e) × (a.1.1.0.now ≡ old) × (r ≡ w) × (x.1.1.0.now ≡ new))

abbrev pub MendGives : List ℕ → List ℕ → List ℕ → Mended → List ℕ → List ℕ → Type 0
MendGives s old list m new list' =
    Allows mend.ended mend-reads.Post
    (λ κs a r x. (a.0.now ≡ s) × (a.1.0.now ≡ old) × (a.1.1.0.now ≡ list) × (r ≡ m) × (x.1.0.now ≡ new) × (x.1.1.0.now ≡ list'))

abbrev pub StgReadGives : List ℕ → List ℕ → List ℕ → List ℕ → Wrote → List ℕ → Type 0
StgReadGives t cores kinds old w new =
    Allows stg-read.ended stg-read-reads.Post
    (λ κs a r x. (a.0.now ≡ t) × (a.1.0.now ≡ cores) × (a.1.1.0.now ≡ kinds) × (a.1.1.1.0.now ≡ old) × (r ≡ w) × (x.1.1.1.0.now ≡ new))

abbrev pub StgWriteGives : List ℕ → List ℕ → Wrote → List ℕ → Type 0
StgWriteGives s old w new =
    Allows stg-write.ended stg-write-reads.Post (λ κs a r x. (a.0.now ≡ s) × (a.1.0.now ≡ old) × (r ≡ w) × (x.1.0.now ≡ new))

-- ---- inside

abbrev pub AfreshGives : List ℕ → List ℕ → List ℕ → ℕ → List ℕ → Summary → Type 0
AfreshGives e st o n w r =
    Allows afresh.ended (λ κs a x l. afresh-reads.Pre κs a × afresh-reads.Post κs a x l)
    (λ κs a x l. (a.0.now ≡ e) × (a.1.0.now ≡ st) × (a.1.1.0.now ≡ o) × (a.1.1.1.0 ≡ n) × (a.1.1.1.1.0.now ≡ w) × (x ≡ r))

abbrev pub RenewedGives : List ℕ → List ℕ → List ℕ → ℕ → List ℕ → Summary → ℕ → Summary → Type 0
RenewedGives e st o n w old v r =
    Allows renewed.ended (λ κs a x l. renewed-reads.Pre κs a × renewed-reads.Post κs a x l)
    (λ κs a x l. (a.0.now ≡ e) × (a.1.0.now ≡ st) × (a.1.1.0.now ≡ o) × (a.1.1.1.0 ≡ n) × (a.1.1.1.1.0.now ≡ w) × (a.1.1.1.1.1.0 ≡ old) × (a.1.1.1.1.1.1.0 ≡ v) × (x ≡ r))

abbrev pub RankingGives : List ℕ → ℕ → List ℕ → Type 0
RankingGives gain n l =
    Allows ranking.ended (λ κs a x e. ranking-reads.Pre κs a × ranking-reads.Post κs a x e) (λ κs a x e. (a.0.now ≡ gain) × (a.1.0 ≡ n) × (x ≡ l))

-- what is lent are the lists of the graph g
abbrev pub UntilGives : Graph → Run → ℕ → Run → Type 0
UntilGives g run d x =
    Allows until.ended until-reads.Post
    (λ κs a y w. GraphOf g a.0 a.1.0 a.1.1.0.now a.1.1.1.0.now a.1.1.1.1.0.now a.1.1.1.1.1.0.now × (a.1.1.1.1.1.1.0 ≡ run) × (a.1.1.1.1.1.1.1.0 ≡ d) × (y ≡ x))

-- ---- for C and Rust

abbrev pub PlannerReadGives : List ℕ → PlannerGraph → Type 0
PlannerReadGives s r = Allows planner-read.ended planner-read-reads.Post (λ κs a x e. (a.0.now ≡ s) × (x ≡ r))

abbrev pub PlannerWriteGives : Lists → List ℕ → PlannerCount → List ℕ → Type 0
PlannerWriteGives g old w new =
    Allows planner-write.ended planner-write-reads.Post
    (λ κs a r e. (lists a.0.now a.1.0.now a.1.1.0.now a.1.1.1.0.now ≡ g) × (a.1.1.1.1.0.now ≡ old) × (r ≡ w) × (e.1.1.1.1.0.now ≡ new))

abbrev pub PlannerBoundsGives : List ℕ → PlannerBounds → Type 0
PlannerBoundsGives s b = Allows planner-bounds.ended planner-bounds-reads.Post (λ κs a r e. (a.0.now ≡ s) × (r ≡ b))

abbrev pub PlannerSecondGives : List ℕ → PlannerSecond → Type 0
PlannerSecondGives s b = Allows planner-second.ended planner-second-reads.Post (λ κs a r e. (a.0.now ≡ s) × (r ≡ b))

abbrev pub PlannerPathGives : List ℕ → List ℕ → PlannerCount → List ℕ → Type 0
PlannerPathGives s old p new =
    Allows planner-path.ended planner-path-reads.Post (λ κs a r e. (a.0.now ≡ s) × (a.1.0.now ≡ old) × (r ≡ p) × (e.1.0.now ≡ new))

abbrev pub PlannerGainsGives : List ℕ → List ℕ → PlannerCount → List ℕ → Type 0
PlannerGainsGives s old g new =
    Allows planner-gains.ended planner-gains-reads.Post (λ κs a r e. (a.0.now ≡ s) × (a.1.0.now ≡ old) × (r ≡ g) × (e.1.0.now ≡ new))

abbrev pub PlannerAlteredGives : List ℕ → ℕ → ℕ → List ℕ → PlannerCount → List ℕ → Type 0
PlannerAlteredGives s v x old g new =
    Allows planner-gains-altered.ended planner-gains-altered-reads.Post
    (λ κs a r e. (a.0.now ≡ s) × (a.1.0 ≡ v) × (a.1.1.0 ≡ x) × (a.1.1.1.0.now ≡ old) × (r ≡ g) × (e.1.1.1.0.now ≡ new))

abbrev pub PlannerStartGives : List ℕ → List ℕ → PlannerRun → Type 0
PlannerStartGives s e r =
    Allows planner-start.ended planner-start-reads.Post (λ κs a x w. (a.0.now ≡ s) × (a.1.0.now ≡ e) × (x ≡ r))

abbrev pub PlannerTickGives : List ℕ → Run → PlannerTick → Type 0
PlannerTickGives s r t = Allows planner-tick.ended planner-tick-reads.Post (λ κs a x e. (a.1.0.now ≡ s) × (a.0 ≡ r) × (x ≡ t))

abbrev pub PlannerTickInPlaceGives : List ℕ → Run → PlannerMoved → Run → Type 0
PlannerTickInPlaceGives s r x r' =
    Allows planner-tick-in-place.ended planner_tick_in_place_stated.post
    (λ κs a y e. (a.1.0.now ≡ s) × (a.0.now ≡ r) × (y ≡ x) × (e.0.now ≡ r'))

abbrev pub PlannerRunGives : List ℕ → List ℕ → List ℕ → PlannerFinish → List ℕ → Type 0
PlannerRunGives s e old p new =
    Allows planner-run.ended planner-run-reads.Post
    (λ κs a r w. (a.0.now ≡ s) × (a.1.0.now ≡ e) × (a.1.1.0.now ≡ old) × (r ≡ p) × (w.1.1.0.now ≡ new))

abbrev pub PlannerLateGives : List ℕ → List ℕ → ℕ → PlannerLate → Type 0
PlannerLateGives s e d r =
    Allows planner-late.ended planner-late-reads.Post (λ κs a x w. (a.0.now ≡ s) × (a.1.0.now ≡ e) × (a.1.1.0 ≡ d) × (x ≡ r))

abbrev pub PlannerEnoughGives : List ℕ → ℕ → ℕ → PlannerEnough → Type 0
PlannerEnoughGives s k d r =
    Allows planner-enough.ended planner-enough-reads.Post (λ κs a x w. (a.0.now ≡ s) × (a.1.0 ≡ k) × (a.1.1.0 ≡ d) × (x ≡ r))

abbrev pub PlannerReplayGives : List ℕ → List ℕ → List ℕ → PlannerFinish → List ℕ → Type 0
PlannerReplayGives s l old r new =
    Allows planner-replay.ended planner-replay-reads.Post
    (λ κs a x w. (a.0.now ≡ s) × (a.1.0.now ≡ l) × (a.1.1.0.now ≡ old) × (x ≡ r) × (w.1.1.0.now ≡ new))

abbrev pub PlannerLogGives : List ℕ → List ℕ → List ℕ → PlannerCount → List ℕ → Type 0
PlannerLogGives s e old w new =
    Allows planner-log.ended planner-log-reads.Post
    (λ κs a r x. (a.0.now ≡ s) × (a.1.0.now ≡ e) × (a.1.1.0.now ≡ old) × (r ≡ w) × (x.1.1.0.now ≡ new))

abbrev pub PlannerMendGives : List ℕ → List ℕ → List ℕ → PlannerMended → List ℕ → List ℕ → Type 0
PlannerMendGives s old list m new list' =
    Allows planner-mend.ended planner-mend-reads.Post
    (λ κs a r x. (a.0.now ≡ s) × (a.1.0.now ≡ old) × (a.1.1.0.now ≡ list) × (r ≡ m) × (x.1.0.now ≡ new) × (x.1.1.0.now ≡ list'))

abbrev pub PlannerStgReadGives : List ℕ → List ℕ → List ℕ → List ℕ → PlannerCount → List ℕ → Type 0
PlannerStgReadGives t cores kinds old w new =
    Allows planner-stg-read.ended planner-stg-read-reads.Post
    (λ κs a r x. (a.0.now ≡ t) × (a.1.0.now ≡ cores) × (a.1.1.0.now ≡ kinds) × (a.1.1.1.0.now ≡ old) × (r ≡ w) × (x.1.1.1.0.now ≡ new))

abbrev pub PlannerStgWriteGives : List ℕ → List ℕ → PlannerCount → List ℕ → Type 0
PlannerStgWriteGives s old w new =
    Allows planner-stg-write.ended planner-stg-write-reads.Post (λ κs a r x. (a.0.now ≡ s) × (a.1.0.now ≡ old) × (r ≡ w) × (x.1.0.now ≡ new))
