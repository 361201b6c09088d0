-- For our own layers alone: no contract for callers and no claim cites this file.
--
-- What `step` gives.
--
--   coded_step t      the answer of `tick`, coded, beside the record
use Rattle.tick.specs.declared.Ticked.{Ticked}
use Rattle.codes.specs.CodedRun.{coded_report_of}
use Rattle.planner.specs.declared.Stepped.{Stepped}

abbrev pub coded_step : Ticked → Stepped
coded_step t = record { said = coded_report_of t.report; run = t.run }
