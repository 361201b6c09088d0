-- The records of a log in form, and the schedule that they give:
pub mod Records
pub mod Recording
pub mod Prefix
-- The theorem: a log in form passes 19 to 22 exactly where its schedule is work conserving, with times at most the WCETs:
pub mod Conserving
pub mod Seen
pub mod Finishing
-- The answer, and what each number says:
pub mod Judging
pub mod Saying
-- The log of a schedule is accepted, and that of the list schedule; an empty log:
pub mod Entries
pub mod Changes
pub mod Logged
pub mod ListLog
pub mod Intervals
pub mod Empty
-- Small logs, computed:
pub mod Worked
