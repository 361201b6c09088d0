-- Texts and their answers, computed from the definitions.
use mathlib.Core.Path.{◌≡◌, refl}
use mathlib.Core.List.{List, [], ◌∷◌}
use Prim.Native.Nat.{ℕ}
use Rattle.model.specs.Places.{first, count, any, table, padded, that}
use Rattle.model.specs.Graph.{source, sink}
use Rattle.model.specs.Cycle.{walks, cyclic}
use Rattle.graph.specs.File.{word_at, key_at, order, is_order, many, ordinal, column, words, keys, graph_of}
use Rattle.graph.specs.Model.{from, to, joins, as_model}
use Rattle.graph.specs.Rules.{rule1, rule2, rule3, rule4, rule5, rule6, rule7, rule8, rule9, rule10, rule11, holds, places}
use Rattle.graph.specs.Judge.{place_of, applies, lowest, judge_from, read_of}
use Rattle.writer.specs.Write.{joined, type_of, vertex_of, edge_of, file_of, wrote_of}
use Rattle.writer.specs.Wrote.{Wrote}
use Rattle.writer.specs.Wrote.{Bytes, Refused}
use Rattle.stg_text.specs.Fields.{pieces, feed, blank, fields, digit, numeral, value_from, value, numerals, numbers}
use Rattle.stg_text.specs.Layout.{line_at, ended, begun, tasks, count_line, within, task_line, skipped, fits, faulty, lines_due, fault_at, outside, fault_of}
use Rattle.stg_text.specs.Says.{time_of, before_of, edge_said, wcet_said, wcets_of, edges_said, says}
use Rattle.stg_text.specs.Answers.{read_stg_of, other_source, other_sink, other_ends_of, write_of, write_stg_of}
use Rattle.stg_text.specs.Canonical.{digits_of, decimal, spaced, line_of, before, task_of, task_line_of, lay_out_of, text_of}

-- reading the text with these cores and kinds, and so many bytes of room, answers so
pub record Row : Type 0 where
  pub text : List ℕ
  pub cores : List ℕ
  pub kinds : List ℕ
  pub room : ℕ
  pub answer : Wrote

abbrev pub Right : Row → Type 0
Right r = read_stg_of r.text r.cores r.kinds r.room ≡ r.answer

abbrev pub All : (Row → Type 0) → List Row → Type 0
All P [] = Unit {0}
All P (r ∷ l) = P r × All P l

-- blanks, tabs, leading zeros and comments are read
abbrev accepted : Row
accepted = record {
  text = 32 ∷ 48 ∷ 49 ∷ 9 ∷ 10 ∷ 48 ∷ 32 ∷ 48 ∷ 32 ∷ 48 ∷ 10 ∷ 9 ∷ 49 ∷ 32 ∷ 32 ∷ 48 ∷ 48 ∷ 48 ∷ 48 ∷ 48 ∷ 48 ∷ 48 ∷ 48 ∷ 48 ∷ 53 ∷ 32 ∷ 49 ∷ 32 ∷ 48 ∷ 32 ∷ 10 ∷ 50 ∷ 32 ∷ 48 ∷ 32 ∷ 49 ∷ 32 ∷ 49 ∷ 10 ∷ 32 ∷ 35 ∷ 32 ∷ 120 ∷ 13 ∷ 10 ∷ 35 ∷ 10 ∷ [];
  cores = 1 ∷ [];
  kinds = 0 ∷ 0 ∷ 0 ∷ [];
  room = 48;
  answer = Bytes 48;
}

-- one byte too little
abbrev no_room : Row
no_room = record {
  text = 49 ∷ 10 ∷ 48 ∷ 32 ∷ 48 ∷ 32 ∷ 48 ∷ 10 ∷ 49 ∷ 32 ∷ 53 ∷ 32 ∷ 49 ∷ 32 ∷ 48 ∷ 10 ∷ 50 ∷ 32 ∷ 48 ∷ 32 ∷ 49 ∷ 32 ∷ 49 ∷ 10 ∷ [];
  cores = 1 ∷ [];
  kinds = 0 ∷ 0 ∷ 0 ∷ [];
  room = 47;
  answer = Refused (record { number = 15; place = 0 });
}

-- the empty text misses line 0
abbrev empty : Row
empty = record {
  text = [];
  cores = 1 ∷ [];
  kinds = [];
  room = 0;
  answer = Refused (record { number = 23; place = 0 });
}

-- a last line without its line feed
abbrev no-feed : Row
no-feed = record {
  text = 49 ∷ 10 ∷ 48 ∷ 32 ∷ 48 ∷ 32 ∷ 48 ∷ 10 ∷ 49 ∷ 32 ∷ 53 ∷ 32 ∷ 49 ∷ 32 ∷ 48 ∷ 10 ∷ 50 ∷ 32 ∷ 48 ∷ 32 ∷ 49 ∷ 32 ∷ 49 ∷ 10 ∷ 35 ∷ [];
  cores = 1 ∷ [];
  kinds = 0 ∷ 0 ∷ 0 ∷ [];
  room = 99;
  answer = Refused (record { number = 23; place = 4 });
}

-- a missing line has its own number
abbrev missing : Row
missing = record {
  text = 49 ∷ 10 ∷ 48 ∷ 32 ∷ 48 ∷ 32 ∷ 48 ∷ 10 ∷ 49 ∷ 32 ∷ 53 ∷ 32 ∷ 49 ∷ 32 ∷ 48 ∷ 10 ∷ [];
  cores = 1 ∷ [];
  kinds = 0 ∷ 0 ∷ 0 ∷ [];
  room = 99;
  answer = Refused (record { number = 23; place = 3 });
}

-- a blank line is at fault anywhere
abbrev blank-line : Row
blank-line = record {
  text = 49 ∷ 10 ∷ 48 ∷ 32 ∷ 48 ∷ 32 ∷ 48 ∷ 10 ∷ 49 ∷ 32 ∷ 53 ∷ 32 ∷ 49 ∷ 32 ∷ 48 ∷ 10 ∷ 50 ∷ 32 ∷ 48 ∷ 32 ∷ 49 ∷ 32 ∷ 49 ∷ 10 ∷ 32 ∷ 10 ∷ [];
  cores = 1 ∷ [];
  kinds = 0 ∷ 0 ∷ 0 ∷ [];
  room = 99;
  answer = Refused (record { number = 23; place = 4 });
}

-- a predecessor repeated by value
abbrev repeated : Row
repeated = record {
  text = 49 ∷ 10 ∷ 48 ∷ 32 ∷ 48 ∷ 32 ∷ 48 ∷ 10 ∷ 49 ∷ 32 ∷ 53 ∷ 32 ∷ 50 ∷ 32 ∷ 48 ∷ 32 ∷ 48 ∷ 48 ∷ 10 ∷ 50 ∷ 32 ∷ 48 ∷ 32 ∷ 49 ∷ 32 ∷ 49 ∷ 10 ∷ [];
  cores = 1 ∷ [];
  kinds = 0 ∷ 0 ∷ 0 ∷ [];
  room = 99;
  answer = Refused (record { number = 23; place = 2 });
}

-- a predecessor above n + 1
abbrev above : Row
above = record {
  text = 49 ∷ 10 ∷ 48 ∷ 32 ∷ 48 ∷ 32 ∷ 48 ∷ 10 ∷ 49 ∷ 32 ∷ 53 ∷ 32 ∷ 49 ∷ 32 ∷ 51 ∷ 10 ∷ 50 ∷ 32 ∷ 48 ∷ 32 ∷ 49 ∷ 32 ∷ 49 ∷ 10 ∷ [];
  cores = 1 ∷ [];
  kinds = 0 ∷ 0 ∷ 0 ∷ [];
  room = 99;
  answer = Refused (record { number = 23; place = 2 });
}

-- an entry with a time
abbrev entry-time : Row
entry-time = record {
  text = 49 ∷ 10 ∷ 48 ∷ 32 ∷ 49 ∷ 32 ∷ 48 ∷ 10 ∷ 49 ∷ 32 ∷ 53 ∷ 32 ∷ 49 ∷ 32 ∷ 48 ∷ 10 ∷ 50 ∷ 32 ∷ 48 ∷ 32 ∷ 49 ∷ 32 ∷ 49 ∷ 10 ∷ [];
  cores = 1 ∷ [];
  kinds = 0 ∷ 0 ∷ 0 ∷ [];
  room = 99;
  answer = Refused (record { number = 23; place = 1 });
}

-- eleven digits
abbrev eleven_digits : Row
eleven_digits = record {
  text = 49 ∷ 10 ∷ 48 ∷ 32 ∷ 48 ∷ 32 ∷ 48 ∷ 10 ∷ 49 ∷ 32 ∷ 48 ∷ 48 ∷ 48 ∷ 48 ∷ 48 ∷ 48 ∷ 48 ∷ 48 ∷ 48 ∷ 48 ∷ 53 ∷ 32 ∷ 49 ∷ 32 ∷ 48 ∷ 10 ∷ 50 ∷ 32 ∷ 48 ∷ 32 ∷ 49 ∷ 32 ∷ 49 ∷ 10 ∷ [];
  cores = 1 ∷ [];
  kinds = 0 ∷ 0 ∷ 0 ∷ [];
  room = 99;
  answer = Refused (record { number = 23; place = 2 });
}

-- the list of kinds hasn't n + 2 places, and no kind is declared: 13 before 4
abbrev kinds-short : Row
kinds-short = record {
  text = 49 ∷ 10 ∷ 48 ∷ 32 ∷ 48 ∷ 32 ∷ 48 ∷ 10 ∷ 49 ∷ 32 ∷ 53 ∷ 32 ∷ 49 ∷ 32 ∷ 48 ∷ 10 ∷ 50 ∷ 32 ∷ 48 ∷ 32 ∷ 49 ∷ 32 ∷ 49 ∷ 10 ∷ [];
  cores = [];
  kinds = 0 ∷ 0 ∷ [];
  room = 99;
  answer = Refused (record { number = 13; place = 0 });
}

-- a time that 32 bits can't hold, and that would wrap to 5
abbrev time_wraps : Row
time_wraps = record {
  text = 49 ∷ 10 ∷ 48 ∷ 32 ∷ 48 ∷ 32 ∷ 48 ∷ 10 ∷ 49 ∷ 32 ∷ 52 ∷ 50 ∷ 57 ∷ 52 ∷ 57 ∷ 54 ∷ 55 ∷ 51 ∷ 48 ∷ 49 ∷ 32 ∷ 49 ∷ 32 ∷ 48 ∷ 10 ∷ 50 ∷ 32 ∷ 48 ∷ 32 ∷ 49 ∷ 32 ∷ 49 ∷ 10 ∷ [];
  cores = 1 ∷ [];
  kinds = 0 ∷ 0 ∷ 0 ∷ [];
  room = 99;
  answer = Refused (record { number = 7; place = 2 });
}

-- a task that is its own predecessor
abbrev own : Row
own = record {
  text = 49 ∷ 10 ∷ 48 ∷ 32 ∷ 48 ∷ 32 ∷ 48 ∷ 10 ∷ 49 ∷ 32 ∷ 53 ∷ 32 ∷ 50 ∷ 32 ∷ 48 ∷ 32 ∷ 49 ∷ 10 ∷ 50 ∷ 32 ∷ 48 ∷ 32 ∷ 49 ∷ 32 ∷ 49 ∷ 10 ∷ [];
  cores = 1 ∷ [];
  kinds = 0 ∷ 0 ∷ 0 ∷ [];
  room = 99;
  answer = Refused (record { number = 9; place = 5 });
}

abbrev pub rows : List Row
rows = accepted ∷ no_room ∷ empty ∷ no-feed ∷ missing ∷ blank-line ∷ repeated ∷ above ∷ entry-time ∷ eleven_digits ∷ kinds-short ∷ time_wraps ∷ own ∷ []

pub answers : All Right rows
unfolding first count any table padded source sink walks cyclic word_at key_at order is_order many ordinal column words keys graph_of from to joins as_model rule1 rule2 rule3 rule4 rule5 rule6 rule7 rule8 rule9 rule10 rule11 holds places place_of applies lowest judge_from read_of joined type_of vertex_of edge_of file_of wrote_of pieces feed blank fields digit numeral value_from value numerals numbers line_at ended begun tasks count_line within task_line skipped fits faulty lines_due fault_at outside fault_of time_of before_of edge_said that wcet_said wcets_of edges_said says read_stg_of
answers = (refl, (refl, (refl, (refl, (refl, (refl, (refl, (refl, (refl, (refl, (refl, (refl, (refl, tt)))))))))))))

-- ---- writing

-- writing the text of the file, with so many bytes of room, answers so
pub record WriteRow : Type 0 where
  pub file : List ℕ
  pub room : ℕ
  pub answer : Wrote

abbrev pub WriteRight : WriteRow → Type 0
WriteRight r = write_stg_of r.file r.room ≡ r.answer

-- the entry, a task of time 5 and the exit, one after the other
abbrev written : WriteRow
written = record {
  file = 84 ∷ 0 ∷ 1 ∷ 0 ∷ 0 ∷ 0 ∷ 0 ∷ 0 ∷ 86 ∷ 0 ∷ 0 ∷ 0 ∷ 0 ∷ 0 ∷ 0 ∷ 0 ∷ 86 ∷ 1 ∷ 0 ∷ 0 ∷ 5 ∷ 0 ∷ 0 ∷ 0 ∷ 86 ∷ 2 ∷ 0 ∷ 0 ∷ 0 ∷ 0 ∷ 0 ∷ 0 ∷ 69 ∷ 0 ∷ 1 ∷ 0 ∷ 0 ∷ 0 ∷ 0 ∷ 0 ∷ 69 ∷ 1 ∷ 2 ∷ 0 ∷ 0 ∷ 0 ∷ 0 ∷ 0 ∷ [];
  room = 24;
  answer = Bytes 24;
}

-- one byte too little
abbrev no-room-left : WriteRow
no-room-left = record {
  file = 84 ∷ 0 ∷ 1 ∷ 0 ∷ 0 ∷ 0 ∷ 0 ∷ 0 ∷ 86 ∷ 0 ∷ 0 ∷ 0 ∷ 0 ∷ 0 ∷ 0 ∷ 0 ∷ 86 ∷ 1 ∷ 0 ∷ 0 ∷ 5 ∷ 0 ∷ 0 ∷ 0 ∷ 86 ∷ 2 ∷ 0 ∷ 0 ∷ 0 ∷ 0 ∷ 0 ∷ 0 ∷ 69 ∷ 0 ∷ 1 ∷ 0 ∷ 0 ∷ 0 ∷ 0 ∷ 0 ∷ 69 ∷ 1 ∷ 2 ∷ 0 ∷ 0 ∷ 0 ∷ 0 ∷ 0 ∷ [];
  room = 23;
  answer = Refused (record { number = 15; place = 0 });
}

-- fewer than three vertices
abbrev two-vertices : WriteRow
two-vertices = record {
  file = 84 ∷ 0 ∷ 1 ∷ 0 ∷ 0 ∷ 0 ∷ 0 ∷ 0 ∷ 86 ∷ 0 ∷ 0 ∷ 0 ∷ 0 ∷ 0 ∷ 0 ∷ 0 ∷ 86 ∷ 1 ∷ 0 ∷ 0 ∷ 0 ∷ 0 ∷ 0 ∷ 0 ∷ 69 ∷ 0 ∷ 1 ∷ 0 ∷ 0 ∷ 0 ∷ 0 ∷ 0 ∷ [];
  room = 99;
  answer = Refused (record { number = 24; place = 0 });
}

-- another source than the first vertex
abbrev two_sources : WriteRow
two_sources = record {
  file = 84 ∷ 0 ∷ 1 ∷ 0 ∷ 0 ∷ 0 ∷ 0 ∷ 0 ∷ 86 ∷ 0 ∷ 0 ∷ 0 ∷ 0 ∷ 0 ∷ 0 ∷ 0 ∷ 86 ∷ 1 ∷ 0 ∷ 0 ∷ 5 ∷ 0 ∷ 0 ∷ 0 ∷ 86 ∷ 2 ∷ 0 ∷ 0 ∷ 0 ∷ 0 ∷ 0 ∷ 0 ∷ 69 ∷ 0 ∷ 2 ∷ 0 ∷ 0 ∷ 0 ∷ 0 ∷ 0 ∷ 69 ∷ 1 ∷ 2 ∷ 0 ∷ 0 ∷ 0 ∷ 0 ∷ 0 ∷ [];
  room = 99;
  answer = Refused (record { number = 24; place = 0 });
}

-- another sink than the last vertex
abbrev two_sinks : WriteRow
two_sinks = record {
  file = 84 ∷ 0 ∷ 1 ∷ 0 ∷ 0 ∷ 0 ∷ 0 ∷ 0 ∷ 86 ∷ 0 ∷ 0 ∷ 0 ∷ 0 ∷ 0 ∷ 0 ∷ 0 ∷ 86 ∷ 1 ∷ 0 ∷ 0 ∷ 5 ∷ 0 ∷ 0 ∷ 0 ∷ 86 ∷ 2 ∷ 0 ∷ 0 ∷ 0 ∷ 0 ∷ 0 ∷ 0 ∷ 69 ∷ 0 ∷ 1 ∷ 0 ∷ 0 ∷ 0 ∷ 0 ∷ 0 ∷ 69 ∷ 0 ∷ 2 ∷ 0 ∷ 0 ∷ 0 ∷ 0 ∷ 0 ∷ [];
  room = 99;
  answer = Refused (record { number = 24; place = 0 });
}

-- the first vertex has a time, and there is no room either: 24 before 15
abbrev first-time : WriteRow
first-time = record {
  file = 84 ∷ 0 ∷ 1 ∷ 0 ∷ 0 ∷ 0 ∷ 0 ∷ 0 ∷ 86 ∷ 0 ∷ 0 ∷ 0 ∷ 1 ∷ 0 ∷ 0 ∷ 0 ∷ 86 ∷ 1 ∷ 0 ∷ 0 ∷ 5 ∷ 0 ∷ 0 ∷ 0 ∷ 86 ∷ 2 ∷ 0 ∷ 0 ∷ 0 ∷ 0 ∷ 0 ∷ 0 ∷ 69 ∷ 0 ∷ 1 ∷ 0 ∷ 0 ∷ 0 ∷ 0 ∷ 0 ∷ 69 ∷ 1 ∷ 2 ∷ 0 ∷ 0 ∷ 0 ∷ 0 ∷ 0 ∷ [];
  room = 0;
  answer = Refused (record { number = 24; place = 0 });
}

-- the last vertex has a time
abbrev last-time : WriteRow
last-time = record {
  file = 84 ∷ 0 ∷ 1 ∷ 0 ∷ 0 ∷ 0 ∷ 0 ∷ 0 ∷ 86 ∷ 0 ∷ 0 ∷ 0 ∷ 0 ∷ 0 ∷ 0 ∷ 0 ∷ 86 ∷ 1 ∷ 0 ∷ 0 ∷ 5 ∷ 0 ∷ 0 ∷ 0 ∷ 86 ∷ 2 ∷ 0 ∷ 0 ∷ 1 ∷ 0 ∷ 0 ∷ 0 ∷ 69 ∷ 0 ∷ 1 ∷ 0 ∷ 0 ∷ 0 ∷ 0 ∷ 0 ∷ 69 ∷ 1 ∷ 2 ∷ 0 ∷ 0 ∷ 0 ∷ 0 ∷ 0 ∷ [];
  room = 99;
  answer = Refused (record { number = 24; place = 0 });
}

-- one vertex, and no type: 4 before 24
abbrev no_file : WriteRow
no_file = record {
  file = 86 ∷ 0 ∷ 0 ∷ 0 ∷ 1 ∷ 0 ∷ 0 ∷ 0 ∷ [];
  room = 0;
  answer = Refused (record { number = 4; place = 0 });
}

abbrev pub write-rows : List WriteRow
write-rows = written ∷ no-room-left ∷ two-vertices ∷ two_sources ∷ two_sinks ∷ first-time ∷ last-time ∷ no_file ∷ []

abbrev pub AllWritten : (WriteRow → Type 0) → List WriteRow → Type 0
AllWritten P [] = Unit {0}
AllWritten P (r ∷ l) = P r × AllWritten P l

pub write_answers : AllWritten WriteRight write-rows
unfolding first count any table padded source sink walks cyclic word_at key_at order is_order many ordinal column words keys graph_of from to joins as_model rule1 rule2 rule3 rule4 rule5 rule6 rule7 rule8 rule9 rule10 rule11 holds places place_of applies lowest judge_from read_of joined that digits_of decimal spaced line_of before task_of task_line_of lay_out_of text_of other_source other_sink other_ends_of write_of write_stg_of
write_answers = (refl, (refl, (refl, (refl, (refl, (refl, (refl, (refl, tt))))))))
