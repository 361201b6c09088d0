-- A count is coded alike, whatever is counted, and a finish whatever has ended.
use Rattle.std.specs.Prelude.{ℕ, Result, Ok, Err}
use mathlib.Core.Path.{◌≡◌, refl}
use Rattle.units.specs.declared.Ticks.{Ticks}
use Rattle.graph.specs.declared.Refusal.{Refusal}
use Rattle.codes.specs.Coded.{coded_count_of, coded_wrote_of, coded_path_of, coded_gains_of}
use Rattle.codes.specs.CodedRun.{coded_finish_of, coded_play_of, coded_replay_of}

pub wrote_counted : (r : Result ℕ Refusal) → coded_count_of r ≡ coded_wrote_of r
wrote_counted (Ok n) = refl
wrote_counted (Err x) = refl

pub path_counted : (r : Result ℕ Refusal) → coded_count_of r ≡ coded_path_of r
path_counted (Ok n) = refl
path_counted (Err x) = refl

pub gains_counted : (r : Result ℕ Refusal) → coded_count_of r ≡ coded_gains_of r
gains_counted (Ok n) = refl
gains_counted (Err x) = refl

pub play_finished : (r : Result Ticks Refusal) → coded_finish_of r ≡ coded_play_of r
play_finished (Ok t) = refl
play_finished (Err x) = refl

pub replay_finished : (r : Result Ticks Refusal) → coded_finish_of r ≡ coded_replay_of r
replay_finished (Ok t) = refl
replay_finished (Err x) = refl
