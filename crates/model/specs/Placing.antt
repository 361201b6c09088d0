-- A schedule that names its cores: one that "gives a stage one core at a time and a core one stage, and at every tick leaves no core of a kind
-- idle while a ready stage of that kind waits". A stage is a vertex.
--
-- WorkConserving counts the vertices that run; a placing says of each core which vertex it runs. What it says of a kind, a core or a vertex that
-- the graph doesn't have is never read. The two readings are one (proofs/Cores): a placing that leaves no core idle is a work-conserving
-- schedule once the names are dropped, and every work-conserving schedule can be given cores.
--
--   Placing               the times, and in which tick which core of which kind runs which vertex
--   Runs G P t s j v      in tick t, core j of kind s runs v
--   counted G P           the schedule without the names: a vertex runs in a tick where some core runs it
--   Idle G P t s j        in tick t, core j of kind s runs nothing
--   Waiting G P t v       v is ready at the instant t, and in tick t no core runs it
--   NoneIdle G P          cores run ready vertices of their kind; a vertex has one core at a time and a core one vertex; and no core of a kind
--                         is idle while a ready vertex of that kind waits
--   Same G S R            S and R give the graph's vertices the same times and run the same of them in each tick
--   GivenCores G S        cores can be named for S: a placing that leaves none idle is the same as S once the names are dropped
use Rattle.std.specs.Prelude.{◌≡◌, Bool, true, ℕ, ◌<◌}
use Rattle.model.specs.Places.{any}
use Rattle.model.specs.Graph.{Graph}
use Rattle.model.specs.Schedule.{Schedule, left, Ready}

pub record Placing : Type 0 where
  pub time : ℕ → ℕ
  -- tick, kind, core of the kind, vertex
  pub on : ℕ → ℕ → ℕ → ℕ → Bool

pub record Runs (G : Graph) (P : Placing) (t s j v : ℕ) : Type 0 where
  pub kind_known : s < G.kinds
  pub core_known : j < G.cores s
  pub vertex_known : v < G.n
  pub there : P.on t s j v ≡ true

unfoldable pub counted : Graph → Placing → Schedule
counted G P = record { time = P.time; runs = λ t v. any (λ s. any (λ j. P.on t s j v) (G.cores s)) G.kinds }

pub record Idle (G : Graph) (P : Placing) (t s j : ℕ) : Type 0 where
  pub kind_known : s < G.kinds
  pub core_known : j < G.cores s
  pub runs_none : (v : ℕ) → Runs G P t s j v → ⊥

pub record Waiting (G : Graph) (P : Placing) (t v : ℕ) : Type 0 where
  pub vertex_known : v < G.n
  pub is_ready : Ready G (left (counted G P) t) v
  pub run_by_none : (s j : ℕ) → Runs G P t s j v → ⊥

-- the last three are the sentence; the first two are what it takes for granted of a core: that it runs ready stages, and those of its kind
pub record NoneIdle (G : Graph) (P : Placing) : Type 0 where
  pub runs_ready : {t s j v : ℕ} → Runs G P t s j v → Ready G (left (counted G P) t) v
  pub own_kind : {t s j v : ℕ} → Runs G P t s j v → G.kind v ≡ s
  pub one_core : {t s j k v : ℕ} → Runs G P t s j v → Runs G P t s k v → j ≡ k
  pub one_stage : {t s j u v : ℕ} → Runs G P t s j u → Runs G P t s j v → u ≡ v
  pub none_idle : {t s j v : ℕ} → Idle G P t s j → Waiting G P t v → G.kind v ≡ s → ⊥

pub record Same (G : Graph) (S R : Schedule) : Type 0 where
  pub time : (v : ℕ) → v < G.n → S.time v ≡ R.time v
  pub runs : (t v : ℕ) → v < G.n → S.runs t v ≡ R.runs t v

pub record GivenCores (G : Graph) (S : Schedule) : Type 0 where
  pub placing : Placing
  pub none_idle : NoneIdle G placing
  pub same : Same G S (counted G placing)
