-- No refusal has number 0, so that number 0 is given exactly where nothing is refused; and none has number 12.
use Rattle.std.specs.Prelude.{Ok, Err}
use mathlib.Core.Path.{◌≡◌, refl, sym, ap, ◌∙◌}
use mathlib.Core.Logic.{◌↔◌}
use mathlib.Core.List.{List}
use mathlib.Core.Bool.{Bool, true, false}
use Prim.Native.Nat.{ℕ, suc, ◌+◌, ◌≤◌, ◌<◌}
use native.Mathlib.Omega.{arith}
use lib.Dec.{eqb, ltb, lit<}
use lib.ListN.{length}
use Rattle.model.specs.Places.{pick, first}
use Rattle.model.specs.Graph as model
use Rattle.graph.specs.Judge.{read_of, Rightly}
use Rattle.graph.specs.Said.{of_answer}
use Rattle.graph.specs.declared.Refusal.{Refusal}
use Rattle.graph.specs.declared.Graph.{Graph}
use Rattle.graph.specs.Answer.{Answer}
use Rattle.graph.specs.Answer.{Accepted, Refused}
use Rattle.graph.proofs.Accepted.{refused_rightly}
use Rattle.writer.specs.Lists.{Lists}
use Rattle.writer.specs.Write.{of_wrote}
use Rattle.writer.specs.Wrote.{Wrote}
use Rattle.writer.specs.Wrote.{Bytes as Wrote-bytes, Refused as NotWritten}
use Rattle.bounds.specs.Answers.{of_pathed, PathIn, narrow, found, PathOf, refused, accepted}
use Rattle.bounds.specs.Pathed.{Pathed}
use Rattle.bounds.specs.Pathed.{Vertices, Refused as NoPath}
use Rattle.gains.specs.Answers as gains
use Rattle.gains.specs.Gained.{Gained}
use Rattle.gains.specs.Gained.{Vertices as Gains, Refused as NoGains}
use Rattle.tick.specs.declared.Run.{Run}
use Rattle.tick.specs.declared.Ticked.{Ticked}
use Rattle.tick.specs.Report.{Report}
use Rattle.tick.specs.declared.Step.TheVariants as steps
use Rattle.tick.specs.Report.{Moved, Done, Refused as NoTick}
use Rattle.tick.specs.Run.{over, ticked_of, of_report}
use Rattle.tick.specs.Suits.{suits}
use Rattle.times.specs.Times.{too_long_of, judge_times}
use Rattle.schedule.specs.Start.{started_on, start_beside, start_after, start_of}
use Rattle.schedule.specs.Tick.{tick_on_of, tick_after, tick_of}
use Rattle.leaps.specs.Finishes.{finish_of}
use Rattle.schedule.specs.Whole.{of_played, play_in, play_on_of, play_beside, play_after, play_of}
use Rattle.schedule.specs.Played.{Played}
use Rattle.schedule.specs.Played.{Finish, Refused as NoRun}
use Rattle.claims.specs.Claims.{WriteAnswered}
use Rattle.claims.specs.Claims as claims

-- ---- of each kind of answer: where a refusal's number is above 0

pub zero-answer : (a : Answer) → ((x : Refusal) → a ≡ Refused x → 0 < x.number) → ((of_answer a).number ≡ 0) ↔ ((x : Refusal) → a ≡ Refused x → ⊥)
zero-answer (Ok _) h = (λ z x e. let c : ◌≡◌ {A = ℕ} 0 1 = cc in omega arith, λ f. refl)
zero-answer (Err r) h = (λ z. absurd (omega (arith, h r refl)), λ f. absurd (f r refl))

pub zero-wrote : (w : Wrote) → ((x : Refusal) → w ≡ NotWritten x → 0 < x.number) → ((of_wrote w).number ≡ 0) ↔ ((x : Refusal) → w ≡ NotWritten x → ⊥)
zero-wrote (Ok size) h = (λ z x e. let c : ◌≡◌ {A = ℕ} 0 1 = cc in omega arith, λ f. refl)
zero-wrote (Err r) h = (λ z. absurd (omega (arith, h r refl)), λ f. absurd (f r refl))

pub zero_pathed : (p : Pathed) → ((x : Refusal) → p ≡ NoPath x → 0 < x.number) → ((of_pathed p).number ≡ 0) ↔ ((x : Refusal) → p ≡ NoPath x → ⊥)
zero_pathed (Ok n) h = (λ z x e. let c : ◌≡◌ {A = ℕ} 0 1 = cc in omega arith, λ f. refl)
zero_pathed (Err r) h = (λ z. absurd (omega (arith, h r refl)), λ f. absurd (f r refl))

pub zero-report : (t : Report) → ((x : Refusal) → t ≡ NoTick x → 0 < x.number) → ((of_report t).number ≡ 0) ↔ ((x : Refusal) → t ≡ NoTick x → ⊥)
zero-report (Ok steps.Moved) h = (λ z x e. let c : ◌≡◌ {A = ℕ} 0 1 = cc in omega arith, λ f. refl)
zero-report (Ok steps.Done) h = (λ z x e. let c : ◌≡◌ {A = ℕ} 0 1 = cc in omega arith, λ f. refl)
zero-report (Err r) h = (λ z. absurd (omega (arith, h r refl)), λ f. absurd (f r refl))

pub zero-played : (p : Played) → ((x : Refusal) → p ≡ NoRun x → 0 < x.number) → ((of_played p).number ≡ 0) ↔ ((x : Refusal) → p ≡ NoRun x → ⊥)
zero-played (Ok t) h = (λ z x e. let c : ◌≡◌ {A = ℕ} 0 1 = cc in omega arith, λ f. refl)
zero-played (Err r) h = (λ z. absurd (omega (arith, h r refl)), λ f. absurd (f r refl))

-- ---- what each entry says no with

pub record Sayable (n : ℕ) : Type 0 where
  pub above : 0 < n
  pub not_12 : n ≡ 12 → ⊥

later : {n : ℕ} → 12 < n → Sayable n
later l = record { above = omega arith; not_12 = λ e. omega arith }

judged : {a : ℕ} {s : List ℕ} {r : Refusal} → Rightly (suc a) s r → Sayable r.number
judged h = record { above = omega (arith, h.least); not_12 = λ e. omega (arith, h.known) }

pub read-says : (s : List ℕ) (x : Refusal) → (read_of s).answer ≡ Refused x → Sayable x.number
read-says s x e = judged (refused_rightly s x e)

pub write-says : {g : Lists} {old new : List ℕ} {w : Wrote} → WriteAnswered g old w new → (x : Refusal) → w ≡ NotWritten x → Sayable x.number
write-says (claims.unlike n) x e = let q : record { number = 13; place = 0 } ≡ x = cc in rw (← q) (later (lit< tt))
write-says (claims.refused {r = r} q h) x e = let p : r ≡ x = cc in rw (← p) (judged h)
write-says (claims.narrow q n l) x e = let p : record { number = 15; place = 0 } ≡ x = cc in rw (← p) (later (lit< tt))
write-says (claims.wrote q n l) x e = absurd (let c : ◌≡◌ {A = ℕ} 0 1 = cc in omega arith)

pub path-says : {s old new : List ℕ} {p : Pathed} → PathOf s old p new → (x : Refusal) → p ≡ NoPath x → Sayable x.number
path-says {s} (refused {x = r} e) x q = read-says s x (cc)
path-says (accepted ok (narrow l)) x q = let p : record { number = 15; place = 0 } ≡ x = cc in rw (← p) (later (lit< tt))
path-says (accepted ok (found room h)) x q = absurd (let c : ◌≡◌ {A = ℕ} 0 1 = cc in omega arith)

gained-says : {G : model.Graph} {old new : List ℕ} {g : Gained} → gains.GainedIn G old g new → (x : Refusal) → g ≡ NoGains x → Sayable x.number
gained-says (gains.narrow l) x q = let p : record { number = 15; place = 0 } ≡ x = cc in rw (← p) (later (lit< tt))
gained-says (gains.found l room size h) x q = absurd (let c : ◌≡◌ {A = ℕ} 0 1 = cc in omega arith)

pub gains-says : {s old new : List ℕ} {g : Gained} → gains.GainsOf s old g new → (x : Refusal) → g ≡ NoGains x → Sayable x.number
gains-says {s} (gains.refused {x = r} e) x q = read-says s x (cc)
gains-says (gains.accepted ok h) x q = gained-says h x q

pub altered-says : {s old new : List ℕ} {v y : ℕ} {g : Gained} → gains.AlteredOf s v y old g new → (x : Refusal) → g ≡ NoGains x → Sayable x.number
altered-says {s} (gains.refused {y = r} e) x q = read-says s x (cc)
altered-says {s} {old} {v = v} {y = y} (gains.accepted ok h) x q = go h x q
  where
    seven : Sayable 7
    seven = record { above = lit< tt; not_12 = λ e. omega arith }

    go : {new : List ℕ} {g : Gained} → gains.AlteredIn (read_of s).graph v y old g new → (x : Refusal) → g ≡ NoGains x → Sayable x.number
    go (gains.no_vertex l) x q = let p : record { number = 7; place = 0 } ≡ x = cc in rw (← p) seven
    go (gains.too_long l m) x q = let p : record { number = 7; place = (read_of s).graph.kinds + v } ≡ x = cc in rw (← p) seven
    go (gains.altered l m h) x q = gained-says h x q

times-says : (g : Graph) (e : List ℕ) (x : Refusal) → judge_times g e ≡ Refused x → Sayable x.number
unfolding judge_times
times-says g e x h = go (eqb (length e) g.n) (ltb (first (too_long_of g.wcet e) g.n) g.n) h
  where
    go : (a b : Bool) → ◌≡◌ {A = Answer} (pick a (pick b (Refused (record { number = 14; place = first (too_long_of g.wcet e) g.n })) Accepted) (Refused (record { number = 13; place = 0 }))) (Refused x)
        → Sayable x.number
    go true true q = let p : record { number = 14; place = first (too_long_of g.wcet e) g.n } ≡ x = cc in rw (← p) (later (lit< tt))
    go true false q = absurd (let c : ◌≡◌ {A = ℕ} 0 1 = cc in omega arith)
    go false b q = let p : record { number = 13; place = 0 } ≡ x = cc in rw (← p) (later (lit< tt))

pub start-says : (s e : List ℕ) (x : Refusal) → (start_of s e).answer ≡ Refused x → Sayable x.number
unfolding start_of started_on
start-says s e x h = after (read_of s).answer refl h
  where
    beside : (a : Answer) → judge_times (read_of s).graph e ≡ a → (start_beside a (read_of s).graph e).answer ≡ Refused x → Sayable x.number
    beside (Ok _) q h = absurd (let c : ◌≡◌ {A = ℕ} 0 1 = cc in omega arith)
    beside (Err r) q h = times-says (read_of s).graph e x (q ∙ h)

    after : (a : Answer) → (read_of s).answer ≡ a → (start_after a (read_of s).graph e).answer ≡ Refused x → Sayable x.number
    after (Ok _) q h = beside (judge_times (read_of s).graph e) refl h
    after (Err r) q h = read-says s x (q ∙ h)

pub tick-says : (s : List ℕ) (r : Run) (x : Refusal) → (tick_of s r).report ≡ NoTick x → Sayable x.number
unfolding tick_of tick_on_of ticked_of
tick-says s r x h = after (read_of s).answer refl h
  where
    -- a record that suits or not, a run that is over or not
    answer : Bool → Bool → Run → Ticked
    answer a b n =
        pick a (pick b (record { report = Done; run = r }) (record { report = Moved; run = n })) (record { report = NoTick (record { number = 16; place = 0 }); run = r })

    ticked : (a b : Bool) (n : Run) → (answer a b n).report ≡ NoTick x → Sayable x.number
    ticked true true n q = absurd (let c : ◌≡◌ {A = ℕ} 0 1 = cc in omega arith)
    ticked true false n q = absurd (let c : ◌≡◌ {A = ℕ} 0 1 = cc in omega arith)
    ticked false b n q = let p : record { number = 16; place = 0 } ≡ x = cc in rw (← p) (later (lit< tt))

    after : (a : Answer) → (read_of s).answer ≡ a → (tick_after a (read_of s).graph r).report ≡ NoTick x → Sayable x.number
    after (Ok _) q h = ticked (suits (read_of s).graph r) (over (read_of s).graph r) _ h
    after (Err y) q h = let p : y ≡ x = cc in read-says s x (q ∙ ap Refused p)

pub run-says : (s e : List ℕ) (m : ℕ) (x : Refusal) → play_of s e m ≡ NoRun x → Sayable x.number
unfolding play_of play_on_of play_in
run-says s e m x h = after (read_of s).answer refl h
  where
    roomed : (b : Bool) (t : ℕ) → ◌≡◌ {A = Played} (pick b (NoRun (record { number = 15; place = 0 })) (Finish (record { 0 = t }))) (NoRun x) → Sayable x.number
    roomed true t q = let p : record { number = 15; place = 0 } ≡ x = cc in rw (← p) (later (lit< tt))
    roomed false t q = absurd (let c : ◌≡◌ {A = ℕ} 0 1 = cc in omega arith)

    beside : (a : Answer) → judge_times (read_of s).graph e ≡ a → play_beside a (read_of s).graph e m ≡ NoRun x → Sayable x.number
    beside (Ok _) q h = roomed (ltb m (read_of s).graph.n) _ h
    beside (Err r) q h = let p : r ≡ x = cc in times-says (read_of s).graph e x (q ∙ ap Refused p)

    after : (a : Answer) → (read_of s).answer ≡ a → play_after a (read_of s).graph e m ≡ NoRun x → Sayable x.number
    after (Ok _) q h = beside (judge_times (read_of s).graph e) refl h
    after (Err y) q h = let p : y ≡ x = cc in read-says s x (q ∙ ap Refused p)

-- ---- so number 12 is given by no answer

pub never_answer : (a : Answer) → ((x : Refusal) → a ≡ Refused x → Sayable x.number) → (of_answer a).number ≡ 12 → ⊥
never_answer (Ok _) h z = omega arith
never_answer (Err r) h z = (h r refl).not_12 z

pub never_wrote : (w : Wrote) → ((x : Refusal) → w ≡ NotWritten x → Sayable x.number) → (of_wrote w).number ≡ 12 → ⊥
never_wrote (Ok size) h z = omega arith
never_wrote (Err r) h z = (h r refl).not_12 z

pub never_pathed : (p : Pathed) → ((x : Refusal) → p ≡ NoPath x → Sayable x.number) → (of_pathed p).number ≡ 12 → ⊥
never_pathed (Ok n) h z = omega arith
never_pathed (Err r) h z = (h r refl).not_12 z

pub never_gained : (g : Gained) → ((x : Refusal) → g ≡ NoGains x → Sayable x.number) → (gains.of_gained g).number ≡ 12 → ⊥
never_gained (Ok n) h z = omega arith
never_gained (Err r) h z = (h r refl).not_12 z

pub never_report : (t : Report) → ((x : Refusal) → t ≡ NoTick x → Sayable x.number) → (of_report t).number ≡ 12 → ⊥
never_report (Ok steps.Moved) h z = omega arith
never_report (Ok steps.Done) h z = omega arith
never_report (Err r) h z = (h r refl).not_12 z

pub never_played : (p : Played) → ((x : Refusal) → p ≡ NoRun x → Sayable x.number) → (of_played p).number ≡ 12 → ⊥
never_played (Ok t) h z = omega arith
never_played (Err r) h z = (h r refl).not_12 z
