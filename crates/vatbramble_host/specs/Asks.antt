-- Which asks of a main are done, and what main is told of them.
use Rattle.vatbramble_host.specs.declared.ask.Answer.{Answer}
use Rattle.vatbramble_host.specs.declared.ask.Answer.TheVariants as answer
use Rattle.vatbramble_host.specs.declared.ask.Ask.{Ask}
use Rattle.vatbramble_host.specs.declared.ask.Ask.TheVariants as ask
use Rattle.vatbramble_host.specs.declared.ask.CallId.{CallId}
use Rattle.vatbramble_host.specs.declared.ask.Refusal.{Refusal}
use Rattle.vatbramble_host.specs.declared.ask.SpawnId.{SpawnId}
use Rattle.vatbramble_host.specs.declared.ask.Refusal.TheVariants as refusal
use Rattle.vatbramble_host.specs.declared.asking.AskingMain.{AskingMain}
use Rattle.vatbramble_host.specs.declared.asking.Begun.{Begun}
use Rattle.std.specs.Prelude.{IfSome, IsSome, List, None, Some, false, length, slice_get, true, ℕ, ◌-◌, ◌<◌, ◌≡◌, ◌≤◌}
use Rattle.task_loop.specs.LoopCalls.{TakesWords, callee_of}
use Rattle.task_loop.specs.Says.{Says, unscripted}
use Rattle.task_loop.specs.declared.call.Func.{Func}
use Rattle.machine_data.specs.declared.component.Component.{Component}
use Rattle.machine_data.specs.declared.label.Label.TheVariants as label
use Rattle.machine_data.specs.declared.label.MainLabel.{MainLabel}
use Rattle.machine_data.specs.declared.label.MainLabel.TheVariants as main_label
use Rattle.machine_rules.specs.Scripts.{export_at}
use Rattle.task_store.specs.Spawned.{IsSpawnedIn, spawned_later}
use Rattle.ops_turns.specs.Later.{WorksLast}
use Rattle.task_store.specs.declared.spawn.SpawnHandle.{SpawnHandle}
use Rattle.ops_turns.specs.declared.mains.MainStep.{MainStep}
use Rattle.core_primitives.specs.StateView.{StateView}
use Rattle.ops_turns.specs.declared.mains.MainStep.TheVariants as step

-- a call of the export with so many words may be started: there is a number for it, too
pub record MayStart (c : Component) (begun : List Begun) (f : Func) (count : ℕ) : Type 0 where
  pub takes : TakesWords c f count
  pub few : count ≤ 16
  pub numbered : length begun < 4294967295

-- the call is one of these, and its result wasn't taken yet
pub record MayFinish (begun : List Begun) (k : CallId) : Type 0 where
  pub there : k.place < length begun
  pub untaken : IfSome (slice_get begun k.place) (λ b. b.finished ≡ false)

-- what the ask names is there
abbrev pub IsAdmitted : {D : Type 0} → Component → AskingMain D → Ask → Type 0
IsAdmitted c m (ask.Start f words) = MayStart c m.calls.items f words.count
IsAdmitted c m (ask.Finish k) = MayFinish m.calls.items k
IsAdmitted c m (ask.Ready i) = IsSome (slice_get c.instances i.index)
IsAdmitted c m (ask.Spawn kind) = length m.spawns.items < 4294967295
IsAdmitted c m (ask.Abort w) = w.place < length m.spawns.items
IsAdmitted c m (ask.Await w) = w.place < length m.spawns.items
IsAdmitted c m _ = Unit {0}

-- why a call of the export with so many words may not be started
abbrev pub IsStartCause : Component → List Begun → Func → ℕ → Refusal → Type 0
IsStartCause c begun f count refusal.NoExport = export_at c (callee_of f) ≡ None
IsStartCause c begun f count refusal.WrongWords = IfSome (export_at c (callee_of f)) (λ e. count ≡ e.params → 16 < count)
IsStartCause c begun f count refusal.TooManyCalls = 4294967295 ≤ length begun
IsStartCause c begun f count _ = ⊥

-- why a call may not be finished
abbrev pub IsFinishCause : List Begun → CallId → Refusal → Type 0
IsFinishCause begun k refusal.NoCall = length begun ≤ k.place
IsFinishCause begun k refusal.IsFinished = IfSome (slice_get begun k.place) (λ b. b.finished ≡ true)
IsFinishCause begun k _ = ⊥

-- why an instance may not be waited for
abbrev pub IsReadyCause : Component → ℕ → Refusal → Type 0
IsReadyCause c i refusal.NoInstance = slice_get c.instances i ≡ None
IsReadyCause c i _ = ⊥

-- why a further work may not be spawned
abbrev pub IsSpawnCause : List SpawnHandle → Refusal → Type 0
IsSpawnCause spawns refusal.TooManySpawns = 4294967295 ≤ length spawns
IsSpawnCause spawns _ = ⊥

-- why a work may not be named
abbrev pub IsWorkCause : List SpawnHandle → SpawnId → Refusal → Type 0
IsWorkCause spawns w refusal.NoSpawn = length spawns ≤ w.place
IsWorkCause spawns w _ = ⊥

-- why the ask is refused
abbrev pub IsCause : {D : Type 0} → Component → AskingMain D → Ask → Refusal → Type 0
IsCause c m (ask.Start f words) why = IsStartCause c m.calls.items f words.count why
IsCause c m (ask.Finish k) why = IsFinishCause m.calls.items k why
IsCause c m (ask.Ready i) why = IsReadyCause c i.index why
IsCause c m (ask.Spawn kind) why = IsSpawnCause m.spawns.items why
IsCause c m (ask.Abort w) why = IsWorkCause m.spawns.items w why
IsCause c m (ask.Await w) why = IsWorkCause m.spawns.items w why
IsCause c m _ why = ⊥

-- what is told of the op that this label shows
abbrev pub answer_to : MainLabel → Answer
answer_to (main_label.Start k n) = answer.Started (record { place = k - 1 })
answer_to (main_label.StartRefused why k) = answer.NotStarted why
answer_to (main_label.Finish k v) = answer.Finished v
answer_to (main_label.Spawn k i) = answer.Spawned (record { place = k - 1 })
answer_to (main_label.Abort p k) = answer.Aborted
answer_to (main_label.Await k) = answer.Ended
answer_to main_label.Quiet = answer.Quiet
answer_to main_label.Ready = answer.Ready
answer_to _ = answer.Pended

-- of an op that was done, main is told what its label shows
abbrev pub IsTold : MainStep → Answer → Type 0
IsTold (step.Did (label.Main l)) last = last ≡ answer_to l
IsTold _ last = Unit {0}

-- main's works were spawned in the store
abbrev pub KnowsSpawns : List SpawnHandle → StateView → Type 0
KnowsSpawns spawns s = (k : ℕ) (h : SpawnHandle) → slice_get spawns k ≡ Some h → IsSpawnedIn h s

-- and are so once other steps were made
pub spawns_later : (spawns : List SpawnHandle) (s t : StateView) → WorksLast s t → KnowsSpawns spawns s → KnowsSpawns spawns t
spawns_later spawns s t last knows k h at = spawned_later h s t last (knows k h at)

-- that is what such a main says of its steps
abbrev pub asking_says : {D : Type 0} → Says (AskingMain D)
asking_says {D} = unscripted (λ m c. Unit {0}) (λ m s. KnowsSpawns m.spawns.items s) (λ m s step n t. IsTold step n.last)
