-- What aborters on other threads add to a run: two more steps, and a last round in which each spawned work is polled once more.
use Rattle.std.specs.Prelude.{Bool, List, None, Option, Some, [], false, if◌then◌else◌, length, nat_lt, true, ℕ, ◌&&◌, ◌==◌, ◌∷◌, ◌≡◌, ◌⊎◌}
use Rattle.machine_data.specs.declared.label.Label.{Label}
use Rattle.machine_data.specs.declared.outcome.Outcome.{Outcome}
use Rattle.machine_data.specs.declared.records.Turn.{Turn}
use Rattle.machine_data.specs.declared.records.Work.{Work}
use Rattle.machine_data.specs.declared.scenario.MainOpDef.{MainOpDef}
use Rattle.machine_data.specs.declared.scenario.ScenarioDef.{ScenarioDef}
use Rattle.machine_data.specs.declared.statuses.Phase.{Phase}
use Rattle.machine_data.specs.declared.label.Label.TheVariants as label
use Rattle.machine_data.specs.declared.label.LoopLabel.TheVariants as loop_label
use Rattle.machine_data.specs.declared.label.MainLabel.TheVariants as main_label
use Rattle.machine_data.specs.declared.records.Turn.TheVariants as turn
use Rattle.machine_data.specs.declared.scenario.MainOpDef.TheVariants as main_op
use Rattle.machine_data.specs.declared.statuses.Phase.TheVariants as phase
use Rattle.machine_data.specs.Core.{Core, Main, MainPlace, Scripted, State, Unscripted}
use Rattle.machine_data.specs.Read.{is_live, is_nil, phase_of}
use Rattle.machine_rules.specs.MainOps.{advanced_main, is_spawn, is_spawn_caller, op_at, spawned_at}
use Rattle.machine_rules.specs.Outcome.{is_at_rest, last_outcome, open_outcome}
use Rattle.machine_rules.specs.Run.{opens}
use Rattle.machine_rules.specs.Stalled.{Setting, is_stalled}
use Rattle.machine_rules.specs.Step.{Step}
use Rattle.machine_rules.specs.Turns.{at_turn, goes_to}
use Rattle.machine_rules.specs.Works.{first_number, next_polled, poll_ends}

-- ---- The two steps

abbrev pub is_running : Phase → Bool
is_running phase.Running = true
is_running _ = false

-- the spawned work is running, for all that the run itself has done
abbrev pub is_running_spawn : ℕ → Core → Bool
is_running_spawn i s = is_spawn i s && is_running (phase_of i s)

-- where the work that is polled next is such a one, the poll may find that an aborter has aborted it: it ends, without a value
abbrev pub FindsAbort : State → Option ℕ → Label → State → Type 0
FindsAbort s None l t = ⊥
FindsAbort s (Some i) l t =
    (is_running_spawn i s.core ≡ true)
    × ((l ≡ label.Loop (loop_label.FutureAborted i)) × (t ≡ goes_to s (poll_ends i None s.core) (turn.Take true)))

abbrev pub AbortedAt : State → Turn → Label → State → Type 0
AbortedAt s (turn.Futures n) l t = FindsAbort s (next_polled n s.core) l t
AbortedAt s p l t = ⊥

abbrev pub requested : ℕ → Label
requested k = label.Main (main_label.Abort phase.AbortRequested k)

-- where main aborts a running spawn, it may find that an aborter has aborted it: nothing else is changed
abbrev pub FindsRequest : State → MainPlace → Option MainOpDef → Label → State → Type 0
FindsRequest s p (Some (main_op.Abort k)) l t =
    (is_running (phase_of (spawned_at p k) s.core) ≡ true)
    × ((l ≡ requested k)
    × (t ≡ at_turn s s.core (Scripted (advanced_main (main_op.Abort k) (main_label.Abort phase.AbortRequested k) p)) turn.Main))
FindsRequest s p o l t = ⊥

abbrev pub RequestedBy : Setting → State → Main → Label → State → Type 0
RequestedBy x s (Scripted p) l t = FindsRequest s p (op_at x.script p) l t
RequestedBy x s Unscripted l t = ⊥

abbrev pub RequestedAt : Setting → State → Turn → Label → State → Type 0
RequestedAt x s turn.Main l t = RequestedBy x s s.main l t
RequestedAt x s p l t = ⊥

-- a step beside aborters: one of the machine, or one that finds an abort of theirs
unfoldable pub StepBeside : Setting → State → Label → State → Type 0
StepBeside x s l t = Step x s l t ⊎ (AbortedAt s s.turn l t ⊎ RequestedAt x s s.turn l t)

-- ---- The last round

-- Whether the last round is still to come.
pub data Round : Type 0 where
  -- no scenario without an aborter line has one
  Never : Round
  Due : Round
  -- the spawned works with numbers up to `polled` were polled in it, and whether it has found an abort
  Going : (polled : ℕ) → (found : Bool) → Round
  Made : Round

-- A state of a run beside aborters.
pub record Wide : Type 0 where
  pub state : State
  pub round : Round

abbrev pub wide : State → Round → Wide
wide s r = record { state = s; round = r }

abbrev pub is_live_spawn : Work → Bool
is_live_spawn w = is_live w && is_spawn_caller w.caller

-- the live spawned works with numbers above n, in order of number
abbrev pub live_spawns_after : ℕ → List (ℕ × Work) → List ℕ
live_spawns_after n [] = []
live_spawns_after n (e ∷ es) = if is_live_spawn e.1 && nat_lt n e.0 then e.0 ∷ live_spawns_after n es else live_spawns_after n es

-- the spawned work that is polled next in the round, where those up to n were
unfoldable pub next_spawn : ℕ → Core → Option ℕ
next_spawn n s = first_number (live_spawns_after n s.works.list)

-- the round begins in the first stalled state
abbrev pub begun : Bool → Round
begun true = Going 0 false
begun false = Due

abbrev pub begun_at : Setting → State → Round → Round
begun_at x s Due = begun (is_stalled x s)
begun_at x s r = r

-- the next turn follows where an abort was found, else all stays as it was
abbrev pub after_round : Bool → State → State
after_round true s = goes_to s s.core turn.Main
after_round false s = s

-- past the last spawned work the round is made
abbrev pub past_last : State → ℕ → Bool → Option ℕ → Wide
past_last s n found None = wide (after_round found s) Made
past_last s n found (Some i) = wide s (Going n found)

abbrev pub ended_round : State → Round → Wide
ended_round s (Going n found) = past_last s n found (next_spawn n s.core)
ended_round s r = wide s r

-- the state, once the round has begun or ended where it is to
unfoldable pub settled : Setting → State → Round → Wide
settled x s r = ended_round s (begun_at x s r)

-- In the round the next spawned work is polled: it pends, or is found to have been aborted. The turn stays.
abbrev pub RoundPolls : Setting → State → Bool → Option ℕ → Label → Wide → Type 0
RoundPolls x s found None l v = ⊥
RoundPolls x s found (Some i) l v =
    ((l ≡ label.Loop (loop_label.FuturePends i)) × (v ≡ settled x s (Going i found)))
    ⊎ ((is_running_spawn i s.core ≡ true) × ((l ≡ label.Loop (loop_label.FutureAborted i))
    × (v ≡ settled x (record s { core = poll_ends i None s.core }) (Going i true))))

abbrev pub StepsTo : Setting → State → Round → Label → Wide → Type 0
StepsTo x s r l v = (t : State) × (StepBeside x s l t × (v ≡ settled x t r))

abbrev pub WideIn : Setting → State → Round → Label → Wide → Type 0
WideIn x s (Going n found) l v = RoundPolls x s found (next_spawn n s.core) l v
WideIn x s r l v = StepsTo x s r l v

-- From w a run beside aborters may show the label, and then is in v. A stalled state has begun the round: so no deadlock comes before it.
unfoldable pub WideStep : Setting → Wide → Label → Wide → Type 0
WideStep x w l v = WideIn x w.state w.round l v

-- ---- Runs

abbrev pub WideRun : Setting → Wide → List Label → Wide → Type 0
WideRun x w [] v = v ≡ w
WideRun x w (l ∷ ls) v = (mid : Wide) × (WideStep x w l mid × WideRun x mid ls v)

-- a scenario has a last round where it has an aborter line
abbrev pub round_of : ScenarioDef → Round
round_of x = if is_nil x.aborters then Never else Due

abbrev pub opens_wide : ScenarioDef → Wide
opens_wide x = wide (opens x) (round_of x)

-- ---- What a run has resulted in

-- no round is to come any more
abbrev pub is_past : Round → Bool
is_past Never = true
is_past Made = true
is_past _ = false

abbrev pub or_open : Option Outcome → Setting → Wide → List Label → ℕ → Option Outcome
or_open (Some o) x w labels steps = Some o
or_open None x w labels steps = open_outcome (is_past w.round && is_at_rest x w.state) (length labels == steps)

-- as of any run, but that it is idle only past the last round
unfoldable pub wide_outcome_of : Setting → Wide → List Label → ℕ → Option Outcome
wide_outcome_of x w labels steps = or_open (last_outcome labels) x w labels steps

abbrev pub IsWideOutcome : Setting → Wide → List Label → ℕ → Outcome → Type 0
IsWideOutcome x w labels steps o = wide_outcome_of x w labels steps ≡ Some o
