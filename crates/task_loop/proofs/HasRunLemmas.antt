-- What a call on a run gives, of what its turns gave.
use Rattle.laws_labels.specs.Own.{is_main_turn}
use Rattle.run_trace.specs.declared.yield_budget.YieldBudget.{YieldBudget}
use Rattle.ops_state.specs.declared.error.TaskError.{TaskError}
use Rattle.ops_state.specs.declared.error.TaskError.TheVariants as task_error
use Rattle.std.proofs.Common.{ap, ap₂, arith, drop, inl, inr, length-append, refl, subst, sym, ◌∙◌}
use Rattle.std.proofs.lemmas.List.{append_cancel_left}
use Rattle.std.specs.Prelude.{Bool, Err, List, None, Ok, Option, Result, Some, [], false, is_some, length, true, ℕ, ◌+◌, ◌<◌, ◌∷◌, ◌≡◌, ◌≤◌, ◌^◌, ◌⊎◌}
use Rattle.task_group.specs.Listeners.{Listeners, ToldListeners}
use Rattle.run_trace.specs.YieldBudget.{since_driven}
use Rattle.task_loop.proofs.DoesLemmas.{others_shown}
use Rattle.task_loop.proofs.DrivenLemmas.{leaves_counted, leaves_none}
use Rattle.task_loop.proofs.HookLemmas.{answered_after, knows_trapped, must_listen}
use Rattle.task_loop.proofs.LackLemmas.{tells_none}
use Rattle.task_loop.proofs.OutcomeLemmas.{never_failed, polled_never}
use Rattle.task_loop.proofs.RunPollLemmas.{outcome_there}
use Rattle.task_loop.proofs.RanLemmas.{nothing_ran, ran_computed, ran_more, ran_still, ran_told}
use Rattle.task_loop.proofs.StartLemmas.{trapped_hosts}
use Rattle.task_loop.proofs.TakenLemmas.{stands_adds}
use Rattle.task_loop.proofs.ToldLemmas.{asked_computed, groups_computed}
use Rattle.task_loop.specs.HasRun.{At, DrivesTo, FailsTurn, GoesTo, HasDriven, HasFailed, HasGone, HasLost, HasPolled, HasStopped, HasTurned, IsLost, IsStopped, Keeps, LacksTurn, MayRun, MayTurn, MayWant, PollsTo, RanTo, at, may_change, numbers, setting, state}
use Rattle.task_loop.specs.Hooked.{StopsTurn, hook_failed}
use Rattle.task_loop.specs.YieldBudgets.{LeavesYieldBudget}
use Rattle.task_loop.specs.Ran.{Ran}
use Rattle.task_loop.specs.RunPolls.{stop_answer}
use Rattle.task_loop.specs.Says.{Says}
use Rattle.task_loop.specs.Constants.{constants}
use Rattle.task_loop.specs.Told.{TellsSome, TurnTold, group_running}
use Rattle.task_loop.specs.declared.poll_methods.RunPoll.{RunPoll}
use Rattle.task_loop.specs.declared.run.Stop.{Stop}
use Rattle.task_loop.specs.declared.run.Stop.TheVariants as stop
use Rattle.machine_data.specs.Core.{State}
use Rattle.machine_data.specs.Write.{set_trapped}
use Rattle.machine_data.specs.declared.component.Component.{Component}
use Rattle.machine_data.specs.declared.component.HostDef.{HostDef}
use Rattle.machine_data.specs.declared.label.Label.{Label}
use Rattle.machine_data.specs.declared.outcome.Outcome.{Outcome}
use Rattle.machine_data.specs.declared.outcome.Outcome.TheVariants as outcome
use Rattle.machine_data.specs.declared.records.Turn.{Turn}
use Rattle.machine_data.specs.declared.records.Turn.TheVariants as turn
use Rattle.machine_data.specs.declared.scenario.MainOpDef.{MainOpDef}
use Rattle.machine_data.specs.declared.trap.Trap.TheVariants as trap
use Rattle.machine_rules.specs.Outcome.{IsOutcome, is_at_rest, last_outcome}
use Rattle.machine_rules.specs.Stalled.{Setting}
use Rattle.task_store.proofs.HostLemmas.{holds_same}
use Rattle.store_notices.specs.Moves.{finishes}
use Rattle.core_primitives.specs.Groups.{IsAsked, asked}
use Rattle.task_store.specs.Hosts.{HoldsHosts, held_by}
use Rattle.task_store.specs.declared.store.Store.{Store}
use Rattle.ops_turns.proofs.DriveLemmas.{on_begins, on_out_at, on_rests}
use Rattle.ops_turns.proofs.KeptLemmas.{core_in_order_after}
use Rattle.ops_turns.proofs.LaterLemmas.{last_by_works}
use Rattle.ops_turns.proofs.SteppedLemmas.{AddedTo, added_ends, added_more, added_none, added_open, added_over, outcome_told}
use Rattle.run_trace.specs.Traced.{Traced}
use Rattle.ops_turns.specs.Drive.{Computes, Drives, Drove, Going, IsOn, KeepsOn, StopsShort}
use Rattle.ops_turns.specs.Later.{SameWorks, WorksLast}
use Rattle.ops_turns.specs.StepResult.{Added, AddedOrNone, is_made, turn_of}
use Rattle.ops_turns.specs.Turn.{IsAtTurn, PendsIn, Turns, is_open, runs_in, setting_of, state_at}
use Rattle.ops_turns.specs.WellFormed.{IsWellFormed}
use Rattle.ops_turns.specs.declared.made.MadeStep.{MadeStep}
use Rattle.ops_turns.specs.declared.made.StepResult.{StepResult}
use Rattle.ops_turns.specs.declared.made.StepResult.TheVariants as stepped
use Rattle.core_primitives.specs.StateView.{StateView, Tags, on_core}

-- ---- The turns of the run

-- So many labels were added, of one run that goes on, and main and the store are such that a turn may be taken.
pub record HasCome {M T H G : Type 0} (says : Says M) (course : H → HostDef) (c : Component) (a b : At M T H G) (n : ℕ) : Type 0 where
  pub on : IsOn (setting says course c a) (state says course c a) a.trace (numbers says course c a) b.turn (says.part b.main) b.store.state b.trace n
  pub ran : RanTo says course c a b
  pub keeps : Keeps says a b
  pub suits : says.suits b.main c
  pub knows : says.knows b.main b.store.state
  pub works : HoldsHosts course b.store
  pub asked : IsAsked b.store.state

module _ {M T H G : Type 0} (says : Says M) (course : H → HostDef) (c : Component) where
  pub keeps_on : (a u v : At M T H G) → Keeps says a u → Keeps says u v → Keeps says a v
  keeps_on a u v k l = record { script = l.script ∙ k.script; idle = l.idle ∙ k.idle; constants = l.constants ∙ k.constants }

  setting_kept : (a u : At M T H G) → Keeps says a u → setting says course c u ≡ setting says course c a
  setting_kept a u k = ap₂ (λ (ops : List MainOpDef) (b : Bool). setting_of c ops b) k.script k.idle

  -- how the store is at the turn
  pub at_turn : (r : ℕ) (u : At M T H G) → MayTurn says course c r u → IsAtTurn c u.turn u.store.state
  at_turn r u may = record { order = may.may_turn.order; running = may.may_turn.running; settled = may.may_turn.settled; unfinished = may.unfinished }

  pub come_first : (a : At M T H G) → MayRun says course c a → HasCome says course c a a 0
  come_first a may =
      let s = may.may_turn in
      record {
        on = on_begins (setting says course c a) a.trace a.turn (says.part a.main) a.store.state
            (record { order = s.order; running = s.running; settled = s.settled; unfinished = may.unfinished }) s.pends;
        ran = nothing_ran says.does (setting says course c a) (state says course c a) a.main a.trace a.store.listeners;
        keeps = record { script = refl; idle = refl; constants = refl };
        suits = s.suits;
        knows = s.knows;
        works = s.works;
        asked = s.asked;
      }

  module _ (a u : At M T H G) (n : ℕ) (come : HasCome says course c a u n) where
    abbrev x : Setting
    x = setting says course c a

    abbrev s : State
    s = state says course c a

    gone : (steps : ℕ) (o : Outcome) (b : At M T H G) → Drove x s a.trace (numbers says course c a) b.turn (says.part b.main) b.store.state b.trace steps o → RanTo says course c a b →
        says.suits b.main c → says.knows b.main b.store.state → HoldsHosts course b.store → IsAsked b.store.state → HasGone says course c steps o a b
    gone steps o b drove ran suits knows works asked =
        let same : drove.drives.added ≡ ran.added = append_cancel_left a.trace drove.drives.added ran.added (sym drove.drives.trace ∙ ran.trace) in
        record {
          has = record {
            ran = ran;
            few = subst (λ (ls : List Label). length ls ≤ steps) same drove.drives.few;
            may_turn = record {
              order = drove.order;
              settled = drove.settled;
              running = drove.running;
              pends = drove.pends;
              suits = suits;
              knows = knows;
              works = works;
              asked = asked;
            };
            numbers = drove.few;
          };
          outcome = subst (λ (ls : List Label). IsOutcome x (state says course c b) ls steps o) same drove.drives.ends;
          unfinished = drove.unfinished;
        }

    -- in the setting of the turn
    come_pends : PendsIn (setting says course c u) u.store.state.core (says.part u.main) u.turn
    come_pends = subst (λ (y : Setting). PendsIn y u.store.state.core (says.part u.main) u.turn) (sym (setting_kept a u come.keeps)) come.on.pends

    -- the next turn may be taken
    pub come_may : (r : ℕ) → IsWellFormed c → numbers says course c u + 4 < 2 ^ 61 → r ≡ group_running u.store.state u.turn → MayTurn says course c r u
    come_may r covered few group = record {
      covered = covered;
      may_turn = record {
        order = come.on.at.order;
        settled = come.on.at.settled;
        running = come.on.at.running;
        pends = come_pends;
        suits = come.suits;
        knows = come.knows;
        works = come.works;
        asked = come.asked;
      };
      unfinished = come.on.at.unfinished;
      few = few;
      group = group;
    }

    module _ (v : At M T H G) (r : ℕ) where
      abbrev turned_to : Turn → At M T H G
      turned_to q = record v { turn = q }

      module _ (w : StepResult) (op_result : HasTurned says course c w r u v) where
        pub told : AddedOrNone (λ (made : Option MadeStep). TurnTold x u.turn (says.part u.main) u.store.state u.store.listeners made (says.part v.main) v.store.state v.store.listeners) w u.trace v.trace
        told = subst (λ (y : Setting). AddedOrNone (λ (made : Option MadeStep). TurnTold y u.turn (says.part u.main) u.store.state u.store.listeners made (says.part v.main) v.store.state v.store.listeners) w u.trace v.trace)
            (setting_kept a u come.keeps) op_result.told

      pub turned : (q : StepResult) → is_made q ≡ true → HasTurned says course c q r u v → Added (λ (made : MadeStep). Turns x u.turn (says.part u.main) u.store.state made (says.part v.main) v.store.state) q u.trace v.trace
      turned q made op_result = let t = (told q op_result).made made in (t.0, (t.1.0, t.1.1.turned))

      pub opened : (q : StepResult) → is_made q ≡ true → is_open (turn_of q) ≡ true → HasTurned says course c q r u v → AddedTo (λ (made : MadeStep). Turns x u.turn (says.part u.main) u.store.state made (says.part v.main) v.store.state) (turn_of q) None u.trace v.trace
      opened q made ongoing op_result = added_open x u.turn (says.part u.main) u.store.state u.trace (says.part v.main) v.store.state v.trace q ongoing (turned q made op_result)

      -- it goes on in that turn
      pub come_goes : (q : StepResult) → is_made q ≡ true → is_open (turn_of q) ≡ true → HasTurned says course c q r u v → Keeps says u v → HasCome says course c a (turned_to (turn_of q)) (n + 1)
      come_goes q made ongoing op_result kept = record {
        on = added_more x s a.trace (numbers says course c a) u.turn (says.part u.main) u.store.state u.trace n come.on (says.part v.main) v.store.state v.trace (turn_of q) (opened q made ongoing op_result);
        ran = ran_more says.does x s a.main a.trace a.store.listeners says.part u.turn u.main u.store.state u.trace u.store.listeners v.main v.store.state v.store.listeners q v.trace come.ran ((told q op_result).made made) (op_result.did.made made);
        keeps = let k = keeps_on a u v come.keeps kept in record { script = k.script; idle = k.idle; constants = k.constants };
        suits = op_result.suits;
        knows = op_result.knows;
        works = op_result.works;
        asked = op_result.asked;
      }

      pub ran_over : (q : StepResult) → is_made q ≡ true → turn_of q ≡ turn.Over → HasTurned says course c q r u v → RanTo says course c a (turned_to turn.Over)
      ran_over q made is op_result =
          subst (λ (p : Turn). RanTo says course c a (turned_to p)) is
          (ran_more says.does x s a.main a.trace a.store.listeners says.part u.turn u.main u.store.state u.trace u.store.listeners v.main v.store.state v.store.listeners q v.trace come.ran ((told q op_result).made made) (op_result.did.made made))

      -- the last label says how the run has ended
      pub over_told : (q : StepResult) → is_made q ≡ true → turn_of q ≡ turn.Over → HasTurned says course c q r u v → is_some (last_outcome v.trace) ≡ true
      over_told q made is op_result = outcome_told x u.turn (says.part u.main) u.store.state u.trace (says.part v.main) v.store.state v.trace q is (turned q made op_result)

      pub over_added : (q : StepResult) (o : Outcome) → is_made q ≡ true → turn_of q ≡ turn.Over → last_outcome v.trace ≡ Some o → HasTurned says course c q r u v
          → AddedTo (λ (made : MadeStep). Turns x u.turn (says.part u.main) u.store.state made (says.part v.main) v.store.state) turn.Over (Some o) u.trace v.trace
      over_added q o made is last op_result = added_over x u.turn (says.part u.main) u.store.state u.trace (says.part v.main) v.store.state v.trace q o is last (turned q made op_result)

      pub ran_kept : HasTurned says course c stepped.Nothing r u v → RanTo says course c a v
      ran_kept op_result =
          subst (λ (q : Turn). Ran says.does x s a.main a.trace a.store.listeners (state_at v.store.state.core (says.part v.main) q) v.main v.trace v.store.listeners) (sym op_result.turn)
          (ran_still says.does x s a.main a.trace a.store.listeners says.part u.turn u.main u.store.state u.trace u.store.listeners v.main v.store.state v.store.listeners v.trace come.ran ((told stepped.Nothing op_result).nothing refl) (op_result.did.nothing refl).0)

      -- it is over
      pub come_over : (steps : ℕ) (q : StepResult) (o : Outcome) → n < steps → is_made q ≡ true → turn_of q ≡ turn.Over → last_outcome v.trace ≡ Some o → HasTurned says course c q r u v → HasGone says course c steps o a (turned_to turn.Over)
      come_over steps q o room made is last op_result =
          gone steps o (turned_to turn.Over)
          (added_ends x s a.trace (numbers says course c a) u.turn (says.part u.main) u.store.state u.trace n come.on (says.part v.main) v.store.state v.trace o steps room (over_added q o made is last op_result))
          (ran_over q made is op_result) op_result.suits op_result.knows op_result.works op_result.asked

      -- nothing can go on, and that is no deadlock
      pub come_none : (steps : ℕ) → n ≤ steps → HasTurned says course c stepped.Nothing r u v → HasGone says course c steps outcome.Idle a v
      come_none steps room op_result =
          let t = (told stepped.Nothing op_result).nothing refl in
          gone steps outcome.Idle v
          (subst (λ (q : Turn). Drove x s a.trace (numbers says course c a) q (says.part v.main) v.store.state v.trace steps outcome.Idle) (sym op_result.turn)
          (added_none x s a.trace (numbers says course c a) u.turn (says.part u.main) u.store.state u.trace n come.on (says.part v.main) v.store.state v.trace steps room (t.0.turned, t.1)))
          (ran_kept op_result) op_result.suits op_result.knows op_result.works op_result.asked

    -- the same before a turn
    pub come_rests : (steps : ℕ) → n ≤ steps → is_at_rest x (state says course c u) ≡ true → HasGone says course c steps outcome.Idle a u
    come_rests steps room rests =
        gone steps outcome.Idle u (on_rests x s a.trace (numbers says course c a) u.turn (says.part u.main) u.store.state u.trace n come.on steps room rests) come.ran come.suits come.knows come.works come.asked

    -- the steps are used up
    pub come_out : (steps : ℕ) → n ≡ steps → is_at_rest x (state says course c u) ≡ false → HasGone says course c steps outcome.OutOfSteps a u
    come_out steps all moves =
        gone steps outcome.OutOfSteps u (on_out_at x s a.trace (numbers says course c a) u.turn (says.part u.main) u.store.state u.trace n steps come.on all moves) come.ran come.suits come.knows come.works come.asked

    -- ops on registers and memory cells were done
    module _ (w : StateView) (after : List Label) (k : ℕ) (on : KeepsOn c u.turn u.store.state u.trace n w after k) (computes : Computes c u.turn u.store.state u.trace n w after k)
        (still : runs_in u.turn ≡ None → k ≡ n) (same : SameWorks u.store.state w) (stays : WorksLast u.store.state w → says.knows u.main u.store.state → says.knows u.main w) where
      abbrev computed : At M T H G
      computed = record u { store = record u.store { state = w }; trace = after }

      pub come_computed : HasCome says course c a computed k
      come_computed = record {
        on = on x refl s a.trace (numbers says course c a) (says.part u.main) come.on;
        ran = ran_computed says.does x s a.main a.trace a.store.listeners says.part u.turn u.main u.store.state u.trace u.store.listeners w n after k come.ran computes still;
        keeps = record { script = come.keeps.script; idle = come.keeps.idle; constants = come.keeps.constants };
        suits = come.suits;
        knows = stays (last_by_works u.store.state w same) come.knows;
        works = holds_same u.store.state.core w.core (held_by course u.store) same.works come.works;
        asked = asked_computed c u.store.state u.trace n w after k x refl (ap (λ (ts : Tags). ts.tracked) same.tags) u.turn computes still come.asked;
      }

    -- it was out of memory
    lost_by : (steps room : ℕ) (last : State) (main : M) (between : Listeners) (k : M) (after : List Label) (l : Listeners) → Ran says.does x s a.main a.trace a.store.listeners last main after between → (labels : ℕ) → Going x s a.trace last after labels → labels < steps →
        (room ≤ labels) ⊎ MayWant c last.turn last.core → (left : StateView) → (may_change c last.turn last.core ≡ false → left.core ≡ last.core) →
        (is_main_turn last.turn ≡ false → k ≡ main) → (is_main_turn last.turn ≡ false → l ≡ between) → TellsSome between l → (is_main_turn last.turn ≡ false → left.tags.tracked ≡ last.core.groups) → IsLost says course c steps room a k after l left
    lost_by steps room last main between k after l ran labels going more wants left image kept untold told groups =
        let same : going.added ≡ ran.added = append_cancel_left a.trace going.added ran.added (sym going.trace ∙ ran.trace) in
        let count : length ran.added ≡ labels = ap (λ (ls : List Label). length ls) (sym same) ∙ going.count in
        record {
          last = last;
          main = main;
          between = between;
          ran = ran;
          few = omega (arith, count, more);
          going_on = subst (λ (ls : List Label). last_outcome ls ≡ None) same going.going_on;
          wants = elim wants [
            | inl short ↦ inl (omega (arith, count, short))
            | inr wanted ↦ inr wanted
          ];
          image = image;
          same = kept;
          untold = untold;
          told = told;
          groups = groups;
        }

    -- there is no room for the label of the next turn
    pub come_full : (steps room : ℕ) → n < steps → room ≤ n → IsLost says course c steps room a u.main u.trace u.store.listeners u.store.state
    come_full steps room few short =
        lost_by steps room (state says course c u) u.main u.store.listeners u.main u.trace u.store.listeners come.ran
        n come.on.going few (inl short) u.store.state (λ other. refl) (λ other. refl) (λ other. refl) (tells_none _ _ refl) (λ other. come.asked)

    -- nor for that of an op on registers and memory cells
    pub come_short : (steps room : ℕ) (mid : Traced) → mid.labels ≡ u.trace → room ≤ mid.spare + n → (w : StateView) (after : Traced) → StopsShort c u.turn u.store.state mid n w after steps → w.tags.tracked ≡ u.store.state.tags.tracked → IsLost says course c steps room a u.main after.labels u.store.listeners w
    come_short steps room mid here spare w after short same =
        let on = subst (λ (ls : List Label). KeepsOn c u.turn u.store.state ls n w after.labels short.labels) here short.on in
        let computes = subst (λ (ls : List Label). Computes c u.turn u.store.state ls n w after.labels short.labels) here short.computes in
        let few = short.few in
        let most = short.room in
        lost_by steps room (state_at w.core (says.part u.main) u.turn) u.main u.store.listeners u.main after.labels u.store.listeners
        (ran_computed says.does x s a.main a.trace a.store.listeners says.part u.turn u.main u.store.state u.trace u.store.listeners w n after.labels short.labels come.ran computes short.still)
        short.labels (on x refl s a.trace (numbers says course c a) (says.part u.main) come.on).going few (inl (omega (arith, most, spare))) w (λ other. refl) (λ other. refl) (λ other. refl) (tells_none _ _ refl)
        (λ other. same ∙ (come.asked ∙ sym (groups_computed c u.store.state u.trace n w after.labels short.labels x refl u.turn computes short.still)))

    -- in the turns before the hook answered no error, and it failed in this one
    stopped : (v : At M T H G) (steps : ℕ) → n < steps → FailsTurn says course c u v → HasStopped says course c steps a v.main v.trace v.store.state v.store.listeners
    stopped v steps room fails =
        let main = fails.main in
        let stops = subst (λ (y : Setting). StopsTurn y u.turn (says.part u.main) u.store.state u.trace v.trace u.store.listeners v.store.listeners (says.part v.main) v.store.state) (setting_kept a u come.keeps) fails.stops in
        let here = state says course c u in
        let told = ran_told says.does x s a.main a.trace a.store.listeners here u.main u.trace u.store.listeners come.ran in
        let added = come.on.going.count in
        let far = ap (λ (ls : List Label). length ls) come.on.going.trace ∙ length-append a.trace come.on.going.added in
        record {
          mid = u.trace;
          last = here;
          between = u.store.listeners;
          ran = subst (λ (k : M). Ran says.does x s a.main a.trace a.store.listeners here k u.trace u.store.listeners) (sym main) come.ran;
          few = elim stops.stops [
            | inl q ↦ let same = ap (λ (ls : List Label). length ls) q.trace in omega (arith, same, far, added, room)
            | inr q ↦
                let made = q.1.1.1 in
                let more = ap (λ (ls : List Label). length ls) (stands_adds q.1.1.0 u.trace made.0 v.trace made.1.0) ∙ length-append u.trace (made.0.label ∷ []) in omega (arith, more, far, added, room)
          ];
          stops = elim stops.stops [
            | inl q ↦ inl (record {
              before = u.store.state;
              main = ap₂ (λ (j : M) (p : Turn). state_at u.store.state.core (says.part j) p) (sym main) q.turn;
              trace = q.trace;
              same = q.state;
              fails = q.fails;
            })
            | inr q ↦
                let made = q.1.1.1 in
                inr (record {
                  label = made.0.label;
                  turn = made.0.turn;
                  trace = stands_adds q.1.1.0 u.trace made.0 v.trace made.1.0;
                  step = made.1.1.step;
                  other = sym (others_shown x (says.part u.main) (says.part v.main) u.store.state v.store.state u.turn q.0 made.0 made.1.1);
                  told = q.1.0;
                  order = core_in_order_after x u.store.state.core v.store.state.core (says.part u.main) (says.part v.main) u.turn made.0.turn made.0.label come.on.at.order made.1.1.step;
                  running = made.1.1.running;
                })
          ];
          answered = answered_after a.store.listeners u.store.listeners v.store.listeners told.errors stops.answered;
          hook = stops.hook ∙ told.same_hook;
          suits = subst (λ (m : M). says.suits m c) (sym main) come.suits;
        }

    -- the turns stop before the run does, as it is out of memory
    pub come_lost : (v : At M T H G) (steps room : ℕ) → n < steps → LacksTurn says course c u v → IsLost says course c steps room a v.main v.trace v.store.listeners v.store.state
    come_lost v steps room few lacks =
        lost_by steps room (state says course c u) u.main u.store.listeners v.main v.trace v.store.listeners
        (subst (λ (ls : List Label). Ran says.does x s a.main a.trace a.store.listeners (state says course c u) u.main ls u.store.listeners) (sym lacks.trace) come.ran)
        n (subst (λ (ls : List Label). Going x s a.trace (state says course c u) ls n) (sym lacks.trace) come.on.going) few
        (inr lacks.wants) v.store.state lacks.image lacks.main lacks.untold lacks.told (λ other. lacks.groups other ∙ come.asked)

    -- or as the hook failed
    pub come_stopped : (v : At M T H G) (steps : ℕ) → n < steps → FailsTurn says course c u v → IsStopped says course c steps a v
    come_stopped v steps room fails = (stopped v steps room fails, (fails.knows, fails.works))

-- ---- What a call gives

-- an outcome is no lack of memory
stop_there : (q : Stop) → stop_answer q ≡ Err task_error.NoMemory → ⊥
stop_there (stop.Ends o) is = outcome_there o is
stop_there stop.Rests is = absurd (cc)
stop_there stop.Yields is = absurd (cc)

yes_of : (b : Bool) → (b ≡ false → ⊥) → b ≡ true
yes_of true not_off = refl
yes_of false not_off = absurd (not_off refl)

module _ {M T H G : Type 0} (says : Says M) (course : H → HostDef) (c : Component) (a b : At M T H G) (steps : ℕ) where
  pub has_lost : (room : ℕ) (m : Store T H G) → IsLost says course c steps room a b.main b.trace m.listeners m.state → ToldListeners (finishes m.state.tags.tracked) m.listeners b.store.listeners → b.store.state ≡ asked (on_core set_trapped m.state) → HasLost says course c steps a b
  has_lost room m lost told trapped = record { listeners = m.listeners; left = m.state; room = room; lost = lost; finishes = told; trapped = trapped }

  pub has_failed : (m : Store T H G) → b.store ≡ record m { state = asked (on_core set_trapped m.state); listeners = b.store.listeners } →
      HasStopped says course c steps a b.main b.trace m.state m.listeners → ToldListeners (finishes m.state.tags.tracked) m.listeners b.store.listeners →
      ((u : StateView) → WorksLast m.state u → says.knows b.main m.state → says.knows b.main u) → says.knows b.main m.state → HoldsHosts course m → b.turn ≡ turn.Over →
      HasFailed says course c steps a b
  has_failed m rest stopped told stays knows works over = record {
    left = m.state;
    listeners = m.listeners;
    stopped = stopped;
    trapped = ap (λ (st : Store T H G). st.state) rest;
    finishes = told;
    knows = knows_trapped says.knows b.main b.main m.state b.store.state refl (ap (λ (st : Store T H G). st.state) rest) stays knows;
    works = subst (λ (st : Store T H G). HoldsHosts course st) (sym rest) (trapped_hosts course m b.store.listeners works);
    over = over;
  }

  -- who answers an error listens
  heard : (listens hooked : Bool) (new : Listeners) (n : M) (left : StateView) → hooked ≡ is_some a.store.listeners.hook → (hooked ≡ true → listens ≡ true) →
      HasStopped says course c steps a n b.trace left new → listens ≡ true
  heard listens hooked new n left is so stopped =
      yes_of listens (must_listen listens hooked a.store.listeners new is so stopped.answered stopped.hook)

  -- ---- By a policy

  pub goes_on_by : (yields : Bool) (q : Stop) (yield_budget yield_budget' : YieldBudget) → (yields ≡ false → GoesTo says course c false steps q yield_budget a b yield_budget') → (yields ≡ true → GoesTo says course c true steps q yield_budget a b yield_budget') →
      GoesTo says course c yields steps q yield_budget a b yield_budget'
  goes_on_by false q yield_budget yield_budget' driven polled = driven refl
  goes_on_by true q yield_budget yield_budget' driven polled = polled refl

  -- one that never stops them doesn't
  pub never_rests : (q : Stop) (yield_budget yield_budget' : YieldBudget) → q ≡ stop.Rests → GoesTo says course c false steps q yield_budget a b yield_budget' → ⊥
  never_rests q yield_budget yield_budget' is gone = subst (λ (k : Stop). GoesTo says course c false steps k yield_budget a b yield_budget') is gone

  pub never_yields : (q : Stop) (yield_budget yield_budget' : YieldBudget) → q ≡ stop.Yields → GoesTo says course c false steps q yield_budget a b yield_budget' → ⊥
  never_yields q yield_budget yield_budget' is gone = subst (λ (k : Stop). GoesTo says course c false steps k yield_budget a b yield_budget') is gone

  -- one that stops them
  pub stops_by : (yields : Bool) (q : Stop) (yield_budget yield_budget' : YieldBudget) → yields ≡ true → GoesTo says course c true steps q yield_budget a b yield_budget' → GoesTo says course c yields steps q yield_budget a b yield_budget'
  stops_by yields q yield_budget yield_budget' on polled = subst (λ (y : Bool). GoesTo says course c y steps q yield_budget a b yield_budget') (sym on) polled

  -- ---- Of a drive

  -- what the rules result in is no failed hook
  drives_by : (listens : Bool) (o : Outcome) (yield_budget yield_budget' : YieldBudget) → (o ≡ hook_failed → ⊥) → HasDriven says course c steps o yield_budget a b yield_budget' → DrivesTo says course c listens steps (Ok o) yield_budget a b yield_budget'
  drives_by false o yield_budget yield_budget' other d = d
  drives_by true (outcome.Trap trap.HookFailed) yield_budget yield_budget' other d = absurd (other refl)
  drives_by true (outcome.Trap t) yield_budget yield_budget' other d = d
  drives_by true o yield_budget yield_budget' other d = d

  pub drives_of : (o : Outcome) → HasGone says course c steps o a b → Drives (setting says course c a) (state says course c a) a.trace (state says course c b) b.trace steps o
  drives_of o h = record { added = h.has.ran.added; trace = h.has.ran.trace; run = h.has.ran.run; few = h.has.few; ends = h.outcome }

  drives_on : (listens : Bool) (o : Outcome) (yield_budget yield_budget' : YieldBudget) → (h : HasGone says course c steps o a b) → LeavesYieldBudget yield_budget h.has.ran.added o yield_budget' → DrivesTo says course c listens steps (Ok o) yield_budget a b yield_budget'
  drives_on listens o yield_budget yield_budget' h leaves =
      drives_by listens o yield_budget yield_budget' (never_failed (setting says course c a) (state says course c a) h.has.ran.added (state says course c b) h.has.ran.run steps o h.outcome)
      (record { gone = h; since = leaves.since; passes_on = leaves.passes_on })

  -- it is idle: the labels of the drive are counted
  pub counted_on : (listens : Bool) (o : Outcome) (yield_budget yield_budget' : YieldBudget) → HasGone says course c steps o a b → o ≡ outcome.Idle → yield_budget'.since ≡ since_driven yield_budget.passes yield_budget.since (drop (length a.trace) b.trace) → yield_budget'.passes ≡ false →
      DrivesTo says course c listens steps (Ok o) yield_budget a b yield_budget'
  counted_on listens o yield_budget yield_budget' h idle since passes =
      drives_on listens o yield_budget yield_budget' h (leaves_counted a.trace b.trace h.has.ran.added h.has.ran.trace o yield_budget yield_budget' idle since passes)

  -- else none counts
  pub none_on : (listens : Bool) (o : Outcome) (yield_budget yield_budget' : YieldBudget) → HasGone says course c steps o a b → (o ≡ outcome.Idle → ⊥) → yield_budget'.since ≡ 0 → yield_budget'.passes ≡ false → DrivesTo says course c listens steps (Ok o) yield_budget a b yield_budget'
  none_on listens o yield_budget yield_budget' h other since passes =
      drives_on listens o yield_budget yield_budget' h (leaves_none a.trace b.trace h.has.ran.added h.has.ran.trace o yield_budget yield_budget' other since passes)

  pub drives_failed : (listens hooked : Bool) (m : Store T H G) (yield_budget yield_budget' : YieldBudget) → hooked ≡ is_some a.store.listeners.hook → (hooked ≡ true → listens ≡ true) →
      HasStopped says course c steps a b.main b.trace m.state m.listeners → HasFailed says course c steps a b → DrivesTo says course c listens steps (Ok hook_failed) yield_budget a b yield_budget'
  drives_failed listens hooked m yield_budget yield_budget' is so stopped failed =
      subst (λ (l : Bool). DrivesTo says course c l steps (Ok hook_failed) yield_budget a b yield_budget') (sym (heard listens hooked m.listeners b.main m.state is so stopped)) failed

  -- ---- Of a poll

  abbrev Polled : Result RunPoll TaskError → (yield_budget yield_budget' : YieldBudget) → Type 0
  Polled r yield_budget yield_budget' = HasPolled says course c steps r yield_budget a b yield_budget'

  polls_by : (listens : Bool) (r : Result RunPoll TaskError) (yield_budget yield_budget' : YieldBudget) → (r ≡ Err task_error.NoMemory → ⊥) → (r ≡ Err (task_error.Trap trap.HookFailed) → ⊥) → Polled r yield_budget yield_budget' → PollsTo says course c listens steps r yield_budget a b yield_budget'
  polls_by false (Ok v) yield_budget yield_budget' there other d = d
  polls_by false (Err task_error.NoMemory) yield_budget yield_budget' there other d = absurd (there refl)
  polls_by false (Err (task_error.Trap t)) yield_budget yield_budget' there other d = d
  polls_by false (Err (task_error.HostFailed i)) yield_budget yield_budget' there other d = d
  polls_by true (Ok v) yield_budget yield_budget' there other d = d
  polls_by true (Err task_error.NoMemory) yield_budget yield_budget' there other d = absurd (there refl)
  polls_by true (Err (task_error.Trap trap.HookFailed)) yield_budget yield_budget' there other d = absurd (other refl)
  polls_by true (Err (task_error.Trap t)) yield_budget yield_budget' there other d = d
  polls_by true (Err (task_error.HostFailed i)) yield_budget yield_budget' there other d = d

  pub polls_on : (listens : Bool) (q : Stop) (yield_budget yield_budget' : YieldBudget) → Polled (stop_answer q) yield_budget yield_budget' → PollsTo says course c listens steps (stop_answer q) yield_budget a b yield_budget'
  polls_on listens q yield_budget yield_budget' p =
      let r = stop_answer q in
      polls_by listens r yield_budget yield_budget' (stop_there q)
      (polled_never (setting says course c a) (state says course c a) p.has.ran.added (state says course c b) p.has.ran.run yield_budget.passes yield_budget.since steps r p.answers) p

  pub polls_failed : (listens hooked : Bool) (m : Store T H G) (yield_budget yield_budget' : YieldBudget) → hooked ≡ is_some a.store.listeners.hook → (hooked ≡ true → listens ≡ true) →
      HasStopped says course c steps a b.main b.trace m.state m.listeners → HasFailed says course c steps a b → PollsTo says course c listens steps (Err (task_error.Trap trap.HookFailed)) yield_budget a b yield_budget'
  polls_failed listens hooked m yield_budget yield_budget' is so stopped failed =
      subst (λ (l : Bool). PollsTo says course c l steps (Err (task_error.Trap trap.HookFailed)) yield_budget a b yield_budget') (sym (heard listens hooked m.listeners b.main m.state is so stopped)) failed
