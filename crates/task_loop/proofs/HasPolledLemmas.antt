-- What a poll of a run gives, of what its turns gave.
use Rattle.laws_labels.specs.Own.{next_mark, rests_by}
use Rattle.run_trace.specs.YieldBudget.{counted, is_unyielded, since_after, yields_before}
use Rattle.run_trace.specs.declared.yield_budget.YieldBudget.{YieldBudget}
use Rattle.ops_state.specs.declared.error.TaskError.{TaskError}
use Rattle.std.proofs.Common.{refl, subst, sym, ◌∙◌}
use Rattle.std.proofs.lemmas.List.{append_cancel_left}
use Rattle.std.specs.Prelude.{Bool, List, Ok, Result, Some, false, length, not, true, ℕ, ◌&&◌, ◌<◌, ◌==◌, ◌≡◌, ◌≤◌}
use Rattle.task_loop.proofs.HasRunLemmas.{HasCome, come_goes, opened, over_added, ran_kept, ran_over, told}
use Rattle.task_loop.proofs.PausedLemmas.{Spent, Paused, idle_turned, idles, poll_ends, poll_rests, used_up, yields_now}
use Rattle.task_loop.specs.HasRun.{At, HasPolled, HasTurned, Keeps, RanTo, numbers, setting, state}
use Rattle.task_loop.specs.RunPolls.{is_yielded, poll_answer, rests_last, run_answer, since_left}
use Rattle.task_loop.specs.Says.{Says}
use Rattle.task_loop.specs.declared.poll_methods.RunPoll.{RunPoll}
use Rattle.task_loop.specs.declared.poll_methods.RunPoll.TheVariants as poll
use Rattle.machine_data.specs.Core.{State}
use Rattle.machine_data.specs.declared.component.Component.{Component}
use Rattle.machine_data.specs.declared.component.HostDef.{HostDef}
use Rattle.machine_data.specs.declared.label.Label.{Label}
use Rattle.machine_data.specs.declared.outcome.Outcome.{Outcome}
use Rattle.machine_data.specs.declared.records.Turn.{Turn}
use Rattle.machine_data.specs.declared.records.Turn.TheVariants as turn
use Rattle.machine_rules.specs.Outcome.{is_at_rest, last_outcome}
use Rattle.machine_rules.specs.Stalled.{Setting}
use Rattle.core_primitives.specs.Groups.{IsAsked}
use Rattle.task_store.specs.Hosts.{HoldsHosts}
use Rattle.ops_turns.specs.StepResult.{is_made, turn_of}
use Rattle.ops_turns.specs.Turn.{is_open}
use Rattle.ops_turns.specs.declared.made.StepResult.{StepResult}
use Rattle.ops_turns.specs.declared.made.StepResult.TheVariants as stepped

module _ {M T H G : Type 0} (says : Says M) (course : H → HostDef) (c : Component) (a b : At M T H G) (steps : ℕ) where
  has_polled : (r : Result RunPoll TaskError) (yield_budget yield_budget' : YieldBudget) → Paused (setting says course c a) (state says course c a) a.trace (numbers says course c a) yield_budget steps r b.turn (says.part b.main) b.store.state b.trace yield_budget' →
      RanTo says course c a b → says.suits b.main c → says.knows b.main b.store.state → HoldsHosts course b.store → IsAsked b.store.state → HasPolled says course c steps r yield_budget a b yield_budget'
  has_polled r yield_budget yield_budget' paused ran suits knows works asked =
      let p = paused.polls in
      let same : p.added ≡ ran.added = append_cancel_left a.trace p.added ran.added (sym p.trace ∙ ran.trace) in
      let t = state says course c b in
      record {
        has = record {
          ran = ran;
          few = subst (λ (ls : List Label). length ls ≤ steps) same p.few;
          may_turn = record {
            order = paused.order;
            settled = paused.settled;
            running = paused.running;
            pends = paused.pends;
            suits = suits;
            knows = knows;
            works = works;
            asked = asked;
          };
          numbers = paused.few;
        };
        answers = subst (λ (ls : List Label). poll_answer (setting says course c a) t yield_budget.passes yield_budget.since ls steps ≡ Some r) same p.answers;
        unyielded = subst (λ (ls : List Label). is_unyielded yield_budget.passes yield_budget.since ls ≡ true) same p.unyielded;
        unrested = subst (λ (ls : List Label). rests_last ls ≡ true) same p.unrested;
        unfinished = paused.unfinished;
        since = subst (λ (ls : List Label). yield_budget'.since ≡ since_left r (since_after yield_budget.since ls)) same p.left;
        passes_on = subst (λ (ls : List Label). yield_budget'.passes ≡ (is_yielded r && not (length ls == steps))) same p.passes_on;
      }

-- ---- Where a poll stops

module _ {M T H G : Type 0} (says : Says M) (course : H → HostDef) (c : Component) (a u : At M T H G) (n : ℕ) (come : HasCome says course c a u n) (yield_budget : YieldBudget) (steps : ℕ) (b' : Bool) (k' : ℕ)
    (so_far : Spent yield_budget.passes yield_budget.since a.trace u.trace b' k') (yield_budget' : YieldBudget) where
  abbrev x : Setting
  x = setting says course c a

  abbrev s : State
  s = state says course c a

  abbrev given : ℕ
  given = numbers says course c a

  here : (r : Result RunPoll TaskError) → Paused x s a.trace given yield_budget steps r u.turn (says.part u.main) u.store.state u.trace yield_budget' → HasPolled says course c steps r yield_budget a u yield_budget'
  here r paused = has_polled says course c a u steps r yield_budget yield_budget' paused come.ran come.suits come.knows come.works come.asked

  -- before an entry
  pub polled_yields : n < steps → yields_before b' k' (next_mark u.turn u.store.state.core) ≡ true → yield_budget'.since ≡ 0 → yield_budget'.passes ≡ true → HasPolled says course c steps (Ok poll.Yielded) yield_budget a u yield_budget'
  polled_yields less h fresh passes =
      here (Ok poll.Yielded) (yields_now x s a.trace given yield_budget steps u.turn (says.part u.main) u.store.state u.trace n b' k' come.on so_far yield_budget' less h fresh passes)

  -- where the steps are used up
  pub polled_out : n ≡ steps → is_at_rest x (state says course c u) ≡ false → yield_budget'.since ≡ 0 → yield_budget'.passes ≡ false → HasPolled says course c steps (Ok poll.Yielded) yield_budget a u yield_budget'
  polled_out all moves fresh passes =
      here (Ok poll.Yielded) (used_up x s a.trace given yield_budget steps u.turn (says.part u.main) u.store.state u.trace n b' k' come.on so_far yield_budget' all moves fresh passes)

  -- where nothing can go on
  pub polled_idles : n ≤ steps → is_at_rest x (state says course c u) ≡ true → yield_budget'.since ≡ k' → yield_budget'.passes ≡ false → HasPolled says course c steps (Ok poll.Idle) yield_budget a u yield_budget'
  polled_idles room rests since passes =
      here (Ok poll.Idle) (idles x s a.trace given yield_budget steps u.turn (says.part u.main) u.store.state u.trace n b' k' come.on so_far yield_budget' room rests since passes)

  module _ (v : At M T H G) (r : ℕ) where
    -- the turn saw that
    pub polled_none : n ≤ steps → HasTurned says course c stepped.Nothing r u v → yield_budget'.since ≡ k' → yield_budget'.passes ≡ false → HasPolled says course c steps (Ok poll.Idle) yield_budget a v yield_budget'
    polled_none room op_result since passes =
        let t = (told says course c a u n come v r stepped.Nothing op_result).nothing refl in
        has_polled says course c a v steps (Ok poll.Idle) yield_budget yield_budget'
        (subst (λ (q : Turn). Paused x s a.trace given yield_budget steps (Ok poll.Idle) q (says.part v.main) v.store.state v.trace yield_budget') (sym op_result.turn)
        (idle_turned x s a.trace given yield_budget steps u.turn (says.part u.main) u.store.state u.trace n b' k' come.on so_far (says.part v.main) v.store.state v.trace yield_budget' room (t.0.turned, t.1) since passes))
        (ran_kept says course c a u n come v r op_result) op_result.suits op_result.knows op_result.works op_result.asked

    -- the run is over
    pub polled_over : (q : StepResult) (o : Outcome) → n < steps → is_made q ≡ true → turn_of q ≡ turn.Over → last_outcome v.trace ≡ Some o → HasTurned says course c q r u v → yield_budget'.since ≡ k' → yield_budget'.passes ≡ false →
        HasPolled says course c steps (run_answer o) yield_budget a (record v { turn = turn.Over }) yield_budget'
    polled_over q o room made is last op_result since passes =
        has_polled says course c a (record v { turn = turn.Over }) steps (run_answer o) yield_budget yield_budget'
        (poll_ends x s a.trace given yield_budget steps u.turn (says.part u.main) u.store.state u.trace n b' k' come.on so_far (says.part v.main) v.store.state v.trace yield_budget' o room (over_added says course c a u n come v r q o made is last op_result) since passes)
        (ran_over says course c a u n come v r q made is op_result) op_result.suits op_result.knows op_result.works op_result.asked

    -- after a turn that rests
    pub polled_rests : (q : StepResult) → is_made q ≡ true → is_open (turn_of q) ≡ true → n < steps → HasTurned says course c q r u v → Keeps says u v → yields_before b' k' (next_mark u.turn u.store.state.core) ≡ false →
        rests_by u.turn (next_mark u.turn u.store.state.core) ≡ true → yield_budget'.since ≡ counted k' (next_mark u.turn u.store.state.core) → yield_budget'.passes ≡ false →
        HasPolled says course c steps (Ok poll.Rest) yield_budget a (record v { turn = turn_of q }) yield_budget'
    polled_rests q made ongoing room op_result kept stays rests since passes =
        let goes = come_goes says course c a u n come v r q made ongoing op_result kept in
        has_polled says course c a (record v { turn = turn_of q }) steps (Ok poll.Rest) yield_budget yield_budget'
        (poll_rests x s a.trace given yield_budget steps u.turn (says.part u.main) u.store.state u.trace n b' k' come.on so_far (says.part v.main) v.store.state v.trace (turn_of q) (opened says course c a u n come v r q made ongoing op_result) stays yield_budget' room rests since passes)
        goes.ran goes.suits goes.knows goes.works goes.asked
