use Rattle.core_primitives.specs.Preferences.{preference}
use Rattle.machine_rules.specs.Finish.{Doer}
use Rattle.ops_guests.proofs.CalmLemmas.{calm_picks, picks_implements, taken_picks}
use Rattle.machine_rules.proofs.CalmLemmas.{guest_calm}
use Rattle.machine_rules.proofs.WalkOps.{cancellable_waits}
use Rattle.std.proofs.Common.{ap, refl, subst, sym, ◌∙◌, ◌≡◌, ℕ}
use Rattle.ops_subtasks.proofs.GuestLemmas.{asked_case, awake_other, first_at_same, first_found, runs_implements, waits_case, yields_implements}
use Rattle.ops_subtasks.proofs.guest_ops.cancel_started.Goals as goal
use Rattle.ops_subtasks.specs.Refused.{mode_of}
use Rattle.machine_data.specs.Read.{is_callback_yield}
use Rattle.machine_data.specs.declared.trap.Trap.TheVariants as trap
use Rattle.ops_guests.proofs.DoesLemmas.{calm_same}
use Rattle.ops_guests.specs.OpResult.{Implements, PicksFirst}
use Rattle.ops_guests.specs.Steps.{label_of}
use Rattle.ops_guests.specs.declared.op_result.OpResult.TheVariants as op_result
use Rattle.machine_rules.specs.Cancels.{CancelCase, cancel_case, cancel_guest_by, cancel_wakes, cancellable, pauses}
use Rattle.core_primitives.specs.StateView.{StateView, call_of, thread_of}

pub returns-then-was_asked_before : goal.returns-then-was_asked_before
returns-then-was_asked_before g c =
    let s = g.W.View.view c.args.w.now in
    let n = thread_of s c.args.thread in
    let m = mode_of c.args.sync in
    let k = call_of s c.args.call in
    let asked = sym c.was_asked_before.ensures ∙ c.if-was_asked_before.true in
    record {
      does = calm_same _ c.args.thread s s _
          (λ d. guest_calm d m n k s.core (cancel_case k s.core) (λ e. absurd (let two = sym (asked_case m n d k s.core c.requires.unended c.requires.started asked) ∙ e in cc)))
          (λ d. subst (λ (y : CancelCase). Implements (cancel_guest_by d m n k s.core y) s.core (op_result.Traps trap.SubtaskCancelAfterTerminal) s.core)
          (sym (asked_case m n d k s.core c.requires.unended c.requires.started asked)) (refl, refl))
          refl refl;
    }

pub wake_waiting-requires-clause-waits : goal.wake_waiting-requires-clause-waits
wake_waiting-requires-clause-waits g c =
    let s = g.W.View.view c.args.w.now in
    cancellable_waits (call_of s c.args.call) (thread_of s c.in-Some.waiting) s.core c.in-Some.ensures.some

pub returns-in-Some : goal.returns-in-Some
returns-in-Some g c =
    let s = g.W.View.view c.args.w.now in
    let t = g.W.View.view c.wake_waiting.new.w in
    let n = thread_of s c.args.thread in
    let m = mode_of c.args.sync in
    let k = call_of s c.args.call in
    let w = thread_of s c.in-Some.waiting in
    let first = sym c.was_asked_before.ensures ∙ c.if-was_asked_before.false in
    let picked = λ (d : Doer). subst (λ (j : ℕ). PicksFirst (preference s) (cancel_guest_by d m n k s.core (cancel_case k s.core)) (label_of n (op_result.Stops (pauses j))) s.core (op_result.Stops (pauses j)) t.core)
    (sym c.number-number.ensures)
    (taken_picks (preference s) _ (pauses n) (cancellable k s.core) w (λ j. cancel_wakes n k j s.core) s.core t.core (refl, refl)
    (ap (cancel_guest_by d m n k s.core) (waits_case m n d k s.core c.requires.unended c.requires.started first w c.in-Some.ensures.some))
    c.in-Some.ensures.some c.in-Some.ensures.first (ap (λ (y : StateView). y.core) c.wake_waiting.ensures)) in
    record {
      does = record {
        implements = λ d. picks_implements (picked d);
        picks = picked;
        stays = tt;
        kept = (ap (λ (y : StateView). y.tags) c.wake_waiting.ensures, ap (λ (y : StateView). y.current) c.wake_waiting.ensures);
      };
    }

pub promote_yield-requires-clause-first : goal.promote_yield-requires-clause-first
promote_yield-requires-clause-first g c =
    let s = g.W.View.view c.args.w.now in
    first_found _ (call_of s c.args.call) is_callback_yield s.core c.none_is_zero.ensures.threads c.first_thread-first.ensures (sym c.is_callback_yield.ensures ∙ c.if-is_callback_yield.true)

pub promote_yield-requires-clause-yields : goal.promote_yield-requires-clause-yields
promote_yield-requires-clause-yields g c =
    let s = g.W.View.view c.args.w.now in
    sym (first_at_same _ (call_of s c.args.call) is_callback_yield s.core c.none_is_zero.ensures.threads c.first_thread-first.ensures) ∙ (sym c.is_callback_yield.ensures ∙ c.if-is_callback_yield.true)

pub returns-then-is_callback_yield : goal.returns-then-is_callback_yield
returns-then-is_callback_yield g c =
    let s = g.W.View.view c.args.w.now in
    let k = call_of s c.args.call in
    let n = thread_of s c.args.thread in
    let m = mode_of c.args.sync in
    let first = sym c.was_asked_before.ensures ∙ c.if-was_asked_before.false in
    record {
      does = calm_same _ c.args.thread s (g.W.View.view c.promote_yield.new.w) _
          (λ d. guest_calm d m n k s.core (cancel_case k s.core) (awake_other m n d k s.core c.requires.unended c.requires.started first c.in_default.ensures.none))
          (λ d. yields_implements m n d k s.core c.requires.unended c.requires.started first c.in_default.ensures.none _ _
          (sym (first_at_same _ k is_callback_yield s.core c.none_is_zero.ensures.threads c.first_thread-first.ensures) ∙ (sym c.is_callback_yield.ensures ∙ c.if-is_callback_yield.true))
          c.number-number.ensures (ap (λ (y : StateView). y.core) c.promote_yield.ensures))
          (ap (λ (y : StateView). y.tags) c.promote_yield.ensures) (ap (λ (y : StateView). y.current) c.promote_yield.ensures);
    }

pub returns : goal.returns
returns g c =
    let s = g.W.View.view c.args.w.now in
    let k = call_of s c.args.call in
    let n = thread_of s c.args.thread in
    let m = mode_of c.args.sync in
    let first = sym c.was_asked_before.ensures ∙ c.if-was_asked_before.false in
    let done = c.ask_running.ensures.does in
    let meets = λ (d : Doer). runs_implements m n d k s.core c.requires.unended c.requires.started first c.in_default.ensures.none _ _
    (sym (first_at_same _ k is_callback_yield s.core c.none_is_zero.ensures.threads c.first_thread-first.ensures) ∙ (sym c.is_callback_yield.ensures ∙ c.if-is_callback_yield.false))
    (done.implements d) in
    record {
      does = record {
        implements = meets;
        picks = λ d. calm_picks (preference s) n _ s.core _ _
            (guest_calm d m n k s.core (cancel_case k s.core) (awake_other m n d k s.core c.requires.unended c.requires.started first c.in_default.ensures.none)) (meets d);
        stays = done.stays;
        kept = done.kept;
      };
    }
