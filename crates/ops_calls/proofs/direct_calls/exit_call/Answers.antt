use Rattle.core_primitives.specs.Preferences.{preference}
use Rattle.machine_rules.proofs.CalmLemmas.{direct_exit_none}
use Rattle.machine_rules.specs.Finish.{SomeHost}
use Rattle.ops_guests.proofs.CalmLemmas.{loose_picks, picks_implements, silent_shows}
use Rattle.ops_guests.specs.Steps.{label_of}
use Rattle.std.proofs.Common.{inl, refl, subst, sym, ◌∙◌}
use Rattle.std.specs.Prelude.{◌<◌}
use Rattle.ops_calls.proofs.HostOpLemmas.{did_rule}
use Rattle.ops_calls.proofs.DirectLemmas.{all_back, direct_under, exits_did, exits_trapped, written_runs}
use Rattle.ops_calls.proofs.direct_calls.exit_call.Goals as goal
use Rattle.ops_calls.specs.HostOps.{Did}
use Rattle.ops_calls.specs.Directs.{exits_rule}
use Rattle.machine_data.specs.Write.{set_register}
use Rattle.ops_guests.specs.OpResult.{Implements}
use Rattle.ops_guests.specs.declared.op_result.OpResult.TheVariants as op_result
use Rattle.machine_rules.specs.Ends.{direct_exit_rule}
use Rattle.ops_turns.proofs.OrderLemmas.{number_at, runner}
use Rattle.core_primitives.specs.StateView.{StateView, thread_of}

pub exit_direct-requires-clause-running : goal.exit_direct-requires-clause-running
exit_direct-requires-clause-running g c =
    let v = g.W.View.view in
    let q = c.requires.running in
    let s = v c.args.w.now in
    written_runs c.in-Some.thread c.args.value s (v c.set_register.new.self) c.set_register.ensures
    (runner c.args.component.now q.number s q.order c.none_is_zero.ensures.threads q.runs c.in-Some.thread (sym c.current.ensures ∙ c.in-Some.is)).running

pub exit_direct-requires-clause-named : goal.exit_direct-requires-clause-named
exit_direct-requires-clause-named g c =
    let v = g.W.View.view in
    let q = c.requires.running in
    let s = v c.args.w.now in
    let live = (runner c.args.component.now q.number s q.order c.none_is_zero.ensures.threads q.runs c.in-Some.thread (sym c.current.ensures ∙ c.in-Some.is)).live in
    c.task_of-call.ensures.live (subst (λ (u : StateView). 0 < thread_of u c.in-Some.thread) (sym c.set_register.ensures) live)

pub exit_direct-requires-clause-under : goal.exit_direct-requires-clause-under
exit_direct-requires-clause-under g c =
    let v = g.W.View.view in
    let q = c.requires.running in
    let s = v c.args.w.now in
    direct_under c.in-Some.thread c.args.value s (v c.set_register.new.self) c.set_register.ensures c.args.component.now q.number q.order q.runs
    (number_at q.number s q.runs c.in-Some.thread (sym c.current.ensures ∙ c.in-Some.is)) c.requires.direct

pub returns-in-Continues : goal.returns-in-Continues
returns-in-Continues g c =
    let v = g.W.View.view in
    let q = c.requires.running in
    let s = v c.args.w.now in
    let e = c.in-Continues.ensures in
    let number = number_at q.number s q.runs c.in-Some.thread (sym c.current.ensures ∙ c.in-Some.is) in
    record {
      answers = (
        _,
        (
          exits_did c.args.component.now c.in-Some.thread c.args.value q.number s (v c.set_register.new.self) (v c.exit_direct.new.w) c.set_register.ensures q.runs number _ _ _ e.picks e.current e.works,
          refl,
        ),
      );
    }

pub returns-in-Traps : goal.returns-in-Traps
returns-in-Traps g c =
    let v = g.W.View.view in
    let q = c.requires.running in
    let s = v c.args.w.now in
    let t = v c.exit_direct.new.w in
    let r = op_result.Traps c.in-Traps.trap in
    let e = c.in-Traps.ensures in
    let number = number_at q.number s q.runs c.in-Some.thread (sym c.current.ensures ∙ c.in-Some.is) in
    let back = all_back c.in-Some.thread c.args.value c.register-before.result s (v c.set_register.new.self) t (v c.set_register-in-Traps.new.self) c.set_register.ensures c.register-before.ensures e.stays c.set_register-in-Traps.ensures in record {
      answers = (
        r,
        (
          subst (Did (exits_rule c.args.value s.core) s r) (sym back)
              (did_rule c.args.component.now q.number r s s q.runs tt refl (exits_rule c.args.value s.core) (λ id live. inl refl, refl)
              (loose_picks (preference s) _ (label_of q.number r) s.core r s.core (direct_exit_none SomeHost q.number (set_register q.number 0 c.args.value s.core) _ _) (silent_shows (preference s) s.core (label_of q.number r) (refl, refl))
              (subst (λ k. Implements (direct_exit_rule k (set_register k 0 c.args.value s.core)) s.core r s.core) number
              (exits_trapped c.in-Some.thread c.args.value s (v c.set_register.new.self) c.set_register.ensures t.core c.in-Traps.trap (picks_implements e.picks))))),
          refl,
        ),
      );
    }
