-- The rule of the call is done, and its work is settled.
use Rattle.ops_state.specs.declared.error.TaskError.TheVariants as task_error
use Rattle.std.proofs.Common.{ap, refl, subst, sym, ◌∙◌}
use Rattle.std.specs.Prelude.{Err, is_ok, true, ◌≡◌}
use Rattle.ops_calls.specs.HostOps.{Answers}
use Rattle.ops_calls.specs.OpAnswers.{value_answered}
use Rattle.ops_calls.specs.PolledCalls.{blocks_rule}
use Rattle.task_loop.proofs.HostCallLemmas.{after_settled, held_answers, may_tell, own_held, settle_rest, blocked_holds}
use Rattle.task_loop.proofs.InstanceCallLemmas.{held_state, is_told, settled_listeners, settled_rest, settled_state, unheld_rest}
use Rattle.task_loop.proofs.ToldLemmas.{told_core}
use Rattle.task_loop.proofs.TrackedLemmas.{answers_known}
use Rattle.task_loop.proofs.RuleTrapLemmas.{blocked_not}
use Rattle.task_loop.proofs.instance.Instance.poll_and_block.Goals as goal
use Rattle.task_loop.specs.InstanceCalls.{may_pause}
use Rattle.task_group.specs.Listeners.{Listeners}
use Rattle.task_loop.specs.Told.{TellsCall}
use Rattle.machine_data.specs.Core.{Core, Unscripted}
use Rattle.machine_data.specs.declared.component.HostDef.{HostDef}
use Rattle.ops_subtasks.specs.First.{first_heard}
use Rattle.machine_rules.specs.Calls.{next_work}
use Rattle.task_store.proofs.HostLemmas.{holds_as}
use Rattle.task_store.specs.Hosts.{HoldsWorks, held_by}
use Rattle.core_primitives.specs.StateView.{StateView}

pub returns : goal.returns
returns g c =
    let listens = g.G.TaskGroupHook.listens in
    let course = g.H.HostWork.course in
    let s = c.args.store.now in
    let d = c.args.component.now in
    let q = c.requires.running in
    let held = c.hold_next.new.self in
    let block = c.block_on_host-answer in
    let u = block.new.w in
    let m = c.settle.new.store in
    let told = c.tell_call.ensures in
    let work = course c.args.work in
    let heard = c.poll_held-told.result in
    let asked = c.poll_held-told.new.self in
    let found = first_heard work heard in
    let row = blocks_rule found s.state.core in
    let left = held_by course s in
    let right = held_by course m in
    let answers =
    subst (λ (h : HostDef). Answers true (blocks_rule (first_heard h heard) s.state.core) value_answered s.state block.result u) c.left-host.ensures
    (subst (λ (v : StateView). Answers true (blocks_rule (first_heard c.left-host.result heard) v.core) value_answered v block.result u) (ap (λ k. k.state) c.poll_held-told.ensures.rest ∙ held_state s held c.in-Ok.ensures.rest)
    block.ensures.answers) in
    let settles = settle_rest held asked m u c.poll_held-told.ensures.rest c.settle.ensures.rest in
    let tells = held_answers work (held_by course held c.in-Ok.number) heard (own_held (next_work s.state.core) c.in-Ok.number work left (held_by course held) c.in-Ok.ensures.number c.in-Ok.ensures.ok) c.poll_held-told.ensures.answer in
    let still = settled_state s held m u c.in-Ok.ensures.rest settles in
    let heard_all : TellsCall listens c.asked-before.result block.result c.tell_call.result u c.tell_call.new.core s.listeners c.tell_call.new.listeners =
    subst (λ (l : Listeners). TellsCall listens c.asked-before.result block.result c.tell_call.result u c.tell_call.new.core l c.tell_call.new.listeners) (settled_listeners s held m u c.in-Ok.ensures.rest settles)
    (subst (λ (v : StateView). TellsCall listens c.asked-before.result block.result c.tell_call.result v c.tell_call.new.core m.listeners c.tell_call.new.listeners) still told) in
    record {
      does = (
        heard,
        (
          tells,
          record {
            told = is_told listens (λ a v. Answers true row value_answered s.state (may_pause a) v) s u c.tell_call.new.core c.tell_call.new.listeners c.asked-before.result c.asked-before.ensures
                block.result c.tell_call.result answers (answers_known s.state u q.number q.runs true row value_answered block.result answers) (λ e. blocked_not s.state u d q found value_answered block.result answers e) heard_all
                (record m { state = c.tell_call.new.core; listeners = c.tell_call.new.listeners }) refl refl;
            works = subst (λ (d : Core). HoldsWorks right d) (sym (told_core listens c.asked-before.result block.result c.tell_call.result u c.tell_call.new.core s.listeners c.tell_call.new.listeners heard_all))
                (blocked_holds work heard tells s.state u q.number q.runs left right (q.order.order Unscripted).works.made c.requires.hosts block.result answers
                (after_settled (next_work s.state.core) c.in-Ok.number work heard (is_ok block.result) left (held_by course held) (held_by course asked) right
                c.in-Ok.ensures.number c.in-Ok.ensures.ok c.poll_held-told.ensures.left c.settle.ensures.left));
            rest = settled_rest s held m u c.in-Ok.ensures.rest settles c.tell_call.new.core c.tell_call.new.listeners;
          },
        ),
      );
    }

-- out of memory: the work isn't held
pub returns-in_default : goal.returns-in_default
returns-in_default g c =
    let listens = g.G.TaskGroupHook.listens in
    let course = g.H.HostWork.course in
    let s = c.args.store.now in
    let held = c.hold_next.new.self in
    let same : held.state ≡ s.state = held_state s held c.hold_next.ensures.rest in
    let work = course c.args.work in
    let some = may_tell work in
    let row = blocks_rule (first_heard work some.0) s.state.core in
    let heard_all : TellsCall listens c.asked-before.result (Err task_error.NoMemory) c.tell_refused.result s.state c.tell_refused.new.core s.listeners c.tell_refused.new.listeners =
    subst (λ (l : Listeners). TellsCall listens c.asked-before.result (Err task_error.NoMemory) c.tell_refused.result s.state c.tell_refused.new.core l c.tell_refused.new.listeners) (ap (λ k. k.listeners) c.hold_next.ensures.rest)
    (subst (λ (v : StateView). TellsCall listens c.asked-before.result (Err task_error.NoMemory) c.tell_refused.result v c.tell_refused.new.core held.listeners c.tell_refused.new.listeners) same c.tell_refused.ensures) in
    record {
      does = (
        some.0,
        (
          some.1,
          record {
            told = is_told listens (λ a v. Answers true row value_answered s.state (may_pause a) v) s s.state c.tell_refused.new.core c.tell_refused.new.listeners c.asked-before.result c.asked-before.ensures
                (Err task_error.NoMemory) c.tell_refused.result (refl, refl) refl (λ e. absurd (cc)) heard_all (record held { state = c.tell_refused.new.core; listeners = c.tell_refused.new.listeners }) refl refl;
            works = subst (λ (d : Core). HoldsWorks (held_by course held) d) (sym (told_core listens c.asked-before.result _ c.tell_refused.result s.state c.tell_refused.new.core s.listeners c.tell_refused.new.listeners heard_all))
                (holds_as s.state.core (held_by course s) (held_by course held) c.in_default.ensures.err c.requires.hosts);
            rest = unheld_rest s held c.hold_next.ensures.rest c.tell_refused.new.core c.tell_refused.new.listeners;
          },
        ),
      );
    }

-- a work that is held runs
pub poll_held-told-requires : goal.poll_held-told-requires
poll_held-told-requires g c =
    let course = g.H.HostWork.course in
    let s = c.args.store.now in
    let held = c.hold_next.new.self in
    (course c.args.work, own_held (next_work s.state.core) c.in-Ok.number (course c.args.work) (held_by course s) (held_by course held) c.in-Ok.ensures.number c.in-Ok.ensures.ok)
