-- The call is made, and in a trapped store all groups are finished then.
use Rattle.std.proofs.Common.{ap, arith, inl, le_refl, subst, sym, ◌∙◌, refl}
use Rattle.std.specs.Prelude.{Bool, Ok, is_some, ◌≡◌, ◌≤◌, false, true}
use Rattle.ops_calls.proofs.TaskLemmas.{begun_in_order}
use Rattle.task_group.specs.Listeners.{Listeners, errors_of}
use Rattle.task_loop.proofs.GuestCallLemmas.{hears_of, makes_on, on_ok_of, rest_with, settled_ok}
use Rattle.task_loop.proofs.GuestTaskLemmas.{begun_hosts, begun_open, still_hosts, begun_asked}
use Rattle.task_loop.proofs.HookStartLemmas.{ok_or_err, if_hook_ok_at}
use Rattle.task_loop.proofs.NewTaskLemmas.{begins_core, err_is, unmade_heard}
use Rattle.task_loop.proofs.guest_tasks.new_guest_task.Goals as goal
use Rattle.task_loop.specs.Begun.{MakesTold, SettlesGroups}
use Rattle.task_loop.specs.GuestCalls.{has_room}
use Rattle.machine_data.specs.Core.{Core}
use Rattle.machine_data.specs.declared.trap.Trap.TheVariants as trap
use Rattle.ops_state.specs.declared.error.TaskError.TheVariants as task_error
use Rattle.task_store.specs.Hosts.{HoldsWorks, held_by}
use Rattle.ops_turns.specs.Turn.{CoreInOrder}
use Rattle.core_primitives.specs.StateView.{StateView}
use Rattle.core_primitives.specs.Groups.{IsAsked}

settles_core : (b : Bool) (left t : StateView) (old new : Listeners) → SettlesGroups b left t old new → t.core ≡ left.core
settles_core true left t old new q = ap (λ (v : StateView). v.core) q.0
settles_core false left t old new q = ap (λ (v : StateView). v.core) q.0

settles_hook : (b : Bool) (left t : StateView) (old new : Listeners) → SettlesGroups b left t old new → is_some new.hook ≡ is_some old.hook
settles_hook true left t old new q = q.1.same_hook
settles_hook false left t old new q = ap (λ (l : Listeners). is_some l.hook) q.1

settles_errors : (b : Bool) (left t : StateView) (old new : Listeners) → SettlesGroups b left t old new → errors_of old ≤ errors_of new
settles_errors true left t old new q = q.1.errors
settles_errors false left t old new q = subst (λ (l : Listeners). errors_of old ≤ errors_of l) (sym q.1) (le_refl _)

settles_asked : (b : Bool) (left t : StateView) (old new : Listeners) → SettlesGroups b left t old new → (b ≡ false → IsAsked left) → IsAsked t
settles_asked true left t old new q h = subst (λ (v : StateView). IsAsked v) (sym q.0) refl
settles_asked false left t old new q h = subst (λ (v : StateView). IsAsked v) (sym q.0) (h refl)

settles_open : (b : Bool) (left t : StateView) (old new : Listeners) → b ≡ false → SettlesGroups b left t old new → new ≡ old
settles_open true left t old new is q = absurd (cc)
settles_open false left t old new is q = q.1

pub returns-in-Ok : goal.returns-in-Ok
returns-in-Ok g c =
    let store = c.args.store.now in
    let s = store.state in
    let listens = g.G.TaskGroupHook.listens in
    let x = c.args.kind in
    let i = c.args.instance in
    let f = c.args.caller in
    let room = has_room f s in
    let made = c.make.new.store in
    let u = c.settle.new.core in
    let new = c.settle.new.listeners in
    let r = c.settle.result in
    let e = c.in-Ok.ensures.makes in
    let settle = c.settle.ensures in
    let b = made.state.core.trapped in
    let core = begins_core x i f s made.state room c.in-Ok.id e.begins in
    let told : MakesTold x i f room s c.in-Ok.id u store.listeners new = record { left = made.state; begins = e.begins; between = made.listeners; begun = e.begun; settles = settle.settles } in
    record {
      does = record {
        hears = λ hook. hears_of listens made.listeners new (r ≡ Ok c.in-Ok.id) settle.answer (λ ok. ok_or_err r _ _ ok hook);
        makes = makes_on x i f store (record made { state = u; listeners = new }) c.in-Ok.id told (settles_errors b made.state u made.listeners new settle.settles) listens r settle.answer settle.failed;
        kept = λ untrapped.
            let same = settles_open b made.state u made.listeners new (begun_open x i f s made.state core untrapped) settle.settles in
            on_ok_of _ r c.in-Ok.id (if_hook_ok_at listens made.listeners new (r ≡ Ok c.in-Ok.id) settle.answer (λ err. let no = ap errors_of same in omega (arith, err, no)));
        refused = settled_ok listens store.listeners made.listeners new _ r c.in-Ok.id e.begun.told.same_hook (settles_hook b made.state u made.listeners new settle.settles) settle.answer;
        order = λ component p kind in_turn. subst (CoreInOrder component p) (sym (settles_core b made.state u made.listeners new settle.settles ∙ core)) (begun_in_order component p i s in_turn x f kind);
        works = λ course h. rw c.in-Ok.ensures.rest
            (subst (λ (d : Core). HoldsWorks (held_by course store) d) (sym (settles_core b made.state u made.listeners new settle.settles)) (begun_hosts (held_by course store) x i f s made.state core h));
        asked = λ is. settles_asked b made.state u made.listeners new settle.settles (λ untrapped. begun_asked x i f s made.state room c.in-Ok.id e.begins untrapped is);
        rest = rest_with store made u new c.in-Ok.ensures.rest;
      };
    }

pub returns-in-Err : goal.returns-in-Err
returns-in-Err g c =
    let store = c.args.store.now in
    let s = store.state in
    let listens = g.G.TaskGroupHook.listens in
    let f = c.args.caller in
    let made = c.make.new.store in
    let room = has_room f s in
    let why = c.in-Err.e in
    let e = c.in-Err.ensures.makes in
    record {
      does = record {
        hears = λ hook. (unmade_heard listens room why store.listeners made.listeners e.reason (err_is why (task_error.Trap trap.HookFailed) hook)).0;
        makes = (e.reason, inl (e.state, e.told));
        kept = λ untrapped. e.state;
        refused = e.unhooked;
        order = λ component p kind in_turn. subst (λ (v : StateView). CoreInOrder component p v.core) (sym e.state) in_turn;
        works = λ course h. rw c.in-Err.ensures.rest (still_hosts (held_by course store) s made.state e.state h);
        asked = λ is. subst (λ (v : StateView). IsAsked v) (sym e.state) is;
        rest = c.in-Err.ensures.rest;
      };
    }
