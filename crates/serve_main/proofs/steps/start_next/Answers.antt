-- The next request is started, or its start is refused.
use Rattle.serve_requests.specs.declared.request.Request.{Request}
use Rattle.serve_main.proofs.StepLemmas.{begun_stepped, begun_thread, refused_stepped, waited_by, was_full}
use Rattle.vatbramble_host.proofs.SpawnLemmas.{there_at}
use Rattle.serve_main.proofs.steps.start_next.Goals as goal
use Rattle.std.proofs.Common.{ap, arith, inl, refl, subst, sym, ◌∙◌, ◌+◌}
use Rattle.std.specs.Prelude.{Err, Result, false, ◌<◌, ◌≡◌}
use Rattle.task_nursery.specs.Children.{is_open_call}
use Rattle.task_nursery.specs.Numbers.{count_where}
use Rattle.core_primitives.specs.Groups.{IsAsked}
use Rattle.task_nursery.specs.Scope.{ScopeBegins, Refuses, TellsStart}
use Rattle.task_nursery.specs.declared.children.Child.{Child}
use Rattle.task_loop.specs.Constants.{constants}
use Rattle.task_nursery.specs.declared.nursery.NurseryError.{NurseryError}
use Rattle.task_nursery.specs.declared.nursery.NurseryError.TheVariants as error

pub start-started-requires-clause-takes : goal.start-started-requires-clause-takes
start-started-requires-clause-takes g c =
    let takes = c.requires.may.suits c.args.main.now.started c.in-Some.request.now (there_at c.args.main.now.requests.now c.args.main.now.started c.in-Some.request.now c.in-Some.ensures.lookup.3.0 c.in-Some.ensures.lookup.1) in
    rw (c.func_of.ensures, c.as_slice.ensures) (takes.there, takes.params)

pub unreachable-requires : goal.unreachable-requires
unreachable-requires g c =
    let m = c.args.main.now in
    let b = begun_thread g.H.HostWork.course c.args.component.now m m c.args.access.now.store.now c.args.access.now.store.now c.requires.may c.in-Some.request.now (there_at c.args.main.now.requests.now c.args.main.now.started c.in-Some.request.now c.in-Some.ensures.lookup.3.0 c.in-Some.ensures.lookup.1) c.requires.undue c.start-started.new.self c.start-started.new.store c.in-Ok.child c.in-Ok.ensures.begins.refuses
    (rw (c.func_of.ensures, c.as_slice.ensures) at c.in-Ok.ensures.begins.begins) in
    let clash = sym c.in_default-thread.is ∙ (c.thread.ensures ∙ b.1) in
    absurd (cc)

pub returns-in-Some-thread-clause-step : goal.returns-in-Some-thread-clause-step
returns-in-Some-thread-clause-step g c =
    let m = c.args.main.now in
    let s = c.args.access.now.store.now in
    let t = c.start-started.new.store in
    begun_stepped g.H.HostWork.course c.args.component.now m _ s t c.requires.may c.in-Some.request.now (there_at c.args.main.now.requests.now c.args.main.now.started c.in-Some.request.now c.in-Some.ensures.lookup.3.0 c.in-Some.ensures.lookup.1) c.requires.undue c.in-Ok.child c.in-Some-thread.thread (m.started + 1) (omega arith)
    c.requires.trapped c.in-Ok.ensures.begins.refuses (rw (c.func_of.ensures, c.as_slice.ensures) at c.in-Ok.ensures.begins.begins) (sym c.in-Some-thread.is ∙ c.thread.ensures) c.in-Ok.ensures.begins.of c.in-Ok.ensures.begins.told c.in-Ok.ensures.keeps.rest
    (c.in-Ok.ensures.keeps.works g.H.HostWork.course c.requires.may.hosts) (c.in-Ok.ensures.keeps.asked c.requires.may.groups) refl refl refl refl refl refl

pub returns-in-Err-Trap-clause-step : goal.returns-in-Err-Trap-clause-step
returns-in-Err-Trap-clause-step g c =
    let m = c.args.main.now in
    let s = c.args.access.now.store.now in
    let t = c.start-started.new.store in
    let n = c.start-started.new.self in
    let e = c.start-started.ensures in
    let is = c.in-Err-Trap.is ∙ ap (λ (w : NurseryError). Err w) (rw c.in-Err-Trap.is at c.in-Err-Trap.field-0-is) in
    let begins = subst (λ (r : Result Child NurseryError). m.nursery.closed ≡ false → count_where is_open_call m.nursery.children < m.nursery.limit → ScopeBegins c.args.component.now c.func_of.result c.as_slice.result.now m.nursery s r n t) is e.begins.begins in
    refused_stepped g.H.HostWork.course c.args.component.now m _ s t c.requires.may c.in-Some.request.now (there_at c.args.main.now.requests.now c.args.main.now.started c.in-Some.request.now c.in-Some.ensures.lookup.3.0 c.in-Some.ensures.lookup.1) c.requires.undue c.in-Err-Trap.trap (m.started + 1) (omega arith)
    (subst (λ (r : Result Child NurseryError). Refuses m.nursery s r n t) is e.begins.refuses)
    (rw (c.func_of.ensures, c.as_slice.ensures) at begins)
    e.begins.of (subst (λ (r : Result Child NurseryError). IsAsked s.state → TellsStart r s t) is e.begins.told) e.keeps.rest (e.keeps.works g.H.HostWork.course c.requires.may.hosts) (e.keeps.asked c.requires.may.groups) refl refl refl refl refl refl

pub returns-in-Err-Closed-clause-step : goal.returns-in-Err-Closed-clause-step
returns-in-Err-Closed-clause-step g c =
    let m = c.args.main.now in
    let s = c.args.access.now.store.now in
    let t = c.start-started.new.store in
    let n = c.start-started.new.self in
    let e = c.start-started.ensures in
    let is = c.in-Err-Closed.is ∙ ap (λ (w : NurseryError). Err w) (rw c.in-Err-Closed.is at c.in-Err-Closed.field-0-is) in
    let refuses = subst (λ (r : Result Child NurseryError). Refuses m.nursery s r n t) is e.begins.refuses in
    let full = was_full m.nursery n s t c.requires.may.knows.unclosed c.args.component.now c.func_of.result c.as_slice.result.now (Err error.Closed) refuses (λ b. b)
    (subst (λ (r : Result Child NurseryError). count_where is_open_call m.nursery.children < m.nursery.limit → ScopeBegins c.args.component.now c.func_of.result c.as_slice.result.now m.nursery s r n t) is (e.begins.begins c.requires.may.knows.unclosed)) in (
      waited_by g.H.HostWork.course c.args.component.now m s _ t (ap (λ k. record m { nursery = k }) refuses.same) (ap (λ q. q.state) full.1) (ap (λ q. q.listeners) full.1)
          (ap constants full.1) (e.keeps.works g.H.HostWork.course c.requires.may.hosts) c.requires.may,
      inl full.0,
    )

pub returns-in-Err-Full-clause-step : goal.returns-in-Err-Full-clause-step
returns-in-Err-Full-clause-step g c =
    let m = c.args.main.now in
    let s = c.args.access.now.store.now in
    let t = c.start-started.new.store in
    let n = c.start-started.new.self in
    let e = c.start-started.ensures in
    let is = c.in-Err-Full.is ∙ ap (λ (w : NurseryError). Err w) (rw c.in-Err-Full.is at c.in-Err-Full.field-0-is) in
    let refuses = subst (λ (r : Result Child NurseryError). Refuses m.nursery s r n t) is e.begins.refuses in
    let full = was_full m.nursery n s t c.requires.may.knows.unclosed c.args.component.now c.func_of.result c.as_slice.result.now (Err error.Full) refuses (λ b. b)
    (subst (λ (r : Result Child NurseryError). count_where is_open_call m.nursery.children < m.nursery.limit → ScopeBegins c.args.component.now c.func_of.result c.as_slice.result.now m.nursery s r n t) is (e.begins.begins c.requires.may.knows.unclosed)) in (
      waited_by g.H.HostWork.course c.args.component.now m s _ t (ap (λ k. record m { nursery = k }) refuses.same) (ap (λ q. q.state) full.1) (ap (λ q. q.listeners) full.1)
          (ap constants full.1) (e.keeps.works g.H.HostWork.course c.requires.may.hosts) c.requires.may,
      inl full.0,
    )

pub returns-in-Err-NoMemory-clause-err : goal.returns-in-Err-NoMemory-clause-err
returns-in-Err-NoMemory-clause-err g c =
    let s = c.args.access.now.store.now in
    let t = c.start-started.new.store in
    let is = c.in-Err-NoMemory.is ∙ ap (λ (w : NurseryError). Err w) (rw c.in-Err-NoMemory.is at c.in-Err-NoMemory.field-0-is) in
    (refl, subst (λ (r : Result Child NurseryError). IsAsked s.state → TellsStart r s t) is c.start-started.ensures.begins.told c.requires.may.groups)
