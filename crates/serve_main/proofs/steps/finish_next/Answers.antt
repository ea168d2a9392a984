-- The child that has ended is a call of a request that is open.
use Rattle.serve_requests.specs.declared.request.Stage.TheVariants.{Open}
use Rattle.serve_main.proofs.StepLemmas.{few_replied, finish_stepped, turned, turned_read, turned_thread, turned_value, turned_within}
use Rattle.serve_main.proofs.steps.finish_next.Goals as goal
use Rattle.std.proofs.Common.{arith, refl, rules, sym, ◌≡◌, ◌∙◌}

pub overflow_sub-place : goal.overflow_sub-place
overflow_sub-place g c =
    let e = turned g.H.HostWork.course c.args.component.now c.args.main.now c.args.access.now.store.now c.requires.may c.in-Some.child.number (sym c.in-Some.ensures.least) in
    let number = e.number in omega (arith, number)

pub index-requires : goal.index-requires
index-requires g c =
    let within = turned_within g.H.HostWork.course c.args.component.now c.args.main.now c.args.access.now.store.now c.requires.may c.in-Some.child.number (sym c.in-Some.ensures.least) in
    search (within, rules)

pub unreachable-requires : goal.unreachable-requires
unreachable-requires g c = c.in_default-index.not-Open _ (turned_read g.H.HostWork.course c.args.component.now c.args.main.now c.args.access.now.store.now c.requires.may c.in-Some.child.number (sym c.in-Some.ensures.least) c.index.result.now c.index.ensures)

pub unreachable-requires-in_default-value : goal.unreachable-requires-in_default-value
unreachable-requires-in_default-value g c =
    let v = turned_value g.H.HostWork.course c.args.component.now c.args.main.now c.args.access.now.store.now c.requires.may c.in-Some.child.number (sym c.in-Some.ensures.least) c.turn.new.self c.in-Some.ensures.ended.0 in
    let clash = sym c.in_default-value.is ∙ (c.value.ensures ∙ v) in
    absurd (cc)

pub index_mut-requires : goal.index_mut-requires
index_mut-requires g c =
    let within = turned_within g.H.HostWork.course c.args.component.now c.args.main.now c.args.access.now.store.now c.requires.may c.in-Some.child.number (sym c.in-Some.ensures.least) in
    search (within, rules)

pub overflow_add-main : goal.overflow_add-main
overflow_add-main g c = let few = few_replied _ _ _ _ _ _ _ c.requires.may.knows.keeps in omega (arith, few)

pub returns-clause-step : goal.returns-clause-step
returns-clause-step g c =
    let m = c.args.main.now in
    let s = c.args.access.now.store.now in
    let k = c.in-Some.child.number in
    let first = sym c.in-Some.ensures.least in
    let e = turned g.H.HostWork.course c.args.component.now m s c.requires.may k first in
    let ended = c.in-Some.ensures.ended in
    let v = turned_value g.H.HostWork.course c.args.component.now m s c.requires.may k first c.turn.new.self ended.0 in
    let values = sym c.in-Some-value.is ∙ (c.value.ensures ∙ v) in
    let same : c.in-Some-value.value ≡ e.value = cc in
    finish_stepped g.H.HostWork.course c.args.component.now m _ s c.turn.new.store c.requires.may k c.in-Some-value.value c.in-Open.thread e ended.0 ended.1
    (turned_thread g.H.HostWork.course c.args.component.now m s c.requires.may k first c.index.result.now c.in-Open.thread c.index.ensures c.in-Open.is)
    same refl refl refl refl refl refl c.in-Some.ensures.of c.in-Some.ensures.keeps.rest c.in-Some.ensures.hosts (c.in-Some.ensures.keeps.asked c.requires.may.groups)
