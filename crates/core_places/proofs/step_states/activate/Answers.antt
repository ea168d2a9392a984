use Rattle.core_records.proofs.Core.{ap, on_core, on_thread, seen, set_do_not_enter, StateView, thread_of, true, ◌∙◌}
use Rattle.core_places.proofs.StepLemmas.{activation}
use Rattle.core_places.proofs.step_states.activate.Goals as goal
use Rattle.core_places.specs.Moved.{to_begun}
use Rattle.core_primitives.specs.Context.{activating}
use Rattle.machine_rules.specs.Sets.{given_code, given_handle}

pub returns-clause-new : goal.returns-clause-new
unfolding activating
returns-clause-new c =
    let s = seen c.args.parts.now in
    let n = thread_of s c.args.thread in
    let w = c.words_of.result in
    let done = on_core (set_do_not_enter c.args.instance true) s in
    c.put_begun.ensures.new
    ∙ (ap (λ (v : StateView). on_core (on_thread (thread_of v c.args.thread) (to_begun w.0 w.1 w.2)) v) c.set_do_not_enter.ensures.new
    ∙ (ap (λ x. on_core (on_thread n (to_begun x w.1 w.2)) done) c.words_of.ensures.code
    ∙ (ap (λ x. on_core (on_thread n (to_begun (given_code c.args.given) x w.2)) done) c.words_of.ensures.handle
    ∙ (ap (λ x. on_core (on_thread n (to_begun (given_code c.args.given) (given_handle c.args.given) x)) done) c.words_of.ensures.status
    ∙ ap (λ x. record s { core = x }) (activation n c.args.instance c.args.given s.core)))))
