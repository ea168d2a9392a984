use Rattle.core_makes.proofs.NodeLemmas.{call_loose_kept, chains_apart, extends_on}
use Rattle.core_makes.proofs.node_makes.new_call_thread_nodes.Goals as goal
use Rattle.core_makes.specs.LooseCalls.{AreCallAndThreadLoose}
use Rattle.core_records.proofs.Core.{ap, bare, Bool, parts_of, place_chain, subst, sym, ◌∙◌}
use Rattle.core_records.specs.Names.{keeps_waits}
use Rattle.core_records.specs.declared.{parts.CoreParts.CoreParts}
use Rattle.machine_data.specs.declared.scenario.Version.{Version}

pub returns-clause-loose : goal.returns-clause-loose
returns-clause-loose c =
    let b = c.new_call_nodes.new.parts in
    let e = c.new_thread_nodes.new.parts in
    let only = (extends_on c.args.parts.now b e c.in_ok-call.ensures.extends c.in_ok-thread.ensures.extends).only in
    let keeps = c.keeps_waits-waits.result in
    let loose : AreCallAndThreadLoose (bare (parts_of e)) keeps c.in_ok-call.call c.in_ok-thread.thread = record {
      call = call_loose_kept b e c.in_ok-thread.ensures.extends keeps c.in_ok-call.call c.in_ok-call.ensures.loose;
      thread = c.in_ok-thread.ensures.loose;
      two = chains_apart (place_chain (bare (parts_of b))) b.places c.in_ok-call.call.blocked c.in_ok-thread.thread.under c.in_ok-call.ensures.loose.blocked c.in_ok-thread.ensures.under;
    } in
    subst (λ (k : Bool). AreCallAndThreadLoose (bare (parts_of e)) k c.in_ok-call.call c.in_ok-thread.thread)
    (c.keeps_waits-waits.ensures ∙ ap (λ (v : Version). keeps_waits v c.args.kind) (sym (ap (λ (y : CoreParts). y.version) only))) loose

pub returns-clause-extends : goal.returns-clause-extends
returns-clause-extends c = extends_on c.args.parts.now c.new_call_nodes.new.parts c.new_thread_nodes.new.parts c.in_ok-call.ensures.extends c.in_ok-thread.ensures.extends
