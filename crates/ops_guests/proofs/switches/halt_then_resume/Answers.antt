-- The thread goes first, and then the strand stops.
use Rattle.machine_rules.proofs.CalmLemmas.{resume_rule_calm}
use Rattle.std.proofs.Common.{ap, subst, ◌∙◌}
use Rattle.std.specs.Prelude.{Bool, Result}
use Rattle.machine_data.specs.declared.trap.Trap.{Trap}
use Rattle.ops_guests.proofs.DoesLemmas.{calm_same}
use Rattle.ops_guests.proofs.SwitchLemmas.{comes_same, resume_refused, resume_stops, resumed_runs}
use Rattle.ops_guests.proofs.switches.halt_then_resume.Goals as goal
use Rattle.ops_guests.specs.Halting.{ComesFirst, halt_of, resumed_first}
use Rattle.machine_data.specs.declared.label.Label.TheVariants as label
use Rattle.machine_data.specs.declared.label.ThreadLabel.TheVariants as thread_label
use Rattle.core_primitives.specs.StateView.{StateView, thread_of}

pub stop_top-requires-clause-running : goal.stop_top-requires-clause-running
stop_top-requires-clause-running g c = resumed_runs c.args.thread c.args.handle (g.W.View.view c.args.w.now) _ _ c.requires.running c.resume_first.ensures

pub returns-in-Err : goal.returns-in-Err
returns-in-Err g c =
    let s = g.W.View.view c.args.w.now in
    let t = g.W.View.view c.resume_first.new.w in
    let f = resumed_first (thread_of s c.args.thread) c.args.handle s.core in
    let same = comes_same f s t _ c.resume_first.ensures in
    record {
      does = calm_same _ c.args.thread s t _
          (λ d. resume_rule_calm d (thread_of s c.args.thread) s.core (halt_of c.args.yielding) c.args.handle)
          (λ d. resume_refused (halt_of c.args.yielding) (label.Thread (thread_label.Pauses 0)) c.args.thread c.args.handle s t t c.in-Err.trap (subst (λ (r : Result Bool Trap). ComesFirst f s r t) c.in-Err.is c.resume_first.ensures))
          same.0 same.1;
    }

pub returns : goal.returns
returns g c =
    let s = g.W.View.view c.args.w.now in
    let t = g.W.View.view c.resume_first.new.w in
    let u = g.W.View.view c.stop_top.new.w in
    let f = resumed_first (thread_of s c.args.thread) c.args.handle s.core in
    let same = comes_same f s t _ c.resume_first.ensures in
    record {
      does = calm_same _ c.args.thread s u _
          (λ d. resume_rule_calm d (thread_of s c.args.thread) s.core (halt_of c.args.yielding) c.args.handle)
          (λ d. resume_stops (halt_of c.args.yielding) (label.Thread (thread_label.Pauses 0)) c.args.thread c.args.handle s t u _ c.in_default.field-0 c.number-number.ensures (subst (λ (r : Result Bool Trap). ComesFirst f s r t) c.in_default.is c.resume_first.ensures) c.stop_top.ensures)
          (ap (λ (v : StateView). v.tags) c.stop_top.ensures ∙ same.0) (ap (λ (v : StateView). v.current) c.stop_top.ensures ∙ same.1);
    }
