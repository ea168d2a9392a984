-- The machine refuses the start, and nothing is told.
use Rattle.ops_state.specs.declared.error.TaskError.TheVariants as task_error
use Rattle.std.proofs.Common.{refl, sym, ◌∙◌}
use Rattle.task_loop.proofs.CallStartLemmas.{keeps_all, leaves_told_none, reason_refused}
use Rattle.task_loop.proofs.HookStartLemmas.{refusal_other}
use Rattle.task_loop.proofs.call.Func.start_untrapped.Goals as goal
use Rattle.machine_rules.specs.MainOps.{start_refusal}

pub returns-in-Some : goal.returns-in-Some
returns-in-Some g c =
    let s = c.args.store.now in
    let core = s.state.core in
    let listens = g.G.TaskGroupHook.listens in
    let is = sym c.start_refusal.ensures ∙ c.in-Some.is in
    record {
      does = leaves_told_none listens (start_refusal core) s s (task_error.Trap c.in-Some.trap)
          (reason_refused listens (start_refusal core) c.in-Some.trap s.listeners s.listeners is)
          (λ e. refusal_other core c.in-Some.trap is (let q = e in cc)) refl refl;
      keeps = keeps_all c.args.component.now s;
    }
