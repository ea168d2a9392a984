-- The run begins in a new store, and what main did in it serves the requests.
use Rattle.serve_requests.specs.Serving.{Asked}
use Rattle.serve_requests.specs.declared.request.Request.{Request}
use Rattle.serve_main.proofs.ServeLemmas.{served_driven}
use Rattle.serve_main.proofs.serving.serve_scenario.Goals as goal
use Rattle.serve_main.specs.Knows.{AllTaken}
use Rattle.std.proofs.Common.{ap, arith, refl, subst, sym, ◌∙◌}
use Rattle.std.specs.Prelude.{Bool, List, []}
use Rattle.task_loop.proofs.BeginLemmas.{may_open}
use Rattle.task_loop.proofs.MainToldLemmas.{fresh_asked}
use Rattle.machine_data.specs.Core.{Unscripted}
use Rattle.machine_data.specs.declared.records.Turn.{Turn}
use Rattle.ops_turns.specs.Turn.{setting_of, state_at}

pub drive-driven-requires : goal.drive-driven-requires
drive-driven-requires c =
    let x = c.args.scenario.now in
    let s = c.in_ok-store.store in
    record {
      may = may_open _ _ _ c.in-Ok.run' c.in-Ok.ensures.turn c.in_ok-main.main
          (subst (λ (qs : List Request). AllTaken x.component qs) (sym (ap (λ (a : Asked). a.requests) c.in_ok-main.ensures.asked)) c.requires.taken)
          c.requires.runnable.component s _ c.run_concurrent.ensures.store _ c.requires.runnable.codes x.rules c.len.result x.handles x.table (rw c.len.ensures (omega arith))
          c.in_ok-store.ensures.state c.in_ok-store.ensures.works (c.in_ok-main.ensures.knows _)
          (fresh_asked x.rules c.len.result x.handles x.table s.state c.in_ok-store.ensures.state);
    }

pub returns : goal.returns
returns c =
    let x = c.args.scenario.now in
    let gone = c.in-Ok-driven.ensures.drives.gone in
    let ran = gone.has.ran in
    served_driven x c.args.requests.now c.args.limit c.args.steps _ c.in_ok-main.main c.drive-driven.new.main _ _ _ _ ran.added
    (ap (λ (b : Bool). setting_of x.component [] b) c.in-Ok.ensures.idle ∙ ap (λ i. record { component = x.component; script = []; idle = i }) c.traps_on_idle.ensures)
    (ap (λ (p : Turn). state_at c.run_concurrent.new.store.state.core Unscripted p) c.in-Ok.ensures.turn ∙ rw (c.run_concurrent.ensures.store, c.in_ok-store.ensures.state, c.len.ensures) refl)
    c.new-trace.ensures ran.trace ran.run ran.mains gone.has.few gone.outcome c.in_ok-main.ensures.asked c.in_ok-main.ensures.stages c.in_ok-replies.ensures
