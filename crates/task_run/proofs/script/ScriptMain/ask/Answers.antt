-- If another thread was first, main has passed its op.
use Rattle.std.proofs.Common.{ap, refl, sym, ◌∙◌}
use Rattle.std.proofs.lemmas.Option.{slice_get-map}
use Rattle.std.specs.Option.{option_map}
use Rattle.std.specs.Prelude.{Some, slice_get, ℕ, ◌≡◌}
use Rattle.machine_data.specs.Core.{Scripted}
use Rattle.task_run.proofs.script.ScriptMain.ask.Goals as goal
use Rattle.task_run.specs.Script.{machine_op, place_of}
use Rattle.task_run.specs.declared.scenario.MainOp.{MainOp}
use Rattle.task_run.specs.declared.scenario.MainOp.TheVariants as main_op

pub returns-then-branch-clause-found : goal.returns-then-branch-clause-found
returns-then-branch-clause-found g c =
    let main = c.args.self.now in
    let p = place_of main in
    let at : slice_get main.ops.now main.at ≡ Some (main_op.Abort c.in-Some-Abort.spawn) = sym c.in-Some-Abort.ensures ∙ ap (λ (o : MainOp). Some o) c.in-Some-Abort.field-0-is in
    record {
      place = p;
      before = refl;
      op = slice_get-map machine_op main.ops.now main.at ∙ ap (option_map machine_op) at;
      after = ap (λ (i : ℕ). Scripted (record p { position = i })) c.next_place-self.ensures;
      running = c.runs-running.ensures (c.in_ok-aborts-in-Some-Abort.ensures.running c.if-branch.true);
      suits = λ k q. q;
      knows = λ q. q;
    }
