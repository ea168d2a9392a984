use Rattle.std.proofs.Common.{ap, arith, subst, sym, ◌≡◌, ◌∙◌}
use Rattle.std.specs.Prelude.{Bool, IfSome, Ok, Option, true, ℕ}
use Rattle.ops_calls.proofs.CallLemmas.{found_kind}
use Rattle.ops_calls.proofs.StartLemmas.{few_words, prepared}
use Rattle.ops_calls.proofs.start_calls.prepare_call.Goals as goal
use Rattle.ops_state.specs.declared.name_calls.QualifiedThreadId.{QualifiedThreadId}
use Rattle.ops_calls.specs.Prepared.{Prepares, goal_for}
use Rattle.machine_data.specs.Read.{fits, thread_group}
use Rattle.machine_data.specs.declared.component.ExportKind.{ExportKind}
use Rattle.machine_data.specs.declared.records.Caller.TheVariants as caller
use Rattle.machine_data.specs.declared.records.Goal.{Goal}
use Rattle.machine_data.specs.declared.records.Turn.TheVariants as turn
use Rattle.ops_guests.specs.Running.{IsRunning}
use Rattle.machine_rules.specs.Calls.{call_made}
use Rattle.machine_rules.specs.Scripts.{export_kind}
use Rattle.ops_turns.proofs.CoveredLemmas.{home_there}
use Rattle.ops_turns.proofs.OrderLemmas.{number_at, runner}

pub make_call-requires-clause-live : goal.make_call-requires-clause-live
make_call-requires-clause-live g c =
    let q = c.requires.running in
    (runner c.args.component.now q.number (g.W.View.view c.args.w.now) q.order c.none_is_zero.ensures.threads q.runs c.in-Some.from (sym c.current.ensures ∙ c.in-Some.is)).live

pub make_call-requires-clause-there : goal.make_call-requires-clause-there
make_call-requires-clause-there g c =
    let q = c.requires.running in
    home_there c.args.component.now c.args.callee (turn.Run q.number) (g.W.View.view c.args.w.now).core q.order c.requires.there

pub make_call-requires-clause-words : goal.make_call-requires-clause-words
make_call-requires-clause-words g c = few_words c.args.component.now c.args.callee c.in-Some-export_def.def.now _ c.requires.running.well_formed c.in-Some-export_def.ensures c.requires.words

pub returns : goal.returns
returns g c =
    let v = g.W.View.view in
    let q = c.requires.running in
    let s = v c.args.w.now in
    let t = v c.make_call.new.self in
    let comp = c.args.component.now in
    let f = c.args.callee in
    let words = c.args.words.now in
    let to = goal_for c.args.async_caller c.args.register in
    let e = c.in-Ok.ensures in
    let id : QualifiedThreadId = record { task = c.in-Ok.task; thread = c.in-Ok.thread } in
    let number = number_at q.number s q.runs c.in-Some.from (sym c.current.ensures ∙ c.in-Some.is) in
    let running = (runner comp q.number s q.order c.none_is_zero.ensures.threads q.runs c.in-Some.from (sym c.current.ensures ∙ c.in-Some.is)).running in
    let kind = found_kind comp f c.in-Some-export_def.def.now c.in-Some-export_def.ensures in
    let room : fits 3 s.core ≡ true = (let a = c.fits.ensures in let n = c.if-not-fits.false in grind arith) in
    let core : t.core ≡ call_made (caller.Thread q.number) f (export_kind comp f) to (thread_group q.number s.core) words s.core =
    e.1.core
    ∙ (ap (λ (k : ℕ). call_made (caller.Thread k) f c.in-Some-export_def.def.now.kind c.goal_for-goal.result (thread_group k s.core) words s.core) number
    ∙ (ap (λ (x : ExportKind). call_made (caller.Thread q.number) f x c.goal_for-goal.result (thread_group q.number s.core) words s.core) (sym kind)
    ∙ ap (λ (y : Goal). call_made (caller.Thread q.number) f (export_kind comp f) y (thread_group q.number s.core) words s.core) c.goal_for-goal.ensures)) in
    subst (λ (o : Option ℕ). IfSome o (λ n. Prepares comp n f words to s (fits 3 s.core) (Ok id) t)) (sym q.runs)
    (subst (λ (b : Bool). Prepares comp q.number f words to s b (Ok id) t) (sym room)
    (prepared comp q.number f words to s t id (subst (λ k. IsRunning k s.core) number running) e.0.0 e.0.1 core e.1.current e.1.tags))
