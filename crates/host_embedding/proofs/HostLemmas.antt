-- That the two exports may be started, and where the run begins.
use Rattle.machine_data.specs.declared.scenario.Version.TheVariants as version
use Rattle.std.proofs.Common.{ap, arith, subst, ◌∙◌, ◌<◌, ◌≤◌}
use Rattle.std.specs.Prelude.{List, [], true, ℕ, ◌≡◌}
use Rattle.host_embedding.specs.Host.{TakesOne}
use Rattle.task_loop.specs.declared.call.Func.{Func}
use Rattle.machine_data.specs.declared.component.Component.{Component}
use Rattle.machine_data.specs.declared.label.Label.{Label}
use Rattle.machine_data.specs.declared.outcome.Outcome.{Outcome}
use Rattle.machine_data.specs.Core.{Core, State, fresh}
use Rattle.machine_data.specs.Maps.{size}
use Rattle.task_store.proofs.FreshLemmas.{size_fresh}
use Rattle.machine_rules.specs.MainOps.{takes_words}
use Rattle.machine_rules.specs.Stalled.{Setting}
use Rattle.task_loop.specs.LoopCalls.{callee_of}
use Rattle.ops_turns.specs.Drive.{Drives}
use Rattle.task_loop.proofs.OpenMainLemmas.{takes_these}

-- an export that takes one word may be started with one
pub takes_one : (c : Component) (f : Func) → TakesOne c f → takes_words c (callee_of f) 1 ≡ true
takes_one c f h = takes_these c f 1 (record { there = h.0; takes = h.1 })

-- ---- A new store

-- its few instances can be counted
pub is_few : (n : ℕ) (s : Core) → n ≤ 2 → s ≡ fresh version.One n 100000 1000000 → size s.instances < 4294967295
is_few n s few is = let count : size s.instances ≡ n = ap (λ (u : Core). size u.instances) is ∙ size_fresh version.One n 100000 1000000 in omega (arith, count, few)

-- what was driven, with its setting, its first state and its trace before named otherwise
pub driven : (y x : Setting) (s o : State) (before : List Label) (t : State) (after : List Label) (steps : ℕ) (outcome : Outcome) → y ≡ x → s ≡ o → before ≡ [] → Drives y s before t after steps outcome → Drives x o [] t after steps outcome
driven y x s o before t after steps outcome setting start none drives =
    subst (λ (ls : List Label). Drives x o ls t after steps outcome) none (subst (λ (u : State). Drives x u before t after steps outcome) start (subst (λ (z : Setting). Drives z s before t after steps outcome) setting drives))
