-- A call that main starts.
use Rattle.serve_requests.specs.Laws.{CallIsMade}
use Rattle.serve_requests.specs.Serving.{IsCallOf, callee_named}
use Rattle.serve_requests.specs.declared.request.Request.{Request}
use Rattle.std.proofs.Common.{ap, arith, refl, take_at, ◌∙◌}
use Rattle.std.proofs.lemmas.Bool.Decides.{nat_tests}
use Rattle.std.specs.Prelude.{List, length, replicate, take, ℕ, ◌-◌, ◌≡◌}
use Rattle.machine_data.proofs.CommuteLemmas.{get-change}
use Rattle.machine_data.specs.Core.{Core}
use Rattle.machine_data.specs.Maps.{get-insert}
use Rattle.machine_data.specs.Moves.{put_high}
use Rattle.machine_data.specs.Read.{callee_of, registers_of, task_of}
use Rattle.machine_data.specs.Write.{add_call, add_group, add_thread, on_thread, push_high, set_place}
use Rattle.machine_data.specs.declared.component.Component.{Component}
use Rattle.machine_rules.specs.Calls.{call_made, next_thread}
use Rattle.machine_rules.specs.MainOps.{main_started}
use Rattle.machine_rules.specs.Scripts.{registers_for}

module _ (c : Component) (r : Request) (s : Core) where
  task_is : task_of (next_thread s) (main_started c (callee_named r) r.params s) ≡ next_thread s
  unfolding main_started put_high push_high set_place on_thread call_made add_thread add_call add_group
  task_is = grind (arith, nat_tests, get-change, get-insert)

  callee_is : callee_of (next_thread s) (main_started c (callee_named r) r.params s) ≡ callee_named r
  unfolding main_started put_high push_high set_place on_thread call_made add_thread add_call add_group
  callee_is = grind (arith, nat_tests, get-change, get-insert)

  registers_are : registers_of (next_thread s) (main_started c (callee_named r) r.params s) ≡ registers_for r.params
  unfolding main_started put_high push_high set_place on_thread call_made add_thread add_call add_group
  registers_are = grind (arith, nat_tests, get-change, get-insert)

  pub call_made_of : IsCallOf r (next_thread s) (main_started c (callee_named r) r.params s)
  call_made_of = record {
    callee = ap (λ (k : ℕ). callee_of k (main_started c (callee_named r) r.params s)) task_is ∙ callee_is;
    values = ap (λ (ws : List ℕ). take (length r.params) ws) registers_are ∙ take_at r.params (replicate (16 - length r.params) 0) (length r.params) refl;
  }

pub call_is_made : CallIsMade
call_is_made c r s = call_made_of c r s
