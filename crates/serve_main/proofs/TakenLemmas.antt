-- Requests that a scenario's lines say are taken by its component.
use Rattle.serve_requests.specs.RequestLines.{EachSuits, Suits}
use Rattle.serve_requests.specs.Serving.{callee_named}
use Rattle.serve_requests.specs.declared.request.Request.{Request}
use Rattle.serve_main.specs.Knows.{AllTaken, Takes}
use Rattle.text_scenario.specs.Placement.{IsWellFormed}
use Rattle.text_scenario.specs.declared.tree.ScenarioText.{ScenarioText}
use Rattle.std.proofs.Common.{ap, refl, subst, sym, ◌∙◌}
use Rattle.std.specs.Prelude.{IfSome, IsSome, List, None, Option, Some, [], length, slice_get, suc, zero, ℕ, ◌∷◌, ◌≡◌}
use Rattle.machine_data.specs.declared.component.ExportDef.{ExportDef}
use Rattle.machine_rules.specs.Scripts.{export_at}
use Rattle.task_run.proofs.LoweredLemmas.{at_lowered, export_params, lowered}
use Rattle.text_scenario.proofs.Verdicts.{one_tree}
use Rattle.text_scenario.specs.Grammar.{IsTextOf}
use Rattle.task_run.specs.Lower.{Reads, scenario_of}
use Rattle.task_run.specs.declared.scenario.Scenario.{Scenario}

some_there : (d : ExportDef) → IsSome (Some d)
some_there d = refl

module _ (s : ScenarioText) where
  taken_one : (r : Request) → Suits s.instances r → Takes (scenario_of s).component r
  taken_one r suits =
      let f = callee_named r in
      let p = export_params s.instances f (length r.params) suits.params in
      let there : export_at (lowered s) f ≡ Some p.0 = at_lowered s f ∙ p.1.0 in
      record {
        there = subst (λ (o : Option ExportDef). IsSome o) (sym there) (some_there p.0);
        params = subst (λ (o : Option ExportDef). IfSome o (λ e. length r.params ≡ e.params)) (sym there) p.1.1;
      }

  pub all_taken : (rs : List Request) → EachSuits s.instances rs → AllTaken (scenario_of s).component rs
  all_taken [] each i r at = absurd (cc)
  all_taken (q ∷ qs) each zero r at = let same : q ≡ r = cc in subst (λ (x : Request). Takes (scenario_of s).component x) same (taken_one q each.0)
  all_taken (q ∷ qs) each (suc i) r at = all_taken qs each.1 i r at

-- the same of each scenario that the text represents: it is this one
pub taken_by_text : (text : List ℕ) (tree : ScenarioText) (x : Scenario) (rs : List Request) → IsTextOf tree text → Reads text x → EachSuits tree.instances rs → AllTaken x.component rs
taken_by_text text tree x rs is reads each =
    let same : tree ≡ reads.0 = one_tree tree reads.0 text is reads.1 in
    subst (λ (y : Scenario). AllTaken y.component rs) (ap scenario_of same ∙ sym reads.2) (all_taken tree rs each)
