-- The scenario can be run in each way of its hosts.
use Rattle.choice_search.specs.Searching.{at_way}
use Rattle.choice_search.specs.Ways.{hosts_at, times, with_polls}
use Rattle.laws_choices.proofs.AnswerLemmas.{run_is_reported}
use Rattle.laws_choices.specs.ChoiceAnswers.{ComesTo, Reports, RunIsReported}
use Rattle.laws_choices.specs.Offer.{Chosen}
use Rattle.laws_choices.specs.Steps.{IsScripted}
use Rattle.laws_places.proofs.OrderLemmas.{opening_in_order}
use Rattle.laws_states.specs.Order.{InOrder, OpeningInOrder}
use Rattle.laws_states.specs.Settled.{IsSettled, NoneOpen}
use Rattle.machine_data.specs.Core.{Scripted, State, Unscripted, fresh}
use Rattle.machine_data.specs.Maps.{get-empty}
use Rattle.machine_data.specs.Read.{is_open}
use Rattle.machine_data.specs.declared.component.Callee.{Callee}
use Rattle.machine_data.specs.declared.component.Component.{Component}
use Rattle.machine_data.specs.declared.component.HostDef.TheVariants as host_def
use Rattle.machine_data.specs.declared.component.HostDef.{HostDef}
use Rattle.machine_data.specs.declared.op.CallOp.TheVariants as call_op
use Rattle.machine_data.specs.declared.op.CallOp.{CallOp}
use Rattle.machine_data.specs.declared.op.Op.TheVariants as op
use Rattle.machine_data.specs.declared.op.Op.{Op}
use Rattle.machine_data.specs.declared.records.Script.TheVariants as script
use Rattle.machine_data.specs.declared.records.Script.{Script}
use Rattle.machine_data.specs.declared.label.Label.{Label}
use Rattle.machine_data.specs.declared.outcome.Outcome.{Outcome}
use Rattle.machine_data.specs.declared.scenario.Version.{Version}
use Rattle.machine_rules.specs.Outcome.{IsOutcome}
use Rattle.machine_rules.specs.Run.{Run, main_opening, opens}
use Rattle.machine_rules.specs.Scripts.{HasOpen, host_at, never_host, script_in}
use Rattle.machine_rules.specs.Stalled.{setting_of}
use Rattle.ops_dispatch.specs.Fits.{call_op_fits, op_fits}
use Rattle.std.proofs.Common.{ap, arith, refl, subst, sym, ◌∙◌}
use Rattle.std.specs.Prelude.{Bool, IsSome, List, None, Option, Some, [], false, length, slice_get, suc, true, unwrap_or, zero, ℕ, ◌/◌, ◌∷◌, ◌≡◌, ◌≤◌}
use Rattle.task_run.specs.Headline.{machine_scenario}
use Rattle.task_run.specs.Runnable.{IsRunnable}
use Rattle.task_run.specs.declared.scenario.Scenario.{Scenario}

-- ---- The opening state

module _ (x : Scenario) (runnable : IsRunnable x) where
  pub opens_order : InOrder (setting_of (machine_scenario x)).component (opens (machine_scenario x))
  unfolding OpeningInOrder opens
  opens_order = opening_in_order x.component runnable.codes x.rules (length x.component.instances) x.handles x.table (Scripted main_opening)

  pub opens_scripted : IsScripted (opens (machine_scenario x)).main
  unfolding opens
  opens_scripted = tt

fresh_none : (v : Version) (n handles table : ℕ) → NoneOpen (fresh v n handles table)
unfolding fresh
fresh_none v n handles table = λ i. grind (arith, get-empty)

opens_none : (x : Scenario) → NoneOpen (opens (machine_scenario x)).core
unfolding opens
opens_none x = fresh_none x.rules (length x.component.instances) x.handles x.table

opens_settled : (x : Scenario) → (HasOpen x.component → ⊥) → IsSettled (setting_of (machine_scenario x)).component (opens (machine_scenario x)).main
unfolding opens
opens_settled x hosts = record { hosts = hosts; main = λ e. absurd (cc) }

pub reported : (steps : ℕ) (x : Scenario) → IsRunnable x → (HasOpen x.component → ⊥) → (ls : List Label) (t : State) (o : Outcome) → Run (setting_of (machine_scenario x)) (opens (machine_scenario x)) ls t →
    length ls ≤ steps → IsOutcome (setting_of (machine_scenario x)) t ls steps o → (cs : List Chosen) × ComesTo (setting_of (machine_scenario x)) (opens (machine_scenario x)) steps cs (Reports ls o (length cs))
unfolding RunIsReported
reported steps x runnable hosts ls t o run within is =
    run_is_reported (setting_of (machine_scenario x)) (opens (machine_scenario x)) (opens_settled x hosts) (opens_none x) (opens_order x runnable) steps ls t o run within is

-- ---- The hosts

hosts_there : (polls : Option ℕ) (ds : List HostDef) (k i : ℕ) → IsSome (slice_get ds i) → IsSome (slice_get (hosts_at polls ds k) i)
hosts_there polls [] k i some = some
hosts_there polls (d ∷ ds) k zero some = refl
hosts_there polls (d ∷ ds) k (suc i) some = hosts_there polls ds (k / times polls d) i some

one_closed : (polls : Option ℕ) (d : HostDef) (n : ℕ) → is_open d ≡ false → is_open (with_polls polls d n) ≡ false
one_closed None d n is = is
one_closed (Some m) (host_def.Settled None v) n is = refl
one_closed (Some m) (host_def.Settled (Some k) v) n is = refl
one_closed (Some m) host_def.Open n is = is

hosts_closed : (polls : Option ℕ) (ds : List HostDef) (k i : ℕ) → is_open (unwrap_or (slice_get ds i) never_host) ≡ false → is_open (unwrap_or (slice_get (hosts_at polls ds k) i) never_host) ≡ false
hosts_closed polls [] k i is = is
hosts_closed polls (d ∷ ds) k zero is = one_closed polls d _ is
hosts_closed polls (d ∷ ds) k (suc i) is = hosts_closed polls ds (k / times polls d) i is

none_open : (c : Component) → (HasOpen c → ⊥) → (i : ℕ) → is_open (host_at c i) ≡ false
none_open c closed i = by (is_open (host_at c i)) refl
  where
    by : (b : Bool) → is_open (host_at c i) ≡ b → b ≡ false
    by true is = absurd (closed (i, is))
    by false is = refl

pub way_closed : (x : Scenario) (polls : Option ℕ) (w : ℕ) → (HasOpen x.component → ⊥) → HasOpen (at_way x polls w).component → ⊥
way_closed x polls w closed some = both (is_open (host_at (at_way x polls w).component some.0)) (hosts_closed polls x.component.hosts w some.0 (none_open x.component closed some.0)) some.1
  where
    both : (b : Bool) → b ≡ false → b ≡ true → ⊥
    both b none there = absurd (cc)

-- ---- The scripts

module _ (c : Component) (hs : List HostDef) where
  others : Component
  others = record c { hosts = hs }

  same_script : (f : Callee) (s : Script) → script_in (record c { hosts = hs }) f s ≡ script_in c f s
  same_script f script.Start = refl
  same_script f script.React = refl
  same_script f (script.Slot x) = refl

  call_fits : (o : CallOp) → call_op_fits c o ≡ true → call_op_fits (record c { hosts = hs }) o ≡ true
  call_fits (call_op.Call r q e xs) fits = fits
  call_fits (call_op.CallSync r e xs) fits = fits
  call_fits (call_op.CallHost r q i) fits = fits
  call_fits (call_op.CallSyncHost r i) fits = fits
  call_fits (call_op.Cancel r x) fits = fits
  call_fits (call_op.CancelSync r x) fits = fits
  call_fits (call_op.Drop x) fits = fits

  fits_still : (o : Op) → op_fits c o ≡ true → op_fits (record c { hosts = hs }) o ≡ true
  fits_still (op.Data o) fits = fits
  fits_still (op.Task o) fits = fits
  fits_still (op.Set o) fits = fits
  fits_still (op.Call o) fits = call_fits o fits
  fits_still (op.Thread o) fits = fits

pub way_runnable : (x : Scenario) (polls : Option ℕ) (w : ℕ) → IsRunnable x → IsRunnable (at_way x polls w)
way_runnable x polls w r = record {
  handles = r.handles;
  few = r.few;
  component = record {
    few_params = r.component.few_params;
    short = λ f s. subst (λ (ops : List Op). length ops ≤ 4096) (sym (same_script x.component hs f s)) (r.component.short f s);
    ops = λ f s p o at. fits_still x.component hs o (r.component.ops f s p o (subst (λ (ops : List Op). slice_get ops p ≡ Some o) (same_script x.component hs f s) at));
  };
  codes = record { starts = r.codes.starts; reacts = r.codes.reacts; slots = r.codes.slots };
  main = record { few = r.main.few; spawns = λ i h at. hosts_there polls x.component.hosts w h (r.main.spawns i h at); starts = r.main.starts };
}
  where
    hs : List HostDef
    hs = hosts_at polls x.component.hosts w
