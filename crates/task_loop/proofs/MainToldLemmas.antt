-- What the ops of a main tell of groups.
use Rattle.machine_data.specs.declared.scenario.Version.{Version}
use Rattle.std.proofs.Common.{ap, arith, inl, inr, refl, subst, sym, ◌∙◌, ◌≡◌}
use Rattle.std.proofs.lemmas.Bool.Decides.{nat_tests}
use Rattle.std.specs.Prelude.{Err, IfOk, List, None, Ok, OnOk, Option, Result, Some, [], false, map, not, true, ℕ, ◌++◌, ◌+◌, ◌==◌, ◌∷◌, ◌≤◌}
use Rattle.laws_labels.proofs.ListLemmas.{decide, filter_none, filter_same, finish_every}
use Rattle.laws_labels.specs.Tells.{is_start}
use Rattle.store_notices.specs.Moves.{finishes}
use Rattle.ops_state.specs.declared.error.TaskError.{TaskError}
use Rattle.ops_state.specs.declared.error.TaskError.TheVariants as task_error
use Rattle.ops_calls.specs.MainCalls.{Starts}
use Rattle.task_group.proofs.GroupLemmas.{told-none}
use Rattle.task_group.specs.Listeners.{Listeners, ToldListeners}
use Rattle.task_loop.proofs.StartLemmas.{start_groups, start_made}
use Rattle.task_loop.proofs.ToldLemmas.{main_asked, main_quiet}
use Rattle.task_loop.specs.Told.{main_notices}
use Rattle.machine_data.specs.Core.{Core, Main, fresh}
use Rattle.machine_data.specs.Write.{set_trapped}
use Rattle.machine_data.specs.declared.component.Callee.{Callee}
use Rattle.machine_data.specs.declared.component.Component.{Component}
use Rattle.machine_data.specs.declared.label.Label.TheVariants as label
use Rattle.machine_data.specs.declared.label.MainLabel.TheVariants as main_label
use Rattle.machine_data.specs.declared.records.Notice.{Notice}
use Rattle.machine_data.specs.declared.records.NoticeKind.TheVariants as notice
use Rattle.machine_data.specs.declared.scenario.MainOpDef.{MainOpDef}
use Rattle.machine_data.specs.declared.trap.Trap.{Trap}
use Rattle.machine_rules.specs.MainOps.{main_started}
use Rattle.machine_rules.specs.Notices.{finish_notices, is_in, told_of}
use Rattle.core_records.specs.Seen.{nothing}
use Rattle.ops_turns.specs.Does.{label_of_step}
use Rattle.ops_turns.specs.Main.{Steps}
use Rattle.ops_turns.specs.declared.mains.MainStep.{MainStep}
use Rattle.ops_turns.specs.declared.mains.MainStep.TheVariants as step
use Rattle.core_primitives.specs.Groups.{IsAsked}
use Rattle.core_primitives.specs.StateView.{StateView, with_core}

-- ---- Starts

in_more : (gs hs : List ℕ) (g : ℕ) → is_in gs g ≡ true → is_in (gs ++ hs) g ≡ true
in_more [] hs g there = absurd (cc)
in_more (h ∷ gs) hs g there = elim (decide (g == h)) [
  | inl same ↦ grind (arith, nat_tests, same)
  | inr other ↦ let rest : is_in gs g ≡ true = grind (arith, nat_tests, other, there) in let more = in_more gs hs g rest in grind (arith, nat_tests, other, more)
]

-- where more groups are live, none was finished
pub finish_more : (gs hs : List ℕ) → finish_notices gs (gs ++ hs) ≡ []
finish_more gs hs = ap (map (told_of notice.Finish)) (filter_same (λ g. not (is_in (gs ++ hs) g)) (λ g. false) gs (λ g there. ap not (in_more gs hs g there)) ∙ filter_none gs)

pub trapped_groups : (s : Core) → (set_trapped s).groups ≡ []
unfolding set_trapped
trapped_groups s = refl

module _ (c : Component) (e : Callee) (words : List ℕ) (s t : StateView) (k : ℕ) where
  -- a start that makes a call tells of its group
  pub started_notices : (o : Option Trap) (n : ℕ) → Starts c e words s o (Ok n) t → told_of notice.Start (s.core.made.groups + 1) ∷ [] ≡ main_notices (step.Did (label.Main (main_label.Start k n))) s.core t.core
  started_notices None n starts =
      sym (ap (λ (u : Core). (told_of notice.Start u.made.groups ∷ []) ++ finish_notices s.core.groups u.groups) starts.1.core
      ∙ (ap (λ i. (told_of notice.Start i ∷ []) ++ finish_notices s.core.groups (main_started c e words s.core).groups) (start_made c e words s.core)
      ∙ ap (λ (ns : List Notice). told_of notice.Start (s.core.made.groups + 1) ∷ ns) (ap (finish_notices s.core.groups) (start_groups c e words s.core) ∙ finish_more s.core.groups ((s.core.made.groups + 1) ∷ []))))
  started_notices (Some why) n starts = let no : Ok n ≡ Err (task_error.Trap why) = starts.0 in absurd (cc)

  -- one that is refused finishes all
  pub refused_notices : (o : Option Trap) (why : Trap) → Starts c e words s o (Err (task_error.Trap why)) t → finishes s.core.groups ≡ main_notices (step.Did (label.Main (main_label.StartRefused why k))) s.core t.core
  refused_notices None why starts = let no : task_error.Trap why ≡ task_error.NoMemory = starts.0 in absurd (cc)
  refused_notices (Some other) why starts =
      sym (ap (finish_notices s.core.groups) (ap (λ (u : Core). u.groups) starts.1.core ∙ trapped_groups s.core) ∙ finish_every s.core.groups)

-- ---- The other ops

module _ (c : Component) (ops : List MainOpDef) (m : Main) (s : StateView) (n : Main) (t : StateView) (g h : Listeners) (same : h ≡ g) where
  pub asked_step : t.tags.tracked ≡ s.tags.tracked → (q : MainStep) → Steps c ops m s.core q n t.core → is_start (label_of_step q) ≡ false → IsAsked s → IsAsked t
  asked_step known q steps other is = known ∙ main_asked c ops m s.core n t.core q steps other s.tags.tracked is

  pub told_step : (q : MainStep) → Steps c ops m s.core q n t.core → is_start (label_of_step q) ≡ false → ToldListeners (main_notices q s.core t.core) g h
  told_step q steps other =
      subst (λ (ns : List Notice). ToldListeners ns g h) (sym (main_quiet c ops m s.core n t.core q steps other)) (subst (λ (k : Listeners). ToldListeners [] g k) (sym same) (told-none g))

  pub asked_result : t.tags.tracked ≡ s.tags.tracked → (r : Result MainStep TaskError) → IfOk r (λ q. Steps c ops m s.core q n t.core) → IfOk r (λ q. is_start (label_of_step q) ≡ false) → IsAsked s → OnOk r (IsAsked t)
  asked_result known (Ok q) steps other is = asked_step known q steps other is
  asked_result known (Err e) steps other is = tt

  pub told_result : (r : Result MainStep TaskError) → IfOk r (λ q. Steps c ops m s.core q n t.core) → IfOk r (λ q. is_start (label_of_step q) ≡ false) → IfOk r (λ q. ToldListeners (main_notices q s.core t.core) g h)
  told_result (Ok q) steps other = told_step q steps other
  told_result (Err e) steps other = tt

-- ---- A new store

pub fresh_asked : (rules : Version) (i h tb : ℕ) (s : StateView) → s ≡ with_core (fresh rules i h tb) nothing → IsAsked s
unfolding fresh
fresh_asked rules i h tb s is = subst (λ (v : StateView). IsAsked v) (sym is) refl
