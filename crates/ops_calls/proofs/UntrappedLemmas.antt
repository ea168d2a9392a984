-- A start that traps nothing, once it wasn't refused.
use Rattle.std.proofs.Common.{ap, subst, ◌∙◌}
use Rattle.std.specs.Prelude.{List, None, Ok, Option, Some, ℕ, ◌≡◌}
use Rattle.ops_calls.specs.Untrapped.{StartsUntrapped}
use Rattle.machine_data.specs.declared.component.Callee.{Callee}
use Rattle.machine_data.specs.declared.component.Component.{Component}
use Rattle.machine_data.specs.declared.label.MainLabel.{MainLabel}
use Rattle.machine_data.specs.declared.label.MainLabel.TheVariants as main_label
use Rattle.machine_data.specs.declared.trap.Trap.{Trap}
use Rattle.ops_guests.specs.Acted.{KeepsStarted, MainImplements}
use Rattle.ops_guests.specs.declared.mains.Acted.{Acted}
use Rattle.ops_guests.specs.declared.mains.Acted.TheVariants as acted
use Rattle.machine_rules.specs.MainOps.{start_act}
use Rattle.core_primitives.specs.StateView.{StateView}

module _ (c : Component) (e : Callee) (words : List ℕ) (s t : StateView) (current : t.current ≡ s.current) (r : Option Trap) (a : Acted) (k : MainLabel) (is : a ≡ acted.Does k) (m : MainImplements (start_act c 1 e words s.core r) s.core a t.core) (tags : KeepsStarted (Ok a) s t) where
  pub started_untrapped : (l n : ℕ) → k ≡ main_label.Start l n → StartsUntrapped c e words s r (Ok n) t
  started_untrapped l n shown = go r m
    where
      go : (r : Option Trap) → MainImplements (start_act c 1 e words s.core r) s.core a t.core → StartsUntrapped c e words s r (Ok n) t
      go None m = let same = m.0 in (cc, record { core = m.1; current = current; tags = subst (λ (b : Acted). KeepsStarted (Ok b) s t) (is ∙ ap acted.Does shown) tags })
      go (Some why) m = let same = m.0 in absurd (cc)
