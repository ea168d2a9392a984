-- What the starts of a host result in, and that order is kept.
use Rattle.std.proofs.Common.{ap, arith, refl, subst, sym, ◌∙◌}
use Rattle.std.proofs.lemmas.Bool.Decides.{nat_tests}
use Rattle.std.specs.Option.{option_map_or}
use Rattle.std.specs.Prelude.{Err, IfSome, List, None, Ok, Option, Some, false, length, true, ℕ, ◌==◌, ◌≡◌}
use Rattle.ops_calls.specs.MainCalls.{Starts}
use Rattle.ops_state.specs.declared.error.TaskError.TheVariants as task_error
use Rattle.ops_calls.proofs.ApartLemmas.{trap_in_order}
use Rattle.machine_data.specs.Write.{set_trapped}
use Rattle.machine_data.specs.declared.component.Callee.{Callee}
use Rattle.machine_data.specs.declared.component.Component.{Component}
use Rattle.machine_data.specs.declared.component.ExportDef.{ExportDef}
use Rattle.machine_data.specs.declared.component.ExportKind.TheVariants as kind
use Rattle.machine_data.specs.declared.label.MainLabel.{MainLabel}
use Rattle.machine_data.specs.declared.label.MainLabel.TheVariants as main_label
use Rattle.machine_data.specs.declared.records.Turn.{Turn}
use Rattle.machine_data.specs.declared.trap.Trap.{Trap}
use Rattle.ops_guests.specs.Acted.{KeepsStarted, MainImplements}
use Rattle.ops_guests.specs.declared.mains.Acted.{Acted}
use Rattle.ops_guests.specs.declared.mains.Acted.TheVariants as acted
use Rattle.machine_rules.specs.MainOps.{start_act, start_refusal, takes_words}
use Rattle.machine_rules.specs.Scripts.{export_at, export_kind}
use Rattle.ops_turns.proofs.KeptLemmas.{start_in_order}
use Rattle.ops_turns.specs.Turn.{CoreInOrder}
use Rattle.core_primitives.specs.StateView.{StateView, on_core}

module _ (c : Component) (e : Callee) (words : List ℕ) (s t : StateView) (current : t.current ≡ s.current) where
  module _ (r : Option Trap) (a : Acted) (k : MainLabel) (is : a ≡ acted.Does k) (m : MainImplements (start_act c 1 e words s.core r) s.core a t.core) (tags : KeepsStarted (Ok a) s t) where
    tags_of : (j : MainLabel) → k ≡ j → KeepsStarted (Ok (acted.Does j)) s t
    tags_of j shown = subst (λ (b : Acted). KeepsStarted (Ok b) s t) (is ∙ ap acted.Does shown) tags

    pub started : (l n : ℕ) → k ≡ main_label.Start l n → Starts c e words s r (Ok n) t
    started l n shown = go r m
      where
        go : (r : Option Trap) → MainImplements (start_act c 1 e words s.core r) s.core a t.core → Starts c e words s r (Ok n) t
        go None m = let same = m.0 in (cc, record { core = m.1; current = current; tags = tags_of (main_label.Start l n) shown })
        go (Some why) m = let same = m.0 in absurd (cc)

    pub refused : (l : ℕ) (why : Trap) → k ≡ main_label.StartRefused why l → Starts c e words s r (Err (task_error.Trap why)) t
    refused l why shown = go r m
      where
        go : (r : Option Trap) → MainImplements (start_act c 1 e words s.core r) s.core a t.core → Starts c e words s r (Err (task_error.Trap why)) t
        go None m = let same = m.0 in absurd (cc)
        go (Some w) m = let same = m.0 in (cc, record { core = m.1; current = current; tags = tags_of (main_label.StartRefused why l) shown })

  pub in_order : (a : Acted) → MainImplements (start_act c 1 e words s.core (start_refusal s.core)) s.core a t.core → takes_words c e (length words) ≡ true → (p : Turn) → CoreInOrder c p s.core → CoreInOrder c p t.core
  in_order a m takes p in_turn = go (start_refusal s.core) refl m
    where
      go : (r : Option Trap) → start_refusal s.core ≡ r → MainImplements (start_act c 1 e words s.core r) s.core a t.core → CoreInOrder c p t.core
      go None free k = subst (CoreInOrder c p) (sym k.1) (start_in_order c p e words s.core takes free in_turn)
      go (Some why) is k = subst (CoreInOrder c p) (sym k.1) (trap_in_order c p s.core in_turn)

-- an export that was found
module _ (c : Component) (e : Callee) (d : ExportDef) (found : Some d ≡ export_at c e) where
  pub found_kind : export_kind c e ≡ d.kind
  found_kind = sym (ap (λ (o : Option ExportDef). option_map_or (λ x. x.kind) o kind.Callback) found)

  pub found_words : (n : ℕ) → IfSome (export_at c e) (λ x. n ≡ x.params) → takes_words c e n ≡ true
  found_words n fit = let same = subst (λ (o : Option ExportDef). IfSome o (λ x. n ≡ x.params)) (sym found) fit in
      sym (ap (λ (o : Option ExportDef). option_map_or (λ x. x.params == n) o false) found) ∙ grind (arith, nat_tests, same)

-- it is out of memory, and the store is trapped
pub out_of_memory : (c : Component) (e : Callee) (words : List ℕ) (s t u : StateView) (r : Option Trap) → r ≡ None → t ≡ s → u ≡ on_core set_trapped t → Starts c e words s r (Err task_error.NoMemory) u
out_of_memory c e words s t u None free stays trapped = (refl, grind arith)
out_of_memory c e words s t u (Some why) free stays trapped = absurd (cc)
