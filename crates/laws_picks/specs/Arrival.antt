-- In which order threads were held last.
use Rattle.std.specs.List.{list_any}
use Rattle.std.specs.Prelude.{Bool, List, None, [], false, filter, if◌then◌else◌, map, not, true, ℕ, ◌++◌, ◌==◌, ◌∷◌, ◌≡◌}
use Rattle.laws_choices.specs.Offer.{Chosen, FitsOffer, first_of}
use Rattle.laws_choices.specs.Offers.{offer}
use Rattle.laws_choices.specs.Lines.{IsNarrow}
use Rattle.laws_choices.specs.Steps.{IsScripted, StepBy, hides_in}
use Rattle.laws_states.specs.Order.{InOrder}
use Rattle.laws_states.specs.Settled.{IsSettled, NoneOpen}
use Rattle.machine_data.specs.Core.{State}
use Rattle.machine_data.specs.Labels.{choice_of}
use Rattle.machine_data.specs.declared.label.Label.TheVariants as label
use Rattle.machine_data.specs.declared.label.Label.{Label}
use Rattle.machine_data.specs.declared.label.TakeLabel.TheVariants as take_label
use Rattle.machine_data.specs.declared.label.TakeLabel.{TakeLabel}
use Rattle.machine_rules.specs.Run.{Run}
use Rattle.machine_rules.specs.Scripts.{HasOpen}
use Rattle.machine_rules.specs.Stalled.{Setting}
use Rattle.machine_rules.specs.Texts.{label_text}

abbrev pub is_in : ℕ → List ℕ → Bool
is_in n ns = list_any (λ m. m == n) ns

-- the thread is the last one from now on
abbrev pub held_last : ℕ → List ℕ → List ℕ
held_last n ns = filter (λ m. not (m == n)) ns ++ n ∷ []

abbrev pub held_by_taking : TakeLabel → List ℕ → List ℕ
held_by_taking (take_label.Held m n) ns = held_last n ns
held_by_taking (take_label.HeldWakes m n w) ns = held_last n ns
held_by_taking _ ns = ns

abbrev pub taking_holds : TakeLabel → Bool
taking_holds (take_label.Held m n) = true
taking_holds (take_label.HeldWakes m n w) = true
taking_holds _ = false

-- the label is that of a taking by which its thread is held
abbrev pub holds : Label → Bool
holds (label.Take l) = taking_holds l
holds _ = false

-- the order after one more label
abbrev pub held_after : Label → List ℕ → List ℕ
held_after (label.Take l) ns = held_by_taking l ns
held_after _ ns = ns

-- the one stands before the other in the order
abbrev pub comes_before : ℕ → ℕ → List ℕ → Bool
comes_before m n [] = false
comes_before m n (k ∷ ks) = if k == m then is_in n ks else comes_before m n ks

-- those of the threads, in that order
abbrev pub in_order : List ℕ → List ℕ → List ℕ
in_order order ns = filter (λ n. is_in n ns) order

-- The choice fits what the state offers, and releases threads in the order in which they were held last; of several threads that a
-- cancel may take it is the first one.
pub record IsByArrival (x : Setting) (order : List ℕ) (s : State) (c : Chosen) : Type 0 where
  pub fits : FitsOffer c (offer x s)
  pub release : c.release ≡ in_order order (offer x s).held
  pub cancel : hides_in x s s.turn ≡ true → (c.waiter ≡ first_of (offer x s).waiters) × (c.member ≡ None)

-- From s, at which threads were held last in this order, the labels come, each release goes in that order, and the run is in t.
abbrev pub RunByArrival : Setting → List ℕ → State → List Label → State → Type 0
RunByArrival x order s [] t = t ≡ s
RunByArrival x order s (l ∷ ls) t =
    (c : Chosen) × ((m : State) × (IsByArrival x order s c × (StepBy x c s l m × RunByArrival x (held_after l order) m ls t)))

-- what the labels name are numbers of 64 bits
abbrev pub AreNarrow : List Label → Type 0
AreNarrow [] = Unit {0}
AreNarrow (l ∷ ls) = IsNarrow (choice_of l) × AreNarrow ls

-- ---- Its laws

-- From a state in order such a run is one of the machine.
unfoldable pub ArrivalIsRun : Type 0
ArrivalIsRun = (x : Setting) (order : List ℕ) (s : State) → (HasOpen x.component → ⊥) → InOrder x.component s → (ls : List Label) (t : State) →
    RunByArrival x order s ls t → Run x s ls t

-- Its lines tell it: of two such runs that print the same lines the labels and the last states are the same.
unfoldable pub LinesTellRun : Type 0
LinesTellRun = (x : Setting) (order : List ℕ) (s : State) → IsSettled x.component s.main → NoneOpen s.core → IsScripted s.main → InOrder x.component s →
    (ls ks : List Label) (t u : State) → AreNarrow ls → AreNarrow ks → RunByArrival x order s ls t → RunByArrival x order s ks u →
    map label_text ls ≡ map label_text ks → (ls ≡ ks) × (t ≡ u)
