-- Backpressure, by its count.
use Rattle.std.proofs.Common.{ap, ap₂, arith, cond, refl, subst, sym, ◌∙◌}
use Rattle.std.proofs.lemmas.Bool.Decides.{nat_tests}
use Rattle.std.proofs.lemmas.List.Sorted.{IsPermutation-refl}
use Rattle.std.specs.Prelude.{◌&&◌, Bool, IsPermutation, List, [], false, filter, None, Option, option_and_then, Some, suc, true, zero, ℕ, ◌+◌, ◌-◌, ◌==◌, ◌<◌, ◌≡◌, ◌∷◌}
use Rattle.laws_states.specs.WakeLaw.{NoneAdmitted}
use Rattle.task_table.specs.declared.id.TableId.{TableId}
use Rattle.task_wait.specs.declared.keys.ThreadKey.{ThreadKey}
use Rattle.machine_data.proofs.CommuteLemmas.{get-change}
use Rattle.machine_data.specs.Core.{Core}
use Rattle.machine_data.specs.Maps.{numbers}
use Rattle.machine_data.specs.Moves.{released}
use Rattle.machine_data.specs.Read.{admits, admitted_held, backpressure_of, held_why, instance_of, is_held_admitted, may_not_enter, place_of}
use Rattle.machine_data.specs.Write.{on_instance, set_backpressure}
use Rattle.machine_data.specs.declared.label.Label.TheVariants as label
use Rattle.machine_data.specs.declared.label.TaskLabel.TheVariants as task_label
use Rattle.machine_data.specs.declared.records.Place.{Place}
use Rattle.machine_data.specs.declared.records.Place.TheVariants as place
use Rattle.machine_data.specs.declared.records.Why.{Why}
use Rattle.machine_data.specs.declared.records.Why.TheVariants as why
use Rattle.core_primitives.specs.Changes.{ReleasesHeld}
use Rattle.core_primitives.specs.Preferences.{preference}
use Rattle.machine_rules.specs.Picks.{LeavesNoChoice, Preference, goes_in_order, in_order}
use Rattle.machine_rules.specs.Progress.{Continues, may}
use Rattle.ops_guests.proofs.CalmLemmas.{silent_shows}
use Rattle.ops_guests.specs.OpResult.{Implements, PicksFirst}
use Rattle.ops_guests.proofs.RunLemmas.{stands_on}
use Rattle.ops_moves.proofs.UntouchedLemmas.{on_instance_untouched}
use Rattle.ops_guests.proofs.BesideLemmas.{all_of, quiet_stand}
use Rattle.ops_guests.specs.Running.{Stand}
use Rattle.machine_rules.specs.Finish.{Doer, NoAnswer, finish}
use Rattle.machine_rules.specs.Places.{Placed}
use Rattle.machine_rules.specs.Task.{dec_by, dec_rule, held_by_counter, pressure_gone, pressure_lowered}
use Rattle.core_primitives.specs.StateView.{StateView, on_core, thread_of}
use Rattle.ops_guests.specs.Shown.{goes_as}

-- ---- The counter falls

pub lowered_places : (n : TableId ThreadKey) (i k : ℕ) (s t : StateView) → Stand (thread_of s n) place.Running [] s.core → t ≡ on_core (set_backpressure i k) s → Placed t.core
unfolding set_backpressure
lowered_places n i k s t st e = all_of (thread_of t n) place.Running t.core refl (stands_on n place.Running (set_backpressure i k) s t e (quiet_stand (thread_of s n) place.Running [] s.core _ (on_instance_untouched i (λ r. record r { backpressure = k }) s.core) st))

-- held threads of the instance were put at high
abbrev Opened : ℕ → StateView → StateView → Type 0
Opened i s t = (order : List ℕ) × (IsPermutation (admitted_held i s.core) order × (t ≡ on_core (released order) s))

pub opened : (i : ℕ) (s t : StateView) → ReleasesHeld i s t → Opened i s t
opened i s t o = (o.0, (o.1.0, o.1.1.1))

-- ---- An instance that keeps entries out

and_parts : (a b : Bool) → (a && b) ≡ true → (a ≡ true) × (b ≡ true)
and_parts true b is = (refl, is)
and_parts false b is = absurd (cc)

same_flag : (i k : ℕ) (s : Core) → may_not_enter i (set_backpressure i k s) ≡ may_not_enter i s
unfolding set_backpressure on_instance
same_flag i k s = grind (arith, nat_tests, get-change)

held_place : (o : Option Place) (w : Why) → option_and_then held_why o ≡ Some w → o ≡ Some (place.Held w)
held_place o w is = grind arith

-- an entry of a thread there that wasn't admitted isn't yet, whatever the count
still_out : (i k : ℕ) (s : Core) (n : ℕ) (w : Why) → admits n s w ≡ false → may_not_enter i s ≡ true → (instance_of n s == i) ≡ true →
    admits n (set_backpressure i k s) w ≡ true → ⊥
unfolding set_backpressure on_instance
still_out i k s n why.Start was out home is = absurd (grind (arith, nat_tests, get-change))
still_out i k s n (why.Delivery d) was out home is = absurd (grind (arith, nat_tests, get-change))
still_out i k s n why.Resumption was out home is = absurd (cc)

none_admitted : (i k : ℕ) (s : Core) → NoneAdmitted s → may_not_enter i s ≡ true → (n : ℕ) →
    is_held_admitted i (set_backpressure i k s) n (option_and_then held_why (place_of n s)) ≡ true → ⊥
unfolding set_backpressure on_instance
none_admitted i k s q out n is = by (option_and_then held_why (place_of n s)) refl is
  where
    by : (o : Option Why) → option_and_then held_why (place_of n s) ≡ o → is_held_admitted i (set_backpressure i k s) n o ≡ true → ⊥
    by None at is = absurd (cc)
    by (Some w) at is = let both = and_parts (instance_of n s == i) _ is in still_out i k s n w (q n w (held_place (place_of n s) w at)) out both.0 both.1

none_passes : (test : ℕ → Bool) (ns : List ℕ) → ((n : ℕ) → test n ≡ true → ⊥) → filter test ns ≡ []
none_passes test [] none = refl
none_passes test (n ∷ ns) none = by (none_passes test ns none) (test n) refl
  where
    by : filter test ns ≡ [] → (t : Bool) → test n ≡ t → cond t (n ∷ filter test ns) (filter test ns) ≡ []
    by rest true is = absurd (none n is)
    by rest false is = rest

none_held : (i k : ℕ) (s : Core) → NoneAdmitted s → may_not_enter i s ≡ true → admitted_held i (set_backpressure i k s) ≡ []
unfolding admitted_held set_backpressure on_instance
none_held i k s q out = none_passes _ (numbers s.threads) (none_admitted i k s q out)

pub none_let_in : (i k : ℕ) (s t : StateView) → NoneAdmitted s.core → t ≡ on_core (set_backpressure i k) s → may_not_enter i t.core ≡ true →
    admitted_held i t.core ≡ []
none_let_in i k s t q e out =
    ap (λ (v : StateView). admitted_held i v.core) e
    ∙ none_held i k s.core q (sym (same_flag i k s.core) ∙ (sym (ap (λ (v : StateView). may_not_enter i v.core) e) ∙ out))

pub released_none : (i : ℕ) (s : StateView) → admitted_held i s.core ≡ [] → ReleasesHeld i s s
unfolding released
released_none i s none = ([], (subst (λ l. IsPermutation l []) (sym none) (IsPermutation-refl []), (refl, refl)))

same_came : (m n : ℕ) → m ≡ n → goes_as (label.Task (task_label.BpDec m)) m ≡ goes_as (label.Task (task_label.BpDec n)) n
same_came m n e = ap (λ (k : ℕ). goes_as (label.Task (task_label.BpDec k)) k) e

opening_is : (d : Doer) (n m : ℕ) (order : List ℕ) (s : Core) → backpressure_of (instance_of n s) s ≡ 1 → IsPermutation (held_by_counter (instance_of n s) s) order → m ≡ n → Implements (dec_rule d n s) s (goes_as (label.Task (task_label.BpDec m)) m) (finish d n NoAnswer (pressure_gone n order s))
opening_is d n m order s one held is = subst (λ (b : ℕ). Implements (dec_by d n s b) s (goes_as (label.Task (task_label.BpDec m)) m) (finish d n NoAnswer (pressure_gone n order s))) (sym one) (order, (held, (same_came m n is, refl)))

pub opening_implements : (n : TableId ThreadKey) (f : Doer) (i c k m : ℕ) (s t u : StateView) → i ≡ instance_of (thread_of s n) s.core → c ≡ backpressure_of i s.core → c ≡ 1 → k ≡ 0 → m ≡ thread_of s n → t ≡ on_core (set_backpressure i k) s → Opened i t u → Implements (dec_rule f (thread_of s n) s.core) s.core (goes_as (label.Task (task_label.BpDec m)) m) (finish f (thread_of s n) NoAnswer u.core)
unfolding pressure_gone held_by_counter
opening_implements n f i c k m s t u at count one none is e o =
    let N = thread_of s n in
    let I = instance_of N s.core in
    let held = ap (λ (w : StateView). admitted_held i w.core) e ∙ ap₂ (λ (j b : ℕ). admitted_held j (set_backpressure j b s.core)) at none in
    let core = ap (λ (w : StateView). finish f N NoAnswer w.core) o.1.1 ∙ (ap (λ (w : StateView). finish f N NoAnswer (released o.0 w.core)) e ∙ ap₂ (λ (j b : ℕ). finish f N NoAnswer (released o.0 (set_backpressure j b s.core))) at none) in
    subst (λ (x : Core). Implements (dec_rule f N s.core) s.core (goes_as (label.Task (task_label.BpDec m)) m) x) (sym core)
    (opening_is f N m o.0 s.core (ap (λ (j : ℕ). backpressure_of j s.core) (sym at) ∙ (sym count ∙ one)) (subst (λ (l : List ℕ). IsPermutation l o.0) held o.1.0) is)

-- the threads are released in the order of the preference
opening_goes : (p : Preference) (d : Doer) (n m : ℕ) (order : List ℕ) (s : Core) → backpressure_of (instance_of n s) s ≡ 1 → IsPermutation (held_by_counter (instance_of n s) s) order → goes_in_order p order ≡ true → m ≡ n → Implements (in_order p (dec_rule d n s)) s (goes_as (label.Task (task_label.BpDec m)) m) (finish d n NoAnswer (pressure_gone n order s))
opening_goes p d n m order s one held goes is =
    subst (λ (b : ℕ). Implements (in_order p (dec_by d n s b)) s (goes_as (label.Task (task_label.BpDec m)) m) (finish d n NoAnswer (pressure_gone n order s))) (sym one) (
      order,
      (
        held,
        subst (λ (g : Bool). Implements (may g (Continues (label.Task (task_label.BpDec n)) (finish d n NoAnswer (pressure_gone n order s)) n)) s (goes_as (label.Task (task_label.BpDec m)) m) (finish d n NoAnswer (pressure_gone n order s))) (sym goes) (same_came m n is, refl),
      ),
    )

pub opening_picks : (n : TableId ThreadKey) (f : Doer) (i c k m : ℕ) (s t u : StateView) → i ≡ instance_of (thread_of s n) s.core → c ≡ backpressure_of i s.core → c ≡ 1 → k ≡ 0 → m ≡ thread_of s n → t ≡ on_core (set_backpressure i k) s → ReleasesHeld i t u → PicksFirst (preference s) (dec_rule f (thread_of s n) s.core) (label.Task (task_label.BpDec m)) s.core (goes_as (label.Task (task_label.BpDec m)) m) (finish f (thread_of s n) NoAnswer u.core)
unfolding pressure_gone held_by_counter set_backpressure on_instance
opening_picks n f i c k m s t u at count one none is e o =
    let N = thread_of s n in
    let held = ap (λ (w : StateView). admitted_held i w.core) e ∙ ap₂ (λ (j b : ℕ). admitted_held j (set_backpressure j b s.core)) at none in
    let core = ap (λ (w : StateView). finish f N NoAnswer w.core) o.1.1.1 ∙ (ap (λ (w : StateView). finish f N NoAnswer (released o.0 w.core)) e ∙ ap₂ (λ (j b : ℕ). finish f N NoAnswer (released o.0 (set_backpressure j b s.core))) at none) in
    let goes = ap (λ (w : StateView). goes_in_order (preference w) o.0) (sym e) ∙ o.1.1.0 in
    record {
      shows = silent_shows (preference s) s.core (label.Task (task_label.BpDec m)) (refl, refl);
      order = subst (λ (x : Core). Implements (in_order (preference s) (dec_rule f N s.core)) s.core (goes_as (label.Task (task_label.BpDec m)) m) x) (sym core)
          (opening_goes (preference s) f N m o.0 s.core (ap (λ (j : ℕ). backpressure_of j s.core) (sym at) ∙ (sym count ∙ one)) (subst (λ (l : List ℕ). IsPermutation l o.0) held o.1.0) goes is);
    }

lowering_is : (d : Doer) (n m c : ℕ) (s : Core) → backpressure_of (instance_of n s) s ≡ suc (suc c) → m ≡ n → Implements (dec_rule d n s) s (goes_as (label.Task (task_label.BpDec m)) m) (finish d n NoAnswer (pressure_lowered n s))
lowering_is d n m c s more is = subst (λ (b : ℕ). Implements (dec_by d n s b) s (goes_as (label.Task (task_label.BpDec m)) m) (finish d n NoAnswer (pressure_lowered n s))) (sym more) (same_came m n is, refl)

pub lowering_implements : (n : TableId ThreadKey) (f : Doer) (i c m : ℕ) (s t : StateView) → i ≡ instance_of (thread_of s n) s.core → c ≡ backpressure_of i s.core → (c ≡ 0 → ⊥) → (c ≡ 1 → ⊥) → m ≡ thread_of s n → t ≡ on_core (set_backpressure i (c - 1)) s → Implements (dec_rule f (thread_of s n) s.core) s.core (goes_as (label.Task (task_label.BpDec m)) m) (finish f (thread_of s n) NoAnswer t.core)
unfolding pressure_lowered
lowering_implements n f i zero m s t at count some more is e = absurd (some refl)
lowering_implements n f i (suc zero) m s t at count some more is e = absurd (more refl)
lowering_implements n f i (suc (suc c)) m s t at count some more is e =
    let N = thread_of s n in
    let here : backpressure_of (instance_of N s.core) s.core ≡ suc (suc c) = ap (λ (j : ℕ). backpressure_of j s.core) (sym at) ∙ sym count in
    let core = ap (λ (w : StateView). finish f N NoAnswer w.core) e ∙ ap₂ (λ (j b : ℕ). finish f N NoAnswer (set_backpressure j (b - 1) s.core)) at (sym here) in
    subst (λ (x : Core). Implements (dec_rule f N s.core) s.core (goes_as (label.Task (task_label.BpDec m)) m) x) (sym core) (lowering_is f N m c s.core here is)

lowering_calm : (n : ℕ) (f : Doer) (c : ℕ) (s : Core) → backpressure_of (instance_of n s) s ≡ suc (suc c) → LeavesNoChoice (dec_rule f n s)
lowering_calm n f c s more = subst (λ (b : ℕ). LeavesNoChoice (dec_by f n s b)) (sym more) (refl, refl)

pub lowers_calm : (n : TableId ThreadKey) (f : Doer) (i c : ℕ) (s : StateView) → i ≡ instance_of (thread_of s n) s.core → c ≡ backpressure_of i s.core → (c ≡ 0 → ⊥) → (c ≡ 1 → ⊥) → LeavesNoChoice (dec_rule f (thread_of s n) s.core)
lowers_calm n f i zero s at count some more = absurd (some refl)
lowers_calm n f i (suc zero) s at count some more = absurd (more refl)
lowers_calm n f i (suc (suc c)) s at count some more = lowering_calm (thread_of s n) f c s.core (ap (λ (j : ℕ). backpressure_of j s.core) (sym at) ∙ sym count)
