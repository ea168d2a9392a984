-- The ends of threads and activations, step by step.
use Rattle.core_primitives.specs.Changes.{ReleasesHeld}
use Rattle.core_primitives.specs.Preferences.{preference}
use Rattle.machine_rules.specs.Picks.{goes_in_order}
use Rattle.std.proofs.Common.{ap, refl, subst, sym, ◌∙◌}
use Rattle.std.specs.Option.{option_map_or}
use Rattle.std.specs.Prelude.{Bool, IsPermutation, List, None, Option, Some, [], false, ℕ, ◌≡◌}
use Rattle.task_table.specs.declared.id.TableId.{TableId}
use Rattle.task_wait.specs.declared.keys.ThreadKey.{ThreadKey}
use Rattle.machine_data.proofs.CommuteLemmas.{change-change_same, insert-present}
use Rattle.machine_data.proofs.MapLemmas.{change-absent, insert_is_change}
use Rattle.machine_data.specs.Core.{Core}
use Rattle.machine_data.specs.Maps.{Records, change, get, insert}
use Rattle.machine_data.specs.Moves.{checked, released, stopped}
use Rattle.machine_data.specs.Read.{admitted_held, foot_of, instance_of, may_not_enter}
use Rattle.machine_data.specs.Write.{on_instance, set_do_not_enter}
use Rattle.machine_data.specs.declared.records.Instance.{Instance}
use Rattle.machine_data.specs.declared.records.Place.TheVariants as place
use Rattle.ops_moves.specs.Stops.{MayStop}
use Rattle.ops_guests.proofs.FootLemmas.{checked_under, foot_may_still, quiet_under, released_under, under_after}
use Rattle.ops_guests.proofs.RunLemmas.{own_apart, stands_on}
use Rattle.ops_guests.specs.Reopens.{InOrder}
use Rattle.ops_moves.proofs.UntouchedLemmas.{on_instance_untouched}
use Rattle.ops_guests.proofs.BesideLemmas.{all_of, checked_stand, quiet_stand, released_good, stopped_stand}
use Rattle.ops_guests.specs.Running.{Stand}
use Rattle.machine_rules.specs.Ends.{code_stops, end_reopens, held_by_flag}
use Rattle.machine_rules.specs.Places.{Placed}
use Rattle.core_primitives.specs.Apart.{IsApart}
use Rattle.core_primitives.specs.StateView.{StateView, on_core, thread_of, with_core}

-- ---- The flag that is cleared and written back

changed_same : {X : Type 0} (m : Records X) (n : ℕ) (f : X → X) (o : Option X) → get m n ≡ o → ((x : X) → o ≡ Some x → f x ≡ x) → change n f m ≡ m
changed_same m n f None at same = change-absent m n f at
changed_same m n f (Some x) at same = sym (insert_is_change m n f x at) ∙ (ap (insert m n) (same x refl) ∙ insert-present m n x at)

flag_back : (i : ℕ) (b : Bool) (s : Core) → b ≡ may_not_enter i s → set_do_not_enter i b (set_do_not_enter i false s) ≡ s
unfolding set_do_not_enter on_instance
flag_back i b s is = ap (λ (m : Records Instance). record s { instances = m }) (change-change_same s.instances i _ _ ∙ changed_same s.instances i _ (get s.instances i) refl (λ r at. ap (λ (c : Bool). record r { do_not_enter = c }) (is ∙ ap (λ (o : Option Instance). option_map_or (λ r. r.do_not_enter) o false) at)))

pub flag_written_back : (i : ℕ) (b : Bool) (s t u : StateView) → b ≡ may_not_enter i s.core → t ≡ on_core (set_do_not_enter i false) s → u ≡ on_core (set_do_not_enter i b) t → u ≡ s
flag_written_back i b s t u is e d = d ∙ (ap (on_core (set_do_not_enter i b)) e ∙ ap (λ (c : Core). with_core c s) (flag_back i b s.core is))

-- ---- A check, then a stop

module _ (n : TableId ThreadKey) where
  pub check_may_stop : (f : TableId ThreadKey) (i : ℕ) (s t : StateView) → Stand (thread_of s n) place.Running [] s.core → thread_of s f ≡ foot_of (thread_of s n) s.core → t ≡ on_core (checked i) s → MayStop (thread_of t f) t.core
  check_may_stop f i s t st foot e = foot_may_still n f place.Running (checked i) s t refl foot e (checked_under (thread_of s n) place.Running i s.core refl st) (checked_stand (thread_of s n) place.Running i s.core st)

  pub checked_stopped_apart : (i f : ℕ) (s t u : StateView) → Stand (thread_of s n) place.Running [] s.core → t ≡ on_core (checked i) s → u ≡ on_core (stopped f) t → IsApart (thread_of u n) u.core
  checked_stopped_apart i f s t u st e d =
      own_apart (thread_of u n) place.Running u.core (stands_on n place.Running (stopped f) t u d (stopped_stand (thread_of t n) place.Running f t.core (stands_on n place.Running (checked i) s t e (checked_stand (thread_of s n) place.Running i s.core st))))

  -- ---- A release, then a stop

  open_stand : (i : ℕ) (s : StateView) → Stand (thread_of s n) place.Running [] s.core → Stand (thread_of s n) place.Running [] (set_do_not_enter i false s.core)
  unfolding set_do_not_enter
  open_stand i s st = quiet_stand (thread_of s n) place.Running [] s.core _ (on_instance_untouched i (λ r. record r { do_not_enter = false }) s.core) st

  pub open_placed : (i : ℕ) (s t : StateView) → Stand (thread_of s n) place.Running [] s.core → t ≡ on_core (set_do_not_enter i false) s → Placed t.core
  open_placed i s t st e = all_of (thread_of t n) place.Running t.core refl (stands_on n place.Running (set_do_not_enter i false) s t e (open_stand i s st))

  pub reopened_stand : (i : ℕ) (order : List ℕ) (s : StateView) → Stand (thread_of s n) place.Running [] s.core → Stand (thread_of s n) place.Running [] (end_reopens i order s.core)
  unfolding end_reopens
  reopened_stand i order s st = released_good (thread_of s n) place.Running refl order (set_do_not_enter i false s.core) (open_stand i s st)

  pub reopened_may_stop : (f : TableId ThreadKey) (i : ℕ) (s t : StateView) → Stand (thread_of s n) place.Running [] s.core → thread_of s f ≡ foot_of (thread_of s n) s.core → InOrder i (end_reopens i) s t → MayStop (thread_of t f) t.core
  unfolding set_do_not_enter end_reopens
  reopened_may_stop f i s t st foot o =
      foot_may_still n f place.Running (end_reopens i o.0) s t refl foot o.1.1.1
      (under_after s.core (set_do_not_enter i false s.core) (end_reopens i o.0 s.core) (quiet_under s.core _ (on_instance_untouched i (λ r. record r { do_not_enter = false }) s.core)) (released_under o.0 (set_do_not_enter i false s.core)))
      (reopened_stand i o.0 s st)

  pub stopped_in_order : (f : TableId ThreadKey) (i : ℕ) (s t u : StateView) → i ≡ instance_of (thread_of s n) s.core → thread_of s f ≡ foot_of (thread_of s n) s.core → InOrder i (end_reopens i) s t → u ≡ on_core (stopped (thread_of t f)) t → InOrder (instance_of (thread_of s n) s.core) (code_stops (thread_of s n)) s u
  unfolding code_stops
  stopped_in_order f i s t u at foot o e =
      let N = thread_of s n in (
        o.0,
        (
          subst (λ (j : ℕ). IsPermutation (held_by_flag j s.core) o.0) at o.1.0,
          (o.1.1.0, e ∙ (ap (λ (v : StateView). on_core (stopped (thread_of v f)) v) o.1.1.1 ∙ (ap (λ (g : ℕ). on_core (λ c. stopped g (end_reopens i o.0 c)) s) foot ∙ ap (λ (j : ℕ). on_core (λ c. stopped (foot_of N s.core) (end_reopens j o.0 c)) s) at))),
        ),
      )

pub reopened_in_order : (i : ℕ) (s t u : StateView) → t ≡ on_core (set_do_not_enter i false) s → ReleasesHeld i t u → InOrder i (end_reopens i) s u
unfolding end_reopens held_by_flag set_do_not_enter on_instance
reopened_in_order i s t u e o = (
  o.0,
  (
    subst (λ (l : List ℕ). IsPermutation l o.0) (ap (λ (v : StateView). admitted_held i v.core) e) o.1.0,
    (ap (λ (v : StateView). goes_in_order (preference v) o.0) (sym e) ∙ o.1.1.0, o.1.1.1 ∙ ap (on_core (released o.0)) e),
  ),
)
