-- A blocking export's exit: the instance lets entries in, and the task returns.
use Rattle.core_primitives.specs.Preferences.{preference}
use Rattle.machine_rules.specs.Picks.{goes_in_order}
use Rattle.std.proofs.Common.{ap, refl, subst, sym, ◌∙◌}
use Rattle.std.specs.Option.{option_map_or}
use Rattle.std.specs.Prelude.{IfSome, IsPermutation, List, None, Option, Some, [], false, is_some, option_and_then, option_map, true, ℕ, ◌∷◌, ◌≡◌}
use Rattle.machine_data.specs.Core.{Core}
use Rattle.machine_data.specs.Maps.{Records, get}
use Rattle.machine_data.specs.Moves.{held_why_of, put_high, released, released_one}
use Rattle.machine_data.specs.Read.{held_why, instance_of, is_blocked_on, is_waiting_on, join_of, place_of, register_of, task_of}
use Rattle.machine_data.specs.Write.{on_instance, on_thread, push_high, set_do_not_enter, set_place}
use Rattle.machine_data.specs.declared.records.Call.{Call}
use Rattle.machine_data.specs.declared.records.Place.{Place}
use Rattle.machine_data.specs.declared.records.Place.TheVariants as place
use Rattle.machine_data.specs.declared.records.Set.{Set}
use Rattle.machine_data.specs.declared.records.Join.TheVariants as join
use Rattle.machine_data.specs.declared.records.Subtask.{Subtask}
use Rattle.machine_data.specs.declared.records.Subtask.TheVariants as subtask
use Rattle.machine_data.specs.declared.records.Why.{Why}
use Rattle.machine_data.specs.declared.records.Work.{Work}
use Rattle.machine_data.specs.declared.statuses.Mark.TheVariants as mark
use Rattle.ops_moves.specs.Idle.{AreIdleUnqueued, CanPublish, IsJoinThere, IsWaiting}
use Rattle.ops_guests.proofs.BesideLemmas.{all_of}
use Rattle.ops_guests.proofs.ExitLemmas.{reopened_stand}
use Rattle.ops_guests.proofs.RunLemmas.{stands_on}
use Rattle.ops_guests.proofs.TellingLemmas.{all_wait, returned_stands}
use Rattle.ops_guests.specs.Reopens.{InOrder}
use Rattle.ops_guests.specs.Running.{IsRunning}
use Rattle.machine_rules.proofs.StandLemmas.{by_number, place_kept}
use Rattle.machine_rules.specs.Ends.{blocking_exits, end_reopens, exit_stops, held_by_flag, returned}
use Rattle.machine_rules.specs.Places.{HasPlace, Placed, is_at_high, is_at_low, says}
use Rattle.task_table.specs.declared.id.TableId.{TableId}
use Rattle.task_wait.specs.declared.keys.GuestTaskKey.{GuestTaskKey}
use Rattle.task_wait.specs.declared.keys.ThreadKey.{ThreadKey}
use Rattle.core_primitives.specs.StateView.{StateView, call_of, on_core, thread_of}

-- ---- Who is idle has no entry

waiting_out : (x : ℕ) (o : Option Place) → option_map_or (is_waiting_on x) o false ≡ true → (says is_at_high o ≡ 0) × (says is_at_low o ≡ 0)
waiting_out x None h = absurd (cc)
waiting_out x (Some (place.Waiting y b)) h = (refl, refl)
waiting_out x (Some p) h = absurd (cc)

blocked_out : (sub : Subtask) (o : Option Place) → option_map_or (is_blocked_on sub) o false ≡ true → (says is_at_high o ≡ 0) × (says is_at_low o ≡ 0)
blocked_out sub None h = absurd (cc)
blocked_out sub (Some (place.Blocked other)) h = (refl, refl)
blocked_out sub (Some p) h = absurd (cc)

idle_of : (s : Core) → Placed s → AreIdleUnqueued s
idle_of s all = record {
  waiters = λ x n h. let out = waiting_out x (place_of n s) h in let p : HasPlace n s = all n in record { high = p.high ∙ out.0; low = p.low ∙ out.1 };
  blocked = λ sub n h. let out = blocked_out sub (place_of n s) h in let p : HasPlace n s = all n in record { high = p.high ∙ out.0; low = p.low ∙ out.1 };
}

-- ---- What a release leaves

one_place : (m n : ℕ) (o : Option Why) (s : Core) → held_why_of n s ≡ o → held_why_of m s ≡ None → place_of m (released_one n o s) ≡ place_of m s
unfolding put_high push_high
one_place m n None s at free = refl
one_place m n (Some w) s at free = by_number m n _ (λ e. absurd (both (sym free ∙ (ap (λ k. held_why_of k s) e ∙ at)))) (λ e. place_kept m n (place.Ready mark.High w) s e)
  where
    both : None ≡ Some w → ⊥
    both e = cc

released_place : (m : ℕ) (ns : List ℕ) (s : Core) → held_why_of m s ≡ None → place_of m (released ns s) ≡ place_of m s
unfolding released
released_place m [] s free = refl
released_place m (n ∷ ns) s free =
    let t = released_one n (held_why_of n s) s in
    let one = one_place m n (held_why_of n s) s refl free in
    released_place m ns t (ap (option_and_then held_why) one ∙ free) ∙ one

one_beside : (n : ℕ) (o : Option Why) (s : Core) → ((released_one n o s).calls ≡ s.calls) × (((released_one n o s).works ≡ s.works) × ((released_one n o s).sets ≡ s.sets))
unfolding put_high push_high set_place on_thread
one_beside n None s = (refl, (refl, refl))
one_beside n (Some w) s = (refl, (refl, refl))

released_beside : (ns : List ℕ) (s : Core) → ((released ns s).calls ≡ s.calls) × (((released ns s).works ≡ s.works) × ((released ns s).sets ≡ s.sets))
unfolding released
released_beside [] s = (refl, (refl, refl))
released_beside (n ∷ ns) s =
    let a = one_beside n (held_why_of n s) s in
    let b = released_beside ns (released_one n (held_why_of n s) s) in
    (b.0 ∙ a.0, (b.1.0 ∙ a.1.0, b.1.1 ∙ a.1.1))

open_beside : (i : ℕ) (order : List ℕ) (s : Core) → ((end_reopens i order s).calls ≡ s.calls) × (((end_reopens i order s).works ≡ s.works) × ((end_reopens i order s).sets ≡ s.sets))
unfolding end_reopens set_do_not_enter on_instance
open_beside i order s = released_beside order (set_do_not_enter i false s)

open_place : (m i : ℕ) (order : List ℕ) (s : Core) → held_why_of m s ≡ None → place_of m (end_reopens i order s) ≡ place_of m s
unfolding end_reopens set_do_not_enter on_instance
open_place m i order s free = released_place m order (set_do_not_enter i false s) free

open_join : (sub : Subtask) (i : ℕ) (order : List ℕ) (s : Core) → join_of sub (end_reopens i order s) ≡ join_of sub s
open_join (subtask.Guest k) i order s = ap (λ (m : Records Call). option_map_or (λ c. c.join) (get m k) join.Nowhere) (open_beside i order s).0
open_join (subtask.Host j) i order s = ap (λ (m : Records Work). option_map_or (λ w. w.join) (get m j) join.Nowhere) (open_beside i order s).1.0

open_there : (sub : Subtask) (i : ℕ) (order : List ℕ) (s : Core) → IsJoinThere sub s → IsJoinThere sub (end_reopens i order s)
open_there sub i order s there x e = ap (λ (m : Records Set). is_some (get m x)) (open_beside i order s).1.1 ∙ there x (sym (open_join sub i order s) ∙ e)

waiting_free : (x : ℕ) (o : Option Place) → option_map_or (is_waiting_on x) o false ≡ true → option_and_then held_why o ≡ None
waiting_free x None h = absurd (cc)
waiting_free x (Some (place.Waiting y b)) h = refl
waiting_free x (Some p) h = absurd (cc)

open_waits : (n i : ℕ) (order : List ℕ) (s : Core) → IsWaiting n s → IsWaiting n (end_reopens i order s)
open_waits n i order s waits =
    (waits.0, ap (λ (o : Option Place). option_map_or (is_waiting_on waits.0) o false) (open_place n i order s (waiting_free waits.0 (place_of n s) waits.1)) ∙ waits.1)

all_waits : (waiter : Option (TableId ThreadKey)) (i : ℕ) (order : List ℕ) (s : StateView) → IfSome waiter (λ id. IsWaiting (thread_of s id) s.core) → IfSome waiter (λ id. IsWaiting (thread_of s id) (end_reopens i order s.core))
all_waits None i order s h = tt
all_waits (Some id) i order s h = open_waits (thread_of s id) i order s.core h

-- ---- As contracts see it

module _ (n : TableId ThreadKey) (k : TableId GuestTaskKey) (waiter : Option (TableId ThreadKey)) (i : ℕ) (s t : StateView) (st : IsRunning (thread_of s n) s.core) (opens : InOrder i (end_reopens i) s t) where
  abbrev N : ℕ
  N = thread_of s n

  abbrev W : Option ℕ
  W = option_map (λ id. thread_of s id) waiter

  open_running : IsRunning N (end_reopens i opens.0 s.core)
  open_running = reopened_stand n i opens.0 s st

  pub can_after_open : (j : ℕ) → call_of s k ≡ j → CanPublish (subtask.Guest j) waiter s → CanPublish (subtask.Guest (call_of t k)) waiter t
  can_after_open j named can =
      subst (λ (v : StateView). CanPublish (subtask.Guest (call_of v k)) waiter v) (sym opens.1.1.1)
      (subst (λ (q : ℕ). CanPublish (subtask.Guest q) waiter (on_core (end_reopens i opens.0) s)) (sym named) (record {
        named = can.named;
        idle = idle_of (end_reopens i opens.0 s.core) (all_of N place.Running (end_reopens i opens.0 s.core) refl open_running);
        there = open_there (subtask.Guest j) i opens.0 s.core can.there;
        live = can.live;
        waits = all_waits waiter i opens.0 s can.waits;
      }))

  module _ (v j : ℕ) (u : StateView) (can : CanPublish (subtask.Guest j) waiter s) (back : u ≡ on_core (returned (call_of t k) v (option_map (λ id. thread_of t id) waiter)) t) where
    -- the release and the return, as one
    opened : u ≡ on_core (λ c. returned (call_of s k) v W (end_reopens i opens.0 c)) s
    opened = back ∙ ap (λ (y : StateView). on_core (returned (call_of y k) v (option_map (λ id. thread_of y id) waiter)) y) opens.1.1.1

    pub opened_running : IsRunning (thread_of u n) u.core
    opened_running = stands_on n place.Running (λ c. returned (call_of s k) v W (end_reopens i opens.0 c)) s u opened
        (returned_stands N place.Running refl (call_of s k) v W (end_reopens i opens.0 s.core) (all_wait waiter (on_core (end_reopens i opens.0) s) (all_waits waiter i opens.0 s can.waits)) open_running)

    pub opened_core : (c : Core) → call_of s k ≡ task_of N s.core → v ≡ register_of N 0 s.core → i ≡ instance_of N s.core → c ≡ exit_stops (thread_of u n) u.core
        → (order : List ℕ) × (IsPermutation (held_by_flag (instance_of N s.core) s.core) order × ((goes_in_order (preference s) order ≡ true) × (c ≡ blocking_exits N W order s.core)))
    unfolding blocking_exits
    opened_core c task value at out = (
      opens.0,
      (
        subst (λ (q : ℕ). IsPermutation (held_by_flag q s.core) opens.0) at opens.1.0,
        (
          opens.1.1.0,
          out ∙ (ap (λ (y : StateView). exit_stops (thread_of y n) y.core) opened
              ∙ (ap (λ (q : ℕ). exit_stops N (returned q v W (end_reopens i opens.0 s.core))) task
              ∙ (ap (λ (a : ℕ). exit_stops N (returned (task_of N s.core) a W (end_reopens i opens.0 s.core))) value
              ∙ ap (λ (q : ℕ). exit_stops N (returned (task_of N s.core) (register_of N 0 s.core) W (end_reopens q opens.0 s.core))) at))),
        ),
      ),
    )
