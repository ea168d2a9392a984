-- What the calls of a state ask, in a store that is in order at a turn.
use Rattle.std.proofs.Common.{arith, refl, subst, sym, ◌∙◌}
use Rattle.std.proofs.lemmas.Bool.Decides.{nat_tests}
use Rattle.std.specs.Prelude.{Bool, None, Option, Result, Some, is_none, is_some, option_map, true, ℕ, ◌<◌, ◌≡◌}
use Rattle.ops_state.proofs.PlacedLemmas.{placed_idle, placed_may_stop}
use Rattle.ops_state.specs.Woken.{Wakes}
use Rattle.ops_state.specs.declared.error.TaskError.{TaskError}
use Rattle.ops_state.specs.declared.name_calls.QualifiedThreadId.{QualifiedThreadId}
use Rattle.machine_data.proofs.CommuteLemmas.{get-change}
use Rattle.machine_data.specs.Core.{Core, Unscripted}
use Rattle.machine_data.specs.Maps.{get}
use Rattle.machine_data.specs.Write.{on_call, on_work, set_event}
use Rattle.machine_data.specs.declared.component.Component.{Component}
use Rattle.machine_data.specs.declared.records.Set.{Set}
use Rattle.machine_data.specs.declared.records.Subtask.{Subtask}
use Rattle.machine_data.specs.declared.records.Subtask.TheVariants as subtask
use Rattle.machine_data.specs.declared.records.Turn.{Turn}
use Rattle.machine_data.specs.declared.statuses.Status.{Status}
use Rattle.ops_moves.specs.Idle.{AreIdleUnqueued, IsJoinThere}
use Rattle.ops_moves.specs.Stops.{MayStop}
use Rattle.machine_rules.specs.Places.{Placed}
use Rattle.task_table.specs.declared.id.TableId.{TableId}
use Rattle.ops_turns.specs.Turn.{CoreInOrder}
use Rattle.task_wait.specs.declared.keys.GuestTaskKey.{GuestTaskKey}
use Rattle.task_wait.specs.declared.keys.ThreadKey.{ThreadKey}
use Rattle.core_primitives.specs.StateView.{StateView, call_of, on_core, thread_of}

pub core_in_order_placed : (c : Component) (p : Turn) (s : Core) → CoreInOrder c p s → Placed s
core_in_order_placed c p s in_turn = (in_turn.order Unscripted).in_place.placed

instance_unchecked : (i : ℕ) (o : Option Set) → option_map (λ (r : Set). r.instance) o ≡ Some i → is_some o ≡ true
instance_unchecked i (Some r) e = refl
instance_unchecked i None e = absurd (cc)

pub core_in_order_joins : (c : Component) (p : Turn) (s : Core) → CoreInOrder c p s → (k : ℕ) → IsJoinThere (subtask.Guest k) s
core_in_order_joins c p s in_turn k x at = let n = (in_turn.order Unscripted).joins_named.joins (subtask.Guest k) x at in instance_unchecked n.instance (get s.sets x) n.home

-- ---- After an event

module _ (id : TableId GuestTaskKey) (s t : StateView) where
  pub woken_live : {may : Option ℕ → Core → Bool} {move : Option ℕ → Core → Core} {r : Result (Option QualifiedThreadId) TaskError} → Wakes may move s r t → 0 < call_of s id → 0 < call_of t id
  woken_live w live = subst (λ (v : StateView). 0 < call_of v id) (sym w.core) live

  pub event_live : (sub : Subtask) (e : Option Status) → t ≡ on_core (set_event sub e) s → 0 < call_of s id → 0 < call_of t id
  event_live sub e is live = subst (λ (v : StateView). 0 < call_of v id) (sym is) live

idle_event : (sub : Subtask) (e : Option Status) (s : Core) → AreIdleUnqueued s → AreIdleUnqueued (set_event sub e s)
unfolding set_event on_call on_work
idle_event (subtask.Guest k) e s idle = record {
  waiters = λ x n h. let u = idle.waiters x n h in record { high = u.high; low = u.low };
  blocked = λ on n h. let u = idle.blocked on n h in record { high = u.high; low = u.low };
}
idle_event (subtask.Host i) e s idle = record {
  waiters = λ x n h. let u = idle.waiters x n h in record { high = u.high; low = u.low };
  blocked = λ on n h. let u = idle.blocked on n h in record { high = u.high; low = u.low };
}

pub event_idle : (sub : Subtask) (e : Option Status) (s t : StateView) → t ≡ on_core (set_event sub e) s → Placed s.core → AreIdleUnqueued t.core
event_idle sub e s t is placed = subst (λ (v : StateView). AreIdleUnqueued v.core) (sym is) (idle_event sub e s.core (placed_idle s.core placed))

there_event : (k j : ℕ) (e : Option Status) (s : Core) → IsJoinThere (subtask.Guest k) s → IsJoinThere (subtask.Guest k) (set_event (subtask.Guest j) e s)
unfolding set_event on_call
there_event k j e s there x at = there x (grind (arith, nat_tests, get-change, at))

pub event_there : (id other : TableId GuestTaskKey) (e : Option Status) (s t : StateView) → t ≡ on_core (set_event (subtask.Guest (call_of s other)) e) s → ((k : ℕ) → IsJoinThere (subtask.Guest k) s.core) → IsJoinThere (subtask.Guest (call_of t id)) t.core
event_there id other e s t is there = subst (λ (v : StateView). IsJoinThere (subtask.Guest (call_of v id)) v.core) (sym is) (there_event (call_of s id) (call_of s other) e s.core (there (call_of s id)))

-- nothing is at switch
pub stops_freely : (f : ℕ) (r : Option (TableId ThreadKey)) (s : StateView) → option_map (λ id. thread_of s id) r ≡ s.core.queues.switch → is_none r ≡ true → Placed s.core → MayStop f s.core
stops_freely f None s is none placed = placed_may_stop f s.core placed (λ m at. absurd (let e = is ∙ at in cc))
stops_freely f (Some id) s is none placed = absurd (cc)
