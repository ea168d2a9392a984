-- What is queued: items, and the entries that they are.
use Rattle.laws_order.specs.KeptOrder.{Hand, put_back}
use Rattle.std.specs.Prelude.{Bool, None, Option, Some, false, option_map, true, ℕ, ◌<◌, ◌≡◌, ◌≢◌}
use Rattle.ops_state.specs.Named.{IsLive}
use Rattle.ops_state.specs.declared.entry_calls.Item.{Item}
use Rattle.ops_state.specs.declared.entry_calls.Item.TheVariants as item
use Rattle.ops_state.specs.declared.name_calls.QualifiedThreadId.{QualifiedThreadId}
use Rattle.laws_states.specs.Order.{is_finishing, is_open}
use Rattle.machine_data.specs.Core.{Core}
use Rattle.machine_data.specs.Moves.{why_of}
use Rattle.machine_data.specs.Read.{is_at, is_explicit, is_new, place_of, stage_of}
use Rattle.machine_data.specs.Write.{push_high}
use Rattle.machine_data.specs.declared.records.Delivery.TheVariants as delivery
use Rattle.machine_data.specs.declared.records.Entry.{Entry}
use Rattle.machine_data.specs.declared.records.Entry.TheVariants as entry
use Rattle.machine_data.specs.declared.records.Place.{Place}
use Rattle.machine_data.specs.declared.records.Place.TheVariants as place
use Rattle.machine_data.specs.declared.records.Stage.{Stage}
use Rattle.machine_data.specs.declared.records.Stage.TheVariants as stage
use Rattle.machine_data.specs.declared.records.Why.{Why}
use Rattle.machine_data.specs.declared.records.Why.TheVariants as why
use Rattle.machine_data.specs.declared.statuses.Mark.{Mark}
use Rattle.machine_data.specs.declared.statuses.Mark.TheVariants as mark
use Rattle.machine_rules.specs.Allowed.{MayPut as GetsEntry}
use Rattle.machine_rules.specs.Places.{is_for_start, switch_entries}
use Rattle.machine_rules.specs.Takes.{popped}
use Rattle.machine_rules.specs.Primitives.{put_at}
use Rattle.core_primitives.specs.Apart.{IsSwitchUnqueued, IsUnqueued, work_entries}
use Rattle.core_primitives.specs.Live.{live_set}
use Rattle.core_primitives.specs.Names.{delivery_in}
use Rattle.core_primitives.specs.StateView.{StateView, Tags, on_core, thread_number, thread_of, work_number, work_of}
use Rattle.laws_order.specs.Pieces.{KeepsOrder}
use Rattle.machine_data.specs.declared.component.Component.{Component}
use Rattle.machine_data.specs.declared.records.Turn.{Turn}
use Rattle.machine_data.specs.declared.records.Turn.TheVariants as turn

-- ---- An item as an entry

abbrev pub entry_of : Tags → Item → Entry
entry_of tags (item.StartImplicit id) = entry.Thread (thread_number tags id.thread)
entry_of tags (item.StartExplicit id) = entry.Thread (thread_number tags id.thread)
entry_of tags (item.Deliver id d) = entry.Thread (thread_number tags id.thread)
entry_of tags (item.Resume id) = entry.Thread (thread_number tags id.thread)
entry_of tags (item.PushFuture id) = entry.Push (work_number tags id)
entry_of tags (item.FinishHost id) = entry.Host (work_number tags id)

-- why a thread's item is queued; default: item of a work
abbrev pub why_in : Tags → Item → Why
why_in tags (item.StartImplicit id) = why.Start
why_in tags (item.StartExplicit id) = why.Start
why_in tags (item.Deliver id d) = why.Delivery (delivery_in tags d)
why_in tags _ = why.Resumption

-- ---- Putting an item

-- the entry is put at the mark, for this reason where it is of a thread; a work's is at high
abbrev pub entry_put : Mark → Why → Entry → Core → Core
entry_put m w (entry.Thread n) s = put_at m n w s
entry_put m w e s = push_high e s

abbrev pub item_put : Tags → Mark → Item → Core → Core
item_put tags m i s = entry_put m (why_in tags i) (entry_of tags i) s

-- it waits, is blocked, or is behind or under another thread
abbrev pub is_kept_back : Place → Bool
is_kept_back (place.Waiting x by_callback) = true
is_kept_back (place.Blocked sub) = true
is_kept_back (place.Behind n) = true
is_kept_back (place.Under n) = true
is_kept_back _ = false

-- The thread has no entry and isn't kept back, and it is New just where the item is a start. What is at switch, if that is where
-- the item comes to, has no other entry.
pub record MayPut (m : Mark) (n : ℕ) (w : Why) (s : Core) : Type 0 where
  pub unqueued : IsUnqueued n s
  pub switch : switch_entries n s.queues.switch ≡ 0
  pub free : is_at n s is_kept_back ≡ false
  pub new : is_at n s is_new ≡ is_for_start w
  pub displaces : m ≡ mark.Switch → IsSwitchUnqueued s

-- a work at its first poll, or whose push is queued
abbrev pub is_unpolled : Stage → Bool
is_unpolled stage.FirstPoll = true
is_unpolled stage.Queued = true
is_unpolled _ = false

-- The work is at such a stage, and has no entry. Works have none but at high.
pub record MayStand (m : Mark) (i : ℕ) (test : Stage → Bool) (s : Core) : Type 0 where
  pub mark : m ≡ mark.High
  pub unqueued : work_entries i s.queues.high ≡ 0
  pub stage : test (stage_of i s) ≡ true

-- An item that may be put at the mark: its ids are live, and it is nowhere.
abbrev pub MayQueue : Mark → Item → StateView → Type 0
MayQueue m (item.StartImplicit id) s = IsLive s id × MayPut m (thread_of s id.thread) why.Start s.core
MayQueue m (item.StartExplicit id) s = IsLive s id × MayPut m (thread_of s id.thread) why.Start s.core
MayQueue m (item.Deliver id d) s = IsLive s id × MayPut m (thread_of s id.thread) (why.Delivery (delivery_in s.tags d)) s.core
MayQueue m (item.Resume id) s = IsLive s id × MayPut m (thread_of s id.thread) why.Resumption s.core
MayQueue m (item.PushFuture id) s = (0 < work_of s id) × MayStand m (work_of s id) is_unpolled s.core
MayQueue m (item.FinishHost id) s = (0 < work_of s id) × MayStand m (work_of s id) is_finishing s.core

-- The item is of a thread that doesn't run, and is at a place from which it may get such an entry.
abbrev pub CanGet : Item → StateView → Type 0
CanGet (item.StartImplicit id) s = GetsEntry (thread_of s id.thread) why.Start s.core
CanGet (item.StartExplicit id) s = GetsEntry (thread_of s id.thread) why.Start s.core
CanGet (item.Deliver id d) s = GetsEntry (thread_of s id.thread) (why.Delivery (delivery_in s.tags d)) s.core
CanGet (item.Resume id) s = GetsEntry (thread_of s id.thread) why.Resumption s.core
CanGet _ s = ⊥

-- The thread has this item in hand, taken from the mark, and it is no start. Nothing is at switch, if it was taken from there.
pub record IsHeld (from : Mark) (n : ℕ) (w : Why) (s : Core) : Type 0 where
  pub place : place_of n s ≡ Some (place.Ready from w)
  pub plain : is_for_start w ≡ false
  pub free : from ≡ mark.Switch → s.queues.switch ≡ None

-- the item of a thread that is in hand, and may be put back
abbrev pub CanReturn : Mark → Item → StateView → Type 0
CanReturn from (item.Deliver id d) s = IsHeld from (thread_of s id.thread) (why.Delivery (delivery_in s.tags d)) s.core
CanReturn from (item.Resume id) s = IsHeld from (thread_of s id.thread) why.Resumption s.core
CanReturn from _ s = ⊥

-- beside a thread that runs, what comes to switch keeps order
abbrev pub PutKeepsOrderBeside : Mark → Item → StateView → StateView → Type 0
PutKeepsOrderBeside m i s t = (c : Component) (n : ℕ) → m ≡ mark.Switch → CanGet i s → KeepsOrder c (turn.Run n) s.core (turn.Run n) t.core

-- an item that is put back, but not to switch, keeps order as it was in hand
abbrev pub PutKeepsOrderBack : Mark → Item → StateView → StateView → Type 0
PutKeepsOrderBack m i s t = (c : Component) (p : Turn) (from : Mark) → is_open p ≡ true → m ≢ mark.Switch → CanReturn from i s →
    KeepsOrder c p (put_back (Some (from, entry_of s.tags i)) s.core) p t.core

-- ---- Taking an item

-- what is in hand once this was taken
abbrev pub in_hand : Tags → Option (Mark × Item) → Hand
in_hand tags r = option_map (λ x. (x.0, entry_of tags x.1)) r

-- why a thread is queued, with the set that its delivery is for where that is there; default: 0, which is none
abbrev pub live_why : Why → Core → Why
live_why (why.Delivery (delivery.Set x)) s = why.Delivery (delivery.Set (live_set x s))
live_why w s = w

abbrev pub live_why_of : ℕ → Core → Why
live_why_of n s = live_why (why_of n s) s

-- The id names the thread and its call.
pub record Names (s : StateView) (n : ℕ) (id : QualifiedThreadId) : Type 0 where
  pub live : IsLive s id
  pub number : thread_of s id.thread ≡ n

-- the thread is queued for its start
pub record IsStarting (made : Bool) (n : ℕ) (s : Core) : Type 0 where
  pub why : why_of n s ≡ why.Start
  pub explicit : is_explicit n s ≡ made

-- The item names the thread, and says why it is queued, and for a start whether the thread isn't the first of its call.
abbrev pub IsItemOf : StateView → ℕ → Item → Type 0
IsItemOf s n (item.StartImplicit id) = Names s n id × IsStarting false n s.core
IsItemOf s n (item.StartExplicit id) = Names s n id × IsStarting true n s.core
IsItemOf s n (item.Deliver id d) = Names s n id × (why.Delivery (delivery_in s.tags d) ≡ live_why_of n s.core)
IsItemOf s n (item.Resume id) = Names s n id × (why_of n s.core ≡ why.Resumption)
IsItemOf s n _ = ⊥

abbrev pub IsItem : StateView → Entry → Item → Type 0
IsItem s (entry.Thread n) i = IsItemOf s n i
IsItem s (entry.Push j) (item.PushFuture id) = work_of s id ≡ j
IsItem s (entry.Host j) (item.FinishHost id) = work_of s id ≡ j
IsItem s e i = ⊥

-- The first entry has left its mark, and the answer is its item.
abbrev pub Takes : StateView → Option (Mark × Entry) → Option (Mark × Item) → StateView → Type 0
Takes s None None t = t ≡ s
Takes s (Some e) (Some r) t = (r.0 ≡ e.0) × (IsItem s e.1 r.1 × (t ≡ on_core (popped e.0) s))
Takes s e r t = ⊥
