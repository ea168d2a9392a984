-- Drops.
use Rattle.std.proofs.Common.{T, ap, arith, refl, subst, sym, ◌∙◌, inl, inr}
use Rattle.std.proofs.lemmas.Bool.Decides.{nat_tests}
use Rattle.std.specs.Option.{option_map_or}
use Rattle.std.specs.Prelude.{Bool, IsSome, List, None, Option, Some, [], false, if◌then◌else◌, is_some, not, option_and_then, suc, true, zero, ℕ, ◌&&◌, ◌+◌, ◌<◌, ◌==◌, ◌∷◌, ◌≡◌, ◌⊎◌}
use Rattle.task_table.specs.declared.id.TableId.{TableId}
use Rattle.task_wait.specs.declared.keys.ThreadKey.{ThreadKey}
use Rattle.laws_states.specs.Order.{WorksQueued, is_host_of, is_push_of, stands}
use Rattle.machine_data.specs.Core.{Core, Queues}
use Rattle.machine_data.specs.Maps.{Records, get, get-remove, remove, same_map}
use Rattle.machine_data.specs.Moves.{call_settled, group_settled, is_deletable, is_deletable_call, is_group_done}
use Rattle.machine_data.specs.Read.{call_group, event_of, has_thread, instance_of, is_stage_ended, is_watched, join_of, stage_of, subtask_at, subtask_ended}
use Rattle.machine_data.specs.Write.{free_handle, on_call, on_work, remove_call, remove_group, remove_work, set_join, set_subtask_handle}
use Rattle.machine_data.specs.declared.label.CallLabel.TheVariants as call_label
use Rattle.machine_data.specs.declared.label.Label.TheVariants as label
use Rattle.machine_data.specs.declared.records.Call.{Call}
use Rattle.machine_data.specs.declared.records.Entry.{Entry}
use Rattle.machine_data.specs.declared.records.Entry.TheVariants as entry
use Rattle.machine_data.specs.declared.records.Join.{Join}
use Rattle.machine_data.specs.declared.records.Join.TheVariants as join
use Rattle.machine_data.specs.declared.records.Stage.TheVariants as stage
use Rattle.machine_data.specs.declared.records.Subtask.{Subtask}
use Rattle.machine_data.specs.declared.records.Subtask.TheVariants as subtask
use Rattle.machine_data.specs.declared.records.Work.{Work}
use Rattle.machine_data.specs.declared.trap.Trap.TheVariants as trap
use Rattle.machine_data.specs.declared.statuses.Status.{Status}
use Rattle.ops_guests.specs.OpResult.{Implements}
use Rattle.machine_rules.specs.Calls.{settle_group_of, work_deleted, work_group}
use Rattle.machine_rules.specs.Cancels.{drop_by, subtask_settled, unnamed}
use Rattle.machine_rules.specs.Finish.{Doer, NoAnswer, finish}
use Rattle.machine_rules.specs.Progress.{Continues, Progress, trap_if}
use Rattle.core_primitives.specs.Apart.{work_entries}
use Rattle.core_primitives.specs.Live.{live_subtask}
use Rattle.core_primitives.specs.Names.{subtask_in}
use Rattle.core_primitives.specs.StateView.{KeepsBut, StateView, Tags, on_core, thread_number, thread_of, work_of}
use Rattle.core_primitives.specs.declared.names.SubtaskId.{SubtaskId}
use Rattle.ops_subtasks.proofs.SubtaskLemmas.{Alike, absent_call, absent_work, gone_calls, gone_works}
use Rattle.ops_subtasks.specs.Named.{lost_subtask}
use Rattle.machine_data.proofs.MapLemmas.{get-remove_same}
use Rattle.task_wait.specs.declared.keys.HostTaskKey.{HostTaskKey}
use Rattle.machine_rules.proofs.StandLemmas.{by_number, eq_refl}
use Rattle.ops_guests.specs.Shown.{goes_as}

-- ---- An ended work has no entry

entries_are : (i : ℕ) (es : List Entry) → work_entries i es ≡ stands (is_push_of i) es + stands (is_host_of i) es
entries_are i [] = refl
entries_are i (entry.Thread n ∷ es) = grind (arith, nat_tests, entries_are i es)
entries_are i (entry.Push j ∷ es) = grind (arith, nat_tests, entries_are i es)
entries_are i (entry.Host j ∷ es) = grind (arith, nat_tests, entries_are i es)

pub ended_entries : (i : ℕ) (s : Core) → WorksQueued s → is_stage_ended (stage_of i s) ≡ true → work_entries i s.queues.high ≡ 0
ended_entries i s q ended = go (get s.works i) refl ended
  where
    go : (o : Option Work) → get s.works i ≡ o → is_stage_ended (option_map_or (λ (w : Work). w.stage) o stage.Ended) ≡ true → work_entries i s.queues.high ≡ 0
    go None e over = let g = q.gone i e in let a = entries_are i s.queues.high in let b = g.0 in let c = g.1 in omega (arith, a, b, c)
    go (Some w) e over = let g = q.each i w e in let a = entries_are i s.queues.high in let b = g.push in let c = g.host in grind (arith, a, b, c, over)

-- ---- A subtask that is gone

remove-absent : {X : Type 0} (m : Records X) (n : ℕ) → get m n ≡ None → remove m n ≡ m
remove-absent m n gone = same_map _ _ (λ q. grind (arith, nat_tests, get-remove, gone))

settled_gone : (k : ℕ) (s : Core) → get s.calls k ≡ None → call_settled k s ≡ s
unfolding call_settled is_deletable
settled_gone k s gone = ap (λ (o : Option Call). if option_map_or is_deletable_call o false && not (has_thread k s) then group_settled (call_group k s) (remove_call k s) else s) gone

pub deleted_gone : (i : ℕ) (s : Core) → get s.works i ≡ None → work_deleted i s ≡ s
unfolding work_deleted remove_work
deleted_gone i s gone = ap (λ (o : Option Work). settle_group_of (option_and_then (λ (w : Work). w.group) o) (record s { works = remove s.works i })) gone ∙ ap (λ (m : Records Work). record s { works = m }) (remove-absent s.works i gone)

parted_calls : (k : ℕ) (s : Core) → get s.calls k ≡ None → set_subtask_handle (subtask.Guest k) None (set_join (subtask.Guest k) join.Nowhere s) ≡ s
unfolding set_join set_subtask_handle
parted_calls k s gone = ap (λ (c : Core). on_call k (λ r. record r { handle = None }) c) (absent_call k (λ c. record c { join = join.Nowhere }) s gone) ∙ absent_call k (λ r. record r { handle = None }) s gone

parted_works : (i : ℕ) (s : Core) → get s.works i ≡ None → set_subtask_handle (subtask.Host i) None (set_join (subtask.Host i) join.Nowhere s) ≡ s
unfolding set_join set_subtask_handle
parted_works i s gone = ap (λ (c : Core). on_work i (λ r. record r { handle = None }) c) (absent_work i (λ w. record w { join = join.Nowhere }) s gone) ∙ absent_work i (λ r. record r { handle = None }) s gone

-- the op is done once the subtask has no name
abbrev dropped : Doer → ℕ → ℕ → Subtask → Core → Core
dropped d n h q s = finish d n NoAnswer (unnamed n h q s)

dropped_call : (d : Doer) (n h k : ℕ) (s : Core) → get s.calls k ≡ None → dropped d n h (subtask.Guest k) s ≡ finish d n NoAnswer (free_handle (instance_of n s) h s)
unfolding unnamed free_handle
dropped_call d n h k s gone =
    ap (λ (c : Core). finish d n NoAnswer (call_settled k (free_handle (instance_of n s) h c))) (parted_calls k s gone)
    ∙ ap (λ (c : Core). finish d n NoAnswer c) (settled_gone k (free_handle (instance_of n s) h s) gone)

dropped_work : (d : Doer) (n h i : ℕ) (s : Core) → get s.works i ≡ None → dropped d n h (subtask.Host i) s ≡ finish d n NoAnswer (free_handle (instance_of n s) h s)
unfolding unnamed free_handle
dropped_work d n h i s gone =
    ap (λ (c : Core). finish d n NoAnswer (work_deleted i (free_handle (instance_of n s) h c))) (parted_works i s gone)
    ∙ ap (λ (c : Core). finish d n NoAnswer c) (deleted_gone i (free_handle (instance_of n s) h s) gone)

found_alike : (d : Doer) (n h : ℕ) (s : Core) (a b : Subtask) → Alike a b s → dropped d n h a s ≡ dropped d n h b s → drop_by d n h s a ≡ drop_by d n h s b
found_alike d n h s a b like same =
    ap (λ j. row j (subtask_ended a s) (event_of a s) (dropped d n h a s)) like.join
    ∙ (ap (λ o. row (join_of b s) o (event_of a s) (dropped d n h a s)) like.ended
    ∙ (ap (λ e. row (join_of b s) (subtask_ended b s) e (dropped d n h a s)) like.event
    ∙ ap (λ c. row (join_of b s) (subtask_ended b s) (event_of b s) c) same))
  where
    row : Join → Bool → Option Status → Core → Progress
    row j o e c = trap_if (is_watched j) trap.WaitableSyncAndAsync (trap_if (not o) trap.SubtaskDropNotResolved (trap_if (is_some e) trap.SubtaskDropNotResolved (Continues (label.Call (call_label.Drop n)) c n)))

pub drop_kept : (d : Doer) (n h : ℕ) (s : Core) → get s.calls 0 ≡ None → get s.works 0 ≡ None → (sub : Subtask) → drop_by d n h s sub ≡ drop_by d n h s (live_subtask sub s)
drop_kept d n h s calls works (subtask.Guest k) = go (get s.calls k) refl
  where
    go : (o : Option Call) → get s.calls k ≡ o → drop_by d n h s (subtask.Guest k) ≡ drop_by d n h s (subtask.Guest (if is_some o then k else 0))
    go None e = found_alike d n h s (subtask.Guest k) (subtask.Guest 0) (gone_calls k 0 s e calls) (dropped_call d n h k s e ∙ sym (dropped_call d n h 0 s calls))
    go (Some c) e = refl
drop_kept d n h s calls works (subtask.Host k) = go (get s.works k) refl
  where
    go : (o : Option Work) → get s.works k ≡ o → drop_by d n h s (subtask.Host k) ≡ drop_by d n h s (subtask.Host (if is_some o then k else 0))
    go None e = found_alike d n h s (subtask.Host k) (subtask.Host 0) (gone_works k 0 s e works) (dropped_work d n h k s e ∙ sym (dropped_work d n h 0 s works))
    go (Some w) e = refl

-- ---- The steps of a drop

call_there : (k : ℕ) (s : Core) → get s.calls 0 ≡ None → is_some (option_and_then (λ (c : Call). c.«end») (get s.calls k)) ≡ true → 0 < k
call_there zero s none e = absurd (subst T (sym (sym (ap (λ (o : Option Call). is_some (option_and_then (λ (c : Call). c.«end») o)) none) ∙ e)) tt)
call_there (suc k) s none e = omega arith

pub ended_live : (q : Subtask) (s : Core) → get s.calls 0 ≡ None → subtask_ended q s ≡ true → (k : ℕ) → q ≡ subtask.Guest k → 0 < k
ended_live q s none e k is = call_there k s none (subst (λ (p : Subtask). subtask_ended p s ≡ true) is e)

pub lost_none : (q : Subtask) → (lost_subtask q).thread ≡ 0
lost_none (subtask.Guest k) = refl
lost_none (subtask.Host i) = refl

pub settled_thread : (n : TableId ThreadKey) (q : Subtask) (s t : StateView) → 0 < thread_of s n → KeepsBut (lost_subtask q) s.tags t.tags → thread_of t n ≡ thread_of s n
settled_thread n q s t live keeps = keeps.threads n (λ e. absurd (none (subst (λ k. 0 < k) (e ∙ lost_none q) live)))
  where
    none : ◌<◌ 0 0 → ⊥
    none h = omega (arith, h)

handles_kept : (q : Subtask) (i h : ℕ) (s : Core) → subtask_at i h (set_subtask_handle q None (set_join q join.Nowhere s)) ≡ subtask_at i h s
unfolding set_subtask_handle set_join on_call on_work
handles_kept (subtask.Guest k) i h s = refl
handles_kept (subtask.Host k) i h s = refl

queues_kept : (q : Subtask) (i h : ℕ) (s : Core) → (free_handle i h (set_subtask_handle q None (set_join q join.Nowhere s))).queues ≡ s.queues
unfolding set_subtask_handle set_join on_call on_work free_handle
queues_kept (subtask.Guest k) i h s = refl
queues_kept (subtask.Host k) i h s = refl

-- the subtask leaves its set, has no handle any more, and the handle is free
module _ (n : TableId ThreadKey) (id : SubtaskId) (i h : ℕ) (s a b c : StateView) (left : a ≡ on_core (set_join (subtask_in s.tags id) join.Nowhere) s) (nameless : b ≡ on_core (set_subtask_handle (subtask_in a.tags id) None) a) where
  parted_is : b ≡ on_core (λ u. set_subtask_handle (subtask_in s.tags id) None (set_join (subtask_in s.tags id) join.Nowhere u)) s
  parted_is = nameless ∙ ap (λ (v : StateView). on_core (set_subtask_handle (subtask_in v.tags id) None) v) left

  pub parted_named : i ≡ instance_of (thread_of s n) s.core → IsSome (subtask_at (instance_of (thread_of s n) s.core) h s.core) → IsSome (subtask_at i h b.core)
  parted_named at named = subst (λ (o : Option Subtask). IsSome o) (sym (ap (λ (v : StateView). subtask_at i h v.core) parted_is ∙ (handles_kept (subtask_in s.tags id) i h s.core ∙ ap (λ (j : ℕ). subtask_at j h s.core) at))) named

  module _ (freed : c ≡ on_core (free_handle i h) b) where
    freed_is : c ≡ on_core (λ u. free_handle i h (set_subtask_handle (subtask_in s.tags id) None (set_join (subtask_in s.tags id) join.Nowhere u))) s
    freed_is = freed ∙ ap (λ (v : StateView). on_core (free_handle i h) v) parted_is

    same_tags : c.tags ≡ s.tags
    same_tags = ap (λ (v : StateView). v.tags) freed_is

    pub freed_live : get s.core.calls 0 ≡ None → subtask_ended (subtask_in s.tags id) s.core ≡ true → (k : ℕ) → subtask_in c.tags id ≡ subtask.Guest k → 0 < k
    freed_live none ended k is = ended_live (subtask_in s.tags id) s.core none ended k (ap (λ (g : Tags). subtask_in g id) (sym same_tags) ∙ is)

    pub freed_entries : WorksQueued s.core → subtask_ended (subtask_in s.tags id) s.core ≡ true → (j : ℕ) → subtask_in c.tags id ≡ subtask.Host j → work_entries j c.core.queues.high ≡ 0
    freed_entries works ended j is =
        ap (λ (q : Queues). work_entries j q.high) (ap (λ (v : StateView). v.core.queues) freed_is ∙ queues_kept (subtask_in s.tags id) i h s.core)
        ∙ ended_entries j s.core works (subst (λ (p : Subtask). subtask_ended p s.core ≡ true) (ap (λ (g : Tags). subtask_in g id) (sym same_tags) ∙ is) ended)

    module _ (d : StateView) (settled : d.core ≡ subtask_settled (subtask_in c.tags id) c.core) (keeps : KeepsBut (lost_subtask (subtask_in c.tags id)) c.tags d.tags) (live : 0 < thread_of s n) where
      pub parted_thread : thread_of d n ≡ thread_of s n
      parted_thread = settled_thread n (subtask_in c.tags id) c d (subst (λ (g : Tags). 0 < thread_number g n) (sym same_tags) live) keeps ∙ ap (λ (g : Tags). thread_number g n) same_tags

      pub parted_tags : KeepsBut (lost_subtask (subtask_in s.tags id)) s.tags d.tags
      parted_tags = subst (λ (g : Tags). KeepsBut (lost_subtask (subtask_in g id)) g d.tags) same_tags keeps

      pub parted_core : i ≡ instance_of (thread_of s n) s.core → d.core ≡ unnamed (thread_of s n) h (subtask_in s.tags id) s.core
      unfolding unnamed
      parted_core at =
          let q = subtask_in s.tags id in
          settled
          ∙ (ap (λ (v : StateView). subtask_settled (subtask_in v.tags id) v.core) freed_is
          ∙ ap (λ (j : ℕ). subtask_settled q (free_handle j h (set_subtask_handle q None (set_join q join.Nowhere s.core)))) at)

-- ---- The rule

pub drop_implements : (d : Doer) (n h m : ℕ) (q : Subtask) (s u : Core) → m ≡ n → is_watched (join_of q s) ≡ false → subtask_ended q s ≡ true → is_some (event_of q s) ≡ false → u ≡ unnamed n h q s → Implements (drop_by d n h s q) s (goes_as (label.Call (call_label.Drop m)) m) (finish d n NoAnswer u)
drop_implements d n h m q s u number apart ended quiet core =
    let done = Continues (label.Call (call_label.Drop n)) (dropped d n h q s) n in
    let row : drop_by d n h s q ≡ done =
    ap (λ (b : Bool). trap_if b trap.WaitableSyncAndAsync (trap_if (not (subtask_ended q s)) trap.SubtaskDropNotResolved (trap_if (is_some (event_of q s)) trap.SubtaskDropNotResolved done))) apart
    ∙ (ap (λ (b : Bool). trap_if (not b) trap.SubtaskDropNotResolved (trap_if (is_some (event_of q s)) trap.SubtaskDropNotResolved done)) ended
    ∙ ap (λ (b : Bool). trap_if b trap.SubtaskDropNotResolved done) quiet) in
    subst (λ (p : Progress). Implements p s (goes_as (label.Call (call_label.Drop m)) m) (finish d n NoAnswer u)) (sym row) (ap (λ (k : ℕ). goes_as (label.Call (call_label.Drop k)) k) number, ap (λ (c : Core). finish d n NoAnswer c) core)

-- ---- What ids of works name after a drop

group_works : (g : ℕ) (s : Core) → (group_settled g s).works ≡ s.works
unfolding group_settled remove_group
group_works g s = go (is_group_done g s)
  where
    go : (b : Bool) → (if b then remove_group g s else s).works ≡ s.works
    go true = refl
    go false = refl

deleted_none : (i : ℕ) (s : Core) → get (work_deleted i s).works i ≡ None
unfolding work_deleted remove_work
deleted_none i s = go (work_group i s)
  where
    go : (o : Option ℕ) → get (settle_group_of o (remove_work i s)).works i ≡ None
    go None = get-remove_same s.works i
    go (Some g) = ap (λ (m : Records Work). get m i) (group_works g (remove_work i s)) ∙ get-remove_same s.works i

dropped_none : (n h i : ℕ) (s : Core) → get (unnamed n h (subtask.Host i) s).works i ≡ None
unfolding unnamed
dropped_none n h i s = deleted_none i (free_handle (instance_of n s) h (set_subtask_handle (subtask.Host i) None (set_join (subtask.Host i) join.Nowhere s)))

pub dropped_names : (n h : ℕ) (q : Subtask) (s u : StateView) → u.core ≡ unnamed n h q s.core → KeepsBut (lost_subtask q) s.tags u.tags → (id : TableId HostTaskKey) → 0 < work_of s id → (work_of u id ≡ work_of s id) ⊎ (get u.core.works (work_of s id) ≡ None)
dropped_names n h (subtask.Guest k) s u core keeps id live = inl (keeps.works id (λ e. absurd (none (subst (λ j. 0 < j) e live))))
  where
    none : ◌<◌ 0 0 → ⊥
    none h = omega (arith, h)
dropped_names n h (subtask.Host i) s u core keeps id live = by_number (work_of s id) i ((work_of u id ≡ work_of s id) ⊎ (get u.core.works (work_of s id) ≡ None))
    (λ e. inr (subst (λ (j : ℕ). get u.core.works j ≡ None) (sym e) (ap (λ (c : Core). get c.works i) core ∙ dropped_none n h i s.core)))
    (λ d. inl (keeps.works id (λ e. absurd (both (sym d ∙ (ap (λ j. j == i) e ∙ eq_refl i))))))
  where
    both : false ≡ true → ⊥
    both e = cc
