-- A call or a host work that leaves its set, or has ended, as far as its removal sees.
use Rattle.core_records.proofs.Core.{ap, Call, call_group, change, Core, get, get-change_same, group_key, group_settled, GroupKey, has_thread, Join, join_of, None, number_of, on_call, on_work, Option, option_and_then, option_map, option_map_or, Records, refl, remove-change_same, remove_call, remove_work, set_join, set_stage, settle_group_of, Some, Stage, stage_of, Subtask, sym, Table, TableId, Work, work_deleted, work_group, ℕ, ◌<◌, ◌∙◌, ◌≡◌}
use Rattle.core_records.specs.declared.{call_records.TaskGroup.TaskGroup, single.Single.Single}
use Rattle.core_removals.specs.Counted.{IsNamedBy}
use Rattle.machine_data.proofs.CommuteLemmas.{insert-present}
use Rattle.machine_data.specs.Maps.{changed, insert}

-- a field that a change leaves
field_left : {X Y : Type 0} (f : X → X) (h : X → Y) (d : Y) → ((x : X) → h (f x) ≡ h x) → (o : Option X) → option_map_or h (option_map f o) d ≡ option_map_or h o d
field_left f h d same None = refl
field_left f h d same (Some x) = same x

-- a field that a change writes
field_put : {X Y : Type 0} (f : X → X) (h : X → Y) (d : Y) → ((x : X) → h (f x) ≡ d) → (o : Option X) → option_map_or h (option_map f o) d ≡ d
field_put f h d put None = refl
field_put f h d put (Some x) = put x

module _ (k : ℕ) (j : Join) (s : Core) where
  pub call_apart : has_thread k (set_join (Subtask.Guest k) j s) ≡ has_thread k s
  unfolding has_thread set_join on_call
  call_apart = refl

  pub call_joined : (j ≡ Join.Nowhere) → join_of (Subtask.Guest k) (set_join (Subtask.Guest k) j s) ≡ Join.Nowhere
  unfolding set_join on_call
  call_joined is = ap (λ o. option_map_or (λ (c : Call). c.join) o Join.Nowhere) (get-change_same s.calls k (λ c. record c { join = j })) ∙ field_put (λ (c : Call). record c { join = j }) (λ (c : Call). c.join) Join.Nowhere (λ c. is) (get s.calls k)

  pub call_group_left : call_group k (set_join (Subtask.Guest k) j s) ≡ call_group k s
  unfolding set_join on_call
  call_group_left = ap (λ o. option_map_or (λ (c : Call). c.group) o 0) (get-change_same s.calls k (λ c. record c { join = j })) ∙ field_left (λ (c : Call). record c { join = j }) (λ (c : Call). c.group) 0 (λ c. refl) (get s.calls k)

  pub call_removed : remove_call k (set_join (Subtask.Guest k) j s) ≡ remove_call k s
  unfolding set_join on_call remove_call
  call_removed = ap (λ (m : Records Call). record s { calls = m }) (remove-change_same s.calls k (λ c. record c { join = j }))

-- ---- A host work

module _ (i : ℕ) (s : Core) where
  abbrev pub at_rest : Core
  at_rest = set_stage i Stage.Ended (set_join (Subtask.Host i) Join.Nowhere s)

  work_now : get at_rest.works i ≡ option_map (λ (w : Work). record w { stage = Stage.Ended }) (option_map (λ (w : Work). record w { join = Join.Nowhere }) (get s.works i))
  unfolding set_join set_stage on_work
  work_now = get-change_same (change i (λ (w : Work). record w { join = Join.Nowhere }) s.works) i (λ w. record w { stage = Stage.Ended }) ∙ ap (option_map (λ (w : Work). record w { stage = Stage.Ended })) (get-change_same s.works i (λ w. record w { join = Join.Nowhere }))

  pub work_high : at_rest.queues.high ≡ s.queues.high
  unfolding set_join set_stage on_work
  work_high = refl

  pub work_joined : join_of (Subtask.Host i) at_rest ≡ Join.Nowhere
  work_joined = ap (λ o. option_map_or (λ (w : Work). w.join) o Join.Nowhere) work_now ∙ by (get s.works i)
    where
      by : (o : Option Work) → option_map_or (λ (w : Work). w.join) (option_map (λ (w : Work). record w { stage = Stage.Ended }) (option_map (λ (w : Work). record w { join = Join.Nowhere }) o)) Join.Nowhere ≡ Join.Nowhere
      by None = refl
      by (Some w) = refl

  pub work_ended : stage_of i at_rest ≡ Stage.Ended
  work_ended = ap (λ o. option_map_or (λ (w : Work). w.stage) o Stage.Ended) work_now ∙ field_put (λ (w : Work). record w { stage = Stage.Ended }) (λ (w : Work). w.stage) Stage.Ended (λ w. refl) (option_map (λ (w : Work). record w { join = Join.Nowhere }) (get s.works i))

  pub work_group_left : work_group i at_rest ≡ work_group i s
  work_group_left = ap (option_and_then (λ (w : Work). w.group)) work_now ∙ by (get s.works i)
    where
      by : (o : Option Work) → option_and_then (λ (w : Work). w.group) (option_map (λ (w : Work). record w { stage = Stage.Ended }) (option_map (λ (w : Work). record w { join = Join.Nowhere }) o)) ≡ option_and_then (λ (w : Work). w.group) o
      by None = refl
      by (Some w) = refl

  pub work_removed : remove_work i at_rest ≡ remove_work i s
  unfolding set_join set_stage on_work remove_work
  work_removed = ap (λ (m : Records Work). record s { works = m }) (remove-change_same (change i (λ (w : Work). record w { join = Join.Nowhere }) s.works) i (λ w. record w { stage = Stage.Ended }) ∙ remove-change_same s.works i (λ w. record w { join = Join.Nowhere }))

-- a work that has ended, ended
pub work_stays : (i : ℕ) (s : Core) (w : Work) → get s.works i ≡ Some w → w.stage ≡ Stage.Ended → set_stage i Stage.Ended s ≡ s
unfolding set_stage on_work change
work_stays i s w found is =
    ap (λ (m : Records Work). record s { works = m })
    (ap (changed s.works i (λ (x : Work). record x { stage = Stage.Ended })) found
    ∙ (ap (λ (g : Stage). insert s.works i (record w { stage = g })) (sym is) ∙ insert-present s.works i w found))

-- ---- Its group

pub named_one : (t : Table (Single TaskGroup)) (o : Option ℕ) (id : TableId GroupKey) → IsNamedBy t o (Some id) → (n : ℕ) × ((o ≡ Some n) × ((number_of group_key t id.rep id.serial ≡ n) × (0 < n)))
named_one t None id named = absurd named
named_one t (Some n) id named = (n, (refl, named))

pub named_none : (t : Table (Single TaskGroup)) (o : Option ℕ) → IsNamedBy t o None → o ≡ None
named_none t None named = refl
named_none t (Some n) named = absurd named

pub deleted_one : (i n : ℕ) (s : Core) → work_group i s ≡ Some n → group_settled n (remove_work i s) ≡ work_deleted i s
unfolding work_deleted
deleted_one i n s has = ap (λ o. settle_group_of o (remove_work i s)) (sym has)

pub deleted_none : (i : ℕ) (s : Core) → work_group i s ≡ None → remove_work i s ≡ work_deleted i s
unfolding work_deleted
deleted_none i s has = ap (λ o. settle_group_of o (remove_work i s)) (sym has)
