-- The records that a request makes are a call and its first thread.
use Rattle.core_records.proofs.Core.{add_call, add_thread, ap, ap₂, AtPlace, bare, bare_call, bare_instance, bare_thread, Bool, Call, call_instance, caller_target, cond, Core, eq-eqb, false, get, get-insert, Goal, handle_table, HasRoom, instance_of, is_some, IsSome, List, named_of, new_call, new_thread, next_place, next_place-mapped, no_callee, None, on_item, Option, option_map, option_map_or, parts_of, refl, Script, seen, slice_get, slice_get-map, Some, subst, sym, Thread, true, ℕ, ◌+◌, ◌∙◌, ◌≡◌, is_sync, not}
use Rattle.core_records.specs.declared.{call_records.GuestTask.GuestTask, instance_records.InstanceRecord.InstanceRecord, parts.CoreParts.CoreParts, thread_records.GuestThread.GuestThread}
use Rattle.core_makes.specs.Member.{IsMember}
use Rattle.core_makes.specs.CallThread.{IsCallWithThread}
use Rattle.core_makes.specs.declared.record_makes.Request.{Request}
use Rattle.core_records.proofs.HomeLemmas.{place_in_bare}
use Rattle.core_records.proofs.InstanceReads.{handles_read, instance_read}
use Rattle.core_primitives.specs.Barred.{bars_start}

module _ (a : CoreParts) (i : ℕ) where
  mapped_some : {X Y : Type 0} (f : X → Y) (o : Option X) → IsSome (option_map f o) → IsSome o
  mapped_some f None some = absurd (cc)
  mapped_some f (Some x) some = refl

  some_mapped : {X Y : Type 0} (f : X → Y) (o : Option X) → IsSome o → IsSome (option_map f o)
  some_mapped f None some = absurd (cc)
  some_mapped f (Some x) some = refl

  -- an instance that is there is there where the parts are bare
  item_within : IsSome (slice_get a.instances.items i) → IsSome (slice_get (bare (parts_of a)).instances i)
  item_within some = subst (λ (x : Option InstanceRecord). IsSome x) (sym (slice_get-map bare_instance a.instances.items i)) (some_mapped bare_instance (slice_get a.instances.items i) some)

  pub bare_within : IsSome (get (seen a).core.instances i) → IsSome (slice_get (bare (parts_of a)).instances i)
  bare_within there = let o = slice_get a.instances.items i in item_within (mapped_some (λ (r : InstanceRecord). r.instance) o (subst IsSome (sym (instance_read a i o refl)) there))

  handles_within : IsSome (get (seen a).core.handles i) → IsSome (slice_get (bare (parts_of a)).instances i)
  handles_within there = let o = slice_get a.instances.items i in item_within (mapped_some (λ (r : InstanceRecord). handle_table named_of r.handles) o (subst IsSome (sym (handles_read a i o refl)) there))

module _ (a : CoreParts) (request : Request) (group : ℕ) (words : List ℕ) (c : GuestTask) (g : GuestThread)
    (call_number : c.number ≡ a.made.threads + 1) (call_is : c.call ≡ new_call request.caller request.callee request.kind request.goal group) (maker : c.maker ≡ request.maker) (one : c.threads ≡ 1)
    (thread_number : g.number ≡ a.made.threads + 1) (thread_is : g.thread ≡ new_thread (a.made.threads + 1) false Script.Start words None) (instance : g.instance ≡ request.callee.instance) (barred : g.barred ≡ not (is_sync request.kind)) where
  pub request_call_thread :
      AtPlace (parts_of a) request.maker (caller_target request.caller)
      → IsSome (get (seen a).core.instances request.callee.instance)
      → (request.goal ≡ Goal.Main → HasRoom (a.made.threads + 1) a.results)
      → IsCallWithThread (bare (parts_of a)) (bare_call (record c { first = next_place a.threads })) (bare_thread (record g { task = next_place a.calls }))
  request_call_thread caller there room = record {
    call_next = call_number;
    thread_next = thread_number;
    first = ap (λ (t : Thread). t.call) thread_is ∙ sym call_number;
    one = one;
    eventless = ap (λ (k : Call). k.event) call_is;
    nowhere = ap (λ (k : Call). k.join) call_is;
    unplaced = ap (λ (t : Thread). t.place) thread_is;
    fresh = ap (λ (t : Thread). t.op_progress) thread_is;
    task = sym (next_place-mapped (on_item bare_call) a.calls);
    first_at = sym (next_place-mapped (on_item bare_thread) a.threads);
    instance = instance ∙ sym (ap (λ (k : Call). k.callee.instance) call_is);
    barred = ap₂ (λ (t : Thread) (k : Call). bars_start t.explicit k.kind) thread_is call_is ∙ sym barred;
    within = subst (λ (i : ℕ). IsSome (slice_get (bare (parts_of a)).instances i)) (sym instance) (bare_within a request.callee.instance there);
    caller =
        subst (λ (m : ℕ). AtPlace (bare (parts_of a)) m (caller_target c.call.caller)) (sym maker)
        (subst (λ (k : Call). AtPlace (bare (parts_of a)) request.maker (caller_target k.caller)) (sym call_is) (place_in_bare a request.maker (caller_target request.caller) caller));
    room = λ main. subst (λ (m : ℕ). HasRoom m a.results) (sym call_number) (room (sym (ap (λ (k : Call). k.goal) call_is) ∙ main));
  }

  pub request_core : (s : Core) → add_thread g.thread (add_call c.number c.call s) ≡ add_thread (new_thread (a.made.threads + 1) false Script.Start words None) (add_call (a.made.threads + 1) (new_call request.caller request.callee request.kind request.goal group) s)
  request_core s =
      ap (λ (t : Thread). add_thread t (add_call c.number c.call s)) thread_is
      ∙ ap₂ (λ (n : ℕ) (k : Call). add_thread (new_thread (a.made.threads + 1) false Script.Start words None) (add_call n k s)) call_number call_is

-- ---- A thread of a call that is there

module _ (a : CoreParts) (k : ℕ) (c : GuestTask) (rep : ℕ) (x : Script) (words : List ℕ) (g : GuestThread)
    (number : g.number ≡ a.made.threads + 1) (thread : g.thread ≡ new_thread c.number true x words None) (task : g.task ≡ rep) (instance : g.instance ≡ c.call.callee.instance) (barred : g.barred ≡ false) (found : Some c.call ≡ get (seen a).core.calls k) where
  callee_is : c.call.callee.instance ≡ call_instance k (seen a).core
  callee_is = ap (λ (o : Option Call). (option_map_or (λ (d : Call). d.callee) o no_callee).instance) found

  pub request_member : is_some (get (seen a).core.handles (call_instance k (seen a).core)) ≡ true → IsMember (bare (parts_of a)) (bare_call c) rep (bare_thread g)
  request_member there = record {
    next = number;
    of_call = ap (λ (t : Thread). t.call) thread;
    unplaced = ap (λ (t : Thread). t.place) thread;
    fresh = ap (λ (t : Thread). t.op_progress) thread;
    task = task;
    instance = instance;
    barred = ap (λ (t : Thread). bars_start t.explicit c.call.kind) thread ∙ sym barred;
    within = subst (λ (i : ℕ). IsSome (slice_get (bare (parts_of a)).instances i)) (sym (instance ∙ callee_is)) (handles_within a (call_instance k (seen a).core) there);
  }

pub member_instance : (t : Thread) (s : Core) → instance_of (s.made.threads + 1) (add_thread t s) ≡ call_instance t.call s
unfolding add_thread
member_instance t s =
    let n = s.made.threads + 1 in
    ap (λ (o : Option Thread). call_instance (option_map_or (λ (u : Thread). u.call) o 0) s) (get-insert s.threads n t n ∙ ap (λ (b : Bool). cond b (Some t) (get s.threads n)) (eq-eqb n n refl))
