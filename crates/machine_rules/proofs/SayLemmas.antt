-- What labels say of the ends of calls: the events that are taken.
use Rattle.machine_rules.proofs.Machine.{[], and_parts, ap, arith, Bool, call_settled, Choice, chosen, Core, end_answered, end_for, event_of, false, find, finished_call, get, get-change, get-remove, get-remove_same, PickedEvent, picked_event, picked_event_after_own, given_for, group_settled, handed_by_event, handed_out, HandsOut, has_result, if◌then◌else◌, instance_of, is_handed_end, is_none, List, map, PickedMember, nat_cmp, nat_tests, NothingPicked, None, numbers, on_call, on_work, Option, option_and_then, option_map, option_map_or, option_or, TaskEvent, PickedTaskEvent, Records, refl, remove, remove_call, remove_group, Scene, set_event, set_result, Some, Status, status_code, subst, Subtask, subtask_at, SubtaskEnd, take_result, taken, TakesEvent, true, undelivered_end, unsigned_tied, unwrap_or, ℕ, ◌&&◌, ◌==◌, ◌∙◌, ◌∷◌, ◌≡◌}
use Rattle.machine_rules.proofs.StopLemmas.{find_passes}
use Rattle.std.specs.FinMap.Entries.{find as seek}

-- the handle that the choice shows names the member
member_at : (o : Option TaskEvent) (n y : ℕ) (ch : Choice) (s : Core) (sub : Subtask) → picked_event_after_own o y (chosen n ch s) s ≡ Some (PickedMember sub) → subtask_at (instance_of n s) (unwrap_or ch.member 0) s ≡ Some sub
member_at o n y ch s sub h = grind arith

handed_as : (f : Option Status) (o : Option Subtask) (sub to : Subtask) (e : Status) → o ≡ Some sub → (if is_handed_end (unwrap_or f Status.Starting) then option_map (end_for (unwrap_or f Status.Starting)) o else None) ≡ Some (end_for e to) → (sub ≡ to) × (undelivered_end f ≡ Some e)
handed_as f o sub to e is out = (grind arith, grind arith)

abbrev pub HasNoEnd : Subtask → Core → Type 0
HasNoEnd sub s = undelivered_end (event_of sub s) ≡ None

-- the subtask's event is taken, whatever else is written
pub event_gone : (sub : Subtask) (s t : Core) → t.calls ≡ (set_event sub None s).calls → t.works ≡ (set_event sub None s).works → HasNoEnd sub t
unfolding set_event on_call on_work
event_gone sub s t calls works = grind (arith, nat_tests, get-change, calls, works)

-- a picked event that hands an end out is its subtask's event, which is gone once the picked event is taken
pub given_out : {a : Scene} (by : Bool) (n j y : ℕ) (ch : Choice) (g : PickedEvent) (k : ℕ) (u : Core) {t : Core} → picked_event by j y (chosen n ch a.base) a.base ≡ Some g → t.calls ≡ (taken g k u).calls → t.works ≡ (taken g k u).works → (to : Subtask) (e : Status) → handed_by_event n a.base (handed_out ch a.base g) ≡ Some (end_for e to) → HandsOut a t to e
unfolding picked_event given_for taken
given_out by n j y ch (PickedTaskEvent event) k u is calls works to e out = absurd (grind arith)
given_out by n j y ch NothingPicked k u is calls works to e out = absurd (grind arith)
given_out {a = a} by n j y ch (PickedMember sub) k u {t = t} is calls works to e out =
    let q = handed_as (event_of sub a.base) (subtask_at (instance_of n a.base) (unwrap_or ch.member 0) a.base) sub to e (member_at _ n y ch a.base sub is) out in
    subst (λ (d : Subtask). HandsOut a t d e) q.0 (TakesEvent sub e q.1 (event_gone sub u t calls works))

-- the call's event is taken, and then the call may go
pub settled_gone : (k : ℕ) (s t : Core) → t.calls ≡ (call_settled k s).calls → HasNoEnd (Subtask.Guest k) s → HasNoEnd (Subtask.Guest k) t
unfolding call_settled group_settled remove_group remove_call
settled_gone k s t calls none = grind (arith, nat_tests, get-remove, calls)

pub result_gone : (k : ℕ) (s : Core) → HasNoEnd (Subtask.Guest k) (set_result k None (set_event (Subtask.Guest k) None s))
unfolding set_result set_event on_call
result_gone k s = grind (arith, nat_tests, get-change)

-- what is so of the end that is said
pub said_is : (P : Subtask → Status → Type 0) {f e : Status} {d sub : Subtask} → Some (end_for f d) ≡ Some (end_for e sub) → P d f → P sub e
said_is P {f = f} {d = d} is p = subst (λ (y : SubtaskEnd). P y.subtask y.status) (ap (λ (o : Option SubtaskEnd). unwrap_or o (end_for f d)) is) p

module _ (sub to : Subtask) (f : Status) (o : Option Subtask) (is : o ≡ Some sub) where
  -- the end that the label of a cancel says is written
  pub cancel_writes_of : (g : Status) → (if status_code g == 3 then option_map (end_for Status.StartCancelled) o else None) ≡ Some (end_for f to) → (sub ≡ to) × (g ≡ Status.StartCancelled)
  cancel_writes_of g out = grind arith

  -- the end that it hands out
  pub cancel_hands_of : (g : Status) → option_and_then (λ e. option_map (end_for e) o) (end_answered (status_code g)) ≡ Some (end_for f to) → (sub ≡ to) × (g ≡ f)
  cancel_hands_of g out = grind arith

pub result_taken : (n : ℕ) (s : Core) → get (take_result n s).results n ≡ None
unfolding take_result
result_taken n s = get-remove_same s.results n

pub found_none : {X : Type 0} (test : ℕ → Bool) (q : ℕ) (v : X) (es : List (ℕ × X)) → seek nat_cmp q es ≡ Some v → test q ≡ true → find test (map (λ e. e.0) es) ≡ None → ⊥
found_none test q v [] h on none = grind arith
found_none test q v (e ∷ es) h on none = grind (arith, nat_tests, unsigned_tied q e.0, found_none test q v es)

gone_one : (m : Records ℕ) (n k v : ℕ) → option_map_or (λ w. w == v) (get m k) false ≡ true → is_none (get (remove m n) k) ≡ true → n ≡ k
gone_one m n k v there gone = grind (arith, nat_tests, get-remove)

-- the call whose result is taken is the one that is found
pub finished_is : (n v : ℕ) (s : Core) → get s.results n ≡ Some v → (j : ℕ) → finished_call v s (take_result n s) ≡ Some j → n ≡ j
unfolding take_result numbers get
finished_is n v s there j found = go (find test (numbers s.results)) refl found
  where
    test : ℕ → Bool
    test k = has_result v s k && is_none (get (remove s.results n) k)

    here : test n ≡ true
    here = grind (arith, nat_tests, there, get-remove_same s.results n)

    go : (o : Option ℕ) → find test (numbers s.results) ≡ o → option_or o (find (has_result v s) (numbers s.results)) ≡ Some j → n ≡ j
    go (Some k) is h =
        let r = and_parts (has_result v s k) (is_none (get (remove s.results n) k)) (find_passes test (numbers s.results) k is) in
        gone_one s.results n k v r.0 r.1 ∙ ap (λ (o : Option ℕ). unwrap_or o k) h
    go None is h = absurd (found_none test n v s.results.list there here is)
