-- A change of where threads are leaves all else.
use Rattle.machine_rules.proofs.Machine.{[], after_placing, after_primitive, ap, ap₂, arith, behind, behind_one, Bool, Call, callers_of, Chain, Core, Entry, false, foot_of, get, get-change, has_entry, has_ready_member, op_progress_of, if◌then◌else◌, inl, inr, instance_of, is_explicit, is_ready_member, IsShift, less, List, list_any, map, Mark, may, MayLeave, MayShift, nat_tests, newest, next_entry, None, numbers, older, on_thread, Option, option_map, or_high, passed_on, Place, placed_as, Places, Placing, Pop, popped, Promote, promoted, push_high, push_high_first, push_low, Put, put_high, put_low, put_switch, Records, refl, rest_of, resumed_all, Scene, set_callers, set_high, set_low, set_place, set_switch, Shifts, Some, Stop, stopped, subst, Subtask, subtasks, sym, task_of, Then, Thread, true, unqueued, Why, Primitive, Work, ℕ, ◌++◌, ◌∙◌, ◌∷◌, ◌≡◌, ◌⊎◌}
use Rattle.machine_rules.proofs.ChainLemmas.{along}

-- the record of a thread but for its place
abbrev pub unplaced : Thread → Thread
unplaced t = record t { place = Place.New }

-- From s to t only places, entries and callers change.
pub record Shifted (s t : Core) : Type 0 where
  pub only : placed_as t s ≡ t
  pub threads : (k : ℕ) → option_map unplaced (get t.threads k) ≡ option_map unplaced (get s.threads k)

any_same : {X : Type 0} (p q : X → Bool) → ((y : X) → p y ≡ q y) → (ys : List X) → list_any p ys ≡ list_any q ys
any_same p q same [] = refl
any_same p q same (y ∷ ys) = let first = same y in let rest = any_same p q same ys in grind arith

-- which members have an event hangs on calls and works alone
pub member_same : (x : ℕ) (s t : Core) → t.calls ≡ s.calls → t.works ≡ s.works → (sub : Subtask) → is_ready_member x sub t ≡ is_ready_member x sub s
member_same x s t calls works (Subtask.Guest k) = grind (arith, calls)
member_same x s t calls works (Subtask.Host i) = grind (arith, works)

pub ready_same : (x : ℕ) (s t : Core) → t.calls ≡ s.calls → t.works ≡ s.works → has_ready_member x t ≡ has_ready_member x s
unfolding has_ready_member
ready_same x s t calls works =
    any_same (λ (sub : Subtask). is_ready_member x sub t) (λ (sub : Subtask). is_ready_member x sub s) (member_same x s t calls works) (subtasks t)
    ∙ ap₂ (λ (c : Records Call) (w : Records Work). list_any (λ (sub : Subtask). is_ready_member x sub s) (map (λ n. Subtask.Guest n) (numbers c) ++ map (λ n. Subtask.Host n) (numbers w))) calls works

module _ {s t : Core} (h : Shifted s t) where
  pub shifted_task : (n : ℕ) → task_of n t ≡ task_of n s
  shifted_task n = grind (arith, h.threads n)

  pub shifted_explicit : (n : ℕ) → is_explicit n t ≡ is_explicit n s
  shifted_explicit n = grind (arith, h.threads n)

  pub shifted_far : (n : ℕ) → op_progress_of n t ≡ op_progress_of n s
  shifted_far n = grind (arith, h.threads n)

  pub shifted_calls : t.calls ≡ s.calls
  shifted_calls = sym (ap (λ (c : Core). c.calls) h.only)

  pub shifted_made : t.made ≡ s.made
  shifted_made = sym (ap (λ (c : Core). c.made) h.only)

  pub shifted_works : t.works ≡ s.works
  shifted_works = sym (ap (λ (c : Core). c.works) h.only)

  pub shifted_ready : (x : ℕ) → has_ready_member x t ≡ has_ready_member x s
  shifted_ready x = ready_same x s t shifted_calls shifted_works

  pub shifted_instance : (n : ℕ) → instance_of n t ≡ instance_of n s
  shifted_instance n = grind (arith, shifted_task n, shifted_calls)

pub shifted_same : (s : Core) → Shifted s s
shifted_same s = record { only = refl; threads = λ k. refl }

pub shifted_after : {s m t : Core} → Shifted s m → Shifted m t → Shifted s t
shifted_after {t = t} p q = record { only = ap (λ (c : Core). placed_as t c) p.only ∙ q.only; threads = λ k. q.threads k ∙ p.threads k }

behind_shifted : (f : ℕ) (ns : List ℕ) (s : Core) → Shifted s (behind f ns s)
unfolding behind_one set_callers set_place on_thread
behind_shifted f [] s = shifted_same s
behind_shifted f (n ∷ ns) s =
    shifted_after (record { only = refl; threads = λ k. grind (arith, nat_tests, get-change) }) (behind_shifted f ns (behind_one f n s))

resumed_shifted : (ns : List ℕ) (s : Core) → Shifted s (resumed_all ns s)
unfolding put_high push_high set_place on_thread
resumed_shifted [] s = shifted_same s
resumed_shifted (n ∷ ns) s =
    shifted_after (record { only = refl; threads = λ k. grind (arith, nat_tests, get-change) })
    (resumed_shifted ns (put_high n Why.Resumption s))

put_switch_shifted : (n : ℕ) (w : Why) (s : Core) → Shifted s (put_switch n w s)
unfolding put_switch set_switch push_high_first set_place on_thread
put_switch_shifted n w s = record { only = grind arith; threads = λ k. grind (arith, nat_tests, get-change) }

passed_on_shifted : (o : Option ℕ) (ns : List ℕ) (s : Core) → Shifted s (passed_on o ns s)
passed_on_shifted (Some m) ns s = behind_shifted (foot_of m s) ns s
passed_on_shifted None [] s = shifted_same s
passed_on_shifted None (n ∷ ns) s = shifted_after (put_switch_shifted (newest n ns) Why.Resumption s) (resumed_shifted (older n ns) _)

-- each change of where threads are
pub placing_shifted : (p : Placing) (s : Core) → Shifted s (after_placing p s)
unfolding stopped put_high put_low promoted unqueued set_place on_thread set_high set_low set_callers set_switch push_high push_low behind_one popped
placing_shifted (Put Mark.Switch n w) s = put_switch_shifted n w s
placing_shifted (Stop f) s =
    shifted_after (record { only = refl; threads = λ k. refl }) (passed_on_shifted s.queues.switch (callers_of f s) _)
placing_shifted p s = record { only = grind arith; threads = λ k. grind (arith, nat_tests, get-change) }

pub popped_shifted : (m : Mark) (s : Core) → Shifted s (popped m s)
popped_shifted m s = placing_shifted (Pop m) s

-- so it is with a chain of them
primitive_shifted : {b : Core} (w : Primitive) (s : Core) → IsShift w s → Shifted b s → Shifted b (after_primitive w s)
primitive_shifted {b = b} (Places p) s ok h =
    subst (λ (c : Core). Shifted b c) (sym (placing_shifted p s).only) (shifted_after h (placing_shifted p s))
primitive_shifted {b = b} _ s ok h = absurd ok

pub shifts_shifted : {b t : Core} → Shifts b t → Shifted b t
shifts_shifted {b = b} c = along (λ t. Shifted b t) primitive_shifted (shifted_same b) c

-- the primitives that put and move, as they are in the rules
pub placed : {may : Primitive → Core → Type 0} {b s : Core} (p : Placing) → may (Places p) s → Chain may b s → Chain may b (after_placing p s)
placed {may = may} {b = b} {s = s} p ok c = subst (λ (t : Core). Chain may b t) (placing_shifted p s).only (Then s (Places p) c ok)

-- ---- The entries of works

-- the entries that are of no thread
abbrev pub work_entries : List Entry → List Entry
work_entries [] = []
work_entries (Entry.Thread n ∷ es) = work_entries es
work_entries (Entry.Push i ∷ es) = Entry.Push i ∷ work_entries es
work_entries (Entry.Host i ∷ es) = Entry.Host i ∷ work_entries es

pub work_entries-append : (es : List Entry) (n : ℕ) → work_entries (es ++ Entry.Thread n ∷ []) ≡ work_entries es
work_entries-append [] n = refl
work_entries-append (e ∷ es) n = grind (arith, work_entries-append es n)

work_entries-less : (n : ℕ) (es : List Entry) → work_entries (less n es) ≡ work_entries es
work_entries-less n [] = refl
work_entries-less n (e ∷ es) = grind (arith, work_entries-less n es)

-- the entries of works are the same in both
pub record SameWorks (s t : Core) : Type 0 where
  pub high : work_entries t.queues.high ≡ work_entries s.queues.high
  pub low : work_entries t.queues.low ≡ work_entries s.queues.low

pub unqueued_works : (n : ℕ) (s : Core) → SameWorks s (unqueued n s)
unfolding unqueued set_high set_low
unqueued_works n s = by_test (has_entry n s.queues.high)
  where
    by_test : (b : Bool) → SameWorks s (if b then set_high (less n s.queues.high) s else set_low (less n s.queues.low) s)
    by_test true = record { high = work_entries-less n s.queues.high; low = refl }
    by_test false = record { high = refl; low = work_entries-less n s.queues.low }

-- the entry of a thread leaves its mark
popped_works : (m : Mark) (n : ℕ) (s : Core) → next_entry s ≡ Some (m, Entry.Thread n) → SameWorks s (popped m s)
unfolding popped set_switch set_high set_low next_entry
popped_works Mark.Switch n s h = record { high = refl; low = refl }
popped_works Mark.High n s h = record { high = head_high s.queues.switch s.queues.high s.queues.low h; low = refl }
  where
    head_high : (q : Option ℕ) (hs ls : List Entry) → or_high q hs ls ≡ Some (Mark.High, Entry.Thread n) →
        work_entries (rest_of hs) ≡ work_entries hs
    head_high q hs ls h = grind arith
popped_works Mark.Low n s h = record { high = refl; low = head_low s.queues.switch s.queues.high s.queues.low h }
  where
    head_low : (q : Option ℕ) (hs ls : List Entry) → or_high q hs ls ≡ Some (Mark.Low, Entry.Thread n) →
        work_entries (rest_of ls) ≡ work_entries ls
    head_low q hs ls h = grind arith

behind_works : (f : ℕ) (ns : List ℕ) (s : Core) → SameWorks s (behind f ns s)
unfolding behind_one set_callers set_place on_thread
behind_works f [] s = record { high = refl; low = refl }
behind_works f (n ∷ ns) s = grind (arith, behind_works f ns)

resumed_works : (ns : List ℕ) (s : Core) → SameWorks s (resumed_all ns s)
unfolding put_high push_high set_place on_thread
resumed_works [] s = record { high = refl; low = refl }
resumed_works (n ∷ ns) s = grind (arith, resumed_works ns, work_entries-append)

passed_on_works : (o : Option ℕ) (ns : List ℕ) (s : Core) → SameWorks s (passed_on o ns s)
unfolding put_switch set_switch push_high_first set_place on_thread
passed_on_works (Some m) ns s = behind_works (foot_of m s) ns s
passed_on_works None [] s = record { high = refl; low = refl }
passed_on_works None (n ∷ ns) s = grind (arith, resumed_works (older n ns))

-- where threads come to, the entries of works stay
pub placing_works : (a : Scene) (p : Placing) (s : Core) → MayShift p s ⊎ MayLeave a p s → SameWorks s (after_placing p s)
unfolding stopped put_high put_low put_switch promoted set_place on_thread set_callers set_switch push_high push_low push_high_first behind_one
placing_works a (Pop m) s (inr ok) = popped_works m ok.0 s ok.1.1
placing_works a (Pop m) s (inl ok) = absurd ok
placing_works a (Stop f) s ok = let q = passed_on_works s.queues.switch (callers_of f s) (set_callers f [] s) in grind arith
placing_works a (Promote n) s ok = let u = unqueued_works n s in grind arith
placing_works a p s ok = grind (arith, work_entries-append)
