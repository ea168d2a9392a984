-- What is known of the thread that runs or is taken, as a step begins.
use Rattle.laws_states.proofs.Rules.{ap, arith, base_at, base_without, Component, Core, entries, Entry, HasPlace, InPlace, is_there, Label, List, Mark, nat_tests, next_entry, op_of, Option, or_high, popped, Queues, refl, runner_at, script_of, set_high, set_low, set_switch, Setting, Some, State, switch_entries, sym, thread_of_entry, true, Turn, ℕ, ◌≡◌, ◌≤◌, ◌⊎◌}

pub popped_is : (m : Mark) (s : Core) → popped m s ≡ record s { queues = (popped m s).queues }
unfolding popped set_switch set_high set_low
popped_is m s = grind arith

pub popped_threads : (m : Mark) (s : Core) → (popped m s).threads ≡ s.threads
popped_threads m s = ap (λ (c : Core). c.threads) (popped_is m s)

without_is : (o : Option (Mark × Entry)) (s : Core) → base_without o s ≡ record s { queues = (base_without o s).queues }
without_is o s = grind (arith, popped_is)

-- it is that of the step, but for its marks
pub base_is : (u : Turn) (s : Core) → base_at u s ≡ record s { queues = (base_at u s).queues }
base_is (Turn.Take ended) s = without_is (next_entry s) s
base_is u s = refl

-- whose entry is anywhere is there
entry_there : (n : ℕ) (s : Core) → HasPlace n s →
    (1 ≤ switch_entries n s.queues.switch) ⊎ ((1 ≤ entries n s.queues.high) ⊎ (1 ≤ entries n s.queues.low)) → is_there n s ≡ true
entry_there n s h stands = grind arith

taken_stands : (n : ℕ) (o : Option ℕ) (hs ls : List Entry) → thread_of_entry (or_high o hs ls) ≡ Some n →
    (1 ≤ switch_entries n o) ⊎ ((1 ≤ entries n hs) ⊎ (1 ≤ entries n ls))
taken_stands n o hs ls e = grind (arith, nat_tests)

-- what is taken leaves the ops
pub ops_at : (c : Component) (u : Turn) (s : Core) (n : ℕ) → op_of c n s ≡ op_of c n (base_at u s)
unfolding op_of script_of
ops_at c u s n = sym (ap (op_of c n) (base_is u s))

pub ops_plain : (c : Component) (s : Core) (q : Queues) (n : ℕ) → op_of c n s ≡ op_of c n (record s { queues = q })
unfolding op_of script_of
ops_plain c s q n = refl

pub runner_there : (x : Setting) (s : State) (l : Label) (next : Turn) → InPlace s → (n : ℕ) → runner_at s.turn s.core ≡ Some n →
    is_there n s.core ≡ true
unfolding next_entry
runner_there x s l next h n e =
    let q = s.core.queues in
    let taken : thread_of_entry (or_high q.switch q.high q.low) ≡ Some n → is_there n s.core ≡ true =
    λ f. entry_there n s.core (h.placed n) (taken_stands n q.switch q.high q.low f) in
    grind (arith, h.runs n)
