-- What the end of an op changes: its thread alone.
use Rattle.std.proofs.Common.{ap, refl, subst, sym, ◌∙◌}
use Rattle.std.specs.Prelude.{List, false, ℕ, ◌≡◌}
use Rattle.machine_data.specs.Core.{Core}
use Rattle.machine_data.specs.Write.{on_thread, set_op_progress, set_position, set_register}
use Rattle.machine_data.specs.declared.label.Label.{Label}
use Rattle.machine_data.specs.declared.statuses.HostPoll.{HostPoll}
use Rattle.ops_guests.specs.OpResult.{Implements}
use Rattle.ops_guests.specs.Ended.{answered_to, ended, ends_op, is_due}
use Rattle.ops_guests.specs.Shown.{goes_as, shown}
use Rattle.ops_guests.specs.declared.op_result.OpResult.{OpResult}
use Rattle.ops_guests.specs.declared.op_result.OpResult.TheVariants as op_result
use Rattle.ops_guests.specs.declared.op_result.OpAnswer.{OpAnswer}
use Rattle.ops_guests.specs.declared.op_result.OpAnswer.TheVariants as op_answer
use Rattle.machine_rules.specs.Data.{advanced, assigned, moved_to}
use Rattle.machine_rules.specs.Finish as finishes
use Rattle.machine_rules.specs.Finish.{Doer, NoAnswer, OneEvent, OneNumber, OwnScript, SomeHost, finish, set_given}
use Rattle.machine_rules.specs.Progress.{Asks, Fails, Continues, Never, OneOf, Ordered, Progress, Stops, Traps}

-- the core is this one, but for its threads
abbrev pub OfThreads : Core → Core → Type 0
OfThreads s t = t ≡ record s { threads = t.threads }

finish_threads : (d : Doer) (n : ℕ) (a : finishes.OpAnswer) (s : Core) → OfThreads s (finish d n a s)
unfolding assigned advanced moved_to set_given set_op_progress set_position set_register on_thread
finish_threads (OwnScript r) n NoAnswer s = refl
finish_threads (OwnScript r) n (OneNumber v) s = refl
finish_threads (OwnScript r) n (OneEvent v) s = refl
finish_threads SomeHost n a s = refl

answered_threads : (d : Doer) (n : ℕ) (said : OpAnswer) (s : Core) → OfThreads s (answered_to d n said s)
answered_threads d n op_answer.Nothing s = finish_threads d n NoAnswer s
answered_threads d n (op_answer.Number v) s = finish_threads d n (OneNumber v) s
answered_threads d n (op_answer.Value v) s = finish_threads d n (OneNumber v) s
answered_threads d n (op_answer.Event v) s = finish_threads d n (OneEvent v) s
answered_threads d n (op_answer.Entered m) s = refl
answered_threads d n op_answer.NoneDue s = refl

pub ended_threads : (d : Doer) (n : ℕ) (r : OpResult) (s : Core) → OfThreads s (ended d n r s)
ended_threads d n (op_result.Continues l m said) s = answered_threads d n said s
ended_threads d n (op_result.Stops l) s = refl
ended_threads d n (op_result.Traps why) s = refl
ended_threads d n (op_result.Fails i) s = refl

pub ended_works : (d : Doer) (n : ℕ) (r : OpResult) (s : Core) → (ended d n r s).works ≡ s.works
ended_works d n r s = ap (λ (c : Core). c.works) (ended_threads d n r s)

-- ---- Where no answer is due nothing is ended

-- a label that it shows answers nothing
abbrev pub IsUnanswered : Progress → Type 0
IsUnanswered (Continues l new m) = shown l ≡ op_answer.NoneDue
IsUnanswered (Ordered ns next) = (order : List ℕ) → IsUnanswered (next order)
IsUnanswered (OneOf ns next) = (m : ℕ) → IsUnanswered (next m)
IsUnanswered (Asks next) = (answer : HostPoll) → IsUnanswered (next answer)
IsUnanswered _ = Unit {0}

goes_unended : (d : Doer) (n m : ℕ) (l : Label) (u : Core) → shown l ≡ op_answer.NoneDue → ended d n (goes_as l m) u ≡ u
goes_unended d n m l u none = ap (λ (a : OpAnswer). ended d n (op_result.Continues l m a) u) none

pub unended : (p : Progress) (s : Core) (r : OpResult) (t : Core) → IsUnanswered p → Implements p s r t → (d : Doer) (n : ℕ) (u : Core) → ended d n r u ≡ u
unended (Continues l new m) s r t none h d n u = ap (λ (x : OpResult). ended d n x u) h.0 ∙ goes_unended d n m l u none
unended (Stops l new) s r t none h d n u = ap (λ (x : OpResult). ended d n x u) h.0
unended (Traps why) s r t none h d n u = ap (λ (x : OpResult). ended d n x u) h.0
unended (Fails i) s r t none h d n u = ap (λ (x : OpResult). ended d n x u) h.0
unended Never s r t none h d n u = absurd h
unended (Ordered ns next) s r t none h d n u = unended (next h.0) s r t (none h.0) h.1.1 d n u
unended (OneOf ns next) s r t none h d n u = unended (next h.0) s r t (none h.0) h.1.1 d n u
unended (Asks next) s r t none h d n u = unended (next h.0) s r t (none h.0) h.1 d n u

-- what implements such a rule implements it once the op is ended too
pub implements_ended : (p : Progress) (s : Core) (r : OpResult) (t : Core) → IsUnanswered p → Implements p s r t → (d : Doer) (n : ℕ) → Implements p s r (ended d n r t)
implements_ended p s r t none h d n = subst (λ (u : Core). Implements p s r u) (sym (unended p s r t none h d n t)) h

-- and no answer is due
pub undue : (p : Progress) (s : Core) (r : OpResult) (t : Core) → IsUnanswered p → Implements p s r t → ends_op r ≡ false
undue (Continues l new m) s r t none h = ap ends_op h.0 ∙ ap is_due none
undue (Stops l new) s r t none h = ap ends_op h.0
undue (Traps why) s r t none h = ap ends_op h.0
undue (Fails i) s r t none h = ap ends_op h.0
undue Never s r t none h = absurd h
undue (Ordered ns next) s r t none h = undue (next h.0) s r t (none h.0) h.1.1
undue (OneOf ns next) s r t none h = undue (next h.0) s r t (none h.0) h.1.1
undue (Asks next) s r t none h = undue (next h.0) s r t (none h.0) h.1
