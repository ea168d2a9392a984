-- What is left of the named where a record is gone: each is where it was.
use Rattle.core_records.proofs.Core.{AreHandlesNamed, call_key, CallOf, HandleKind, IsHeldNamed, IsNamedAt, Kinds, MadeCounts, Nothing, Rep, set_key, SetOf, StandsAt, subst, Target, thread_key, ThreadOf, WaitableKind, work_key, WorkOf, ℕ, ◌≡◌, ◌≤◌}
use Rattle.core_records.specs.declared.{instance_records.InstanceRecord.InstanceRecord}

-- What is in the one is so in the other, and as many were made.
pub record Leaves (k l : Kinds) : Type 0 where
  pub threads : (rep n : ℕ) → StandsAt thread_key k.threads rep n → StandsAt thread_key l.threads rep n
  pub calls : (rep n : ℕ) → StandsAt call_key k.calls rep n → StandsAt call_key l.calls rep n
  pub works : (rep n : ℕ) → StandsAt work_key k.works rep n → StandsAt work_key l.works rep n
  pub sets : (rep n : ℕ) → StandsAt set_key k.sets rep n → StandsAt set_key l.sets rep n
  pub made : k.made ≡ l.made

module _ (k l : Kinds) (left : Leaves k l) where
  pub named_left : (rep : ℕ) (t : Target) → IsNamedAt k rep t → IsNamedAt l rep t
  named_left rep Nothing at = tt
  named_left rep (ThreadOf n) at = (subst (λ (m : MadeCounts). n ≤ m.threads) left.made at.0, left.threads rep n at.1)
  named_left rep (CallOf n) at = (subst (λ (m : MadeCounts). n ≤ m.threads) left.made at.0, left.calls rep n at.1)
  named_left rep (WorkOf n) at = (subst (λ (m : MadeCounts). n ≤ m.works) left.made at.0, left.works rep n at.1)
  named_left rep (SetOf n) at = (subst (λ (m : MadeCounts). n ≤ m.sets) left.made at.0, left.sets rep n at.1)

  held_left : (h : HandleKind) (r : Rep) → IsHeldNamed k h r → IsHeldNamed l h r
  held_left (HandleKind.Waitable WaitableKind.GuestSubtask) r is = named_left r.id (CallOf r.serial) is
  held_left (HandleKind.Waitable WaitableKind.HostSubtask) r is = named_left r.id (WorkOf r.serial) is
  held_left (HandleKind.Waitable WaitableKind.Stream) r is = is
  held_left (HandleKind.Waitable WaitableKind.Future) r is = is
  held_left HandleKind.Set r is = named_left r.id (SetOf r.serial) is

  pub handles_left : (i : InstanceRecord) → AreHandlesNamed k i → AreHandlesNamed l i
  handles_left i named = record {
    small = named.small;
    small_threads = named.small_threads;
    handles = λ h x live. held_left x.kind x.rep (named.handles h x live);
    thread_handles = λ h r live. named_left r.id (ThreadOf r.serial) (named.thread_handles h r live);
  }
