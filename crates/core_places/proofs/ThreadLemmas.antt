-- Primitives on one thread: its record is read, or there is none.
use Rattle.core_records.proofs.Core.{ap, AtPlace, Bool, change, changed, entry_of, false, get, IsSoundCore, item_at, item_of, mapped-with_entry_same, None, number_in, Ok, on_core, on_item, on_thread, op_progress_target, OpProgress, Option, option_map, option_map_or, parts_of, Place, ready_why, record_at, refl, Result, seen, set_of, set_place, SetKey, Some, StateView, subst, sym, TableId, Thread, thread_key, thread_of, ThreadKey, waits_in, where_at, Why, why_of, why_target, with_entry, ℕ, ◌∙◌, ◌≡◌}
use Rattle.core_records.specs.declared.{parts.CoreParts.CoreParts, thread_records.GuestThread.GuestThread}
use Rattle.core_records.proofs.HomeLemmas.{place_bare, thread_home}
use Rattle.core_records.proofs.KindLemmas.{absent, item_stands}
use Rattle.core_places.proofs.AlikeLemmas.{number_alike}
use Rattle.core_places.specs.Puts.{BecomesBy, IsPut}
use Rattle.core_records.proofs.ReadLemmas.{thread_read}
use Rattle.core_places.specs.Moved.{StandsAlone, entry_set, set_named, still, still_thread}
use Rattle.core_places.proofs.WaiterLemmas.{delivery_at}

-- a write of a thread that isn't there changes nothing
pub thread_gone : (s : StateView) (n : ℕ) → None ≡ get s.core.threads n → (f : Thread → Thread) → s ≡ on_core (on_thread n f) s
unfolding on_thread change
thread_gone s n none f = ap (λ m. record s { core = record s.core { threads = m } }) (ap (changed s.core.threads n f) none)

-- where no thread is there nothing is put
pub becomes_none : (a : CoreParts) → IsSoundCore a → (n : ℕ) → None ≡ get (seen a).core.threads n → (f : Thread → Thread) → BecomesBy a a (on_thread n f)
becomes_none a sound n none f = record { sound = sound; new = thread_gone (seen a) n none f }

pub put_none : (a : CoreParts) → IsSoundCore a → (id : TableId ThreadKey) (p : Place) (state_target : ℕ) (chain : Option ℕ) → None ≡ get (seen a).core.threads (thread_of (seen a) id) → IsPut a a id p state_target chain
unfolding set_place
put_none a sound id p state_target chain none = record {
  sound = sound;
  new = thread_gone (seen a) _ none _;
  threads = λ g is. absent g.thread (none ∙ sym (thread_read a sound id g is));
  left = λ g is unchained. absent g.thread (none ∙ sym (thread_read a sound id g is));
}

-- an id finds one item
pub same_item : {T E : Type 0} {r : Result T E} {x y : T} → Ok x ≡ r → Ok y ≡ r → x ≡ y
same_item one two = let both = one ∙ sym two in cc

-- why the entry of a thread is queued, as its record says
pub why_is : (s : StateView) (n : ℕ) (t : Thread) → Some t ≡ get s.core.threads n → (w : Why) → w ≡ ready_why t.place → why_of n s.core ≡ w
why_is s n t is w reason = sym (ap (λ o. option_map_or ready_why (option_map (λ (t : Thread). t.place) o) Why.Resumption) is) ∙ sym reason

-- no set counts a thread that is alone
pub alone_unset : (a : CoreParts) (o : TableId SetKey) (p : Place) (h : OpProgress) → set_of (seen a) o ≡ 0 → StandsAlone p → set_of (seen a) o ≡ set_named (entry_set p h) (seen a).core
alone_unset a o p h none alone = none ∙ sym (ap (λ x. set_named x (seen a).core) (alone.0 h))

-- no set counts a thread that runs
pub runs_unset : (a : CoreParts) (o : TableId SetKey) (p : Place) (h : OpProgress) → set_of (seen a) o ≡ 0 → p ≡ Place.Running → set_of (seen a) o ≡ set_named (entry_set p h) (seen a).core
runs_unset a o p h none runs = none ∙ sym (ap (λ q. set_named (entry_set q h) (seen a).core) runs)

-- a thread that is alone doesn't wait
pub alone_waits : (p : Place) (k : ℕ) → ((i : ℕ) (b : Bool) → where_at i b p ≡ None) → None ≡ waits_in p k
alone_waits (Place.Waiting x by_callback) k none = absurd (let one = none 0 false in cc)
alone_waits _ k none = refl

module _ (a : CoreParts) (sound : IsSoundCore a) (id : TableId ThreadKey) (g : GuestThread) (is : Ok g ≡ item_at item_of a.threads id.rep id.serial) where
  pub op_progress_at : AtPlace (parts_of a) g.op_target (op_progress_target g.thread.op_progress)
  op_progress_at = place_bare a _ _ (thread_home a sound id g is).op_progress

  pub why_at : (w : Why) → w ≡ ready_why g.thread.place → AtPlace (parts_of a) g.state_target (why_target w)
  why_at w reason = subst (λ v. AtPlace (parts_of a) g.state_target (why_target v)) (sym reason) (delivery_at (parts_of a) g.state_target g.thread.place (place_bare a _ _ (thread_home a sound id g is).place))

  -- the numbers at places stay where the thread is at another place
  pub numbers_put : (h : GuestThread) → still_thread h ≡ still_thread g → (r : ℕ) → number_in (record_at thread_key (with_entry id.rep (entry_of h) a.threads).places r) ≡ number_in (record_at thread_key a.threads.places r)
  unfolding IsSoundCore
  numbers_put h same r =
      let one = item_stands (λ (g : GuestThread). g.number) (λ (g : GuestThread). g.thread) a.threads a.made.threads sound.tables.threads id.rep id.serial g is in
      number_alike still_thread (with_entry id.rep (entry_of h) a.threads) a.threads (mapped-with_entry_same (on_item still_thread) a.threads id.rep (entry_of h) one.0 one.1.0 (ap entry_of same ∙ sym (ap (on_item still_thread) one.1.1.1)))
      (λ (g : GuestThread). g.number) (λ g. refl) (λ (g : GuestThread). g.thread) still (λ g. refl) r
