-- A machine whose core wants what a choice says.
use Rattle.choice_offers.specs.Choices.{chosen_of}
use Rattle.choice_offers.specs.Listings.{IsWantedBy, numbers_of, offer_in}
use Rattle.choice_offers.specs.declared.choice.Choice.{Choice}
use Rattle.choice_offers.specs.declared.offered.Offered.{Offered}
use Rattle.core_primitives.specs.Names.{subtask_in}
use Rattle.core_primitives.specs.Preferences.{preference, wanted_of}
use Rattle.core_primitives.specs.StateView.{StateView, Tags, Wanted, call_number, thread_number, thread_of, with_wanted, work_number}
use Rattle.core_primitives.specs.declared.names.SubtaskId.TheVariants as subtasks
use Rattle.core_primitives.specs.declared.names.SubtaskId.{SubtaskId}
use Rattle.core_primitives.specs.declared.names.WantedId.{WantedId}
use Rattle.laws_choices.specs.Offer as laws
use Rattle.laws_choices.specs.Offer.{FitsOffer, is_one_of}
use Rattle.laws_choices.specs.Offers.{offer}
use Rattle.laws_picks.specs.Wants.{Wants}
use Rattle.laws_states.specs.Order.{is_open}
use Rattle.machine_data.specs.Read.{instance_of, subtask_at}
use Rattle.machine_data.specs.declared.records.Subtask.TheVariants as subtask
use Rattle.ops_turns.specs.Turn.{running_of}
use Rattle.std.proofs.Common.{ap, refl, subst, sym, ◌∙◌}
use Rattle.std.proofs.lemmas.List.Sorted.{IsPermutation-sym, IsPermutation-trans}
use Rattle.std.specs.Option.{option_and_then}
use Rattle.std.specs.Prelude.{IsPermutation, List, None, Option, Some, [], map, option_map, true, ℕ, ◌∷◌, ◌≡◌}
use Rattle.task_run.specs.Spawns.{KnowsSpawns}
use Rattle.task_run.specs.declared.script.ScriptMain.{ScriptMain}
use Rattle.task_table.specs.declared.id.TableId.{TableId}
use Rattle.task_wait.specs.declared.keys.GuestTaskKey.{GuestTaskKey}
use Rattle.task_wait.specs.declared.keys.HostTaskKey.{HostTaskKey}
use Rattle.task_wait.specs.declared.keys.ThreadKey.{ThreadKey}
use Rattle.trace_machine.specs.Machines.{HasNumbers, HasWanted, IsKept, IsOffered, chooser_of, setting_at, state_of, turn_at}
use Rattle.trace_machine.specs.declared.machine.Machine.{Machine}

-- ---- What ids name, whatever is wanted

same_thread : (w : Wanted) (t : Tags) (id : TableId ThreadKey) → thread_number (record t { wanted = w }) id ≡ thread_number t id
unfolding thread_number
same_thread w t id = refl

same_call : (w : Wanted) (t : Tags) (id : TableId GuestTaskKey) → call_number (record t { wanted = w }) id ≡ call_number t id
unfolding call_number
same_call w t id = refl

same_work : (w : Wanted) (t : Tags) (id : TableId HostTaskKey) → work_number (record t { wanted = w }) id ≡ work_number t id
unfolding work_number
same_work w t id = refl

same_subtask : (w : Wanted) (t : Tags) (id : SubtaskId) → subtask_in (record t { wanted = w }) id ≡ subtask_in t id
same_subtask w t (subtasks.Guest id) = ap (λ (k : ℕ). subtask.Guest k) (same_call w t id)
same_subtask w t (subtasks.Host id) = ap (λ (k : ℕ). subtask.Host k) (same_work w t id)

same_some : {X Y : Type 0} (f g : X → Y) → ((x : X) → f x ≡ g x) → (o : Option X) → option_map f o ≡ option_map g o
same_some f g same None = refl
same_some f g same (Some x) = ap (λ y. Some y) (same x)

same_all : {X Y : Type 0} (f g : X → Y) → ((x : X) → f x ≡ g x) → (xs : List X) → map f xs ≡ map g xs
same_all f g same [] = refl
same_all f g same (x ∷ xs) = ap (λ y. y ∷ map f xs) (same x) ∙ ap (λ ys. g x ∷ ys) (same_all f g same xs)

same_running : (w : Wanted) (s : StateView) → running_of (with_wanted w s) ≡ running_of s
same_running w s = same_some (λ id. thread_of (with_wanted w s) id) (λ id. thread_of s id) (λ id. same_thread w s.tags id) s.current

knows_still : (w : Wanted) (s : StateView) (n : ScriptMain) → KnowsSpawns n s → KnowsSpawns n (with_wanted w s)
knows_still w s n knows = λ k h at. let is = knows k h at in record { some = is.some; there = is.there; named = same_work w s.tags h.work ∙ is.named }

-- the machine with a core that wants this
abbrev pub wanting : Wanted → Machine → Machine
wanting w m = record m { store = record m.store { state = with_wanted w m.store.state } }

wanting_kept : (w : Wanted) (m : Machine) → IsKept m → IsKept (wanting w m)
wanting_kept w m kept = record {
  runnable = kept.runnable;
  hosts = kept.hosts;
  script = kept.script;
  idle = kept.idle;
  turn = kept.turn;
  may_go_on = λ opened.
      let h = kept.may_go_on opened in
      record {
        order = h.order;
        settled = h.settled;
        running = same_running w m.store.state ∙ h.running;
        pends = h.pends;
        suits = h.suits;
        knows = knows_still w m.store.state m.main h.knows;
        works = record { each = h.works.each; first = h.works.first };
        asked = h.asked;
      };
  works = kept.works;
  named = kept.named;
  over = kept.over;
  timed = kept.timed;
}

-- it is kept still
pub wanted_kept : (m new : Machine) → IsKept m → new ≡ record m { store = record m.store { state = with_wanted new.store.state.tags.wanted m.store.state } } → IsKept new
wanted_kept m new kept same = subst IsKept (sym same) (wanting_kept new.store.state.tags.wanted m kept)

pub wanted_open : (m new : Machine) → new ≡ record m { store = record m.store { state = with_wanted new.store.state.tags.wanted m.store.state } } → is_open (turn_at m) ≡ true → is_open (turn_at new) ≡ true
wanted_open m new same opened = subst (λ (k : Machine). is_open (turn_at k) ≡ true) (sym same) opened

pub wanted_few : (m new : Machine) → new ≡ record m { store = record m.store { state = with_wanted new.store.state.tags.wanted m.store.state } } → HasNumbers m → HasNumbers new
wanted_few m new same few = subst HasNumbers (sym same) few

-- where nothing was at rest, nothing is
pub wanted_moves : (P : Machine → Type 0) (m new : Machine) → new ≡ record m { store = record m.store { state = with_wanted new.store.state.tags.wanted m.store.state } } →
    P (wanting new.store.state.tags.wanted m) → P new
wanted_moves P m new same h = subst P (sym same) h

-- ---- What is wanted

wants_in : (s : StateView) (n : ℕ) (c : Choice) (w : WantedId) (m : Machine) → m.store.state ≡ s → chooser_of m ≡ n → IsWantedBy s n c w →
    Wants (preference (with_wanted (wanted_of w) s)) (state_of m) (chosen_of c)
wants_in s n c w m at by is =
    let tags = (with_wanted (wanted_of w) s).tags in
    record {
      waiter = λ k chosen. same_some (λ id. thread_number tags id) (λ id. thread_of s id) (λ id. same_thread (wanted_of w) s.tags id) w.waiter ∙ (is.waiter ∙ chosen);
      member = λ h chosen.
          same_some (λ sub. subtask_in tags sub) (λ sub. subtask_in s.tags sub) (λ sub. same_subtask (wanted_of w) s.tags sub) w.member
          ∙ (is.member
          ∙ (ap (λ (o : Option ℕ). option_and_then (λ k. subtask_at (instance_of n s.core) k s.core) o) chosen
          ∙ (ap (λ (k : ℕ). subtask_at (instance_of k s.core) h s.core) (sym by)
          ∙ ap (λ (v : StateView). subtask_at (instance_of (chooser_of m) v.core) h v.core) (sym at))));
      release = same_all (λ id. thread_number tags id) (λ id. thread_of s id) (λ id. same_thread (wanted_of w) s.tags id) w.held.items ∙ is.held;
    }

pub has_wanted : (m new : Machine) (c : Choice) (w : WantedId) → new ≡ wanting (wanted_of w) m → IsWantedBy m.store.state (chooser_of m) c w → HasWanted m c new
has_wanted m new c w same is =
    subst (λ (k : Machine). HasWanted m c k) (sym same)
    (record { same = refl; wants = wants_in m.store.state (chooser_of m) c w m refl refl is })

-- what fits the offer fits what is listed of it
pub fits_listed : (m : Machine) (o : Offered) (c : Choice) → IsOffered m o → FitsOffer (chosen_of c) (offer (setting_at m) (state_of m)) → FitsOffer (chosen_of c) (offer_in o)
fits_listed m o c is fits =
    let same = is.offers.1 in
    record {
      waiter = ap (λ (ns : List ℕ). is_one_of ns c.waiter) (is.listed.waiters ∙ ap (λ (f : laws.Offer). f.waiters) same) ∙ fits.waiter;
      member = ap (λ (ns : List ℕ). is_one_of ns c.member) (is.listed.members ∙ ap (λ (f : laws.Offer). f.members) same) ∙ fits.member;
      release =
          let held : IsPermutation (offer (setting_at m) (state_of m)).held (numbers_of o.held.items) = subst (λ (f : laws.Offer). IsPermutation f.held (numbers_of o.held.items)) same is.listed.held in
          IsPermutation-trans (numbers_of o.held.items) (offer (setting_at m) (state_of m)).held c.release (IsPermutation-sym (offer (setting_at m) (state_of m)).held (numbers_of o.held.items) held) fits.release;
    }

-- and what fits what is listed fits the offer
pub fits_offer : (m : Machine) (o : Offered) (c : Choice) → IsOffered m o → FitsOffer (chosen_of c) (offer_in o) → FitsOffer (chosen_of c) (offer (setting_at m) (state_of m))
fits_offer m o c is fits =
    let same = is.offers.1 in
    record {
      waiter = sym (ap (λ (ns : List ℕ). is_one_of ns c.waiter) (is.listed.waiters ∙ ap (λ (f : laws.Offer). f.waiters) same)) ∙ fits.waiter;
      member = sym (ap (λ (ns : List ℕ). is_one_of ns c.member) (is.listed.members ∙ ap (λ (f : laws.Offer). f.members) same)) ∙ fits.member;
      release =
          let held : IsPermutation (offer (setting_at m) (state_of m)).held (numbers_of o.held.items) = subst (λ (f : laws.Offer). IsPermutation f.held (numbers_of o.held.items)) same is.listed.held in
          IsPermutation-trans (offer (setting_at m) (state_of m)).held (numbers_of o.held.items) c.release held fits.release;
    }
