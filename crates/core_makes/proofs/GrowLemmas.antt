-- A thread more, with other tables of calls and of groups: what is named is where it was.
use Rattle.machine_data.specs.Read.{kind_of}
use Rattle.core_records.proofs.Core.{ap, AreNamed, arith, AtPlace, call_instance, call_key, CallOf, core_of, EachEntry, follower, group_key, HasHome, HasNumber, IfSome, IsCallNamed, IsFollower, IsWorkNamed, None, Nothing, Option, CoreImage, pushed, SetOf, Some, SoundTable, StandsAt, Table, Target, thread_key, ThreadOf, WorkOf, ℕ, ◌+◌, ◌<◌, ◌∙◌, ◌≡◌, ◌≤◌, keeps_waits}
use Rattle.core_records.specs.declared.{call_records.GuestTask.GuestTask, call_records.TaskGroup.TaskGroup, parts.CachedCounts.CachedCounts, single.Single.Single, thread_records.Follower.Follower, thread_records.GuestThread.GuestThread, work_records.WorkRecord.WorkRecord}
use Rattle.core_makes.proofs.FreshLemmas.{each_more}
use Rattle.core_makes.proofs.MoreLemmas.{order_key_stays}
use Rattle.core_records.proofs.MakeLemmas.{stands_more}
use Rattle.core_primitives.specs.Barred.{bars_start}

-- What is in the tables of calls and groups of the parts is in these.
pub record Grows (p : CoreImage) (calls : Table (Single GuestTask)) (groups : Table (Single TaskGroup)) : Type 0 where
  pub stands : (rep n : ℕ) → n ≤ p.made.threads → StandsAt call_key p.calls rep n → StandsAt call_key calls rep n
  pub number : (rep n : ℕ) → HasNumber call_key p.calls rep n → 0 < n → HasNumber call_key calls rep n
  pub instance : (rep n : ℕ) → HasNumber call_key p.calls rep n → 0 < n → call_instance n (core_of (record p { calls = calls })) ≡ call_instance n (core_of p)
  pub kind : (rep n : ℕ) → HasNumber call_key p.calls rep n → 0 < n → kind_of n (core_of (record p { calls = calls })) ≡ kind_of n (core_of p)
  pub group : (rep n : ℕ) → HasNumber group_key p.groups rep n → 0 < n → HasNumber group_key groups rep n

module _ (p : CoreImage) (g : GuestThread) (threads : SoundTable thread_key p.threads p.made.threads) (next : g.number ≡ p.made.threads + 1) (calls : Table (Single GuestTask)) (groups : Table (Single TaskGroup)) (kept : CachedCounts) (grows : Grows p calls groups) where
  abbrev pub grown : CoreImage
  grown = record p { threads = pushed (record { item = g }) p.threads; calls = calls; groups = groups; made = record p.made { threads = p.made.threads + 1 }; kept = kept }

  pub at_grown : (rep : ℕ) (t : Target) → AtPlace p rep t → AtPlace grown rep t
  at_grown rep Nothing at = tt
  at_grown rep (ThreadOf n) at = (let few = at.0 in omega arith, stands_more (λ (h : GuestThread). h.number) (λ (h : GuestThread). h.thread) p.threads p.made.threads threads g next rep n at.0 at.1)
  at_grown rep (CallOf n) at = (let few = at.0 in omega arith, grows.stands rep n at.0 at.1)
  at_grown rep (WorkOf n) at = at
  at_grown rep (SetOf n) at = at

  home_grown : (h : GuestThread) → HasHome p h → HasHome grown h
  home_grown h home = record {
    call = grows.number h.task h.thread.call home.call home.there;
    there = home.there;
    instance = grows.instance h.task h.thread.call home.call home.there ∙ home.instance;
    barred = ap (bars_start h.thread.explicit) (grows.kind h.task h.thread.call home.call home.there) ∙ home.barred;
    waits = ap (keeps_waits p.version) (grows.kind h.task h.thread.call home.call home.there) ∙ home.waits;
    within = home.within;
    place = at_grown h.state_target _ home.place;
    op_progress = at_grown h.op_target _ home.op_progress;
  }

  pub call_grown : (c : GuestTask) → IsCallNamed p c → IsCallNamed grown c
  call_grown c named = record { caller = at_grown c.maker _ named.caller; first = at_grown c.first (ThreadOf c.number) named.first; join = at_grown c.joined _ named.join; group = grows.group c.group c.call.group named.group named.positive; positive = named.positive; waits = named.waits }

  group_grown : (rep n : ℕ) → HasNumber group_key p.groups rep n × (0 < n) → HasNumber group_key groups rep n × (0 < n)
  group_grown rep n has = (grows.group rep n has.0 has.1, has.1)

  work_grown : (w : WorkRecord) → IsWorkNamed p w → IsWorkNamed grown w
  work_grown w named = record { caller = at_grown w.maker _ named.caller; join = at_grown w.joined _ named.join; group = λ n is. group_grown w.group n (named.group n is) }

  switch_grown : (o : Option Follower) → IfSome o (IsFollower p) → IfSome o (IsFollower grown)
  switch_grown None follows = follows
  switch_grown (Some f) follows = order_key_stays p.threads g threads.table follower f.place f follows

  pub named_grown : AreNamed p → HasHome grown g → EachEntry (IsCallNamed grown) calls → AreNamed grown
  named_grown was home named = record {
    threads = each_more (HasHome grown) p.threads g threads.table (λ rep q at. home_grown q.entry.item (was.threads rep q at)) home;
    calls = named;
    works = λ rep q at. work_grown q.entry.item (was.works rep q at);
    switch = switch_grown p.switch was.switch;
  }
