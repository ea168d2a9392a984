-- A thread that comes after all that wait or are held: the core is sound, and contracts see just that.
use Rattle.core_picks.specs.Arrived.{Rekeys}
use Rattle.core_places.proofs.EntryLemmas.{keeps_is}
use Rattle.core_places.proofs.MovedLemmas.{at_moved, home_moved, moved, moved_whole}
use Rattle.core_places.proofs.PlacedLemmas.{bare_entry, bare_placed, bare_put, bare_stands, chain_live, is_whole, stands, threads_alike, wait_index_now, waits_stay}
use Rattle.core_places.proofs.PutLemmas.{bare_records, calls_same, keeps, threads_size}
use Rattle.core_places.specs.Moved.{Alike, still_thread}
use Rattle.core_records.proofs.Core.{ap, AreHandlesNamed, bare, bare_thread, callers_in, CallOf, change, core_of, CoreImage, EachEntry, entries_for, entry_of, filings, filings_at, HandleKind, HasHome, IfSome, IsHeldNamed, IsIndex, IsIndex-with_entry, IsSetKept, IsSome, IsSoundCore, IsWhole, item_at, item_of, keeps_set, kinds, link_for, link_of, List, list_of, loose_thread, mapped, None, Ok, on_core, on_item, on_thread, Option, option_and_then, option_map, OwnsHandle, parts_of, passing, place_chain, place_filing, Records, records, Refiles, refl, Rep, same_Some, seen, SetOf, size, Some, Spot, StateView, subst, sym, Table, TableId, Tag, tags_in, Thread, thread_key, thread_of, ThreadKey, ThreadOf, wait_chain, wait_filing, WaitableKind, where_at, with_entry, WorkOf, ℕ, ◌==◌, ◌∙◌, ◌≡◌}
use Rattle.core_records.proofs.HomeLemmas.{thread_home}
use Rattle.core_records.proofs.KeptLemmas.{passing_seconds, size_seconds}
use Rattle.core_records.proofs.KindLemmas.{passing_same, records_changed, table_written, tags_written}
use Rattle.core_records.proofs.ReadLemmas.{thread_shown}
use Rattle.core_records.proofs.TableLemmas.{records_unseen}
use Rattle.core_records.proofs.WriteLemmas.{each_written}
use Rattle.core_records.specs.Keys.{thread_seat_key}
use Rattle.core_records.specs.RecordPlaces.{thread_order_key}
use Rattle.core_records.specs.declared.{instance_records.InstanceRecord.InstanceRecord, parts.CoreParts.CoreParts, single.Single.Single, thread_records.GuestThread.GuestThread}
use Rattle.machine_data.specs.declared.scenario.Version.TheVariants as version
use Rattle.machine_data.specs.declared.scenario.Version.{Version}
use Rattle.machine_rules.specs.Picks.{ThreadSeat}
use Rattle.table_lists.specs.declared.ordered_lists.OrderKey.{OrderKey}

abbrev late_key : ℕ → ℕ → OrderKey
late_key came r = record { task = came; thread = 0; place = r }

module _ (a : CoreParts) (sound : IsSoundCore a) (id : TableId ThreadKey) (g : GuestThread) (is : Ok g ≡ item_at item_of a.threads id.rep id.serial) (came : ℕ) where
  abbrev pub comes : GuestThread
  comes = record g { thread = record g.thread { came = came } }

  abbrev bared : CoreImage
  bared = bare (parts_of a)

  abbrev now : Table (Single GuestThread)
  now = with_entry id.rep (entry_of comes) a.threads

  abbrev bare_now : Table (Single GuestThread)
  bare_now = mapped (on_item bare_thread) now

  whole : IsWhole bared
  whole = is_whole a sound id g is comes refl refl

  alike : Alike still_thread bare_now bared.threads
  alike = threads_alike a sound id g is comes refl refl

  -- ---- The chain in which the thread is filed

  abbrev chain_here : Option ℕ
  chain_here = option_and_then (place_chain bared) (where_at g.instance g.barred g.thread.place)

  abbrev link_as : GuestThread → Option (ℕ × OrderKey)
  link_as h = option_map (λ c. (c, thread_order_key a.version id.rep h)) chain_here

  link_was : link_of a.places g.node.index ≡ link_as g
  link_was =
      subst (λ (e : Single GuestThread). link_of a.places e.item.node.index ≡ link_for (place_chain bared) (record { node = e.item.node.index; key = where_at e.item.instance e.item.barred e.item.thread.place; value = thread_order_key a.version id.rep e.item })) (bare_entry a sound id g is comes refl refl)
      (whole.chained.places.has_link id.rep _ (filings_at (place_filing a.version) bared.threads id.rep (Some (bare_placed a sound id g is comes refl refl)) (bare_stands a sound id g is comes refl refl)))

  chain_is : (c : ℕ) (k : OrderKey) → link_of a.places g.node.index ≡ Some (c, k) → chain_here ≡ Some c
  chain_is c k has = by chain_here refl
    where
      by : (o : Option ℕ) → chain_here ≡ o → chain_here ≡ Some c
      by None at = absurd (let two = sym has ∙ (link_was ∙ ap (option_map (λ (d : ℕ). (d, thread_order_key a.version id.rep g))) at) in cc)
      by (Some d) at =
          let two = sym has ∙ (link_was ∙ ap (option_map (λ (e : ℕ). (e, thread_order_key a.version id.rep g))) at) in
          at ∙ ap (λ (e : ℕ × OrderKey). Some e.0) (sym (same_Some (c, k) (d, thread_order_key a.version id.rep g) two))

  pub chain_is_live : (c : ℕ) (k : OrderKey) → link_of a.places g.node.index ≡ Some (c, k) → IsSome (list_of a.places c)
  chain_is_live c k has = chain_live a sound id g is comes refl refl g.instance g.barred g.thread.place (Some c) (chain_is c k has)

  -- where it is in none nothing is filed
  pub unfiled : link_of a.places g.node.index ≡ None → Refiles a.places a.places g.node.index (link_as comes)
  unfiled none = by chain_here refl
    where
      by : (o : Option ℕ) → chain_here ≡ o → Refiles a.places a.places g.node.index (link_as comes)
      by None at =
          subst (λ (o : Option ℕ). Refiles a.places a.places g.node.index (option_map (λ c. (c, thread_order_key a.version id.rep comes)) o)) (sym at)
          (record { here = none; others = λ n other. refl; made = λ n made. made; live = λ c live. live })
      by (Some c) at = absurd (let two = sym none ∙ (link_was ∙ ap (option_map (λ (d : ℕ). (d, thread_order_key a.version id.rep g))) at) in cc)

  pub filed_anew : (c : ℕ) (k : OrderKey) → link_of a.places g.node.index ≡ Some (c, k) → (places : List (Spot OrderKey)) (order_key : OrderKey) → order_key ≡ thread_order_key a.version id.rep comes →
      Refiles a.places places g.node.index (Some (c, order_key)) → Refiles a.places places g.node.index (link_as comes)
  filed_anew c k has places order_key key_is =
      subst (Refiles a.places places g.node.index)
      (ap (λ (r : OrderKey). Some (c, r)) key_is ∙ ap (option_map (λ (d : ℕ). (d, thread_order_key a.version id.rep comes))) (sym (chain_is c k has)))

  -- what a node keeps its chain by that is put behind all others
  pub rekeyed : (order_key : OrderKey) → order_key ≡ thread_order_key a.version id.rep comes → (places : List (Spot OrderKey)) → Rekeys a.places places g.node.index order_key (link_of a.places g.node.index) → Refiles a.places places g.node.index (link_as comes)
  rekeyed order_key key_is places re = by (link_of a.places g.node.index) refl re
    where
      by : (o : Option (ℕ × OrderKey)) → link_of a.places g.node.index ≡ o → Rekeys a.places places g.node.index order_key o → Refiles a.places places g.node.index (link_as comes)
      by None at same = subst (λ (l : List (Spot OrderKey)). Refiles a.places l g.node.index (link_as comes)) (sym same) (unfiled at)
      by (Some l) at filed = filed_anew l.0 l.1 at places order_key key_is filed

  pub may_rekey : IfSome (link_of a.places g.node.index) (λ (l : ℕ × OrderKey). IsSome (list_of a.places l.0))
  may_rekey = by (link_of a.places g.node.index) refl
    where
      by : (o : Option (ℕ × OrderKey)) → link_of a.places g.node.index ≡ o → IfSome o (λ (l : ℕ × OrderKey). IsSome (list_of a.places l.0))
      by None at = tt
      by (Some l) at = chain_is_live l.0 l.1 at

  -- in version 2 that is when it came, and its place
  pub last_key : a.version ≡ version.Two → (r : ℕ) → r ≡ id.rep → late_key came r ≡ thread_order_key a.version id.rep comes
  last_key second r r_is = ap (late_key came) r_is ∙ ap (λ (v : Version). thread_order_key v id.rep comes) (sym second)

  -- ---- The parts are whole

  module _ (places : List (Spot OrderKey)) where
    abbrev pub comes_after : CoreParts
    comes_after = record a { threads = now; places = places }

    abbrev image : CoreImage
    image = moved bared whole bare_now alike a.sets refl places a.waits

    keeps_same : (n : ℕ) → keeps n comes.thread ≡ keeps n g.thread
    keeps_same n = keeps_is n (loose_thread comes.thread) g.thread.place ∙ sym (keeps_is n (loose_thread g.thread) g.thread.place)

    entries_same : (n : ℕ) → entries_for n (core_of image) ≡ entries_for n (core_of bared)
    unfolding IsSoundCore
    entries_same n =
        ap (passing (λ t. keeps_set n t t.place)) (bare_records now) ∙ (passing_seconds loose_thread (λ t. keeps_set n t t.place) (records thread_key now.places)
        ∙ (passing_same (λ (g : GuestThread). g.number) (λ (g : GuestThread). g.thread) a.threads a.made.threads sound.tables.threads id.rep id.serial g is comes refl (keeps n) (keeps_same n)
        ∙ sym (ap (passing (λ t. keeps_set n t t.place)) (bare_records a.threads) ∙ passing_seconds loose_thread (λ t. keeps_set n t t.place) (records thread_key a.threads.places))))

    sets_kept : EachEntry (IsSetKept (core_of image)) a.sets
    sets_kept r q at = let was = whole.counted.sets r q at in record { members = was.members; entries = was.entries ∙ sym (entries_same q.entry.item.number) }

    home_now : HasHome image (bare_thread comes)
    home_now =
        let was = thread_home a sound id g is in
        record {
          call = was.call;
          there = was.there;
          instance = was.instance;
          barred = was.barred;
          waits = was.waits;
          within = was.within;
          place = at_moved bared whole bare_now alike a.sets refl places a.waits g.state_target _ was.place;
          op_progress = at_moved bared whole bare_now alike a.sets refl places a.waits g.op_target _ was.op_progress;
        }

    homes_now : EachEntry (HasHome image) bare_now
    homes_now = subst (EachEntry (HasHome image)) (sym (bare_put a sound id g is comes refl refl))
        (each_written bared.threads id.rep (bare_placed a sound id g is comes refl refl) (bare_stands a sound id g is comes refl refl) (HasHome image) (bare_thread comes) home_now
        (λ r q at. home_moved bared whole bare_now alike a.sets refl places a.waits q.entry.item (whole.named.threads r q at)))

    module _ (re : Refiles a.places places g.node.index (link_as comes)) where
      index_now : IsIndex (place_chain bared) places (filings (place_filing a.version) bare_now)
      index_now =
          let p = bare_placed a sound id g is comes refl refl in
          subst (λ (t : Table (Single GuestThread)). IsIndex (place_chain bared) places (filings (place_filing a.version) t)) (sym (bare_put a sound id g is comes refl refl))
          (IsIndex-with_entry (place_filing a.version) (place_chain bared) bared.threads a.places whole.chained.places id.rep p (bare_stands a sound id g is comes refl refl) places (entry_of (bare_thread comes))
          (record { node = p.entry.item.node.index; key = where_at p.entry.item.instance p.entry.item.barred p.entry.item.thread.place; value = thread_order_key a.version id.rep p.entry.item })
          (record { node = g.node.index; key = where_at g.instance g.barred g.thread.place; value = thread_order_key a.version id.rep comes })
          refl refl (sym (ap (λ (e : Single GuestThread). e.item.node.index) (bare_entry a sound id g is comes refl refl)))
          (subst (λ n. Refiles a.places places n (link_as comes)) (sym (ap (λ (e : Single GuestThread). e.item.node.index) (bare_entry a sound id g is comes refl refl))) re))

      waits_now : IsIndex (wait_chain bared) a.waits (filings wait_filing bare_now)
      waits_now = wait_index_now a sound id g is comes refl refl a.waits (waits_stay a sound id g is comes refl refl refl)

      whole_now : IsWhole image
      whole_now = moved_whole bared whole bare_now alike a.sets refl places a.waits homes_now index_now waits_now
          (ap size (bare_records now) ∙ (size_seconds loose_thread (records thread_key now.places) ∙ (threads_size a sound id.rep id.serial g is comes refl ∙ sym (ap size (bare_records a.threads) ∙ size_seconds loose_thread (records thread_key a.threads.places)))))
          refl
          (λ k. ap (passing (λ t. t.call == k)) (bare_records now) ∙ (passing_seconds loose_thread (λ t. t.call == k) (records thread_key now.places)
          ∙ (calls_same a sound id.rep id.serial g is comes refl refl k
          ∙ sym (ap (passing (λ t. t.call == k)) (bare_records a.threads) ∙ passing_seconds loose_thread (λ t. t.call == k) (records thread_key a.threads.places)))))
          sets_kept

      held_now : (kind : HandleKind) (r : Rep) → IsHeldNamed (kinds bared) kind r → IsHeldNamed (kinds image) kind r
      held_now (HandleKind.Waitable WaitableKind.GuestSubtask) r at = at_moved bared whole bare_now alike a.sets refl places a.waits r.id (CallOf r.serial) at
      held_now (HandleKind.Waitable WaitableKind.HostSubtask) r at = at_moved bared whole bare_now alike a.sets refl places a.waits r.id (WorkOf r.serial) at
      held_now (HandleKind.Waitable WaitableKind.Stream) r at = at
      held_now (HandleKind.Waitable WaitableKind.Future) r at = at
      held_now HandleKind.Set r at = at_moved bared whole bare_now alike a.sets refl places a.waits r.id (SetOf r.serial) at

      handles_now : (r : InstanceRecord) → AreHandlesNamed (kinds bared) r → AreHandlesNamed (kinds image) r
      handles_now r named = record {
        small = named.small;
        small_threads = named.small_threads;
        handles = λ n x at. held_now x.kind x.rep (named.handles n x at);
        thread_handles = λ n x at. at_moved bared whole bare_now alike a.sets refl places a.waits x.id (ThreadOf x.serial) (named.thread_handles n x at);
      }

      owns_now : OwnsHandle (parts_of a) comes
      unfolding IsSoundCore
      owns_now =
          let here = stands a sound id g is comes refl refl in
          subst (λ (e : Single GuestThread). OwnsHandle (parts_of a) e.item) here.1.1.1 (sound.owned id.rep here.0 here.1.0)

      pub comes_sound : IsSoundCore comes_after
      unfolding IsSoundCore
      comes_sound =
          let here = stands a sound id g is comes refl refl in
          record {
            tables = record {
              threads = table_written (λ (g : GuestThread). g.number) (λ (g : GuestThread). g.thread) a.threads a.made.threads sound.tables.threads id.rep id.serial g is comes refl;
              calls = sound.tables.calls;
              works = sound.tables.works;
              sets = sound.tables.sets;
              groups = sound.tables.groups;
            };
            whole = whole_now;
            interesting = sound.interesting;
            moving = sound.moving;
            handles = λ i r at. handles_now r (sound.handles i r at);
            owned = each_written a.threads id.rep here.0 here.1.0 (OwnsHandle (parts_of a)) comes owns_now sound.owned;
            live = sound.live;
            ended = sound.ended;
          }

    -- ---- What is seen

    callers_same : records (callers_in a.behind) now.places ≡ records (callers_in a.behind) a.threads.places
    callers_same = let here = stands a sound id g is comes refl refl in records_unseen (callers_in a.behind) a.threads id.rep here.0 here.1.0 (entry_of comes) (sym (ap (callers_in a.behind) here.1.1.1))

    seats_same : records thread_seat_key now.places ≡ records thread_seat_key a.threads.places
    seats_same = let here = stands a sound id g is comes refl refl in records_unseen thread_seat_key a.threads id.rep here.0 here.1.0 (entry_of comes) (sym (ap thread_seat_key here.1.1.1))

    abbrev view_of : Records Thread → Records (List ℕ) → List (Option Tag) → Records ThreadSeat → StateView
    view_of m k l p = record (seen a) { core = record (seen a).core { threads = m; callers = k }; tags = record (seen a).tags { threads = l; seats = record (seen a).tags.seats { threads = p } } }

    pub comes_seen : (f : Thread → Thread) → f g.thread ≡ comes.thread → seen comes_after ≡ on_core (on_thread (thread_of (seen a) id) f) (seen a)
    unfolding seen IsSoundCore on_thread
    comes_seen f is_f =
        let changed = change (thread_of (seen a) id) f (records thread_key a.threads.places) in
        let callers = records (callers_in a.behind) a.threads.places in
        ap (λ (m : Records Thread). view_of m (records (callers_in a.behind) now.places) (tags_in thread_key now) (records thread_seat_key now.places))
        (records_changed (λ (g : GuestThread). g.number) (λ (g : GuestThread). g.thread) a.threads a.made.threads sound.tables.threads id.rep id.serial g is comes refl f is_f ∙ ap (λ n. change n f (records thread_key a.threads.places)) (sym (thread_shown a id)))
        ∙ (ap (λ (k : Records (List ℕ)). view_of changed k (tags_in thread_key now) (records thread_seat_key now.places)) callers_same
        ∙ (ap (λ (l : List (Option Tag)). view_of changed callers l (records thread_seat_key now.places))
        (tags_written (λ (g : GuestThread). g.number) (λ (g : GuestThread). g.thread) a.threads a.made.threads sound.tables.threads id.rep id.serial g is comes refl)
        ∙ ap (view_of changed callers (tags_in thread_key a.threads)) seats_same))
