-- A poll that is counted, and the search for the live work after it.
use Rattle.core_records.proofs.Core.{ap, ap₂, AreLinked, arith, bare, Bool, cond, entries, false, filings, filings_at, following, IsLinks, is_moving, is_some, is_stage_live, IsSome, IsSoundCore, item_at, item_of, link_of, live_chain, live_value, live_work, next_polled, Node, None, not, Ok, on_core, one_if_passes, Option, parts_of, refl, same_Some, seen, set_course, Some, stage_of, Stage, suc, sym, TableId, true, Work, work_of, zero, ℕ, ◌&&◌, ◌+◌, ◌||◌, ◌∙◌, ◌≡◌, ◌≤◌}
use Rattle.std.specs.Option.{option_map, option_map_or}
use Rattle.std.specs.Prelude.{Err, IsOk, Result}
use Rattle.core_places.proofs.HearLemmas.{bare_placed, bare_stands, stands}
use Rattle.table_lists.proofs.Indexes.{filed_link}
use Rattle.table_lists.specs.Index.{Filing}
use Rattle.machine_data.specs.Read.{is_aborted, is_live, is_never}
use Rattle.std.proofs.Common.{subst}
use Rattle.machine_data.specs.declared.component.HostDef.{HostDef}
use Rattle.machine_data.specs.declared.component.HostDef.TheVariants as host_def
use Rattle.machine_data.specs.declared.statuses.HostPoll.{HostPoll}
use Rattle.machine_data.specs.declared.statuses.HostPoll.TheVariants as host_poll
use Rattle.core_primitives.specs.Polls.{PendsWith}
use Rattle.machine_data.specs.declared.records.Course.{Course}
use Rattle.machine_data.specs.declared.records.Course.TheVariants as courses
use Rattle.machine_data.specs.declared.statuses.Phase.{Phase}
use Rattle.machine_data.specs.declared.statuses.Phase.TheVariants as phases
use Rattle.core_records.proofs.ReadLemmas.{work_read, work_unread}
use Rattle.core_records.proofs.WriteLemmas.{moved_sound, moved_writes}
use Rattle.core_records.specs.Kinds.{entry_of}
use Rattle.core_records.specs.declared.{parts.CoreParts.CoreParts, work_records.WorkRecord.WorkRecord, work_records.LiveWork.LiveWork}
use Rattle.machine_rules.specs.Works.{heard, poll_of, poll_pends, polled_again, polled_course, polled_in}
use Rattle.task_table.specs.Changes.{with_entry}
use Rattle.task_table.specs.declared.error.ResourceTableError.{ResourceTableError}
use Rattle.task_wait.specs.declared.keys.HostTaskKey.{HostTaskKey}
use Rattle.core_removals.proofs.PollLemmas.{begins_there, chain_rises, passed_here, polled_filed}
use Rattle.core_removals.proofs.WalkLemmas.{walk_more}
use Rattle.core_removals.specs.Walks.{HasNext, IsLiveNode, Walk}

-- ---- What a poll leaves a work to do

-- the poll of one that wasn't aborted
pub running_course : (p : Phase) (c : Course) (left : HostDef) → PendsWith left (polled_in p c) → PendsWith left (polled_course c)
running_course phases.AbortRequested c left is = absurd is
running_course phases.Running c left is = is
running_course phases.Complete c left is = is

-- an open work that pends stays open
heard_open : (answer : HostPoll) (left : HostDef) → PendsWith left (heard answer) → left ≡ host_def.Open
heard_open host_poll.Pending left is = is
heard_open (host_poll.Value v) left is = absurd is
heard_open host_poll.Failed left is = absurd is

again_never : (host left : HostDef) → PendsWith left (polled_again host) → is_never (courses.Continues left) ≡ is_never (courses.Continues host)
again_never (host_def.Settled None v) left is = ap (λ (e : HostDef). is_never (courses.Continues e)) is
again_never (host_def.Settled (Some zero) None) left is = absurd is
again_never (host_def.Settled (Some zero) (Some v)) left is = absurd is
again_never (host_def.Settled (Some (suc n)) v) left is = ap (λ (e : HostDef). is_never (courses.Continues e)) is
again_never host_def.Open left is = ap (λ (e : HostDef). is_never (courses.Continues e)) (heard_open is.0 left is.1)

-- it is to end just where it was
never_same : (c : Course) (left : HostDef) → PendsWith left (polled_course c) → is_never (courses.Continues left) ≡ is_never c
never_same (courses.Continues d) left is = again_never d left is
never_same (courses.Value v) left is = absurd is
never_same courses.NoValue left is = absurd is

-- ---- The next live work

pub mapped_some : {A B : Type 0} (f : A → B) (o : Option A) → is_some o ≡ is_some (option_map f o)
mapped_some f None = refl
mapped_some f (Some x) = refl

reflexive : (n : ℕ) → n ≤ n
reflexive n = omega arith

module _ (a : CoreParts) (sound : IsSoundCore a) where
  -- the walk goes on behind the node of a work, past its number
  pub stands_walk : (node number : ℕ) → IsLiveNode node number a → (c : ℕ) → a.live ≡ Some c → IsLinks a.polled → AreLinked a.polled c (entries a.polled c) → (other : Option (ℕ × LiveWork)) → other ≡ following node a.polled →
      Walk (HasNext number (entries a.polled c)) (entries a.polled c) other
  stands_walk node number st c is links linked other other_is =
      let v : LiveWork = record { number = number; place = st.place } in
      let link : link_of a.polled node ≡ Some (c, v) = st.link ∙ ap (λ (k : ℕ). Some (k, v)) (same_Some st.chain c (sym st.is ∙ is)) in
      walk_more (HasNext number (entries a.polled c)) a.polled c links (Some (node, v)) (node, v) (begins_there a.polled c linked number node v links (chain_rises a sound c is) link (reflexive number)) refl other other_is
      (HasNext number (entries a.polled c)) (λ b good. passed_here number (node, v) b (reflexive number) ∙ good)

-- under another name of the same number
pub more_at : (x : CoreParts) (n m : ℕ) (b : Bool) → n ≡ m → b ≡ is_some (next_polled n (seen x).core) → b ≡ is_some (next_polled m (seen x).core)
more_at x n m b same is = is ∙ ap (λ (k : ℕ). is_some (next_polled k (seen x).core)) same

-- ---- The record of the work

-- nothing hangs on where the search for the next live work begins
begun_sound : (a : CoreParts) (o : Option Node) → IsSoundCore a → IsSoundCore (record a { polled_last = o })
unfolding IsSoundCore
begun_sound a o sound = sound

begun_seen : (a : CoreParts) (o : Option Node) → seen (record a { polled_last = o }) ≡ seen a
unfolding seen
begun_seen a o = refl

-- an id that names nothing names no live work
pub none_lives : (a : CoreParts) (sound : IsSoundCore a) (id : TableId HostTaskKey) (why : ResourceTableError) → Err why ≡ item_at item_of a.works id.rep id.serial → is_stage_live (stage_of (work_of (seen a) id) (seen a).core) ≡ true → ⊥
none_lives a sound id why is live = let none = ap (λ (o : Option Work). is_stage_live (option_map_or (λ (w : Work). w.stage) o Stage.Ended)) (work_unread a sound id why is) in let no : ◌≡◌ {A = Bool} false true = none ∙ live in cc

-- so that of a live work names a record
pub lives_there : (a : CoreParts) (sound : IsSoundCore a) (id : TableId HostTaskKey) → is_stage_live (stage_of (work_of (seen a) id) (seen a).core) ≡ true → IsOk (item_at item_of a.works id.rep id.serial)
lives_there a sound id live = by (item_at item_of a.works id.rep id.serial) refl
  where
    by : (r : Result WorkRecord ResourceTableError) → r ≡ item_at item_of a.works id.rep id.serial → IsOk r
    by (Ok g) is = refl
    by (Err why) is = absurd (none_lives a sound id why is live)

module _ (a : CoreParts) (sound : IsSoundCore a) (id : TableId HostTaskKey) (g : WorkRecord) (is : Ok g ≡ item_at item_of a.works id.rep id.serial) where
  poll_is : poll_of (work_of (seen a) id) (seen a).core ≡ polled_in g.work.phase g.work.course
  unfolding poll_of
  poll_is =
      let read = sym (work_read a sound id g is) in
      ap₂ polled_in (ap (λ (o : Option Work). option_map_or (λ (w : Work). w.phase) o phases.Complete) read) (ap (λ (o : Option Work). option_map_or (λ (w : Work). w.course) o courses.NoValue) read)

  pub pending_course : (left : HostDef) → PendsWith left (poll_of (work_of (seen a) id) (seen a).core) → PendsWith left (polled_course g.work.course)
  pending_course left e = running_course g.work.phase g.work.course left (subst (PendsWith left) poll_is e)

  -- the live work has its node in the chain
  pub stands_live : is_stage_live (stage_of (work_of (seen a) id) (seen a).core) ≡ true → IsLiveNode g.live.index g.number a
  unfolding IsSoundCore
  stands_live live = by a.live refl some
    where
      some : IsSome a.live
      some = (sound.whole.counted.works id.rep (bare_placed a sound id g is) (bare_stands a sound id g is)).1

      here : is_stage_live g.work.stage ≡ true
      here = ap (λ (o : Option Work). is_stage_live (option_map_or (λ (w : Work). w.stage) o Stage.Ended)) (work_read a sound id g is) ∙ live

      filing : Filing (Unit {0}) LiveWork
      filing = record { node = g.live.index; key = cond (is_stage_live g.work.stage) (Some tt) None; value = live_value id.rep g }

      filed : filings live_work a.works id.rep ≡ Some filing
      filed = let p = stands a sound id g is in filings_at live_work a.works id.rep (Some p.0) p.1.0 ∙ ap (live_work id.rep p.0.serial) p.1.1.1

      by : (o : Option ℕ) → a.live ≡ o → IsSome o → IsLiveNode g.live.index g.number a
      by None at s = absurd (cc)
      by (Some c) at s = record {
        chain = c;
        is = at;
        place = id.rep;
        link = filed_link (live_chain (bare (parts_of a))) a.polled (filings live_work a.works) (polled_filed a sound) tt c at id.rep filing filed (ap (λ b. cond b (Some tt) None) here);
      }

  module _ (c : Course) (left : HostDef) (pends : PendsWith left (poll_of (work_of (seen a) id) (seen a).core)) (new : c ≡ courses.Continues left) (node : Node) where
    abbrev written : WorkRecord
    written = record g { work = record g.work { course = c } }

    counted : a.kept.moving + one_if_passes is_moving (Some g.work) ≡ a.kept.moving + one_if_passes is_moving (Some written.work)
    counted = ap (λ (b : Bool). a.kept.moving + one_if_passes (λ (w : Work). b) (Some g.work)) (sym moves)
      where
        moves : is_moving written.work ≡ is_moving g.work
        moves = ap (λ (b : Bool). is_live g.work && (not b || is_aborted g.work.phase)) (ap is_never new ∙ never_same g.work.course left (pending_course left pends))

    abbrev after : CoreParts
    after = record a { works = with_entry id.rep (entry_of written) a.works; polled_last = Some node }

    pub count_sound : IsSoundCore after
    count_sound = begun_sound _ _ (moved_sound a sound id g is written refl a.kept.moving counted)

    pub count_seen : seen after ≡ on_core (poll_pends (work_of (seen a) id) left) (seen a)
    unfolding poll_pends set_course
    count_seen = begun_seen _ _ ∙ moved_writes a sound id g is written refl a.kept.moving counted (λ w. record w { course = courses.Continues left }) (ap (λ (d : Course). record g.work { course = d }) (sym new))
