-- What hangs on the chains of marks and of callers, and on switch, and what does not.
use Rattle.core_records.proofs.SoundLemmas.{sound_of_whole}
use Rattle.core_records.proofs.Core.{[], ap, AreCounted, AreNamed, bare, callers_chain, callers_row, chained, core_of, Each, filter, HasHome, HaveRowNodes, High, IfSome, is_made, is_of_instance, IsCallNamed, IsFollower, IsOfThread, IsRows, IsRows-same, IsKeyed, IsSetKept, IsSoundCore, IsWhole, IsWorkNamed, List, Low, None, Option, part, CoreImage, parts_of, refl, Row, row, row_chain, instance_queue_chain, Some, Spot, subst, sym, table_use, true, values_are, ℕ, ◌≡◌}
use Rattle.core_records.specs.declared.{call_records.GuestTask.GuestTask, parts.CoreParts.CoreParts, set_records.WaitSet.WaitSet, thread_records.Follower.Follower, thread_records.GuestThread.GuestThread, thread_records.Queued.Queued, work_records.WorkRecord.WorkRecord}

-- the parts with other chains of marks and callers
abbrev pub with_chains : CoreImage → List (Spot Queued) → List (Spot Queued) → List (Spot Follower) → Option Follower → CoreImage
with_chains p marks instance_queues behind switch = record p { marks = marks; instance_queues = instance_queues; behind = behind; switch = switch }

-- Each node that was made is made.
abbrev pub KeepsNodes : {P : Type 0} → List (Spot P) → List (Spot P) → Type 0
KeepsNodes old new = (n : ℕ) → is_made old n ≡ true → is_made new n ≡ true

module _ (p : CoreImage) (whole : IsWhole p) (marks instance_queues : List (Spot Queued)) (behind : List (Spot Follower)) (switch : Option Follower) where
  abbrev now : CoreImage
  now = with_chains p marks instance_queues behind switch

  home_same : (g : GuestThread) → HasHome p g → HasHome now g
  home_same g h = record { call = h.call; there = h.there; instance = h.instance; barred = h.barred; waits = h.waits; within = h.within; place = h.place; op_progress = h.op_progress }

  call_same : (g : GuestTask) → IsCallNamed p g → IsCallNamed now g
  call_same g h = record { caller = h.caller; first = h.first; join = h.join; group = h.group; positive = h.positive; waits = h.waits }

  work_same : (w : WorkRecord) → IsWorkNamed p w → IsWorkNamed now w
  work_same w h = record { caller = h.caller; join = h.join; group = h.group }

  set_same : (x : WaitSet) → IsSetKept (core_of p) x → IsSetKept (core_of now) x
  set_same x h = record { members = h.members; entries = h.entries }

  counted_same : AreCounted now
  unfolding table_use
  counted_same = record {
    kept = record { used = whole.counted.kept.used; groups = whole.counted.kept.groups; live = whole.counted.kept.live };
    calls = whole.counted.calls;
    sets = λ rep q at. set_same q.entry.item (whole.counted.sets rep q at);
    groups = whole.counted.groups;
    few = whole.counted.few;
    finished = whole.counted.finished;
    high = whole.counted.high;
    low = whole.counted.low;
    works = whole.counted.works;
    results = whole.counted.results;
  }

  nodes_same : KeepsNodes p.marks marks → KeepsNodes p.instance_queues instance_queues → KeepsNodes p.behind behind → HaveRowNodes now
  nodes_same keeps_marks keeps_instance_queues keeps_behind = record {
    marks = record { made = λ rep q at. keeps_marks _ (whole.nodes.marks.made rep q at); own = whole.nodes.marks.own };
    instance_queues = record { made = λ rep q at. keeps_instance_queues _ (whole.nodes.instance_queues.made rep q at); own = whole.nodes.instance_queues.own };
    callers = record { made = λ rep q at. keeps_behind _ (whole.nodes.callers.made rep q at); own = whole.nodes.callers.own };
    works = record { made = λ rep q at. keeps_marks _ (whole.nodes.works.made rep q at); own = whole.nodes.works.own };
    apart = whole.nodes.apart;
  }

  named_same : IfSome switch (IsFollower p) → AreNamed now
  named_same follows = record {
    threads = λ rep q at. home_same q.entry.item (whole.named.threads rep q at);
    calls = λ rep q at. call_same q.entry.item (whole.named.calls rep q at);
    works = λ rep q at. work_same q.entry.item (whole.named.works rep q at);
    switch = follows;
  }

  pub chains_whole :
      IfSome switch (IsFollower p) → KeepsNodes p.marks marks → KeepsNodes p.instance_queues instance_queues → KeepsNodes p.behind behind
      → IsRows (row_chain p) (λ q. q.mark.index) (IsKeyed p) marks (row now) → IsRows (instance_queue_chain p) (λ q. q.instance_queue.index) (IsKeyed p) instance_queues (part is_of_instance (row now)) → Each IsOfThread (row now Low)
      → IsRows (callers_chain p) (λ f. f.node.index) (IsFollower p) behind (callers_row now) → IsWhole now
  chains_whole follows keeps_marks keeps_instance_queues keeps_behind marks_are instance_queues_are low behind_are = record {
    named = named_same follows;
    chained = record {
      places = whole.chained.places;
      waits = whole.chained.waits;
      ready_calls = whole.chained.ready_calls;
      ready_works = whole.chained.ready_works;
      polled = whole.chained.polled;
      rising = whole.chained.rising;
      marks = marks_are;
      instance_queues = instance_queues_are;
      low = low;
      behind = behind_are;
    };
    nodes = nodes_same keeps_marks keeps_instance_queues keeps_behind;
    counted = counted_same;
  }

-- so that a core with other chains is sound where its parts are whole
pub chains_sound : (a : CoreParts) (marks instance_queues : List (Spot Queued)) (behind : List (Spot Follower)) (switch : Option Follower) → IsSoundCore a → IsWhole (with_chains (bare (parts_of a)) marks instance_queues behind switch) → IsSoundCore (record a { marks = marks; instance_queues = instance_queues; behind = behind; switch = switch })
unfolding IsSoundCore
chains_sound a marks instance_queues behind switch sound whole = sound_of_whole a (record a { marks = marks; instance_queues = instance_queues; behind = behind; switch = switch }) refl sound whole

-- ---- The entries of the marks

module _ (p : CoreImage) (whole : IsWhole p) (marks instance_queues : List (Spot Queued)) (list : Row → List Queued) (rows : IsRows (row_chain p) (λ q. q.mark.index) (IsKeyed p) marks list) (empty : (r : Row) → row_chain p r ≡ None → list r ≡ []) where
  abbrev pub with_rows : CoreImage
  with_rows = record p { marks = marks; instance_queues = instance_queues }

  row_at : (r : Row) (o : Option ℕ) → row_chain p r ≡ o → chained marks o ≡ list r
  row_at r None is = sym (empty r is)
  row_at r (Some c) is = values_are (row_chain p) (λ q. q.mark.index) (IsKeyed p) marks list rows r c is

  -- they are those of the chains now
  pub row_is : (r : Row) → row with_rows r ≡ list r
  row_is High = row_at High p.high refl
  row_is Low = row_at Low p.low refl

  pub rows_whole : KeepsNodes p.marks marks → KeepsNodes p.instance_queues instance_queues → IsRows (instance_queue_chain p) (λ q. q.instance_queue.index) (IsKeyed p) instance_queues (part is_of_instance list) → Each IsOfThread (list Low) → IsWhole with_rows
  rows_whole keeps_marks keeps_instance_queues instance_queue_rows low = chains_whole p whole marks instance_queues p.behind p.switch whole.named.switch keeps_marks keeps_instance_queues (λ n made. made)
      (IsRows-same (row_chain p) (λ q. q.mark.index) (IsKeyed p) marks list rows (row with_rows) (λ r c at. row_is r))
      (IsRows-same (instance_queue_chain p) (λ q. q.instance_queue.index) (IsKeyed p) instance_queues (part is_of_instance list) instance_queue_rows (part is_of_instance (row with_rows)) (λ k c at. ap (filter (is_of_instance k.0)) (row_is k.1)))
      (subst (Each IsOfThread) (sym (row_is Low)) low)
      whole.chained.behind
