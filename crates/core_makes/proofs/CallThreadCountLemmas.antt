-- A call more and its thread: what the parts count.
use Rattle.core_records.proofs.Core.{ap, AreCounted, arith, Bool, Call, call_key, cases_eq, cond, core_of, EachEntry, eq-eqb, false, filter, get, Goal, group_key, HasRoom, inl, inr, is_in_set, IsCallKept, IsGroupKept, IsSetKept, IsWhole, Join, keeps_set, key_in, length, List, nat_lt, ne_eqb, None, one_if_passes, Option, CoreImage, passing, Place, place_at, Placed, pushed, refl, same_Some, Some, SoundTable, subst, sym, table_use, Thread, thread_key, threads_of, true, with_entry, ℕ, ◌+◌, ◌<◌, ◌==◌, ◌∙◌, ◌≡◌, ◌⊎◌}
use Rattle.core_records.specs.declared.{call_records.GuestTask.GuestTask, call_records.TaskGroup.TaskGroup, set_records.WaitSet.WaitSet, single.Single.Single, thread_records.GuestThread.GuestThread}
use Rattle.core_makes.proofs.FreshLemmas.{each_more, none_passing}
use Rattle.core_makes.proofs.MoreLemmas.{each_but, early, early_at, get_more, passing_more, size_more}
use Rattle.core_queues.proofs.BareLemmas.{one_place}
use Rattle.core_makes.proofs.GroupLemmas.{group_numbers}

pub fails_none : {X : Type 0} (test : X → Bool) (x : X) → test x ≡ false → one_if_passes test (Some x) ≡ 0
fails_none test x fails = ap (λ b. cond b 1 0) fails

pub passes_one : {X : Type 0} (test : X → Bool) (x : X) → test x ≡ true → one_if_passes test (Some x) ≡ 1
passes_one test x passes = ap (λ b. cond b 1 0) passes

module _ (p : CoreImage) (whole : IsWhole p) (threads : SoundTable thread_key p.threads p.made.threads) (calls : SoundTable call_key p.calls p.made.threads) where
  -- no thread is of a call that was not made
  pub no_threads : (k : ℕ) → p.made.threads < k → threads_of k (core_of p) ≡ 0
  no_threads k later = none_passing (λ (t : Thread). t.call == k) thread_key p.threads.places (λ r e at. by r e (place_at p.threads r) refl at)
    where
      by : (r : ℕ) (e : ℕ × Thread) (o : Option (Placed (Single GuestThread))) → place_at p.threads r ≡ o → key_in thread_key o ≡ Some e → (e.1.call == k) ≡ false
      by r e None at is = absurd (cc)
      by r e (Some q) at is =
          let home = whole.named.threads r q at in
          let within = early_at (λ (c : GuestTask). c.number) (λ (c : GuestTask). c.call) p.calls p.made.threads calls q.entry.item.task q.entry.item.thread.call home.call home.there in
          ap (λ (d : ℕ × Thread). d.1.call == k) (sym (same_Some (q.entry.item.number, q.entry.item.thread) e is)) ∙ ne_eqb q.entry.item.thread.call k (λ same. omega arith)

  module _ (g : GuestThread) (g_next : g.number ≡ p.made.threads + 1) (c : GuestTask) (c_next : c.number ≡ p.made.threads + 1)
      (groups : SoundTable group_key p.groups p.made.groups) (rep : ℕ) (q : Placed (Single TaskGroup)) (at : place_at p.groups rep ≡ Some q) where
    abbrev one_more : TaskGroup
    one_more = record q.entry.item { calls = q.entry.item.calls + 1 }

    abbrev pub with_call_thread : CoreImage
    with_call_thread = record p { threads = pushed (record { item = g }) p.threads; calls = pushed (record { item = c }) p.calls; groups = with_entry rep (record { item = one_more }) p.groups; made = record p.made { threads = p.made.threads + 1 }; kept = record p.kept { used = p.kept.used + 3 } }

    thread_more : (test : Thread → Bool) → passing test (core_of with_call_thread).threads ≡ passing test (core_of p).threads + one_if_passes test (Some g.thread)
    thread_more = passing_more (λ (h : GuestThread). h.number) (λ (h : GuestThread). h.thread) p.threads p.made.threads threads g g_next

    call_more : (test : Call → Bool) → passing test (core_of with_call_thread).calls ≡ passing test (core_of p).calls + one_if_passes test (Some c.call)
    call_more = passing_more (λ (d : GuestTask). d.number) (λ (d : GuestTask). d.call) p.calls p.made.threads calls c c_next

    module _ (first : g.thread.call ≡ c.number) (one : c.threads ≡ 1) where
      calls_kept : EachEntry (IsCallKept (core_of with_call_thread)) with_call_thread.calls
      calls_kept = each_more (IsCallKept (core_of with_call_thread)) p.calls c calls.table
          (λ r w w_at.
          let within = early (λ (d : GuestTask). d.number) (λ (d : GuestTask). d.call) p.calls p.made.threads calls r w w_at in
          let was = whole.counted.calls r w w_at in
          let more = thread_more (λ t. t.call == w.entry.item.number) in
          let none = fails_none (λ (t : Thread). t.call == w.entry.item.number) g.thread (ne_eqb g.thread.call w.entry.item.number (λ same. omega arith)) in
          omega arith)
          (let more = thread_more (λ t. t.call == c.number) in
          let here = passes_one (λ (t : Thread). t.call == c.number) g.thread (eq-eqb g.thread.call c.number first) in
          let none = no_threads c.number (omega arith) in
          omega arith)

      module _ (nowhere : c.call.join ≡ Join.Nowhere) (unplaced : g.thread.place ≡ Place.New) where
        set_kept : (x : WaitSet) → IsSetKept (core_of p) x → IsSetKept (core_of with_call_thread) x
        set_kept x was = record {
          members =
              let before = was.members in
              let more = call_more (λ d. is_in_set x.number d.join) in
              let none = fails_none (λ (d : Call). is_in_set x.number d.join) c.call (ap (λ (j : Join). is_in_set x.number j) nowhere) in
              omega arith;
          entries =
              let before = was.entries in
              let more = thread_more (λ t. keeps_set x.number t t.place) in
              let none = fails_none (λ (t : Thread). keeps_set x.number t t.place) g.thread (ap (λ (y : Place). keeps_set x.number g.thread y) unplaced) in
              omega arith;
        }

        module _ (of_group : q.entry.item.number ≡ c.call.group) (room : c.call.goal ≡ Goal.Main → HasRoom c.number p.results) where
          groups_kept : EachEntry (IsGroupKept (core_of with_call_thread)) with_call_thread.groups
          groups_kept = each_but p.groups rep q at one_more (IsGroupKept (core_of with_call_thread))
              (let was = whole.counted.groups rep q at in
              let more = call_more (λ d. d.group == q.entry.item.number) in
              let here = passes_one (λ (d : Call). d.group == q.entry.item.number) c.call (eq-eqb c.call.group q.entry.item.number (sym of_group)) in
              omega arith)
              (λ r w other w_at.
              let was = whole.counted.groups r w w_at in
              let more = call_more (λ d. d.group == w.entry.item.number) in
              let none = fails_none (λ (d : Call). d.group == w.entry.item.number) c.call (ne_eqb c.call.group w.entry.item.number (λ same. other (one_place (λ (h : TaskGroup). h.number) (λ (h : TaskGroup). h.calls) p.groups p.made.groups groups r rep w q w_at at (sym same ∙ sym of_group)))) in
              omega arith)

          rooms : (k : ℕ) (d : Call) → get (core_of with_call_thread).calls k ≡ Some d → d.goal ≡ Goal.Main → HasRoom k p.results
          rooms k d is main = by (cases_eq k c.number)
            where
              more : cond (k == c.number) (Some c.call) (get (core_of p).calls k) ≡ Some d
              more = sym (get_more (λ (d : GuestTask). d.number) (λ (d : GuestTask). d.call) p.calls p.made.threads calls c c_next k) ∙ is

              by : (k ≡ c.number) ⊎ (k ≡ c.number → ⊥) → HasRoom k p.results
              by (inl same) = subst (λ (n : ℕ). HasRoom n p.results) (sym same) (room (ap (λ (e : Call). e.goal) (same_Some c.call d (sym (ap (λ b. cond b (Some c.call) (get (core_of p).calls k)) (eq-eqb k c.number same)) ∙ more)) ∙ main))
              by (inr other) = whole.counted.results k d (sym (ap (λ b. cond b (Some c.call) (get (core_of p).calls k)) (ne_eqb k c.number other)) ∙ more) main

          groups_same : (core_of with_call_thread).groups ≡ (core_of p).groups
          groups_same = ap (filter (nat_lt p.finished)) (group_numbers p.groups rep q at one_more refl)

          used : p.kept.used + 3 ≡ table_use (core_of with_call_thread)
          unfolding table_use
          used =
              let was = whole.counted.kept.used in
              let more_calls = size_more (λ (d : GuestTask). d.number) (λ (d : GuestTask). d.call) p.calls p.made.threads calls c c_next in
              let more_threads = size_more (λ (h : GuestThread). h.number) (λ (h : GuestThread). h.thread) p.threads p.made.threads threads g g_next in
              let same = ap (λ (l : List ℕ). length l) groups_same in
              omega arith

          pub call_thread_counted : AreCounted with_call_thread
          call_thread_counted = record {
            kept = record { used = used; groups = whole.counted.kept.groups ∙ ap (λ (l : List ℕ). length l) (sym groups_same); live = whole.counted.kept.live };
            calls = calls_kept;
            sets = λ r w w_at. set_kept w.entry.item (whole.counted.sets r w w_at);
            groups = groups_kept;
            few = whole.counted.few;
            finished = whole.counted.finished;
            high = whole.counted.high;
            low = whole.counted.low;
            works = whole.counted.works;
            results = rooms;
          }
