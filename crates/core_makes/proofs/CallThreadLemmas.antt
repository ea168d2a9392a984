-- A call more and its thread, whose nodes and chains hung on nothing: the parts stay whole.
use Rattle.core_records.proofs.Core.{ap, AreChained, AreTables, arith, AtPlace, Call, call_key, cond, core_of, eq-eqb, get, group_key, HasHome, HaveRowNodes, op_progress_target, OpProgress, IsCallNamed, IsWhole, Join, join_target, key_in, kinds, ne_eqb, no_callee, number_in, Option, option_map_or, CoreImage, Place, place_at, place_target, Placed, pushed, ready_in, refl, Some, Status, subst, sym, thread_key, where_at, ℕ, ◌+◌, ◌<◌, ◌==◌, ◌∙◌, ◌≡◌, ExportKind, Bool}
use Rattle.core_records.specs.declared.{call_records.GuestTask.GuestTask, call_records.TaskGroup.TaskGroup, single.Single.Single, thread_records.GuestThread.GuestThread}
use Rattle.core_makes.proofs.FreshLemmas.{each_more}
use Rattle.core_makes.proofs.MoreLemmas.{at_new, early_at, get_more, number_stays, number_written}
use Rattle.core_queues.proofs.BareLemmas.{number_positive}
use Rattle.core_makes.proofs.CallPushLemmas.{call_chained, call_nodes, nobody_still, nodes_of as call_nodes_of}
use Rattle.core_makes.proofs.GrowLemmas.{Grows, at_grown, call_grown, named_grown}
use Rattle.core_makes.proofs.CallThreadCountLemmas.{call_thread_counted, with_call_thread}
use Rattle.core_makes.proofs.ThreadPushLemmas.{PlacesNamed, nodes_of, thread_chained, thread_nodes}
use Rattle.core_makes.specs.LooseCalls.{AreCallLoose, AreThreadLoose}
use Rattle.core_makes.specs.CallThread.{IsCallWithThread}
use Rattle.core_records.proofs.MakeLemmas.{stands_more}
use Rattle.core_primitives.specs.Barred.{bars_start}
use Rattle.core_records.specs.Names.{keeps_waits}

module _ (p : CoreImage) (whole : IsWhole p) (tables : AreTables p) (c : GuestTask) (g : GuestThread) (is : IsCallWithThread p c g) (call_loose : AreCallLoose p (keeps_waits p.version c.call.kind) (call_nodes_of c)) (loose : AreThreadLoose p (keeps_waits p.version c.call.kind) (nodes_of g)) (two : g.under ≡ c.blocked → ⊥)
    (rep : ℕ) (q : Placed (Single TaskGroup)) (at : place_at p.groups rep ≡ Some q) (place : c.group ≡ rep) (of_group : q.entry.item.number ≡ c.call.group) where
  abbrev pub after : CoreImage
  after = with_call_thread p whole tables.threads tables.calls g is.thread_next c is.call_next tables.groups rep q at

  later : p.made.threads < c.number
  later = let next = is.call_next in omega arith

  thread_later : p.made.threads < g.number
  thread_later = let next = is.thread_next in omega arith

  named : PlacesNamed (kinds p) p.threads
  named r w w_at = (whole.named.threads r w w_at).place

  -- whether the call's waiting threads are kept beside the sets
  abbrev keeps : Bool
  keeps = keeps_waits p.version c.call.kind

  -- no thread is of the call yet
  nobody : (r : ℕ) (w : Placed (Single GuestThread)) → place_at p.threads r ≡ Some w → w.entry.item.thread.call ≡ c.number → ⊥
  nobody r w w_at same =
      let home = whole.named.threads r w w_at in
      let within = early_at (λ (d : GuestTask). d.number) (λ (d : GuestTask). d.call) p.calls p.made.threads tables.calls w.entry.item.task w.entry.item.thread.call home.call home.there in
      absurd (omega (arith, within, later, same))

  -- ---- Chains and nodes: the call first

  abbrev with_calls : CoreImage
  with_calls = record p { calls = pushed (record { item = c }) p.calls }

  still_loose : AreThreadLoose with_calls keeps (nodes_of g)
  still_loose = record {
    wait = record { is = loose.wait.is; made = loose.wait.made; free = loose.wait.free; apart = loose.wait.apart };
    node = loose.node;
    mark = loose.mark;
    instance_queue = loose.instance_queue;
    caller = loose.caller;
    callers = record { empty = loose.callers.empty; apart = loose.callers.apart };
    under = record { empty = loose.under.empty; apart = nobody_still p c keeps tables.calls.table tables.calls.apart (tables.calls.later c.number later) call_loose g.under two loose.under.apart };
    no_work = loose.no_work;
  }

  chained : AreChained after
  chained =
      let first = call_chained p c keeps tables.calls.table tables.calls.apart (tables.calls.later c.number later) call_loose (kinds p) later named nobody (ap (λ (e : Option Status). ready_in e c.call.join) is.eventless) whole.chained in
      let both = thread_chained with_calls g keeps tables.threads.table tables.threads.apart (tables.threads.later g.number thread_later) still_loose (kinds p) thread_later named (ap (where_at g.instance g.barred) is.unplaced) first in
      record { places = both.places; waits = both.waits; ready_calls = both.ready_calls; ready_works = both.ready_works; polled = both.polled; rising = both.rising; marks = both.marks; instance_queues = both.instance_queues; low = both.low; behind = both.behind }

  nodes : HaveRowNodes after
  nodes =
      let first = call_nodes p c keeps tables.calls.table tables.calls.apart (tables.calls.later c.number later) call_loose whole.nodes in
      let both = thread_nodes with_calls g keeps tables.threads.table tables.threads.apart (tables.threads.later g.number thread_later) still_loose first in
      record { marks = both.marks; instance_queues = both.instance_queues; callers = both.callers; works = both.works; apart = both.apart }

  -- ---- Names

  get_call : (n : ℕ) → get (core_of after).calls n ≡ cond (n == c.number) (Some c.call) (get (core_of p).calls n)
  get_call = get_more (λ (d : GuestTask). d.number) (λ (d : GuestTask). d.call) p.calls p.made.threads tables.calls c is.call_next

  pub grows : Grows p after.calls after.groups
  grows = record {
    stands = stands_more (λ (d : GuestTask). d.number) (λ (d : GuestTask). d.call) p.calls p.made.threads tables.calls c is.call_next;
    number = number_stays p.calls c tables.calls.table call_key;
    instance = λ r n has some.
        let within = early_at (λ (d : GuestTask). d.number) (λ (d : GuestTask). d.call) p.calls p.made.threads tables.calls r n has some in
        ap (λ (o : Option Call). (option_map_or (λ (d : Call). d.callee) o no_callee).instance) (get_call n ∙ ap (λ b. cond b (Some c.call) (get (core_of p).calls n)) (ne_eqb n c.number (λ same. omega arith)));
    kind = λ r n has some.
        let within = early_at (λ (d : GuestTask). d.number) (λ (d : GuestTask). d.call) p.calls p.made.threads tables.calls r n has some in
        ap (λ (o : Option Call). option_map_or (λ (d : Call). d.kind) o ExportKind.Callback) (get_call n ∙ ap (λ b. cond b (Some c.call) (get (core_of p).calls n)) (ne_eqb n c.number (λ same. omega arith)));
    group = λ r n has some. number_written p.groups rep q at (record q.entry.item { calls = q.entry.item.calls + 1 }) group_key refl r n has;
  }

  home : HasHome after g
  home = record {
    call = ap (λ o. number_in (key_in call_key o)) (ap (place_at after.calls) is.task ∙ at_new p.calls c tables.calls.table) ∙ sym is.first;
    there = let next = is.call_next in let same = is.first in omega arith;
    instance = ap (λ (o : Option Call). (option_map_or (λ (d : Call). d.callee) o no_callee).instance) (get_call g.thread.call ∙ ap (λ b. cond b (Some c.call) (get (core_of p).calls g.thread.call)) (eq-eqb g.thread.call c.number is.first)) ∙ sym is.instance;
    barred = ap (λ (o : Option Call). bars_start g.thread.explicit (option_map_or (λ (d : Call). d.kind) o ExportKind.Callback)) (get_call g.thread.call ∙ ap (λ b. cond b (Some c.call) (get (core_of p).calls g.thread.call)) (eq-eqb g.thread.call c.number is.first)) ∙ is.barred;
    waits = ap (λ (o : Option Call). keeps_waits p.version (option_map_or (λ (d : Call). d.kind) o ExportKind.Callback)) (get_call g.thread.call ∙ ap (λ b. cond b (Some c.call) (get (core_of p).calls g.thread.call)) (eq-eqb g.thread.call c.number is.first)) ∙ sym loose.wait.is;
    within = is.within;
    place = subst (λ (x : Place). AtPlace after g.state_target (place_target x)) (sym is.unplaced) tt;
    op_progress = subst (λ (x : OpProgress). AtPlace after g.op_target (op_progress_target x)) (sym is.fresh) tt;
  }

  call_named : IsCallNamed after c
  call_named = record {
    caller = at_grown p g tables.threads is.thread_next after.calls after.groups after.kept grows c.maker _ is.caller;
    first = (let next = is.call_next in omega arith, λ some. ap (λ o. number_in (key_in thread_key o)) (ap (place_at after.threads) is.first_at ∙ at_new p.threads g tables.threads.table) ∙ (is.thread_next ∙ sym is.call_next));
    join = subst (λ (x : Join). AtPlace after c.joined (join_target x)) (sym is.nowhere) tt;
    group = number_written p.groups rep q at (record q.entry.item { calls = q.entry.item.calls + 1 }) group_key refl c.group c.call.group (ap (λ o. number_in (key_in group_key o)) (ap (place_at p.groups) place ∙ at) ∙ of_group);
    positive = subst (λ (n : ℕ). 0 < n) of_group (number_positive (λ (r : TaskGroup). r.number) (λ (r : TaskGroup). r.calls) p.groups p.made.groups tables.groups rep q at);
    waits = sym call_loose.waits.is;
  }

  pub call_thread_whole : IsWhole after
  call_thread_whole = record {
    named = named_grown p g tables.threads is.thread_next after.calls after.groups after.kept grows whole.named home
        (each_more (IsCallNamed after) p.calls c tables.calls.table (λ r w w_at. call_grown p g tables.threads is.thread_next after.calls after.groups after.kept grows w.entry.item (whole.named.calls r w w_at)) call_named);
    chained = chained;
    nodes = nodes;
    counted = call_thread_counted p whole tables.threads tables.calls g is.thread_next c is.call_next tables.groups rep q at is.first is.one is.nowhere is.unplaced of_group is.room;
  }
