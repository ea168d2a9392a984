-- What a cancel leads to, by whom it takes: states that differ in that thread alone.
use Rattle.laws_checks.proofs.ActLemmas.{twins_at}
use Rattle.laws_checks.proofs.HiddenRules.{Took, run_takes, took}
use Rattle.laws_checks.proofs.ThreadLemmas.{IsFree, alike_change, alike_free, alike_other, alike_then, free_change, nowhere}
use Rattle.laws_checks.specs.Twins.{AreAlike, AreTwinCores, AreTwins, HiddenAreTwins, HidesAlike, blocked_in, blocks, with_threads}
use Rattle.laws_choices.specs.Offer.{Chosen}
use Rattle.laws_choices.specs.Offers.{turn_offer}
use Rattle.laws_choices.specs.Steps.{StepBy, TurnBy, hides_in}
use Rattle.machine_data.specs.Core.{Core, State}
use Rattle.machine_data.specs.Maps.{Records, get, numbers}
use Rattle.machine_data.specs.Moves.{behind_one, displaced, is_callback_waiter, put_switch, waits_cancellable}
use Rattle.machine_data.specs.Read.{call_instance, is_at, may_not_suspend, task_of, waits_by_callback}
use Rattle.machine_data.specs.Write.{on_call, on_instance, on_thread, push_high_first, set_callers, set_cancel_asked, set_do_not_suspend, set_join, set_op_progress, set_place, set_saved_callee, set_switch, set_task_event}
use Rattle.machine_data.specs.declared.label.Label.{Label}
use Rattle.machine_data.specs.declared.records.Join.TheVariants as join
use Rattle.machine_data.specs.declared.records.OpProgress.TheVariants as op_progress
use Rattle.machine_data.specs.declared.records.Place.TheVariants as place
use Rattle.machine_data.specs.declared.records.Place.{Place}
use Rattle.machine_data.specs.declared.records.Subtask.TheVariants as subtask
use Rattle.machine_data.specs.declared.records.Subtask.{Subtask}
use Rattle.machine_data.specs.declared.records.Thread.{Thread}
use Rattle.machine_data.specs.declared.records.Turn.TheVariants as turn
use Rattle.machine_data.specs.declared.records.Turn.{Turn}
use Rattle.machine_data.specs.declared.records.Why.{Why}
use Rattle.machine_rules.specs.Cancels.{behind_switch, cancel_asks, cancel_goes_behind, cancel_wakes, cancel_why, cancellable, is_waiting, is_waiting_of, pauses, waiting_callback}
use Rattle.machine_rules.specs.Scripts.{HasOpen, op_of}
use Rattle.machine_rules.specs.Stalled.{Setting}
use Rattle.machine_rules.specs.Step.{is_among}
use Rattle.machine_rules.specs.Turns.{goes_to}
use Rattle.std.proofs.Common.{ap, arith, refl, subst, sym, ◌∙◌}
use Rattle.std.proofs.lemmas.Bool.Decides.{nat_tests}
use Rattle.std.specs.List.{list_any}
use Rattle.std.specs.Option.{option_map_or}
use Rattle.std.specs.Prelude.{Bool, List, None, Option, Some, [], cond, false, filter, if◌then◌else◌, option_map, true, ℕ, ◌&&◌, ◌==◌, ◌||◌, ◌∷◌, ◌≡◌}

-- ---- Whom a cancel takes is blocked on nothing

among_passes : (test : ℕ → Bool) (m : ℕ) (ns : List ℕ) → is_among m (filter test ns) ≡ true → test m ≡ true
among_passes test m [] h = absurd (cc)
among_passes test m (n ∷ ns) h = by (test n) refl (λ found. among_passes test m ns found) h
  where
    first : (b : Bool) → (m == n) ≡ b → test n ≡ true → (is_among m (filter test ns) ≡ true → test m ≡ true) → (b || is_among m (filter test ns)) ≡ true → test m ≡ true
    first true same is later found = subst (λ (k : ℕ). test k ≡ true) (grind (arith, nat_tests, same)) is
    first false other is later found = later found

    by : (b : Bool) → test n ≡ b → (is_among m (filter test ns) ≡ true → test m ≡ true) → is_among m (cond b (n ∷ filter test ns) (filter test ns)) ≡ true → test m ≡ true
    by true is later found = first (m == n) refl is later found
    by false is later found = later found

second_of : (a b : Bool) → (a && b) ≡ true → b ≡ true
second_of true b h = h
second_of false b h = absurd (cc)

waiting_free : (p : Place) → is_waiting p ≡ true → blocked_in p ≡ None
waiting_free (place.Blocked sub) h = absurd (cc)
waiting_free _ h = refl

callback_waits : (p : Place) → waits_by_callback p ≡ true → is_waiting p ≡ true
callback_waits (place.Waiting x b) h = refl
callback_waits _ h = absurd (cc)

at_free : (o : Option Thread) → option_map_or is_waiting (option_map (λ (t : Thread). t.place) o) false ≡ true → option_map blocks o ≡ option_map nowhere o
at_free None h = refl
at_free (Some t) h = ap (λ (sub : Option Subtask). Some sub) (waiting_free t.place h)

at_callback : (o : Option Thread) → option_map_or waits_by_callback (option_map (λ (t : Thread). t.place) o) false ≡ true → option_map_or is_waiting (option_map (λ (t : Thread). t.place) o) false ≡ true
at_callback None h = h
at_callback (Some t) h = callback_waits t.place h

free_taken : (k m : ℕ) (s : Core) → is_among m (cancellable k s) ≡ true → IsFree m s.threads
free_taken k m s h = by (waits_cancellable k s) h
  where
    one : (b : Bool) → is_callback_waiter k s ≡ b → is_among m (if b then k ∷ [] else []) ≡ true → IsFree m s.threads
    one true is found = subst (λ (n : ℕ). IsFree n s.threads) (same (m == k) refl found) (at_free (get s.threads k) (at_callback (get s.threads k) is))
      where
        same : (b : Bool) → (m == k) ≡ b → (b || false) ≡ true → k ≡ m
        same true e found = grind (arith, nat_tests, e)
        same false e found = absurd (cc)
    one false is found = absurd (cc)

    by : (b : Bool) → is_among m (if b then filter (is_waiting_of k s) (numbers s.threads) else waiting_callback k s) ≡ true → IsFree m s.threads
    by true found =
        at_free (get s.threads m) (second_of (task_of m s == k) (is_at m s is_waiting) (among_passes (is_waiting_of k s) m (numbers s.threads) found))
    by false found = one (is_callback_waiter k s) refl found

-- ---- The states

displaced_free : (m : ℕ) (s : Core) (o : Option ℕ) → IsFree m s.threads → IsFree m (displaced o s).threads
unfolding push_high_first set_place on_thread
displaced_free m s None free = free
displaced_free m s (Some j) free = free_change s.threads m j _ (λ t. refl) free

put_twins : (s : Core) (m j : ℕ) (w v : Why) → IsFree m s.threads → IsFree j s.threads → AreTwinCores (put_switch m w s) (put_switch j v s)
unfolding put_switch set_switch set_place on_thread
put_twins s m j w v free other =
    let d = displaced s.queues.switch s in
    record {
      rest = refl;
      threads =
          alike_then (alike_free d.threads m _ (displaced_free m s s.queues.switch free) (λ t. refl))
          (alike_other (alike_free d.threads j _ (displaced_free j s s.queues.switch other) (λ t. refl)));
    }

-- `cancel_goes_behind`, where this is at switch
abbrev goes_as : ℕ → ℕ → Option ℕ → Core → Core
goes_as n k o s =
    let j = call_instance k s in
    let cleared = set_do_not_suspend j false (set_saved_callee n (Some (may_not_suspend j s)) s) in
    let watched = set_join (subtask.Guest k) (join.Watched n) cleared in
    set_op_progress n (op_progress.Cancels (subtask.Guest k)) (behind_switch n o watched)

goes_twins : (n k m j : ℕ) (s : Core) (ts : Records Thread) (cs : Records (List ℕ)) (q : Option ℕ) → AreAlike s.threads ts →
    AreTwinCores (goes_as n k (Some m) s) (goes_as n k (Some j) (with_threads ts cs q s))
unfolding set_op_progress set_saved_callee set_do_not_suspend set_join set_place set_callers behind_one on_thread on_call on_instance
goes_twins n k m j s ts cs q alike = record {
  rest = refl;
  threads = alike_change _ _ (alike_change _ _ (alike_change _ _ alike n _ _ (λ t u e. e)) n _ _ (λ t u e. refl)) n _ _ (λ t u e. e);
}

module _ (n k m j : ℕ) (s : Core) where
  one_put : Core
  one_put = put_switch m (cancel_why (is_callback_waiter m s)) (cancel_asks k s)

  other_put : Core
  other_put = put_switch j (cancel_why (is_callback_waiter j s)) (cancel_asks k s)

  put_both : IsFree m s.threads → IsFree j s.threads → AreTwinCores one_put other_put
  unfolding one_put other_put cancel_asks set_cancel_asked set_task_event on_call
  put_both free other = put_twins (cancel_asks k s) m j (cancel_why (is_callback_waiter m s)) (cancel_why (is_callback_waiter j s)) free other

  both_go : AreTwinCores one_put other_put → AreTwinCores (goes_as n k (Some m) one_put) (goes_as n k (Some j) other_put)
  both_go twins =
      subst (λ (c : Core). AreTwinCores (goes_as n k (Some m) one_put) (goes_as n k (Some j) c)) (sym twins.rest)
      (goes_twins n k m j one_put other_put.threads other_put.callers other_put.queues.switch twins.threads)

  wakes_twins : IsFree m s.threads → IsFree j s.threads → AreTwinCores (cancel_wakes n k m s) (cancel_wakes n k j s)
  unfolding cancel_wakes cancel_goes_behind one_put other_put put_switch set_switch
  wakes_twins free other = both_go (put_both free other)

at_switch_now : (n k m : ℕ) (s : Core) → (cancel_wakes n k m s).queues.switch ≡ Some m
unfolding cancel_wakes cancel_goes_behind put_switch set_switch set_op_progress set_saved_callee set_do_not_suspend set_join set_place set_callers behind_one on_thread on_call on_instance
at_switch_now n k m s = refl

-- ---- The steps

both_took : (n k : ℕ) (s : State) (c d : Chosen) (l j : Label) (t u : State) → Took n k s c l t → Took n k s d j u → (one : ℕ) × ((other : ℕ) ×
    ((c.waiter ≡ Some one) × ((d.waiter ≡ Some other) × ((l ≡ j) × AreTwins one other t u))))
both_took n k s c d l j t u a b =
    let twins = wakes_twins n k a.who b.who s.core (free_taken k a.who s.core a.among) (free_taken k b.who s.core b.among) in
    let one = cancel_wakes n k a.who s.core in
    let other = cancel_wakes n k b.who s.core in
    let states = twins_at a.who b.who s s s.main s.main refl one other twins (at_switch_now n k a.who s.core) (at_switch_now n k b.who s.core) turn.Main refl in (
      a.who,
      (
        b.who,
        (
          a.waiter,
          (
            b.waiter,
            (
              a.label ∙ sym b.label,
              subst (λ (r : State). AreTwins a.who b.who r u) (sym a.state) (subst (λ (r : State). AreTwins a.who b.who (goes_to s one turn.Main) r) (sym b.state) states),
            ),
          ),
        ),
      ),
    )

pub hidden_are_twins : HiddenAreTwins
unfolding HiddenAreTwins StepBy
hidden_are_twins x s hosts hides c d l k t u step other = by s.turn hides step other
  where
    by : (q : Turn) → hides_in x s q ≡ true → TurnBy x c s q l t → TurnBy x d s q k u → HidesAlike x s q c d l k t u
    by (turn.Run n) it did also =
        let takes = run_takes x s hosts n it in
        let both = both_took n takes.1.0 s c d l k t u (took x s n takes c l t did) (took x s n takes d k u also) in
        record { one = both.0; other = both.1.0; one_is = both.1.1.0; other_is = both.1.1.1.0; label = both.1.1.1.1.0; runner = n; says = (took x s n takes c l t did).label; twins = both.1.1.1.1.1; members = takes.0 }
    by (turn.Take ended) it did also = absurd (cc)
    by (turn.Futures n) it did also = absurd (cc)
    by turn.Main it did also = absurd (cc)
    by turn.Over it did also = absurd (cc)
