-- A thread that is next is named by the label that takes it; until then twins go on alike.
use Rattle.laws_checks.proofs.ActLemmas.{KeepsTwins, MainAlike, ends_alike, fails_alike, main_alike, pends_alike, twins_at}
use Rattle.laws_checks.proofs.ThreadLemmas.{alike_same}
use Rattle.laws_checks.specs.Twins.{AreAlike, AreTwinCores, AreTwins, IsNext, NamesOrBetween, NextIsBusy, NextIsNamed, TwinsGoOn, is_between, named_in, runs_thread, with_threads}
use Rattle.laws_choices.specs.Offer.{Chosen, shown}
use Rattle.laws_choices.specs.Offers.{offer, turn_offer}
use Rattle.laws_choices.specs.Steps.{FutureBy, IsScripted, PolledBy, ProgressesBy, StepBy, TakenBy, TurnBy}
use Rattle.machine_data.specs.Core.{Core, Main, MainPlace, Scripted, State, Unscripted}
use Rattle.machine_data.specs.Labels.{Choice, event_label, held_label, take_label}
use Rattle.machine_data.specs.Maps.{Records}
use Rattle.machine_data.specs.Moves.{NothingPicked, PickedEvent, PickedMember, PickedTaskEvent, may_hand_on, picked_event, picked_task_event_only}
use Rattle.machine_data.specs.Read.{admits, at_handle_limit, is_explicit, next_entry, or_high, place_of, task_of}
use Rattle.machine_data.specs.declared.label.Label.TheVariants as label
use Rattle.machine_data.specs.declared.label.Label.{Label}
use Rattle.machine_data.specs.declared.label.LoopLabel.TheVariants as loop_label
use Rattle.machine_data.specs.declared.label.LoopLabel.{LoopLabel}
use Rattle.machine_data.specs.declared.label.MainLabel.TheVariants as main_label
use Rattle.machine_data.specs.declared.label.MainLabel.{MainLabel}
use Rattle.machine_data.specs.declared.records.Delivery.TheVariants as delivery
use Rattle.machine_data.specs.declared.records.Delivery.{Delivery}
use Rattle.machine_data.specs.declared.records.Entry.TheVariants as entry
use Rattle.machine_data.specs.declared.records.Entry.{Entry}
use Rattle.machine_data.specs.declared.records.Place.TheVariants as place
use Rattle.machine_data.specs.declared.records.Place.{Place}
use Rattle.machine_data.specs.declared.records.Thread.{Thread}
use Rattle.machine_data.specs.declared.records.Turn.TheVariants as turn
use Rattle.machine_data.specs.declared.records.Turn.{Turn}
use Rattle.machine_data.specs.declared.records.Why.TheVariants as why
use Rattle.machine_data.specs.declared.records.Why.{Why}
use Rattle.machine_data.specs.declared.scenario.MainOpDef.{MainOpDef}
use Rattle.machine_data.specs.declared.statuses.Given.{Given}
use Rattle.machine_data.specs.declared.statuses.Mark.TheVariants as mark
use Rattle.machine_data.specs.declared.statuses.Mark.{Mark}
use Rattle.machine_data.specs.declared.trap.Trap.{Trap}
use Rattle.machine_rules.specs.Ends.{may_tell}
use Rattle.machine_rules.specs.MainOps.{Answers, Does, MainProgress, Pends, act_of, advanced_main, line_of, main_rule, op_at}
use Rattle.machine_rules.specs.Outcome.{is_at_rest}
use Rattle.machine_rules.specs.Progress.{Asks, Continues, Fails, Never, OneOf, Ordered, Progress, Stops, Traps, may, or_never, trap_if}
use Rattle.machine_rules.specs.Sets.{chosen}
use Rattle.machine_rules.specs.Stalled.{Setting, is_idle, is_stalled, waits_for_entry, works_rest}
use Rattle.machine_rules.specs.Step.{MainProgresses, MainStep, ScriptStep, entry_number}
use Rattle.machine_rules.specs.Takes.{delivered, delivery_rule, may_tell_starting, own_delivered, popped, set_delivered, start_admitted, start_rule, take_rule, thread_taken, thread_taken_for}
use Rattle.machine_rules.specs.Turns.{at_turn, goes_to, queues_are_empty}
use Rattle.machine_rules.specs.Works.{Asked, Ends, FailsNow, Poll, StillPends, has_live_work, next_polled, poll_ends, poll_of, poll_pends}
use Rattle.std.proofs.Common.{ap, inl, inr, refl, subst, sym, ⊎_elim, ◌∙◌}
use Rattle.std.specs.Prelude.{Bool, List, None, Option, Some, false, is_none, not, true, ℕ, ◌&&◌, ◌||◌, ◌≡◌, ◌⊎◌}

-- ---- The taking names its thread

abbrev NamesAll : ℕ → Progress → Type 0
NamesAll n (Continues l new m) = named_in l ≡ Some n
NamesAll n (Stops l new) = named_in l ≡ Some n
NamesAll n (Traps t) = Unit {0}
NamesAll n Never = Unit {0}
NamesAll n _ = ⊥

named_by : (c : Chosen) (s : State) (base : Core) (n : ℕ) (p : Progress) → NamesAll n p → (l : Label) (t : State) → ProgressesBy c s base n p l t → named_in l ≡ Some n
named_by c s base n (Continues k new m) all l t is = ap named_in is.0 ∙ all
named_by c s base n (Stops k new) all l t is = ap named_in is.0 ∙ all
named_by c s base n (Traps k) all l t is = ap named_in is.0
named_by c s base n Never all l t is = absurd is
named_by c s base n (Fails i) all l t is = absurd all
named_by c s base n (Ordered ns next) all l t is = absurd all
named_by c s base n (OneOf ns next) all l t is = absurd all
named_by c s base n (Asks next) all l t is = absurd all

may_name : (n : ℕ) (b : Bool) (p : Progress) → NamesAll n p → NamesAll n (may b p)
may_name n true p h = h
may_name n false p h = tt

trap_names : (n : ℕ) (b : Bool) (t : Trap) (p : Progress) → NamesAll n p → NamesAll n (trap_if b t p)
trap_names n true t p h = tt
trap_names n false t p h = h

never_names : {X : Type 0} (n : ℕ) (o : Option X) (next : X → Progress) → ((x : X) → NamesAll n (next x)) → NamesAll n (or_never o next)
never_names n None next h = tt
never_names n (Some x) next h = h x

module _ (n : ℕ) (ch : Choice) (s : Core) where
  take_named : (w : Option ℕ) → named_in (take_label mark.Switch n w) ≡ Some n
  take_named None = refl
  take_named (Some w) = refl

  held_named : (w : Option ℕ) → named_in (held_label mark.Switch n w) ≡ Some n
  held_named None = refl
  held_named (Some w) = refl

  event_named : (g : Given) (w : Option ℕ) → named_in (event_label mark.Switch n g w) ≡ Some n
  event_named g None = refl
  event_named g (Some w) = refl

  admitted_names : (b : Bool) → NamesAll n (start_admitted mark.Switch n ch.woken s b)
  admitted_names true = refl
  admitted_names false = trap_names n (at_handle_limit s) _ _ (may_name n (may_tell (task_of n s) ch.woken s) _ (take_named ch.woken))

  start_names : (b : Bool) → NamesAll n (start_rule mark.Switch n ch.woken s b)
  start_names true = admitted_names (is_explicit n s)
  start_names false = may_name n (may_tell_starting (task_of n s) ch.woken s) _ (held_named ch.woken)

  set_names : (x : ℕ) (g : PickedEvent) → NamesAll n (set_delivered mark.Switch n x ch s g)
  set_names x NothingPicked = refl
  set_names x (PickedTaskEvent e) = may_name n (may_hand_on x (PickedTaskEvent e) ch.woken s) _ (event_named _ ch.woken)
  set_names x (PickedMember sub) = may_name n (may_hand_on x (PickedMember sub) ch.woken s) _ (event_named _ ch.woken)

  delivered_names : (d : Delivery) → NamesAll n (delivered mark.Switch n ch s d)
  delivered_names (delivery.Set x) = never_names n (picked_event true (task_of n s) x (chosen n ch s) s) _ (set_names x)
  delivered_names _ = refl

  delivery_names : (d : Delivery) (b : Bool) → NamesAll n (delivery_rule mark.Switch n ch s d b)
  delivery_names d true = delivered_names d
  delivery_names d false = refl

  why_names : (w : Why) → NamesAll n (thread_taken_for mark.Switch n ch s w)
  why_names why.Start = start_names (admits n s why.Start)
  why_names (why.Delivery d) = delivery_names d (admits n s (why.Delivery d))
  why_names why.Resumption = refl

  taken_names : (o : Option Place) → NamesAll n (thread_taken mark.Switch n ch s o)
  taken_names (Some (place.Ready x w)) = why_names w
  taken_names _ = tt

-- ---- What comes between

between_unnamed : (l : Label) → is_between l ≡ true → named_in l ≡ None
between_unnamed (label.Main l) h = refl
between_unnamed (label.Loop l) h = by l h
  where
    by : (l : LoopLabel) → is_between (label.Loop l) ≡ true → named_in (label.Loop l) ≡ None
    by (loop_label.Trap t n) h = absurd (cc)
    by _ h = refl
between_unnamed _ h = absurd (cc)

-- what comes of a step while the thread m is next, where its twin, at which n is, makes a step in this turn
abbrev Goes : ℕ → ℕ → Label → State → (State → Type 0) → Type 0
Goes m n l u other = (named_in l ≡ Some m) ⊎ ((is_between l ≡ true) × ((v : State) × (other v × AreTwins m n u v)))

module _ (x : Setting) (m n : ℕ) (c : Chosen) (s : State) (ts : Records Thread) (cs : Records (List ℕ)) (q : Option ℕ) (at : s.core.queues.switch ≡ Some m) (other_at : q ≡ Some n)
    (alike : AreAlike s.core.threads ts) where
  abbrev twin : State
  twin = record { core = with_threads ts cs q s.core; main = s.main; turn = s.turn }

  -- cores that are still twins
  next_twins : (p r : Main) → p ≡ r → (a b : Core) → KeepsTwins s.core.queues.switch q a b → (t : Turn) → runs_thread t ≡ false → AreTwins m n (at_turn s a p t) (at_turn twin b r t)
  next_twins p r main a b keeps t waits = twins_at m n s twin p r main a b keeps.0 (keeps.1.0 ∙ at) (keeps.1.1 ∙ other_at) t waits

  here : KeepsTwins s.core.queues.switch q s.core twin.core
  here = (record { rest = refl; threads = alike }, (refl, refl))

  -- so the step is one of this label to this state, and so is the twin's
  steps : (l k : Label) (u r v : State) → l ≡ k → u ≡ r → is_between k ≡ true → AreTwins m n r v → Goes m n l u (λ w. (l ≡ k) × (w ≡ v))
  steps l k u r v label state between twins =
      inr (ap is_between label ∙ between, (v, ((label, refl), subst (λ (w : State). AreTwins m n w v) (sym state) twins)))

  act_goes : (p : MainPlace) (o : MainOpDef) (l : Label) (u : State) (one other : MainProgress) → MainAlike s.core.queues.switch q one other → MainProgresses s p o one l u →
      Goes m n l u (λ v. MainProgresses twin p o other l v)
  act_goes p o l u (Does j a) (Does k b) alike is =
      let both : label.Main j ≡ label.Main k = ap (λ (i : MainLabel). label.Main i) alike.0 in
      steps l (label.Main k) u (at_turn s a (Scripted (advanced_main o j p)) turn.Main) (at_turn twin b (Scripted (advanced_main o k p)) turn.Main) (is.0 ∙ both) is.1 refl
      (next_twins (Scripted (advanced_main o j p)) (Scripted (advanced_main o k p)) (ap (λ (i : MainLabel). Scripted (advanced_main o i p)) alike.0) a b alike.1 turn.Main refl)
  act_goes p o l u Pends Pends alike is =
      steps l (label.Loop loop_label.MainPends) u (goes_to s s.core (turn.Futures 0)) (goes_to twin twin.core (turn.Futures 0)) is.0 is.1 refl (next_twins s.main s.main refl s.core twin.core here (turn.Futures 0) refl)
  act_goes p o l u (Answers v) (Answers w) alike is =
      let both : label.Main (main_label.Answer v) ≡ label.Main (main_label.Answer w) = ap (λ (i : ℕ). label.Main (main_label.Answer i)) alike in
      steps l (label.Main (main_label.Answer w)) u (goes_to s s.core turn.Over) (goes_to twin twin.core turn.Over) (is.0 ∙ both) is.1 refl (next_twins s.main s.main refl s.core twin.core here turn.Over refl)
  act_goes p o l u (Does j a) Pends alike is = absurd alike
  act_goes p o l u (Does j a) (Answers w) alike is = absurd alike
  act_goes p o l u Pends (Does k b) alike is = absurd alike
  act_goes p o l u Pends (Answers w) alike is = absurd alike
  act_goes p o l u (Answers v) (Does k b) alike is = absurd alike
  act_goes p o l u (Answers v) Pends alike is = absurd alike

  script_goes : (p : MainPlace) (o : Option MainOpDef) (l : Label) (u : State) → ScriptStep x s p o l u → Goes m n l u (λ v. ScriptStep x twin p o l v)
  script_goes p None l u is =
      steps l (label.Loop loop_label.MainPends) u (goes_to s s.core (turn.Futures 0)) (goes_to twin twin.core (turn.Futures 0)) is.0 is.1 refl (next_twins s.main s.main refl s.core twin.core here (turn.Futures 0) refl)
  script_goes p (Some o) l u is = act_goes p o l u _ _ (main_alike s.core ts cs q alike x.component (line_of p o) (act_of p o)) is

  main_goes : (p : Main) → IsScripted p → (l : Label) (u : State) → MainStep x s p l u → Goes m n l u (λ v. MainStep x twin p l v)
  main_goes (Scripted p) scripted l u is = script_goes p (op_at x.script p) l u is
  main_goes Unscripted scripted l u is = absurd scripted

  poll_goes : (i : ℕ) (p : Poll) (l : Label) (u : State) → PolledBy s i p l u → Goes m n l u (λ v. PolledBy twin i p l v)
  poll_goes i (StillPends host) l u is =
      steps l (label.Loop (loop_label.FuturePends i)) u _ _ is.0 is.1 refl
      (next_twins s.main s.main refl (poll_pends i host s.core) (poll_pends i host twin.core) (pends_alike s.core ts cs q alike i host) (turn.Futures i) refl)
  poll_goes i (Ends v) l u is =
      steps l (label.Loop (loop_label.FutureEnds i)) u _ _ is.0 is.1 refl
      (next_twins s.main s.main refl (poll_ends i v s.core) (poll_ends i v twin.core) (ends_alike s.core ts cs q alike i v) (turn.Take true) refl)
  poll_goes i FailsNow l u is =
      steps l (label.Loop (loop_label.FutureFails i)) u _ _ is.0 is.1 refl (next_twins s.main s.main refl _ _ (fails_alike s.core ts cs q alike) turn.Over refl)
  poll_goes i (Asked next) l u is = absurd is

  futures_go : (o : Option ℕ) (l : Label) (u : State) → FutureBy s o l u → Goes m n l u (λ v. FutureBy twin o l v)
  unfolding poll_of
  futures_go None l u is = absurd is
  futures_go (Some i) l u is = poll_goes i (poll_of i s.core) l u is

  next_is : next_entry s.core ≡ Some (mark.Switch, entry.Thread m)
  unfolding next_entry
  next_is = ap (λ (o : Option ℕ). or_high o s.core.queues.high s.core.queues.low) at

  take_goes : (l : Label) (u : State) → TakenBy x c s (next_entry s.core) l u → named_in l ≡ Some m
  take_goes l u is =
      let base = popped mark.Switch s.core in
      named_by c s base m (take_rule mark.Switch (shown c) base (entry.Thread m)) (taken_names m (shown c) base (place_of m base)) l u
      (subst (λ (e : Option (Mark × Entry)). TakenBy x c s e l u) next_is is)

  turn_goes : IsScripted s.main → (t : Turn) → runs_thread t ≡ false → (l : Label) (u : State) → TurnBy x c s t l u → Goes m n l u (λ v. TurnBy x c twin t l v)
  unfolding next_polled
  turn_goes scripted turn.Main waits l u is = main_goes s.main scripted l u is
  turn_goes scripted (turn.Futures k) waits l u is = futures_go (next_polled k s.core) l u is
  turn_goes scripted (turn.Take ended) waits l u is = inl (take_goes l u is)
  turn_goes scripted (turn.Run k) waits l u is = absurd (cc)
  turn_goes scripted turn.Over waits l u is = absurd is

  step_goes : IsScripted s.main → runs_thread s.turn ≡ false → (l : Label) (u : State) → StepBy x c s l u → Goes m n l u (λ v. StepBy x c twin l v)
  unfolding StepBy
  step_goes scripted waits l u is = turn_goes scripted s.turn waits l u is

-- ---- The laws

same_state : (s t : State) (core : Core) → t.core ≡ core → s.main ≡ t.main → s.turn ≡ t.turn → t ≡ record { core = core; main = s.main; turn = s.turn }
same_state s t core e main turn =
    ap (λ (a : Core). record { core = a; main = t.main; turn = t.turn }) e
    ∙ (ap (λ (p : Main). record { core = core; main = p; turn = t.turn }) (sym main)
    ∙ ap (λ (q : Turn). record { core = core; main = s.main; turn = q }) (sym turn))

goes_on : (x : Setting) (m n : ℕ) (s t : State) → IsScripted s.main → AreTwins m n s t → (c : Chosen) (l : Label) (u : State) → StepBy x c s l u → Goes m n l u (λ v. StepBy x c t l v)
goes_on x m n s t scripted twins c l u step =
    let a = t.core in
    let same = same_state s t (with_threads a.threads a.callers a.queues.switch s.core) twins.core.rest twins.main twins.turn in
    subst (λ (r : State). Goes m n l u (λ v. StepBy x c r l v)) (sym same)
    (step_goes x m n c s a.threads a.callers a.queues.switch twins.first.at twins.second.at twins.core.threads scripted twins.first.waits l u step)

never_between : (l : Label) (m : ℕ) → is_between l ≡ true → named_in l ≡ Some m → ⊥
never_between l m between named = absurd (let none = between_unnamed l between in let bad = sym named ∙ none in cc)

same_offer : (x : Setting) (m n : ℕ) (s t : State) → AreTwins m n s t → (c : Chosen) (l : Label) (u : State) → StepBy x c s l u → is_between l ≡ true → offer x t ≡ offer x s
unfolding StepBy
same_offer x m n s t twins c l u step between = ap (λ (q : Turn). turn_offer x t.core q) (sym twins.turn) ∙ by s.turn twins.first.waits step
  where
    by : (q : Turn) → runs_thread q ≡ false → TurnBy x c s q l u → turn_offer x t.core q ≡ turn_offer x s.core q
    by turn.Main waits is = refl
    by (turn.Futures k) waits is = refl
    by turn.Over waits is = refl
    by (turn.Run k) waits is = absurd (cc)
    by (turn.Take ended) waits is =
        absurd (never_between l m between (take_goes x m n c s t.core.threads t.core.callers t.core.queues.switch twins.first.at twins.second.at twins.core.threads l u is))

pub twins_go_on : TwinsGoOn
unfolding TwinsGoOn
twins_go_on x m n s t scripted twins c l u step between =
    ⊎_elim (λ named. absurd (never_between l m between named))
    (λ on. record { to = on.1.0; offered = same_offer x m n s t twins c l u step between; step = on.1.1.0; twins = on.1.1.1 })
    (goes_on x m n s t scripted twins c l u step)

pub next_is_named : NextIsNamed
unfolding NextIsNamed
next_is_named x m s scripted next c l t step =
    ⊎_elim (λ named. inl named) (λ on. inr (on.0, on.1.1.1.first))
    (goes_on x m m s s scripted (record { first = next; second = next; main = refl; turn = refl; core = record { rest = refl; threads = alike_same s.core.threads } }) c l t step)

none_left : (a b c : Bool) → a ≡ false → (b && (a && c)) ≡ false
none_left a true c e = ap (λ (d : Bool). d && c) e
none_left a false c e = refl

none_then : (a b : Bool) → a ≡ false → (a && b) ≡ false
none_then a b e = ap (λ (d : Bool). d && b) e

pub next_is_busy : NextIsBusy
unfolding NextIsBusy is_at_rest is_stalled is_idle next_entry
next_is_busy x m s next =
    let some : queues_are_empty s.core ≡ false = ap (λ (o : Option ℕ). is_none (or_high o s.core.queues.high s.core.queues.low)) next.at in
    none_then _ _ (none_then _ _ (none_left (queues_are_empty s.core) (waits_for_entry x s) (works_rest s.core) some))
