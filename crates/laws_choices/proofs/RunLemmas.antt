-- Runs and the lists of choices that make them.
use Rattle.laws_choices.proofs.OfferLemmas.{closed_has_one}
use Rattle.laws_choices.proofs.StepLemmas.{made_is_step, stays_scripted, step_chooses, step_determined}
use Rattle.laws_choices.specs.Offer.{Chosen, FitsOffer, Offer, is_open}
use Rattle.laws_choices.specs.Offers.{offer}
use Rattle.laws_choices.specs.Runs.{GoingHasNoOutcome, NextIs, RestUnseen, RunBy, RunByIsRun, RunDetermined, RunHasChoices}
use Rattle.laws_choices.specs.Steps.{IsChoiceOf, IsScripted, MadeIsStep, NothingOpen, StepBy, StepChooses, StepDetermined}
use Rattle.std.proofs.Common.{ap₂}
use Rattle.laws_states.proofs.SettledLemmas.{settled_stays}
use Rattle.laws_states.specs.Settled.{IsSettled, NoneOpen, SettledStays}
use Rattle.laws_states.specs.Order.{InOrder}
use Rattle.laws_places.proofs.OrderLemmas.{step_in_order}
use Rattle.machine_rules.proofs.LawLemmas.{step_ends, step_over}
use Rattle.machine_rules.proofs.WalkSteps.{step_walks}
use Rattle.machine_rules.specs.Scripts.{ops_of}
use Rattle.machine_rules.specs.Outcome.{is_at_rest, last_outcome, outcome_of}
use Rattle.machine_rules.proofs.Machine.{HasOpen, Bool, DeadlockStep, EmptyFor, Entry, Label, List, Mark, None, Option, Outcome, Run, Setting, Some, State, Step, TakeStep, Turn, TurnStep, [], ap, arith, false, has_moving_work, is_idle, is_none, is_stalled, is_unended_take, length, may_deadlock, nat_tests, next_entry, outcome_of_label, refl, subst, sym, true, ◌++◌, ◌+◌, ◌==◌, ◌∙◌, ◌∷◌, ◌≡◌}

-- ---- Runs

pub is_step : (x : Setting) (s : State) → (HasOpen x.component → ⊥) → InOrder x.component s → (c : Chosen) → FitsOffer c (offer x s) → (l : Label) (m : State) → StepBy x c s l m → Step x s l m
unfolding MadeIsStep
is_step x s settled order c fit l m makes = (made_is_step x s settled order.waits c fit l m makes).0

pub run_is : (x : Setting) (s : State) → (HasOpen x.component → ⊥) → InOrder x.component s → (cs : List Chosen) (ls : List Label) (t : State) (left : List Chosen) → RunBy x s cs ls t left → Run x s ls t
run_is x s settled order cs [] t left h = h.0
run_is x s settled order cs (l ∷ ls) t left h =
    let c = h.0 in let rest = h.1.0 in let m = h.1.1.0 in let takes = h.1.1.1.0 in let makes = h.1.1.1.1.0 in
    let step = (is_step x s settled order c takes.1 l m makes) in
    (m, (step, run_is x m settled (step_in_order x s l m order step) rest ls t left h.1.1.1.1.1))

pub run_by_is_run : RunByIsRun
unfolding RunByIsRun
run_by_is_run = run_is

chosen_for : (x : Setting) (s : State) → NothingOpen x s → InOrder x.component s → (l : Label) (t : State) → Step x s l t → (c : Chosen) × IsChoiceOf x s c l t
unfolding StepChooses
chosen_for x s closed order l t step = step_chooses x s closed order.waits l t step

settled_step : (x : Setting) (s : State) (l : Label) (t : State) → IsSettled x.component s.main → NoneOpen s.core → Step x s l t → NoneOpen t.core × IsSettled x.component t.main
unfolding SettledStays
settled_step x s l t settled none step = settled_stays (ops_of x.component s.core) x s l t settled (step_walks x s l t step) none

next_is : (o : Offer) (b : Bool) → is_open o ≡ b → (c : Chosen) → FitsOffer c o → (rest : List Chosen) → (cs : List Chosen) × NextIs b o cs c rest
next_is o true is c fit rest = (c ∷ rest, refl)
next_is o false is c fit rest = (rest, (closed_has_one o is c fit, refl))

pub has_choices : (x : Setting) (s : State) → IsSettled x.component s.main → NoneOpen s.core → InOrder x.component s → (ls : List Label) (t : State) → Run x s ls t → (cs : List Chosen) × RunBy x s cs ls t []
has_choices x s settled none order [] t h = ([], (h, refl))
has_choices x s settled none order (l ∷ ls) t h =
    let m = h.0 in let step = h.1.0 in
    let on = settled_step x s l m settled none step in
    let r = has_choices x m on.1 on.0 (step_in_order x s l m order step) ls t h.1.1 in
    let c = chosen_for x s (record { hosts = settled.hosts; works = none }) order l m step in
    let next = next_is (offer x s) (is_open (offer x s)) refl c.0 c.1.fits r.0 in
    (next.0, (c.0, (r.0, (m, ((next.1, c.1.fits), (c.1.makes, r.1))))))

pub run_has_choices : RunHasChoices
unfolding RunHasChoices
run_has_choices = has_choices

abbrev first_in : List Chosen → Chosen → Chosen
first_in [] z = z
first_in (a ∷ ds) z = a

abbrev after : List Chosen → List Chosen
after [] = []
after (a ∷ ds) = ds

pub next_one : (o : Offer) (b : Bool) (cs : List Chosen) (c d : Chosen) (rest more : List Chosen) → NextIs b o cs c rest → NextIs b o cs d more → (c ≡ d) × (rest ≡ more)
next_one o true cs c d rest more h k = (ap (λ (ds : List Chosen). first_in ds c) (sym h ∙ k), ap after (sym h ∙ k))
next_one o false cs c d rest more h k = (h.0 ∙ sym k.0, sym h.1 ∙ k.1)

pub one_step : (x : Setting) (s : State) → IsScripted s.main → (c d : Chosen) → c ≡ d → (l k : Label) (t u : State) → StepBy x c s l t → StepBy x d s k u → (l ≡ k) × (t ≡ u)
unfolding StepDetermined
one_step x s scripted c d e l k t u h i = step_determined x s scripted d l k t u (subst (λ b. StepBy x b s l t) e h) i

pub determined : (x : Setting) (s : State) → IsScripted s.main → (cs : List Chosen) (ls ks : List Label) (t u : State) (left over : List Chosen) →
    length ls ≡ length ks → RunBy x s cs ls t left → RunBy x s cs ks u over → (ls ≡ ks) × ((t ≡ u) × (left ≡ over))
determined x s scripted cs [] [] t u left over e h i = (refl, (h.0 ∙ sym i.0, h.1 ∙ sym i.1))
determined x s scripted cs [] (k ∷ ks) t u left over e h i = absurd (grind arith)
determined x s scripted cs (l ∷ ls) [] t u left over e h i = absurd (grind arith)
determined x s scripted cs (l ∷ ls) (k ∷ ks) t u left over e h i =
    let m = h.1.1.0 in let rest = h.1.0 in
    let next = next_one (offer x s) (is_open (offer x s)) cs h.0 i.0 rest i.1.0 h.1.1.1.0.0 i.1.1.1.0.0 in
    let one = one_step x s scripted h.0 i.0 next.0 l k m i.1.1.0 h.1.1.1.1.0 i.1.1.1.1.0 in
    let more = subst (λ (v : State). RunBy x v rest ks u over) (sym one.1) (subst (λ ds. RunBy x i.1.1.0 ds ks u over) (sym next.1) i.1.1.1.1.1) in
    let r = determined x m (stays_scripted x s h.0 l m scripted h.1.1.1.1.0) rest ls ks t u left over (omega (arith, e)) h.1.1.1.1.1 more in
    (ap₂ (λ (a : Label) (bs : List Label). a ∷ bs) one.0 r.0, r.1)

pub run_determined : RunDetermined
unfolding RunDetermined
run_determined = determined

next_more : (o : Offer) (b : Bool) (cs : List Chosen) (c : Chosen) (rest more : List Chosen) → NextIs b o cs c rest → NextIs b o (cs ++ more) c (rest ++ more)
next_more o true cs c rest more h = ap (λ ds. ds ++ more) h
next_more o false cs c rest more h = (h.0, ap (λ ds. ds ++ more) h.1)

unseen : (x : Setting) (s : State) (cs : List Chosen) (ls : List Label) (t : State) (left more : List Chosen) → RunBy x s cs ls t left → RunBy x s (cs ++ more) ls t (left ++ more)
unseen x s cs [] t left more h = (h.0, ap (λ ds. ds ++ more) h.1)
unseen x s cs (l ∷ ls) t left more h =
    let takes = h.1.1.1.0 in
    (h.0, (h.1.0 ++ more, (h.1.1.0, ((next_more (offer x s) (is_open (offer x s)) cs h.0 h.1.0 more takes.0, takes.1), (h.1.1.1.1.0, unseen x h.1.1.0 h.1.0 ls t left more h.1.1.1.1.1)))))

pub rest_unseen : RestUnseen
unfolding RestUnseen
rest_unseen = unseen

-- ---- Outcomes

module _ (x : Setting) (s : State) (l : Label) (t : State) where
  no_deadlock : (b : Bool) → b ≡ false → DeadlockStep s b l t → ⊥
  no_deadlock true e h = absurd (grind arith)
  no_deadlock false e h = h

  no_empty : (b : Bool) → b ≡ false → may_deadlock x s ≡ false → EmptyFor x s b l t → ⊥
  no_empty true e none h = absurd (grind arith)
  no_empty false e none h = no_deadlock (may_deadlock x s) none h

  no_take : (o : Option (Mark × Entry)) → is_none o ≡ true → has_moving_work s.core ≡ false → may_deadlock x s ≡ false → TakeStep x s o l t → ⊥
  no_take None e rests none h = no_empty (has_moving_work s.core) rests none h
  no_take (Some y) e rests none h = absurd (grind arith)

  no_turn : (p : Turn) → is_unended_take p ≡ true → is_none (next_entry s.core) ≡ true → has_moving_work s.core ≡ false → may_deadlock x s ≡ false →
      TurnStep x s p l t → ⊥
  no_turn (Turn.Take false) e stands rests none h = no_take (next_entry s.core) stands rests none h
  no_turn (Turn.Take true) e stands rests none h = absurd (grind arith)
  no_turn Turn.Main e stands rests none h = absurd (grind arith)
  no_turn (Turn.Futures n) e stands rests none h = absurd (grind arith)
  no_turn (Turn.Run n) e stands rests none h = absurd (grind arith)
  no_turn Turn.Over e stands rests none h = absurd (grind arith)

  at_rest_stops : is_at_rest x s ≡ true → Step x s l t → ⊥
  unfolding is_at_rest is_stalled is_idle may_deadlock Step
  at_rest_stops rest h = no_turn s.turn (grind arith) (grind arith) (grind arith) (grind arith) h

last_none : (x : Setting) (r s : State) (ls : List Label) (l : Label) (t : State) → Run x r ls s → Step x s l t → last_outcome ls ≡ None
last_none x r s [] l t run step = refl
last_none x r s (k ∷ []) l t run step = by (outcome_of_label k) refl
  where
    by : (o : Option Outcome) → outcome_of_label k ≡ o → outcome_of_label k ≡ None
    by None is = is
    by (Some o) is = absurd (step_over x s l t (ap (λ (u : State). u.turn) run.1.1 ∙ step_ends x r k run.0 run.1.0 o is) step)
last_none x r s (k ∷ j ∷ ls) l t run step = last_none x run.0 s (j ∷ ls) l t run.1.1 step

pub going_has_no_outcome : GoingHasNoOutcome
unfolding GoingHasNoOutcome outcome_of
going_has_no_outcome x r s ls l t steps short run step =
    let rest = no_rest (is_at_rest x s) refl in
    let last = last_none x r s ls l t run step in
    let few : (length ls == steps) ≡ false = grind (arith, nat_tests, short) in
    grind (arith, rest, last, few)
  where
    no_rest : (b : Bool) → is_at_rest x s ≡ b → b ≡ false
    no_rest false is = refl
    no_rest true is = absurd (at_rest_stops x s l t is step)
