-- Runs by arrival, and what their lines tell.
use Rattle.laws_choices.proofs.LineLemmas.{line_tells_choice}
use Rattle.laws_choices.proofs.RunLemmas.{is_step}
use Rattle.laws_choices.proofs.StepLemmas.{made_is_step, stays_scripted, step_determined}
use Rattle.laws_choices.specs.Lines.{LineTellsChoice}
use Rattle.laws_choices.specs.Offer.{Chosen, shown}
use Rattle.laws_choices.specs.Steps.{IsScripted, MadeIsStep, NothingOpen, StepBy, StepDetermined, hides_in, told}
use Rattle.laws_picks.specs.Arrival.{AreNarrow, ArrivalIsRun, IsByArrival, LinesTellRun, RunByArrival, held_after}
use Rattle.laws_places.proofs.OrderLemmas.{step_in_order}
use Rattle.laws_states.proofs.SettledLemmas.{settled_stays}
use Rattle.laws_states.specs.Order.{InOrder}
use Rattle.laws_states.specs.Settled.{IsSettled, NoneOpen, SettledStays}
use Rattle.machine_rules.proofs.Machine.{Choice, HasOpen, Label, List, Option, Run, Setting, State, Step, [], ap, choice_of, map, refl, subst, sym, ℕ, ◌∙◌, ◌∷◌, ◌≡◌, Bool, false, true}
use Rattle.machine_rules.proofs.WalkSteps.{step_walks}
use Rattle.machine_rules.specs.Scripts.{ops_of}
use Rattle.machine_rules.specs.Texts.{label_text}
use Rattle.std.proofs.Common.{ap₂}

arrives : (x : Setting) (order : List ℕ) (s : State) → (HasOpen x.component → ⊥) → InOrder x.component s → (ls : List Label) (t : State) → RunByArrival x order s ls t → Run x s ls t
arrives x order s hosts in_turn [] t h = h
arrives x order s hosts in_turn (l ∷ ls) t h =
    let c = h.0 in let m = h.1.0 in
    let step = is_step x s hosts in_turn c h.1.1.0.fits l m h.1.1.1.0 in
    (m, (step, arrives x (held_after l order) m hosts (step_in_order x s l m in_turn step) ls t h.1.1.1.1))

pub arrival_is_run : ArrivalIsRun
unfolding ArrivalIsRun
arrival_is_run = arrives

-- ---- What the lines tell

settled_step : (x : Setting) (s : State) (l : Label) (t : State) → IsSettled x.component s.main → NoneOpen s.core → Step x s l t → NoneOpen t.core × IsSettled x.component t.main
unfolding SettledStays
settled_step x s l t settled none step = settled_stays (ops_of x.component s.core) x s l t settled (step_walks x s l t step) none

first_line : (a b : List ℕ) (more others : List (List ℕ)) → a ∷ more ≡ b ∷ others → (a ≡ b) × (more ≡ others)
first_line a b more others is = (cc, cc)

module _ (x : Setting) (s : State) (closed : NothingOpen x s) (in_turn : InOrder x.component s) (order : List ℕ) (l k : Label) (m n : State) (c d : Chosen) (by_c : IsByArrival x order s c) (by_d : IsByArrival x order s d) (makes_c : StepBy x c s l m) (makes_d : StepBy x d s k n) where
  same_choice : AreNarrow (l ∷ []) → AreNarrow (k ∷ []) → label_text l ≡ label_text k → c ≡ d
  unfolding MadeIsStep LineTellsChoice
  same_choice narrow_l narrow_k line =
      let one = made_is_step x s closed.hosts in_turn.waits c by_c.fits l m makes_c in
      let two = made_is_step x s closed.hosts in_turn.waits d by_d.fits k n makes_d in
      let alike : choice_of l ≡ choice_of k = line_tells_choice x s closed in_turn.waits l k m n one.0 two.0 narrow_l.0 narrow_k.0 line in
      let release : c.release ≡ d.release = by_c.release ∙ sym by_d.release in
      by (hides_in x s s.turn) refl one.1.shows two.1.shows alike release
    where
      whole : c.waiter ≡ d.waiter → c.member ≡ d.member → c.release ≡ d.release → c ≡ d
      whole waiter member release =
          ap (λ (w : Option ℕ). record { waiter = w; member = c.member; release = c.release }) waiter
          ∙ (ap (λ (h : Option ℕ). record { waiter = d.waiter; member = h; release = c.release }) member
          ∙ ap (λ (ns : List ℕ). record { waiter = d.waiter; member = d.member; release = ns }) release)

      by : (b : Bool) → hides_in x s s.turn ≡ b → choice_of l ≡ told b c → choice_of k ≡ told b d → choice_of l ≡ choice_of k → c.release ≡ d.release → c ≡ d
      by true hidden one two alike release =
          let p = by_c.cancel hidden in
          let q = by_d.cancel hidden in
          whole (p.0 ∙ sym q.0) (p.1 ∙ sym q.1) release
      by false clear one two alike release =
          let same : shown c ≡ shown d = sym one ∙ (alike ∙ two) in
          whole (ap (λ (ch : Choice). ch.woken) same) (ap (λ (ch : Choice). ch.member) same) release

tells : (x : Setting) (order : List ℕ) (s : State) → IsSettled x.component s.main → NoneOpen s.core → IsScripted s.main → InOrder x.component s → (ls ks : List Label) (t u : State) → AreNarrow ls → AreNarrow ks → RunByArrival x order s ls t → RunByArrival x order s ks u →
    map label_text ls ≡ map label_text ks → (ls ≡ ks) × (t ≡ u)
unfolding StepDetermined
tells x order s settled none scripted in_turn [] [] t u narrow_l narrow_k h i lines = (refl, h ∙ sym i)
tells x order s settled none scripted in_turn [] (k ∷ ks) t u narrow_l narrow_k h i lines = absurd (cc)
tells x order s settled none scripted in_turn (l ∷ ls) [] t u narrow_l narrow_k h i lines = absurd (cc)
tells x order s settled none scripted in_turn (l ∷ ls) (k ∷ ks) t u narrow_l narrow_k h i lines =
    let c = h.0 in let m = h.1.0 in let d = i.0 in let n = i.1.0 in
    let closed : NothingOpen x s = record { hosts = settled.hosts; works = none } in
    let line = first_line (label_text l) (label_text k) (map label_text ls) (map label_text ks) lines in
    let same : c ≡ d = same_choice x s closed in_turn order l k m n c d h.1.1.0 i.1.1.0 h.1.1.1.0 i.1.1.1.0 (narrow_l.0, tt) (narrow_k.0, tt) line.0 in
    let one = step_determined x s scripted d l k m n (subst (λ (b : Chosen). StepBy x b s l m) same h.1.1.1.0) i.1.1.1.0 in
    let step = is_step x s settled.hosts in_turn c h.1.1.0.fits l m h.1.1.1.0 in
    let on = settled_step x s l m settled none step in
    let more : RunByArrival x (held_after l order) m ks u = subst (λ (v : State). RunByArrival x (held_after l order) v ks u) (sym one.1) (subst (λ (j : Label). RunByArrival x (held_after j order) n ks u) (sym one.0) i.1.1.1.1) in
    let r = tells x (held_after l order) m on.1 on.0 (stays_scripted x s c l m scripted h.1.1.1.0) (step_in_order x s l m in_turn step) ls ks t u narrow_l.1 narrow_k.1 h.1.1.1.1 more line.1 in
    (ap₂ (λ (a : Label) (bs : List Label). a ∷ bs) one.0 r.0, r.1)

pub lines_tell_run : LinesTellRun
unfolding LinesTellRun
lines_tell_run = tells
