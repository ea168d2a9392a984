-- An op that is given, and not read off the thread's script, keeps order.
use Rattle.machine_rules.specs.Chains.{HostRulesAreWalks, RulesAreWalks, WalkedAs}
use Rattle.laws_states.specs.Order.{FitsAs, has_one_on_top, InOrder, InOrderAs, ThreadFits, is_open}
use Rattle.machine_data.specs.declared.label.Label.{Label}
use Rattle.machine_rules.specs.Stalled.{Setting}
use Rattle.machine_data.specs.declared.records.OpProgress.{OpProgress}
use Rattle.std.proofs.Common.{ap, arith, refl, subst, sym, ◌∙◌}
use Rattle.std.specs.Prelude.{Bool, Option, Some, false, if◌then◌else◌, is_some, length, option_map, true, ℕ, ◌+◌, ◌==◌, ◌≡◌, ◌≤◌}
use Rattle.machine_rules.specs.Finish.{Doer, SomeHost}
use Rattle.machine_rules.specs.OpParts.{can_come, ends_activation, is_data_op, is_sync_call}
use Rattle.machine_rules.proofs.WalkSteps.{host_rules_walk, rules_walk}
use Rattle.machine_data.specs.declared.records.Turn.TheVariants as turn
use Rattle.laws_order.proofs.PieceLemmas.{walk_instances}
use Rattle.laws_order.proofs.StayLemmas.{with_ops}
use Rattle.laws_order.specs.Given.{GivenDone, GivenKeeps, GivenSteps, HostKeeps, HostSteps, SameSteps, given}
use Rattle.laws_order.specs.Pieces.{SameInstances}
use Rattle.std.proofs.lemmas.Bool.Decides.{nat_tests}
use Rattle.laws_states.proofs.CallsSteps.{CodesAt}
use Rattle.laws_states.proofs.FitLemmas.{SameOp}
use Rattle.machine_data.specs.Core.{Core, State}
use Rattle.machine_data.specs.Labels.{choice_of}
use Rattle.machine_data.specs.Maps.{get}
use Rattle.machine_data.specs.Read.{callee_of, op_progress_of, place_of, position_of}
use Rattle.machine_data.specs.declared.component.Component.{Component}
use Rattle.machine_data.specs.declared.op.Op.{Op}
use Rattle.machine_data.specs.declared.records.OpProgress.TheVariants as op_progress
use Rattle.machine_data.specs.declared.records.Place.{Place}
use Rattle.machine_data.specs.declared.records.Place.TheVariants as place
use Rattle.machine_data.specs.declared.records.Thread.{Thread}
use Rattle.machine_data.specs.declared.records.Turn.{Turn}
use Rattle.laws_places.proofs.OrderLemmas.{at_places, calls_kept, same_callee, step_as}
use Rattle.machine_rules.proofs.LawLemmas.{walk_steady}
use Rattle.machine_rules.specs.Scenes.{runner_at}
use Rattle.machine_rules.specs.Scripts.{op_of, ops_of, script_of}
use Rattle.machine_rules.specs.Step.{Progresses, Step, StepAs, TurnStep, TurnStepAs, did, scripted_op_rule, op_rule, own_script}

pub own : (n : ℕ) (o : Op) (ops : ℕ → Op) → given n o ops n ≡ o
own n o ops = grind (arith, nat_tests)

-- where no op of the thread is under way, and none is on top of it, it may have any op
pub any_op : (c : Component) (n : ℕ) (o : Op) (ops : ℕ → Op) (s : Core) (p : Place) → op_progress_of n s ≡ op_progress.Fresh → place_of n s ≡ Some p → has_one_on_top p ≡ false → FitsAs ops c s → FitsAs (given n o ops) c s
any_op c n o ops s p fresh at alone fits m t is = by (m == n) refl
  where
    by : (b : Bool) → (m == n) ≡ b → ThreadFits c s (if b then o else ops m) t
    by true own = let f = fits m t is in let far : t.op_progress ≡ op_progress.Fresh = grind (arith, nat_tests, own, is, fresh) in let here : t.place ≡ p = grind (arith, nat_tests, own, is, at) in
        record { script = f.script; position = f.position; op = rw far refl; under = λ d. absurd (let e = sym d ∙ (ap has_one_on_top here ∙ alone) in cc); first = f.first }
    by false own = fits m t is

-- so it may have one that may come as far as its own
pub as_far : (c : Component) (n : ℕ) (o now : Op) (ops : ℕ → Op) (s : Core) → ((f : OpProgress) → can_come o f ≡ true → can_come now f ≡ true) → (is_sync_call o ≡ true → is_sync_call now ≡ true) →
    FitsAs (given n o ops) c s → FitsAs (given n now ops) c s
as_far c n o now ops s far sync fits m t is = by (m == n) (fits m t is)
  where
    by : (b : Bool) → ThreadFits c s (if b then o else ops m) t → ThreadFits c s (if b then now else ops m) t
    by true f = record { script = f.script; position = f.position; op = far t.op_progress f.op; under = λ d. sync (f.under d); first = f.first }
    by false f = f

-- and back
own_op : (c : Component) (n : ℕ) (o : Op) (ops : ℕ → Op) (s : Core) → op_progress_of n s ≡ op_progress.Fresh → place_of n s ≡ Some place.Running → FitsAs (given n o ops) c s → FitsAs ops c s
own_op c n o ops s fresh runs fits m t at = by (m == n) refl (fits m t at)
  where
    by : (b : Bool) → (m == n) ≡ b → ThreadFits c s (if b then o else ops m) t → ThreadFits c s (ops m) t
    by true is f = let far : t.op_progress ≡ op_progress.Fresh = grind (arith, nat_tests, is, at, fresh) in let run : t.place ≡ place.Running = grind (arith, nat_tests, is, at, runs) in
        record { script = f.script; position = f.position; op = rw far refl; under = λ d. absurd (grind (arith, run, d)); first = f.first }
    by false is f = f

turn_same : (x : Setting) (s : State) (u : Turn) (l : Label) (t : State) → (TurnStep x s u l t → TurnStepAs own_script (ops_of x.component s.core) x s u l t) × (TurnStepAs own_script (ops_of x.component s.core) x s u l t → TurnStep x s u l t)
unfolding did
turn_same x s (turn.Run n) l t = (λ h. h, λ h. h)
turn_same x s u l t = (λ h. h, λ h. h)

pub same_steps : SameSteps
unfolding SameSteps Step StepAs
same_steps x s l t = turn_same x s s.turn l t

pub given_done : GivenDone
unfolding GivenDone
given_done x o n t at fresh h = with_ops h (own_op x.component n o (ops_of x.component t.core) t.core fresh (h.in_place.runs n at) h.fits)

-- A walk of the op that the running thread has keeps order, in which it has the same op or another one, where it is at another place.
walk_keeps : (by_whom : Op → Doer) (x : Setting) (o now : Op) (n : ℕ) (s t : State) (l : Label) → s.turn ≡ turn.Run n → ends_activation o ≡ false →
    InOrderAs (given n o (ops_of x.component s.core)) x.component s →
    StepAs by_whom (given n o (ops_of x.component s.core)) x s l t → WalkedAs (given n o (ops_of x.component s.core)) x s l t →
    ((r b : Thread) → get t.core.threads n ≡ Some r → get s.core.threads n ≡ Some b → SameOp r b → now ≡ o) → InOrderAs (given n now (ops_of x.component t.core)) x.component t
walk_keeps by_whom x o now n s t l at plain h step w same =
    let ops = given n o (ops_of x.component s.core) in
    let codes : CodesAt ops x s = record { all = h.codes; here = codes_here } in
    let steady = walk_steady w.walk in
    let going : is_open s.turn ≡ true = ap is_open at in
    let places = at_places x s t steady h.numbered h.calls_there (calls_kept x s l t h w codes) in
    step_as by_whom (given n now (ops_of x.component t.core)) x s l t going h step w codes (stays places) steady
  where
    codes_here : (m : ℕ) → runner_at s.turn s.core ≡ Some m → ends_activation (given n o (ops_of x.component s.core) m) ≡ true → ends_activation (op_of x.component m s.core) ≡ true
    codes_here m is = by (m == n)
      where
        by : (b : Bool) → ends_activation (if b then o else op_of x.component m s.core) ≡ true → ends_activation (op_of x.component m s.core) ≡ true
        by true e = absurd (let p = plain in cc)
        by false e = e

    stays : ((m : ℕ) (r b : Thread) → get t.core.threads m ≡ Some r → get s.core.threads m ≡ Some b → SameOp r b → op_of x.component m t.core ≡ op_of x.component m s.core) →
        (m : ℕ) (r b : Thread) → get t.core.threads m ≡ Some r → get s.core.threads m ≡ Some b → SameOp r b → given n now (ops_of x.component t.core) m ≡ given n o (ops_of x.component s.core) m
    stays places m r b here was is = by (m == n) refl
      where
        by : (d : Bool) → (m == n) ≡ d → (if d then now else op_of x.component m t.core) ≡ (if d then o else op_of x.component m s.core)
        by true e =
            let own : m ≡ n = grind (arith, nat_tests, e) in
            same r b (subst (λ (k : ℕ). get t.core.threads k ≡ Some r) own here) (subst (λ (k : ℕ). get s.core.threads k ≡ Some b) own was) is
        by false e = places m r b here was is

-- the rule of the op that the thread has, whoever has it done
module _ (by_whom : Op → Doer) (x : Setting) (o : Op) (n : ℕ) (s t : State) (l : Label) (at : s.turn ≡ turn.Run n) (plain : ends_activation o ≡ false)
    (h : InOrderAs (given n o (ops_of x.component s.core)) x.component s)
    (row : Progresses s s.core n (op_rule (by_whom o) x.component n s.core (choice_of l) o) l t) (walked : WalkedAs (given n o (ops_of x.component s.core)) x s l t) where
  pub rule_keeps : (now : Op) → ((r b : Thread) → get t.core.threads n ≡ Some r → get s.core.threads n ≡ Some b → SameOp r b → now ≡ o) → InOrderAs (given n now (ops_of x.component t.core)) x.component t
  unfolding StepAs
  rule_keeps now same =
      let ops = given n o (ops_of x.component s.core) in
      let has = own n o (ops_of x.component s.core) in
      let step : TurnStepAs by_whom ops x s s.turn l t = subst (λ (u : Turn). TurnStepAs by_whom ops x s u l t) (sym at) (subst (λ (p : Op). Progresses s s.core n (op_rule (by_whom p) x.component n s.core (choice_of l) p) l t) (sym has) row) in
      walk_keeps by_whom x o now n s t l at plain h step walked same

  -- where the thread has left its place, each has the op at its place then
  pub given_leaves : ((r b : Thread) → get t.core.threads n ≡ Some r → get s.core.threads n ≡ Some b → SameOp r b → ⊥) → InOrder x.component t
  given_leaves left = let after = rule_keeps (op_of x.component n t.core) (λ r b here was is. absurd (left r b here was is)) in
      with_ops after (λ m r here. subst (λ (o : Op). ThreadFits x.component t.core o r) (by m (m == n) refl) (after.fits m r here))
    where
      by : (m : ℕ) (d : Bool) → (m == n) ≡ d → (if d then op_of x.component n t.core else op_of x.component m t.core) ≡ op_of x.component m t.core
      by m true e = let own : m ≡ n = grind (arith, nat_tests, e) in ap (λ (k : ℕ). op_of x.component k t.core) (sym own)
      by m false e = refl

  pub same_instances : SameInstances s.core t.core
  same_instances = walk_instances walked.walk

  -- where it is at the same place of the same script, that is of the same export, and has the same op there
  pub same_place : (r b : Thread) → get t.core.threads n ≡ Some r → get s.core.threads n ≡ Some b → SameOp r b →
      (callee_of r.call t.core ≡ callee_of b.call s.core) × (op_of x.component n t.core ≡ op_of x.component n s.core)
  same_place r b here was is =
      let steady = walk_steady walked.walk in
      let after = (rule_keeps o (λ r b here was is. refl)).calls_there in (
        same_callee s.core t.core steady h.numbered r.call
            (subst (λ (k : ℕ). is_some (get s.core.calls k) ≡ true) (sym is.0) (h.calls_there n b.call (ap (λ (q : Option Thread). option_map (λ (z : Thread). z.call) q) was)))
            (after n r.call (ap (λ (q : Option Thread). option_map (λ (z : Thread). z.call) q) here)) ∙ ap (λ (k : ℕ). callee_of k s.core) is.0,
        at_places x s t steady h.numbered h.calls_there after n r b here was is,
      )

-- as its script has it done, that isn't at its end
pub script_walk : (x : Setting) (o : Op) (n : ℕ) (s t : State) (l : Label) → s.turn ≡ turn.Run n → position_of n s.core + 1 ≤ length (script_of x.component n s.core) →
    Progresses s s.core n (scripted_op_rule x.component n s.core (choice_of l) o) l t → WalkedAs (given n o (ops_of x.component s.core)) x s l t
unfolding RulesAreWalks
script_walk x o n s t l at within row = rules_walk (given n o (ops_of x.component s.core)) x s n l o t at (own n o (ops_of x.component s.core)) (λ e. within) row

-- as a host has it done
pub host_walk : (x : Setting) (o : Op) (n : ℕ) (s t : State) (l : Label) → s.turn ≡ turn.Run n → is_data_op o ≡ false →
    Progresses s s.core n (op_rule SomeHost x.component n s.core (choice_of l) o) l t → WalkedAs (given n o (ops_of x.component s.core)) x s l t
unfolding HostRulesAreWalks
host_walk x o n s t l at other row = host_rules_walk (given n o (ops_of x.component s.core)) x s n l o t at (own n o (ops_of x.component s.core)) other row

-- it has the op
begins : (x : Setting) (o : Op) (n : ℕ) (s : State) → s.turn ≡ turn.Run n → op_progress_of n s.core ≡ op_progress.Fresh → InOrder x.component s → InOrderAs (given n o (ops_of x.component s.core)) x.component s
begins x o n s at fresh h = with_ops h (any_op x.component n o (ops_of x.component s.core) s.core place.Running fresh (h.in_place.runs n at) refl h.fits)

pub given_steps : GivenSteps
unfolding GivenSteps
given_steps x o n s t l at plain within h row = rule_keeps own_script x o n s t l at plain h row (script_walk x o n s t l at within row) o (λ r b here was is. refl)

pub given_keeps : GivenKeeps
unfolding GivenKeeps
given_keeps x o n s t l at plain fresh within h row =
    rule_keeps own_script x o n s t l at plain (begins x o n s at fresh h) row (script_walk x o n s t l at within row) o (λ r b here was is. refl)

pub host_steps : HostSteps
unfolding HostSteps
host_steps x o n s t l at plain other h row = rule_keeps (λ k. SomeHost) x o n s t l at plain h row (host_walk x o n s t l at other row) o (λ r b here was is. refl)

pub host_keeps : HostKeeps
unfolding HostKeeps
host_keeps x o n s t l at plain other fresh h row =
    rule_keeps (λ k. SomeHost) x o n s t l at plain (begins x o n s at fresh h) row (host_walk x o n s t l at other row) o (λ r b here was is. refl)
