-- What the loop tells of groups.
use Rattle.task_loop.specs.AnswersOk.{FewerGroups}
use Rattle.laws_labels.proofs.GroupLemmas.{group_stays}
use Rattle.laws_labels.proofs.ListLemmas.{finish_none}
use Rattle.laws_labels.proofs.DataGroups.{Mild, mild_group, mild_same}
use Rattle.laws_labels.proofs.RunTells.{data_runs_mild}
use Rattle.laws_labels.proofs.MainGroups.{mains_spare}
use Rattle.laws_labels.specs.Own.{is_main_turn}
use Rattle.laws_labels.specs.Tells.{is_start}
use Rattle.store_notices.proofs.RunLemmas.{other_turns_told, main_told}
use Rattle.store_notices.specs.Moves.{finishes, moved}
use Rattle.store_notices.specs.Runs.{AreGroupsBefore, moment, running_in}
use Rattle.store_notices.specs.declared.tells.GroupsBefore.{GroupsBefore}
use Rattle.std.proofs.Common.{ap, append-nil, arith, filter, length, not, refl, subst, sym, ⊎_elim, ◌∙◌, ◌≡◌, map}
use Rattle.std.proofs.lemmas.Bool.Decides.{nat_tests}
use Rattle.std.specs.Prelude.{Bool, List, None, Option, Result, Some, [], false, is_some, option_map, true, ℕ, ◌++◌, ◌∷◌, ◌+◌}
use Rattle.std.specs.Option.{option_map_or}
use Rattle.task_group.proofs.GroupLemmas.{told-none}
use Rattle.task_group.specs.Listeners.{Listeners, ToldListeners, errors_of}
use Rattle.ops_state.specs.declared.error.TaskError.{TaskError}
use Rattle.ops_calls.specs.HostOps.{turn_for, turn_in}
use Rattle.task_loop.specs.Told.{RunTold, TellsCall, TellsTurn, TurnTold, current_group, group_running, main_notices, runs_on, told_by, turn_of}
use Rattle.machine_data.specs.Core.{Core, Main, State, Unscripted}
use Rattle.machine_data.specs.Maps.{get}
use Rattle.machine_data.specs.Read.{thread_group}
use Rattle.machine_data.specs.declared.component.Component.{Component}
use Rattle.machine_data.specs.declared.label.Label.{Label}
use Rattle.machine_data.specs.declared.label.Label.TheVariants as label
use Rattle.machine_data.specs.declared.label.MainLabel.TheVariants as main_label
use Rattle.machine_data.specs.declared.records.Notice.{Notice}
use Rattle.machine_data.specs.declared.records.NoticeKind.TheVariants as notice
use Rattle.machine_data.specs.declared.records.Place.TheVariants as place
use Rattle.machine_data.specs.declared.records.Thread.{Thread}
use Rattle.machine_data.specs.declared.records.Turn.{Turn}
use Rattle.machine_data.specs.declared.records.Turn.TheVariants as turn
use Rattle.machine_data.specs.declared.scenario.MainOpDef.{MainOpDef}
use Rattle.machine_rules.proofs.LawLemmas.{steady}
use Rattle.machine_rules.specs.Laws.{Steady}
use Rattle.machine_rules.specs.Notices.{finish_notices, is_in, moment_notices, running_group, start_notices, told_of, work_notices}
use Rattle.machine_rules.specs.Picks.{Picks}
use Rattle.machine_rules.specs.Run.{Run}
use Rattle.machine_rules.specs.Stalled.{Setting}
use Rattle.machine_rules.specs.Step.{Step}
use Rattle.ops_turns.proofs.IdleLemmas.{makes_turns}
use Rattle.ops_turns.proofs.KeptLemmas.{core_in_order_after}
use Rattle.ops_turns.specs.Does.{label_of_step}
use Rattle.ops_turns.specs.Drive.{Computes}
use Rattle.ops_turns.specs.Main.{IsOpOfMain, Steps, main_setting}
use Rattle.ops_turns.specs.StepResult.{Added, IsInTrace}
use Rattle.ops_turns.specs.Turn.{IsFree, MakesStep, PendsIn, CoreInOrder, Turned, Turns, running_of, runs_in, setting_of, state_at}
use Rattle.ops_turns.specs.declared.made.MadeStep.{MadeStep}
use Rattle.ops_turns.specs.declared.made.StepResult.{StepResult}
use Rattle.ops_turns.specs.declared.mains.MainStep.{MainStep}
use Rattle.ops_turns.specs.declared.mains.MainStep.TheVariants as step
use Rattle.core_primitives.specs.Groups.{IsAsked, asked, ended_groups, if_tracked, tracked_group, CountsEnded}
use Rattle.core_primitives.specs.Preferences.{preference}
use Rattle.core_primitives.specs.StateView.{StateView, thread_number}

-- ---- Main's step

op_works : (l : Label) → IsOpOfMain l → (d : Core) → work_notices l d ≡ []
op_works (label.Main l) h d = refl
op_works _ h d = absurd h

module _ (c : Component) (ops : List MainOpDef) (m : Main) (s : Core) (n : Main) (t : Core) where
  step_works : (q : MainStep) → Steps c ops m s q n t → work_notices (label_of_step q) s ≡ []
  step_works (step.Did l) h = op_works l h.op s
  step_works step.Pends h = refl
  step_works (step.Answer v) h = refl

  step_starts : (q : MainStep) → Steps c ops m s q n t → start_notices (label_of_step q) t ++ finish_notices s.groups t.groups ≡ main_notices q s t
  step_starts (step.Did l) h = refl
  step_starts step.Pends h = ap (λ (k : Core). finish_notices s.groups k.groups) h.core ∙ finish_none s.groups
  step_starts (step.Answer v) h = ap (λ (k : Core). finish_notices s.groups k.groups) h.core ∙ finish_none s.groups

  -- what main tells are the notices of its step
  pub main_moment : (q : MainStep) → Steps c ops m s q n t → (l : Label) → l ≡ label_of_step q → (p : Turn) → running_group t p ≡ None → moment_notices (moment (state_at s m turn.Main) l (state_at t n p)) ≡ main_notices q s t
  main_moment q h l e p none =
      main_told (state_at s m turn.Main) l (state_at t n p) refl none (ap (λ k. work_notices k s) e ∙ step_works q h)
      ∙ (ap (λ k. start_notices k t ++ finish_notices s.groups t.groups) e ∙ step_starts q h)

-- no thread runs where none may
pub idle_at : (p : Turn) (d : Core) (o : Option ℕ) → o ≡ runs_in p → o ≡ None → running_group d p ≡ None
idle_at (turn.Run n) d o e none = let no : ◌≡◌ {A = Option ℕ} (Some n) None = sym e ∙ none in absurd (cc)
idle_at turn.Main d o e none = refl
idle_at (turn.Futures n) d o e none = refl
idle_at (turn.Take b) d o e none = refl
idle_at turn.Over d o e none = refl

-- nor is it of a group
pub idle_running : (t : StateView) (p : Turn) → running_of t ≡ runs_in p → running_of t ≡ None → group_running t p ≡ 0
idle_running t (turn.Run n) e none = let no : ◌≡◌ {A = Option ℕ} (Some n) None = sym e ∙ none in absurd (cc)
idle_running t turn.Main e none = refl
idle_running t (turn.Futures n) e none = refl
idle_running t (turn.Take b) e none = refl
idle_running t turn.Over e none = refl

-- the turn after a step whose label is in the trace
pub stands_turn : (q : StepResult) (before : List Label) (made : MadeStep) (after : List Label) → IsInTrace q before made after → made.turn ≡ turn_of q
stands_turn q before made after h = h.1

-- ---- A thread that runs on

running_thread : (o : Option Thread) → option_map (λ (t : Thread). t.place) o ≡ Some place.Running → (t : Thread) × (o ≡ Some t)
running_thread None e = absurd (cc)
running_thread (Some t) e = (t, refl)

some_is : {X : Type 0} (o : Option X) → is_some o ≡ true → (x : X) × (o ≡ Some x)
some_is None e = absurd (cc)
some_is (Some x) e = (x, refl)

-- stays in its group
pub stays_in : (c : Component) (n : ℕ) (s t : Core) → CoreInOrder c (turn.Run n) s → CoreInOrder c (turn.Run n) t → Steady s t → thread_group n t ≡ thread_group n s
stays_in c n s t before after r =
    let os = before.order Unscripted in
    let ot = after.order Unscripted in
    let a = running_thread (get s.threads n) (os.in_place.runs n refl) in
    let b = running_thread (get t.threads n) (ot.in_place.runs n refl) in
    let k = os.numbered.threads n a.0 a.1 in
    let call = some_is (get s.calls a.0.call) (os.calls_there n a.0.call (ap (option_map (λ (h : Thread). h.call)) a.1)) in
    let later = some_is (get t.calls b.0.call) (ot.calls_there n b.0.call (ap (option_map (λ (h : Thread). h.call)) b.1)) in
    group_stays s t n r a.0 a.1 k.number k.call b.0 b.1 call.0 call.1 later.0 later.1

-- the group of the thread that runs, by the turn
pub current_is : (t : StateView) (p : Turn) → running_of t ≡ runs_in p → current_group t ≡ group_running t p
current_is t (turn.Run n) e = ap (λ (o : Option ℕ). option_map_or (λ k. tracked_group k t) o 0) e
current_is t turn.Main e = ap (λ (o : Option ℕ). option_map_or (λ k. tracked_group k t) o 0) e
current_is t (turn.Futures n) e = ap (λ (o : Option ℕ). option_map_or (λ k. tracked_group k t) o 0) e
current_is t (turn.Take b) e = ap (λ (o : Option ℕ). option_map_or (λ k. tracked_group k t) o 0) e
current_is t turn.Over e = ap (λ (o : Option ℕ). option_map_or (λ k. tracked_group k t) o 0) e

-- none runs
pub idle_group : (t : StateView) → running_of t ≡ None → current_group t ≡ 0
idle_group t none = ap (λ (o : Option ℕ). option_map_or (λ k. tracked_group k t) o 0) none

-- ---- A core that was asked which groups have ended

-- the same thread runs
pub running_asked : (t : StateView) → running_of (asked t) ≡ running_of t
unfolding thread_number
running_asked t = refl

-- where none has ended it is as before
pub asked_same : (t : StateView) → IsAsked t → asked t ≡ t
asked_same t is = ap (λ (gs : List ℕ). record t { tags = record t.tags { tracked = gs } }) (sym is)

-- a step that was made was made
pub turns_asked : (x : Setting) (p : Turn) (m : Main) (s : StateView) (made : MadeStep) (n : Main) (t u : StateView) → u ≡ asked t → Turns x p m s made n t → Turns x p m s made n u
turns_asked x p m s made n t u is q = subst (λ (v : StateView). Turns x p m s made n v) (sym is) (record {
  step = q.step;
  picks = q.picks;
  running = running_asked t ∙ q.running;
  over = q.over;
  pends = q.pends;
})

pub makes_asked : (c : Component) (p : Turn) (s : StateView) (made : MadeStep) (t u : StateView) → u ≡ asked t → MakesStep c p s made t → MakesStep c p s made u
makes_asked c p s made t u is q = subst (λ (v : StateView). MakesStep c p s made v) (sym is) (record { step = q.step; picks = q.picks; running = running_asked t ∙ q.running; over = q.over })

-- what is told leaves the core as it is
pub told_core : {A : Type 0} (listens : Bool) (a : GroupsBefore) (answer r : Result A TaskError) (t u : StateView) (old new : Listeners) → TellsCall listens a answer r t u old new → u.core ≡ t.core
told_core listens a answer r t u old new told =
    ⊎_elim (λ h. ap (λ (v : StateView). v.core) h.told.asked)
    (λ h. ⊎_elim (λ q. ap (λ (v : StateView). v.core) q.same) (λ q. ap (λ (v : StateView). v.core) q.asked) h.told) told

-- and the thread that runs, and order
pub running_told : {A : Type 0} (listens : Bool) (a : GroupsBefore) (answer r : Result A TaskError) (t u : StateView) (old new : Listeners) → TellsCall listens a answer r t u old new → running_of u ≡ running_of t
running_told listens a answer r t u old new told =
    ⊎_elim (λ h. ap running_of h.told.asked ∙ running_asked t)
    (λ h. ⊎_elim (λ q. ap running_of q.same) (λ q. ap running_of q.asked ∙ running_asked t) h.told) told

pub in_turn_told : {A : Type 0} (listens : Bool) (a : GroupsBefore) (answer r : Result A TaskError) (c : Component) (t u : StateView) (old new : Listeners) → TellsCall listens a answer r t u old new →
    CoreInOrder c (turn_in t) t.core → CoreInOrder c (turn_in u) u.core
in_turn_told listens a answer r c t u old new told in_turn =
    subst (λ (o : Option ℕ). CoreInOrder c (turn_for o) u.core) (sym (running_told listens a answer r t u old new told))
    (subst (λ (d : Core). CoreInOrder c (turn_in t) d) (sym (told_core listens a answer r t u old new told)) in_turn)

-- ---- The groups before the step of a turn

-- the groups that a step tells of are those that were live
pub turn_notices : (x : Setting) (p : Turn) (main : is_main_turn p ≡ false) (m : Main) (s t : StateView) (a : GroupsBefore) (made : MadeStep) (n : Main) → AreGroupsBefore s.core p a → is_in s.core.groups 0 ≡ false →
    IsAsked s → t.tags.tracked ≡ s.tags.tracked → Turns x p m s made n t → told_by a t ≡ moment_notices (moment (state_at s.core m p) made.label (state_at t.core n made.turn))
turn_notices x p main m s t a made n is_asked positive is known q =
    let gs = s.core.groups in
    let same : t.tags.tracked ≡ gs = known ∙ is in
    ap (λ (r : ℕ). moved a r ++ finishes (ended_groups t)) (current_is t made.turn q.running)
    ∙ (ap (λ (ks : List ℕ). moved a (running_in ks t.core made.turn) ++ finishes (filter (λ g. not (is_in t.core.groups g)) ks)) same
    ∙ other_turns_told x (state_at s.core m p) made.label (state_at t.core n made.turn) a q.step main is_asked positive)

-- ---- A step in another turn than main's

length_told : (gs : List ℕ) → length (map (told_of notice.Finish) gs) ≡ length gs
length_told [] = refl
length_told (g ∷ gs) = let rest = length_told gs in omega (arith, rest)

-- those that have ended were live, where those that are known were
fewer_by : (s : Core) (t : StateView) → t.tags.tracked ≡ s.groups → CountsEnded t → FewerGroups s t.core
fewer_by s t known counted =
    let same : length (filter (λ g. not (is_in t.core.groups g)) s.groups) + length t.core.groups ≡ length s.groups =
    subst (λ (ks : List ℕ). length (filter (λ g. not (is_in t.core.groups g)) ks) + length t.core.groups ≡ length ks) known counted in
    let told = length_told (filter (λ g. not (is_in t.core.groups g)) s.groups) in
    omega (arith, same, told)

fewer_same : (s : Core) → FewerGroups s s
fewer_same s = let none = ap length (finish_none s.groups) in omega (arith, none)

module _ (x : Setting) (p : Turn) (main : is_main_turn p ≡ false) (m : Main) (s : StateView) (is : IsAsked s) (old : Listeners) (n : Main) (u : StateView) (new : Listeners)
    (told : TellsTurn s p u old new) where
  same_left : u.core ≡ told.left.core
  same_left = ap (λ (v : StateView). v.core) told.told.asked

  left_turns : (made : MadeStep) → Turns x p m s made n u → Turns x p m s made n told.left
  left_turns made q = record {
    step = subst (λ (d : Core). Step x (state_at s.core m p) made.label (state_at d n made.turn)) same_left q.step;
    picks = subst (λ (d : Core). Picks (preference s) x (state_at s.core m p) made.label (state_at d n made.turn)) same_left q.picks;
    running = sym (running_asked told.left) ∙ (sym (ap running_of told.told.asked) ∙ q.running);
    over = q.over;
    pends = subst (λ (d : Core). PendsIn x d n made.turn) same_left q.pends;
  }

  pub told_made : (made : MadeStep) → Turns x p m s made n u → errors_of new ≡ errors_of old → TurnTold x p m s old (Some made) n u new
  told_made made q hook_is_ok = record {
    turned = q;
    told = subst (λ (ns : List Notice). ToldListeners ns old new)
        (turn_notices x p main m s told.left told.asked made n told.is_asked told.positive is told.known (left_turns made q)
        ∙ sym (ap (λ (d : Core). moment_notices (moment (state_at s.core m p) made.label (state_at d n made.turn))) same_left)) told.told.told;
    hook_is_ok = λ unrefused. hook_is_ok;
    fewer = λ other. subst (λ (d : Core). FewerGroups s.core d) (sym same_left) (fewer_by s.core told.left (told.known ∙ is) told.counted);
  }

  pub other_told : (q : StepResult) (before after : List Label) → Added (λ made. Turns x p m s made n u) q before after → errors_of new ≡ errors_of old →
      Added (λ made. TurnTold x p m s old (Some made) n u new) q before after
  other_told q before after made hook_is_ok = (made.0, (made.1.0, told_made made.0 made.1.1 hook_is_ok))

-- ---- A step of the running thread

-- the same thread runs on
pub runs_same : (p q : Turn) → runs_on p q ≡ true → (n : ℕ) × ((p ≡ turn.Run n) × (q ≡ turn.Run n))
runs_same (turn.Run n) (turn.Run m) e = let same : n ≡ m = grind (arith, nat_tests, e) in (n, (refl, ap (λ k. turn.Run k) (sym same)))
runs_same (turn.Run n) turn.Main e = absurd (cc)
runs_same (turn.Run n) (turn.Futures k) e = absurd (cc)
runs_same (turn.Run n) (turn.Take b) e = absurd (cc)
runs_same (turn.Run n) turn.Over e = absurd (cc)
runs_same turn.Main q e = absurd (cc)
runs_same (turn.Futures k) q e = absurd (cc)
runs_same (turn.Take b) q e = absurd (cc)
runs_same turn.Over q e = absurd (cc)

-- is of the same group after the step
pub group_on : (x : Setting) (p q : Turn) (m n : Main) (s t : Core) (l : Label) → CoreInOrder x.component p s → Step x (state_at s m p) l (state_at t n q) → (gs : List ℕ) → runs_on p q ≡ true → running_in gs t q ≡ running_in gs s p
group_on x p q m n s t l in_turn step gs on =
    let same = runs_same p q on in
    let k = same.0 in
    let after = subst (λ (w : Turn). CoreInOrder x.component w t) same.1.1 (core_in_order_after x s t m n p q l in_turn step) in
    let before = subst (λ (w : Turn). CoreInOrder x.component w s) same.1.0 in_turn in
    ap (running_in gs t) same.1.1 ∙ (ap (if_tracked gs) (stays_in x.component k s t before after (steady x (state_at s m p) l (state_at t n q) step)) ∙ sym (ap (running_in gs s) same.1.0))

module _ (c : Component) (n : ℕ) (s t : StateView) (q : StepResult) (before after : List Label)
    (made : Added (λ made. MakesStep c (turn.Run n) s made t × IsFree made.turn) q before after) where
  pub run_turns : (x : Setting) → x.component ≡ c → (m : Main) → Turns x (turn.Run n) m s made.0 m t
  run_turns x is m =
      makes_turns x (turn.Run n) s made.0 t (subst (λ (k : Component). MakesStep k (turn.Run n) s made.0 t) (sym is) (made.1.1).0) m ((made.1.1).1 x t.core m)

  pub run_runs : running_of t ≡ runs_in (turn_of q)
  run_runs = ((made.1.1).0).running ∙ ap (λ (p : Turn). runs_in p) (stands_turn q before made.0 after made.1.0)

  -- one that runs on stays in its group
  pub run_stays : CoreInOrder c (turn.Run n) s.core → t.tags.tracked ≡ s.tags.tracked → running_of s ≡ Some n → runs_on (turn.Run n) (turn_of q) ≡ true → current_group t ≡ current_group s
  run_stays in_turn known runs on =
      let x = setting_of c [] false in
      let step = subst (λ (p : Turn). Step x (state_at s.core Unscripted (turn.Run n)) (made.0).label (state_at t.core Unscripted p))
      (stands_turn q before made.0 after made.1.0) (((made.1.1).0).step x refl Unscripted) in
      let same = runs_same (turn.Run n) (turn_of q) on in
      current_is t (turn_of q) run_runs
      ∙ (ap (λ (ks : List ℕ). running_in ks t.core (turn_of q)) known
      ∙ (group_on x (turn.Run n) (turn_of q) Unscripted Unscripted s.core t.core (made.0).label in_turn step s.tags.tracked on ∙ sym (current_is s (turn.Run n) runs)))

  module _ (is : IsAsked s) (old : Listeners) (new : Listeners) (told : TellsTurn s (turn.Run n) t old new) where
    pub run_told : errors_of new ≡ errors_of old → Added (λ made. RunTold c n s old made t new) q before after
    run_told hook_is_ok = (made.0, (made.1.0, λ x same m. told_made x (turn.Run n) refl m s is old m t new told made.0 (run_turns x same m) hook_is_ok))

-- the turn after such a step
pub turns_runs : (x : Setting) (p : Turn) (m : Main) (s : StateView) (n : Main) (t : StateView) (q : StepResult) (before after : List Label) → Added (λ made. Turns x p m s made n t) q before after → running_of t ≡ runs_in (turn_of q)
turns_runs x p m s n t q before after made = (made.1.1).running ∙ ap (λ (k : Turn). runs_in k) (stands_turn q before made.0 after made.1.0)

-- ---- Ops on registers and memory cells

none_left : (ls : List Label) → length ls ≡ 0 → ls ≡ []
none_left [] e = refl
none_left (l ∷ ls) e = absurd (omega (arith, e))

-- a turn in which no thread runs has none of them
pub nothing_computed : (c : Component) (p : Turn) (s : StateView) (mid : List Label) (added : ℕ) (t : StateView) (after : List Label) (k : ℕ) → Computes c p s mid added t after k → k ≡ added → (x : Setting) → x.component ≡ c → (m : Main) →
    (state_at t.core m p ≡ state_at s.core m p) × (after ≡ mid)
nothing_computed c p s mid added t after k q same x is m =
    let none = none_left q.labels (let e = q.count in omega (arith, e, same)) in (
      subst (λ (ls : List Label). Run x (state_at s.core m p) ls (state_at t.core m p)) none (q.run x is m),
      q.trace ∙ (ap (λ (ls : List Label). mid ++ ls) none ∙ append-nil mid),
    )

module _ (c : Component) (s : StateView) (mid : List Label) (added : ℕ) (t : StateView) (after : List Label) (k : ℕ) (x : Setting) (is : x.component ≡ c) where
  stays : (p : Turn) → Computes c p s mid added t after k → k ≡ added → Mild s.core t.core
  stays p q same =
      let e = nothing_computed c p s mid added t after k q same x is Unscripted in
      subst (λ (v : State). Mild s.core v.core) (sym e.0) (mild_same s.core)

  -- they leave the groups, and each thread in its own
  computed_mild : (p : Turn) → Computes c p s mid added t after k → (runs_in p ≡ None → k ≡ added) → Mild s.core t.core
  computed_mild (turn.Run n) q still = data_runs_mild x (state_at s.core Unscripted (turn.Run n)) q.labels (state_at t.core Unscripted (turn.Run n)) n (q.run x is Unscripted) refl q.computing
  computed_mild turn.Main q still = stays turn.Main q (still refl)
  computed_mild (turn.Futures n) q still = stays (turn.Futures n) q (still refl)
  computed_mild (turn.Take b) q still = stays (turn.Take b) q (still refl)
  computed_mild turn.Over q still = stays turn.Over q (still refl)

  pub group_computed : t.tags.tracked ≡ s.tags.tracked → (p : Turn) → Computes c p s mid added t after k → (runs_in p ≡ None → k ≡ added) → group_running t p ≡ group_running s p
  group_computed known p q still = ap (λ (ks : List ℕ). running_in ks t.core p) known ∙ by p q still
    where
      by : (p : Turn) → Computes c p s mid added t after k → (runs_in p ≡ None → k ≡ added) → running_in s.tags.tracked t.core p ≡ running_in s.tags.tracked s.core p
      by (turn.Run n) q still = ap (if_tracked s.tags.tracked) (mild_group (computed_mild (turn.Run n) q still) n)
      by turn.Main q still = refl
      by (turn.Futures n) q still = refl
      by (turn.Take b) q still = refl
      by turn.Over q still = refl

  pub groups_computed : (p : Turn) → Computes c p s mid added t after k → (runs_in p ≡ None → k ≡ added) → t.core.groups ≡ s.core.groups
  groups_computed p q still = (computed_mild p q still).groups

  pub asked_computed : t.tags.tracked ≡ s.tags.tracked → (p : Turn) → Computes c p s mid added t after k → (runs_in p ≡ None → k ≡ added) → IsAsked s → IsAsked t
  asked_computed known p q still is = known ∙ (is ∙ sym (computed_mild p q still).groups)

-- a turn in which nothing was made tells nothing
pub none_told : (x : Setting) (p : Turn) (m : Main) (s : StateView) (old : Listeners) (n : Main) (t : StateView) (new : Listeners) (before after : List Label) → new ≡ old →
    Turned x p m s None n t × (after ≡ before) → TurnTold x p m s old None n t new × (after ≡ before)
none_told x p m s old n t new before after same h = (
  record {
    turned = h.0;
    told = subst (λ (g : Listeners). ToldListeners [] old g) (sym same) (told-none old);
    hook_is_ok = ap errors_of same;
    fewer = λ other. subst (λ (d : Core). FewerGroups s.core d) (sym (ap (λ (v : StateView). v.core) h.0.1.1)) (fewer_same s.core);
  },
  h.1,
)

-- ---- Ops of main but its starts

no_start : (l : Label) (t : Core) → is_start l ≡ false → start_notices l t ≡ []
no_start (label.Main (main_label.Start k n)) t e = absurd (cc)
no_start (label.Main l) t e = refl
no_start _ t e = refl

module _ (c : Component) (ops : List MainOpDef) (m : Main) (s : Core) (n : Main) (t : Core) where
  kept_groups : (q : MainStep) → Steps c ops m s q n t → is_start (label_of_step q) ≡ false → t.groups ≡ s.groups
  kept_groups (step.Did l) h other = mains_spare (main_setting c ops) (state_at s m turn.Main) m l (state_at t n turn.Main) h.step other
  kept_groups step.Pends h other = ap (λ (k : Core). k.groups) h.core
  kept_groups (step.Answer v) h other = ap (λ (k : Core). k.groups) h.core

  -- they tell nothing
  pub main_quiet : (q : MainStep) → Steps c ops m s q n t → is_start (label_of_step q) ≡ false → main_notices q s t ≡ []
  main_quiet (step.Did l) h other =
      ap (λ (ns : List Notice). ns ++ finish_notices s.groups t.groups) (no_start l t other) ∙ (ap (finish_notices s.groups) (kept_groups (step.Did l) h other) ∙ finish_none s.groups)
  main_quiet step.Pends h other = refl
  main_quiet (step.Answer v) h other = refl

  pub main_asked : (q : MainStep) → Steps c ops m s q n t → is_start (label_of_step q) ≡ false → (ks : List ℕ) → ks ≡ s.groups → ks ≡ t.groups
  main_asked q h other ks is = is ∙ sym (kept_groups q h other)

-- ---- In the terms of a turn's answers

-- the step of this turn was made and told, where the turn is this one
pub told_turn : (x : Setting) (n : ℕ) (m : Main) (s : StateView) (old : Listeners) (t : StateView) (new : Listeners) (q : StepResult) (before after : List Label) →
    Added (λ made. RunTold x.component n s old made t new) q before after → Added (λ made. TurnTold x (turn.Run n) m s old (Some made) m t new) q before after
told_turn x n m s old t new q before after made = (made.0, (made.1.0, made.1.1 x refl m))
