-- Each step as a chain of primitives: host works, main, the loop and all turns.
use Rattle.machine_rules.specs.Progress.{OneOf}
use Rattle.machine_rules.proofs.Walks.{[], Abort, aborted_phase, act_of, add_group, add_work, AddGroup, advanced_main, Answer, ap, arith, Asked, Asks, at_turn, Await, base_at, base_without, Began, begun_holder, blocked_at, blocked_on, Bool, ByProgram, ByScript, call_answer, call_made, Callee, Caller, CallLabel, Chain, Choice, choice_of, chosen_in_of, Collapses, Core, count_work, Course, course_for, course_of, course_value, deadlock_trap, DeadlockStep, did, Does, EmptyFor, end_for, ended, Ends, EndTells, EndPrimitives, EndWork, Entry, entry_number, export_kind, Fails, FailsNow, Unwinds, false, Finish, finish_act, finish_result, finished_call, finished_is, FinishWork, followed, Frees, FuturesStep, get, get-change, get-insert, get-remove, get-remove_same, Goal, Continues, goes_open, goes_to, handed_by_main, hands_by, HandsOut, has_end, has_interesting, has_moving_work, heard, host_at, host_done, host_label, host_result, host_status, host_taken, HostDef, HostPoll, HostRulesAreWalks, inl, inr, is_aborted, is_async_work, is_complete, is_data_op, is_direct, is_exit_op, is_free, is_mute, is_none, is_open, is_ready_for_call, is_some, is_spawn, is_stage_ended, is_unended_take, IsUnwind, IsRunner, join, join_of, Keep, keep_stay, Label, LastPrimitives, length, line_of, List, LoopLabel, Main, main_aborted, main_outcome, main_rule, main_spawned, main_started, MainAct, MainLabel, MainOpDef, MainPlace, MainProgress, MainProgresses, MainStep, MakeCall, Mark, may, may_act, may_deadlock, may_publish, MayAbort, MayCall, MayFinish, mute_primitives, nat_tests, Never, next_entry, next_polled, next_thread, next_work, None, none_said, not, NoPrimitive, on_thread, on_work, Op, op_at, op_of, scripted_op_rule, op_rule, open_spawned, OpenAct, OpenProgresses, ops_of, Option, option_map, option_map_or, Ordered, Outcome, outcome_of_label, OwnScript, Pend, Pends, Phase, phase_of, Place, place_of, placed, Poll, poll_ends, poll_of, poll_pends, Polled, polled_again, polled_course, polled_in, Pop, popped, popped_shifted, position_of, ProgramAborts, Progress, Progresses, published_frees, published_shifts, push_high, pushed, Put, put_high, QueueWork, Quiet, Ready, refl, Refused, Remains, remove_thread, remove_threads, RemoveThread, RestStep, result_taken, RulesAreWalks, runner_at, said_is, SameMain, Scene, script_of, ScriptAborts, Scripted, ScriptStep, set_answer, set_course, set_event, set_high, set_low, set_phase, set_place, set_stage, set_switch, set_trapped, SetPhase, SetRegister, Setting, settled_turn, SetTrapped, shifted, Shifts, size, slice_get, Some, SomeHost, spares_of, Spawn, spawned_at, SpawnOpen, SpawnsNamed, Stage, stage_of, Start, start_act, start_of, start_refusal, Started, started_at, started_end, Starts, State, Status, stay_walk, Step, StepsAreWalks, still_first, StillPends, Stops, strand_from, strand_of, unwound, subst, Subtask, suc, sym, T, take_result, take_rule, TakeHost, TakeLabel, TakePush, TakeResult, takes_by, TakesResult, TakeStep, TellsLater, Then, Thread, thread_answer, thread_of_entry, Trap, trap_label, Traps, Trip, trip_walk, true, Turn, TurnStep, unblocked_shifts, unblocked_stuck, Unblocking, under_of, unless_pending, Unscripted, unwrap_or, Walk, WalkedAs, Why, woken_of, primitive, work_caller_of, work_queued, WorkCaller, Writes, writes_by, WritesPolled, zero, ℕ, ⊎_elim, ◌&&◌, ◌++◌, ◌+◌, ◌-◌, ◌∙◌, ◌∷◌, ◌≡◌, ◌≤◌, ◌⊎◌}
use Rattle.machine_rules.proofs.{WalkOps.set_rule_leads, WalkOps.subtask_rule_leads, WalkOps.thread_rule_leads, WalkParts.Born, WalkParts.call_born, WalkTakes.thread_taken_leads, WalkTask.Leads, WalkTask.data_rule_leads, WalkTask.op_stands, WalkTask.running_scene, WalkTask.seen, WalkTask.task_rule_leads, WalkTask.under_place}
use Rattle.machine_rules.specs.MainOps.{Answers}

-- ---- A host call whose entry is taken

ended_stage : (i : ℕ) (t : Core) → is_stage_ended (stage_of i (set_stage i Stage.Ended t)) ≡ true
unfolding set_stage on_work
ended_stage i t = grind (arith, nat_tests, get-change)

course_ended : (v : Option ℕ) → has_end (course_for v) ≡ true
course_ended v = grind arith

-- the work has an end then
poll_ended : (i : ℕ) (v : Option ℕ) (s : Core) → has_end (course_of i (poll_ends i v s)) ≡ true
unfolding poll_ends set_phase set_course set_stage on_work put_high push_high set_place on_thread
poll_ended i v s = grind (arith, nat_tests, get-change, course_ended v)

-- the work has ended, and tells it
abbrev told_end : ℕ → Core → Core
told_end i s = set_event (Subtask.Host i) (Some (host_status (course_value (course_of i s)))) (set_stage i Stage.Ended s)

module _ {a : Scene} {b : Core} where
  host_result_walks : (f : WorkCaller) (v : Option ℕ) {t : Core} → Keep a b t → Keep a b (host_result f v t)
  host_result_walks (WorkCaller.Async n q) (Some v) c = primitive (SetRegister n q v) tt c
  host_result_walks (WorkCaller.Async n q) None c = c
  host_result_walks _ v c = c

  host_done_walks : (i : ℕ) (w : Option ℕ) (s : Core) → may_publish (Subtask.Host i) w s ≡ true → Keep a b (told_end i s) → Keep a b (host_done i w s)
  unfolding host_done may_publish set_stage on_work
  host_done_walks i w s may c =
      let v = course_value (course_of i s) in
      let t = set_stage i Stage.Ended s in
      host_result_walks (work_caller_of i s) v (shifted (published_shifts (Subtask.Host i) (host_status v) w t (ended_stage i s) (λ y is. chosen_in_of (join_of (Subtask.Host i) s) w s may y (grind (arith, nat_tests, get-change, is)))) c)

-- and who is blocked on it goes on
host_frees : {a : Scene} {b : Core} (i : ℕ) (w : Option ℕ) (s : Core) → b.threads ≡ a.base.threads → may_publish (Subtask.Host i) w s ≡ true → Keep a b (told_end i s) → Frees a (host_done i w s) (Subtask.Host i)
unfolding host_done may_publish set_stage on_work
host_frees i w s home may c =
    let v = course_value (course_of i s) in
    published_frees (Subtask.Host i) (host_status v) w (set_stage i Stage.Ended s) home (ended_stage i s) (λ y is. chosen_in_of (join_of (Subtask.Host i) s) w s may y (grind (arith, nat_tests, get-change, is)))
    (λ y is. spares_of (join_of (Subtask.Host i) s) w s may y (grind (arith, nat_tests, get-change, is))) c
    (stay_walk (keep_stay (host_result_walks (work_caller_of i s) v NoPrimitive)))

popped_same : (m : Mark) (s : Core) → s.threads ≡ (popped m s).threads
unfolding popped set_switch set_high set_low
popped_same m s = grind arith

taken_is : (m : Mark) (i : ℕ) (w : Option ℕ) (j : ℕ) → host_taken (host_label m i w) ≡ Some j → j ≡ i
taken_is m i w j h = grind arith

-- ---- A strand that falls

unwound_gone : (n : ℕ) (ns : List ℕ) (s : Core) → get s.threads n ≡ None → get (remove_threads ns s).threads n ≡ None
unfolding remove_thread
unwound_gone n [] s h = h
unwound_gone n (m ∷ ns) s h = unwound_gone n ns (remove_thread m s) (grind (arith, nat_tests, get-remove))

first_gone : (k n : ℕ) (s : Core) → get (remove_threads (strand_from k s n) s).threads n ≡ None
unfolding remove_thread
first_gone zero n s = get-remove_same s.threads n
first_gone (suc k) n s = unwound_gone n (option_map_or (strand_from k s) (under_of n s) []) (remove_thread n s) (get-remove_same s.threads n)

abbrev Unwind : Scene → Core → Type 0
Unwind a t = Chain (IsUnwind a) a.base t

module _ {a : Scene} (over : a.next ≡ Turn.Over) where
  falls : (k n : ℕ) {t : Core} → IsRunner a n ⊎ ((m : ℕ) × ((place_of n a.base ≡ Some (Place.Under m)) × (is_none (get t.threads m) ≡ true))) → Unwind a t → Unwind a (remove_threads (strand_from k a.base n) t)
  unfolding remove_thread
  falls zero n {t = t} may c = Then t (RemoveThread n) c (Unwinds over may)
  falls (suc k) n {t = t} may c = below (λ m under d. falls k m (inr (n, (under, ap (λ (o : Option Thread). is_none o) (get-remove_same t.threads n)))) d) (under_of n a.base) refl (Then t (RemoveThread n) c (Unwinds over may))
    where
      below : ((m : ℕ) → place_of m a.base ≡ Some (Place.Under n) → Unwind a (remove_thread n t) → Unwind a (remove_threads (strand_from k a.base m) (remove_thread n t))) → (o : Option ℕ) → under_of n a.base ≡ o → Unwind a (remove_thread n t) → Unwind a (remove_threads (option_map_or (strand_from k a.base) o []) (remove_thread n t))
      below more None is d = d
      below more (Some m) is d = more m (under_place n m a.base is) d

  unwound_trip : (n : ℕ) → IsRunner a n → Trip a a.base (unwound n a.base)
  unfolding unwound strand_of
  unwound_trip n is = let r = remove_threads (strand_from (size a.base.threads) a.base n) a.base in Collapses (set_trapped r) over (Then r SetTrapped (falls (size a.base.threads) n (inl is) NoPrimitive) tt)

unwound_primitives : (a : Scene) (n : ℕ) → a.runner ≡ Some n → a.next ≡ Turn.Over → begun_holder a.base a.label ≡ None → EndPrimitives a (unwound n a.base) → LastPrimitives a (unwound n a.base)
unfolding unwound strand_of set_trapped
unwound_primitives a n is over begun says = record {
  laid = λ m at take. subst (λ (j : ℕ). option_map_or is_free (place_of j (unwound n a.base)) true ≡ true) (one m at) (ap (λ (o : Option Thread). option_map_or is_free (option_map (λ r. r.place) o) true) gone);
  runs = λ m at. absurd (grind arith);
  outcome = λ o at. over;
  gone = λ m at exit. subst (λ (j : ℕ). get (unwound n a.base).threads j ≡ None) (one m at) gone;
  says = says;
  shut = λ i at. none_said begun at;
}
  where
    gone : get (unwound n a.base).threads n ≡ None
    gone = first_gone (size a.base.threads) n a.base

    one : (m : ℕ) → a.runner ≡ Some m → n ≡ m
    one m at = ap (λ (o : Option ℕ). unwrap_or o 0) (sym is ∙ at)

valueless : (v : Option ℕ) → course_value (course_for v) ≡ None → v ≡ None
valueless None is = refl
valueless (Some v) is = absurd (cc)

-- ---- What a step owes

-- the step leads to a turn, and is a trip in the scene of that turn, whose primitives are all those of the step
record WalkedBy (at : Turn → Scene) (b : Core) (was : Main) (t : State) : Type 0 where
  pub main : SameMain was t.core t.main
  pub next : Turn
  pub turn : t.turn ≡ settled_turn t.core next
  pub walk : Walk (at next) b t.core
  pub trip : Trip (at next) (start_of (at next) b) t.core
  pub primitives : LastPrimitives (at next) t.core

same_main : (m : Main) (t : Core) → SameMain m t m
same_main (Scripted p) t = λ k. inl (k, refl)
same_main Unscripted t = tt

-- the work of a spawn's label
abbrev spawn_in : MainLabel → Option ℕ
spawn_in (MainLabel.Spawn k i) = Some i
spawn_in _ = None

abbrev SpawnTold : MainLabel → Core → Type 0
SpawnTold k t = (i : ℕ) → spawn_in k ≡ Some i → is_spawn i t ≡ true

at_end : (ss : List ℕ) (i n : ℕ) → (slice_get (ss ++ i ∷ []) n ≡ slice_get ss n) ⊎ (slice_get (ss ++ i ∷ []) n ≡ Some i)
at_end [] i n = grind arith
at_end (s ∷ ss) i n = grind (arith, at_end ss i)

advanced_spawns : (o : MainOpDef) (k : MainLabel) (p : MainPlace) (t : Core) → SpawnTold k t → SpawnsNamed p t (advanced_main o k p)
advanced_spawns o (MainLabel.Spawn j i) p t told k = let now = told i refl in
    ⊎_elim (λ e. inl (k, ap (λ (o : Option ℕ). unwrap_or o 0) e)) (λ e. inr (grind arith)) (at_end p.spawns i (k - 1))
advanced_spawns o l p t told k = inl (k, grind arith)

-- a thread that is taken leaves its entry first
arrives : (at : Turn → Scene) (b : Core) (s : State) (new : Core) (m : Main) (u : Turn) (t : State) → Walk (at u) b (start_of (at u) b) → SameMain s.main new m → t ≡ at_turn s new m u → Trip (at u) (start_of (at u) b) new × LastPrimitives (at u) new → WalkedBy at b s.main t
unfolding at_turn
arrives at b s new m u t starts same is c = subst (λ (v : State). WalkedBy at b s.main v) (sym is) (record { main = same; next = u; turn = refl; walk = join starts (trip_walk c.0); trip = c.0; primitives = c.1 })

-- a step of no thread may come to this turn, if its label gives this outcome and this entry begins with it
abbrev is_idle : Option Outcome → Option ℕ → Turn → Bool
is_idle o h (Turn.Run n) = false
is_idle o h Turn.Over = is_none h
is_idle o h next = is_none o && is_none h

idle_parts : (o : Option Outcome) (h : Option ℕ) (next : Turn) → is_idle o h next ≡ true → ((m : ℕ) → next ≡ Turn.Run m → ⊥) × (((z : Outcome) → o ≡ Some z → next ≡ Turn.Over) × (h ≡ None))
idle_parts o h next is = (λ m at. grind arith, (λ z at. grind arith, grind arith))

sync_ended_shifts : (i : ℕ) (v : Option ℕ) (t : Core) → Shifts (set_stage i Stage.Ended (set_phase i Phase.Complete (set_course i (course_for v) t))) (followed (WorkCaller.Sync 0) i (set_phase i Phase.Complete (set_course i (course_for v) t)))
unfolding set_stage set_phase set_course on_work
sync_ended_shifts i v t =
    let u = set_phase i Phase.Complete (set_course i (course_for v) t) in
    unblocked_shifts (Subtask.Host i) (blocked_on (Subtask.Host i) u) (set_stage i Stage.Ended u) (ended_stage i u) (λ m is. blocked_at (Subtask.Host i) u m is)

abbrev is_finish : MainLabel → Bool
is_finish (MainLabel.Finish k v) = true
is_finish _ = false

main_mute : (a : Scene) (t : Core) (k : MainLabel) → is_finish k ≡ false → is_mute a t (Label.Main k) ≡ true
main_mute a t k other = grind arith

-- what an op of a script aborts is a work that it names
script_aborts : (p : MainPlace) (o : MainOpDef) (i : ℕ) → act_of p o ≡ Abort i → (k : ℕ) × (i ≡ spawned_at p k)
script_aborts p (MainOpDef.Abort k) i h = (k, grind arith)
script_aborts p _ i h = absurd (grind arith)

-- a script spawns hosts of the component alone
script_opens : (p : MainPlace) (o : MainOpDef) → act_of p o ≡ SpawnOpen → ⊥
script_opens p o h = absurd (grind arith)

module _ (x : Setting) (s : State) (l : Label) where
  -- the scene of this step, whose turn and entry are these
  abbrev scene_at : Turn → Option (Mark × Entry) → Turn → Scene
  scene_at u o next = record { setting = x; main = s.main; turn = u; base = base_without o s.core; runner = thread_of_entry o; label = l; next = next; ops = ops_of x.component s.core }

  abbrev idle_scene : Turn → Core → Turn → Scene
  idle_scene u b next = record { setting = x; main = s.main; turn = u; base = b; runner = None; label = l; next = next; ops = ops_of x.component s.core }

  -- no thread runs
  idle : (u : Turn) (b : Core) (next : Turn) (m : Main) (k : Label) (new : Core) {t : State} → is_idle (outcome_of_label k) (begun_holder b k) next ≡ true → SameMain s.main new m → l ≡ k → t ≡ at_turn s new m next → EndPrimitives (idle_scene u b next) new → Keep (idle_scene u b next) s.core new → WalkedBy (idle_scene u b) s.core s.main t
  idle u b next m k new {t = t} quiet same is at says c =
      let q = idle_parts (outcome_of_label k) (begun_holder b k) next quiet in
      arrives (idle_scene u b) s.core s new m next t NoPrimitive same at (
        Remains new (keep_stay c) (λ j to. absurd (q.0 j to)) (λ j none. none_said refl none),
        record {
          laid = λ j none take. none_said refl none;
          runs = λ j to. absurd (q.0 j to);
          outcome = λ o out. q.1.0 o (ap outcome_of_label (sym is) ∙ out);
          gone = λ j none exit. none_said refl none;
          says = says;
          shut = λ i begun. none_said (ap (λ (y : Label). begun_holder b y) is ∙ q.1.1) begun;
        },
      )

  -- ---- Main

  abbrev a : Scene
  a = idle_scene Turn.Main s.core Turn.Main

  -- what an op of main does
  abbrev LeadsMain : MainProgress → Type 0
  LeadsMain (Does k new) = (is_idle (main_outcome k) None Turn.Main ≡ true) × ((l ≡ Label.Main k → EndPrimitives a new) × (Keep a s.core new × SpawnTold k new))
  LeadsMain _ = Unit {0}

  started_walks : (e : Callee) (words : List ℕ) → MayCall a Caller.Main e (s.core.made.groups + 1) (add_group s.core) → Keep a s.core (main_started x.component e words s.core)
  unfolding main_started add_group
  started_walks e words may =
      let k = next_thread s.core in
      let g = add_group s.core in
      let h : Born k Goal.Main (call_made Caller.Main e (export_kind x.component e) Goal.Main (s.core.made.groups + 1) words g) = call_born Caller.Main e (export_kind x.component e) Goal.Main (s.core.made.groups + 1) words g in
      placed (Put Mark.High k Why.Start) (inl (Starts h.place h.explicit (ap (λ (y : Goal). is_direct y) h.goal) refl))
      (primitive (MakeCall Caller.Main e (export_kind x.component e) Goal.Main (s.core.made.groups + 1) words) (may, (refl, (refl, (λ d. absurd (subst T (sym d) tt), (refl, (refl, refl)))))) (primitive AddGroup refl NoPrimitive))

  -- an op whose label tells of no end
  quietly : (k : MainLabel) (new : Core) → is_idle (main_outcome k) None Turn.Main ≡ true → is_finish k ≡ false → SpawnTold k new → Keep a s.core new → LeadsMain (Does k new)
  quietly k new quiet other told c = (quiet, (λ is. mute_primitives a new is (main_mute a new k other), (c, told)))

  start_act_leads : (k : ℕ) (e : Callee) (words : List ℕ) (o : Option Trap) → MayCall a Caller.Main e (s.core.made.groups + 1) (add_group s.core) → LeadsMain (start_act x.component k e words s.core o)
  start_act_leads k e words None may = quietly (MainLabel.Start k (next_thread s.core)) (main_started x.component e words s.core) refl refl (λ i e. none_said refl e) (started_walks e words may)
  start_act_leads k e words (Some t) may = quietly (MainLabel.StartRefused t k) (set_trapped s.core) refl refl (λ i e. none_said refl e) (primitive SetTrapped tt NoPrimitive)

  -- the K of a script's finish names what the op finishes
  abbrev Names : ℕ → Started → Type 0
  Names k y = (p : MainPlace) → s.main ≡ Scripted p → started_at p k ≡ y

  finish_says : (k n v : ℕ) → Names k (Began n) → get s.core.results n ≡ Some v → l ≡ Label.Main (MainLabel.Finish k v) → EndPrimitives a (take_result n s.core)
  finish_says k n v names there is = hands_by a t is refl refl (by_main s.main refl)
    where
      t : Core
      t = take_result n s.core

      takes : HandsOut a t (Subtask.Guest n) Status.Returned
      takes = TakesResult n (ap (λ (o : Option ℕ). is_some o) there) (result_taken n s.core)

      found : (o : Option ℕ) → ((j : ℕ) → o ≡ Some j → n ≡ j) → (sub : Subtask) (e : Status) → option_map (λ (j : ℕ). end_for Status.Returned (Subtask.Guest j)) o ≡ Some (end_for e sub) → HandsOut a t sub e
      found None same sub e out = none_said refl out
      found (Some j) same sub e out = said_is (HandsOut a t) out (subst (λ (i : ℕ). HandsOut a t (Subtask.Guest i) Status.Returned) (same j refl) takes)

      by_main : (m : Main) → s.main ≡ m → (sub : Subtask) (e : Status) → handed_by_main m s.core (MainLabel.Finish k v) t ≡ Some (end_for e sub) → HandsOut a t sub e
      by_main (Scripted p) at sub e out = said_is (HandsOut a t) (sym (ap (λ (y : Started). started_end y) (names p at)) ∙ out) takes
      by_main Unscripted at sub e out = found (finished_call v s.core t) (λ j. finished_is n v s.core there j) sub e out

  finish_result_leads : (k n : ℕ) (o : Option ℕ) → Names k (Began n) → get s.core.results n ≡ o → LeadsMain (finish_result k n s.core o)
  finish_result_leads k n None names there = tt
  finish_result_leads k n (Some v) names there = (refl, (finish_says k n v names there, (primitive (TakeResult n) tt NoPrimitive, λ i e. none_said refl e)))

  finish_act_leads : (k : ℕ) (y : Started) → Names k y → LeadsMain (finish_act k s.core y)
  finish_act_leads k (Began n) names = finish_result_leads k n (get s.core.results n) names refl
  finish_act_leads k (Refused t) names = quietly (MainLabel.FinishRefused t k) s.core refl refl (λ i e. none_said refl e) NoPrimitive

  unless_pending_leads : (b : Bool) (k : MainLabel) → is_idle (main_outcome k) None Turn.Main ≡ true → is_finish k ≡ false → spawn_in k ≡ None → LeadsMain (unless_pending b k s.core)
  unless_pending_leads true k quiet other none = quietly k s.core quiet other (λ i e. none_said none e) NoPrimitive
  unless_pending_leads false k quiet other none = tt

  main_rule_leads : (k : ℕ) (act : MainAct) → ((e : Callee) (words : List ℕ) → act ≡ Start e words → MayCall a Caller.Main e (s.core.made.groups + 1) (add_group s.core)) → ((y : Started) → act ≡ Finish y → Names k y) → ((i : ℕ) → act ≡ Abort i → MayAbort a i) → (act ≡ SpawnOpen → s.main ≡ Unscripted) → LeadsMain (main_rule x.component k s.core act)
  unfolding main_spawned open_spawned main_aborted work_queued push_high add_work count_work
  main_rule_leads k (Start e words) may names aborts opens = start_act_leads k e words (start_refusal s.core) (may e words refl)
  main_rule_leads k (Finish y) may names aborts opens = finish_act_leads k y (names y refl)
  main_rule_leads k (Spawn h) may names aborts opens =
      let host = host_at x.component h in
      quietly (MainLabel.Spawn k (next_work s.core)) (work_queued WorkCaller.Spawn host None s.core) refl refl
      (λ i e. grind (arith, nat_tests, get-insert, e))
      (primitive (QueueWork WorkCaller.Spawn host None) (refl, ((refl, refl), λ e. inl (h, e))) NoPrimitive)
  main_rule_leads k SpawnOpen may names aborts opens =
      quietly (MainLabel.Spawn k (next_work s.core)) (work_queued WorkCaller.Spawn HostDef.Open None s.core) refl refl
      (λ i e. grind (arith, nat_tests, get-insert, e))
      (primitive (QueueWork WorkCaller.Spawn HostDef.Open None) (refl, ((refl, refl), λ e. inr (opens refl))) NoPrimitive)
  main_rule_leads k (Abort i) may names aborts opens = quietly (MainLabel.Abort (phase_of i s.core) k) (set_phase i (aborted_phase (phase_of i s.core)) s.core) refl refl (λ i e. none_said refl e) (primitive (SetPhase i (aborted_phase (phase_of i s.core))) (aborts i refl, refl) NoPrimitive)
  main_rule_leads k (Await i) may names aborts opens = unless_pending_leads (is_complete (phase_of i s.core)) (MainLabel.Await k) refl refl refl
  main_rule_leads k Quiet may names aborts opens = unless_pending_leads (not (has_interesting s.core)) MainLabel.Quiet refl refl refl
  main_rule_leads k (Ready i) may names aborts opens = unless_pending_leads (is_ready_for_call i s.core) MainLabel.Ready refl refl refl
  main_rule_leads k (Answer v) may names aborts opens = tt

  pends_here : (t : State) → l ≡ Label.Loop LoopLabel.MainPends → t ≡ goes_to s s.core (Turn.Futures 0) → WalkedBy (idle_scene Turn.Main s.core) s.core s.main t
  pends_here t is at = idle Turn.Main s.core (Turn.Futures 0) s.main (Label.Loop LoopLabel.MainPends) s.core refl (same_main s.main s.core) is at (mute_primitives _ _ is refl) NoPrimitive

  does_here : (m : Main) (k : MainLabel) (new : Core) (t : State) → SameMain s.main new m → LeadsMain (Does k new) → l ≡ Label.Main k → t ≡ at_turn s new m Turn.Main → WalkedBy (idle_scene Turn.Main s.core) s.core s.main t
  does_here m k new t same c is at = idle Turn.Main s.core Turn.Main m (Label.Main k) new c.0 same is at (c.1.0 is) c.1.1.0

  answers_here : (v : ℕ) (t : State) → l ≡ Label.Main (MainLabel.Answer v) → t ≡ goes_to s s.core Turn.Over → WalkedBy (idle_scene Turn.Main s.core) s.core s.main t
  answers_here v t is at = idle Turn.Main s.core Turn.Over s.main (Label.Main (MainLabel.Answer v)) s.core refl (same_main s.main s.core) is at (mute_primitives _ _ is (main_mute (idle_scene Turn.Main s.core Turn.Over) s.core (MainLabel.Answer v) refl)) NoPrimitive

  main_progresses_walk : (p : MainPlace) (o : MainOpDef) (q : MainProgress) (t : State) → s.main ≡ Scripted p → LeadsMain q → MainProgresses s p o q l t → WalkedBy (idle_scene Turn.Main s.core) s.core s.main t
  main_progresses_walk p o (Does k new) t at c is = does_here (Scripted (advanced_main o k p)) k new t (subst (λ (m : Main). SameMain m new (Scripted (advanced_main o k p))) (sym at) (advanced_spawns o k p new c.1.1.1)) c is.0 is.1
  main_progresses_walk p o Pends t at c is = pends_here t is.0 is.1
  main_progresses_walk p o (Answers v) t at c is = answers_here v t is.0 is.1

  script_step_walks : (p : MainPlace) (o : Option MainOpDef) (t : State) → s.main ≡ Scripted p → op_at x.script p ≡ o → ScriptStep x s p o l t → WalkedBy (idle_scene Turn.Main s.core) s.core s.main t
  unfolding add_group
  script_step_walks p None t scripted at is = pends_here t is.0 is.1
  script_step_walks p (Some o) t scripted at is = main_progresses_walk p o (main_rule x.component (line_of p o) s.core (act_of p o)) t scripted (main_rule_leads (line_of p o) (act_of p o) (λ e words h. ByScript p o scripted at (grind (arith, h)) refl refl) (λ y h p2 at2. grind (arith, scripted, at2, h)) (λ i h. let r = script_aborts p o i h in ScriptAborts p r.0 scripted r.1) (λ h. absurd (script_opens p o h))) is

  open_progresses_walk : (q : MainProgress) (t : State) → LeadsMain q → OpenProgresses s q l t → WalkedBy (idle_scene Turn.Main s.core) s.core s.main t
  open_progresses_walk (Does k new) t c is = does_here s.main k new t (same_main s.main new) c is.0 is.1
  open_progresses_walk Pends t c is = absurd is
  open_progresses_walk (Answers v) t c is = answers_here v t is.0 is.1

  open_act_walks : (k : ℕ) (act : MainAct) (t : State) → s.main ≡ Unscripted → OpenAct x s k act l t → WalkedBy (idle_scene Turn.Main s.core) s.core s.main t
  unfolding add_group
  open_act_walks k act t open_main h = open_progresses_walk (main_rule x.component k s.core act) t (main_rule_leads k act (λ e words at. ByProgram (length words) open_main (sym (ap (λ y. may_act x.component s.core y) at) ∙ h.0) refl refl) (λ y at p at2. absurd (grind (arith, open_main, at2))) (λ i at. ProgramAborts open_main (sym (ap (λ y. may_act x.component s.core y) at) ∙ h.0)) (λ at. open_main)) h.1

  -- ---- Works

  -- a work ends without a value only where it was aborted, or has ended
  abbrev GoneBy : ℕ → Option ℕ → Type 0
  GoneBy i v = v ≡ None → (is_aborted (phase_of i s.core) ≡ true) ⊎ (has_end (course_of i s.core) ≡ true)

  followed_walks : (n i : ℕ) (v : Option ℕ) → next_polled n s.core ≡ Some i → l ≡ Label.Loop (LoopLabel.FutureEnds i) → GoneBy i v → Keep (scene_at (Turn.Futures n) None (Turn.Take true)) s.core (poll_ends i v s.core)
  unfolding poll_ends
  followed_walks n i v at is gone = by_caller (work_caller_of i s.core) refl
    where
      may : MayFinish (scene_at (Turn.Futures n) None (Turn.Take true)) i (course_for v) s.core
      may = ((n, (refl, at)), (is, (course_ended v, λ none. gone (valueless v none))))

      by_caller : (f : WorkCaller) → work_caller_of i s.core ≡ f → Keep (scene_at (Turn.Futures n) None (Turn.Take true)) s.core (followed f i (set_phase i Phase.Complete (set_course i (course_for v) s.core)))
      by_caller WorkCaller.Spawn same = primitive (EndWork i (course_for v)) (may, ap (λ f. is_async_work f) same) NoPrimitive
      by_caller (WorkCaller.Async m q) same = primitive (FinishWork i (course_for v)) (may, ap (λ f. is_async_work f) same) NoPrimitive
      by_caller (WorkCaller.Sync m) same = shifted (sync_ended_shifts i v s.core) (primitive (EndWork i (course_for v)) (may, ap (λ f. is_async_work f) same) NoPrimitive)

  -- who is blocked on the work of a sync call goes on
  sync_unblocks : (n i m : ℕ) (v : Option ℕ) → next_polled n s.core ≡ Some i → l ≡ Label.Loop (LoopLabel.FutureEnds i) → GoneBy i v →
      work_caller_of i s.core ≡ WorkCaller.Sync m → Unblocking (scene_at (Turn.Futures n) None (Turn.Take true)) (poll_ends i v s.core) (Subtask.Host i)
  unfolding poll_ends set_stage set_phase set_course on_work
  sync_unblocks n i m v at is gone called =
      let u = set_phase i Phase.Complete (set_course i (course_for v) s.core) in
      let t = set_stage i Stage.Ended u in
      subst (λ (f : WorkCaller). Unblocking (scene_at (Turn.Futures n) None (Turn.Take true)) (followed f i u) (Subtask.Host i)) (sym called) (record {
        first = s.core;
        home = refl;
        before = t;
        after = followed (WorkCaller.Sync m) i u;
        stays = keep_stay (primitive (EndWork i (course_for v)) (((n, (refl, at)), (is, (course_ended v, λ none. gone (valueless v none)))), ap (λ f. is_async_work f) called) NoPrimitive);
        shifts = sync_ended_shifts i v s.core;
        rest = NoPrimitive;
        freed = λ j h. unblocked_stuck (Subtask.Host i) u t (λ k. refl) (blocked_on (Subtask.Host i) u) refl j h;
      })

  -- it goes on as an open one only where it is that
  abbrev EndsBy : ℕ → Poll → Type 0
  EndsBy i (StillPends host) = is_open host ≡ true → goes_open (course_of i s.core) ≡ true
  EndsBy i (Ends v) = GoneBy i v
  EndsBy i FailsNow = Unit {0}
  EndsBy i (Asked next) = (answer : HostPoll) → EndsBy i (next answer)

  heard_ends : (i : ℕ) → goes_open (course_of i s.core) ≡ true → (answer : HostPoll) → EndsBy i (heard answer)
  heard_ends i is HostPoll.Pending = λ e. is
  heard_ends i is (HostPoll.Value v) = λ none. absurd (cc)
  heard_ends i is HostPoll.Failed = tt

  going_ends : (i : ℕ) (host : HostDef) → course_of i s.core ≡ Course.Continues host → EndsBy i (polled_again host)
  going_ends i (HostDef.Settled None value) is = λ e. ap goes_open is ∙ e
  going_ends i (HostDef.Settled (Some zero) None) is = tt
  going_ends i (HostDef.Settled (Some zero) (Some v)) is = λ none. absurd (cc)
  going_ends i (HostDef.Settled (Some (suc polls)) value) is = λ e. ap goes_open is ∙ e
  going_ends i HostDef.Open is = heard_ends i (ap goes_open is)

  course_ends : (i : ℕ) (c : Course) → course_of i s.core ≡ c → EndsBy i (polled_course c)
  course_ends i (Course.Continues host) is = going_ends i host is
  course_ends i (Course.Value v) is = λ none. absurd (cc)
  course_ends i Course.NoValue is = λ none. inr (ap has_end is)

  ends_by : (i : ℕ) (p : Phase) → phase_of i s.core ≡ p → EndsBy i (polled_in p (course_of i s.core))
  ends_by i Phase.AbortRequested is = λ none. inl (ap is_aborted is)
  ends_by i Phase.Running is = course_ends i (course_of i s.core) refl
  ends_by i Phase.Complete is = course_ends i (course_of i s.core) refl

  poll_ends_by : (i : ℕ) → EndsBy i (poll_of i s.core)
  unfolding poll_of
  poll_ends_by i = ends_by i (phase_of i s.core) refl

  polled_walks : (n i : ℕ) (p : Poll) (t : State) → next_polled n s.core ≡ Some i → EndsBy i p → Polled s i p l t → WalkedBy (scene_at (Turn.Futures n) None) s.core s.main t
  unfolding poll_ends
  polled_walks n i (StillPends host) t at poll is = idle (Turn.Futures n) s.core (Turn.Futures i) s.main (Label.Loop (LoopLabel.FuturePends i)) (poll_pends i host s.core) refl (same_main s.main _) is.0 is.1 (mute_primitives _ _ is.0 refl) (primitive (Pend i host) ((n, (refl, at)), poll) NoPrimitive)
  polled_walks n i (Ends v) t at poll is =
      let new = poll_ends i v s.core in
      idle (Turn.Futures n) s.core (Turn.Take true) s.main (Label.Loop (LoopLabel.FutureEnds i)) new refl (same_main s.main new) is.0 is.1
      (writes_by _ _ is.0 refl refl (λ sub e says. said_is (λ d g. Writes (idle_scene (Turn.Futures n) s.core (Turn.Take true)) new d × EndTells (idle_scene (Turn.Futures n) s.core (Turn.Take true)) new d g) says (WritesPolled i is.0 (n, (refl, at)) (poll_ended i v s.core) (λ m called. sync_unblocks n i m v at is.0 poll called), TellsLater i _)))
      (followed_walks n i v at is.0 poll)
  polled_walks n i FailsNow t at poll is = idle (Turn.Futures n) s.core Turn.Over s.main (Label.Loop (LoopLabel.FutureFails i)) (set_trapped s.core) refl (same_main s.main _) is.0 is.1 (mute_primitives _ _ is.0 refl) (primitive SetTrapped tt NoPrimitive)
  polled_walks n i (Asked next) t at poll is = polled_walks n i (next is.0) t at (poll is.0) is.1

  futures_walk : (n : ℕ) (o : Option ℕ) (t : State) → next_polled n s.core ≡ o → FuturesStep s o l t → WalkedBy (scene_at (Turn.Futures n) None) s.core s.main t
  futures_walk n None t at is = absurd is
  futures_walk n (Some i) t at is = polled_walks n i (poll_of i s.core) t at (poll_ends_by i) is

  -- ---- Takings

  -- of a rule of the thread n, which runs or was taken, by where it leads
  progresses_walk : (ops : ℕ → Op) (u : Turn) (base : Core) (n : ℕ) → ((v : Turn) → Walk (seen ops x s.main u base n l v) s.core base) → (p : Progress) (t : State) → ((v : Turn) → Leads (seen ops x s.main u base n l v) base p) → Progresses s base n p l t → WalkedBy (seen ops x s.main u base n l) s.core s.main t
  progresses_walk ops u base n starts p t leads is = by p leads is
    where
      at : Turn → Scene
      at v = seen ops x s.main u base n l v

      lands_so : (new : Core) (v : Turn) → t ≡ goes_to s new v → Trip (at v) base new × LastPrimitives (at v) new → WalkedBy at s.core s.main t
      lands_so new v to c = arrives at s.core s new s.main v t (starts v) (same_main s.main new) to c

      unwinds_so : (k : Label) → begun_holder base k ≡ None → is_mute (at Turn.Over) (unwound n base) k ≡ true → l ≡ k → t ≡ goes_to s (unwound n base) Turn.Over → WalkedBy at s.core s.main t
      unwinds_so k none mute shown to = lands_so (unwound n base) Turn.Over to (unwound_trip refl n refl, unwound_primitives (at Turn.Over) n refl refl (ap (λ y. begun_holder base y) shown ∙ none) (mute_primitives _ _ shown mute))

      by : (q : Progress) → ((v : Turn) → Leads (at v) base q) → Progresses s base n q l t → WalkedBy at s.core s.main t
      by (Continues k new m) row h = lands_so new (Turn.Run m) h.1 (row (Turn.Run m) h.0 refl)
      by (Stops k new) row h = lands_so new Turn.Main h.1 (row Turn.Main h.0 refl)
      by (Traps trap) row h = unwinds_so (trap_label n trap) refl refl h.0 h.1
      by (Fails i) row h = unwinds_so (Label.Call (CallLabel.Fails n i)) refl refl h.0 h.1
      by Never row h = absurd h
      by (Ordered ns next) row h = by (next h.0) (λ v. row v h.0 h.1.0) h.1.1
      by (OneOf ns next) row h = by (next h.0) (λ v. row v h.0 h.1.0) h.1.1
      by (Asks next) row h = by (next h.0) (λ v. row v h.0) h.1

  empty_walks : (ended : Bool) (b : Bool) (t : State) → EmptyFor x s b l t → WalkedBy (scene_at (Turn.Take ended) None) s.core s.main t
  empty_walks ended true t is = rests (is_unended_take s.turn) is
    where
      rests : (c : Bool) → RestStep s c l t → WalkedBy (scene_at (Turn.Take ended) None) s.core s.main t
      rests true h = idle (Turn.Take ended) s.core Turn.Main s.main (Label.Loop LoopLabel.Rest) s.core refl (same_main s.main s.core) h.0 h.1 (mute_primitives _ _ h.0 refl) NoPrimitive
      rests false h = absurd h
  empty_walks ended false t is = dies (may_deadlock x s) is
    where
      dies : (c : Bool) → DeadlockStep s c l t → WalkedBy (scene_at (Turn.Take ended) None) s.core s.main t
      dies true h = idle (Turn.Take ended) s.core Turn.Over s.main (Label.Loop (LoopLabel.Deadlock (deadlock_trap s.core))) (set_trapped s.core) refl (same_main s.main _) h.0 h.1 (mute_primitives _ _ h.0 refl) (primitive SetTrapped tt NoPrimitive)
      dies false h = absurd h

  host_entry_walks : (ended : Bool) (m : Mark) (i : ℕ) (t : State) → next_entry s.core ≡ Some (m, Entry.Host i) → (b : Bool) → may_publish (Subtask.Host i) (woken_of l) (popped m s.core) ≡ b → Progresses s (popped m s.core) i (may b (Stops (host_label m i (woken_of l)) (host_done i (woken_of l) (popped m s.core)))) l t → WalkedBy (scene_at (Turn.Take ended) (Some (m, Entry.Host i))) s.core s.main t
  host_entry_walks ended m i t at true may is =
      let base = popped m s.core in
      let a = scene_at (Turn.Take ended) (Some (m, Entry.Host i)) Turn.Main in
      let taken_first : Keep a s.core (told_end i base) = subst (λ (u : Core). Keep a s.core (told_end i u)) (popped_shifted m s.core).only (primitive (TakeHost m i) (at, (woken_of l, (is.0, ((ended, refl), refl)))) NoPrimitive) in
      idle (Turn.Take ended) base Turn.Main s.main (host_label m i (woken_of l)) (host_done i (woken_of l) base) (grind arith) (same_main s.main _) is.0 is.1
      (takes_by a _ is.0 (grind arith) (λ j at. rw (taken_is m i (woken_of l) j at) (host_frees {b = s.core} i (woken_of l) base (popped_same m s.core) may taken_first))) (host_done_walks i (woken_of l) base may taken_first)
  host_entry_walks ended m i t at false may is = absurd is

  entry_walks : (ended : Bool) (m : Mark) (e : Entry) (t : State) → next_entry s.core ≡ Some (m, e) → Progresses s (popped m s.core) (entry_number e) (take_rule m (choice_of l) (popped m s.core) e) l t → WalkedBy (scene_at (Turn.Take ended) (Some (m, e))) s.core s.main t
  unfolding pushed
  entry_walks ended m (Entry.Thread n) t at is =
      let base = popped m s.core in
      progresses_walk (ops_of x.component s.core) (Turn.Take ended) base n (λ u. placed (Pop m) (inr (n, (refl, at))) NoPrimitive) (take_rule m (choice_of l) base (Entry.Thread n)) t
      (λ u. thread_taken_leads (ops_of x.component s.core) x s.main ended base n l u m (choice_of l) (place_of n base) refl) is
  entry_walks ended m (Entry.Push i) t at is =
      idle (Turn.Take ended) (popped m s.core) Turn.Main s.main (Label.Take (TakeLabel.Push m i)) (pushed i (popped m s.core)) refl (same_main s.main _) is.0 is.1
      (mute_primitives _ _ is.0 refl) (subst (λ (t : Core). Keep (scene_at (Turn.Take ended) (Some (m, Entry.Push i)) Turn.Main) s.core (set_stage i Stage.Live t)) (popped_shifted m s.core).only (primitive (TakePush m i) (at, ((ended, refl), refl)) NoPrimitive))
  entry_walks ended m (Entry.Host i) t at is = host_entry_walks ended m i t at (may_publish (Subtask.Host i) (woken_of l) (popped m s.core)) refl is

  take_step_walks : (ended : Bool) (o : Option (Mark × Entry)) (t : State) → next_entry s.core ≡ o → TakeStep x s o l t → WalkedBy (scene_at (Turn.Take ended) o) s.core s.main t
  take_step_walks ended None t at is = empty_walks ended (has_moving_work s.core) t is
  take_step_walks ended (Some (m, e)) t at is = entry_walks ended m e t at is

-- ---- Steps

op_rule_leads : (ops : ℕ → Op) (x : Setting) (main : Main) (s : Core) (n : ℕ) (l : Label) (next : Turn) (ch : Choice) (o : Op) → ops n ≡ o → (is_exit_op o ≡ false → position_of n s + 1 ≤ length (script_of x.component n s)) → Leads (running_scene ops x main s n l next) s (scripted_op_rule x.component n s ch o)
op_rule_leads ops x main s n l next ch (Op.Data o) is on = data_rule_leads ops x main s n l next (refl, on refl) o
op_rule_leads ops x main s n l next ch (Op.Task o) is on = task_rule_leads ops x main s n l next (OwnScript 0) ch o (λ e. (refl, on e)) is
op_rule_leads ops x main s n l next ch (Op.Set o) is on = set_rule_leads (OwnScript (set_answer o)) ops x main s n l next (refl, on refl) ch o is
op_rule_leads ops x main s n l next ch (Op.Call o) is on = subtask_rule_leads (OwnScript (call_answer o)) ops x main s n l next (refl, on refl) o is
op_rule_leads ops x main s n l next ch (Op.Thread o) is on = thread_rule_leads (OwnScript (thread_answer o)) ops x main s n l next (refl, on refl) o is

-- a host may have the thread do any other op at whatever place it is
host_rule_leads : (ops : ℕ → Op) (x : Setting) (main : Main) (s : Core) (n : ℕ) (l : Label) (next : Turn) (ch : Choice) (o : Op) → ops n ≡ o → is_data_op o ≡ false → Leads (running_scene ops x main s n l next) s (op_rule SomeHost x.component n s ch o)
host_rule_leads ops x main s n l next ch (Op.Data o) is other = absurd (cc)
host_rule_leads ops x main s n l next ch (Op.Task o) is other = task_rule_leads ops x main s n l next SomeHost ch o (λ e. (refl, still_first n s)) is
host_rule_leads ops x main s n l next ch (Op.Set o) is other = set_rule_leads SomeHost ops x main s n l next (refl, still_first n s) ch o is
host_rule_leads ops x main s n l next ch (Op.Call o) is other = subtask_rule_leads SomeHost ops x main s n l next (refl, still_first n s) o is
host_rule_leads ops x main s n l next ch (Op.Thread o) is other = thread_rule_leads SomeHost ops x main s n l next (refl, still_first n s) o is

main_step_walks : (x : Setting) (s : State) (l : Label) (m : Main) (t : State) → s.main ≡ m → MainStep x s m l t → WalkedBy (idle_scene x s l Turn.Main s.core) s.core s.main t
main_step_walks x s l (Scripted p) t at is = script_step_walks x s l p (op_at x.script p) t at refl is
main_step_walks x s (Label.Loop LoopLabel.MainPends) Unscripted t at is = pends_here x s (Label.Loop LoopLabel.MainPends) t refl is
main_step_walks x s l Unscripted t at is = open_act_walks x s l is.0 is.1.0 t at is.1.1

turn_step_walks : (x : Setting) (s : State) (u : Turn) (l : Label) (t : State) → TurnStep x s u l t → WalkedBy (λ next. record { setting = x; main = s.main; turn = u; base = base_at u s.core; runner = runner_at u s.core; label = l; next = next; ops = ops_of x.component s.core }) s.core s.main t
unfolding did
turn_step_walks x s Turn.Main l t is = main_step_walks x s l s.main t refl is
turn_step_walks x s (Turn.Futures n) l t is = futures_walk x s l n (next_polled n s.core) t refl is
turn_step_walks x s (Turn.Take ended) l t is = take_step_walks x s l ended (next_entry s.core) t refl is
turn_step_walks x s (Turn.Run n) l t is =
    progresses_walk x s l (ops_of x.component s.core) (Turn.Run n) s.core n (λ u. NoPrimitive) (did x.component n s.core (choice_of l)) t (λ u. op_rule_leads (ops_of x.component s.core) x s.main s.core n l u (choice_of l) (op_of x.component n s.core) refl (op_stands x.component n s.core)) is
turn_step_walks x s Turn.Over l t is = absurd is

-- each step is a chain of primitives
pub step_walks : StepsAreWalks
unfolding Step
step_walks x s l t is = let c = turn_step_walks x s s.turn l t is in record { next = c.next; turn = c.turn; main = c.main; walk = c.walk; trip = c.trip; ends = c.primitives }

-- walked at this turn, where each thread has this op
abbrev WalkedAt : (ℕ → Op) → Setting → State → Label → State → Turn → Type 0
WalkedAt ops x s l t u = WalkedBy (λ next. record { setting = x; main = s.main; turn = u; base = base_at u s.core; runner = runner_at u s.core; label = l; next = next; ops = ops }) s.core s.main t

-- what the running thread does by a progress that leads on is a chain of primitives
leads_walk : (ops : ℕ → Op) (x : Setting) (s : State) (n : ℕ) (l : Label) (p : Progress) (t : State) → s.turn ≡ Turn.Run n → ((u : Turn) → Leads (running_scene ops x s.main s.core n l u) s.core p) → Progresses s s.core n p l t → WalkedAs ops x s l t
leads_walk ops x s n l p t at leads is =
    let runs : WalkedAt ops x s l t (Turn.Run n) = progresses_walk x s l ops (Turn.Run n) s.core n (λ u. NoPrimitive) p t leads is in
    let c = subst (WalkedAt ops x s l t) (sym at) runs in
    record { next = c.next; turn = c.turn; main = c.main; walk = c.walk; trip = c.trip; ends = c.primitives }

-- the rule at any op that the running thread is said to have is a chain of primitives
pub rules_walk : RulesAreWalks
unfolding RulesAreWalks
rules_walk ops x s n l o t at has on is = leads_walk ops x s n l (scripted_op_rule x.component n s.core (choice_of l) o) t at (λ u. op_rule_leads ops x s.main s.core n l u (choice_of l) o has on) is

-- also as a host has the thread do it
pub host_rules_walk : HostRulesAreWalks
unfolding HostRulesAreWalks
host_rules_walk ops x s n l o t at has other is = leads_walk ops x s n l (op_rule SomeHost x.component n s.core (choice_of l) o) t at (λ u. host_rule_leads ops x s.main s.core n l u (choice_of l) o has other) is
