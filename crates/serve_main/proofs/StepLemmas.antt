-- A step of a server is one of main, and serves its requests.
use Rattle.store_notices.specs.Moves.{finishes}
use Rattle.task_loop.proofs.OpenMainLemmas.{answers_now, did_finish, did_refuse, did_start, takes_these}
use Rattle.futures.specs.declared.task.Poll.TheVariants.{Ready}
use Rattle.serve_requests.proofs.CallLemmas.{call_made_of}
use Rattle.serve_requests.proofs.PairLemmas.{open_at, open_stage, pair_at, as_many_open}
use Rattle.serve_requests.specs.Serving.{HasToWait, IsAnswered, IsDone, is_open, is_replied, IsCallOf, callee_named, Serves}
use Rattle.serve_requests.specs.declared.request.Request.{Request}
use Rattle.serve_requests.specs.declared.request.Stage.{Stage}
use Rattle.serve_requests.specs.declared.request.Stage.TheVariants.{Answered, Declined, Open, Refused, Waits}
use Rattle.serve_requests.proofs.KeepLemmas.{keeps_declined, keeps_finish, keeps_open, keeps_refused}
use Rattle.serve_requests.proofs.CountLemmas.{all_so, some_not}
use Rattle.serve_requests.specs.KeepsReplies.{KeepsReplies}
use Rattle.task_nursery.specs.Children as kids
use Rattle.task_nursery.specs.Children.{is_open_call, ended, has_ended, left_by, thread_in, value_in}
use Rattle.task_nursery.specs.Numbers.{count_where, first_where, numbered, numbers_where}
use Rattle.serve_main.specs.Knows.{IsCall, Knows, Suits, asked, func_of}
use Rattle.serve_main.specs.Steps.{HasStepResult, HasWaited, IsBusy, MayStep, NoneReturned}
use Rattle.serve_main.specs.declared.server.ServerMain.{ServerMain}
use Rattle.serve_requests.specs.HowMany.{how_many}
use Rattle.std.proofs.Common.{ap, arith, inl, inr, refl, subst, sym, ⊎_elim, ◌∙◌}
use Rattle.std.specs.Option.{option_and_then, option_map}
use Rattle.std.specs.Prelude.{Bool, List, None, Option, Some, [], false, is_some, length, slice_get, slice_set, suc, true, unwrap_or, zero, ℕ, ◌+◌, ◌-◌, ◌<◌, ◌∷◌, ◌≡◌, ◌≤◌, Err, IfSome, Ok, if◌then◌else◌, not, ◌≢◌, Result, ◌^◌, ◌⊎◌}
use Rattle.ops_calls.specs.MainCalls.{Finishes, Starts}
use Rattle.task_loop.specs.declared.call.Func.{Func}
use Rattle.task_loop.specs.declared.call.FuncCallConcurrent.{FuncCallConcurrent}
use Rattle.machine_data.specs.Core as core
use Rattle.machine_data.specs.Core.{Core, Unscripted}
use Rattle.machine_data.specs.Maps.{get}
use Rattle.machine_data.specs.declared.component.Component.{Component}
use Rattle.task_nursery.proofs.KeptLemmas.{ended_is_open}
use Rattle.task_nursery.proofs.NumberLemmas.{first_is_least, first_is_so}
use Rattle.task_nursery.specs.Scope.{Scope, after_end, ended_at, left_at, with_ended, IsOf, with_child, ScopeBegins, Refuses, TellsStart, StopsCall}
use Rattle.task_nursery.specs.declared.children.Kept.{Kept}
use Rattle.task_nursery.specs.declared.children.Kept.TheVariants as kept
use Rattle.serve_requests.specs.Pairs.{ArePairs, IsPair}
use Rattle.std.proofs.lemmas.Bool.Decides.{nat_tests}
use Rattle.std.proofs.lemmas.Bool.{and_from}
use Rattle.task_group.specs.Listeners.{errors_of, ToldListeners, AnsweredErr, Listeners}
use Rattle.task_loop.proofs.MainToldLemmas.{told_step, refused_notices, started_notices}
use Rattle.task_loop.proofs.ToldLemmas.{running_asked}
use Rattle.task_loop.specs.Constants.{constants}
use Rattle.machine_data.specs.Write.{take_result, set_trapped}
use Rattle.machine_data.specs.declared.component.HostDef.{HostDef}
use Rattle.machine_data.specs.declared.label.Label.TheVariants as label
use Rattle.machine_data.specs.declared.label.MainLabel.TheVariants as main_label
use Rattle.machine_data.specs.declared.records.Turn.TheVariants as turn
use Rattle.machine_data.specs.declared.trap.Trap.{Trap}
use Rattle.task_nursery.proofs.ScopeLemmas.{less_or, made_thread}
use Rattle.task_nursery.proofs.TurnLemmas.{numbered_set}
use Rattle.machine_rules.specs.MainOps as row
use Rattle.machine_rules.specs.MainOps.{is_refusal, main_started, refusal, start_refusal}
use Rattle.machine_rules.specs.Turns.{at_turn}
use Rattle.core_primitives.specs.Groups.{IsAsked}
use Rattle.task_store.specs.Hosts.{HoldsHosts}
use Rattle.task_store.specs.declared.store.Store.{Store}
use Rattle.ops_turns.specs.Main.{Did, Answers, Steps}
use Rattle.ops_turns.specs.Turn.{running_of, CoreInOrder, given}
use Rattle.ops_turns.specs.declared.mains.MainStep.TheVariants as step
use Rattle.ops_state.specs.declared.error.TaskError.TheVariants as faults
use Rattle.task_loop.proofs.StartLemmas.{start_current}
use Rattle.task_loop.specs.Told.{main_notices}
use Rattle.machine_data.specs.declared.component.Callee.{Callee}
use Rattle.machine_data.specs.declared.records.Notice.{Notice}
use Rattle.machine_data.specs.declared.records.NoticeKind.TheVariants as notice
use Rattle.machine_data.specs.declared.trap.Trap.TheVariants as trap
use Rattle.machine_data.specs.Read.{fits}
use Rattle.machine_rules.specs.Calls.{next_thread}
use Rattle.machine_rules.specs.Notices.{told_of}
use Rattle.std.proofs.Common.{get_or}
use Rattle.std.proofs.lemmas.Option.{get_or_from_slice_get, slice_get_within}
use Rattle.task_group.proofs.GroupLemmas.{told-none}
use Rattle.task_nursery.specs.declared.children.Child.{Child}
use Rattle.task_nursery.specs.declared.nursery.NurseryError.{NurseryError}
use Rattle.task_nursery.specs.declared.nursery.NurseryError.TheVariants as nursery_error
use Rattle.ops_turns.specs.Does.{label_of_step}
use Rattle.ops_turns.specs.declared.mains.MainStep.{MainStep}
use Rattle.core_primitives.specs.StateView.{StateView, on_core}

at_place : {A : Type 0} (xs : List A) (k : ℕ) (x : A) → numbered xs k ≡ Some x → (k ≡ suc (k - 1)) × (slice_get xs (k - 1) ≡ Some x)
at_place xs zero x at = absurd (cc)
at_place xs (suc i) x at = let place : i ≡ suc i - 1 = omega arith in (omega arith, subst (λ (j : ℕ). slice_get xs j ≡ Some x) place at)

did_finish_refused : (c : Component) (s : Core) (k : ℕ) (why : Trap) → s.trapped ≡ true → is_refusal why ≡ true → Did c [] Unscripted s (label.Main (main_label.FinishRefused why k)) Unscripted s
unfolding at_turn
did_finish_refused c s k why trapped refusal = record { op = tt; step = (k, (row.Finish (core.Refused why), (and_from s.trapped (is_refusal why) trapped refusal, (refl, refl)))) }

-- The child that has ended is an open call with a result.
pub record Ends (ks : List Kept) (s : Core) (k : ℕ) : Type 0 where
  pub func : Func
  pub call : FuncCallConcurrent
  pub value : ℕ
  pub here : numbered ks k ≡ Some (kept.Call func call)
  pub number : k ≡ suc (k - 1)
  pub place : slice_get ks (k - 1) ≡ Some (kept.Call func call)
  pub result : get s.results call.thread ≡ Some value

valued : (o : Option ℕ) → is_some o ≡ true → (v : ℕ) × (o ≡ Some v)
valued None some = absurd (cc)
valued (Some v) some = (v, refl)

ends_so : (ks : List Kept) (s : Core) (k : ℕ) (x : Kept) → ((i : ℕ) (k : Kept) → slice_get ks i ≡ Some k → IsCall k) → numbered ks k ≡ Some x → has_ended s x ≡ true → Ends ks s k
ends_so ks s k (kept.Call f call) calls here ended =
    let v = valued (get s.results call.thread) ended in
    let at = at_place ks k (kept.Call f call) here in
    record { func = f; call = call; value = v.0; here = here; number = at.0; place = at.1; result = v.1 }
ends_so ks s k (kept.Returned v) calls here ended = absurd (cc)
ends_so ks s k (kept.Work work) calls here ended = absurd (calls (k - 1) (kept.Work work) (at_place ks k (kept.Work work) here).1)
ends_so ks s k kept.Ended calls here ended = absurd (cc)

pub ends_at : (ks : List Kept) (s : Core) (k : ℕ) → ((i : ℕ) (k : Kept) → slice_get ks i ≡ Some k → IsCall k) → first_where (has_ended s) 1 ks ≡ Some k → Ends ks s k
ends_at ks s k calls first =
    let among = first_is_least kids.is_open (has_ended s) (ended_is_open s) ks ∙ first in
    let so = first_is_so (has_ended s) (numbered ks) (numbers_where kids.is_open 1 ks) k among in
    ends_so ks s k so.0 calls so.1.0 so.1.1

-- the thread of the request whose call it is
same_thread : (f : Func) (call : FuncCallConcurrent) (st : Stage) (n : ℕ) → IsPair thread_in (kept.Call f call) st → st ≡ Open n → call.thread ≡ n
same_thread f call st n pair is = let here = subst (λ (e : Stage). IsPair thread_in (kept.Call f call) e) is pair in cc

-- the request of the call that has ended is open
pub ended_stage : (ks : List Kept) (es : List Stage) (s : Core) (k : ℕ) → ArePairs thread_in ks es → (e : Ends ks s k) → slice_get es (k - 1) ≡ Some (Open e.call.thread)
ended_stage ks es s k pairs e =
    let p = pair_at thread_in ks es (k - 1) (kept.Call e.func e.call) pairs e.place in
    p.1 ∙ ap (λ (d : Stage). Some d) (open_stage thread_in (kept.Call e.func e.call) e.call.thread p.0 refl p.2)

-- what is kept of it then
pub ended_kept : (n m : Scope) (s : Core) (k : ℕ) (e : Ends n.children s k) → m ≡ with_ended s k n → m.children ≡ slice_set n.children (k - 1) (kept.Returned e.value)
ended_kept n m s k e scope =
    ap (λ (q : Scope). q.children) scope
    ∙ (ap (λ (o : Option Kept). ended_at s k n.children o) e.here
    ∙ ap (λ (o : Option ℕ). slice_set n.children (k - 1) (kept.Returned (unwrap_or o 0))) e.result)

pub ended_value : (n m : Scope) (s : Core) (k : ℕ) (e : Ends n.children s k) → m ≡ with_ended s k n → option_and_then value_in (numbered m.children k) ≡ Some e.value
ended_value n m s k e scope =
    ap (λ (ks : List Kept). option_and_then value_in (numbered ks k)) (ended_kept n m s k e scope)
    ∙ ap (λ (o : Option Kept). option_and_then value_in o) (numbered_set n.children k (kept.Call e.func e.call) (kept.Returned e.value) e.here)

-- the call that was started is the request's
started_call : (c : Component) (r : Request) (s t : StateView) (o : Option Trap) (n : ℕ) → Starts c (callee_named r) r.params s o (Ok n) t → IsCallOf r n t.core
started_call c r s t (Some why) n starts = absurd (let clash = starts.0 in cc)
started_call c r s t None n starts =
    subst (λ (u : Core). IsCallOf r n u) (sym starts.1.core) (subst (λ (q : ℕ). IsCallOf r q (main_started c (callee_named r) r.params s.core)) (sym starts.0) (call_made_of c r s.core))

refused_so : (b d : Bool) (why : Trap) → refusal b d ≡ Some why → is_refusal why ≡ true
refused_so true d why is = let same : trap.CannotEnterComponent ≡ why = cc in ap is_refusal (sym same)
refused_so false true why is = absurd (cc)
refused_so false false why is = let same : trap.TableFull ≡ why = cc in ap is_refusal (sym same)

cause_of : (c : Component) (e : Callee) (words : List ℕ) (s t : StateView) (why : Trap) (o : Option Trap) → Starts c e words s o (Err (faults.Trap why)) t → o ≡ Some why
cause_of c e words s t why None starts = absurd (let clash = starts.0 in cc)
cause_of c e words s t why (Some other) starts = let clash = starts.0 in let same : why ≡ other = cc in ap (λ (w : Trap). Some w) (sym same)

pub refusal_is : (c : Component) (e : Callee) (words : List ℕ) (s t : StateView) (why : Trap) → Starts c e words s (start_refusal s.core) (Err (faults.Trap why)) t → is_refusal why ≡ true
unfolding start_refusal
refusal_is c e words s t why starts = refused_so s.core.trapped (fits 4 s.core) why (cause_of c e words s t why (refusal s.core.trapped (fits 4 s.core)) starts)

-- a trapped store starts nothing
pub none_started : (c : Component) (e : Callee) (words : List ℕ) (s t : StateView) (n : ℕ) → s.core.trapped ≡ true → Starts c e words s (start_refusal s.core) (Ok n) t → ⊥
unfolding start_refusal
none_started c e words s t n trapped starts =
    let now = subst (λ (b : Bool). Starts c e words s (refusal b (fits 4 s.core)) (Ok n) t) trapped starts in
    absurd (let clash = now.0 in cc)

-- where no call has ended, none has a result
abbrev NoneFirst : {A : Type 0} → (A → Bool) → List A → Type 0
NoneFirst {A} f xs = (i : ℕ) (x : A) → slice_get xs i ≡ Some x → f x ≡ false

first_one : {A : Type 0} (f : A → Bool) (n : ℕ) (y : A) (ys : List A) (b : Bool) → f y ≡ b → (first_where f (suc n) ys ≡ None → NoneFirst f ys) → (if b then Some n else first_where f (suc n) ys) ≡ None → NoneFirst f (y ∷ ys)
first_one f n y ys true is rest none i x at = absurd (cc)
first_one {A} f n y ys false is rest none zero x at = let same : y ≡ x = cc in subst (λ (z : A). f z ≡ false) same is
first_one f n y ys false is rest none (suc i) x at = rest none i x at

none_first : {A : Type 0} (f : A → Bool) (n : ℕ) (xs : List A) → first_where f n xs ≡ None → NoneFirst f xs
none_first f n [] none = λ i x at. absurd (cc)
none_first f n (y ∷ ys) none = first_one f n y ys (f y) refl (none_first f (suc n) ys) none

none_there : (o : Option ℕ) → is_some o ≡ false → o ≡ None
none_there None e = refl
none_there (Some v) e = absurd (cc)

unended : (s : Core) (k : Kept) (n : ℕ) → thread_in k ≡ Some n → has_ended s k ≡ false → get s.results n ≡ None
unended s (kept.Call f call) n is ended = let same : call.thread ≡ n = cc in subst (λ (q : ℕ). get s.results q ≡ None) same (none_there (get s.results call.thread) ended)
unended s (kept.Returned v) n is ended = absurd (cc)
unended s (kept.Work work) n is ended = absurd (cc)
unended s kept.Ended n is ended = absurd (cc)

pub none_ended : (ks : List Kept) (es : List Stage) (s : Core) (i n : ℕ) → ArePairs thread_in ks es → first_where (has_ended s) 1 ks ≡ None → slice_get es i ≡ Some (Open n) → get s.results n ≡ None
none_ended ks es s i n pairs none at =
    let k = open_at thread_in ks es i n pairs at in
    unended s k.0 n k.2 (none_first (has_ended s) 1 ks none i k.0 k.1)

-- as many calls are open in the scope as requests
calls_counted : (ks : List Kept) → count_where is_open_call ks ≡ how_many (λ k. is_some (thread_in k)) ks
calls_counted [] = refl
calls_counted (kept.Call f call ∷ ks) = let rest = calls_counted ks in omega (arith, rest)
calls_counted (kept.Returned v ∷ ks) = let rest = calls_counted ks in omega (arith, rest)
calls_counted (kept.Work work ∷ ks) = let rest = calls_counted ks in omega (arith, rest)
calls_counted (kept.Ended ∷ ks) = let rest = calls_counted ks in omega (arith, rest)

pub as_many_calls : (ks : List Kept) (es : List Stage) → ArePairs thread_in ks es → count_where is_open_call ks ≡ how_many is_open es
as_many_calls ks es pairs = calls_counted ks ∙ as_many_open thread_in ks es pairs

some_stage : (es : List Stage) (i : ℕ) (o : Option Stage) → slice_get es i ≡ o → i < length es → (e : Stage) × (slice_get es i ≡ Some e)
some_stage es i (Some e) at within = (e, at)
some_stage [] i None at within = absurd (omega (arith, within))
some_stage (d ∷ es) zero None at within = absurd (cc)
some_stage (d ∷ es) (suc i) None at within = some_stage es i None at (omega (arith, within))

-- where each request was started, none waits
all_begun : (m : ServerMain) (i : ℕ) → KeepsReplies thread_in IsCall m.requests.now m.nursery.children m.stages.items m.started m.replied m.due m.declined → slice_get m.stages.items i ≡ Some Waits → length m.requests.now ≤ m.started → ⊥
all_begun m i keeps at all =
    let late = keeps.begun i at in
    let within = slice_get_within m.stages.items i Waits at in
    let size = keeps.size in
    omega (arith, late, within, size, all)

one_at_most : (b : Bool) (n k : ℕ) → n ≤ k → (if b then 1 else 0) + n ≤ suc k
one_at_most true n k le = omega (arith, le)
one_at_most false n k le = omega (arith, le)

at_most : (es : List Stage) → how_many is_replied es ≤ length es
at_most [] = omega arith
at_most (e ∷ es) = one_at_most (is_replied e) (how_many is_replied es) (length es) (at_most es)

-- few replies are there
pub few_replied : (rs : List Request) (ks : List Kept) (es : List Stage) (started replied : ℕ) (due declined : Bool) → KeepsReplies thread_in IsCall rs ks es started replied due declined → replied ≤ 10000
few_replied rs ks es started replied due declined keeps =
    let most = at_most es in let counts = keeps.counts in let size = keeps.size in let few = keeps.few in omega (arith, most, counts, size, few)

-- the refusal that is due is that of the last request
pub refusal_due : (rs : List Request) (ks : List Kept) (es : List Stage) (started replied : ℕ) (due declined : Bool) → KeepsReplies thread_in IsCall rs ks es started replied due declined → due ≡ true → (e : Stage) (why : Trap) → e ≡ get_or es (started - 1) e →
    e ≡ Declined why → (started ≡ suc (started - 1)) × (slice_get es (started - 1) ≡ Some (Declined why)) × (is_refusal why ≡ true)
refusal_due rs ks es started replied due declined keeps is e why read found =
    let d = keeps.due_is is in
    let last = d.2 in
    let place : d.0 ≡ started - 1 = omega (arith, last) in
    let here : slice_get es (started - 1) ≡ Some (Declined d.1) = subst (λ (i : ℕ). slice_get es i ≡ Some (Declined d.1)) place d.3 in
    let value = get_or_from_slice_get es (started - 1) (Declined d.1) e here in
    let one : Declined d.1 ≡ Declined why = sym value ∙ (sym read ∙ found) in
    let same : d.1 ≡ why = cc in
    (omega (arith, last), here ∙ ap (λ (w : Trap). Some (Declined w)) same, subst (λ (w : Trap). is_refusal w ≡ true) same d.4)

-- what of main a step leaves
pub record Left (m n : ServerMain) (children : List Kept) (es : List Stage) (started replied : ℕ) (due declined : Bool) : Type 0 where
  pub requests : n.requests ≡ m.requests
  pub limit : n.nursery.limit ≡ m.nursery.limit
  pub unclosed : n.nursery.closed ≡ m.nursery.closed
  pub children_are : n.nursery.children ≡ children
  pub stages_are : n.stages.items ≡ es
  pub started_is : n.started ≡ started
  pub replied_is : n.replied ≡ replied
  pub due_is : n.due ≡ due
  pub declined_is : n.declined ≡ declined

pub knows_left : (m n : ServerMain) (s t : StateView) (ks : List Kept) (es : List Stage) (started replied : ℕ) (due declined : Bool) → Left m n ks es started replied due declined → IsOf n.nursery t → Knows m s →
    KeepsReplies thread_in IsCall m.requests.now ks es started replied due declined → Knows n t
knows_left m n s t ks es started replied due declined left of knows keeps = record {
  of = of;
  unclosed = left.unclosed ∙ knows.unclosed;
  keeps = rw (left.requests, left.children_are, left.stages_are, left.started_is, left.replied_is, left.due_is, left.declined_is) keeps;
}

module _ {T H G : Type 0} (course : H → HostDef) (c : Component) (m n : ServerMain) (s t : Store T H G) (may : MayStep course c m s) where
  -- ---- A finish

  pub finish_stepped : (k v thread : ℕ) (e : Ends m.nursery.children s.state.core k) → n.nursery ≡ with_ended s.state.core k m.nursery → t.state ≡ on_core (after_end k m.nursery) s.state →
      slice_get m.stages.items (k - 1) ≡ Some (Open thread) → v ≡ e.value → n.requests ≡ m.requests → n.stages.items ≡ slice_set m.stages.items (k - 1) (Answered thread v) → n.started ≡ m.started → n.replied ≡ m.replied + 1 →
      n.due ≡ m.due → n.declined ≡ m.declined → IsOf n.nursery t.state → t ≡ record s { state = t.state; works = t.works } → HoldsHosts course t → IsAsked t.state →
      HasStepResult course c m s (step.Did (label.Main (main_label.Finish k v))) n t
  finish_stepped k v thread e scope state stage value requests stages started replied due declined of rest hosts groups =
      let here = ended_stage m.nursery.children m.stages.items s.state.core k may.knows.keeps.pairs e in
      let same : e.call.thread ≡ thread = cc in
      let children = ended_kept m.nursery n.nursery s.state.core k e scope in
      let taken : t.state ≡ on_core (take_result e.call.thread) s.state = state ∙ ap (λ (o : Option Kept). on_core (left_at o) s.state) e.here in
      let returned : get s.state.core.results e.call.thread ≡ Some v = e.result ∙ ap (λ (w : ℕ). Some w) (sym value) in
      let steps = did_finish c s.state t.state e.call.thread k v (returned, taken) in
      let still : t.listeners ≡ s.listeners = ap (λ (q : Store T H G). q.listeners) rest in
      record {
        constants_stay = ap constants rest;
        requests = requests;
        limit = ap (λ (q : Scope). q.limit) scope;
        knows = knows_left m n s.state t.state _ _ _ _ _ _
            (record { requests = requests; limit = ap (λ (q : Scope). q.limit) scope; unclosed = ap (λ (q : Scope). q.closed) scope; children_are = children; stages_are = stages; started_is = started; replied_is = replied; due_is = due; declined_is = declined })
            of may.knows
            (keeps_finish thread_in IsCall m.requests.now m.nursery.children m.stages.items m.started m.replied m.due m.declined may.knows.keeps (k - 1) thread v (kept.Call e.func e.call) (kept.Returned e.value) refl tt e.place stage);
        hosts = hosts;
        groups = groups;
        current = ap running_of taken;
        steps = steps;
        serves = record {
          place = k - 1;
          thread = thread;
          moves = record { number = e.number; was = stage; now = stages };
          returned = subst (λ (q : ℕ). get s.state.core.results q ≡ Some v) same returned;
        };
        told = told_step c [] Unscripted s.state Unscripted t.state s.listeners t.listeners still (step.Did (label.Main (main_label.Finish k v))) steps refl;
        hook_is_ok = λ fine. ap errors_of still;
      }

  -- ---- A refusal is replied

  pub refusal_stepped : (p : ℕ) (why : Trap) → t ≡ s → s.state.core.trapped ≡ true → m.started ≡ suc p → slice_get m.stages.items p ≡ Some (Declined why) → is_refusal why ≡ true → n.nursery ≡ m.nursery → n.requests ≡ m.requests →
      n.stages.items ≡ slice_set m.stages.items p (Refused why) → n.started ≡ m.started → n.replied ≡ m.replied + 1 → n.due ≡ false → n.declined ≡ m.declined →
      HasStepResult course c m s (step.Did (label.Main (main_label.FinishRefused why m.started))) n t
  refusal_stepped p why same trapped last stage refusal nursery requests stages started replied due declined =
      let steps = subst (λ (q : Store T H G). Did c [] Unscripted s.state.core (label.Main (main_label.FinishRefused why m.started)) Unscripted q.state.core) (sym same) (did_finish_refused c s.state.core m.started why trapped refusal) in
      record {
        constants_stay = ap constants same;
        requests = requests;
        limit = ap (λ (q : Scope). q.limit) nursery;
        knows = knows_left m n s.state t.state _ _ _ _ _ _
            (record { requests = requests; limit = ap (λ (q : Scope). q.limit) nursery; unclosed = ap (λ (q : Scope). q.closed) nursery; children_are = ap (λ (q : Scope). q.children) nursery; stages_are = stages; started_is = started; replied_is = replied; due_is = due; declined_is = declined })
            (rw (nursery, same) may.knows.of) may.knows
            (keeps_refused thread_in IsCall m.requests.now m.nursery.children m.stages.items m.started m.replied m.due m.declined may.knows.keeps p why last stage);
        hosts = rw same may.hosts;
        groups = rw same may.groups;
        current = ap (λ (q : Store T H G). running_of q.state) same;
        steps = steps;
        serves = record { place = p; moves = record { number = last; was = stage; now = stages } };
        told = told_step c [] Unscripted s.state Unscripted t.state s.listeners t.listeners (ap (λ (q : Store T H G). q.listeners) same) (step.Did (label.Main (main_label.FinishRefused why m.started))) steps refl;
        hook_is_ok = λ fine. ap (λ (q : Store T H G). errors_of q.listeners) same;
      }

  -- ---- A start

  pub start_stepped : (k thread : ℕ) (r : Request) (call : FuncCallConcurrent) → k ≡ suc m.started → thread ≡ call.thread → slice_get m.requests.now m.started ≡ Some r → slice_get m.stages.items m.started ≡ Some Waits →
      m.due ≡ false → m.declined ≡ false → how_many is_open m.stages.items < m.nursery.limit → n.nursery ≡ with_child (kept.Call (func_of r) call) m.nursery → n.requests ≡ m.requests →
      n.stages.items ≡ slice_set m.stages.items m.started (Open thread) → n.started ≡ m.started + 1 → n.replied ≡ m.replied → n.due ≡ m.due → n.declined ≡ m.declined → IsOf n.nursery t.state →
      Starts c (callee_named r) r.params s.state (start_refusal s.state.core) (Ok call.thread) t.state → ToldListeners (told_of notice.Start (s.state.core.made.groups + 1) ∷ []) s.listeners t.listeners →
      errors_of t.listeners ≡ errors_of s.listeners → t ≡ record s { state = t.state; listeners = t.listeners } → HoldsHosts course t → IsAsked t.state →
      HasStepResult course c m s (step.Did (label.Main (main_label.Start k thread))) n t
  start_stepped k thread r call number mine there waits undue fine room scope requests stages started replied due declined of starts told hook_is_ok rest hosts groups =
      let takes = may.suits m.started r there in
      let words = takes_these c (func_of r) (length r.params) (record { there = takes.there; takes = takes.params }) in
      let steps = subst (λ (q : ℕ). Did c [] Unscripted s.state.core (label.Main (main_label.Start k q)) Unscripted t.state.core) (sym mine)
      (did_start c (callee_named r) r.params s.state t.state k words call.thread starts) in
      let made = started_call c r s.state t.state (start_refusal s.state.core) call.thread starts in
      let notices = started_notices c (callee_named r) r.params s.state t.state k (start_refusal s.state.core) call.thread starts in
      record {
        constants_stay = ap constants rest;
        requests = requests;
        limit = ap (λ (q : Scope). q.limit) scope;
        knows = knows_left m n s.state t.state _ _ _ _ _ _
            (record { requests = requests; limit = ap (λ (q : Scope). q.limit) scope; unclosed = ap (λ (q : Scope). q.closed) scope; children_are = ap (λ (q : Scope). q.children) scope; stages_are = stages ∙ ap (λ (q : ℕ). slice_set m.stages.items m.started (Open q)) mine; started_is = started; replied_is = replied; due_is = due; declined_is = declined })
            of may.knows
            (keeps_open thread_in IsCall m.requests.now m.nursery.children m.stages.items m.started m.replied m.due m.declined may.knows.keeps undue waits (kept.Call (func_of r) call) call.thread refl tt fine);
        hosts = hosts;
        groups = groups;
        current = start_current c (callee_named r) r.params s.state t.state (start_refusal s.state.core) (Ok call.thread) may.current starts ∙ sym may.current;
        steps = steps;
        serves = record {
          place = m.started;
          moves = record { number = number; was = waits; now = stages };
          room = room;
          call = subst (λ (o : Option Request). IfSome o (λ q. IsCallOf q thread t.state.core)) (sym there) (subst (λ (q : ℕ). IsCallOf r q t.state.core) (sym mine) made);
        };
        told = subst (λ (q : ℕ). ToldListeners (main_notices (step.Did (label.Main (main_label.Start k q))) s.state.core t.state.core) s.listeners t.listeners) (sym mine)
            (subst (λ (ns : List Notice). ToldListeners ns s.listeners t.listeners) notices told);
        hook_is_ok = λ same. hook_is_ok;
      }

  -- ---- A start that is refused

  pub declined_stepped : (k : ℕ) (why : Trap) (r : Request) → k ≡ suc m.started → slice_get m.requests.now m.started ≡ Some r → slice_get m.stages.items m.started ≡ Some Waits → m.due ≡ false → n.nursery ≡ m.nursery → n.requests ≡ m.requests →
      n.stages.items ≡ slice_set m.stages.items m.started (Declined why) → n.started ≡ m.started + 1 → n.replied ≡ m.replied → n.due ≡ true → n.declined ≡ true → IsOf n.nursery t.state →
      StopsCall c (func_of r) r.params s (faults.Trap why) t → ToldListeners (finishes s.state.tags.tracked) s.listeners t.listeners →
      t ≡ record s { state = t.state; listeners = t.listeners } → HoldsHosts course t → IsAsked t.state →
      HasStepResult course c m s (step.Did (label.Main (main_label.StartRefused why k))) n t
  declined_stepped k why r number there waits undue nursery requests stages started replied due declined of stops told rest hosts groups =
      let takes = may.suits m.started r there in
      let words = takes_these c (func_of r) (length r.params) (record { there = takes.there; takes = takes.params }) in
      let u = on_core set_trapped s.state in
      let starts = stops.0 in
      let left = stops.1 in
      let notices = ap finishes may.groups ∙ (refused_notices c (callee_named r) r.params s.state u k (start_refusal s.state.core) why starts
      ∙ sym (ap (λ (v : StateView). main_notices (step.Did (label.Main (main_label.StartRefused why k))) s.state.core v.core) left)) in
      record {
        constants_stay = ap constants rest;
        requests = requests;
        limit = ap (λ (q : Scope). q.limit) nursery;
        knows = knows_left m n s.state t.state _ _ _ _ _ _
            (record { requests = requests; limit = ap (λ (q : Scope). q.limit) nursery; unclosed = ap (λ (q : Scope). q.closed) nursery; children_are = ap (λ (q : Scope). q.children) nursery; stages_are = stages; started_is = started; replied_is = replied; due_is = due; declined_is = declined })
            of may.knows
            (keeps_declined thread_in IsCall m.requests.now m.nursery.children m.stages.items m.started m.replied m.due m.declined may.knows.keeps undue waits why (refusal_is c (callee_named r) r.params s.state u why starts));
        hosts = hosts;
        groups = groups;
        current = ap running_of left ∙ (running_asked u ∙ (start_current c (callee_named r) r.params s.state u (start_refusal s.state.core) (Err (faults.Trap why)) may.current starts ∙ sym may.current));
        steps = subst (λ (v : StateView). Did c [] Unscripted s.state.core (label.Main (main_label.StartRefused why k)) Unscripted v.core) (sym left) (did_refuse c (callee_named r) r.params s.state u k words why starts);
        serves = record { place = m.started; moves = record { number = number; was = waits; now = stages } };
        told = subst (λ (ns : List Notice). ToldListeners ns s.listeners t.listeners) notices told;
        hook_is_ok = λ same. absurd (cc);
      }

  -- ---- An answer, and a wait

  pub answer_stepped : n ≡ m → t ≡ s → m.replied ≡ length m.requests.now → HasStepResult course c m s (step.Answer m.replied) n t
  answer_stepped same store all =
      let keeps = may.knows.keeps in
      let size = keeps.size in
      let counts = keeps.counts in
      let steps = subst (λ (q : Core). Answers c [] Unscripted s.state.core m.replied Unscripted q) (ap (λ (q : Store T H G). q.state.core) (sym store)) (answers_now c s.state.core m.replied) in
      record {
        constants_stay = ap constants store;
        requests = ap (λ (q : ServerMain). q.requests) same;
        limit = ap (λ (q : ServerMain). q.nursery.limit) same;
        knows = rw (same, store) may.knows;
        hosts = rw store may.hosts;
        groups = rw store may.groups;
        current = ap (λ (q : Store T H G). running_of q.state) store;
        steps = steps;
        serves = record {
          same = ap (λ (q : ServerMain). q.stages.items) same;
          number = all;
          all = λ i e at. all_so is_replied m.stages.items i e (omega (arith, size, counts, all)) at;
        };
        told = rw store (told-none s.listeners);
        hook_is_ok = λ fine. ap (λ (q : Store T H G). errors_of q.listeners) store;
      }

  pub wait_stepped : n ≡ m → t ≡ s → m.due ≡ false → NoneReturned m s.state.core → IsBusy m → m.replied ≢ length m.requests.now → HasStepResult course c m s step.Pends n t
  wait_stepped same store undue none busy some =
      let keeps = may.knows.keeps in
      let size = keeps.size in
      let counts = keeps.counts in
      let many = as_many_calls m.nursery.children m.stages.items keeps.pairs in
      let left = some_not is_replied m.stages.items (λ every. some (counts ∙ (every ∙ size))) in
      record {
        constants_stay = ap constants store;
        requests = ap (λ (q : ServerMain). q.requests) same;
        limit = ap (λ (q : ServerMain). q.nursery.limit) same;
        knows = rw (same, store) may.knows;
        hosts = rw store may.hosts;
        groups = rw store may.groups;
        current = ap (λ (q : Store T H G). running_of q.state) store;
        steps = record { part = refl; core = ap (λ (q : Store T H G). q.state.core) store; pends = refl };
        serves = record {
          same = ap (λ (q : ServerMain). q.stages.items) same;
          none_returned = λ i j at. none_ended m.nursery.children m.stages.items s.state.core i j keeps.pairs none at;
          none_due = keeps.none_due undue;
          busy = ⊎_elim (λ full. inl (omega (arith, full, many))) (λ all. inr (λ i at. all_begun m i may.knows.keeps at all)) busy;
          at = left.0;
          stage = left.1;
          there = left.2;
          unreplied = left.3;
        };
        told = rw store (told-none s.listeners);
        hook_is_ok = λ fine. ap (λ (q : Store T H G). errors_of q.listeners) store;
      }

module _ {T H G : Type 0} (course : H → HostDef) (c : Component) (m : ServerMain) (s : Store T H G) where
  -- ---- Nothing was done yet

  pub waited_by : (n : ServerMain) (t : Store T H G) → n ≡ m → t.state ≡ s.state → t.listeners ≡ s.listeners → constants t ≡ constants s → HoldsHosts course t → MayStep course c m s → HasWaited course c m s n t
  waited_by n t same state told constants_stay hosts may = record {
    may = record {
      covered = may.covered;
      order = subst (λ (u : StateView). CoreInOrder c turn.Main u.core) (sym state) may.order;
      suits = subst (λ (q : ServerMain). Suits q c) (sym same) may.suits;
      knows = subst (λ (u : StateView). Knows n u) (sym state) (subst (λ (q : ServerMain). Knows q s.state) (sym same) may.knows);
      hosts = hosts;
      groups = subst (λ (u : StateView). IsAsked u) (sym state) may.groups;
      current = ap running_of state ∙ may.current;
      given = subst (λ (u : StateView). given u.core + 4 < 2 ^ 61) (sym state) may.given;
    };
    same = same;
    state = state;
    listeners = told;
    constants_stay = constants_stay;
  }

  module _ (n : ServerMain) (t : Store T H G) (waited : HasWaited course c m s n t) where
    -- a step after that is one from here
    pub stepped_after : (x : MainStep) (p : ServerMain) (u : Store T H G) → HasStepResult course c n t x p u → HasStepResult course c m s x p u
    stepped_after x p u h = record {
      constants_stay = h.constants_stay ∙ waited.constants_stay;
      requests = h.requests ∙ ap (λ (q : ServerMain). q.requests) waited.same;
      limit = h.limit ∙ ap (λ (q : ServerMain). q.nursery.limit) waited.same;
      knows = h.knows;
      hosts = h.hosts;
      groups = h.groups;
      current = h.current ∙ ap running_of waited.state;
      steps = subst (λ (v : StateView). Steps c [] Unscripted v.core x Unscripted u.state.core) waited.state h.steps;
      serves = subst (λ (v : StateView). Serves (asked m) m.stages.items v.core (label_of_step x) p.stages.items u.state.core) waited.state
          (subst (λ (q : ServerMain). Serves (asked q) q.stages.items t.state.core (label_of_step x) p.stages.items u.state.core) waited.same h.serves);
      told = subst (λ (l : Listeners). ToldListeners (main_notices x s.state.core u.state.core) l u.listeners) waited.listeners
          (subst (λ (v : StateView). ToldListeners (main_notices x v.core u.state.core) t.listeners u.listeners) waited.state h.told);
      hook_is_ok = λ fine. h.hook_is_ok fine ∙ ap errors_of waited.listeners;
    }

    pub waited_after : (p : ServerMain) (u : Store T H G) → HasWaited course c n t p u → HasWaited course c m s p u
    waited_after p u h = record {
      may = h.may;
      same = h.same ∙ waited.same;
      state = h.state ∙ waited.state;
      listeners = h.listeners ∙ waited.listeners;
      constants_stay = h.constants_stay ∙ waited.constants_stay;
    }

-- ---- What a start in the scope results in

module _ {T H G : Type 0} (n m : Scope) (s t : Store T H G) (unclosed : n.closed ≡ false) where
  -- a start that isn't refused as Full found room
  pub has_room : (r : Result Child NurseryError) → Refuses n s r m t → (r ≡ Err nursery_error.Full → ⊥) → count_where is_open_call n.children < n.limit
  has_room r refuses other = ⊎_elim (λ lt. lt) (λ le. absurd (other (refuses.full unclosed le).0)) (less_or (count_where is_open_call n.children) n.limit)

  -- else none was there, and nothing was done
  pub was_full : (c : Component) (f : Func) (words : List ℕ) (r : Result Child NurseryError) → Refuses n s r m t → (ScopeBegins c f words n s r m t → ⊥) → (count_where is_open_call n.children < n.limit → ScopeBegins c f words n s r m t) →
      (n.limit ≤ count_where is_open_call n.children) × (t ≡ s)
  was_full c f words r refuses none begins =
      ⊎_elim (λ lt. absurd (none (begins lt))) (λ le. (le, (refuses.full unclosed le).1)) (less_or (count_where is_open_call n.children) n.limit)

-- ---- What the nursery's clauses result in

not_so : (b : Bool) → (b ≡ true → ⊥) → b ≡ false
not_so true no_more = absurd (no_more refl)
not_so false no_more = refl

-- no error was answered
same_errors : {T H G : Type 0} (ns : List Notice) (s t : Store T H G) → ToldListeners ns s.listeners t.listeners → (AnsweredErr s.listeners t.listeners → ⊥) → errors_of t.listeners ≡ errors_of s.listeners
same_errors ns s t told hook_is_ok =
    let least = told.errors in
    ⊎_elim (λ lt. absurd (hook_is_ok lt)) (λ le. omega (arith, le, least)) (less_or (errors_of s.listeners) (errors_of t.listeners))

-- the next request waits
waits_at : (rs : List Request) (ks : List Kept) (es : List Stage) (started replied : ℕ) (due declined : Bool) (r : Request) → KeepsReplies thread_in IsCall rs ks es started replied due declined → slice_get rs started ≡ Some r → slice_get es started ≡ Some Waits
waits_at rs ks es started replied due declined r keeps there =
    let within = slice_get_within rs started r there in
    let size = keeps.size in
    let e = some_stage es started (slice_get es started) refl (omega (arith, within, size)) in
    e.1 ∙ ap (λ (d : Stage). Some d) (keeps.waiting started e.0 e.1 (omega arith))

module _ {T H G : Type 0} (course : H → HostDef) (c : Component) (m n : ServerMain) (s t : Store T H G) (may : MayStep course c m s) (r : Request) (there : slice_get m.requests.now m.started ≡ Some r) (undue : m.due ≡ false) where
  next_waits : slice_get m.stages.items m.started ≡ Some Waits
  next_waits = waits_at m.requests.now m.nursery.children m.stages.items m.started m.replied m.due m.declined r may.knows.keeps there

  pub begun_thread : (scope : Scope) (left : Store T H G) (child : Child) → Refuses m.nursery s (Ok child) scope left →
      (m.nursery.closed ≡ false → count_where is_open_call m.nursery.children < m.nursery.limit → ScopeBegins c (func_of r) r.params m.nursery s (Ok child) scope left) →
      (k : ℕ) × (option_and_then thread_in (numbered scope.children child.number) ≡ Some k)
  begun_thread scope left child refuses begins =
      let room = has_room m.nursery scope s left may.knows.unclosed (Ok child) refuses (λ clash. absurd (cc)) in
      let b = begins may.knows.unclosed room in
      (b.0.thread, made_thread m.nursery scope (func_of r) b.0 child b.1 b.2)

  pub begun_stepped : (child : Child) (thread k : ℕ) → k ≡ suc m.started → (m.declined ≡ true → s.state.core.trapped ≡ true) → Refuses m.nursery s (Ok child) n.nursery t →
      (m.nursery.closed ≡ false → count_where is_open_call m.nursery.children < m.nursery.limit → ScopeBegins c (func_of r) r.params m.nursery s (Ok child) n.nursery t) →
      Some thread ≡ option_and_then thread_in (numbered n.nursery.children child.number) → IsOf n.nursery t.state → (IsAsked s.state → TellsStart (Ok child) s t) →
      t ≡ record s { state = t.state; listeners = t.listeners } → HoldsHosts course t → IsAsked t.state → n.requests ≡ m.requests → n.stages.items ≡ slice_set m.stages.items m.started (Open thread) →
      n.started ≡ m.started + 1 → n.replied ≡ m.replied → n.due ≡ m.due → n.declined ≡ m.declined → HasStepResult course c m s (step.Did (label.Main (main_label.Start k thread))) n t
  begun_stepped child thread k number trapped refuses begins found of tells rest hosts groups requests stages started replied due declined =
      let room = has_room m.nursery n.nursery s t may.knows.unclosed (Ok child) refuses (λ clash. absurd (cc)) in
      let b = begins may.knows.unclosed room in
      let is = found ∙ made_thread m.nursery n.nursery (func_of r) b.0 child b.1 b.2 in
      let mine : thread ≡ b.0.thread = cc in
      let fine = not_so m.declined (λ so. none_started c (callee_named r) r.params s.state t.state b.0.thread (trapped so) b.3) in
      let told = tells may.groups in
      let many = as_many_calls m.nursery.children m.stages.items may.knows.keeps.pairs in
      start_stepped course c m n s t may k thread r b.0 number mine there next_waits undue fine (omega (arith, room, many)) b.1 requests stages started replied due declined of b.3 told.0
      (same_errors _ s t told.0 told.1) rest hosts groups

  pub refused_stepped : (why : Trap) (k : ℕ) → k ≡ suc m.started → Refuses m.nursery s (Err (nursery_error.Trap why)) n.nursery t →
      (m.nursery.closed ≡ false → count_where is_open_call m.nursery.children < m.nursery.limit → ScopeBegins c (func_of r) r.params m.nursery s (Err (nursery_error.Trap why)) n.nursery t) →
      IsOf n.nursery t.state → (IsAsked s.state → TellsStart (Err (nursery_error.Trap why)) s t) →
      t ≡ record s { state = t.state; listeners = t.listeners } → HoldsHosts course t → IsAsked t.state → n.requests ≡ m.requests → n.stages.items ≡ slice_set m.stages.items m.started (Declined why) →
      n.started ≡ m.started + 1 → n.replied ≡ m.replied → n.due ≡ true → n.declined ≡ true → HasStepResult course c m s (step.Did (label.Main (main_label.StartRefused why k))) n t
  refused_stepped why k number refuses begins of tells rest hosts groups requests stages started replied due declined =
      let room = has_room m.nursery n.nursery s t may.knows.unclosed (Err (nursery_error.Trap why)) refuses (λ clash. absurd (cc)) in
      declined_stepped course c m n s t may k why r number there next_waits undue refuses.same requests stages started replied due declined of (begins may.knows.unclosed room) (tells may.groups) rest hosts groups

-- the call that has ended by a turn
module _ {T H G : Type 0} (course : H → HostDef) (c : Component) (m : ServerMain) (s : Store T H G) (may : MayStep course c m s) (k : ℕ) (first : first_where (has_ended s.state.core) 1 m.nursery.children ≡ Some k) where
  pub turned : Ends m.nursery.children s.state.core k
  turned = ends_at m.nursery.children s.state.core k may.knows.keeps.calls first

  pub turned_stage : slice_get m.stages.items (k - 1) ≡ Some (Open turned.call.thread)
  turned_stage = ended_stage m.nursery.children m.stages.items s.state.core k may.knows.keeps.pairs turned

  pub turned_within : k - 1 < length m.stages.items
  turned_within = slice_get_within m.stages.items (k - 1) (Open turned.call.thread) turned_stage

  -- its value
  pub turned_value : (n : Scope) → n ≡ with_ended s.state.core k m.nursery → option_and_then value_in (numbered n.children k) ≡ Some turned.value
  turned_value n scope = ended_value m.nursery n s.state.core k turned scope

  -- the stage that is read there
  pub turned_read : (e : Stage) → e ≡ get_or m.stages.items (k - 1) e → e ≡ Open turned.call.thread
  turned_read e read = read ∙ get_or_from_slice_get m.stages.items (k - 1) (Open turned.call.thread) e turned_stage

  -- so the thread that it names is that of the call
  pub turned_thread : (e : Stage) (thread : ℕ) → e ≡ get_or m.stages.items (k - 1) e → e ≡ Open thread → slice_get m.stages.items (k - 1) ≡ Some (Open thread)
  turned_thread e thread read is = turned_stage ∙ ap (λ (d : Stage). Some d) (sym (turned_read e read) ∙ is)
