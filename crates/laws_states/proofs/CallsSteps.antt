-- Calls along the primitives of a step, along steps and along runs.
use Rattle.machine_data.specs.declared.scenario.Version.{Version}
use Rattle.laws_states.proofs.Rules.{[], after_primitive, Allowed, along, arith, base_at, Call, CallEnd, CallsRise, CodesInCallbacks, Component, component_of, Core, DeliveredByCallback, ends_activation, ExplicitNamesNoCall, false, fresh, get, get-empty, is_async_lifted, is_callback, kind_of, Label, LastPrimitives, LaterBy, le_refl, le_trans, List, MayDeliver, MayEnd, never_fewer, Op, op_of, opening, ops_of, Option, place_of, Queues, Reached, refl, Rises, Run, runner_at, RunsRise, SameThread, Scene, scene_as, script_of, Setting, Some, State, Step, step_walks, StepsRise, subst, sym, SyncEndsLast, SyncNeverCancelled, task_of, Thread, ThreadNumbered, true, Turn, WalkedAs, Primitive, ℕ, ◌∙◌, ◌∷◌, ◌≡◌, ◌≤◌, inl, inr}
use Rattle.laws_states.proofs.{Basics.some_none, Basics.too_high, CallsCame.CallAfter, CallsCame.Grown, CallsCame.NewCall, CallsCame.NoCall, CallsCame.ThreadAfter, CallsCame.call_came, CallsCame.thread_came, CallsLaw.CallsGo, CallsLaw.CallsHold, CallsLaw.Codes, CallsLaw.Goes, CallsLaw.GoneOr, CallsLaw.KindHolds, CallsLaw.base_task, CallsLaw.delivered_in, CallsLaw.goes_after, CallsLaw.goes_of, CallsLaw.kept_lifted, CallsLaw.goes_same, CallsLaw.kept_callback, CallsLaw.kind_kept, CallsLaw.later_after, CallsLaw.later_none, CallsLaw.later_same, CallsLaw.place_delivers, CallsLaw.ready_delivered, CallsLaw.rises_after, CallsLaw.rises_same, CameLemmas.came_primitive, CountLemmas.made_threads_primitive, SceneLemmas.base_is}
use Rattle.machine_rules.proofs.Machine.{Delivery, Why}
use Rattle.machine_rules.specs.Allowed.{WasReady}
use Rattle.machine_rules.specs.OpParts.{is_wait}
use Rattle.machine_rules.specs.Scenes.{op_in}
use Rattle.machine_data.specs.Moves.{waits_cancellable}
use Rattle.std.proofs.lemmas.Bool.{and_parts}
use Rattle.std.specs.Prelude.{◌⊎◌}

module _ (a : Scene) (codes : Codes a) (h : CallsHold (component_of a) a.base) where
  -- ---- One primitive

  module _ (w : Primitive) (s : Core) (ok : Allowed a w s) (q : CallsGo a s) where
    thread_since : (n : ℕ) → n ≤ a.base.made.threads → LaterBy SameThread (get a.base.threads n) (get (after_primitive w s).threads n)
    thread_since n below = let i : ThreadAfter a w s n = thread_came w s ok n in let b = q.counted in grind (arith, q.threads n)

    call_later : (k : ℕ) → k ≤ s.made.threads → LaterBy Goes (get s.calls k) (get (after_primitive w s).calls k)
    call_later k below = go (call_came w s ok k)
      where
        go : CallAfter a w s k → LaterBy Goes (get s.calls k) (get (after_primitive w s).calls k)
        go (Grown c d e f g) = rw (e, f) (goes_of a codes h q w k c d e g)
        go (NoCall e r) = rw e (later_none Goes (get s.calls k))
        go (NewCall f e x g group is l m new) = absurd (too_high is below)

    thread_numbered : (n : ℕ) (t : Thread) → get (after_primitive w s).threads n ≡ Some t → ThreadNumbered (after_primitive w s) n t
    thread_numbered n t at =
        let i : ThreadAfter a w s n = thread_came w s ok n in
        let j : CallAfter a w s n = call_came w s ok n in
        let m = made_threads_primitive a w s in
        grind (arith, q.numbered.threads n, q.numbered.calls n, base_task a codes h)

    call_numbered : (k : ℕ) (c : Call) → get (after_primitive w s).calls k ≡ Some c → (1 ≤ k) × (k ≤ (after_primitive w s).made.threads)
    call_numbered k c at =
        let i : CallAfter a w s k = call_came w s ok k in
        let m = made_threads_primitive a w s in
        grind (arith, q.numbered.calls k)

    gone_kept : (k : ℕ) → k ≤ s.made.threads → GoneOr a s k → GoneOr a (after_primitive w s) k
    gone_kept k below gone = let i : ThreadAfter a w s k = thread_came w s ok k in grind arith

    delivered_lifted : (k : ℕ) (c : Call) → get s.calls k ≡ Some c → MayDeliver a k → is_async_lifted c.kind ≡ true
    delivered_lifted k c at m = by m.1.1.1.0
      where
        by : ((d : Delivery) × WasReady a m.0 (Why.Delivery d)) ⊎ ((is_wait (op_in a m.0) ≡ true) × (waits_cancellable k a.base ≡ true)) → is_async_lifted c.kind ≡ true
        by (inl ready) =
            let r = ready_delivered a codes h m.0 _ ready.1 refl in
            let y : is_callback (kind_of (task_of m.0 a.base) s) ≡ true = kept_callback a codes h q (task_of m.0 a.base) (base_task a codes h m.0) r.1 in
            let is = m.1.1.0 in
            grind arith
        by (inr waits) =
            let lifted = subst (λ (j : ℕ). is_async_lifted (kind_of j a.base) ≡ true) m.1.1.0 (and_parts _ _ waits.1).1 in
            let y : is_async_lifted (kind_of (task_of m.0 a.base) s) ≡ true = kept_lifted a codes h q (task_of m.0 a.base) (base_task a codes h m.0) lifted in
            let is = m.1.1.0 in
            grind arith

    end_gone : (k : ℕ) (c : Call) (e : CallEnd) → get s.calls k ≡ Some c → MayEnd a k e s → is_async_lifted c.kind ≡ false → GoneOr a s k
    end_gone k c e at m sync = grind (arith, q.kinds k)

    kind_after : (k : ℕ) (x : Call) → get (after_primitive w s).calls k ≡ Some x → KindHolds a (after_primitive w s) k x
    kind_after k x at = go (call_came w s ok k)
      where
        go : CallAfter a w s k → KindHolds a (after_primitive w s) k x
        go (Grown c d e f g) = let same : x ≡ d = cc in rw same (kind_kept g a s (after_primitive w s) k (q.kinds k c e)
            (gone_kept k (q.numbered.calls k c e).1) (delivered_lifted k c e) (λ v. end_gone k c v e))
        go (NoCall e r) = some_none (sym at ∙ e)
        go (NewCall f e y g group is l m new) = grind arith

    delivery_after : DeliveredByCallback (after_primitive w s)
    delivery_after n t at d =
        let i : ThreadAfter a w s n = thread_came w s ok n in
        let now : delivered_in (place_of n (after_primitive w s)) ≡ true = cc in
        let before = place_delivers a codes h q (after_primitive w s) n (place_of n s) _ refl (came_primitive w s ok n) now in
        let l = call_later (task_of n s) in
        grind (arith, q.numbered.threads n)

  pub primitive_goes : (w : Primitive) (s : Core) → Allowed a w s → CallsGo a s → CallsGo a (after_primitive w s)
  primitive_goes w s ok q = record {
    counted = le_trans q.counted (made_threads_primitive a w s);
    numbered = record { threads = thread_numbered w s ok q; calls = call_numbered w s ok q };
    threads = thread_since w s ok q;
    calls = λ k below. later_after Goes goes_after _ _ _ (q.calls k below) (call_later w s ok q k (le_trans below q.counted));
    kinds = kind_after w s ok q;
    deliveries = delivery_after w s ok q;
  }

  -- ---- The end of a step

  ended_holds : (t : Core) → CallsGo a t → LastPrimitives a t → CallsHold (component_of a) t
  ended_holds t q l = record { numbered = q.numbered; kinds = λ k x at. grind (arith, q.kinds k x at, l.gone k); deliveries = q.deliveries }

-- ---- The beginning of a step

-- what holds beside the entries holds of the core that the rule reads
pub of_base : (P : Core → Type 0) (u : Turn) (s : Core) → P (record s { queues = (base_at u s).queues }) → P (base_at u s)
of_base P u s p = rw (base_is u s) p

-- and the other way
pub base_out : (P : Core → Type 0) (u : Turn) (s : Core) → P (base_at u s) → P (record s { queues = (base_at u s).queues })
base_out P u s p = subst P (base_is u s) p

-- the scene in which the rule reads what is beside the marks as it was before the step; what is so of the step's scene is so of it
abbrev pub plain_as : (ℕ → Op) → Setting → State → Label → Turn → Scene
plain_as ops x s l next = record (scene_as ops x s l next) { base = record s.core { queues = (base_at s.turn s.core).queues } }

abbrev pub plain_scene : Setting → State → Label → Turn → Scene
plain_scene x s l next = plain_as (ops_of x.component s.core) x s l next

pub plain : {ops : ℕ → Op} (x : Setting) (s : State) (l : Label) (next : Turn) (R : Scene → Type 0) → R (scene_as ops x s l next) →
    R (plain_as ops x s l next)
plain {ops = ops} x s l next R r = base_out (λ b. R (record (scene_as ops x s l next) { base = b })) s.turn s.core r

-- Codes are in callbacks, and the op that the runner has ends an activation only where the one at its place does.
pub record CodesAt (ops : ℕ → Op) (x : Setting) (s : State) : Type 0 where
  pub all : CodesInCallbacks x.component
  pub here : (n : ℕ) → runner_at s.turn s.core ≡ Some n → ends_activation (ops n) ≡ true → ends_activation (op_of x.component n s.core) ≡ true

pub codes_at : (x : Setting) (s : State) → CodesInCallbacks x.component → CodesAt (ops_of x.component s.core) x s
codes_at x s codes = record { all = codes; here = λ n is e. e }

pub codes_plain : {ops : ℕ → Op} {x : Setting} {s : State} (l : Label) (next : Turn) → CodesAt ops x s → Codes (plain_as ops x s l next)
unfolding op_of script_of
codes_plain l next codes = record { all = codes.all; here = λ n is e. codes.here n is e }

pub codes_in : {ops : ℕ → Op} {x : Setting} {s : State} (l : Label) (next : Turn) → CodesAt ops x s → Codes (scene_as ops x s l next)
codes_in {ops = ops} {x = x} {s = s} l next codes = of_base (λ b. Codes (record (scene_as ops x s l next) { base = b })) s.turn s.core (codes_plain l next codes)

-- from the state s on the rule reads a core with its calls and threads
begins : (c : Component) (q : Queues) (s : Core) → CallsHold c s → CallsHold c (record s { queues = q })
begins c q s p = record {
  numbered = record { threads = λ n t e. assumption (p.numbered.threads n t e); calls = p.numbered.calls };
  kinds = λ k x e. assumption (p.kinds k x e);
  deliveries = p.deliveries;
}

-- what is known as the step begins
pub calls_begin : {ops : ℕ → Op} (x : Setting) (s : State) (l : Label) (next : Turn) → CallsHold x.component s.core →
    CallsHold x.component (base_at s.turn s.core) × CallsGo (scene_as ops x s l next) s.core
calls_begin {ops = ops} x s l next p =
    let b = of_base (λ b. CallsHold x.component b × CallsGo (record (scene_as ops x s l next) { base = b }) s.core) s.turn s.core in
    b (
      begins x.component (base_at s.turn s.core).queues s.core p,
      record {
        counted = le_refl _;
        numbered = p.numbered;
        threads = λ n below. later_same SameThread (λ t. grind arith) (get s.core.threads n);
        calls = λ k below. later_same Goes goes_same (get s.core.calls k);
        kinds = λ k y e. grind (arith, p.kinds k y e);
        deliveries = p.deliveries;
      },
    )

pub walked_goes : {ops : ℕ → Op} (x : Setting) (s : State) (l : Label) (t : State) → CodesAt ops x s → CallsHold x.component s.core →
    WalkedAs ops x s l t → CallsHold x.component t.core × CallsRise s.core t.core
walked_goes {ops = ops} x s l t given p w =
    let a : Scene = scene_as ops x s l w.next in let codes = codes_in l w.next given in
    let b = calls_begin x s l w.next p in
    let g : CallsGo a t.core = along (CallsGo a) (primitive_goes a codes b.0) b.1 w.walk in (
      ended_holds a codes b.0 t.core g w.ends,
      of_base (λ c. CallsGo (record a { base = c }) t.core → CallsRise s.core t.core) s.turn s.core
          (λ h k below. risen (get s.core.calls k) (get t.core.calls k) (h.calls k below)) g,
    )
  where
    risen : (o p : Option Call) → LaterBy Goes o p → LaterBy Rises o p
    risen o p h = grind arith

pub step_goes : (x : Setting) (s : State) (l : Label) (t : State) → CodesInCallbacks x.component → CallsHold x.component s.core →
    Step x s l t → CallsHold x.component t.core × CallsRise s.core t.core
step_goes x s l t codes p step = walked_goes x s l t (codes_at x s codes) p (step_walks x s l t step)

-- ---- Runs

pub opening_holds : (c : Component) (rules : Version) (instances handle_limit capacity : ℕ) → CallsHold c (fresh rules instances handle_limit capacity)
unfolding fresh
opening_holds c rules instances handle_limit capacity = record {
  numbered = record { threads = λ n t e. some_none (sym e ∙ get-empty n); calls = λ k x e. some_none (sym e ∙ get-empty k) };
  kinds = λ k x e. some_none (sym e ∙ get-empty k);
  deliveries = λ n t e. some_none (sym e ∙ get-empty n);
}

run_goes : (x : Setting) (s : State) → CodesInCallbacks x.component → CallsHold x.component s.core → (ls : List Label) (t : State) →
    Run x s ls t → CallsHold x.component t.core × CallsRise s.core t.core
run_goes x s codes p [] t r = rw r (p, λ k below. later_same Rises rises_same (get s.core.calls k))
run_goes x s codes p (l ∷ ls) t r =
    let g = step_goes x s l r.0 codes p r.1.0 in
    let h = run_goes x r.0 codes g.0 ls t r.1.1 in
    (h.0, λ k below. later_after Rises rises_after _ _ _ (g.1 k below) (h.1 k (le_trans below (never_fewer x s l r.0 r.1.0).threads)))

-- ---- The laws

pub reached_holds : {x : Setting} {s : State} → Reached x s → CallsHold x.component s.core
reached_holds {x = x} {s = s} r =
    let first = opening_holds x.component r.version r.instances r.handle_limit r.capacity in
    (run_goes x (opening r.version r.instances r.handle_limit r.capacity r.main) r.scripts first r.labels s r.run).0

pub steps_rise : StepsRise
unfolding StepsRise
steps_rise x s l t r step = (step_goes x s l t r.scripts (reached_holds r) step).1

pub runs_rise : RunsRise
unfolding RunsRise
runs_rise x s ls t r run = (run_goes x s r.scripts (reached_holds r) ls t run).1

pub sync_never_cancelled : SyncNeverCancelled
unfolding SyncNeverCancelled
sync_never_cancelled x s r k c is sync = ((reached_holds r).kinds k c is).uncancelled sync

pub sync_ends_last : SyncEndsLast
unfolding SyncEndsLast
sync_ends_last x s r k c is sync e at = let h = (reached_holds r).kinds k c is in grind arith

pub explicit_names_no_call : ExplicitNamesNoCall
unfolding ExplicitNamesNoCall
explicit_names_no_call x s r n t is explicit = let h = (reached_holds r).numbered.threads n t is in grind arith
