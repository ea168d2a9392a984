-- Calls along the primitives of a step: a status only rises, an end stays, numbers name what they named, deliveries are for
-- callbacks.
use Rattle.laws_states.proofs.Rules.{arith, Bool, Call, Callee, CallEnd, CallKinds, CodesInCallbacks, Component, component_of, Core, DeliveredByCallback, ends_activation, EndsActivation, export_kind, false, get, goal_of, has_ended, is_async_lifted, is_callback, is_delivered, is_delivery, is_direct, is_exit, is_explicit, is_none, is_some, IsRunner, Join, kind_of, LaterBy, MayEnd, MayMove, None, Numbered, op_at_place, op_in, op_of, Option, option_map_or, TaskEvent, Place, place_of, Rises, SameThread, Scene, Script, script_in, script_of, Some, task_of, true, WasReady, Why, Primitive, ℕ, ⊎_elim, ◌≡◌, ◌≤◌, ◌⊎◌}
use Rattle.laws_states.proofs.{CallsCame.Grew, CallsCame.Grows, CameLemmas.Came, CameLemmas.Comes, CameLemmas.MayStand, CameLemmas.Moved, CameLemmas.Shifts, CameLemmas.Turned, CameLemmas.Turns}

-- ---- Statuses

-- The call is of the same kind, and its status has risen.
pub record Goes (c d : Call) : Type 0 where
  pub kind : d.kind ≡ c.kind
  pub rises : Rises c d

pub rises_same : (c : Call) → Rises c c
rises_same c = grind arith

pub rises_after : (b c d : Call) → Rises b c → Rises c d → Rises b d
rises_after b c d p q = grind arith

pub goes_same : (c : Call) → Goes c c
goes_same c = grind (arith, rises_same)

pub goes_after : (b c d : Call) → Goes b c → Goes c d → Goes b d
goes_after b c d p q = grind (arith, rises_after)

module _ {X : Type 0} (P : X → X → Type 0) where
  pub later_same : ((x : X) → P x x) → (o : Option X) → LaterBy P o o
  later_same same o = grind (arith, same)

  pub later_none : (o : Option X) → LaterBy P o None
  later_none o = grind arith

  pub later_after : ((x y z : X) → P x y → P y z → P x z) → (o p q : Option X) → LaterBy P o p → LaterBy P p q → LaterBy P o q
  later_after after o p q g h = grind (arith, after)

-- ---- What is said

-- What is so of the calls and threads of each state.
pub record CallsHold (c : Component) (s : Core) : Type 0 where
  pub numbered : Numbered s
  pub kinds : CallKinds c s
  pub deliveries : DeliveredByCallback s

abbrev pub IsCallback : ℕ → Core → Type 0
IsCallback n s = is_callback (kind_of (task_of n s) s) ≡ true

-- the first thread of the call is gone, or about to exit
abbrev pub GoneOr : Scene → Core → ℕ → Type 0
GoneOr a s k = (is_none (get s.threads k) ≡ true) ⊎ (IsRunner a k × (is_exit a.label ≡ true))

-- As CallKind says, but that the first thread of a call that ended in this step is about to exit.
pub record KindHolds (a : Scene) (s : Core) (k : ℕ) (x : Call) : Type 0 where
  pub kind : x.kind ≡ export_kind (component_of a) x.callee
  pub direct : is_direct x.goal ≡ true → is_async_lifted x.kind ≡ false
  pub uncancelled : is_async_lifted x.kind ≡ false → x.cancel_delivered ≡ false
  pub gone : is_async_lifted x.kind ≡ false → is_some x.«end» ≡ true → GoneOr a s k

-- What is so on the way of a step.
pub record CallsGo (a : Scene) (s : Core) : Type 0 where
  pub counted : a.base.made.threads ≤ s.made.threads
  pub numbered : Numbered s
  pub threads : (n : ℕ) → n ≤ a.base.made.threads → LaterBy SameThread (get a.base.threads n) (get s.threads n)
  pub calls : (k : ℕ) → k ≤ a.base.made.threads → LaterBy Goes (get a.base.calls k) (get s.calls k)
  pub kinds : (k : ℕ) (x : Call) → get s.calls k ≡ Some x → KindHolds a s k x
  pub deliveries : DeliveredByCallback s

abbrev pub delivered_in : Option Place → Bool
delivered_in o = option_map_or (λ p. is_delivered p) o false

-- ---- Scripts

-- a script that isn't of a callback export has no op that ends an activation
script_no_code : {c : Component} → CodesInCallbacks c → (f : Callee) → is_callback (export_kind c f) ≡ false → (x : Script) (p : ℕ) →
    ends_activation (op_at_place (script_in c f x) p) ≡ false
script_no_code {c = c} codes f plain x p = grind (arith, codes.starts f, codes.reacts f, codes.slots f.instance)

-- who ends an activation is of a callback export
pub code_callback : {c : Component} → CodesInCallbacks c → (n : ℕ) (s : Core) → CallsHold c s → ends_activation (op_of c n s) ≡ true →
    (n ≤ s.made.threads) × IsCallback n s
unfolding op_of script_of
code_callback {c = c} codes n s h code = grind (arith, script_no_code, h.numbered.threads n, h.kinds (task_of n s))

pub shifted_delivers : (may : Why → Type 0) (o p : Option Place) → Moved may o p → delivered_in p ≡ true →
    (is_some o ≡ true) × ((delivered_in o ≡ true) ⊎ ((w : Why) × (may w × (is_delivery w ≡ true))))
shifted_delivers may o p came d = grind arith

pub turned_silent : {a : Scene} {s t : Core} {n : ℕ} {o p : Option Place} → Turned a s t n o p → delivered_in p ≡ true → ⊥
turned_silent x d = grind arith

module _ {starts delivers : Type 0} {ends : CallEnd → Type 0} {joins : Join → Type 0} {owes : Option TaskEvent → Type 0} {names : Type 0} {c d : Call}
    (g : Grew starts delivers ends joins owes names c d) where
  grew_goes : ((e : CallEnd) → ends e → (is_some c.«end» ≡ false) × (e ≡ CallEnd.StartCancelled → c.started ≡ false)) → Goes c d
  grew_goes first = grind arith

  pub kind_kept : (a : Scene) (s t : Core) (k : ℕ) → KindHolds a s k c → (GoneOr a s k → GoneOr a t k) →
      (delivers → is_async_lifted c.kind ≡ true) → ((e : CallEnd) → ends e → is_async_lifted c.kind ≡ false → GoneOr a s k) →
      KindHolds a t k d
  kind_kept a s t k q gone lifted ended = grind arith

-- the exit of the call's first thread ends it
abbrev ExitEnds : ℕ → Core → Type 0
ExitEnds k s = (is_direct (goal_of k s) ≡ true) ⊎ (is_async_lifted (kind_of k s) ≡ false)

-- ---- What is known as the step begins

-- Codes are in callbacks, and the runner's op ends an activation only where the one at its place does.
pub record Codes (a : Scene) : Type 0 where
  pub all : CodesInCallbacks (component_of a)
  pub here : (n : ℕ) → IsRunner a n → ends_activation (op_in a n) ≡ true → ends_activation (op_of (component_of a) n a.base) ≡ true

module _ (a : Scene) (codes : Codes a) (h : CallsHold (component_of a) a.base) where
  -- who exits directly or from a sync-lifted export, once its call has ended, isn't the first thread
  exits_explicit : (n : ℕ) → ExitEnds (task_of n a.base) a.base → has_ended (task_of n a.base) a.base ≡ true → is_explicit n a.base ≡ true
  exits_explicit n f ended = grind (arith, h.numbered.threads n, h.numbered.calls (task_of n a.base), h.kinds (task_of n a.base))

  pub exits_unended : (n k : ℕ) (c : Call) → k ≡ task_of n a.base → is_explicit n a.base ≡ false → ExitEnds k a.base →
      get a.base.calls k ≡ Some c → is_some c.«end» ≡ false
  exits_unended n k c is first f at = let e = exits_explicit n in grind (arith, e)

  pub ready_delivered : (n : ℕ) (w : Why) → WasReady a n w → is_delivery w ≡ true → (n ≤ a.base.made.threads) × IsCallback n a.base
  ready_delivered n w was d = grind (arith, h.numbered.threads n, h.deliveries n)

  pub base_task : (n : ℕ) → task_of n a.base ≤ a.base.made.threads
  base_task n = grind (arith, h.numbered.threads n)

  -- ---- What holds right before a primitive

  module _ {s : Core} (q : CallsGo a s) where
    pub kept_lifted : (k : ℕ) → k ≤ a.base.made.threads → is_async_lifted (kind_of k a.base) ≡ true → is_async_lifted (kind_of k s) ≡ true
    kept_lifted k below c = grind (arith, q.calls k)

    pub kept_callback : (k : ℕ) → k ≤ a.base.made.threads → is_callback (kind_of k a.base) ≡ true → is_callback (kind_of k s) ≡ true
    kept_callback k below c = grind (arith, q.calls k)

    pub callback_since : (n : ℕ) → (n ≤ a.base.made.threads) × IsCallback n a.base → IsCallback n s
    callback_since n r = grind (arith, q.threads n, q.numbered.calls 0, h.numbered.threads n, kept_callback (task_of n a.base))

    delivered_place : (n : ℕ) → delivered_in (place_of n s) ≡ true → IsCallback n s
    delivered_place n d = grind (arith, q.deliveries n)

    -- ---- Calls

    pub ends_first : (k : ℕ) (e : CallEnd) (c : Call) → get s.calls k ≡ Some c → MayEnd a k e s →
        (is_some c.«end» ≡ false) × (e ≡ CallEnd.StartCancelled → c.started ≡ false)
    ends_first k e c at m = grind (arith, exits_explicit)

    pub goes_of : (w : Primitive) (k : ℕ) (c d : Call) → get s.calls k ≡ Some c → Grows a w s k c d → Goes c d
    goes_of w k c d at g = grew_goes g (λ e m. ends_first k e c at m)

    -- ---- Deliveries

    code_delivers : (n : ℕ) → EndsActivation a n → IsCallback n s
    code_delivers n e = callback_since n (code_callback codes.all n a.base h (codes.here n e.0 e.1))

    stand_delivers : (n : ℕ) (w : Why) → MayStand a s n w → is_delivery w ≡ true → (delivered_in (place_of n s) ≡ true) ⊎ IsCallback n s
    stand_delivers n w ok d = grind (arith, code_delivers n)

    move_delivers : (n : ℕ) (p : Place) → MayMove a n p s → is_delivered p ≡ true → IsCallback n s
    move_delivers n p ok d = grind (arith, code_delivers n, ready_delivered n, callback_since n)

    pub place_delivers : (t : Core) (n : ℕ) (o p : Option Place) → o ≡ place_of n s → Came a s t n o p → delivered_in p ≡ true →
        (is_some o ≡ true) × IsCallback n s
    place_delivers t n o p is (Shifts m) d = let from = shifted_delivers (MayStand a s n) o p m d in
        let stood = λ (e : (w : Why) × (MayStand a s n w × (is_delivery w ≡ true))). stand_delivers n e.0 e.1.0 e.1.1 in
        (from.0, ⊎_elim (λ e. delivered_place n (rw is at e)) (λ e. ⊎_elim (delivered_place n) (λ c. c) (stood e)) from.1)
    place_delivers t n o p is (Comes r ok e there) d = (there, move_delivers n r ok (rw e at d))
    place_delivers t n o p is (Turns x) d = absurd (turned_silent x d)
