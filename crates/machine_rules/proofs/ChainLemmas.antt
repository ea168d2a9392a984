-- What holds along a chain of primitives.
use Rattle.machine_rules.proofs.Machine.{Advance, after_primitive, Allowed, Bool, Chain, Collapses, Core, Departs, EndsOver, false, GoesBack, OpProgress, if◌then◌else◌, inl, inr, IsUnwind, IsSettling, IsShift, Lands, LandsAt, Mark, MayGo, MayLand, MayPut, MayYield, Move, NoPrimitive, Place, Places, Placing, Pop, Promote, Put, Quits, refl, Remains, RemoveCall, RemoveGroup, RemoveThread, Scene, SetOpProgress, Settles, SetTrapped, SetUninteresting, Stay, Stays, Stop, Then, Trip, true, Turn, Walk, WasUnder, Why, Primitive, ℕ, ◌≡◌, ◌⊎◌}

module _ {may : Primitive → Core → Type 0} where
  -- what holds at first and is kept by each primitive holds at last
  pub along : (R : Core → Type 0) → ((w : Primitive) (s : Core) → may w s → R s → R (after_primitive w s)) → {b : Core} → R b → {t : Core} → Chain may b t → R t
  along R kept first NoPrimitive = first
  along R kept first (Then s w c ok) = kept w s ok (along R kept first c)

  pub join : {b m : Core} → Chain may b m → {t : Core} → Chain may m t → Chain may b t
  join c NoPrimitive = c
  join c (Then s w d ok) = Then s w (join c d) ok

  pub chain_if : {b : Core} (c : Bool) (t u : Core) → (c ≡ true → Chain may b t) → (c ≡ false → Chain may b u) → Chain may b (if c then t else u)
  chain_if true t u p q = p refl
  chain_if false t u p q = q refl

-- a chain of primitives that may be done for one reason is one of primitives that may be done for another
pub weaken : {may can : Primitive → Core → Type 0} → ((w : Primitive) (s : Core) → may w s → can w s) → {b t : Core} → Chain may b t → Chain can b t
weaken f NoPrimitive = NoPrimitive
weaken f (Then s w c ok) = Then s w (weaken f c) (f w s ok)

-- the primitives before the running thread's op is done
abbrev pub Keeps : Scene → Primitive → Core → Type 0
Keeps a (Advance n p) s = ⊥
Keeps a w s = Stays a w s

abbrev pub Keep : Scene → Core → Core → Type 0
Keep a b t = Chain (Keeps a) b t

pub keeps_stays : (a : Scene) (w : Primitive) (s : Core) → Keeps a w s → Stays a w s
keeps_stays a (Advance n p) s ok = absurd ok
keeps_stays a _ s ok = ok

pub keep_stay : {a : Scene} {b t : Core} → Keep a b t → Stay a b t
keep_stay {a = a} c = weaken (keeps_stays a) c

pub shift_keeps : (a : Scene) (w : Primitive) (s : Core) → IsShift w s → Keeps a w s
shift_keeps a (Places p) s ok = inl ok
shift_keeps a _ s ok = absurd ok

pub settle_keeps : (a : Scene) (w : Primitive) (s : Core) → IsSettling w s → Keeps a w s
settle_keeps a (SetUninteresting k) s ok = tt
settle_keeps a (RemoveCall k) s ok = (ok.0, inl ok.1)
settle_keeps a (RemoveGroup g) s ok = ok
settle_keeps a _ s ok = absurd ok

-- the primitives of a step after which the thread runs on
abbrev pub Going : Scene → Core → ℕ → Core → Type 0
Going a b n t = a.next ≡ Turn.Run n → Stay a b t

-- what may be done while the running thread stays may be done in the step
pub stays_allowed : (a : Scene) (w : Primitive) (s : Core) → Stays a w s → Allowed a w s
stays_allowed a (Places p) s (inl ok) = inl ok
stays_allowed a (Places (Promote k)) s (inr ok) = inr ok
stays_allowed a (Places (Stop f)) s (inr ok) = inr ok
stays_allowed a (Places (Put Mark.Switch n w)) s (inr ok) = inr ok
stays_allowed a (Places _) s (inr ok) = absurd ok
stays_allowed a (RemoveThread n) s ok = absurd ok
stays_allowed a _ s ok = ok

pub land_allowed : (a : Scene) (p : Placing) (s : Core) → MayLand a p s → Allowed a (Places p) s
land_allowed a (Pop m) s ok = absurd ok
land_allowed a (Promote k) s ok = absurd ok
land_allowed a (Put Mark.Switch n w) s ok = absurd ok
land_allowed a (Stop f) s ok = absurd ok
land_allowed a _ s ok = inr ok

-- why another thread is put
pub stays_put : (a : Scene) (m : Mark) (n : ℕ) (w : Why) (s : Core) → Stays a (Places (Put m n w)) s → MayPut n w s
stays_put a Mark.High n w s (inl ok) = ok
stays_put a Mark.Low n w s (inl ok) = ok
stays_put a Mark.Switch n w s (inr ok) = ok.0
stays_put a Mark.High n w s (inr ok) = absurd ok
stays_put a Mark.Low n w s (inr ok) = absurd ok
stays_put a Mark.Switch n w s (inl ok) = absurd ok

-- why a thread is put
pub allowed_put : (a : Scene) (m : Mark) (n : ℕ) (w : Why) (s : Core) → Allowed a (Places (Put m n w)) s → MayPut n w s ⊎ MayYield a n w
allowed_put a Mark.High n w s (inl ok) = inl ok
allowed_put a Mark.Low n w s (inl ok) = inl ok
allowed_put a Mark.Switch n w s (inl ok) = absurd ok
allowed_put a Mark.High n w s (inr ok) = inr ok
allowed_put a Mark.Low n w s (inr ok) = inr ok
allowed_put a Mark.Switch n w s (inr ok) = inl ok.0

pub settle_stays : (a : Scene) (w : Primitive) (s : Core) → IsSettling w s → Stays a w s
settle_stays a w s ok = keeps_stays a w s (settle_keeps a w s ok)

pub unwind_allowed : (a : Scene) (w : Primitive) (s : Core) → IsUnwind a w s → Allowed a w s
unwind_allowed a (RemoveThread n) s ok = ok
unwind_allowed a SetTrapped s ok = tt
unwind_allowed a _ s ok = absurd ok

-- all primitives of a trip
module _ {a : Scene} {b : Core} where
  pub stay_walk : {t : Core} → Stay a b t → Walk a b t
  stay_walk c = weaken (stays_allowed a) c

  pub gone_walk : {s t : Core} (n : ℕ) → Stay a b s → MayGo a n s → Settles (after_primitive (RemoveThread n) s) t → Walk a b t
  gone_walk {s = s} n c go d = join (Then s (RemoveThread n) (stay_walk c) go) (weaken (λ w u ok. stays_allowed a w u (settle_stays a w u ok)) d)

  pub trip_walk : {t : Core} → Trip a b t → Walk a b t
  trip_walk (Remains t c still on) = stay_walk c
  trip_walk (Lands s p c ok fit halts) = Then s (Places p) (stay_walk c) (land_allowed a p s ok)
  trip_walk (LandsAt s p n h c ok fit comes halts) = Then (after_primitive (Places p) s) (SetOpProgress n h) (Then s (Places p) (stay_walk c) (land_allowed a p s ok)) comes
  trip_walk (Quits s t n c leave d halts) = gone_walk n c (Departs leave) d
  trip_walk (GoesBack s t n m v c is runs to under back d ok) =
      Then (after_primitive (Places (Move m Place.Running)) t) (SetOpProgress m (OpProgress.Answered v)) (Then t (Places (Move m Place.Running)) (gone_walk n c (EndsOver m is runs to under) d) (inr ok)) ((n, (is, (to, (under, back)))), WasUnder n v under refl)
  trip_walk (Collapses t over c) = weaken (unwind_allowed a) c
