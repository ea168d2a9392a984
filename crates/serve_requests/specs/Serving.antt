-- What a server of requests does in each step.
use Rattle.serve_requests.specs.HowMany.{how_many}
use Rattle.std.specs.Prelude.{Bool, IfSome, List, None, Some, [], false, length, slice_get, slice_set, suc, take, true, ℕ, ◌<◌, ◌≡◌, ◌≤◌, ◌⊎◌, ◌∷◌}
use Rattle.serve_requests.specs.declared.request.Reply.{Reply}
use Rattle.serve_requests.specs.declared.request.Reply.TheVariants as replies
use Rattle.serve_requests.specs.declared.request.Request.{Request}
use Rattle.serve_requests.specs.declared.request.Stage.{Stage}
use Rattle.serve_requests.specs.declared.request.Stage.TheVariants.{Answered, Declined, Open, Refused, Waits}
use Rattle.machine_data.specs.Core.{Core}
use Rattle.machine_data.specs.Maps.{get}
use Rattle.machine_data.specs.Read.{callee_of, registers_of, task_of}
use Rattle.machine_data.specs.Trap.{number_of}
use Rattle.machine_data.specs.declared.component.Callee.{Callee}
use Rattle.machine_data.specs.declared.label.Label.{Label}
use Rattle.machine_data.specs.declared.label.Label.TheVariants as label
use Rattle.machine_data.specs.declared.label.LoopLabel.TheVariants as loop_label
use Rattle.machine_data.specs.declared.label.MainLabel.TheVariants as main_label
use Rattle.machine_data.specs.declared.trap.Trap.{Trap}
use Rattle.machine_rules.specs.History.{Moment}

-- what is asked of a server: how many calls may be open at once, and the requests
pub record Asked : Type 0 where
  pub limit : ℕ
  pub requests : List Request

abbrev pub is_open : Stage → Bool
is_open (Open n) = true
is_open _ = false

abbrev pub is_replied : Stage → Bool
is_replied (Answered n v) = true
is_replied (Refused why) = true
is_replied _ = false

abbrev pub reply_of : Stage → Reply
reply_of (Answered n v) = replies.Value v
reply_of (Refused why) = replies.Refused (number_of why)
reply_of _ = replies.None

abbrev pub callee_named : Request → Callee
callee_named r = record { instance = r.instance; export = r.export }

-- the call of the thread is one of the request's export, with its tokens in r0 and up
pub record IsCallOf (r : Request) (n : ℕ) (s : Core) : Type 0 where
  pub callee : callee_of (task_of n s) s ≡ callee_named r
  pub values : take (length r.params) (registers_of n s) ≡ r.params

-- the request at this place, from 0, whose number is one more, has come from this stage to that one, and no other has
pub record Moves (a : List Stage) (k place : ℕ) (old new : Stage) (b : List Stage) : Type 0 where
  pub number : k ≡ suc place
  pub was : slice_get a place ≡ Some old
  pub now : b ≡ slice_set a place new

module _ (x : Asked) (a : List Stage) (s : Core) where
  -- the request's call is started, while fewer are open than may be
  pub record Begins (k n : ℕ) (b : List Stage) (t : Core) : Type 0 where
    pub place : ℕ
    pub moves : Moves a k place Waits (Open n) b
    pub room : how_many is_open a < x.limit
    pub call : IfSome (slice_get x.requests place) (λ r. IsCallOf r n t)

  -- its call is refused
  pub record IsDeclined (why : Trap) (k : ℕ) (b : List Stage) : Type 0 where
    pub place : ℕ
    pub moves : Moves a k place Waits (Declined why) b

  -- its call is finished with the value that it has returned
  pub record IsAnswered (k v : ℕ) (b : List Stage) : Type 0 where
    pub place : ℕ
    pub thread : ℕ
    pub moves : Moves a k place (Open thread) (Answered thread v) b
    pub returned : get s.results thread ≡ Some v

  -- the refusal is replied
  pub record IsRefused (why : Trap) (k : ℕ) (b : List Stage) : Type 0 where
    pub place : ℕ
    pub moves : Moves a k place (Declined why) (Refused why) b

  -- No open call has returned, no refusal is to be replied, no further call may be started, and some request has no reply.
  pub record HasToWait (b : List Stage) : Type 0 where
    pub same : b ≡ a
    pub none_returned : (i n : ℕ) → slice_get a i ≡ Some (Open n) → get s.results n ≡ None
    pub none_due : (i : ℕ) (why : Trap) → slice_get a i ≡ Some (Declined why) → ⊥
    pub busy : (x.limit ≤ how_many is_open a) ⊎ ((i : ℕ) → slice_get a i ≡ Some Waits → ⊥)
    pub at : ℕ
    pub stage : Stage
    pub there : slice_get a at ≡ Some stage
    pub unreplied : is_replied stage ≡ false

  -- each request has its reply, and the answer is how many they are
  pub record IsDone (v : ℕ) (b : List Stage) : Type 0 where
    pub same : b ≡ a
    pub number : v ≡ length x.requests
    pub all : (i : ℕ) (e : Stage) → slice_get a i ≡ Some e → is_replied e ≡ true

  -- what the server does in a step of this label; it has no part in the steps of others
  abbrev pub Serves : Label → List Stage → Core → Type 0
  Serves (label.Main (main_label.Start k n)) b t = Begins k n b t
  Serves (label.Main (main_label.StartRefused why k)) b t = IsDeclined why k b
  Serves (label.Main (main_label.Finish k v)) b t = IsAnswered k v b
  Serves (label.Main (main_label.FinishRefused why k)) b t = IsRefused why k b
  Serves (label.Main (main_label.Answer v)) b t = IsDone v b
  Serves (label.Main _) b t = ⊥
  Serves (label.Loop loop_label.MainPends) b t = HasToWait b
  Serves _ b t = b ≡ a

-- it does so in each of these steps
abbrev pub Serving : Asked → List Stage → List Moment → List Stage → Type 0
Serving x a [] b = b ≡ a
Serving x a (m ∷ ms) b = (mid : List Stage) × (Serves x a m.before.core m.label mid m.after.core × Serving x mid ms b)
