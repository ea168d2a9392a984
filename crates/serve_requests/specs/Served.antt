-- What came of the requests of a server, as the labels of its run say it.
use Rattle.serve_requests.specs.HowMany.{how_many}
use Rattle.std.specs.Prelude.{Bool, IfSome, List, None, Some, [], false, filter, length, map, slice_get, suc, true, unwrap_or, zero, ℕ, ◌+◌, ◌++◌, ◌<◌, ◌==◌, ◌≡◌, ◌≢◌, ◌≤◌, ◌⊎◌, ◌∷◌}
use Rattle.serve_requests.specs.Serving.{Asked, IsCallOf, reply_of}
use Rattle.serve_requests.specs.declared.request.Stage.{Stage}
use Rattle.serve_requests.specs.declared.request.Stage.TheVariants.{Answered, Declined, Open, Refused, Waits}
use Rattle.serve_requests.specs.declared.request.Reply.{Reply}
use Rattle.serve_requests.specs.declared.request.Reply.TheVariants as replies
use Rattle.machine_data.specs.Core.{Core}
use Rattle.machine_data.specs.Maps.{get}
use Rattle.machine_data.specs.declared.label.Label.{Label}
use Rattle.machine_data.specs.declared.label.Label.TheVariants as label
use Rattle.machine_data.specs.declared.label.LoopLabel.TheVariants as loop_label
use Rattle.machine_data.specs.declared.label.MainLabel.{MainLabel}
use Rattle.machine_data.specs.declared.label.MainLabel.TheVariants as main_label
use Rattle.machine_data.specs.declared.trap.Trap.{Trap}
use Rattle.machine_rules.specs.History.{Moment}

-- ---- Which labels are of a request

abbrev pub start_label : ℕ → ℕ → Label
start_label k n = label.Main (main_label.Start k n)

abbrev pub decline_label : ℕ → Trap → Label
decline_label k why = label.Main (main_label.StartRefused why k)

abbrev pub finish_label : ℕ → ℕ → Label
finish_label k v = label.Main (main_label.Finish k v)

abbrev pub refuse_label : ℕ → Trap → Label
refuse_label k why = label.Main (main_label.FinishRefused why k)

abbrev pub is_main_of : ℕ → MainLabel → Bool
is_main_of k (main_label.Start j n) = j == k
is_main_of k (main_label.StartRefused why j) = j == k
is_main_of k (main_label.Finish j v) = j == k
is_main_of k (main_label.FinishRefused why j) = j == k
is_main_of k _ = false

abbrev pub is_of : ℕ → Label → Bool
is_of k (label.Main l) = is_main_of k l
is_of k _ = false

-- what the labels say of request k: its start, and what came of it
abbrev pub said : ℕ → List Label → List Label
said k ls = filter (is_of k) ls

-- what they say of a request that has come so far
abbrev pub said_at : ℕ → Stage → List Label
said_at k Waits = []
said_at k (Open n) = start_label k n ∷ []
said_at k (Declined why) = decline_label k why ∷ []
said_at k (Answered n v) = start_label k n ∷ finish_label k v ∷ []
said_at k (Refused why) = decline_label k why ∷ refuse_label k why ∷ []

abbrev pub is_start : Label → Bool
is_start (label.Main (main_label.Start k n)) = true
is_start _ = false

abbrev pub is_finish : Label → Bool
is_finish (label.Main (main_label.Finish k v)) = true
is_finish _ = false

-- ---- What came of it

abbrev pub reply_at : List Reply → ℕ → Reply
reply_at rs zero = replies.None
reply_at rs (suc i) = unwrap_or (slice_get rs i) replies.None

-- All that the labels say of request k is its start and then its reply, if it has one; or nothing.
pub record IsTold (k : ℕ) (ls : List Label) (reply : Reply) : Type 0 where
  pub stage : Stage
  pub labels : said k ls ≡ said_at k stage
  pub reply_is : reply ≡ reply_of stage

module _ (x : Asked) (past : List Label) (s : Core) where
  -- the call was started, and has returned this value
  pub record Returns (k v : ℕ) : Type 0 where
    pub thread : ℕ
    pub started : said k past ≡ start_label k thread ∷ []
    pub value : get s.results thread ≡ Some v

  -- Some request has no reply, no open call has returned, no refused start lacks its reply, and as many calls are open as may be or each
  -- request was started.
  pub record PendsRightly : Type 0 where
    pub request : ℕ
    pub one : 1 ≤ request
    pub within : request ≤ length x.requests
    pub unreplied : length (said request past) < 2
    pub none_returned : (k n : ℕ) → said k past ≡ start_label k n ∷ [] → get s.results n ≡ None
    pub none_due : (k : ℕ) (why : Trap) → said k past ≡ decline_label k why ∷ [] → ⊥
    pub busy : (x.limit + how_many is_finish past ≤ how_many is_start past) ⊎ ((k : ℕ) → 1 ≤ k → k ≤ length x.requests → said k past ≢ [])

  -- what a step of this label shows
  abbrev pub Shows : Label → Core → Type 0
  Shows (label.Main (main_label.Start (suc i) n)) t = IfSome (slice_get x.requests i) (λ r. IsCallOf r n t)
  Shows (label.Main (main_label.Finish k v)) t = Returns k v
  Shows (label.Loop loop_label.MainPends) t = PendsRightly
  Shows _ t = Unit {0}

-- that is so at each of these steps
abbrev pub EachShows : Asked → List Label → List Moment → Type 0
EachShows x past [] = Unit {0}
EachShows x past (m ∷ ms) = Shows x past m.before.core m.label m.after.core × EachShows x (past ++ m.label ∷ []) ms

abbrev pub labels_in : List Moment → List Label
labels_in ms = map (λ m. m.label) ms

-- Each request has a reply of its own, which is the one that the labels tell, and they tell of no other request. At any label at most so
-- many calls are open. Where main has answered, each request has a reply that isn't None, and the answer is their number.
pub record HasReplies (x : Asked) (rs : List Reply) (ls : List Label) : Type 0 where
  pub each : length rs ≡ length x.requests
  pub told : (k : ℕ) → IsTold k ls (reply_at rs k)
  pub others : (k : ℕ) → (k ≡ 0) ⊎ (length x.requests < k) → said k ls ≡ []
  pub few : (before after : List Label) → ls ≡ before ++ after → how_many is_start before ≤ how_many is_finish before + x.limit
  pub done : (v : ℕ) (before after : List Label) → ls ≡ before ++ label.Main (main_label.Answer v) ∷ after →
      (v ≡ length x.requests) × ((i : ℕ) (r : Reply) → slice_get rs i ≡ Some r → r ≢ replies.None)

-- And each step shows what its label says of the calls.
pub record IsServed (x : Asked) (rs : List Reply) (h : List Moment) : Type 0 where
  pub replies_are : HasReplies x rs (labels_in h)
  pub shows : EachShows x [] h
