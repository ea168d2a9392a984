-- The rule over the word and all passes, and what a pass and a call know by it.
use Rattle.std.specs.Prelude.{◌≡◌, ℕ, ◌≤◌, ◌<◌, ◌⊎◌, false, if◌then◌else◌, List, [], ◌∷◌, ◌++◌, sum_by, count_by}
use mathlib.Core.Option.{some}
use lib.ListN.{get_elem?}
use Rattle.atomic_table.specs.Table.{Me}
use Rattle.machine_data.specs.declared.statuses.Phase.{Phase}
use Rattle.task_abort.specs.declared.log.PhaseCall.{PhaseCall}
use Rattle.task_abort.specs.declared.log.LogEntry.{LogEntry}
use Rattle.task_abort.specs.declared.log.HandleCaller.{HandleCaller}
use Rattle.task_abort.specs.declared.log.PassView.{PassView}
use Rattle.task_abort.specs.PhaseLog.{code, phase_of_code, after, entry, phase, IsLegal, Name, Log, same_name, calls_by, LogBegins, callers, IsFirst}

-- how many of the callers have the name
abbrev pub named : Name → List HandleCaller → ℕ
named n cs = count_by (λ c. same_name c.name n) cs

abbrev pub named_at : Name → PassView → ℕ
named_at n v = if v.spent then 0 else named n (callers v)

-- the pass i isn't spent, and has this view
abbrev pub At : List PassView → ℕ → PassView → Type 0
At views i v = (get_elem? views i ≡ some v) × (v.spent ≡ false)

-- the caller is one of the pass's
abbrev pub Has : PassView → HandleCaller → Type 0
Has v c = (a : ℕ) × (get_elem? (callers v) a ≡ some c)

-- the caller is one of a pass that isn't spent
abbrev pub PassHas : List PassView → HandleCaller → Type 0
PassHas views c = (i : ℕ) × (v : PassView) × At views i v × Has v c

-- a name that goes on from the caller's goes on with a number below its count of splits
abbrev pub NameGoesOn : HandleCaller → Name → Type 0
NameGoesOn c n = (k : ℕ) (rest : Name) → n ≡ c.name ++ k ∷ rest → k < c.splits

-- how a pass that isn't spent fits the one log
pub record FitsLog (log : Log) (v : PassView) : Type 0 where
  -- what it has seen begins the log, and so does what it heard between the two steps of a meet
  pub seen : LogBegins v.seen log
  pub heard : LogBegins v.heard log
  -- the log's entries under its own name, and under each that was met into it, are the calls kept with the name
  pub calls : (c : HandleCaller) → Has v c → calls_by c.name log ≡ c.calls
  -- and it has seen these, or heard them
  pub held : (c : HandleCaller) → Has v c → (calls_by c.name v.seen ≡ c.calls) ⊎ (calls_by c.name v.heard ≡ c.calls)

-- the rule
pub record KeptPass (words : List ℕ) (views : List PassView) : Type 0 where
  -- there is one legal log whose phase is the word
  pub log : Log
  pub legal : IsLegal log
  pub word : words ≡ code (phase log) ∷ []
  pub fits : (i : ℕ) (v : PassView) → At views i v → FitsLog log v
  -- the names of all callers differ
  pub apart : (n : Name) → sum_by (named_at n) views ≤ 1
  -- a name of a caller or in the log that goes on from a caller's goes on below that caller's count of splits
  pub among : (c d : HandleCaller) → PassHas views c → PassHas views d → NameGoesOn c d.name
  pub in_log : (c : HandleCaller) (m : ℕ) (e : LogEntry Name) → PassHas views c → get_elem? log m ≡ some e → NameGoesOn c e.caller
  -- the first pass, as long as it was never split, has seen the whole log
  pub first : (i : ℕ) (v : PassView) → At views i v → IsFirst v → v.seen ≡ log

-- what a pass knows between two calls
pub record Knows (v : PassView) : Type 0 where
  pub legal : IsLegal v.seen
  -- of its own name, and of each that was met into it, it has seen just the calls made under that name
  pub whole : (c : HandleCaller) → Has v c → calls_by c.name v.seen ≡ c.calls
  -- and names that were split off from it
  pub below : (c : HandleCaller) (m : ℕ) (e : LogEntry Name) → Has v c → get_elem? v.seen m ≡ some e → NameGoesOn c e.caller
  pub apart : (n : Name) → named n (callers v) ≤ 1

-- A call of a pass with the view v, which has the view w afterwards. It is made at the end of a log that begins with what v had seen
pub record Calls (call : PhaseCall) (v : PassView) (found : Phase) (w : PassView) : Type 0 where
  -- what other passes did since
  pub between : Log
  -- its one entry is last
  pub seen : w.seen ≡ (v.seen ++ between) ++ entry v.own.name call found ∷ []
  -- it answers the phase found, and leaves the phase of this call
  pub finds : found ≡ phase (v.seen ++ between)
  pub leaves : phase w.seen ≡ after call found
  pub rises : code (phase v.seen) ≤ code found
  pub stays : code found ≤ code (phase w.seen)
  -- its own calls are one more, and nothing else of it changed
  pub own : w.own ≡ record v.own { calls = v.own.calls ++ entry v.own.name call found ∷ [] }
  pub same : (w.met ≡ v.met) × (w.spent ≡ v.spent) × (w.heard ≡ v.heard)
  pub knows : Knows w
  -- on a first pass that was never split nothing is between
  pub alone : IsFirst v → (found ≡ phase v.seen) × (w.seen ≡ v.seen ++ entry v.own.name call found ∷ [])

-- a step that finds a word, from one state of a seat to another
abbrev pub Called : PhaseCall → Me ℕ PassView → ℕ → Me ℕ PassView → Type 0
Called call m word n = (n.1 ≡ m.1) × Calls call m.0 (phase_of_code word) n.0

-- of two logs one begins the other, and the longer one is kept
abbrev pub Longer : Log → Log → Log → Type 0
Longer xs ys zs = ((zs ≡ xs) × LogBegins ys zs) ⊎ ((zs ≡ ys) × LogBegins xs zs)

-- the second step of a meet
pub record Settles (v w : PassView) : Type 0 where
  pub longer : Longer v.seen v.heard w.seen
  pub same : (w.own ≡ v.own) × (w.met ≡ v.met) × (w.spent ≡ v.spent)
  pub settled : w.heard ≡ []
  pub knows : Knows w

abbrev pub Settled : Me ℕ PassView → Me ℕ PassView → Type 0
Settled m n = (n.1 ≡ m.1) × Settles m.0 n.0

-- a pass with the view v takes in one with the view o, and has the view w
pub record Meets (v o w : PassView) : Type 0 where
  pub longer : Longer v.seen o.seen w.seen
  pub first : LogBegins v.seen w.seen
  pub second : LogBegins o.seen w.seen
  pub rises : code (phase v.seen) ≤ code (phase w.seen)
  -- of the other pass's name it has seen just the calls made with that pass
  pub theirs : calls_by o.own.name w.seen ≡ o.own.calls
  pub own : w.own ≡ v.own
  pub met : w.met ≡ v.met ++ callers o
  pub knows : Knows w

-- the pass is the first, and has met the first j passes that were split off from it, none of which was ever split
abbrev pub HasMet : ℕ → PassView → Type 0
HasMet j v = (v.own.name ≡ []) × ((k : ℕ) → k < j → (c : HandleCaller) × Has v c × (c.name ≡ k ∷ []) × (c.splits ≡ 0))

-- and so all of them
abbrev pub HasMetAll : PassView → Type 0
HasMetAll v = HasMet v.own.splits v

-- each call that was seen is by one of the pass's callers
abbrev pub AllKnown : PassView → Type 0
AllKnown v = (m : ℕ) (e : LogEntry Name) → get_elem? v.seen m ≡ some e → (c : HandleCaller) × Has v c × (c.name ≡ e.caller)
