-- In which order entries are taken from the marks.
use Rattle.std.specs.List.{filter}
use Rattle.std.specs.Prelude.{Bool, List, None, Option, Some, [], false, if◌then◌else◌, is_some, true, ℕ, ◌++◌, ◌∷◌, ◌≡◌}
use Rattle.machine_data.specs.Core.{Core, Queues, State}
use Rattle.machine_data.specs.Moves.{has_entry, less, less_switch}
use Rattle.machine_data.specs.Read.{entry_thread, next_entry, or_high}
use Rattle.machine_data.specs.Write.{with_high, with_low, with_switch}
use Rattle.machine_data.specs.declared.label.Label.{Label}
use Rattle.machine_data.specs.declared.records.Entry.{Entry}
use Rattle.machine_data.specs.declared.records.Entry.TheVariants as entry
use Rattle.machine_data.specs.declared.records.Subtask.TheVariants as subtask
use Rattle.machine_data.specs.declared.records.Turn.{Turn}
use Rattle.machine_data.specs.declared.records.Turn.TheVariants as turn
use Rattle.machine_data.specs.declared.statuses.Mark.{Mark}
use Rattle.machine_data.specs.declared.statuses.Mark.TheVariants as mark
use Rattle.machine_data.specs.declared.statuses.Status.TheVariants as status
use Rattle.machine_rules.specs.Run.{Run}
use Rattle.machine_rules.specs.Scenes.{base_at}
use Rattle.machine_rules.specs.Stalled.{Setting}
use Rattle.machine_rules.specs.Step.{Step}
use Rattle.machine_rules.specs.SubtaskEnds.{end_for, written_by}
use Rattle.machine_rules.specs.Takes.{rest_of}

-- ---- Moves

-- A change of what is at the marks.
pub data Move : Type 0 where
  -- the entry, which is next, is taken from the mark
  Takes : (mark : Mark) → (entry : Entry) → Move
  -- the entry comes to the end of the mark; at switch, who was there goes to the front of high
  Comes : (mark : Mark) → (entry : Entry) → Move
  -- the thread's entry moves to switch
  Promotes : (thread : ℕ) → Move
  -- the thread's start is withdrawn
  Withdraws : (thread : ℕ) → Move

abbrev pub one_at : Option ℕ → List Entry
one_at None = []
one_at (Some n) = entry.Thread n ∷ []

-- the thread's entry leaves high, or else low
abbrev pub unlined : ℕ → Queues → Queues
unlined n q = if has_entry n q.high then with_high (less n q.high) q else with_low (less n q.low) q

abbrev pub moved : Move → Queues → Queues
moved (Takes mark.Switch e) q = with_switch None q
moved (Takes mark.High e) q = with_high (rest_of q.high) q
moved (Takes mark.Low e) q = with_low (rest_of q.low) q
moved (Comes mark.Switch e) q = with_switch (entry_thread e) (with_high (one_at q.switch ++ q.high) q)
moved (Comes mark.High e) q = with_high (q.high ++ e ∷ []) q
moved (Comes mark.Low e) q = with_low (q.low ++ e ∷ []) q
moved (Promotes n) q = with_switch (Some n) (unlined n q)
moved (Withdraws n) q = with_switch (less_switch n q.switch) (unlined n q)

-- where the move may be done: what is taken is next, only a thread comes to switch, and one is promoted where none is there
abbrev pub May : Move → Queues → Type 0
May (Takes m e) q = or_high q.switch q.high q.low ≡ Some (m, e)
May (Comes mark.Switch e) q = is_some (entry_thread e) ≡ true
May (Promotes n) q = q.switch ≡ None
May _ q = Unit {0}

-- one after another, each where it may be done
abbrev pub after : List Move → Queues → Queues
after [] q = q
after (v ∷ vs) q = after vs (moved v q)

abbrev pub Lawful : List Move → Queues → Type 0
Lawful [] q = Unit {0}
Lawful (v ∷ vs) q = May v q × Lawful vs (moved v q)

-- ---- The moves of a step, and of a run

abbrev pub taking_next : Option (Mark × Entry) → List Move
taking_next None = []
taking_next (Some e) = Takes e.0 e.1 ∷ []

abbrev pub taking_by : Turn → Core → List Move
taking_by (turn.Take ended) s = taking_next (next_entry s)
taking_by _ s = []

-- that of the entry which the state's turn takes
abbrev pub taking : State → List Move
taking s = taking_by s.turn s.core

-- Another move of a step from s with this label: none is a taking, and where it withdraws a start, the label says so.
abbrev pub IsOther : Setting → State → Label → Move → Type 0
IsOther x s l (Takes m n) = ⊥
IsOther x s l (Withdraws n) =
    written_by x.component (base_at s.turn s.core) l (base_at s.turn s.core) ≡ Some (end_for status.StartCancelled (subtask.Guest n))
IsOther x s l _ = Unit {0}

abbrev pub AllOther : Setting → State → Label → List Move → Type 0
AllOther x s l [] = Unit {0}
AllOther x s l (v ∷ vs) = IsOther x s l v × AllOther x s l vs

-- The step's moves are its taking, and then these.
pub record MovesBy (x : Setting) (s : State) (l : Label) (t : State) (others : List Move) : Type 0 where
  pub other : AllOther x s l others
  pub lawful : Lawful (taking s ++ others) s.core.queues
  pub leads : t.core.queues ≡ after (taking s ++ others) s.core.queues

unfoldable pub StepsMoveEntries : Type 0
StepsMoveEntries = (x : Setting) (s : State) (l : Label) (t : State) → Step x s l t → (others : List Move) × MovesBy x s l t others

-- the moves of a run: those of its steps, one after another
abbrev pub RunsBy : (x : Setting) (s : State) (ls : List Label) (t : State) → Run x s ls t → List Move → Type 0
RunsBy x s [] t run vs = vs ≡ []
RunsBy x s (l ∷ ls) t run vs = (others : List Move) × ((later : List Move) × (MovesBy x s l run.0 others ×
    (RunsBy x run.0 ls t run.1.1 later × (vs ≡ (taking s ++ others) ++ later))))

unfoldable pub RunsMoveEntries : Type 0
RunsMoveEntries = (x : Setting) (s : State) (ls : List Label) (t : State) → (run : Run x s ls t) → (vs : List Move) × RunsBy x s ls t run vs

-- ---- First in, first out

abbrev pub at : Mark → Queues → List Entry
at mark.Switch q = one_at q.switch
at mark.High q = q.high
at mark.Low q = q.low

abbrev pub same_mark : Mark → Mark → Bool
same_mark mark.Switch mark.Switch = true
same_mark mark.High mark.High = true
same_mark mark.Low mark.Low = true
same_mark m k = false

-- what is taken from the mark
abbrev pub taken_from : Mark → List Move → List Entry
taken_from m [] = []
taken_from m (Takes k e ∷ vs) = if same_mark m k then e ∷ taken_from m vs else taken_from m vs
taken_from m (v ∷ vs) = taken_from m vs

-- what comes to it
abbrev pub come_to : Mark → List Move → List Entry
come_to m [] = []
come_to m (Comes k e ∷ vs) = if same_mark m k then e ∷ come_to m vs else come_to m vs
come_to m (v ∷ vs) = come_to m vs

-- the test fails an entry that comes to switch, or is withdrawn
abbrev pub SparesMove : (Entry → Bool) → Move → Type 0
SparesMove test (Comes mark.Switch e) = test e ≡ false
SparesMove test (Promotes n) = test (entry.Thread n) ≡ false
SparesMove test (Withdraws n) = test (entry.Thread n) ≡ false
SparesMove test _ = Unit {0}

abbrev pub Spares : (Entry → Bool) → List Move → Type 0
Spares test [] = Unit {0}
Spares test (v ∷ vs) = SparesMove test v × Spares test vs

-- and one that is at switch
abbrev pub SparesSwitch : (Entry → Bool) → Option ℕ → Type 0
SparesSwitch test None = Unit {0}
SparesSwitch test (Some n) = test (entry.Thread n) ≡ false

-- Of the entries that pass a test, where none of them is at switch, comes to it or is withdrawn in a run: those that are taken from
-- a mark, and then those that are there at last, are those that were there at first, and then those that came to it, in that order.
unfoldable pub RunsTakeInTurn : Type 0
RunsTakeInTurn = (x : Setting) (s : State) (ls : List Label) (t : State) (run : Run x s ls t) (vs : List Move) → RunsBy x s ls t run vs →
    (test : Entry → Bool) → SparesSwitch test s.core.queues.switch → Spares test vs → (m : Mark) →
    filter test (taken_from m vs ++ at m t.core.queues) ≡ filter test (at m s.core.queues ++ come_to m vs)
