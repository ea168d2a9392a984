-- What a label says of ends is read beside the marks.
use Rattle.laws_states.proofs.Primitives.{arith, Core, end_for, handed_as, Label, LoopLabel, Main, Op, op_of, Option, plain_as, Queues, SaysEnd, script_of, Scripted, Setting, Some, State, Status, Subtask, SubtaskEnd, Turn, Unscripted, written_as, ℕ, ◌≡◌}

pub said_at : (c : ℕ → Op) (s : Core) (q : Queues) (t : Core) (l : Label) (o : Option SubtaskEnd) →
    written_as c (record s { queues = q }) l t ≡ o → written_as c s l t ≡ o
unfolding op_of script_of
said_at c s q t (Label.Loop m) o h = h
said_at c s q t l o h = h

pub written_at : (c : ℕ → Op) (s : Core) (q : Queues) (t : Core) (l : Label) (o : Option SubtaskEnd) → written_as c s l t ≡ o →
    written_as c (record s { queues = q }) l t ≡ o
unfolding op_of script_of
written_at c s q t (Label.Loop m) o h = h
written_at c s q t l o h = h

-- what the label hands out isn't read from the marks
pub hands_at : (c : ℕ → Op) (main : Main) (s : Core) (q : Queues) (t : Core) (l : Label) (o : Option SubtaskEnd) →
    handed_as c main s l t ≡ o → handed_as c main (record s { queues = q }) l t ≡ o
unfolding op_of script_of
hands_at c (Scripted p) s q t (Label.Main m) o h = h
hands_at c Unscripted s q t (Label.Main m) o h = h
hands_at c main s q t l o h = h

-- an end of a call that the label says is written is so in the whole step
pub said_plain : (ops : ℕ → Op) (x : Setting) (s : State) (l : Label) (next : Turn) (t : Core) (k : ℕ) (e : Status) →
    SaysEnd (plain_as ops x s l next) k e → written_as ops s.core l t ≡ Some (end_for e (Subtask.Guest k))
unfolding op_of script_of
said_plain ops x s (Label.Loop (LoopLabel.FutureEnds i)) next t k e says = absurd (grind arith)
said_plain ops x s (Label.Loop (LoopLabel.FutureAborted i)) next t k e says = absurd (grind arith)
said_plain ops x s (Label.Loop m) next t k e says = says
said_plain ops x s l next t k e says = says
