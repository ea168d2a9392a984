-- How far a poll goes, by the labels that it adds.
use Rattle.laws_labels.specs.Own.{is_data}
use Rattle.laws_labels.specs.Own.{is_rest, mark_taken, next_mark}
use Rattle.ops_state.specs.declared.error.TaskError.TheVariants as task_error
use Rattle.std.proofs.Common.{ap, arith, refl, ◌∙◌}
use Rattle.std.specs.List.{list_all}
use Rattle.std.specs.Prelude.{Bool, Err, List, None, Ok, Option, Some, [], false, not, option_map, true, ℕ, ◌&&◌, ◌++◌, ◌∷◌, ◌≡◌}
use Rattle.run_trace.specs.YieldBudget.{counted, is_unyielded, passes_after, since_after, yields_before}
use Rattle.task_loop.specs.RunPolls.{answer_of_label, last_answer, rests_last, run_answer}
use Rattle.task_loop.specs.declared.poll_methods.RunPoll.TheVariants as poll
use Rattle.machine_data.specs.Core.{Core, State}
use Rattle.machine_data.specs.Read.{next_entry}
use Rattle.machine_data.specs.declared.label.Label.{Label}
use Rattle.machine_data.specs.declared.label.Label.TheVariants as label
use Rattle.machine_data.specs.declared.label.LoopLabel.TheVariants as loop_label
use Rattle.machine_data.specs.declared.outcome.Outcome.{Outcome}
use Rattle.machine_data.specs.declared.outcome.Outcome.TheVariants as outcome
use Rattle.machine_data.specs.declared.records.Entry.{Entry}
use Rattle.machine_data.specs.declared.records.Turn.{Turn}
use Rattle.machine_data.specs.declared.records.Turn.TheVariants as turn
use Rattle.machine_data.specs.declared.statuses.Mark.{Mark}
use Rattle.machine_rules.specs.Outcome.{is_at_rest, last_outcome, outcome_of_label}
use Rattle.machine_rules.specs.Stalled.{Setting, is_idle, is_stalled}

abbrev pub none_rests : List Label → Bool
none_rests ls = list_all (λ l. not (is_rest l)) ls

pub and_false : (x y : Bool) → x ≡ true → (x && y) ≡ false → y ≡ false
and_false true y on off = off
and_false false y on off = absurd (cc)

-- ---- Labels that are added

pub since_both : (k : ℕ) (ls ks : List Label) → since_after k (ls ++ ks) ≡ since_after (since_after k ls) ks
since_both k [] ks = refl
since_both k (l ∷ ls) ks = since_both (counted k (mark_taken l)) ls ks

pub unyielded_both : (b : Bool) (k : ℕ) (ls ks : List Label) → is_unyielded b k ls ≡ true → is_unyielded (passes_after b ls) (since_after k ls) ks ≡ true → is_unyielded b k (ls ++ ks) ≡ true
unyielded_both b k [] ks h d = d
unyielded_both b k (l ∷ ls) ks h d =
    let q = both_true (not (yields_before b k (mark_taken l))) (is_unyielded false (counted k (mark_taken l)) ls) h in
    all_true (not (yields_before b k (mark_taken l))) (is_unyielded false (counted k (mark_taken l)) (ls ++ ks)) q.0
    (unyielded_both false (counted k (mark_taken l)) ls ks q.1 (later ls d))
  where
    both_true : (x y : Bool) → (x && y) ≡ true → (x ≡ true) × (y ≡ true)
    both_true true y h = (refl, h)
    both_true false y h = absurd (cc)

    all_true : (x y : Bool) → x ≡ true → y ≡ true → (x && y) ≡ true
    all_true x y p q = grind (arith, p, q)

    later : (ls : List Label) → is_unyielded false (since_after (counted k (mark_taken l)) ls) ks ≡ true → is_unyielded (passes_after false ls) (since_after (counted k (mark_taken l)) ls) ks ≡ true
    later [] d = d
    later (m ∷ ls) d = d

pub rest_both : (ls ks : List Label) → none_rests ls ≡ true → none_rests ks ≡ true → none_rests (ls ++ ks) ≡ true
rest_both [] ks h d = d
rest_both (l ∷ ls) ks h d = let more = rest_both ls ks in grind (arith, h, d, more)

pub passes_one : (b : Bool) (ls : List Label) (l : Label) → passes_after b (ls ++ l ∷ []) ≡ false
passes_one b [] l = refl
passes_one b (k ∷ ls) l = refl

pub passes_more : (b : Bool) (ls ks : List Label) → passes_after b ls ≡ false → passes_after b (ls ++ ks) ≡ false
passes_more b [] [] h = h
passes_more b [] (k ∷ ks) h = refl
passes_more b (l ∷ ls) ks h = refl

-- labels of registers and memory cells

pub data_kept : (l : Label) → is_data l ≡ true → (mark_taken l ≡ None) × (is_rest l ≡ false)
data_kept (label.Data l) h = (refl, refl)
data_kept (label.Main l) h = absurd (cc)
data_kept (label.Loop l) h = absurd (cc)
data_kept (label.Take l) h = absurd (cc)
data_kept _ h = absurd (cc)

pub all_of : (l : Label) (ls : List Label) → list_all is_data (l ∷ ls) ≡ true → (is_data l ≡ true) × (list_all is_data ls ≡ true)
all_of l ls h = (grind arith, grind arith)

pub data_since : (k : ℕ) (ls : List Label) → list_all is_data ls ≡ true → since_after k ls ≡ k
data_since k [] h = refl
data_since k (l ∷ ls) h = let q = all_of l ls h in rw (data_kept l q.0).0 (data_since k ls q.1)

pub data_unyielded : (b : Bool) (k : ℕ) (ls : List Label) → list_all is_data ls ≡ true → is_unyielded b k ls ≡ true
data_unyielded b k [] h = refl
data_unyielded b k (l ∷ ls) h = let q = all_of l ls h in rw (data_kept l q.0).0 (data_unyielded false k ls q.1)

pub data_unrested : (ls : List Label) → list_all is_data ls ≡ true → none_rests ls ≡ true
data_unrested [] h = refl
data_unrested (l ∷ ls) h = let q = all_of l ls h in let here = (data_kept l q.0).1 in let rest = data_unrested ls q.1 in grind (arith, here, rest)

-- ---- Answers

label_goes : (l : Label) → outcome_of_label l ≡ None → is_rest l ≡ false → answer_of_label l ≡ None
label_goes (label.Loop loop_label.Rest) none h = absurd (cc)
label_goes l none h = grind (arith, none)

head_rests : (l : Label) (ls : List Label) → none_rests (l ∷ ls) ≡ true → (is_rest l ≡ false) × (none_rests ls ≡ true)
head_rests l ls h = (grind arith, grind arith)

pub answer_none : (ls : List Label) → last_outcome ls ≡ None → none_rests ls ≡ true → last_answer ls ≡ None
answer_none [] none h = refl
answer_none (l ∷ []) none h = label_goes l none (head_rests l [] h).0
answer_none (l ∷ m ∷ ls) none h = answer_none (m ∷ ls) none (head_rests l (m ∷ ls) h).1

pub answer_last : (ls : List Label) (l : Label) → last_answer (ls ++ l ∷ []) ≡ answer_of_label l
answer_last [] l = refl
answer_last (k ∷ []) l = refl
answer_last (k ∷ m ∷ ls) l = answer_last (m ∷ ls) l

rests_over : (l m : Label) (ls : List Label) → is_rest l ≡ false → rests_last (l ∷ m ∷ ls) ≡ rests_last (m ∷ ls)
rests_over (label.Loop loop_label.Rest) m ls h = absurd (cc)
rests_over (label.Loop _) m ls h = refl
rests_over _ m ls h = refl

pub rests_none : (ls : List Label) → none_rests ls ≡ true → rests_last ls ≡ true
rests_none [] h = refl
rests_none (l ∷ []) h = refl
rests_none (l ∷ m ∷ ls) h = let q = head_rests l (m ∷ ls) h in rests_over l m ls q.0 ∙ rests_none (m ∷ ls) q.1

pub rests_one : (ls : List Label) (l : Label) → none_rests ls ≡ true → rests_last (ls ++ l ∷ []) ≡ true
rests_one [] l h = refl
rests_one (k ∷ []) l h = rests_over k l [] (head_rests k [] h).0
rests_one (k ∷ m ∷ ls) l h = let q = head_rests k (m ∷ ls) h in rests_over k m (ls ++ l ∷ []) q.0 ∙ rests_one (m ∷ ls) l q.1

none_of : (o : Option Outcome) → option_map run_answer o ≡ None → o ≡ None
none_of None h = refl
none_of (Some o) h = absurd (cc)

-- a label that ends one

pub ends_answer : (l : Label) (o : Outcome) → outcome_of_label l ≡ Some o → answer_of_label l ≡ Some (run_answer o)
ends_answer (label.Loop loop_label.Rest) o is = absurd (cc)
ends_answer (label.Loop _) o is = ap (λ (q : Option Outcome). option_map run_answer q) is
ends_answer l o is = ap (λ (q : Option Outcome). option_map run_answer q) is

pub rest_answer : (l : Label) → is_rest l ≡ true → answer_of_label l ≡ Some (Ok poll.Rest)
rest_answer (label.Loop loop_label.Rest) h = refl
rest_answer (label.Loop _) h = absurd (cc)
rest_answer _ h = absurd (cc)

-- no outcome is lack of memory
pub outcome_there : (o : Outcome) → run_answer o ≡ Err task_error.NoMemory → ⊥
outcome_there (outcome.Done v) is = absurd (cc)
outcome_there (outcome.Trap t) is = absurd (cc)
outcome_there (outcome.Deadlock t) is = absurd (cc)
outcome_there (outcome.HostFailed i) is = absurd (cc)
outcome_there outcome.Idle is = absurd (cc)
outcome_there outcome.OutOfSteps is = absurd (cc)

-- ---- The entry that is next

some_next : (b : Bool) (k : ℕ) (u : Turn) (s : Core) → yields_before b k (next_mark u s) ≡ true → next_entry s ≡ None → ⊥
some_next b k (turn.Take ended) s h none = grind (arith, h, none)
some_next b k turn.Main s h none = absurd (cc)
some_next b k (turn.Futures n) s h none = absurd (cc)
some_next b k (turn.Run n) s h none = absurd (cc)
some_next b k turn.Over s h none = absurd (cc)

-- where it yields before an entry, something can go on
pub moves_on : (b : Bool) (k : ℕ) (x : Setting) (t : State) → yields_before b k (next_mark t.turn t.core) ≡ true → is_at_rest x t ≡ false
unfolding is_at_rest is_stalled is_idle
moves_on b k x t h = by (next_entry t.core) refl
  where
    by : (o : Option (Mark × Entry)) → next_entry t.core ≡ o → is_at_rest x t ≡ false
    by None at = absurd (some_next b k t.turn t.core h at)
    by (Some e) at = grind (arith, at)
