-- What reading answers: the tree of the text, or its bad line.
use Rattle.std.proofs.Common.{◌≡◌, ℕ, suc, ◌+◌, ◌-◌, ◌<◌, ◌≤◌, List, [], ◌∷◌, ◌++◌, length, take, Option, Some, None, Result, Ok, Err, refl, sym, ap, subst, ◌∙◌, append_assoc, arith}
use Rattle.std.specs.Prelude.{IsOkUnless}
use Rattle.std.proofs.lemmas.List.{append-nil, length-map}
use Rattle.text_scenario.specs.declared.tree.ScenarioText.{ScenarioText}
use Rattle.text_scenario.specs.declared.read.TextError.{TextError}
use Rattle.text_scenario.specs.declared.read.TextError.TheVariants as errors
use Rattle.text_scenario.specs.declared.state.State.{State}
use Rattle.text_scenario.specs.declared.state.State.TheVariants as state
use Rattle.text_lines.specs.Line.{line_at}
use Rattle.text_scenario.specs.Spelling.{Lines, lines_of}
use Rattle.text_scenario.specs.Placement.{IsWellFormed}
use Rattle.text_scenario.specs.Grammar.{lines, tokens, spelled, IsTextOf, PartBegins, IsBadLine}
use Rattle.text_scenario.specs.State.{after, after_tokens, read_from, go_on, end_at, scenario_of, ReadsAs}
use Rattle.text_scenario.specs.AnswersLine.{AnswersLine}
use Rattle.text_lines.proofs.TokenLaws.{bind_some}
use Rattle.text_lines.proofs.LineLaws.{line_takes}
use Rattle.text_scenario.proofs.SoFar.{so_far, IsSound, Follows}
use Rattle.text_scenario.proofs.StateLaws.{after_follows}
use Rattle.text_scenario.proofs.Completing.{begins, begins_same}
use Rattle.text_scenario.proofs.Again.{read_again}

tokens_follow : (s t : State) (ws : List (List ℕ)) → after_tokens s ws ≡ Some t → IsSound s → Follows s ws t
unfolding after_tokens
tokens_follow s t ws e sound =
    let l = bind_some (line_at ws) (after s) t e in
    let spelled = line_takes ws l.0 l.1 in
    subst (λ (v : List (List ℕ)). Follows s v t) (sym spelled.0) (after_follows s t l.0 l.2 spelled.1 sound)

-- ---- A tree

ends_as : (s : State) (n : ℕ) (x : ScenarioText) → end_at n (scenario_of s) ≡ Ok x → IsSound s → IsWellFormed x × (so_far s ≡ lines_of x)
unfolding scenario_of
ends_as (state.Ended y) n x e sound = subst (λ (z : ScenarioText). IsWellFormed z × (lines_of y ≡ lines_of z)) (let made : y ≡ x = cc in made) (sound, refl)
ends_as _ n x e sound = absurd cc

found_on : (s : State) (n : ℕ) (ws : List (List ℕ)) (ls : Lines) (x : ScenarioText) (o : Option State) → after_tokens s ws ≡ o → go_on n (λ t. read_from t (n + 1) ls) o ≡ Ok x → IsSound s
    → ((t : State) → read_from t (n + 1) ls ≡ Ok x → IsSound t → IsWellFormed x × (so_far t ++ ls ≡ lines_of x)) → IsWellFormed x × (so_far s ++ ws ∷ ls ≡ lines_of x)
found_on s n ws ls x None h e sound more = absurd cc
found_on s n ws ls x (Some t) h e sound more =
    let f = tokens_follow s t ws h sound in
    let r = more t e f.sound in
    (r.0, sym (append_assoc (so_far s) (ws ∷ []) ls) ∙ ap (λ (front : Lines). front ++ ls) (sym f.lines) ∙ r.1)

found_from : (s : State) (n : ℕ) (ls : Lines) (x : ScenarioText) → read_from s n ls ≡ Ok x → IsSound s → IsWellFormed x × (so_far s ++ ls ≡ lines_of x)
unfolding read_from
found_from s n [] x e sound = let r = ends_as s n x e sound in (r.0, append-nil (so_far s) ∙ r.1)
found_from s n (ws ∷ ls) x e sound = found_on s n ws ls x (after_tokens s ws) refl e sound (λ t. found_from t (n + 1) ls x)

-- ---- A bad line

abbrev reads_as : ScenarioText → Result ScenarioText ℕ
reads_as x = Ok x

-- Reading from s stops at line m: what is before it begins a scenario, and whatever follows it, reading stops there.
record Stops (s : State) (n : ℕ) (ls : Lines) (m : ℕ) : Type 0 where
  count : ℕ
  is : m ≡ n + count
  within : count ≤ length ls
  begins : PartBegins (so_far s ++ take count ls)
  stops : count < length ls → (rest : Lines) → read_from s n (take (suc count) ls ++ rest) ≡ Err m

stops_here : (s : State) (n : ℕ) (ls : Lines) (m : ℕ) → n ≡ m → IsSound s → (0 < length ls → (rest : Lines) → read_from s n (take 1 ls ++ rest) ≡ Err m) → Stops s n ls m
stops_here s n ls m e sound stops =
    record { count = 0; is = omega arith; within = omega arith; begins = begins_same (so_far s ++ []) (so_far s) (append-nil (so_far s)) (begins s sound); stops = stops }

stops_on : (s : State) (n : ℕ) (ws : List (List ℕ)) (ls : Lines) (m : ℕ) (o : Option State) → after_tokens s ws ≡ o → go_on n (λ t. read_from t (n + 1) ls) o ≡ Err m → IsSound s
    → ((t : State) → read_from t (n + 1) ls ≡ Err m → IsSound t → Stops t (n + 1) ls m) → Stops s n (ws ∷ ls) m
unfolding read_from
stops_on s n ws ls m None h e sound more =
    let same : n ≡ m = cc in
    stops_here s n (ws ∷ ls) m same sound (λ _ rest. rw h e)
stops_on s n ws ls m (Some t) h e sound more =
    let f = tokens_follow s t ws h sound in
    let r = more t e f.sound in
    record {
      count = suc r.count;
      is = omega (arith, r.is);
      within = omega (arith, r.within);
      begins = begins_same (so_far s ++ ws ∷ take r.count ls) (so_far t ++ take r.count ls) (sym (append_assoc (so_far s) (ws ∷ []) (take r.count ls)) ∙ ap (λ (front : Lines). front ++ take r.count ls) (sym f.lines)) r.begins;
      stops = λ lt rest. rw h (r.stops (omega arith) rest);
    }

ends_at : (s : State) (n m : ℕ) (o : Option ScenarioText) → end_at n o ≡ Err m → n ≡ m
ends_at s n m None e = cc
ends_at s n m (Some x) e = absurd cc

stops_from : (s : State) (n : ℕ) (ls : Lines) (m : ℕ) → read_from s n ls ≡ Err m → IsSound s → Stops s n ls m
unfolding read_from
stops_from s n [] m e sound = stops_here s n [] m (ends_at s n m (scenario_of s) e) sound (λ lt rest. absurd (omega arith))
stops_from s n (ws ∷ ls) m e sound = stops_on s n ws ls m (after_tokens s ws) refl e sound (λ t. stops_from t (n + 1) ls m)

-- lines that begin a scenario stop no reading
not_stopped : (front : Lines) (m : ℕ) → ((rest : Lines) → read_from state.Empty 1 (front ++ rest) ≡ Err m) → PartBegins front → ⊥
not_stopped front m stops b =
    let again = read_again b.0 b.2 in
    let stopped = stops b.1 in
    let clash : Err m ≡ reads_as b.0 = sym stopped ∙ ap (read_from state.Empty 1) (sym b.3) ∙ again in
    cc

bad_line : (text : List ℕ) (m : ℕ) → read_from state.Empty 1 (spelled text) ≡ Err m → IsBadLine text m
bad_line text m e =
    let st = stops_from state.Empty 1 (spelled text) m e tt in
    let len : length (spelled text) ≡ length (lines text) = length-map (lines text) tokens in
    let before : m - 1 ≡ st.count = omega (arith, st.is) in
    let next : m ≡ suc st.count = omega (arith, st.is) in
    record {
      counts = (omega (arith, st.is), omega (arith, st.is, st.within, len));
      before = rw before st.begins;
      at = λ le. rw next (not_stopped (take (suc st.count) (spelled text)) m (st.stops (omega (arith, st.is, len))));
      past = λ x text_of.
          let clash : Err m ≡ reads_as x = sym e ∙ ap (read_from state.Empty 1) text_of.lines ∙ read_again x text_of.well_formed in
          cc;
    }

-- ---- Answers

-- what was read is the answer to the text
pub answers : (r : Result ScenarioText TextError) (text : List ℕ) → ReadsAs r (read_from state.Empty 1 (spelled text)) → AnswersLine r text
answers (Ok x) text e = let f = found_from state.Empty 1 (spelled text) x e tt in record { well_formed = f.0; lines = f.1 }
answers (Err (errors.Bad n)) text e = bad_line text n e
answers (Err errors.NoMemory) text e = tt

ok_is : (x y : ScenarioText) → reads_as x ≡ reads_as y → x ≡ y
ok_is x y e = cc

-- a text has one tree
pub one_tree : (x y : ScenarioText) (text : List ℕ) → IsTextOf x text → IsTextOf y text → x ≡ y
one_tree x y text a b =
    let one = read_again x a.well_formed in
    let two = read_again y b.well_formed in
    ok_is x y (sym one ∙ ap (read_from state.Empty 1) (sym a.lines ∙ b.lines) ∙ two)

-- a scenario's text is refused for lack of memory alone
pub only_memory : (r : Result ScenarioText TextError) (x : ScenarioText) (text : List ℕ) → AnswersLine r text → IsTextOf x text → IsOkUnless r errors.NoMemory
only_memory (Ok y) x text answer text_of = tt
only_memory (Err (errors.Bad n)) x text answer text_of = absurd (answer.past x text_of)
only_memory (Err errors.NoMemory) x text answer text_of = refl
