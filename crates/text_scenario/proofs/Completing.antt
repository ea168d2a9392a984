-- What a state has read can be completed: it begins a scenario.
use Rattle.std.proofs.Common.{◌≡◌, ℕ, true, List, [], ◌∷◌, ◌++◌, map, Some, None, refl, sym, subst, ◌∙◌, append_assoc}
use Rattle.std.proofs.lemmas.List.{append-nil}
use Rattle.machine_data.specs.declared.scenario.Version.TheVariants as version
use Rattle.machine_data.specs.declared.scenario.Version.{Version}
use Rattle.machine_data.specs.declared.op.Operand.{Operand}
use Rattle.machine_data.specs.declared.op.Operand.TheVariants.{Number}
use Rattle.machine_data.specs.declared.scenario.IdleLine.TheVariants as idle
use Rattle.text_lines.specs.LineTokens.{title_tokens, handles_tokens, table_tokens, idle_tokens, answer_tokens, aborter_tokens, end_tokens}
use Rattle.text_lines.specs.Fits.{handles_fit, table_fits}
use Rattle.text_scenario.specs.declared.state.Body.{Body}
use Rattle.text_scenario.specs.declared.state.State.{State}
use Rattle.text_scenario.specs.declared.state.State.TheVariants as state
use Rattle.text_scenario.specs.declared.tree.PartText.TheVariants as part
use Rattle.text_scenario.specs.declared.tree.MainOpText.{MainOpText}
use Rattle.text_scenario.specs.Spelling.{Lines, head_lines, main_lines, lines_of}
use Rattle.text_scenario.specs.Grammar.{PartBegins}
use Rattle.text_scenario.specs.State.{with_instance, with_part, with_export, script_closed, instance_closed, whole}
use Rattle.text_scenario.proofs.SoFar.{front, so_far, BodyFits, MainFits, AnswerFits, IsSound, closes_instance}
use Rattle.text_scenario.proofs.StateLaws.{well_formed}

pub begins_front : (lines more : Lines) → PartBegins (lines ++ more) → PartBegins lines
begins_front lines more b = (b.0, more ++ b.1, b.2, b.3 ∙ append_assoc lines more b.1)

pub begins_same : (xs ys : Lines) → xs ≡ ys → PartBegins ys → PartBegins xs
begins_same xs ys e b = subst PartBegins (sym e) b

-- from the answer on
begins_answer : (b : Body) (ops : List MainOpText) (x : Operand) (aborters : List (List ℕ)) → AnswerFits b ops x aborters
    → PartBegins (front b ++ main_lines b.hosts b.instances ops ++ answer_tokens x ∷ [] ++ map aborter_tokens aborters)
begins_answer b ops x aborters fits = (whole b ops x aborters, end_tokens ∷ [], well_formed b ops x aborters fits, refl)

-- main may answer at any time
begins_main : (b : Body) (ops : List MainOpText) → MainFits b ops → PartBegins (front b ++ main_lines b.hosts b.instances ops)
begins_main b ops fits =
    let x : Operand = Number 0 in
    let lines = front b ++ main_lines b.hosts b.instances ops in
    begins_front lines (answer_tokens x ∷ []) (begins_front (lines ++ answer_tokens x ∷ []) [] (begins_answer b ops x [] (record { main = fits; answer = refl; each = tt })))

-- and begin after any instance
begins_body : (b : Body) → BodyFits b → PartBegins (front b)
begins_body b fits = begins_front (front b) (main_lines b.hosts b.instances []) (begins_main b [] (record { body = fits; each = tt }))

begins_closed : (s : State) (b : Body) → instance_closed s ≡ Some b → IsSound s → PartBegins (so_far s)
begins_closed s b e sound = let c = closes_instance s b e sound in begins_same (so_far s) (front b) c.lines (begins_body b c.body)

begins_head : (v : Version) (h t : ℕ) → handles_fit h ≡ true → table_fits t ≡ true → PartBegins (head_lines v h t idle.Trap)
begins_head v h t fh ft =
    let b : Body = record { version = v; handles = h; table = t; idle = idle.Trap; hosts = []; instances = [] } in
    begins_body b (record { handles = fh; table = ft; hosts = tt; instances = tt })

-- what was read begins a scenario
pub begins : (s : State) → IsSound s → PartBegins (so_far s)
unfolding script_closed instance_closed
begins state.Empty sound = begins_front [] (head_lines version.One 100000 1000000 idle.Trap) (begins_head version.One 100000 1000000 refl refl)
begins (state.Titled v) sound = begins_front (title_tokens v ∷ []) (handles_tokens 100000 ∷ table_tokens 1000000 ∷ idle_tokens idle.Trap ∷ []) (begins_head v 100000 1000000 refl refl)
begins (state.Handles v h) sound = begins_front (title_tokens v ∷ handles_tokens h ∷ []) (table_tokens 1000000 ∷ idle_tokens idle.Trap ∷ []) (begins_head v h 1000000 sound refl)
begins (state.Table v h t) sound = begins_front (title_tokens v ∷ handles_tokens h ∷ table_tokens t ∷ []) (idle_tokens idle.Trap ∷ []) (begins_head v h t sound.0 sound.1)
begins (state.Hosts b) sound = begins_body b sound.0
begins (state.Instance b i) sound = begins_closed (state.Instance b i) (with_instance b i) refl sound
begins (state.Script b i h start) sound = begins_closed (state.Script b i h start) (with_instance b (with_export i h start None)) refl sound
begins (state.React b i h start react) sound = begins_closed (state.React b i h start react) (with_instance b (with_export i h start (Some react))) refl sound
begins (state.Thread b i slot ops) sound = begins_closed (state.Thread b i slot ops) (with_instance b (with_part i (part.Thread slot ops))) refl sound
begins (state.Main b ops) sound = begins_main b ops sound
begins (state.Answered b ops x aborters) sound = begins_answer b ops x aborters sound
begins (state.Ended s) sound = (s, [], sound, sym (append-nil (lines_of s)))
