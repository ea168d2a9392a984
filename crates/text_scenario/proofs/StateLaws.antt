-- Each line that a state takes is the next one of what was read.
use Rattle.std.proofs.Common.{◌≡◌, ℕ, true, false, ◌&&◌, cond, List, [], ◌∷◌, ◌++◌, map, Some, None, refl, sym, ap, subst, ◌∙◌, append_assoc}
use Rattle.std.specs.Prelude.{nat_le}
use Rattle.std.specs.List.{list_all}
use Rattle.std.proofs.lemmas.Bool.{and_parts, leb-true}
use Rattle.std.proofs.lemmas.List.{append-nil, map-append}
use Rattle.machine_data.specs.declared.scenario.Version.{Version}
use Rattle.machine_data.specs.declared.op.Operand.{Operand}
use Rattle.machine_data.specs.declared.op.Op.{Op}
use Rattle.machine_data.specs.declared.op.Op.TheVariants as op
use Rattle.machine_data.specs.declared.op.CallOp.TheVariants as call_op
use Rattle.machine_data.specs.declared.scenario.IdleLine.{IdleLine}
use Rattle.text_lines.specs.declared.line.HeadLine.{HeadLine}
use Rattle.text_lines.specs.declared.line.HeadLine.TheVariants as head_line
use Rattle.text_lines.specs.declared.line.PartLine.{PartLine}
use Rattle.text_lines.specs.declared.line.PartLine.TheVariants as part_line
use Rattle.text_lines.specs.declared.line.NamedCall.{NamedCall}
use Rattle.text_lines.specs.declared.line.NamedOp.{NamedOp}
use Rattle.text_lines.specs.declared.line.NamedOp.TheVariants as named
use Rattle.text_lines.specs.declared.line.Line.{Line}
use Rattle.text_lines.specs.declared.line.Line.TheVariants as line
use Rattle.text_lines.specs.Tokens.{◌>>=◌, is_name}
use Rattle.text_lines.specs.LineTokens.{title_tokens, handles_tokens, table_tokens, idle_tokens, instance_tokens, export_tokens, react_tokens, thread_tokens, bad_tokens, plain_op_tokens, main_tokens, start_tokens, spawn_tokens, ready_tokens, answer_tokens, aborter_tokens, end_tokens}
use Rattle.text_lines.specs.Fits.{register_fits, operand_fits, handles_fit, table_fits, work_fits, slot_fits, plain_op_fits}
use Rattle.text_lines.proofs.Numbers.{guarded}
use Rattle.text_lines.proofs.TokenLaws.{bind_some, some_is}
use Rattle.text_lines.proofs.CallLaws.{named_call_tokens, named_call_fits, named_tokens, named_fits}
use Rattle.text_lines.proofs.LineLaws.{head_line_tokens, head_line_fits, part_line_tokens, part_line_fits, line_tokens, line_fits}
use Rattle.text_scenario.specs.declared.state.Body.{Body}
use Rattle.text_scenario.specs.declared.state.Opening.{Opening}
use Rattle.text_scenario.specs.declared.state.State.{State}
use Rattle.text_scenario.specs.declared.state.State.TheVariants as state
use Rattle.text_scenario.specs.declared.tree.HostText.{HostText}
use Rattle.text_scenario.specs.declared.tree.InstanceText.{InstanceText}
use Rattle.text_scenario.specs.declared.tree.PartText.TheVariants as part
use Rattle.text_scenario.specs.declared.tree.MainOpText.{MainOpText}
use Rattle.text_scenario.specs.declared.tree.MainOpText.TheVariants as main
use Rattle.text_scenario.specs.Spelling.{Lines, host_line, op_tokens, script_lines, main_op_tokens, main_lines}
use Rattle.machine_data.specs.Read.{is_callback}
use Rattle.text_scenario.specs.Placement.{host_opens, OpFits, export_opens, slot_opens, instance_opens, main_has_room, start_opens, finish_opens, spawn_opens, spawn_named, params_of, MainOpIsPlaced, aborter_opens, AborterIsPlaced, IsWellFormed}
use Rattle.text_scenario.specs.State.{with_host, with_part, script_closed, instance_closed, main_open, script_body, after_title, after_handles, after_table, after_idle, after_head, after_host, after_instance, after_export, after_react, after_thread, after_bad, after_part, after_op, after_call, after_main, host_place, callee_of, fitting_export, start_of, finish_of, spawn_of, ready_of, main_op_of, call_of, after_main_op, after_answer, after_aborter, whole, after_end, after}
use Rattle.text_scenario.proofs.PlacementLaws.{each_more}
use Rattle.text_scenario.proofs.CalleeLaws.{host_named, callee_named, export_fits, named_call_is}
use Rattle.text_scenario.proofs.SoFar.{front, until, IsSound, Follows, BodyFits, AnswerFits, host_grows, with_host_fits, part_grows, with_part_placed, closes_script, closes_instance, start_open, react_open, thread_open, takes_op}

-- ---- The head

title_follows : (s t : State) (v : Version) → after_title s v ≡ Some t → IsSound s → Follows s (title_tokens v) t
unfolding after_title
title_follows state.Empty t v e sound = subst (Follows state.Empty (title_tokens v)) (some_is (state.Titled v) t e) (record { lines = refl; sound = tt })
title_follows _ t v e sound = absurd cc

handles_follow : (s t : State) (h : ℕ) → after_handles s h ≡ Some t → handles_fit h ≡ true → IsSound s → Follows s (handles_tokens h) t
unfolding after_handles
handles_follow (state.Titled v) t h e fits sound = subst (Follows (state.Titled v) (handles_tokens h)) (some_is (state.Handles v h) t e) (record { lines = refl; sound = fits })
handles_follow _ t h e fits sound = absurd cc

table_follows : (s t : State) (n : ℕ) → after_table s n ≡ Some t → table_fits n ≡ true → IsSound s → Follows s (table_tokens n) t
unfolding after_table
table_follows (state.Handles v h) t n e fits sound = subst (Follows (state.Handles v h) (table_tokens n)) (some_is (state.Table v h n) t e) (record { lines = refl; sound = (sound, fits) })
table_follows _ t n e fits sound = absurd cc

idle_follows : (s t : State) (i : IdleLine) → after_idle s i ≡ Some t → IsSound s → Follows s (idle_tokens i) t
unfolding after_idle
idle_follows (state.Table v h n) t i e sound =
    let b : Body = record { version = v; handles = h; table = n; idle = i; hosts = []; instances = [] } in
    let fits : BodyFits b = record { handles = sound.0; table = sound.1; hosts = tt; instances = tt } in
    subst (Follows (state.Table v h n) (idle_tokens i)) (some_is (state.Hosts b) t e) (record { lines = refl; sound = (fits, refl) })
idle_follows _ t i e sound = absurd cc

head_follows : (s t : State) (l : HeadLine) → after_head s l ≡ Some t → head_line_fits l ≡ true → IsSound s → Follows s (head_line_tokens l) t
unfolding after_head
head_follows s t (head_line.Title v) e fits sound = title_follows s t v e sound
head_follows s t (head_line.Handles h) e fits sound = handles_follow s t h e fits sound
head_follows s t (head_line.Table n) e fits sound = table_follows s t n e fits sound
head_follows s t (head_line.Idle i) e fits sound = idle_follows s t i e sound

-- ---- Hosts, instances and their parts

host_follows : (s t : State) (h : HostText) → after_host s h ≡ Some t → (is_name h.name && work_fits h.work) ≡ true → IsSound s → Follows s (host_line h) t
unfolding after_host
host_follows (state.Hosts b) t h e fits sound =
    let g = guarded (host_opens b.hosts h.name) (state.Hosts (with_host b h)) t e in
    let f = and_parts (is_name h.name) (work_fits h.work) fits in
    let body = with_host_fits b h sound.0 sound.1 (record { name = f.0; work = f.1; opens = g.0 }) in
    subst (Follows (state.Hosts b) (host_line h)) g.1 (record { lines = host_grows b h sound.1; sound = (body, sound.1) })
host_follows _ t h e fits sound = absurd cc

instance_follows : (s t : State) (name : List ℕ) → after_instance s name ≡ Some t → is_name name ≡ true → IsSound s → Follows s (instance_tokens name) t
unfolding after_instance
instance_follows s t name e fits sound =
    let opened = λ (b : Body). state.Instance b (record { name = name; parts = [] }) in
    let b = bind_some (instance_closed s) (λ b. cond (instance_opens b.instances name) (Some (opened b)) None) t e in
    let g = guarded (instance_opens b.0.instances name) (opened b.0) t b.2 in
    let c = closes_instance s b.0 b.1 sound in
    subst (Follows s (instance_tokens name)) g.1
    (record { lines = ap (λ (ls : Lines). ls ++ instance_tokens name ∷ []) (sym c.lines); sound = (c.body, record { name = fits; opens = g.0; parts = tt }) })

export_follows : (s t : State) (h : Opening) → after_export s h ≡ Some t → (is_name h.name && nat_le h.params 16) ≡ true → IsSound s → Follows s (export_tokens h.name h.kind h.params) t
unfolding after_export
export_follows s t h e fits sound =
    let opened = λ (p : Body × InstanceText). state.Script p.0 p.1 h [] in
    let p = bind_some (script_closed s) (λ p. cond (export_opens p.0.instances p.1.parts h.name) (Some (opened p)) None) t e in
    let g = guarded (export_opens p.0.0.instances p.0.1.parts h.name) (opened p.0) t p.2 in
    let c = closes_script s p.0 p.1 sound in
    let f = and_parts (is_name h.name) (nat_le h.params 16) fits in
    subst (Follows s (export_tokens h.name h.kind h.params)) g.1
    (record {
      lines = ap (λ (ls : Lines). ls ++ export_tokens h.name h.kind h.params ∷ []) (sym c.lines);
      sound = record { body = c.body; instance = c.instance; part = record { name = f.0; params = leb-true _ _ f.1; opens = g.0; start = tt; react = tt } };
    })

react_follows : (s t : State) → after_react s ≡ Some t → IsSound s → Follows s react_tokens t
unfolding after_react
react_follows (state.Script b i h start) t e sound =
    let g = guarded (is_callback h.kind) (state.React b i h start []) t e in
    let open_start = start_open b i h in
    let open_react = react_open b i h start in
    let scripts = script_lines b.hosts b.instances start in
    let opening = export_tokens h.name h.kind h.params in
    subst (Follows (state.Script b i h start) react_tokens) g.1
    (record {
      lines =
          sym (append_assoc (until b i) (opening ∷ scripts) (react_tokens ∷ [])) ∙ ap (λ (ls : Lines). until b i ++ opening ∷ ls ++ react_tokens ∷ []) (sym (append-nil scripts));
      sound = record { body = sound.body; instance = sound.instance; part = record { name = sound.part.name; params = sound.part.params; opens = sound.part.opens; start = sound.part.start; react = (g.0, tt) } };
    })
react_follows _ t e sound = absurd cc

thread_follows : (s t : State) (slot : ℕ) → after_thread s slot ≡ Some t → slot_fits slot ≡ true → IsSound s → Follows s (thread_tokens slot) t
unfolding after_thread
thread_follows s t slot e fits sound =
    let opened = λ (p : Body × InstanceText). state.Thread p.0 p.1 slot [] in
    let p = bind_some (script_closed s) (λ p. cond (slot_opens p.1.parts slot) (Some (opened p)) None) t e in
    let g = guarded (slot_opens p.0.1.parts slot) (opened p.0) t p.2 in
    let c = closes_script s p.0 p.1 sound in
    subst (Follows s (thread_tokens slot)) g.1
    (record {
      lines = ap (λ (ls : Lines). ls ++ thread_tokens slot ∷ []) (sym c.lines);
      sound = record { body = c.body; instance = c.instance; part = (record { fits = fits; opens = g.0 }, tt) };
    })

bad_follows : (s t : State) (slot : ℕ) → after_bad s slot ≡ Some t → slot_fits slot ≡ true → IsSound s → Follows s (bad_tokens slot) t
unfolding after_bad
bad_follows s t slot e fits sound =
    let added = λ (p : Body × InstanceText). state.Instance p.0 (with_part p.1 (part.Bad slot)) in
    let p = bind_some (script_closed s) (λ p. cond (slot_opens p.1.parts slot) (Some (added p)) None) t e in
    let g = guarded (slot_opens p.0.1.parts slot) (added p.0) t p.2 in
    let c = closes_script s p.0 p.1 sound in
    subst (Follows s (bad_tokens slot)) g.1
    (record {
      lines = sym (part_grows p.0.0 p.0.1 (part.Bad slot)) ∙ ap (λ (ls : Lines). ls ++ bad_tokens slot ∷ []) (sym c.lines);
      sound = (c.body, with_part_placed p.0.0 p.0.1 (part.Bad slot) c.instance (record { fits = fits; opens = g.0 }));
    })

part_follows : (s t : State) (l : PartLine) → after_part s l ≡ Some t → part_line_fits l ≡ true → IsSound s → Follows s (part_line_tokens l) t
unfolding after_part
part_follows s t (part_line.Host name w) e fits sound = host_follows s t (record { name = name; work = w }) e fits sound
part_follows s t (part_line.Instance name) e fits sound = instance_follows s t name e fits sound
part_follows s t (part_line.Export name k n) e fits sound = export_follows s t (record { name = name; kind = k; params = n }) e fits sound
part_follows s t part_line.React e fits sound = react_follows s t e sound
part_follows s t (part_line.Thread slot) e fits sound = thread_follows s t slot e fits sound
part_follows s t (part_line.Bad slot) e fits sound = bad_follows s t slot e fits sound

-- ---- Scripts

abbrev OpFollows : State → Body → Op → State → Type 0
OpFollows s b o t = OpFits b.hosts b.instances o → Follows s (op_tokens b.hosts b.instances o) t

op_follows : (s t : State) (b : Body) (o : Op) → script_body s ≡ Some b → after_op s o ≡ Some t → IsSound s → OpFollows s b o t
unfolding script_body after_op
op_follows (state.Script c i h start) t b o at e sound =
    subst (λ b. OpFollows (state.Script c i h start) b o t) (some_is c b at) (λ fits. takes_op c (is_callback h.kind) (λ ops. state.Script c i h ops) (start_open c i h) start o t e fits sound)
op_follows (state.React c i h start react) t b o at e sound =
    subst (λ b. OpFollows (state.React c i h start react) b o t) (some_is c b at) (λ fits. takes_op c true (λ ops. state.React c i h start ops) (react_open c i h start) react o t e fits sound)
op_follows (state.Thread c i slot ops) t b o at e sound =
    subst (λ b. OpFollows (state.Thread c i slot ops) b o t) (some_is c b at) (λ fits. takes_op c false (λ ops. state.Thread c i slot ops) (thread_open c i slot) ops o t e fits sound)
op_follows _ t b o at e sound = absurd cc

-- an op that names no callee is spelled without names
pub record IsPlain (b : Body) (o : Op) : Type 0 where
  pub tokens : plain_op_tokens o ≡ op_tokens b.hosts b.instances o
  pub fits : OpFits b.hosts b.instances o

pub plain : (b : Body) (o : Op) → plain_op_fits o ≡ true → IsPlain b o
plain b (op.Data o) fits = record { tokens = refl; fits = fits }
plain b (op.Task o) fits = record { tokens = refl; fits = fits }
plain b (op.Set o) fits = record { tokens = refl; fits = fits }
plain b (op.Thread o) fits = record { tokens = refl; fits = fits }
plain b (op.Call (call_op.Cancel r x)) fits = record { tokens = refl; fits = fits }
plain b (op.Call (call_op.CancelSync r x)) fits = record { tokens = refl; fits = fits }
plain b (op.Call (call_op.Drop x)) fits = record { tokens = refl; fits = fits }
plain b (op.Call _) fits = absurd cc

-- a script is open where an op is taken
open_body : (s t : State) (o : Op) → after_op s o ≡ Some t → (b : Body) × (script_body s ≡ Some b)
unfolding script_body after_op
open_body (state.Script b i h start) t o e = (b, refl)
open_body (state.React b i h start react) t o e = (b, refl)
open_body (state.Thread b i slot ops) t o e = (b, refl)
open_body _ t o e = absurd cc

plain_op_follows : (s t : State) (o : Op) → after_op s o ≡ Some t → plain_op_fits o ≡ true → IsSound s → Follows s (plain_op_tokens o) t
plain_op_follows s t o e fits sound =
    let b = open_body s t o e in
    let p = plain b.0 o fits in
    subst (λ (ws : List (List ℕ)). Follows s ws t) (sym p.tokens) (op_follows s t b.0 o b.1 e sound p.fits)

call_follows : (s t : State) (c : NamedCall) → after_call s c ≡ Some t → named_call_fits c ≡ true → IsSound s → Follows s (named_call_tokens c) t
unfolding after_call
call_follows s t c e fits sound =
    let b = bind_some (script_body s) (λ b. call_of b.hosts b.instances c >>= λ o. after_op s (op.Call o)) t e in
    let o = bind_some (call_of b.0.hosts b.0.instances c) (λ o. after_op s (op.Call o)) t b.2 in
    let is = named_call_is b.0.hosts b.0.instances c o.0 o.1 fits in
    subst (λ (ws : List (List ℕ)). Follows s ws t) (sym is.0) (op_follows s t b.0 (op.Call o.0) b.1 o.2 sound is.1)

-- ---- Main

main_follows : (s t : State) → after_main s ≡ Some t → IsSound s → Follows s main_tokens t
unfolding after_main
main_follows s t e sound =
    let b = bind_some (instance_closed s) (λ b. Some (state.Main b [])) t e in
    let c = closes_instance s b.0 b.1 sound in
    subst (Follows s main_tokens) (some_is (state.Main b.0 []) t b.2)
    (record { lines = ap (λ (ls : Lines). ls ++ main_tokens ∷ []) (sym c.lines); sound = record { body = c.body; each = tt } })

-- named ops are this op of main, and it is after those before it
abbrev pub IsMainOp : Body → List MainOpText → NamedOp → MainOpText → Type 0
IsMainOp b before l o = (named_tokens l ≡ main_op_tokens b.hosts b.instances o) × MainOpIsPlaced b.hosts b.instances before o

module _ (b : Body) (before : List MainOpText) where
  start_is : (instance export : List ℕ) (xs : List Operand) (o : MainOpText) → start_of b.instances before instance export xs ≡ Some o → list_all operand_fits xs ≡ true → IsMainOp b before (named.Start instance export xs) o
  unfolding start_of
  start_is instance export xs o e fits =
      let f = bind_some (fitting_export b.instances instance export xs) (λ f. cond (start_opens before) (Some (main.Start f xs)) None) o e in
      let g = guarded (start_opens before) (main.Start f.0 xs) o f.2 in
      let t = export_fits b.instances instance export xs f.0 f.1 in
      subst (IsMainOp b before (named.Start instance export xs)) g.1 (ap (λ (w : List ℕ). start_tokens w xs) (sym t.name), (g.0, t.params, fits))

  finish_is : (k r : ℕ) (o : MainOpText) → finish_of before k r ≡ Some o → register_fits r ≡ true → IsMainOp b before (named.Finish k r) o
  unfolding finish_of
  finish_is k r o e fits =
      let g = guarded (finish_opens before k) (main.Finish k r) o e in
      subst (IsMainOp b before (named.Finish k r)) g.1 (refl, (g.0, fits))

  spawn_is : (name : List ℕ) (o : MainOpText) → spawn_of b.hosts before name ≡ Some o → IsMainOp b before (named.Spawn name) o
  unfolding spawn_of
  spawn_is name o e =
      let h = bind_some (host_place b.hosts name) (λ h. cond (spawn_opens before) (Some (main.Spawn h)) None) o e in
      let g = guarded (spawn_opens before) (main.Spawn h.0) o h.2 in
      let t = host_named b.hosts name h.0 h.1 in
      subst (IsMainOp b before (named.Spawn name)) g.1 (ap spawn_tokens (sym t.0), (g.0, t.1))

  ready_is : (instance export : List ℕ) (o : MainOpText) → ready_of b.instances before instance export ≡ Some o → IsMainOp b before (named.Ready instance export) o
  unfolding ready_of
  ready_is instance export o e =
      let f = bind_some (callee_of b.instances instance export) (λ f. params_of b.instances f >>= λ n. cond (main_has_room before) (Some (main.Ready f)) None) o e in
      let n = bind_some (params_of b.instances f.0) (λ n. cond (main_has_room before) (Some (main.Ready f.0)) None) o f.2 in
      let g = guarded (main_has_room before) (main.Ready f.0) o n.2 in
      subst (IsMainOp b before (named.Ready instance export)) g.1 (ap ready_tokens (sym (callee_named b.instances instance export f.0 f.1)), (g.0, n.0, n.1))

  main_op_is : (l : NamedOp) (o : MainOpText) → main_op_of b before l ≡ Some o → named_fits l ≡ true → IsMainOp b before l o
  unfolding main_op_of
  main_op_is (named.Start instance export xs) o e fits = start_is instance export xs o e (and_parts (is_name instance && is_name export) (list_all operand_fits xs) fits).1
  main_op_is (named.Finish k r) o e fits = finish_is k r o e (and_parts (nat_le k 4095) (register_fits r) fits).1
  main_op_is (named.Spawn name) o e fits = spawn_is name o e
  main_op_is (named.Abort k) o e fits = let g = guarded (spawn_named before k) (main.Abort k) o e in subst (IsMainOp b before (named.Abort k)) g.1 (refl, g.0)
  main_op_is (named.Await k) o e fits = let g = guarded (spawn_named before k) (main.Await k) o e in subst (IsMainOp b before (named.Await k)) g.1 (refl, g.0)
  main_op_is named.Quiet o e fits = let g = guarded (main_has_room before) main.Quiet o e in subst (IsMainOp b before named.Quiet) g.1 (refl, g.0)
  main_op_is (named.Ready instance export) o e fits = ready_is instance export o e

main_op_follows : (s t : State) (l : NamedOp) → after_main_op s l ≡ Some t → named_fits l ≡ true → IsSound s → Follows s (named_tokens l) t
unfolding after_main_op main_open
main_op_follows (state.Main b ops) t l e fits sound =
    let tokens = main_op_tokens b.hosts b.instances in
    let lines = main_lines b.hosts b.instances in
    let o = bind_some (main_op_of b ops l) (λ o. Some (state.Main b (ops ++ o ∷ []))) t e in
    let is = main_op_is b ops l o.0 o.1 fits in
    let grown : lines (ops ++ o.0 ∷ []) ≡ lines ops ++ named_tokens l ∷ [] =
    ap (λ (ls : Lines). main_tokens ∷ ls) (map-append tokens ops (o.0 ∷ [])) ∙ ap (λ (v : List (List ℕ)). lines ops ++ v ∷ []) (sym is.0) in
    subst (Follows (state.Main b ops) (named_tokens l)) (some_is (state.Main b (ops ++ o.0 ∷ [])) t o.2)
    (record {
      lines = ap (λ (ls : Lines). front b ++ ls) grown ∙ sym (append_assoc (front b) (lines ops) (named_tokens l ∷ []));
      sound = record { body = sound.body; each = each_more (MainOpIsPlaced b.hosts b.instances) ops o.0 sound.each is.1 };
    })
main_op_follows _ t l e fits sound = absurd cc

answer_follows : (s t : State) (x : Operand) → after_answer s x ≡ Some t → operand_fits x ≡ true → IsSound s → Follows s (answer_tokens x) t
unfolding after_answer main_open
answer_follows (state.Main b ops) t x e fits sound =
    let lines = front b ++ main_lines b.hosts b.instances ops ++ answer_tokens x ∷ [] in
    subst (Follows (state.Main b ops) (answer_tokens x)) (some_is (state.Answered b ops x []) t e) (record { lines = append-nil lines; sound = record { main = sound; answer = fits; each = tt } })
answer_follows _ t x e fits sound = absurd cc

aborter_follows : (s t : State) (ks : List ℕ) → after_aborter s ks ≡ Some t → IsSound s → Follows s (aborter_tokens ks) t
unfolding after_aborter
aborter_follows (state.Answered b ops x before) t ks e sound =
    let lines = front b ++ main_lines b.hosts b.instances ops ++ answer_tokens x ∷ [] in
    let g = guarded (aborter_opens ops before ks) (state.Answered b ops x (before ++ ks ∷ [])) t e in
    subst (Follows (state.Answered b ops x before) (aborter_tokens ks)) g.1
    (record {
      lines = ap (λ (ls : Lines). lines ++ ls) (map-append aborter_tokens before (ks ∷ [])) ∙ sym (append_assoc lines (map aborter_tokens before) (aborter_tokens ks ∷ []));
      sound = record { main = sound.main; answer = sound.answer; each = each_more (AborterIsPlaced ops) before ks sound.each g.0 };
    })
aborter_follows _ t ks e sound = absurd cc

pub well_formed : (b : Body) (ops : List MainOpText) (x : Operand) (aborters : List (List ℕ)) → AnswerFits b ops x aborters → IsWellFormed (whole b ops x aborters)
well_formed b ops x aborters fits = record {
  handles = fits.main.body.handles;
  table = fits.main.body.table;
  hosts = fits.main.body.hosts;
  instances = fits.main.body.instances;
  main = fits.main.each;
  answer = fits.answer;
  aborters = fits.each;
}

end_follows : (s t : State) → after_end s ≡ Some t → IsSound s → Follows s end_tokens t
unfolding after_end
end_follows (state.Answered b ops x aborters) t e sound =
    subst (Follows (state.Answered b ops x aborters) end_tokens) (some_is (state.Ended (whole b ops x aborters)) t e) (record { lines = refl; sound = well_formed b ops x aborters sound })
end_follows _ t e sound = absurd cc

-- ---- Any line

-- a line that a state takes is the next of what was read
pub after_follows : (s t : State) (l : Line) → after s l ≡ Some t → line_fits l ≡ true → IsSound s → Follows s (line_tokens l) t
unfolding after
after_follows s t (line.Head l) e fits sound = head_follows s t l e fits sound
after_follows s t (line.Part l) e fits sound = part_follows s t l e fits sound
after_follows s t (line.Op o) e fits sound = plain_op_follows s t o e fits sound
after_follows s t (line.Call c) e fits sound = call_follows s t c e fits sound
after_follows s t line.Main e fits sound = main_follows s t e sound
after_follows s t (line.MainOp o) e fits sound = main_op_follows s t o e fits sound
after_follows s t (line.Answer x) e fits sound = answer_follows s t x e fits sound
after_follows s t (line.Aborter ks) e fits sound = aborter_follows s t ks e sound
after_follows s t line.End e fits sound = end_follows s t e sound
