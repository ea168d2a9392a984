-- What a state has read, and what is open in it.
use Rattle.std.proofs.Common.{◌≡◌, ℕ, Bool, true, false, ◌&&◌, List, [], ◌∷◌, ◌++◌, map, Some, None, refl, sym, ap, subst, ◌∙◌, append_assoc}
use Rattle.std.specs.List.{flat_map}
use Rattle.std.proofs.lemmas.Bool.{and_parts}
use Rattle.std.proofs.lemmas.List.{append-nil, map-append}
use Rattle.std.proofs.lemmas.List.Concat.{flat_map-append}
use Rattle.machine_data.specs.declared.op.Operand.{Operand}
use Rattle.machine_data.specs.declared.op.Op.{Op}
use Rattle.text_lines.specs.Tokens.{◌>>=◌}
use Rattle.text_lines.specs.LineTokens.{title_tokens, handles_tokens, table_tokens, export_tokens, react_tokens, thread_tokens, instance_tokens, answer_tokens, aborter_tokens}
use Rattle.text_lines.specs.Fits.{operand_fits, handles_fit, table_fits}
use Rattle.text_lines.proofs.Numbers.{guarded}
use Rattle.text_lines.proofs.TokenLaws.{bind_some, some_is}
use Rattle.text_scenario.specs.declared.state.Body.{Body}
use Rattle.text_scenario.specs.declared.state.Opening.{Opening}
use Rattle.text_scenario.specs.declared.state.State.{State}
use Rattle.text_scenario.specs.declared.state.State.TheVariants as state
use Rattle.text_scenario.specs.declared.tree.HostText.{HostText}
use Rattle.text_scenario.specs.declared.tree.InstanceText.{InstanceText}
use Rattle.text_scenario.specs.declared.tree.PartText.{PartText}
use Rattle.text_scenario.specs.declared.tree.PartText.TheVariants as part
use Rattle.text_scenario.specs.declared.tree.MainOpText.{MainOpText}
use Rattle.text_scenario.specs.Spelling.{Lines, head_lines, host_line, op_tokens, script_lines, part_lines, instance_lines, lines_after, body_lines, main_lines, lines_of}
use Rattle.machine_data.specs.Read.{is_callback}
use Rattle.text_scenario.specs.Placement.{EachIsPlaced, HostIsPlaced, has_room_for_op, op_suits, OpFits, OpIsPlaced, ScriptIsPlaced, PartIsPlaced, InstanceIsPlaced, MainOpIsPlaced, AborterIsPlaced, IsWellFormed}
use Rattle.text_scenario.specs.State.{with_host, with_instance, with_part, export_from, script_closed, instance_closed, with_op}
use Rattle.text_scenario.proofs.PlacementLaws.{each_more}

-- ---- What a state has read

-- the lines of the head, the hosts and the closed instances
abbrev pub front : Body → Lines
front b = head_lines b.version b.handles b.table b.idle ++ body_lines b.hosts b.instances

-- the same, with an instance after them
abbrev pub until : Body → InstanceText → Lines
until b i = front b ++ instance_lines b.hosts b.instances i

-- a part of an instance after them
abbrev pub part_after : Body → InstanceText → PartText → Lines
part_after b i p = until b i ++ part_lines b.hosts b.instances p

abbrev pub start_part : Opening → List Op → PartText
start_part h start = part.Export (export_from h start None)

abbrev pub react_part : Opening → List Op → List Op → PartText
react_part h start react = part.Export (export_from h start (Some react))

abbrev pub so_far : State → Lines
so_far state.Empty = []
so_far (state.Titled v) = title_tokens v ∷ []
so_far (state.Handles v h) = title_tokens v ∷ handles_tokens h ∷ []
so_far (state.Table v h t) = title_tokens v ∷ handles_tokens h ∷ table_tokens t ∷ []
so_far (state.Hosts b) = front b
so_far (state.Instance b i) = until b i
so_far (state.Script b i h start) = part_after b i (start_part h start)
so_far (state.React b i h start react) = part_after b i (react_part h start react)
so_far (state.Thread b i slot ops) = part_after b i (part.Thread slot ops)
so_far (state.Main b ops) = front b ++ main_lines b.hosts b.instances ops
so_far (state.Answered b ops x aborters) = front b ++ main_lines b.hosts b.instances ops ++ answer_tokens x ∷ [] ++ map aborter_tokens aborters
so_far (state.Ended s) = lines_of s

pub record BodyFits (b : Body) : Type 0 where
  pub handles : handles_fit b.handles ≡ true
  pub table : table_fits b.table ≡ true
  pub hosts : EachIsPlaced HostIsPlaced [] b.hosts
  pub instances : EachIsPlaced (InstanceIsPlaced b.hosts) [] b.instances

pub record PartFits (b : Body) (i : InstanceText) (p : PartText) : Type 0 where
  pub body : BodyFits b
  pub instance : InstanceIsPlaced b.hosts b.instances i
  pub part : PartIsPlaced b.hosts b.instances i.parts p

pub record MainFits (b : Body) (ops : List MainOpText) : Type 0 where
  pub body : BodyFits b
  pub each : EachIsPlaced (MainOpIsPlaced b.hosts b.instances) [] ops

pub record AnswerFits (b : Body) (ops : List MainOpText) (x : Operand) (aborters : List (List ℕ)) : Type 0 where
  pub main : MainFits b ops
  pub answer : operand_fits x ≡ true
  pub each : EachIsPlaced (AborterIsPlaced ops) [] aborters

-- what was read is where it does
abbrev pub IsSound : State → Type 0
IsSound state.Empty = Unit {0}
IsSound (state.Titled v) = Unit {0}
IsSound (state.Handles v h) = handles_fit h ≡ true
IsSound (state.Table v h t) = (handles_fit h ≡ true) × (table_fits t ≡ true)
IsSound (state.Hosts b) = BodyFits b × (b.instances ≡ [])
IsSound (state.Instance b i) = BodyFits b × InstanceIsPlaced b.hosts b.instances i
IsSound (state.Script b i h start) = PartFits b i (start_part h start)
IsSound (state.React b i h start react) = PartFits b i (react_part h start react)
IsSound (state.Thread b i slot ops) = PartFits b i (part.Thread slot ops)
IsSound (state.Main b ops) = MainFits b ops
IsSound (state.Answered b ops x aborters) = AnswerFits b ops x aborters
IsSound (state.Ended s) = IsWellFormed s

-- t has read what s has, and then this line
pub record Follows (s : State) (tokens : List (List ℕ)) (t : State) : Type 0 where
  pub lines : so_far t ≡ so_far s ++ tokens ∷ []
  pub sound : IsSound t

-- ---- One host, instance or part more

empty_front : (b : Body) → b.instances ≡ [] → front b ≡ head_lines b.version b.handles b.table b.idle ++ map host_line b.hosts
empty_front b none =
    let head = head_lines b.version b.handles b.table b.idle in
    let hosts = map host_line b.hosts in
    ap (λ (is : List InstanceText). head ++ (hosts ++ lines_after b.hosts [] is)) none ∙ ap (λ (ls : Lines). head ++ ls) (append-nil hosts)

pub host_grows : (b : Body) (h : HostText) → b.instances ≡ [] → front (with_host b h) ≡ front b ++ host_line h ∷ []
host_grows b h none =
    let head = head_lines b.version b.handles b.table b.idle in
    let hosts = map host_line b.hosts in
    let more : head ++ map host_line (b.hosts ++ h ∷ []) ≡ head ++ (hosts ++ host_line h ∷ []) = ap (λ (ls : Lines). head ++ ls) (map-append host_line b.hosts (h ∷ [])) in
    empty_front (with_host b h) none ∙ more ∙ sym (append_assoc head hosts (host_line h ∷ [])) ∙ ap (λ (ls : Lines). ls ++ host_line h ∷ []) (sym (empty_front b none))

pub with_host_fits : (b : Body) (h : HostText) → BodyFits b → b.instances ≡ [] → HostIsPlaced b.hosts h → BodyFits (with_host b h)
with_host_fits b h fits none placed = record {
  handles = fits.handles;
  table = fits.table;
  hosts = each_more HostIsPlaced b.hosts h fits.hosts placed;
  instances = subst (λ (is : List InstanceText). EachIsPlaced (InstanceIsPlaced (b.hosts ++ h ∷ [])) [] is) (sym none) tt;
}

pub instance_grows : (hosts : List HostText) (is : List InstanceText) (i : InstanceText) (p : PartText) → instance_lines hosts is (with_part i p) ≡ instance_lines hosts is i ++ part_lines hosts is p
instance_grows hosts is i p =
    let parts = flat_map (part_lines hosts is) i.parts in
    ap (λ (ls : Lines). instance_tokens i.name ∷ ls) (flat_map-append (part_lines hosts is) i.parts (p ∷ []) ∙ ap (λ (ls : Lines). parts ++ ls) (append-nil (part_lines hosts is p)))

pub lines_grow : (hosts : List HostText) (before is : List InstanceText) (i : InstanceText) → lines_after hosts before (is ++ i ∷ []) ≡ lines_after hosts before is ++ instance_lines hosts (before ++ is) i
lines_grow hosts before [] i = append-nil (instance_lines hosts before i) ∙ ap (λ (es : List InstanceText). instance_lines hosts es i) (sym (append-nil before))
lines_grow hosts before (j ∷ is) i =
    let here = instance_lines hosts before j in
    let later = lines_after hosts (before ++ j ∷ []) is in
    ap (λ (ls : Lines). here ++ ls) (lines_grow hosts (before ++ j ∷ []) is i) ∙ sym (append_assoc here later (instance_lines hosts (before ++ j ∷ [] ++ is) i))
    ∙ ap (λ (es : List InstanceText). here ++ later ++ instance_lines hosts es i) (append_assoc before (j ∷ []) is)

pub front_grows : (b : Body) (i : InstanceText) → front (with_instance b i) ≡ until b i
front_grows b i =
    let head = head_lines b.version b.handles b.table b.idle in
    let hosts = map host_line b.hosts in
    let lines = lines_after b.hosts [] b.instances in
    let more = instance_lines b.hosts b.instances i in
    ap (λ (ls : Lines). head ++ (hosts ++ ls)) (lines_grow b.hosts [] b.instances i) ∙ ap (λ (ls : Lines). head ++ ls) (sym (append_assoc hosts lines more)) ∙ sym (append_assoc head (hosts ++ lines) more)

pub with_part_placed : (b : Body) (i : InstanceText) (p : PartText) → InstanceIsPlaced b.hosts b.instances i → PartIsPlaced b.hosts b.instances i.parts p → InstanceIsPlaced b.hosts b.instances (with_part i p)
with_part_placed b i p fits placed = record { name = fits.name; opens = fits.opens; parts = each_more (PartIsPlaced b.hosts b.instances) i.parts p fits.parts placed }

pub with_instance_fits : (b : Body) (i : InstanceText) → BodyFits b → InstanceIsPlaced b.hosts b.instances i → BodyFits (with_instance b i)
with_instance_fits b i fits placed = record { handles = fits.handles; table = fits.table; hosts = fits.hosts; instances = each_more (InstanceIsPlaced b.hosts) b.instances i fits.instances placed }

pub part_grows : (b : Body) (i : InstanceText) (p : PartText) → part_after b i p ≡ until b (with_part i p)
part_grows b i p =
    append_assoc (front b) (instance_lines b.hosts b.instances i) (part_lines b.hosts b.instances p) ∙ ap (λ (ls : Lines). front b ++ ls) (sym (instance_grows b.hosts b.instances i p))

-- ---- What is open is closed

pub record ScriptClosed (s : State) (b : Body) (i : InstanceText) : Type 0 where
  pub body : BodyFits b
  pub instance : InstanceIsPlaced b.hosts b.instances i
  pub lines : so_far s ≡ until b i

closes_part : (s : State) (b : Body) (i : InstanceText) (x : PartText) (p : Body × InstanceText) → so_far s ≡ part_after b i x → PartFits b i x → Some (b, with_part i x) ≡ Some p → ScriptClosed s p.0 p.1
closes_part s b i x p read sound e =
    let made : ScriptClosed s b (with_part i x) = record {
      body = sound.body;
      instance = with_part_placed b i x sound.instance sound.part;
      lines = read ∙ part_grows b i x;
    } in
    subst (λ (q : Body × InstanceText). ScriptClosed s q.0 q.1) (some_is (b, with_part i x) p e) made

pub closes_script : (s : State) (p : Body × InstanceText) → script_closed s ≡ Some p → IsSound s → ScriptClosed s p.0 p.1
unfolding script_closed
closes_script (state.Instance b i) p e sound =
    subst (λ (q : Body × InstanceText). ScriptClosed (state.Instance b i) q.0 q.1) (some_is (b, i) p e) (record { body = sound.0; instance = sound.1; lines = refl })
closes_script (state.Script b i h start) p e sound = closes_part (state.Script b i h start) b i (start_part h start) p refl sound e
closes_script (state.React b i h start react) p e sound = closes_part (state.React b i h start react) b i (react_part h start react) p refl sound e
closes_script (state.Thread b i slot ops) p e sound = closes_part (state.Thread b i slot ops) b i (part.Thread slot ops) p refl sound e
closes_script _ p e sound = absurd cc

pub record InstanceClosed (s : State) (b : Body) : Type 0 where
  pub body : BodyFits b
  pub lines : so_far s ≡ front b

closes_by_script : (s : State) (b : Body) → (script_closed s >>= λ p. Some (with_instance p.0 p.1)) ≡ Some b → IsSound s → InstanceClosed s b
closes_by_script s b e sound =
    let p = bind_some (script_closed s) (λ p. Some (with_instance p.0 p.1)) b e in
    let c = closes_script s p.0 p.1 sound in
    let made : InstanceClosed s (with_instance p.0.0 p.0.1) = record {
      body = with_instance_fits p.0.0 p.0.1 c.body c.instance;
      lines = c.lines ∙ sym (front_grows p.0.0 p.0.1);
    } in
    subst (InstanceClosed s) (some_is (with_instance p.0.0 p.0.1) b p.2) made

pub closes_instance : (s : State) (b : Body) → instance_closed s ≡ Some b → IsSound s → InstanceClosed s b
unfolding instance_closed
closes_instance (state.Hosts c) b e sound = subst (InstanceClosed (state.Hosts c)) (some_is c b e) (record { body = sound.0; lines = refl })
closes_instance s b e sound = closes_by_script s b e sound

-- ---- Scripts that take ops

-- at ops is the state with these ops in the open script, of a callback or not
pub record OpenAt (b : Body) (callback : Bool) (at : List Op → State) : Type 0 where
  pub before : Lines
  pub lines : (ops : List Op) → so_far (at ops) ≡ before ++ script_lines b.hosts b.instances ops
  pub placed : (ops : List Op) → IsSound (at ops) → ScriptIsPlaced b.hosts b.instances callback ops
  pub sound : (ops more : List Op) → IsSound (at ops) → ScriptIsPlaced b.hosts b.instances callback more → IsSound (at more)

pub start_open : (b : Body) (i : InstanceText) (h : Opening) → OpenAt b (is_callback h.kind) (λ ops. state.Script b i h ops)
start_open b i h =
    let opening = export_tokens h.name h.kind h.params in
    let before = until b i in
    record {
      before = before ++ opening ∷ [];
      lines = λ ops.
          let lines = script_lines b.hosts b.instances ops in
          ap (λ (ls : Lines). before ++ opening ∷ ls) (append-nil lines) ∙ sym (append_assoc before (opening ∷ []) lines);
      placed = λ ops sound. sound.part.start;
      sound = λ ops more sound each.
          record { body = sound.body; instance = sound.instance; part = record { name = sound.part.name; params = sound.part.params; opens = sound.part.opens; start = each; react = tt } };
    }

pub react_open : (b : Body) (i : InstanceText) (h : Opening) (start : List Op) → OpenAt b true (λ ops. state.React b i h start ops)
react_open b i h start =
    let opening = export_tokens h.name h.kind h.params in
    let before = until b i in
    let scripts = script_lines b.hosts b.instances start in
    record {
      before = before ++ (opening ∷ scripts ++ react_tokens ∷ []);
      lines = λ ops.
          let lines = script_lines b.hosts b.instances ops in
          ap (λ (ls : Lines). before ++ opening ∷ ls) (sym (append_assoc scripts (react_tokens ∷ []) lines)) ∙ sym (append_assoc before (opening ∷ scripts ++ react_tokens ∷ []) lines);
      placed = λ ops sound. sound.part.react.1;
      sound = λ ops more sound each.
          record { body = sound.body; instance = sound.instance; part = record { name = sound.part.name; params = sound.part.params; opens = sound.part.opens; start = sound.part.start; react = (sound.part.react.0, each) } };
    }

pub thread_open : (b : Body) (i : InstanceText) (slot : ℕ) → OpenAt b false (λ ops. state.Thread b i slot ops)
thread_open b i slot =
    let before = until b i in
    record {
      before = before ++ thread_tokens slot ∷ [];
      lines = λ ops. sym (append_assoc before (thread_tokens slot ∷ []) (script_lines b.hosts b.instances ops));
      placed = λ ops sound. sound.part.1;
      sound = λ ops more sound each. record { body = sound.body; instance = sound.instance; part = (sound.part.0, each) };
    }

-- an op that the open script takes is the next line
pub takes_op : (b : Body) (callback : Bool) (at : List Op → State) → OpenAt b callback at → (ops : List Op) (o : Op) (t : State) → (with_op callback ops o >>= λ more. Some (at more)) ≡ Some t → OpFits b.hosts b.instances o → IsSound (at ops)
    → Follows (at ops) (op_tokens b.hosts b.instances o) t
unfolding with_op
takes_op b callback at open_at ops o t e fits sound =
    let tokens = op_tokens b.hosts b.instances in
    let m = bind_some (with_op callback ops o) (λ more. Some (at more)) t e in
    let g = guarded (has_room_for_op ops && op_suits callback o) (ops ++ o ∷ []) m.0 m.1 in
    let tests = and_parts (has_room_for_op ops) (op_suits callback o) g.0 in
    let each = each_more (OpIsPlaced b.hosts b.instances callback) ops o (open_at.placed ops sound) (record { room = tests.0; suits = tests.1; fits = fits }) in
    let made : Follows (at ops) (tokens o) (at (ops ++ o ∷ [])) = record {
      lines =
          open_at.lines (ops ++ o ∷ []) ∙ ap (λ (ls : Lines). open_at.before ++ ls) (map-append tokens ops (o ∷ [])) ∙ sym (append_assoc open_at.before (map tokens ops) (tokens o ∷ []))
          ∙ ap (λ (ls : Lines). ls ++ tokens o ∷ []) (sym (open_at.lines ops));
      sound = open_at.sound ops (ops ++ o ∷ []) sound each;
    } in
    subst (Follows (at ops) (tokens o)) (ap at g.1 ∙ some_is (at m.0) t m.2) made
