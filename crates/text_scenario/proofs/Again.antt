-- The spelling of a well formed tree is read as that tree.
use Rattle.std.proofs.Common.{◌≡◌, ℕ, ◌<◌, ◌≤◌, ◌&&◌, true, false, ltb, List, [], ◌∷◌, ◌++◌, length, map, Option, Some, None, Ok, refl, sym, ap, subst, ◌∙◌, append_assoc, arith, lit≤}
use Rattle.std.specs.Prelude.{nat_le}
use Rattle.std.specs.List.{flat_map, list_all}
use Rattle.std.proofs.lemmas.Bool.{and_parts, and_from, le-leb, leb-true, ltb-true}
use Rattle.std.proofs.lemmas.List.{append-nil}
use Rattle.std.proofs.lemmas.List.Sums.{count_by-le-length}
use Rattle.machine_data.specs.declared.scenario.Version.{Version}
use Rattle.machine_data.specs.declared.op.Op.{Op}
use Rattle.machine_data.specs.declared.scenario.IdleLine.{IdleLine}
use Rattle.text_lines.specs.declared.line.HeadLine.TheVariants as head_line
use Rattle.text_lines.specs.declared.line.PartLine.TheVariants as part_line
use Rattle.text_lines.specs.declared.line.NamedOp.{NamedOp}
use Rattle.text_lines.specs.declared.line.NamedOp.TheVariants as named
use Rattle.text_lines.specs.declared.line.Line.TheVariants as line
use Rattle.text_lines.specs.Tokens.{◌>>=◌}
use Rattle.text_lines.specs.LineTokens.{title_tokens, handles_tokens, table_tokens, idle_tokens, instance_tokens, export_tokens, react_tokens, thread_tokens, main_tokens, answer_tokens, aborter_tokens, end_tokens}
use Rattle.text_lines.specs.Fits.{handles_fit, table_fits}
use Rattle.text_lines.proofs.CallLaws.{named_tokens, named_fits}
use Rattle.text_lines.proofs.LineLaws.{numbers_fit}
use Rattle.text_scenario.specs.declared.state.Body.{Body}
use Rattle.text_scenario.specs.declared.state.Opening.{Opening}
use Rattle.text_scenario.specs.declared.state.State.{State}
use Rattle.text_scenario.specs.declared.state.State.TheVariants as state
use Rattle.text_scenario.specs.declared.tree.HostText.{HostText}
use Rattle.text_scenario.specs.declared.tree.ExportText.{ExportText}
use Rattle.text_scenario.specs.declared.tree.PartText.{PartText}
use Rattle.text_scenario.specs.declared.tree.PartText.TheVariants as part
use Rattle.text_scenario.specs.declared.tree.InstanceText.{InstanceText}
use Rattle.text_scenario.specs.declared.tree.MainOpText.{MainOpText}
use Rattle.text_scenario.specs.declared.tree.MainOpText.TheVariants as main
use Rattle.text_scenario.specs.declared.tree.ScenarioText.{ScenarioText}
use Rattle.text_scenario.specs.Spelling.{Lines, head_lines, host_line, exports_of, instance_name, export_name, host_name, script_lines, react_lines, export_lines, part_lines, instance_lines, lines_after, body_lines, main_op_tokens, main_lines, lines_of}
use Rattle.machine_data.specs.Read.{is_callback}
use Rattle.text_scenario.specs.Placement.{EachIsPlaced, HostIsPlaced, ReactIsPlaced, ExportIsPlaced, PartIsPlaced, InstanceIsPlaced, main_has_room, is_start, is_spawn, start_count, spawn_count, finish_opens, is_spawned, spawn_named, MainOpIsPlaced, AborterIsPlaced, IsWellFormed}
use Rattle.text_scenario.specs.State.{with_host, with_instance, with_part, with_export, script_closed, instance_closed, main_open, after_title, after_handles, after_table, after_idle, after_head, after_host, after_instance, after_export, after_react, after_thread, after_bad, after_part, after_main, start_of, finish_of, spawn_of, ready_of, main_op_of, after_main_op, after_answer, after_aborter, after_end, after, read_from, scenario_of}
use Rattle.text_scenario.proofs.PlacementLaws.{few_after}
use Rattle.text_scenario.proofs.SoFar.{BodyFits, with_instance_fits}
use Rattle.text_scenario.proofs.CalleeLaws.{host_again, callee_again, fitting_again}
use Rattle.text_scenario.proofs.ScriptsAgain.{ReadsTo, nothing, both, one_line, ops_read, start_takes, react_takes, thread_takes}

-- ---- Parts of an instance

abbrev opening_of : ExportText → Opening
opening_of x = record { name = x.name; kind = x.kind; params = x.params }

-- s reads these lines, and the open instance is i then
abbrev ReadsParts : State → Body → Lines → InstanceText → Type 0
ReadsParts s b ls i = (t : State) × ReadsTo s ls t × (script_closed t ≡ Some (b, i))

module _ (b : Body) (fits : BodyFits b) where
  export_opened : (s : State) (i : InstanceText) (x : ExportText) → script_closed s ≡ Some (b, i) → ExportIsPlaced b.hosts b.instances i.parts x
      → ReadsTo s (export_tokens x.name x.kind x.params ∷ script_lines b.hosts b.instances x.start) (state.Script b i (opening_of x) x.start)
  unfolding after after_part after_export
  export_opened s i x closed placed =
      let h : Opening = opening_of x in
      let l = line.Part (part_line.Export x.name x.kind x.params) in
      let one = one_line s (state.Script b i h []) l (and_from _ _ placed.name (le-leb _ _ placed.params)) (rw (closed, placed.opens) refl) in
      both s (state.Script b i h []) (state.Script b i h x.start) (export_tokens x.name x.kind x.params ∷ []) (script_lines b.hosts b.instances x.start) one
      (ops_read b fits (is_callback x.kind) (λ ops. state.Script b i h ops) (start_takes b i h) [] x.start placed.start)

  closes_start : (i : InstanceText) (h : Opening) (start : List Op) → script_closed (state.Script b i h start) ≡ Some (b, with_export i h start None)
  unfolding script_closed
  closes_start i h start = refl

  closes_react : (i : InstanceText) (h : Opening) (start react : List Op) → script_closed (state.React b i h start react) ≡ Some (b, with_export i h start (Some react))
  unfolding script_closed
  closes_react i h start react = refl

  react_read : (i : InstanceText) (h : Opening) (start : List Op) (react : Option (List Op)) → ReactIsPlaced b.hosts b.instances h.kind react
      → ReadsParts (state.Script b i h start) b (react_lines b.hosts b.instances react) (with_export i h start react)
  unfolding after after_part after_react
  react_read i h start None placed = (state.Script b i h start, nothing (state.Script b i h start), closes_start i h start)
  react_read i h start (Some ops) placed =
      let s : State = state.Script b i h start in
      let one = one_line s (state.React b i h start []) (line.Part part_line.React) refl (rw placed.0 refl) in
      let more = ops_read b fits true (λ ops. state.React b i h start ops) (react_takes b i h start) [] ops placed.1 in
      (state.React b i h start ops, both s (state.React b i h start []) (state.React b i h start ops) (react_tokens ∷ []) (script_lines b.hosts b.instances ops) one more, closes_react i h start ops)

  export_read : (s : State) (i : InstanceText) (x : ExportText) → script_closed s ≡ Some (b, i) → ExportIsPlaced b.hosts b.instances i.parts x
      → ReadsParts s b (export_lines b.hosts b.instances x) (with_part i (part.Export x))
  export_read s i x closed placed =
      let h : Opening = opening_of x in
      let one = export_opened s i x closed placed in
      let more = react_read i h x.start x.react placed.react in
      (more.0, both s (state.Script b i h x.start) more.0 (export_tokens x.name x.kind x.params ∷ script_lines b.hosts b.instances x.start) (react_lines b.hosts b.instances x.react) one more.1, more.2)

  closes_thread : (i : InstanceText) (slot : ℕ) (ops : List Op) → script_closed (state.Thread b i slot ops) ≡ Some (b, with_part i (part.Thread slot ops))
  unfolding script_closed
  closes_thread i slot ops = refl

  closes_bad : (i : InstanceText) → script_closed (state.Instance b i) ≡ Some (b, i)
  unfolding script_closed
  closes_bad i = refl

  part_read : (s : State) (i : InstanceText) (p : PartText) → script_closed s ≡ Some (b, i) → PartIsPlaced b.hosts b.instances i.parts p → ReadsParts s b (part_lines b.hosts b.instances p) (with_part i p)
  unfolding after after_part after_thread after_bad
  part_read s i (part.Export x) closed placed = export_read s i x closed placed
  part_read s i (part.Thread slot ops) closed placed =
      let one = one_line s (state.Thread b i slot []) (line.Part (part_line.Thread slot)) placed.0.fits (rw (closed, placed.0.opens) refl) in
      let more = ops_read b fits false (λ ops. state.Thread b i slot ops) (thread_takes b i slot) [] ops placed.1 in
      (state.Thread b i slot ops, both s (state.Thread b i slot []) (state.Thread b i slot ops) (thread_tokens slot ∷ []) (script_lines b.hosts b.instances ops) one more, closes_thread i slot ops)
  part_read s i (part.Bad slot) closed placed =
      let t : State = state.Instance b (with_part i (part.Bad slot)) in
      (t, one_line s t (line.Part (part_line.Bad slot)) placed.fits (rw (closed, placed.opens) refl), closes_bad (with_part i (part.Bad slot)))

  parts_read : (s : State) (i : InstanceText) (ps : List PartText) → script_closed s ≡ Some (b, i) → EachIsPlaced (PartIsPlaced b.hosts b.instances) i.parts ps
      → ReadsParts s b (flat_map (part_lines b.hosts b.instances) ps) (record i { parts = i.parts ++ ps })
  parts_read s i [] closed each =
      subst (λ (ps : List PartText). ReadsParts s b [] (record i { parts = ps })) (sym (append-nil i.parts)) (s, nothing s, closed)
  parts_read s i (p ∷ ps) closed each =
      let lines = part_lines b.hosts b.instances in
      let one = part_read s i p closed each.0 in
      let more = parts_read one.0 (with_part i p) ps one.2 each.1 in
      subst (λ (all : List PartText). ReadsParts s b (flat_map lines (p ∷ ps)) (record i { parts = all })) (append_assoc i.parts (p ∷ []) ps)
      (more.0, both s one.0 more.0 (lines p) (flat_map lines ps) one.1 more.1, more.2)

-- ---- Instances

closes : (t : State) (p : Body × InstanceText) → script_closed t ≡ Some p → instance_closed t ≡ Some (with_instance p.0 p.1)
unfolding script_closed instance_closed
closes (state.Hosts b) p e = absurd cc
closes t p e = ap (λ o. o >>= λ (q : Body × InstanceText). Some (with_instance q.0 q.1)) e

abbrev ReadsInstances : State → Lines → Body → Type 0
ReadsInstances s ls b = (t : State) × ReadsTo s ls t × (instance_closed t ≡ Some b)

instance_read : (s : State) (b : Body) (i : InstanceText) → BodyFits b → instance_closed s ≡ Some b → InstanceIsPlaced b.hosts b.instances i → ReadsInstances s (instance_lines b.hosts b.instances i) (with_instance b i)
unfolding after after_part after_instance script_closed
instance_read s b i fits closed placed =
    let fresh : InstanceText = record { name = i.name; parts = [] } in
    let one = one_line s (state.Instance b fresh) (line.Part (part_line.Instance i.name)) placed.name (rw (closed, placed.opens) refl) in
    let more = parts_read b fits (state.Instance b fresh) fresh i.parts refl placed.parts in
    (more.0, both s (state.Instance b fresh) more.0 (instance_tokens i.name ∷ []) (flat_map (part_lines b.hosts b.instances) i.parts) one more.1, closes more.0 (b, i) more.2)

instances_read : (s : State) (b : Body) (is : List InstanceText) → BodyFits b → instance_closed s ≡ Some b → EachIsPlaced (InstanceIsPlaced b.hosts) b.instances is
    → ReadsInstances s (lines_after b.hosts b.instances is) (record b { instances = b.instances ++ is })
instances_read s b [] fits closed each =
    subst (λ (is : List InstanceText). ReadsInstances s [] (record b { instances = is })) (sym (append-nil b.instances)) (s, nothing s, closed)
instances_read s b (i ∷ is) fits closed each =
    let one = instance_read s b i fits closed each.0 in
    let more = instances_read one.0 (with_instance b i) is (with_instance_fits b i fits each.0) one.2 each.1 in
    subst (λ (all : List InstanceText). ReadsInstances s (lines_after b.hosts b.instances (i ∷ is)) (record b { instances = all })) (append_assoc b.instances (i ∷ []) is)
    (more.0, both s one.0 more.0 (instance_lines b.hosts b.instances i) (lines_after b.hosts (b.instances ++ i ∷ []) is) one.1 more.1, more.2)

-- ---- Hosts

hosts_read : (b : Body) (hs : List HostText) → EachIsPlaced HostIsPlaced b.hosts hs → ReadsTo (state.Hosts b) (map host_line hs) (state.Hosts (record b { hosts = b.hosts ++ hs }))
unfolding after after_part after_host
hosts_read b [] each = subst (λ (hs : List HostText). ReadsTo (state.Hosts b) [] (state.Hosts (record b { hosts = hs }))) (sym (append-nil b.hosts)) (nothing (state.Hosts b))
hosts_read b (h ∷ hs) each =
    let next : State = state.Hosts (with_host b h) in
    let one = one_line (state.Hosts b) next (line.Part (part_line.Host h.name h.work)) (and_from _ _ each.0.name each.0.work) (rw each.0.opens refl) in
    let more = hosts_read (with_host b h) hs each.1 in
    subst (λ (all : List HostText). ReadsTo (state.Hosts b) (map host_line (h ∷ hs)) (state.Hosts (record b { hosts = all }))) (append_assoc b.hosts (h ∷ []) hs)
    (both (state.Hosts b) next (state.Hosts (record b { hosts = b.hosts ++ h ∷ [] ++ hs })) (host_line h ∷ []) (map host_line hs) one more)

-- ---- Main

-- the number of a start or of a spawn fits its token
few_starts : (before : List MainOpText) (k : ℕ) → finish_opens before k ≡ true → k ≤ 4095
few_starts before k h =
    let p = and_parts (main_has_room before && nat_le 1 k && nat_le k (start_count before)) _ h in
    let q = and_parts (main_has_room before && nat_le 1 k) (nat_le k (start_count before)) p.0 in
    let r = and_parts (main_has_room before) (nat_le 1 k) q.0 in
    omega (arith, count_by-le-length is_start before, leb-true _ _ q.1, ltb-true _ _ r.0)

few_spawns : (before : List MainOpText) (k : ℕ) → length before ≤ 4095 → is_spawned before k ≡ true → nat_le k 4095 ≡ true
few_spawns before k few h =
    let p = and_parts (nat_le 1 k) (nat_le k (spawn_count before)) h in
    le-leb _ _ (omega (arith, count_by-le-length is_spawn before, leb-true _ _ p.1))

few_named : (before : List MainOpText) (k : ℕ) → spawn_named before k ≡ true → nat_le k 4095 ≡ true
few_named before k h =
    let p = and_parts (main_has_room before) (is_spawned before k) h in
    let room = ltb-true _ _ p.0 in
    few_spawns before k (omega (arith, room)) p.1

-- the line of an op of main, which is read as it
record MainLine (b : Body) (before : List MainOpText) (o : MainOpText) : Type 0 where
  of : NamedOp
  tokens : named_tokens of ≡ main_op_tokens b.hosts b.instances o
  fits : named_fits of ≡ true
  read : main_op_of b before of ≡ Some o

main_line : (b : Body) (before : List MainOpText) (o : MainOpText) → BodyFits b → MainOpIsPlaced b.hosts b.instances before o → MainLine b before o
unfolding main_op_of start_of finish_of spawn_of ready_of
main_line b before (main.Start f xs) fits placed =
    let names = callee_again b.hosts b.instances fits.instances f (length xs) placed.1 in
    record {
      of = named.Start (instance_name b.instances f.instance) (export_name (exports_of b.instances f.instance) f.export) xs;
      tokens = refl;
      fits = and_from _ _ (and_from _ _ names.instance names.export) placed.2;
      read = rw (fitting_again b.hosts b.instances fits.instances f xs placed.1, placed.0) refl;
    }
main_line b before (main.Finish k r) fits placed =
    record {
      of = named.Finish k r;
      tokens = refl;
      fits = and_from _ _ (le-leb _ _ (few_starts before k placed.0)) placed.1;
      read = rw placed.0 refl;
    }
main_line b before (main.Spawn h) fits placed =
    let name = host_again b.hosts h fits.hosts placed.1 in
    record { of = named.Spawn (host_name b.hosts h); tokens = refl; fits = name.name; read = rw (name.again, placed.0) refl }
main_line b before (main.Abort k) fits placed = record { of = named.Abort k; tokens = refl; fits = few_named before k placed; read = rw placed refl }
main_line b before (main.Await k) fits placed = record { of = named.Await k; tokens = refl; fits = few_named before k placed; read = rw placed refl }
main_line b before main.Quiet fits placed = record { of = named.Quiet; tokens = refl; fits = refl; read = rw placed refl }
main_line b before (main.Ready f) fits placed =
    let names = callee_again b.hosts b.instances fits.instances f placed.1 placed.2 in
    record {
      of = named.Ready (instance_name b.instances f.instance) (export_name (exports_of b.instances f.instance) f.export);
      tokens = refl;
      fits = and_from _ _ names.instance names.export;
      read = rw (names.again, placed.2, placed.0) refl;
    }

main_ops_read : (b : Body) (before ops : List MainOpText) → BodyFits b → EachIsPlaced (MainOpIsPlaced b.hosts b.instances) before ops
    → ReadsTo (state.Main b before) (map (main_op_tokens b.hosts b.instances) ops) (state.Main b (before ++ ops))
unfolding after after_main_op main_open
main_ops_read b before [] fits stand =
    subst (λ (ops : List MainOpText). ReadsTo (state.Main b before) [] (state.Main b ops)) (sym (append-nil before)) (nothing (state.Main b before))
main_ops_read b before (o ∷ ops) fits stand =
    let tokens = main_op_tokens b.hosts b.instances in
    let l = main_line b before o fits stand.0 in
    let next : State = state.Main b (before ++ o ∷ []) in
    let one = one_line (state.Main b before) next (line.MainOp l.of) l.fits (rw l.read refl) in
    let more = main_ops_read b (before ++ o ∷ []) ops fits stand.1 in
    subst (λ (all : List MainOpText). ReadsTo (state.Main b before) (map tokens (o ∷ ops)) (state.Main b all)) (append_assoc before (o ∷ []) ops)
    (both (state.Main b before) next (state.Main b (before ++ o ∷ [] ++ ops)) (tokens o ∷ []) (map tokens ops)
    (subst (λ (ws : List (List ℕ)). ReadsTo (state.Main b before) (ws ∷ []) next) l.tokens one) more)

main_room : (hosts : List HostText) (is : List InstanceText) (before : List MainOpText) (o : MainOpText) → MainOpIsPlaced hosts is before o → length before < 4095
main_room hosts is before (main.Start f xs) placed = ltb-true _ _ (and_parts (main_has_room before) _ placed.0).0
main_room hosts is before (main.Finish k r) placed =
    let p = and_parts (main_has_room before && nat_le 1 k && nat_le k (start_count before)) _ placed.0 in
    let q = and_parts (main_has_room before && nat_le 1 k) (nat_le k (start_count before)) p.0 in
    ltb-true _ _ (and_parts (main_has_room before) (nat_le 1 k) q.0).0
main_room hosts is before (main.Spawn h) placed = ltb-true _ _ (and_parts (main_has_room before) _ placed.0).0
main_room hosts is before (main.Abort k) placed = ltb-true _ _ (and_parts (main_has_room before) (is_spawned before k) placed).0
main_room hosts is before (main.Await k) placed = ltb-true _ _ (and_parts (main_has_room before) (is_spawned before k) placed).0
main_room hosts is before main.Quiet placed = ltb-true _ _ placed
main_room hosts is before (main.Ready f) placed = ltb-true _ _ placed.0

-- ---- Aborters

spawns_fit : (ops : List MainOpText) (ks : List ℕ) → length ops ≤ 4095 → list_all (is_spawned ops) ks ≡ true → numbers_fit ks ≡ true
spawns_fit ops [] few all = refl
spawns_fit ops (k ∷ ks) few all = let p = and_parts (is_spawned ops k) _ all in and_from _ _ (few_spawns ops k few p.0) (spawns_fit ops ks few p.1)

aborters_read : (s : ScenarioText) (b : Body) (before more : List (List ℕ)) → length s.main ≤ 4095 → EachIsPlaced (AborterIsPlaced s.main) before more
    → ReadsTo (state.Answered b s.main s.answer before) (map aborter_tokens more) (state.Answered b s.main s.answer (before ++ more))
unfolding after after_aborter
aborters_read s b before [] few each =
    let at = λ (all : List (List ℕ)). state.Answered b s.main s.answer all in
    subst (λ (all : List (List ℕ)). ReadsTo (at before) [] (at all)) (sym (append-nil before)) (nothing (at before))
aborters_read s b before (ks ∷ more) few each =
    let at = λ (all : List (List ℕ)). state.Answered b s.main s.answer all in
    let spawned = (and_parts (ltb (length before) 8 && nat_le 1 (length ks) && nat_le (length ks) 16) (list_all (is_spawned s.main) ks) each.0).1 in
    let one = one_line (at before) (at (before ++ ks ∷ [])) (line.Aborter ks) (spawns_fit s.main ks few spawned) (rw each.0 refl) in
    let rest = aborters_read s b (before ++ ks ∷ []) more few each.1 in
    subst (λ (all : List (List ℕ)). ReadsTo (at before) (map aborter_tokens (ks ∷ more)) (at all)) (append_assoc before (ks ∷ []) more)
    (both (at before) (at (before ++ ks ∷ [])) (at (before ++ ks ∷ [] ++ more)) (aborter_tokens ks ∷ []) (map aborter_tokens more) one rest)

-- ---- The whole

head_read : (v : Version) (h t : ℕ) (i : IdleLine) → handles_fit h ≡ true → table_fits t ≡ true → ReadsTo state.Empty (head_lines v h t i) (state.Hosts (record { version = v; handles = h; table = t; idle = i; hosts = []; instances = [] }))
unfolding after after_head after_title after_handles after_table after_idle
head_read v h t i fh ft =
    let b : State = state.Hosts (record { version = v; handles = h; table = t; idle = i; hosts = []; instances = [] }) in
    both state.Empty (state.Titled v) b (title_tokens v ∷ []) (handles_tokens h ∷ table_tokens t ∷ idle_tokens i ∷ []) (one_line state.Empty (state.Titled v) (line.Head (head_line.Title v)) refl refl)
    (both (state.Titled v) (state.Handles v h) b (handles_tokens h ∷ []) (table_tokens t ∷ idle_tokens i ∷ []) (one_line (state.Titled v) (state.Handles v h) (line.Head (head_line.Handles h)) fh refl)
    (both (state.Handles v h) (state.Table v h t) b (table_tokens t ∷ []) (idle_tokens i ∷ []) (one_line (state.Handles v h) (state.Table v h t) (line.Head (head_line.Table t)) ft refl)
    (one_line (state.Table v h t) b (line.Head (head_line.Idle i)) refl refl)))

abbrev body_of : ScenarioText → Body
body_of s = record { version = s.version; handles = s.handles; table = s.table; idle = s.idle; hosts = s.hosts; instances = s.instances }

body_fits : (s : ScenarioText) → IsWellFormed s → BodyFits (body_of s)
body_fits s fits = record { handles = fits.handles; table = fits.table; hosts = fits.hosts; instances = fits.instances }

body_read : (s : ScenarioText) → IsWellFormed s → ReadsInstances state.Empty (head_lines s.version s.handles s.table s.idle ++ body_lines s.hosts s.instances) (body_of s)
unfolding instance_closed
body_read s fits =
    let none : Body = record { version = s.version; handles = s.handles; table = s.table; idle = s.idle; hosts = []; instances = [] } in
    let b : Body = record none { hosts = s.hosts } in
    let head = head_lines s.version s.handles s.table s.idle in
    let hosts = map host_line s.hosts in
    let bare : BodyFits b = record { handles = fits.handles; table = fits.table; hosts = fits.hosts; instances = tt } in
    let more = instances_read (state.Hosts b) b s.instances bare refl fits.instances in
    let until_hosts = both (state.Hosts none) (state.Hosts b) more.0 hosts (lines_after s.hosts [] s.instances) (hosts_read none s.hosts fits.hosts) more.1 in
    (more.0, both state.Empty (state.Hosts none) more.0 head (body_lines s.hosts s.instances) (head_read s.version s.handles s.table s.idle fits.handles fits.table) until_hosts, more.2)

main_read : (s : ScenarioText) → IsWellFormed s → (t : State) → instance_closed t ≡ Some (body_of s) → ReadsTo t (main_lines s.hosts s.instances s.main) (state.Main (body_of s) s.main)
unfolding after after_main
main_read s fits t closed =
    let b = body_of s in
    both t (state.Main b []) (state.Main b s.main) (main_tokens ∷ []) (map (main_op_tokens s.hosts s.instances) s.main)
    (one_line t (state.Main b []) line.Main refl (rw closed refl)) (main_ops_read b [] s.main (body_fits s fits) fits.main)

answer_read : (s : ScenarioText) → IsWellFormed s → ReadsTo (state.Main (body_of s) s.main) (answer_tokens s.answer ∷ []) (state.Answered (body_of s) s.main s.answer [])
unfolding after after_answer main_open
answer_read s fits = one_line (state.Main (body_of s) s.main) (state.Answered (body_of s) s.main s.answer []) (line.Answer s.answer) fits.answer refl

end_read : (s : ScenarioText) → ReadsTo (state.Answered (body_of s) s.main s.answer s.aborters) (end_tokens ∷ []) (state.Ended s)
unfolding after after_end
end_read s = one_line (state.Answered (body_of s) s.main s.answer s.aborters) (state.Ended s) line.End refl refl

tree_read : (s : ScenarioText) → IsWellFormed s → ReadsTo state.Empty (lines_of s) (state.Ended s)
tree_read s fits =
    let b = body_of s in
    let front = head_lines s.version s.handles s.table s.idle ++ body_lines s.hosts s.instances in
    let main_part = main_lines s.hosts s.instances s.main in
    let aborters = map aborter_tokens s.aborters in
    let few : length s.main ≤ 4095 = few_after (MainOpIsPlaced s.hosts s.instances) 4095 (main_room s.hosts s.instances) [] s.main (lit≤ tt) fits.main in
    let answered : List (List ℕ) → State = λ all. state.Answered b s.main s.answer all in
    let body = body_read s fits in
    let until_main = both state.Empty body.0 (state.Main b s.main) front main_part body.1 (main_read s fits body.0 body.2) in
    let until_answer = both state.Empty (state.Main b s.main) (answered []) (front ++ main_part) (answer_tokens s.answer ∷ []) until_main (answer_read s fits) in
    let until_end = both state.Empty (answered []) (answered s.aborters) (front ++ main_part ++ answer_tokens s.answer ∷ []) aborters until_answer (aborters_read s b [] s.aborters few fits.aborters) in
    both state.Empty (answered s.aborters) (state.Ended s) (front ++ main_part ++ answer_tokens s.answer ∷ [] ++ aborters) (end_tokens ∷ []) until_end (end_read s)

-- what is well formed is read from its spelling
pub read_again : (s : ScenarioText) → IsWellFormed s → read_from state.Empty 1 (lines_of s) ≡ Ok s
unfolding read_from scenario_of
read_again s fits =
    let r = tree_read s fits 1 [] in
    ap (read_from state.Empty 1) (sym (append-nil (lines_of s))) ∙ r.1
