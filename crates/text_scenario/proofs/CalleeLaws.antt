-- A callee's name is that of the place that is found for it, and is found again.
use Rattle.std.proofs.Common.{◌≡◌, ℕ, zero, suc, ◌+◌, ◌^◌, ◌<◌, true, false, ◌&&◌, cond, eqb, ltb, List, [], ◌∷◌, length, take, Option, Some, None, refl, sym, ap, subst, ◌∙◌, arith}
use Rattle.std.specs.Prelude.{slice_get, unwrap_or, position}
use Rattle.std.specs.List.{list_all, list_any}
use Rattle.std.specs.Option.{option_map}
use Rattle.std.specs.Str.{bytes_eq}
use Rattle.std.proofs.lemmas.Bool.{and_parts, and_from, eqb-true, eq-eqb, lt-ltb, ltb-true, not-true}
use Rattle.std.proofs.lemmas.List.{nil_from_length}
use Rattle.std.proofs.lemmas.Option.{slice_get_within}
use Rattle.machine_data.specs.declared.component.Callee.{Callee}
use Rattle.machine_data.specs.declared.op.Operand.{Operand}
use Rattle.machine_data.specs.declared.op.CallOp.{CallOp}
use Rattle.machine_data.specs.declared.op.CallOp.TheVariants as call_op
use Rattle.text_lines.specs.declared.line.CalleeName.{CalleeName}
use Rattle.text_lines.specs.declared.line.CalleeName.TheVariants as callee
use Rattle.text_lines.specs.declared.line.NamedCall.{NamedCall}
use Rattle.text_lines.specs.declared.line.NamedCall.TheVariants as named_call
use Rattle.text_lines.specs.Tokens.{◌>>=◌, is_name}
use Rattle.text_lines.specs.LineTokens.{callee_token, call_tokens, call_sync_tokens}
use Rattle.text_lines.specs.Fits.{register_fits, operand_fits}
use Rattle.text_lines.proofs.Numbers.{guarded}
use Rattle.text_lines.proofs.TokenLaws.{bind_some, some_is}
use Rattle.text_lines.proofs.CallLaws.{name_fits, params_fit, named_call_tokens, named_call_fits}
use Rattle.text_scenario.specs.declared.tree.HostText.{HostText}
use Rattle.text_scenario.specs.declared.tree.ExportText.{ExportText}
use Rattle.text_scenario.specs.declared.tree.InstanceText.{InstanceText}
use Rattle.text_scenario.specs.Spelling.{exports_in, exports_of, instance_name, export_name, name_of, host_name, call_op_tokens}
use Rattle.text_scenario.specs.Placement.{EachIsPlaced, HostIsPlaced, params_of, CallIsPlaced, exports_among, export_count, export_opens, InstanceIsPlaced}
use Rattle.text_scenario.specs.State.{small, host_place, instance_place, export_place, callee_of, fitting_export, fitting_host, call_to, call_sync_to, call_of}
use Rattle.text_scenario.proofs.PlacementLaws.{place_takes, place_again, same_bytes, bytes_same, placed_at, some_map, length_before}
use Rattle.text_scenario.proofs.ExportLaws.{exports_counted, exports_named, export_placed}

-- ---- What was found

-- the name at the place of a name is that name
named_place : {X : Type 0} (name : X → List ℕ) (xs : List X) (w : List ℕ) (k : ℕ) → (position (λ x. bytes_eq (name x) w) xs >>= small) ≡ Some k
    → (unwrap_or (option_map name (slice_get xs k)) [] ≡ w) × (k < length xs)
named_place {X} name xs w k e =
    let m = bind_some (position (λ x. bytes_eq (name x) w) xs) small k e in
    let g = guarded (ltb m.0 (2 ^ 32)) m.0 k m.2 in
    let t = place_takes (λ x. bytes_eq (name x) w) xs k (m.1 ∙ ap (λ (j : ℕ). Some j) g.1) in
    (ap (λ (o : Option X). unwrap_or (option_map name o) []) t.1 ∙ same_bytes (name t.0) w t.2, slice_get_within xs k t.0 t.1)

pub host_named : (hosts : List HostText) (w : List ℕ) (k : ℕ) → host_place hosts w ≡ Some k → (host_name hosts k ≡ w) × (k < length hosts)
host_named hosts w k e = named_place (λ h. h.name) hosts w k e

pub callee_named : (is : List InstanceText) (instance export : List ℕ) (f : Callee) → callee_of is instance export ≡ Some f → name_of is f ≡ callee_token instance export
unfolding callee_of
callee_named is instance export f e =
    let found = λ (k j : ℕ). let made : Callee = record { instance = k; export = j } in made in
    let k = bind_some (instance_place is instance) (λ k. export_place (exports_of is k) export >>= λ j. Some (found k j)) f e in
    let j = bind_some (export_place (exports_of is k.0) export) (λ j. Some (found k.0 j)) f k.2 in
    let one = named_place (λ i. i.name) is instance k.0 k.1 in
    let two = named_place (λ x. x.name) (exports_of is k.0) export j.0 j.1 in
    subst (λ (g : Callee). name_of is g ≡ callee_token instance export) (some_is (found k.0 j.0) f j.2)
    (ap (λ (v : List ℕ). callee_token v (export_name (exports_of is k.0) j.0)) one.0 ∙ ap (callee_token instance) two.0)

-- the export of these names, with as many parameters as operands
pub record Fitting (is : List InstanceText) (instance export : List ℕ) (xs : List Operand) (f : Callee) : Type 0 where
  pub name : name_of is f ≡ callee_token instance export
  pub params : params_of is f ≡ Some (length xs)

pub export_fits : (is : List InstanceText) (instance export : List ℕ) (xs : List Operand) (f : Callee) → fitting_export is instance export xs ≡ Some f → Fitting is instance export xs f
unfolding fitting_export
export_fits is instance export xs f e =
    let g = bind_some (callee_of is instance export) (λ f. params_of is f >>= λ n. cond (eqb n (length xs)) (Some f) None) f e in
    let n = bind_some (params_of is g.0) (λ n. cond (eqb n (length xs)) (Some g.0) None) f g.2 in
    let t = guarded (eqb n.0 (length xs)) g.0 f n.2 in
    subst (Fitting is instance export xs) t.1 (record { name = callee_named is instance export g.0 g.1; params = n.1 ∙ ap (λ (m : ℕ). Some m) (eqb-true _ _ t.0) })

record FittingHost (hosts : List HostText) (name : List ℕ) (xs : List Operand) (h : ℕ) : Type 0 where
  named : host_name hosts h ≡ name
  known : h < length hosts
  none : xs ≡ []

host_fits : (hosts : List HostText) (name : List ℕ) (xs : List Operand) (h : ℕ) → fitting_host hosts name xs ≡ Some h → FittingHost hosts name xs h
unfolding fitting_host
host_fits hosts name xs h e =
    let k = bind_some (host_place hosts name) (λ h. cond (eqb (length xs) 0) (Some h) None) h e in
    let g = guarded (eqb (length xs) 0) k.0 h k.2 in
    let t = host_named hosts name k.0 k.1 in
    subst (FittingHost hosts name xs) g.1 (record { named = t.0; known = t.1; none = nil_from_length xs (eqb-true _ _ g.0) })

-- ---- A named call is this call, and its callee is on an earlier line

abbrev pub IsCall : List HostText → List InstanceText → NamedCall → CallOp → Type 0
IsCall hosts is c o = (named_call_tokens c ≡ call_op_tokens hosts is o) × CallIsPlaced hosts is o

call_is : (hosts : List HostText) (is : List InstanceText) (r q : ℕ) (c : CalleeName) (xs : List Operand) (o : CallOp) → call_to hosts is r q c xs ≡ Some o
    → (register_fits r && register_fits q) ≡ true → list_all operand_fits xs ≡ true → IsCall hosts is (named_call.Call r q c xs) o
unfolding call_to
call_is hosts is r q (callee.Export instance export) xs o e rs fits =
    let f = bind_some (fitting_export is instance export xs) (λ f. Some (call_op.Call r q f xs)) o e in
    let t = export_fits is instance export xs f.0 f.1 in
    subst (IsCall hosts is (named_call.Call r q (callee.Export instance export) xs)) (some_is (call_op.Call r q f.0 xs) o f.2)
    (ap (λ (w : List ℕ). call_tokens r q w xs) (sym t.name), (and_from _ _ rs fits, t.params))
call_is hosts is r q (callee.Host name) xs o e rs fits =
    let h = bind_some (fitting_host hosts name xs) (λ h. Some (call_op.CallHost r q h)) o e in
    let t = host_fits hosts name xs h.0 h.1 in
    subst (IsCall hosts is (named_call.Call r q (callee.Host name) xs)) (some_is (call_op.CallHost r q h.0) o h.2)
    (ap (λ (ys : List Operand). call_tokens r q name ys) t.none ∙ ap (λ (w : List ℕ). call_tokens r q w []) (sym t.named), (rs, t.known))

call_sync_is : (hosts : List HostText) (is : List InstanceText) (r : ℕ) (c : CalleeName) (xs : List Operand) (o : CallOp) → call_sync_to hosts is r c xs ≡ Some o
    → register_fits r ≡ true → list_all operand_fits xs ≡ true → IsCall hosts is (named_call.CallSync r c xs) o
unfolding call_sync_to
call_sync_is hosts is r (callee.Export instance export) xs o e rs fits =
    let f = bind_some (fitting_export is instance export xs) (λ f. Some (call_op.CallSync r f xs)) o e in
    let t = export_fits is instance export xs f.0 f.1 in
    subst (IsCall hosts is (named_call.CallSync r (callee.Export instance export) xs)) (some_is (call_op.CallSync r f.0 xs) o f.2)
    (ap (λ (w : List ℕ). call_sync_tokens r w xs) (sym t.name), (and_from _ _ rs fits, t.params))
call_sync_is hosts is r (callee.Host name) xs o e rs fits =
    let h = bind_some (fitting_host hosts name xs) (λ h. Some (call_op.CallSyncHost r h)) o e in
    let t = host_fits hosts name xs h.0 h.1 in
    subst (IsCall hosts is (named_call.CallSync r (callee.Host name) xs)) (some_is (call_op.CallSyncHost r h.0) o h.2)
    (ap (λ (ys : List Operand). call_sync_tokens r name ys) t.none ∙ ap (λ (w : List ℕ). call_sync_tokens r w []) (sym t.named), (rs, t.known))

pub named_call_is : (hosts : List HostText) (is : List InstanceText) (c : NamedCall) (o : CallOp) → call_of hosts is c ≡ Some o → named_call_fits c ≡ true → IsCall hosts is c o
unfolding call_of
named_call_is hosts is (named_call.Call r q c xs) o e fits =
    let p = and_parts (register_fits r && register_fits q) (params_fit (c, xs)) fits in
    call_is hosts is r q c xs o e p.0 (and_parts (name_fits c) (list_all operand_fits xs) p.1).1
named_call_is hosts is (named_call.CallSync r c xs) o e fits =
    let p = and_parts (register_fits r) (params_fit (c, xs)) fits in
    call_sync_is hosts is r c xs o e p.0 (and_parts (name_fits c) (list_all operand_fits xs) p.1).1

-- ---- What is found again

small_again : {X : Type 0} (name : X → List ℕ) (xs : List X) (k : ℕ) (x : X) → slice_get xs k ≡ Some x → list_any (λ y. bytes_eq (name y) (name x)) (take k xs) ≡ false → length (take k xs) < 256
    → (position (λ y. bytes_eq (name y) (name x)) xs >>= small) ≡ Some k
small_again name xs k x e fresh few =
    let fits : ltb k (2 ^ 32) ≡ true = lt-ltb _ _ (omega (arith, length_before xs k x e)) in
    rw (place_again (λ y. bytes_eq (name y) (name x)) xs k x e (bytes_same (name x)) fresh, fits) refl

-- the host at a place, by its name
pub record NamedHost (hosts : List HostText) (k : ℕ) : Type 0 where
  pub name : is_name (host_name hosts k) ≡ true
  pub again : host_place hosts (host_name hosts k) ≡ Some k

pub some_at : {X : Type 0} (xs : List X) (k : ℕ) (o : Option X) → slice_get xs k ≡ o → k < length xs → (x : X) × (slice_get xs k ≡ Some x)
some_at xs k (Some x) at lt = (x, at)
some_at [] k None at lt = absurd (omega arith)
some_at (y ∷ xs) zero None at lt = absurd cc
some_at (y ∷ xs) (suc k) None at lt = some_at xs k None at (omega arith)

pub host_again : (hosts : List HostText) (k : ℕ) → EachIsPlaced HostIsPlaced [] hosts → k < length hosts → NamedHost hosts k
host_again hosts k each lt =
    let h = some_at hosts k (slice_get hosts k) refl lt in
    let placed = placed_at HostIsPlaced hosts k h.0 each h.1 in
    let opens = and_parts (ltb (length (take k hosts)) 256) _ placed.opens in
    let place = small_again (λ (h : HostText). h.name) hosts k h.0 h.1 (not-true _ opens.1) (ltb-true _ _ opens.0) in
    record { name = rw h.1 placed.name; again = rw h.1 place }

-- the export that is named, with its instance
record Found (is : List InstanceText) (f : Callee) (n : ℕ) : Type 0 where
  i : InstanceText
  x : ExportText
  at : slice_get is f.instance ≡ Some i
  within : slice_get (exports_in i.parts) f.export ≡ Some x

found_in : (is : List InstanceText) (f : Callee) (n : ℕ) (o : Option InstanceText) → slice_get is f.instance ≡ o
    → option_map (λ x. x.params) (slice_get (unwrap_or (option_map (λ i. exports_in i.parts) o) []) f.export) ≡ Some n → Found is f n
found_in is f n None at e = absurd cc
found_in is f n (Some i) at e =
    let p = some_map (λ (x : ExportText). x.params) (slice_get (exports_in i.parts) f.export) n e in
    record { i = i; x = p.0; at = at; within = p.1 }

found : (is : List InstanceText) (f : Callee) (n : ℕ) → params_of is f ≡ Some n → Found is f n
found is f n e = found_in is f n (slice_get is f.instance) refl e

pub record Named (is : List InstanceText) (f : Callee) : Type 0 where
  pub instance : is_name (instance_name is f.instance) ≡ true
  pub export : is_name (export_name (exports_of is f.instance) f.export) ≡ true
  pub again : callee_of is (instance_name is f.instance) (export_name (exports_of is f.instance) f.export) ≡ Some f

module _ (hosts : List HostText) (is : List InstanceText) (each : EachIsPlaced (InstanceIsPlaced hosts) [] is) where
  named_at : (f : Callee) (n : ℕ) → Found is f n → Named is f
  unfolding callee_of export_opens
  named_at f n g =
      let placed = placed_at (InstanceIsPlaced hosts) is f.instance g.i each g.at in
      let within = export_placed hosts (take f.instance is) g.i.parts f.export g.x placed.parts g.within in
      let front = take f.export (exports_in g.i.parts) in
      let opens_i = and_parts (ltb (length (take f.instance is)) 64) _ placed.opens in
      let opens_x = and_parts (ltb (export_count (take f.instance is) + exports_among within.before) 256) _ within.placed.opens in
      let few_i = ltb-true _ _ opens_i.0 in
      let few_x = ltb-true _ _ opens_x.0 in
      let same : length front ≡ exports_among within.before = ap (λ es. length es) (sym within.is) ∙ sym (exports_counted within.before) in
      let fresh_x : list_any (λ e. bytes_eq e.name g.x.name) front ≡ false =
      ap (list_any (λ e. bytes_eq e.name g.x.name)) (sym within.is) ∙ sym (exports_named g.x.name within.before) ∙ not-true _ opens_x.1 in
      let place_i = small_again (λ (i : InstanceText). i.name) is f.instance g.i g.at (not-true _ opens_i.1) (omega (arith, few_i)) in
      let place_x = small_again (λ (x : ExportText). x.name) (exports_in g.i.parts) f.export g.x g.within fresh_x (omega (arith, few_x, same)) in
      record {
        instance = rw g.at placed.name;
        export = rw (g.at, g.within) within.placed.name;
        again = rw (g.at, g.within, place_i, g.at, place_x) refl;
      }

  pub callee_again : (f : Callee) (n : ℕ) → params_of is f ≡ Some n → Named is f
  callee_again f n e = named_at f n (found is f n e)

  pub fitting_again : (f : Callee) (xs : List Operand) → params_of is f ≡ Some (length xs) → fitting_export is (instance_name is f.instance) (export_name (exports_of is f.instance) f.export) xs ≡ Some f
  unfolding fitting_export
  fitting_again f xs e = rw ((callee_again f (length xs) e).again, e, eq-eqb (length xs) (length xs) refl) refl

-- ---- The line of a call

-- the named call that is read as this one
pub record CallLine (hosts : List HostText) (is : List InstanceText) (o : CallOp) : Type 0 where
  pub of : NamedCall
  pub tokens : named_call_tokens of ≡ call_op_tokens hosts is o
  pub fits : named_call_fits of ≡ true
  pub read : call_of hosts is of ≡ Some o

module _ (hosts : List HostText) (is : List InstanceText) (each_host : EachIsPlaced HostIsPlaced [] hosts) (each : EachIsPlaced (InstanceIsPlaced hosts) [] is) where
  pub call_line : (r q : ℕ) (f : Callee) (xs : List Operand) → CallIsPlaced hosts is (call_op.Call r q f xs) → CallLine hosts is (call_op.Call r q f xs)
  unfolding call_of call_to
  call_line r q f xs placed =
      let names = callee_again hosts is each f (length xs) placed.1 in
      let p = and_parts (register_fits r && register_fits q) (list_all operand_fits xs) placed.0 in
      record {
        of = named_call.Call r q (callee.Export (instance_name is f.instance) (export_name (exports_of is f.instance) f.export)) xs;
        tokens = refl;
        fits = and_from _ _ p.0 (and_from _ _ (and_from _ _ names.instance names.export) p.1);
        read = rw (fitting_again hosts is each f xs placed.1) refl;
      }

  pub call_sync_line : (r : ℕ) (f : Callee) (xs : List Operand) → CallIsPlaced hosts is (call_op.CallSync r f xs) → CallLine hosts is (call_op.CallSync r f xs)
  unfolding call_of call_sync_to
  call_sync_line r f xs placed =
      let names = callee_again hosts is each f (length xs) placed.1 in
      let p = and_parts (register_fits r) (list_all operand_fits xs) placed.0 in
      record {
        of = named_call.CallSync r (callee.Export (instance_name is f.instance) (export_name (exports_of is f.instance) f.export)) xs;
        tokens = refl;
        fits = and_from _ _ p.0 (and_from _ _ (and_from _ _ names.instance names.export) p.1);
        read = rw (fitting_again hosts is each f xs placed.1) refl;
      }

  pub call_host_line : (r q h : ℕ) → CallIsPlaced hosts is (call_op.CallHost r q h) → CallLine hosts is (call_op.CallHost r q h)
  unfolding call_of call_to fitting_host
  call_host_line r q h placed =
      let name = host_again hosts h each_host placed.1 in
      record {
        of = named_call.Call r q (callee.Host (host_name hosts h)) [];
        tokens = refl;
        fits = and_from _ _ placed.0 (and_from _ _ name.name refl);
        read = rw name.again refl;
      }

  pub call_sync_host_line : (r h : ℕ) → CallIsPlaced hosts is (call_op.CallSyncHost r h) → CallLine hosts is (call_op.CallSyncHost r h)
  unfolding call_of call_sync_to fitting_host
  call_sync_host_line r h placed =
      let name = host_again hosts h each_host placed.1 in
      record {
        of = named_call.CallSync r (callee.Host (host_name hosts h)) [];
        tokens = refl;
        fits = and_from _ _ placed.0 (and_from _ _ name.name refl);
        read = rw name.again refl;
      }
