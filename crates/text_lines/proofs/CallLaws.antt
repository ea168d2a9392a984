-- Each line with a callee is read from its one spelling.
use Rattle.std.proofs.Common.{◌≡◌, ℕ, ◌+◌, Bool, true, false, ◌&&◌, cond, eqb, List, [], ◌∷◌, ◌++◌, length, take, drop, map, Option, Some, None, refl, sym, ap, subst, ◌∙◌, arith, lit<}
use Rattle.std.specs.Prelude.{codes, decimal, nat_le, nat_lt, position, slice_index, ◌==◌}
use Rattle.std.specs.Char.{is_ascii_lowercase}
use Rattle.std.specs.List.{list_all}
use Rattle.std.proofs.lemmas.Bool.{and_parts, and_from, eqb-true, ne_eqb}
use Rattle.std.proofs.lemmas.Bool.Decides.{nat_tests}
use Rattle.std.proofs.lemmas.List.{take-append-drop, drop_more, take_at, drop_at, drop-drop}
use Rattle.std.proofs.lemmas.List.Quantifiers.{position-Some}
use Rattle.machine_data.specs.declared.op.Operand.{Operand}
use Rattle.text_lines.specs.declared.keyword.MainKeyword.{MainKeyword}
use Rattle.text_lines.specs.declared.keyword.MainKeyword.TheVariants as main
use Rattle.text_lines.specs.declared.line.CalleeName.{CalleeName}
use Rattle.text_lines.specs.declared.line.CalleeName.TheVariants as callee
use Rattle.text_lines.specs.declared.line.NamedCall.{NamedCall}
use Rattle.text_lines.specs.declared.line.NamedCall.TheVariants as named_call
use Rattle.text_lines.specs.declared.line.NamedOp.{NamedOp}
use Rattle.text_lines.specs.declared.line.NamedOp.TheVariants as named
use Rattle.text_lines.specs.declared.line.Line.TheVariants as line
use Rattle.text_lines.specs.Tokens.{◌>>=◌, register_at, is_name_byte, is_name, one_of, two_of}
use Rattle.text_lines.specs.Keyword.{main_keyword}
use Rattle.text_lines.specs.LineTokens.{register_token, operand_token, callee_token, call_tokens, call_sync_tokens, start_tokens, finish_tokens, spawn_tokens, abort_tokens, await_tokens, quiet_tokens, ready_tokens}
use Rattle.text_lines.specs.Fits.{register_fits, operand_fits}
use Rattle.text_lines.specs.Line.{operands_at, callee_at, callee_name_at, params_after, call_from, call_after, call_sync_after, call_line_after, start_after, finish_after, host_name_after, number_after, ready_after, main_op_after, line_after, line_at}
use Rattle.text_lines.proofs.Numbers.{guarded}
use Rattle.text_lines.proofs.Position.{position_head, position_tail}
use Rattle.text_lines.proofs.TokenLaws.{bind_some, some_is, Reads, registers, operands, bounded}
use Rattle.text_lines.proofs.LineForms.{Spells, Tails, same_cons, no_tokens, one_token, token_of_each, with_tail, one_tail, each_take, each_again}

-- ---- Names of exports

abbrev cut_at : List ℕ → ℕ → Option (List ℕ × List ℕ)
cut_at w i = cond (is_name (take i w) && is_name (drop (i + 1) w)) (Some (take i w, drop (i + 1) w)) None

callee_takes : (w : List ℕ) (p : List ℕ × List ℕ) → callee_at w ≡ Some p → (w ≡ callee_token p.0 p.1) × (is_name p.0 && is_name p.1 ≡ true)
unfolding callee_at
callee_takes w p e =
    let i = bind_some (position (λ b. eqb b 46) w) (cut_at w) p e in
    let g = guarded (is_name (take i.0 w) && is_name (drop (i.0 + 1) w)) (take i.0 w, drop (i.0 + 1) w) p i.2 in
    let at = position-Some (λ b. eqb b 46) w i.0 0 i.1 in
    let parts : w ≡ take i.0 w ++ 46 ∷ drop (i.0 + 1) w =
    sym (take-append-drop i.0 w) ∙ ap (λ (v : List ℕ). take i.0 w ++ v) (drop_more w i.0 0 at.0 ∙ ap (λ (b : ℕ). b ∷ drop (i.0 + 1) w) (eqb-true _ _ at.1)) in
    subst (λ (q : List ℕ × List ℕ). (w ≡ callee_token q.0 q.1) × (is_name q.0 && is_name q.1 ≡ true)) g.1 (parts, g.0)

no_dot : (b : ℕ) → is_name_byte b ≡ true → eqb b 46 ≡ false
no_dot b name = ne_eqb b 46 (λ h. subst (λ (c : ℕ). is_name_byte c ≡ true → ⊥) (sym h) (λ q. cc) name)

dot_after : (xs ys : List ℕ) → list_all is_name_byte xs ≡ true → position (λ b. eqb b 46) (xs ++ 46 ∷ ys) ≡ Some (length xs)
dot_after [] ys names = position_head (λ b. eqb b 46) 46 ys refl
dot_after (x ∷ xs) ys names =
    let p = and_parts _ _ names in
    rw (position_tail (λ b. eqb b 46) x (xs ++ 46 ∷ ys) (no_dot x p.0), dot_after xs ys p.1) refl

name_bytes : (w : List ℕ) → is_name w ≡ true → list_all is_name_byte w ≡ true
name_bytes w h = grind (arith, nat_tests)

cut_again : (w : List ℕ) (i : ℕ) (front back : List ℕ) → position (λ b. eqb b 46) w ≡ Some i → take i w ≡ front → drop (i + 1) w ≡ back → is_name front ≡ true → is_name back ≡ true → callee_at w ≡ Some (front, back)
unfolding callee_at
cut_again w i front back at f b nf nb = rw (at, f, b, nf, nb) refl

callee_again : (instance export : List ℕ) → is_name instance ≡ true → is_name export ≡ true → callee_at (callee_token instance export) ≡ Some (instance, export)
callee_again instance export i e =
    let w = callee_token instance export in
    let front : take (length instance) w ≡ instance = take_at instance (46 ∷ export) (length instance) refl in
    let back : drop (length instance + 1) w ≡ export = sym (drop-drop 1 (length instance) w) ∙ ap (λ (v : List ℕ). drop 1 v) (drop_at instance (46 ∷ export) (length instance) refl) in
    cut_again w (length instance) instance export (dot_after instance export (name_bytes instance i)) front back i e

abbrev pair_token : List ℕ × List ℕ → List ℕ
pair_token p = callee_token p.0 p.1

abbrev pair_fits : List ℕ × List ℕ → Bool
pair_fits p = is_name p.0 && is_name p.1

callees : Reads callee_at pair_token pair_fits
callees = record { takes = callee_takes; again = λ p fits. let f = and_parts _ _ fits in callee_again p.0 p.1 f.0 f.1 }

-- ---- Names of exports and hosts

abbrev pub name_token : CalleeName → List ℕ
name_token (callee.Export instance export) = callee_token instance export
name_token (callee.Host host) = host

abbrev pub name_fits : CalleeName → Bool
name_fits (callee.Export instance export) = is_name instance && is_name export
name_fits (callee.Host host) = is_name host

abbrev IsNameOf : List ℕ → CalleeName → Type 0
IsNameOf w c = (w ≡ name_token c) × (name_fits c ≡ true)

name_takes : (w : List ℕ) (c : CalleeName) (b : Bool) → is_name w ≡ b → cond b (Some (callee.Host w)) (callee_at w >>= λ p. Some (callee.Export p.0 p.1)) ≡ Some c → IsNameOf w c
name_takes w c true h e = subst (IsNameOf w) (some_is (callee.Host w) c e) (refl, h)
name_takes w c false h e =
    let p = bind_some (callee_at w) (λ p. Some (callee.Export p.0 p.1)) c e in
    subst (IsNameOf w) (some_is (callee.Export p.0.0 p.0.1) c p.2) (callee_takes w p.0 p.1)

barred : (b : Bool) → (b && false) ≡ false
barred true = refl
barred false = refl

dotted : (xs ys : List ℕ) → list_all is_name_byte (xs ++ 46 ∷ ys) ≡ false
dotted [] ys = refl
dotted (x ∷ xs) ys = rw (dotted xs ys) (barred (is_name_byte x))

twice_barred : (a b c : Bool) → cond a false (cond b false (c && false)) ≡ false
twice_barred true b c = refl
twice_barred false true c = refl
twice_barred false false c = barred c

-- what names an export is no name of its own
no_name : (instance export : List ℕ) → is_name (callee_token instance export) ≡ false
no_name instance export =
    let w = callee_token instance export in
    rw (dotted instance export) (twice_barred (length w == 0) (nat_lt 16 (length w)) (is_ascii_lowercase (slice_index w 0)))

name_again : (c : CalleeName) → name_fits c ≡ true → callee_name_at (name_token c) ≡ Some c
unfolding callee_name_at
name_again (callee.Export instance export) fits = let f = and_parts _ _ fits in rw (no_name instance export, callee_again instance export f.0 f.1) refl
name_again (callee.Host host) fits = rw fits refl

names : Reads callee_name_at name_token name_fits
unfolding callee_name_at
names = record { takes = λ w c e. name_takes w c (is_name w) refl e; again = name_again }

-- ---- Calls of guests

abbrev pub named_call_tokens : NamedCall → List (List ℕ)
named_call_tokens (named_call.Call r q c xs) = call_tokens r q (name_token c) xs
named_call_tokens (named_call.CallSync r c xs) = call_sync_tokens r (name_token c) xs

abbrev pub params_fit : CalleeName × List Operand → Bool
params_fit p = name_fits p.0 && list_all operand_fits p.1

abbrev pub named_call_fits : NamedCall → Bool
named_call_fits (named_call.Call r q c xs) = register_fits r && register_fits q && params_fit (c, xs)
named_call_fits (named_call.CallSync r c xs) = register_fits r && params_fit (c, xs)

abbrev params_tokens : CalleeName × List Operand → List (List ℕ)
params_tokens p = name_token p.0 ∷ map operand_token p.1

params_take : (ws : List (List ℕ)) (p : CalleeName × List Operand) → params_after ws ≡ Some p → (ws ≡ params_tokens p) × (params_fit p ≡ true)
unfolding params_after
params_take [] p e = absurd cc
params_take (w ∷ ws) p e =
    let made = λ (c : CalleeName) (xs : List Operand). let q : CalleeName × List Operand = (c, xs) in q in
    let c = bind_some (callee_name_at w) (λ c. operands_at ws >>= λ xs. Some (made c xs)) p e in
    let xs = bind_some (operands_at ws) (λ xs. Some (made c.0 xs)) p c.2 in
    let tc = names.takes w c.0 c.1 in
    let tx = each_take operands ws xs.0 xs.1 in
    subst (λ (q : CalleeName × List Operand). (w ∷ ws ≡ params_tokens q) × (params_fit q ≡ true)) (some_is (made c.0 xs.0) p xs.2)
    (same_cons w (name_token c.0) ws (map operand_token xs.0) tc.0 tx.0, and_from _ _ tc.1 tx.1)

call_from_takes : (r : ℕ) (ws : List (List ℕ)) (c : NamedCall) → call_from r ws ≡ Some c → register_fits r ≡ true → Spells named_call_tokens named_call_fits (codes "call") (register_token r ∷ ws) c
unfolding call_from
call_from_takes r [] c e fits = absurd cc
call_from_takes r (w ∷ ws) c e fits =
    let q = bind_some (register_at w) (λ q. params_after ws >>= λ p. Some (named_call.Call r q p.0 p.1)) c e in
    let p = bind_some (params_after ws) (λ p. Some (named_call.Call r q.0 p.0 p.1)) c q.2 in
    let tq = registers.takes w q.0 q.1 in
    let tp = params_take ws p.0 p.1 in
    subst (Spells named_call_tokens named_call_fits (codes "call") (register_token r ∷ w ∷ ws)) (some_is (named_call.Call r q.0 p.0.0 p.0.1) c p.2)
    (ap (λ (v : List (List ℕ)). codes "call" ∷ register_token r ∷ v) (same_cons w (register_token q.0) ws (params_tokens p.0) tq.0 tp.0), and_from _ _ (and_from _ _ fits tq.1) tp.1)

pub call_takes : (ws : List (List ℕ)) (c : NamedCall) → call_after ws ≡ Some c → Spells named_call_tokens named_call_fits (codes "call") ws c
unfolding call_after
call_takes [] c e = absurd cc
call_takes (w ∷ ws) c e =
    let r = bind_some (register_at w) (λ r. call_from r ws) c e in
    let tr = registers.takes w r.0 r.1 in
    let t = call_from_takes r.0 ws c r.2 tr.1 in
    (ap (λ (v : List ℕ). codes "call" ∷ v ∷ ws) tr.0 ∙ t.0, t.1)

pub call_sync_takes : (ws : List (List ℕ)) (c : NamedCall) → call_sync_after ws ≡ Some c → Spells named_call_tokens named_call_fits (codes "call_sync") ws c
unfolding call_sync_after
call_sync_takes [] c e = absurd cc
call_sync_takes (w ∷ ws) c e =
    let r = bind_some (register_at w) (λ r. params_after ws >>= λ p. Some (named_call.CallSync r p.0 p.1)) c e in
    let p = bind_some (params_after ws) (λ p. Some (named_call.CallSync r.0 p.0 p.1)) c r.2 in
    let tr = registers.takes w r.0 r.1 in
    let tp = params_take ws p.0 p.1 in
    subst (Spells named_call_tokens named_call_fits (codes "call_sync") (w ∷ ws)) (some_is (named_call.CallSync r.0 p.0.0 p.0.1) c p.2)
    (ap (λ (v : List (List ℕ)). codes "call_sync" ∷ v) (same_cons w (register_token r.0) ws (params_tokens p.0) tr.0 tp.0), and_from _ _ tr.1 tp.1)

pub call_again : (c : NamedCall) → named_call_fits c ≡ true → line_at (named_call_tokens c) ≡ Some (line.Call c)
unfolding line_at line_after call_line_after call_after call_from call_sync_after params_after
call_again (named_call.Call r q c xs) fits =
    let f = and_parts _ _ fits in
    let rs = and_parts _ _ f.0 in
    let ps = and_parts _ _ f.1 in
    rw (registers.again r rs.0, registers.again q rs.1, names.again c ps.0, each_again operands xs ps.1) refl
call_again (named_call.CallSync r c xs) fits =
    let f = and_parts _ _ fits in
    let ps = and_parts _ _ f.1 in
    rw (registers.again r f.0, names.again c ps.0, each_again operands xs ps.1) refl

-- ---- Ops of main

abbrev pub named_tokens : NamedOp → List (List ℕ)
named_tokens (named.Start instance export xs) = start_tokens (callee_token instance export) xs
named_tokens (named.Finish k r) = finish_tokens k r
named_tokens (named.Spawn host) = spawn_tokens host
named_tokens (named.Abort k) = abort_tokens k
named_tokens (named.Await k) = await_tokens k
named_tokens named.Quiet = quiet_tokens
named_tokens (named.Ready instance export) = ready_tokens (callee_token instance export)

abbrev pub named_fits : NamedOp → Bool
named_fits (named.Start instance export xs) = is_name instance && is_name export && list_all operand_fits xs
named_fits (named.Finish k r) = nat_le k 4095 && register_fits r
named_fits (named.Spawn host) = is_name host
named_fits (named.Abort k) = nat_le k 4095
named_fits (named.Await k) = nat_le k 4095
named_fits named.Quiet = true
named_fits (named.Ready instance export) = is_name instance && is_name export

start_takes : (ws : List (List ℕ)) (o : NamedOp) → start_after ws ≡ Some o → Spells named_tokens named_fits (codes "start") ws o
unfolding start_after
start_takes [] o e = absurd cc
start_takes (w ∷ ws) o e =
    let f = bind_some (callee_at w) (λ f. operands_at ws >>= λ xs. Some (named.Start f.0 f.1 xs)) o e in
    let xs = bind_some (operands_at ws) (λ xs. Some (named.Start f.0.0 f.0.1 xs)) o f.2 in
    let tf = callee_takes w f.0 f.1 in
    let tx = each_take operands ws xs.0 xs.1 in
    subst (Spells named_tokens named_fits (codes "start") (w ∷ ws)) (some_is (named.Start f.0.0 f.0.1 xs.0) o xs.2)
    (ap (λ (v : List (List ℕ)). codes "start" ∷ v) (same_cons w (callee_token f.0.0 f.0.1) ws (map operand_token xs.0) tf.0 tx.0), and_from _ _ tf.1 tx.1)

own_names : Reads (λ w. cond (is_name w) (Some w) None) (λ w. w) is_name
own_names = record {
  takes = λ w v e. let g = guarded (is_name w) w v e in subst (λ (u : List ℕ). (w ≡ u) × (is_name u ≡ true)) g.1 (refl, g.0);
  again = λ w fits. rw fits refl;
}

host_tail : Tails host_name_after (λ w. w ∷ []) is_name
unfolding host_name_after
host_tail = one_tail own_names

number_tail : Tails number_after (λ k. decimal k ∷ []) (λ k. nat_le k 4095)
unfolding number_after
number_tail = one_tail (bounded 4095 (lit< tt))

pub main_op_takes : (k : MainKeyword) (ws : List (List ℕ)) (o : NamedOp) → main_op_after k ws ≡ Some o → Spells named_tokens named_fits (main_keyword k) ws o
unfolding main_op_after finish_after ready_after
main_op_takes main.Start ws o e = start_takes ws o e
main_op_takes main.Finish ws o e = token_of_each named_tokens named_fits (codes "finish") (bounded 4095 (lit< tt)) registers named.Finish (λ x y. refl) (λ x y. refl) ws o e
main_op_takes main.Spawn ws o e = with_tail host_tail named_tokens named_fits (codes "spawn") named.Spawn (λ x. refl) (λ x. refl) ws o e
main_op_takes main.Abort ws o e = with_tail number_tail named_tokens named_fits (codes "abort") named.Abort (λ x. refl) (λ x. refl) ws o e
main_op_takes main.Await ws o e = with_tail number_tail named_tokens named_fits (codes "await") named.Await (λ x. refl) (λ x. refl) ws o e
main_op_takes main.Quiet ws o e = no_tokens named_tokens named_fits (codes "quiet") named.Quiet refl refl ws o e
main_op_takes main.Ready ws o e = one_token named_tokens named_fits (codes "ready") callees (λ p. named.Ready p.0 p.1) (λ x. refl) (λ x. refl) ws o e

pub named_again : (o : NamedOp) → named_fits o ≡ true → line_at (named_tokens o) ≡ Some (line.MainOp o)
unfolding line_at line_after main_op_after start_after finish_after host_name_after number_after ready_after one_of two_of
named_again (named.Start instance export xs) fits =
    let p = and_parts _ _ fits in
    let q = and_parts _ _ p.0 in
    rw (callee_again instance export q.0 q.1, each_again operands xs p.1) refl
named_again (named.Finish k r) fits = let p = and_parts _ _ fits in rw ((bounded 4095 (lit< tt)).again k p.0, registers.again r p.1) refl
named_again (named.Spawn host) fits = rw fits refl
named_again (named.Abort k) fits = rw ((bounded 4095 (lit< tt)).again k fits) refl
named_again (named.Await k) fits = rw ((bounded 4095 (lit< tt)).again k fits) refl
named_again named.Quiet fits = refl
named_again (named.Ready instance export) fits = let p = and_parts _ _ fits in rw (callee_again instance export p.0 p.1) refl
