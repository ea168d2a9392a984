-- Each request is read from its one spelling.
use Rattle.serve_requests.specs.Reading.{numbers_in, request_after, request_named, request_of}
use Rattle.serve_requests.specs.RequestLines.{Suits, request_tokens}
use Rattle.serve_requests.specs.Serving.{callee_named}
use Rattle.serve_requests.specs.declared.request.Request.{Request}
use Rattle.text_scenario.proofs.CalleeLaws.{callee_again, export_fits, fitting_again}
use Rattle.text_scenario.proofs.PlacementLaws.{same_bytes}
use Rattle.text_scenario.specs.Placement.{EachIsPlaced, InstanceIsPlaced}
use Rattle.text_scenario.specs.Spelling.{export_name, exports_of, instance_name, name_of}
use Rattle.text_scenario.specs.State.{fitting_export}
use Rattle.text_scenario.specs.declared.tree.HostText.{HostText}
use Rattle.text_scenario.specs.declared.tree.InstanceText.{InstanceText}
use Rattle.std.proofs.Common.{ap, refl, subst, sym, ◌∙◌}
use Rattle.std.proofs.lemmas.Bool.{and_from, and_parts}
use Rattle.std.specs.List.{list_all}
use Rattle.std.specs.Prelude.{Bool, List, Some, [], codes, decimal, length, map, suc, true, ℕ, ◌&&◌, ◌∷◌, ◌≡◌}
use Rattle.std.specs.Str.{bytes_eq}
use Rattle.machine_data.specs.declared.component.Callee.{Callee}
use Rattle.machine_data.specs.declared.op.Operand.{Operand}
use Rattle.machine_data.specs.declared.op.Operand.TheVariants.{Number, Register}
use Rattle.text_lines.proofs.CallLaws.{main_op_takes, named_again, named_fits, named_tokens}
use Rattle.text_lines.proofs.TokenLaws.{bind_some, passed, some_is}
use Rattle.text_lines.specs.Fits.{number_fits, operand_fits}
use Rattle.text_lines.specs.Line.{line_after, line_at, main_op_after, start_after}
use Rattle.text_lines.specs.LineTokens.{callee_token, operand_token}
use Rattle.text_lines.specs.Tokens.{◌>>=◌, is_name}
use Rattle.text_lines.specs.declared.keyword.MainKeyword.TheVariants as main
use Rattle.text_lines.specs.declared.line.Line.TheVariants as line
use Rattle.text_lines.specs.declared.line.NamedOp.{NamedOp}
use Rattle.text_lines.specs.declared.line.NamedOp.TheVariants as named

-- ---- What was read

record NumbersOf (xs : List Operand) (ns : List ℕ) : Type 0 where
  tokens : map operand_token xs ≡ map decimal ns
  count : length xs ≡ length ns
  fits : list_all number_fits ns ≡ true

numbers_take : (xs : List Operand) (ns : List ℕ) → numbers_in xs ≡ Some ns → list_all operand_fits xs ≡ true → NumbersOf xs ns
unfolding numbers_in
numbers_take [] ns e fits = subst (NumbersOf []) (some_is [] ns e) (record { tokens = refl; count = refl; fits = refl })
numbers_take (Number n ∷ xs) ns e fits =
    let t = bind_some (numbers_in xs) (λ ms. Some (n ∷ ms)) ns e in
    let p = and_parts (number_fits n) (list_all operand_fits xs) fits in
    let rest = numbers_take xs t.0 t.1 p.1 in
    subst (NumbersOf (Number n ∷ xs)) (some_is (n ∷ t.0) ns t.2)
    (record {
      tokens = ap (λ (ws : List (List ℕ)). decimal n ∷ ws) rest.tokens;
      count = ap (λ (k : ℕ). suc k) rest.count;
      fits = and_from _ _ p.0 rest.fits;
    })
numbers_take (Register r ∷ xs) ns e fits = absurd (cc)

record IsNamed (is : List InstanceText) (o : NamedOp) (r : Request) : Type 0 where
  tokens : named_tokens o ≡ codes "start" ∷ name_of is (callee_named r) ∷ map decimal r.params
  suits : Suits is r

abbrev request_from : Callee → List ℕ → Request
request_from f ns = record { instance = f.instance; export = f.export; params = ns }

named_takes : (is : List InstanceText) (o : NamedOp) (r : Request) → request_named is o ≡ Some r → named_fits o ≡ true → IsNamed is o r
unfolding request_named
named_takes is (named.Start instance export xs) r e fits =
    let f = bind_some (fitting_export is instance export xs) (λ f. numbers_in xs >>= λ ns. Some (request_from f ns)) r e in
    let ns = bind_some (numbers_in xs) (λ ns. Some (request_from f.0 ns)) r f.2 in
    let t = export_fits is instance export xs f.0 f.1 in
    let p = and_parts (is_name instance && is_name export) (list_all operand_fits xs) fits in
    let n = numbers_take xs ns.0 ns.1 p.1 in
    subst (IsNamed is (named.Start instance export xs)) (some_is (request_from f.0 ns.0) r ns.2)
    (record {
      tokens = ap (λ (w : List ℕ). codes "start" ∷ w ∷ map operand_token xs) (sym t.name) ∙ ap (λ (ws : List (List ℕ)). codes "start" ∷ name_of is f.0 ∷ ws) n.tokens;
      suits = record { params = t.params ∙ ap (λ (k : ℕ). Some k) n.count; numbers = n.fits };
    })
named_takes is _ r e fits = absurd (cc)

same_tail : (w : List ℕ) (ws vs : List (List ℕ)) → w ∷ ws ≡ w ∷ vs → ws ≡ vs
same_tail w ws vs e = cc

pub takes : (is : List InstanceText) (ws : List (List ℕ)) (r : Request) → request_of is ws ≡ Some r → (ws ≡ request_tokens is r) × Suits is r
unfolding request_of request_after main_op_after
takes is [] r e = absurd (cc)
takes is (w ∷ ws) r e =
    let c = passed (bytes_eq w (codes "call")) (request_after is ws) (Some r) e refl in
    let o = bind_some (start_after ws) (request_named is) r c.1 in
    let s = main_op_takes main.Start ws o.0 o.1 in
    let t = named_takes is o.0 r o.2 s.1 in
    let tail = same_tail (codes "start") ws (name_of is (callee_named r) ∷ map decimal r.params) (s.0 ∙ t.tokens) in
    (ap (λ (v : List ℕ). v ∷ ws) (same_bytes w (codes "call") c.0) ∙ ap (λ (vs : List (List ℕ)). codes "call" ∷ vs) tail, t.suits)

-- ---- What is read again

abbrev as_operands : List ℕ → List Operand
as_operands ns = map (λ n. Number n) ns

numbers_again : (ns : List ℕ) → numbers_in (as_operands ns) ≡ Some ns
unfolding numbers_in
numbers_again [] = refl
numbers_again (n ∷ ns) = rw (numbers_again ns) refl

tokens_again : (ns : List ℕ) → map operand_token (as_operands ns) ≡ map decimal ns
tokens_again [] = refl
tokens_again (n ∷ ns) = ap (λ (ws : List (List ℕ)). decimal n ∷ ws) (tokens_again ns)

fit_again : (ns : List ℕ) → list_all operand_fits (as_operands ns) ≡ list_all number_fits ns
fit_again [] = refl
fit_again (n ∷ ns) = ap (λ (b : Bool). number_fits n && b) (fit_again ns)

count_again : (ns : List ℕ) → length (as_operands ns) ≡ length ns
count_again [] = refl
count_again (n ∷ ns) = ap (λ (k : ℕ). suc k) (count_again ns)

start_again : (instance export : List ℕ) (xs : List Operand) → named_fits (named.Start instance export xs) ≡ true → start_after (callee_token instance export ∷ map operand_token xs) ≡ Some (named.Start instance export xs)
unfolding line_at line_after main_op_after
start_again instance export xs fits =
    let o : NamedOp = named.Start instance export xs in
    let read = bind_some (start_after (callee_token instance export ∷ map operand_token xs)) (λ q. Some (line.MainOp q)) (line.MainOp o) (named_again o fits) in
    let same : read.0 ≡ o = cc in
    read.1 ∙ ap (λ (q : NamedOp). Some q) same

module _ (hosts : List HostText) (is : List InstanceText) (each : EachIsPlaced (InstanceIsPlaced hosts) [] is) where
  after_again : (r : Request) → Suits is r → request_after is (name_of is (callee_named r) ∷ map decimal r.params) ≡ Some r
  unfolding request_after request_named
  after_again r suits =
      let f = callee_named r in
      let xs = as_operands r.params in
      let instance = instance_name is f.instance in
      let export = export_name (exports_of is f.instance) f.export in
      let names = callee_again hosts is each f (length r.params) suits.params in
      let fits = and_from (is_name instance && is_name export) (list_all operand_fits xs) (and_from _ _ names.instance names.export) (fit_again r.params ∙ suits.numbers) in
      let start = start_again instance export xs fits in
      let fitting = fitting_again hosts is each f xs (suits.params ∙ ap (λ (k : ℕ). Some k) (sym (count_again r.params))) in
      rw (← tokens_again r.params, start, fitting, numbers_again r.params) refl

  pub again : (r : Request) → Suits is r → request_of is (request_tokens is r) ≡ Some r
  unfolding request_of
  again r suits = after_again r suits
