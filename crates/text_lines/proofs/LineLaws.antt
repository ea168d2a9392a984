-- Each line is read from its one spelling.
use Rattle.std.proofs.Common.{◌≡◌, ℕ, Bool, true, false, ◌&&◌, cond, List, [], ◌∷◌, map, Option, Some, None, refl, sym, ap, subst, ◌∙◌, lit<}
use Rattle.std.specs.Prelude.{decimal, codes, find, nat_le, length}
use Rattle.std.specs.List.{list_all}
use Rattle.std.specs.Str.{bytes_eq}
use Rattle.std.proofs.lemmas.Bool.{and_parts, and_from}
use Rattle.std.proofs.lemmas.Slice.Eq.{bytes_eq-Decides}
use Rattle.machine_data.specs.declared.op.Operand.{Operand}
use Rattle.machine_data.specs.declared.op.Operand.TheVariants.{Number}
use Rattle.machine_data.specs.declared.op.Op.TheVariants as op
use Rattle.machine_data.specs.declared.op.CallOp.TheVariants as call_op
use Rattle.machine_data.specs.declared.component.ExportKind.{ExportKind}
use Rattle.text_lines.specs.declared.keyword.HeadKeyword.{HeadKeyword}
use Rattle.text_lines.specs.declared.keyword.HeadKeyword.TheVariants as head
use Rattle.text_lines.specs.declared.keyword.PartKeyword.{PartKeyword}
use Rattle.text_lines.specs.declared.keyword.PartKeyword.TheVariants as part
use Rattle.text_lines.specs.declared.keyword.CallKeyword.{CallKeyword}
use Rattle.text_lines.specs.declared.keyword.CallKeyword.TheVariants as call
use Rattle.text_lines.specs.declared.keyword.FrameKeyword.{FrameKeyword}
use Rattle.text_lines.specs.declared.keyword.FrameKeyword.TheVariants as frame
use Rattle.text_lines.specs.declared.keyword.Keyword.{Keyword}
use Rattle.text_lines.specs.declared.keyword.Keyword.TheVariants as keyword
use Rattle.text_lines.specs.declared.line.HeadLine.{HeadLine}
use Rattle.text_lines.specs.declared.line.HeadLine.TheVariants as head_line
use Rattle.text_lines.specs.declared.line.HostWork.{HostWork}
use Rattle.text_lines.specs.declared.line.HostWork.TheVariants as work
use Rattle.text_lines.specs.declared.line.PartLine.{PartLine}
use Rattle.text_lines.specs.declared.line.PartLine.TheVariants as part_line
use Rattle.text_lines.specs.declared.line.Line.{Line}
use Rattle.text_lines.specs.declared.line.Line.TheVariants as line
use Rattle.text_lines.specs.Tokens.{◌>>=◌, number_at, bounded_at, kind_at, is_name, one_of, three_of, four_of}
use Rattle.text_lines.specs.Keyword.{head_keyword, part_keyword, data_keyword, task_keyword, set_keyword, call_keyword, thread_keyword, main_keyword, frame_keyword, keyword_text, keywords_of, keyword_at}
use Rattle.text_lines.specs.Line.{head_after, never_after, fail_after, value_after, else_read, work_after, host_after, instance_after, export_after, slot_after, part_after, data_op_after, task_op_after, set_op_after, thread_op_after, operand_after, numbers_at, call_after, call_sync_after, call_line_after, main_op_after, frame_after, line_after, line_at}
use Rattle.text_lines.specs.LineTokens.{kind_token, title_tokens, handles_tokens, table_tokens, idle_tokens, work_tokens, host_tokens, instance_tokens, export_tokens, react_tokens, thread_tokens, bad_tokens, data_op_tokens, task_op_tokens, set_op_tokens, thread_op_tokens, plain_op_tokens, main_tokens, answer_tokens, aborter_tokens, end_tokens}
use Rattle.text_lines.specs.Fits.{operand_fits, handles_fit, table_fits, work_fits, slot_fits, data_op_fits, task_op_fits, set_op_fits, thread_op_fits, plain_op_fits}
use Rattle.text_lines.proofs.Numbers.{guarded}
use Rattle.text_lines.proofs.TokenLaws.{bind_some, some_is, numbers, bounded, idles, kinds, operands, versions}
use Rattle.text_lines.proofs.LineForms.{Spells, Tails, one_takes, three_take, four_take, three_tokens, no_tokens, one_token, as_line, with_tail, one_tail, operand_tail, target_tail, each_take, each_again}
use Rattle.text_lines.proofs.OpLaws.{data_op_takes, task_op_takes, set_op_takes, thread_op_takes, op_again}
use Rattle.text_lines.proofs.CallLaws.{named_call_tokens, named_call_fits, call_takes, call_sync_takes, call_again, named_tokens, named_fits, main_op_takes, named_again}

-- ---- Keywords

find_first : {X : Type 0} (p : X → Bool) (y x : X) (xs : List X) (b : Bool) → p y ≡ b → cond b (Some y) (find p xs) ≡ Some x → (find p xs ≡ Some x → p x ≡ true) → p x ≡ true
find_first p y x xs true h e later = subst (λ z. p z ≡ true) (some_is y x e) h
find_first p y x xs false h e later = later e

find_passes : {X : Type 0} (p : X → Bool) (xs : List X) (x : X) → find p xs ≡ Some x → p x ≡ true
find_passes p [] x e = absurd cc
find_passes p (y ∷ xs) x e = find_first p y x xs (p y) refl e (find_passes p xs x)

keyword_takes : (w : List ℕ) (k : Keyword) → keyword_at w ≡ Some k → w ≡ keyword_text k
keyword_takes w k e = sym ((bytes_eq-Decides (keyword_text k) w).0 (find_passes (λ j. bytes_eq (keyword_text j) w) (keywords_of (length w)) k e))

-- ---- The head

abbrev pub head_line_tokens : HeadLine → List (List ℕ)
head_line_tokens (head_line.Title v) = title_tokens v
head_line_tokens (head_line.Handles n) = handles_tokens n
head_line_tokens (head_line.Table n) = table_tokens n
head_line_tokens (head_line.Idle i) = idle_tokens i

abbrev pub head_line_fits : HeadLine → Bool
head_line_fits (head_line.Title v) = true
head_line_fits (head_line.Handles n) = handles_fit n
head_line_fits (head_line.Table n) = table_fits n
head_line_fits (head_line.Idle i) = true

head_takes : (k : HeadKeyword) (ws : List (List ℕ)) (l : HeadLine) → head_after k ws ≡ Some l → Spells head_line_tokens head_line_fits (head_keyword k) ws l
unfolding head_after
head_takes head.Scenario ws l e = one_token head_line_tokens head_line_fits (codes "scenario") versions head_line.Title (λ x. refl) (λ x. refl) ws l e
head_takes head.Handles ws l e = one_token head_line_tokens head_line_fits (codes "handles") (bounded 268435455 (lit< tt)) head_line.Handles (λ x. refl) (λ x. refl) ws l e
head_takes head.Table ws l e = one_token head_line_tokens head_line_fits (codes "table") (bounded 1000000 (lit< tt)) head_line.Table (λ x. refl) (λ x. refl) ws l e
head_takes head.Idle ws l e = one_token head_line_tokens head_line_fits (codes "idle") idles head_line.Idle (λ x. refl) (λ x. refl) ws l e

head_again : (l : HeadLine) → head_line_fits l ≡ true → line_at (head_line_tokens l) ≡ Some (line.Head l)
unfolding line_at line_after head_after one_of
head_again (head_line.Title v) fits = rw (versions.again v refl) refl
head_again (head_line.Handles n) fits = rw ((bounded 268435455 (lit< tt)).again n fits) refl
head_again (head_line.Table n) fits = rw ((bounded 1000000 (lit< tt)).again n fits) refl
head_again (head_line.Idle i) fits = rw (idles.again i refl) refl

-- ---- What a host's work does

abbrev IsWork : List (List ℕ) → HostWork → Type 0
IsWork ws w = (ws ≡ work_tokens w) × (work_fits w ≡ true)

one_or_other : {A : Type 0} (G : Type 0) (a b : Option A) (x : A) → else_read a b ≡ Some x → (a ≡ Some x → G) → (b ≡ Some x → G) → G
one_or_other G (Some y) b x e one other = one e
one_or_other G None b x e one other = other e

never_takes : (ws : List (List ℕ)) (w : HostWork) → never_after ws ≡ Some w → IsWork ws w
unfolding never_after
never_takes ws w e =
    let p = bind_some (one_of ws) (λ a. cond (bytes_eq a (codes "never")) (Some work.Never) None) w e in
    let g = guarded (bytes_eq p.0 (codes "never")) work.Never w p.2 in
    let same : p.0 ≡ codes "never" = (bytes_eq-Decides p.0 (codes "never")).0 g.0 in
    subst (IsWork ws) g.1 (one_takes ws p.0 p.1 ∙ ap (λ (v : List ℕ). v ∷ []) same, refl)

tail_of_three : (ws : List (List ℕ)) (a b c u v w : List ℕ) → ws ≡ a ∷ b ∷ c ∷ [] → a ≡ u → b ≡ v → c ≡ w → ws ≡ u ∷ v ∷ w ∷ []
tail_of_three ws a b c u v w e f g h = cc

tail_of_four : (ws : List (List ℕ)) (a b c d u v w x : List ℕ) → ws ≡ a ∷ b ∷ c ∷ d ∷ [] → a ≡ u → b ≡ v → c ≡ w → d ≡ x → ws ≡ u ∷ v ∷ w ∷ x ∷ []
tail_of_four ws a b c d u v w x e f g h i = cc

fail_takes : (ws : List (List ℕ)) (w : HostWork) → fail_after ws ≡ Some w → IsWork ws w
unfolding fail_after
fail_takes ws w e =
    let tests = λ (p : List ℕ × List ℕ × List ℕ). bytes_eq p.0 (codes "polls") && bytes_eq p.2 (codes "fail") in
    let p = bind_some (three_of ws) (λ p. bounded_at 1000000 p.1 >>= λ n. cond (tests p) (Some (work.Fail n)) None) w e in
    let n = bind_some (bounded_at 1000000 p.0.1) (λ n. cond (tests p.0) (Some (work.Fail n)) None) w p.2 in
    let g = guarded (tests p.0) (work.Fail n.0) w n.2 in
    let t = and_parts (bytes_eq p.0.0 (codes "polls")) (bytes_eq p.0.2 (codes "fail")) g.0 in
    let tn = (bounded 1000000 (lit< tt)).takes p.0.1 n.0 n.1 in
    subst (IsWork ws) g.1
    (tail_of_three ws p.0.0 p.0.1 p.0.2 (codes "polls") (decimal n.0) (codes "fail") (three_take ws p.0 p.1) ((bytes_eq-Decides p.0.0 (codes "polls")).0 t.0) tn.0 ((bytes_eq-Decides p.0.2 (codes "fail")).0 t.1), tn.1)

value_takes : (ws : List (List ℕ)) (w : HostWork) → value_after ws ≡ Some w → IsWork ws w
unfolding value_after
value_takes ws w e =
    let tests = λ (p : List ℕ × List ℕ × List ℕ × List ℕ). bytes_eq p.0 (codes "polls") && bytes_eq p.2 (codes "value") in
    let p = bind_some (four_of ws) (λ p. bounded_at 1000000 p.1 >>= λ n. number_at p.3 >>= λ v. cond (tests p) (Some (work.Value n v)) None) w e in
    let n = bind_some (bounded_at 1000000 p.0.1) (λ n. number_at p.0.3 >>= λ v. cond (tests p.0) (Some (work.Value n v)) None) w p.2 in
    let v = bind_some (number_at p.0.3) (λ v. cond (tests p.0) (Some (work.Value n.0 v)) None) w n.2 in
    let g = guarded (tests p.0) (work.Value n.0 v.0) w v.2 in
    let t = and_parts (bytes_eq p.0.0 (codes "polls")) (bytes_eq p.0.2 (codes "value")) g.0 in
    let tn = (bounded 1000000 (lit< tt)).takes p.0.1 n.0 n.1 in
    let tv = numbers.takes p.0.3 v.0 v.1 in
    subst (IsWork ws) g.1 (
      tail_of_four ws p.0.0 p.0.1 p.0.2 p.0.3 (codes "polls") (decimal n.0) (codes "value") (decimal v.0) (four_take ws p.0 p.1) ((bytes_eq-Decides p.0.0 (codes "polls")).0 t.0) tn.0 ((bytes_eq-Decides p.0.2 (codes "value")).0 t.1) tv.0,
      and_from _ _ tn.1 tv.1,
    )

work_takes : (ws : List (List ℕ)) (w : HostWork) → work_after ws ≡ Some w → IsWork ws w
unfolding work_after
work_takes ws w e =
    one_or_other (IsWork ws w) (never_after ws) _ w e (never_takes ws w) (λ e.
    one_or_other (IsWork ws w) (fail_after ws) (value_after ws) w e (fail_takes ws w) (value_takes ws w))

work_again : (w : HostWork) → work_fits w ≡ true → work_after (work_tokens w) ≡ Some w
unfolding work_after never_after fail_after value_after one_of three_of four_of
work_again (work.Value n v) fits = let f = and_parts _ _ fits in rw ((bounded 1000000 (lit< tt)).again n f.0, numbers.again v f.1) refl
work_again (work.Fail n) fits = rw ((bounded 1000000 (lit< tt)).again n fits) refl
work_again work.Never fits = refl

-- ---- Parts of the component

abbrev pub part_line_tokens : PartLine → List (List ℕ)
part_line_tokens (part_line.Host name w) = host_tokens name w
part_line_tokens (part_line.Instance name) = instance_tokens name
part_line_tokens (part_line.Export name k n) = export_tokens name k n
part_line_tokens part_line.React = react_tokens
part_line_tokens (part_line.Thread s) = thread_tokens s
part_line_tokens (part_line.Bad s) = bad_tokens s

abbrev pub part_line_fits : PartLine → Bool
part_line_fits (part_line.Host name w) = is_name name && work_fits w
part_line_fits (part_line.Instance name) = is_name name
part_line_fits (part_line.Export name k n) = is_name name && nat_le n 16
part_line_fits part_line.React = true
part_line_fits (part_line.Thread s) = slot_fits s
part_line_fits (part_line.Bad s) = slot_fits s

host_takes : (ws : List (List ℕ)) (l : PartLine) → host_after ws ≡ Some l → Spells part_line_tokens part_line_fits (codes "host") ws l
unfolding host_after
host_takes [] l e = absurd cc
host_takes (name ∷ ws) l e =
    let w = bind_some (work_after ws) (λ w. cond (is_name name) (Some (part_line.Host name w)) None) l e in
    let g = guarded (is_name name) (part_line.Host name w.0) l w.2 in
    let t = work_takes ws w.0 w.1 in
    subst (Spells part_line_tokens part_line_fits (codes "host") (name ∷ ws)) g.1 (ap (λ (v : List (List ℕ)). codes "host" ∷ name ∷ v) t.0, and_from _ _ g.0 t.1)

instance_takes : (ws : List (List ℕ)) (l : PartLine) → instance_after ws ≡ Some l → Spells part_line_tokens part_line_fits (codes "instance") ws l
unfolding instance_after
instance_takes ws l e =
    let p = bind_some (one_of ws) (λ w. cond (is_name w) (Some (part_line.Instance w)) None) l e in
    let g = guarded (is_name p.0) (part_line.Instance p.0) l p.2 in
    subst (Spells part_line_tokens part_line_fits (codes "instance") ws) g.1 (ap (λ (v : List (List ℕ)). codes "instance" ∷ v) (one_takes ws p.0 p.1), g.0)

export_takes : (ws : List (List ℕ)) (l : PartLine) → export_after ws ≡ Some l → Spells part_line_tokens part_line_fits (codes "export") ws l
unfolding export_after
export_takes ws l e =
    let made = λ (p : List ℕ × List ℕ × List ℕ) (k : ExportKind) (n : ℕ). cond (is_name p.0) (Some (part_line.Export p.0 k n)) None in
    let p = bind_some (three_of ws) (λ p. kind_at p.1 >>= λ k. bounded_at 16 p.2 >>= made p k) l e in
    let k = bind_some (kind_at p.0.1) (λ k. bounded_at 16 p.0.2 >>= made p.0 k) l p.2 in
    let n = bind_some (bounded_at 16 p.0.2) (made p.0 k.0) l k.2 in
    let g = guarded (is_name p.0.0) (part_line.Export p.0.0 k.0 n.0) l n.2 in
    let tk = kinds.takes p.0.1 k.0 k.1 in
    let tn = (bounded 16 (lit< tt)).takes p.0.2 n.0 n.1 in
    subst (Spells part_line_tokens part_line_fits (codes "export") ws) g.1
    (three_tokens (codes "export") ws p.0.0 p.0.1 p.0.2 p.0.0 (kind_token k.0) (decimal n.0) (three_take ws p.0 p.1) refl tk.0 tn.0, and_from _ _ g.0 tn.1)

slot_tail : Tails slot_after (λ s. decimal s ∷ []) slot_fits
unfolding slot_after
slot_tail = one_tail (bounded 15 (lit< tt))

part_takes : (k : PartKeyword) (ws : List (List ℕ)) (l : PartLine) → part_after k ws ≡ Some l → Spells part_line_tokens part_line_fits (part_keyword k) ws l
unfolding part_after
part_takes part.Host ws l e = host_takes ws l e
part_takes part.Instance ws l e = instance_takes ws l e
part_takes part.Export ws l e = export_takes ws l e
part_takes part.React ws l e = no_tokens part_line_tokens part_line_fits (codes "react") part_line.React refl refl ws l e
part_takes part.Thread ws l e = with_tail slot_tail part_line_tokens part_line_fits (codes "thread") part_line.Thread (λ s. refl) (λ s. refl) ws l e
part_takes part.Bad ws l e = with_tail slot_tail part_line_tokens part_line_fits (codes "bad") part_line.Bad (λ s. refl) (λ s. refl) ws l e

part_again : (l : PartLine) → part_line_fits l ≡ true → line_at (part_line_tokens l) ≡ Some (line.Part l)
unfolding line_at line_after part_after host_after instance_after export_after slot_after one_of three_of
part_again (part_line.Host name w) fits = let f = and_parts (is_name name) (work_fits w) fits in rw (work_again w f.1, f.0) refl
part_again (part_line.Instance name) fits = rw fits refl
part_again (part_line.Export name k n) fits =
    let f = and_parts (is_name name) (nat_le n 16) fits in
    rw (kinds.again k refl, (bounded 16 (lit< tt)).again n f.1, f.0) refl
part_again part_line.React fits = refl
part_again (part_line.Thread s) fits = rw ((bounded 15 (lit< tt)).again s fits) refl
part_again (part_line.Bad s) fits = rw ((bounded 15 (lit< tt)).again s fits) refl

-- ---- Any line

-- so many spawns and starts may there be at most
abbrev pub numbers_fit : List ℕ → Bool
numbers_fit ks = list_all (λ k. nat_le k 4095) ks

abbrev pub line_tokens : Line → List (List ℕ)
line_tokens (line.Head l) = head_line_tokens l
line_tokens (line.Part l) = part_line_tokens l
line_tokens (line.Op o) = plain_op_tokens o
line_tokens (line.Call c) = named_call_tokens c
line_tokens line.Main = main_tokens
line_tokens (line.MainOp o) = named_tokens o
line_tokens (line.Answer x) = answer_tokens x
line_tokens (line.Aborter ks) = aborter_tokens ks
line_tokens line.End = end_tokens

abbrev pub line_fits : Line → Bool
line_fits (line.Head l) = head_line_fits l
line_fits (line.Part l) = part_line_fits l
line_fits (line.Op o) = plain_op_fits o
line_fits (line.Call c) = named_call_fits c
line_fits line.Main = true
line_fits (line.MainOp o) = named_fits o
line_fits (line.Answer x) = operand_fits x
line_fits (line.Aborter ks) = numbers_fit ks
line_fits line.End = true

abbrev pub SpellsLine : List ℕ → List (List ℕ) → Line → Type 0
SpellsLine = Spells line_tokens line_fits

call_line_takes : (k : CallKeyword) (ws : List (List ℕ)) (l : Line) → call_line_after k ws ≡ Some l → SpellsLine (call_keyword k) ws l
unfolding call_line_after
call_line_takes call.Call ws l e = as_line named_call_tokens named_call_fits line_tokens line_fits line.Call (λ x. refl) (λ x. refl) (codes "call") ws (call_after ws) l e (call_takes ws)
call_line_takes call.CallSync ws l e = as_line named_call_tokens named_call_fits line_tokens line_fits line.Call (λ x. refl) (λ x. refl) (codes "call_sync") ws (call_sync_after ws) l e (call_sync_takes ws)
call_line_takes call.Cancel ws l e = with_tail target_tail line_tokens line_fits (codes "cancel") (λ p. line.Op (op.Call (call_op.Cancel p.0 p.1))) (λ p. refl) (λ p. refl) ws l e
call_line_takes call.CancelSync ws l e = with_tail target_tail line_tokens line_fits (codes "cancel_sync") (λ p. line.Op (op.Call (call_op.CancelSync p.0 p.1))) (λ p. refl) (λ p. refl) ws l e
call_line_takes call.Drop ws l e = with_tail operand_tail line_tokens line_fits (codes "drop") (λ x. line.Op (op.Call (call_op.Drop x))) (λ x. refl) (λ x. refl) ws l e

numbers_tail : Tails numbers_at (λ ks. map decimal ks) numbers_fit
numbers_tail = record { takes = each_take (bounded 4095 (lit< tt)) }

frame_takes : (k : FrameKeyword) (ws : List (List ℕ)) (l : Line) → frame_after k ws ≡ Some l → SpellsLine (frame_keyword k) ws l
unfolding frame_after
frame_takes frame.Main ws l e = no_tokens line_tokens line_fits (codes "main") line.Main refl refl ws l e
frame_takes frame.Answer ws l e = with_tail operand_tail line_tokens line_fits (codes "answer") line.Answer (λ x. refl) (λ x. refl) ws l e
frame_takes frame.Aborter ws l e = with_tail numbers_tail line_tokens line_fits (codes "aborter") line.Aborter (λ x. refl) (λ x. refl) ws l e
frame_takes frame.End ws l e = no_tokens line_tokens line_fits (codes "end") line.End refl refl ws l e

after_takes : (k : Keyword) (ws : List (List ℕ)) (l : Line) → line_after k ws ≡ Some l → SpellsLine (keyword_text k) ws l
unfolding line_after
after_takes (keyword.Head k) ws l e = as_line head_line_tokens head_line_fits line_tokens line_fits line.Head (λ x. refl) (λ x. refl) (head_keyword k) ws (head_after k ws) l e (head_takes k ws)
after_takes (keyword.Part k) ws l e = as_line part_line_tokens part_line_fits line_tokens line_fits line.Part (λ x. refl) (λ x. refl) (part_keyword k) ws (part_after k ws) l e (part_takes k ws)
after_takes (keyword.Data k) ws l e = as_line data_op_tokens data_op_fits line_tokens line_fits (λ o. line.Op (op.Data o)) (λ x. refl) (λ x. refl) (data_keyword k) ws (data_op_after k ws) l e (data_op_takes k ws)
after_takes (keyword.Task k) ws l e = as_line task_op_tokens task_op_fits line_tokens line_fits (λ o. line.Op (op.Task o)) (λ x. refl) (λ x. refl) (task_keyword k) ws (task_op_after k ws) l e (task_op_takes k ws)
after_takes (keyword.Set k) ws l e = as_line set_op_tokens set_op_fits line_tokens line_fits (λ o. line.Op (op.Set o)) (λ x. refl) (λ x. refl) (set_keyword k) ws (set_op_after k ws) l e (set_op_takes k ws)
after_takes (keyword.Call k) ws l e = call_line_takes k ws l e
after_takes (keyword.Thread k) ws l e = as_line thread_op_tokens thread_op_fits line_tokens line_fits (λ o. line.Op (op.Thread o)) (λ x. refl) (λ x. refl) (thread_keyword k) ws (thread_op_after k ws) l e (thread_op_takes k ws)
after_takes (keyword.Main k) ws l e = as_line named_tokens named_fits line_tokens line_fits line.MainOp (λ x. refl) (λ x. refl) (main_keyword k) ws (main_op_after k ws) l e (main_op_takes k ws)
after_takes (keyword.Frame k) ws l e = frame_takes k ws l e

pub line_takes : (ws : List (List ℕ)) (l : Line) → line_at ws ≡ Some l → (ws ≡ line_tokens l) × (line_fits l ≡ true)
unfolding line_at
line_takes [] l e = absurd cc
line_takes (w ∷ ws) l e =
    let k = bind_some (keyword_at w) (λ k. line_after k ws) l e in
    let t = after_takes k.0 ws l k.2 in
    (ap (λ (v : List ℕ). v ∷ ws) (keyword_takes w k.0 k.1) ∙ t.0, t.1)

frame_again : (x : Operand) (ks : List ℕ) → operand_fits x ≡ true → numbers_fit ks ≡ true → (line_at (answer_tokens x) ≡ Some (line.Answer x)) × (line_at (aborter_tokens ks) ≡ Some (line.Aborter ks))
unfolding line_at line_after frame_after operand_after one_of
frame_again x ks fx fk = (rw (operands.again x fx) refl, rw (each_again (bounded 4095 (lit< tt)) ks fk) refl)

pub line_again : (l : Line) → line_fits l ≡ true → line_at (line_tokens l) ≡ Some l
unfolding line_at line_after frame_after
line_again (line.Head l) fits = head_again l fits
line_again (line.Part l) fits = part_again l fits
line_again (line.Op o) fits = op_again o fits
line_again (line.Call c) fits = call_again c fits
line_again line.Main fits = refl
line_again (line.MainOp o) fits = named_again o fits
line_again (line.Answer x) fits = (frame_again x [] fits refl).0
line_again (line.Aborter ks) fits = (frame_again (Number 0) ks refl fits).1
line_again line.End fits = refl
