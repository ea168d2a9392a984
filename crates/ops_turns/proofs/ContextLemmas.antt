-- What an op on registers and memory cells results in in the context of a thread.
use Rattle.std.proofs.Common.{ap, ap₂, arith, refl, subst, sym, ◌∙◌, ◌<◌}
use Rattle.std.proofs.lemmas.Bool.Decides.{nat_tests}
use Rattle.std.specs.Option.{option_map_or}
use Rattle.std.specs.Prelude.{Bool, List, Option, Some, [], false, if◌then◌else◌, length, min, option_map, slice_set, true, ℕ, ◌%◌, ◌+◌, ◌/◌, ◌==◌, ◌^◌, ◌≡◌}
use Rattle.machine_data.proofs.CommuteLemmas.{change-change_same, get-change}
use Rattle.machine_data.proofs.MapLemmas.{get-change_same, same_records}
use Rattle.machine_data.specs.Core.{Core}
use Rattle.machine_data.specs.Maps.{Records, change, get}
use Rattle.machine_data.specs.Read.{call_instance, instance_of, position_of, registers_of, task_of, memory_cell_of}
use Rattle.machine_data.specs.Write.{on_instance, on_thread, set_op_progress, set_position, set_register, set_memory_cell}
use Rattle.machine_data.specs.declared.component.Component.{Component}
use Rattle.machine_data.specs.declared.label.DataLabel.{DataLabel}
use Rattle.machine_data.specs.declared.label.DataLabel.TheVariants as data_label
use Rattle.machine_data.specs.declared.label.Label.TheVariants as label
use Rattle.machine_data.specs.declared.op.DataOp.TheVariants as data_op
use Rattle.machine_data.specs.declared.op.Operand.{Operand}
use Rattle.machine_data.specs.declared.op.Operand.TheVariants as operand
use Rattle.machine_data.specs.declared.records.OpProgress.TheVariants as op_progress
use Rattle.machine_data.specs.declared.records.Thread.{Thread}
use Rattle.machine_rules.specs.Data.{advanced, assigned, data_rule, moved_to, skip_rule, skipped, stored}
use Rattle.machine_rules.specs.Progress.{Continues}
use Rattle.machine_rules.specs.Scripts.{script_of, script_of_thread, value_in, value_of}
use Rattle.ops_turns.specs.Context.{KeepsBeside, in_context}
use Rattle.ops_turns.specs.declared.context.ThreadContext.{ThreadContext}
use Rattle.core_primitives.specs.Context.{with_context}
use Rattle.core_primitives.specs.StateView.{StateView, on_core}

abbrev pub in_record : ℕ → List ℕ → Thread → Thread
in_record p rs t = record t { position = p; registers = rs; op_progress = op_progress.Fresh }

memory_cell-context : (i w n p : ℕ) (rs : List ℕ) (s : Core) → memory_cell_of i w (with_context n p rs s) ≡ memory_cell_of i w s
unfolding with_context on_thread
memory_cell-context i w n p rs s = refl

pub beside_memory_cell : (i w v : ℕ) (s t : StateView) → t ≡ on_core (set_memory_cell i w v) s → KeepsBeside s t
unfolding set_memory_cell on_instance
beside_memory_cell i w v s t e = subst (KeepsBeside s) (sym e) (record { threads = refl; calls = refl; works = refl; made = refl; tags = refl; current = refl })

memory_cell_beside : (n p : ℕ) (rs : List ℕ) (i w v : ℕ) (s : Core) → set_memory_cell i w v (with_context n p rs s) ≡ with_context n p rs (set_memory_cell i w v s)
unfolding with_context on_thread set_memory_cell on_instance
memory_cell_beside n p rs i w v s = refl

threads_beside : (i w v : ℕ) (s : Core) → (set_memory_cell i w v s).threads ≡ s.threads
unfolding set_memory_cell on_instance
threads_beside i w v s = refl

same_position : (n p : ℕ) (rs : List ℕ) (k : ℕ) (s : Core) → call_instance k (with_context n p rs s) ≡ call_instance k s
unfolding with_context on_thread
same_position n p rs k s = refl

module _ (n : ℕ) (s : Core) (t : Thread) (found : get s.threads n ≡ Some t) where
  pub thread-context : (p : ℕ) (rs : List ℕ) → get (with_context n p rs s).threads n ≡ Some (in_record p rs t)
  unfolding with_context on_thread
  thread-context p rs = get-change_same s.threads n (in_record p rs) ∙ ap (λ (o : Option Thread). option_map (in_record p rs) o) found

  -- what the record has is written
  pub context_same : t.op_progress ≡ op_progress.Fresh → with_context n (position_of n s) (registers_of n s) s ≡ s
  unfolding with_context on_thread
  context_same fresh = ap (λ (m : Records Thread). record s { threads = m }) (same_records (change n (in_record (position_of n s) (registers_of n s)) s.threads) s.threads (λ q. grind (arith, nat_tests, get-change, found, fresh)))

  pub instance-context : (p : ℕ) (rs : List ℕ) → instance_of n (with_context n p rs s) ≡ instance_of n s
  instance-context p rs =
      same_position n p rs (task_of n (with_context n p rs s)) s
      ∙ (ap (λ (o : Option Thread). call_instance (option_map_or (λ (u : Thread). u.call) o 0) s) (thread-context p rs) ∙ sym (ap (λ (o : Option Thread). call_instance (option_map_or (λ (u : Thread). u.call) o 0) s) found))

  pub script-context : (c : Component) (p : ℕ) (rs : List ℕ) → script_of c n (with_context n p rs s) ≡ script_of c n s
  unfolding script_of with_context on_thread
  script-context c p rs = ap (λ (o : Option Thread). option_map_or (script_of_thread c (with_context n p rs s)) o []) (thread-context p rs) ∙ sym (ap (λ (o : Option Thread). option_map_or (script_of_thread c s) o []) found)

  module _ (p : ℕ) (rs : List ℕ) where
    abbrev here : Core
    here = with_context n p rs s

    pub position-context : position_of n here ≡ p
    position-context = ap (λ (o : Option Thread). option_map_or (λ (u : Thread). u.position) o 0) (thread-context p rs)

    registers-context : registers_of n here ≡ rs
    registers-context = ap (λ (o : Option Thread). option_map_or (λ (u : Thread). u.registers) o []) (thread-context p rs)

    pub value-context : (x : Operand) → value_of n here x ≡ value_in rs x
    value-context x = ap (λ regs. value_in regs x) registers-context

    pub moved-context : (q : ℕ) → moved_to n q here ≡ with_context n q rs s
    unfolding moved_to set_op_progress set_position with_context on_thread
    moved-context q = ap (λ (m : Records Thread). record s { threads = m })
        (ap (change n (λ (u : Thread). record u { op_progress = op_progress.Fresh })) (change-change_same s.threads n (λ (u : Thread). record u { position = q }) (in_record p rs))
        ∙ change-change_same s.threads n (λ (u : Thread). record u { op_progress = op_progress.Fresh }) (λ (u : Thread). record (in_record p rs u) { position = q }))

    advanced-context : advanced n here ≡ with_context n (p + 1) rs s
    unfolding advanced
    advanced-context = ap (λ q. moved_to n (q + 1) here) position-context ∙ moved-context (p + 1)

    written-context : (r v : ℕ) → set_register n r v here ≡ with_context n p (slice_set rs r v) s
    unfolding set_register with_context on_thread
    written-context r v = ap (λ (m : Records Thread). record s { threads = m }) (change-change_same s.threads n (λ (u : Thread). record u { registers = slice_set u.registers r v }) (in_record p rs))

  pub assigned-context : (p : ℕ) (rs : List ℕ) (r v : ℕ) → assigned n r v (with_context n p rs s) ≡ with_context n (p + 1) (slice_set rs r v) s
  unfolding assigned
  assigned-context p rs r v = ap (advanced n) (written-context p rs r v) ∙ advanced-context p (slice_set rs r v)

pub stored-context : (n : ℕ) (s : Core) (t : Thread) → get s.threads n ≡ Some t → (p : ℕ) (rs : List ℕ) (w v : ℕ) → stored n w v (with_context n p rs s) ≡ with_context n (p + 1) rs (set_memory_cell (instance_of n s) w v s)
unfolding stored
stored-context n s t found p rs w v =
    ap (λ i. advanced n (set_memory_cell i w v (with_context n p rs s))) (instance-context n s t found p rs)
    ∙ (ap (advanced n) (memory_cell_beside n p rs (instance_of n s) w v s)
    ∙ advanced-context n (set_memory_cell (instance_of n s) w v s) t (ap (λ (m : Records Thread). get m n) (threads_beside (instance_of n s) w v s) ∙ found) p rs)

-- ---- The rules

module _ (n i : ℕ) (s : Core) (there : (t : Thread) × (get s.threads n ≡ Some t)) (instance : i ≡ instance_of n s) (x : ThreadContext) (c : Component) where
  abbrev at : Core
  at = in_context n x s

  abbrev answered : ℕ → ℕ → ThreadContext
  answered r v = record { position = x.position + 1; registers = slice_set x.registers r v }

  value_is : (o : Operand) → value_of n at o ≡ value_in x.registers o
  value_is o = value-context n s there.0 there.1 x.position x.registers o

  instance_is : instance_of n at ≡ i
  instance_is = instance-context n s there.0 there.1 x.position x.registers ∙ sym instance

  -- an op that answers in a register
  answers : (l : ℕ → DataLabel) (to v v' : ℕ) (y : ThreadContext) → v ≡ v' → y ≡ answered to v' → Continues (label.Data (l v)) (assigned n to v at) n ≡ Continues (label.Data (l v')) (in_context n y s) n
  answers l to v v' y same is =
      ap (λ v. Continues (label.Data (l v)) (assigned n to v at) n) same
      ∙ ap (λ new. Continues (label.Data (l v')) new n) (assigned-context n s there.0 there.1 x.position x.registers to v')
      ∙ ap (λ (y : ThreadContext). Continues (label.Data (l v')) (in_context n y s) n) (sym is)

  pub scripted_set_rule : (to : ℕ) (o : Operand) (v : ℕ) (y : ThreadContext) → v ≡ value_in x.registers o → y ≡ answered to v → data_rule c n at (data_op.Set to o) ≡ Continues (label.Data (data_label.Set n v)) (in_context n y s) n
  scripted_set_rule to o v y value is = answers (data_label.Set n) to (value_of n at o) v y (value_is o ∙ sym value) is

  pub add_rule : (to : ℕ) (o : Operand) (a b : ℕ) (y : ThreadContext) → a ≡ value_in x.registers (operand.Register to) → b ≡ value_in x.registers o → y ≡ answered to ((a + b) % 2 ^ 64)
      → data_rule c n at (data_op.Add to o) ≡ Continues (label.Data (data_label.Add n ((a + b) % 2 ^ 64))) (in_context n y s) n
  add_rule to o a b y left right is =
      answers (data_label.Add n) to ((value_of n at (operand.Register to) + value_of n at o) % 2 ^ 64) ((a + b) % 2 ^ 64) y
      (ap₂ (λ a b. (a + b) % 2 ^ 64) (value_is (operand.Register to) ∙ sym left) (value_is o ∙ sym right)) is

  pub handle_rule : (to : ℕ) (o : Operand) (v : ℕ) (y : ThreadContext) → v ≡ value_in x.registers o → y ≡ answered to (v / 16) → data_rule c n at (data_op.Handle to o) ≡ Continues (label.Data (data_label.Handle n (v / 16))) (in_context n y s) n
  handle_rule to o v y value is = answers (data_label.Handle n) to (value_of n at o / 16) (v / 16) y (ap (λ v. v / 16) (value_is o ∙ sym value)) is

  pub load_rule : (to w v : ℕ) (y : ThreadContext) → v ≡ memory_cell_of i w s → y ≡ answered to v → data_rule c n at (data_op.Load to w) ≡ Continues (label.Data (data_label.Load n v)) (in_context n y s) n
  load_rule to w v y word is =
      answers (data_label.Load n) to (memory_cell_of (instance_of n at) w at) v y
      (ap (λ j. memory_cell_of j w at) instance_is ∙ memory_cell-context i w n x.position x.registers s ∙ sym word) is

  pub store_rule : (w : ℕ) (o : Operand) (v : ℕ) (u : Core) → v ≡ value_in x.registers o → u ≡ set_memory_cell i w v s
      → data_rule c n at (data_op.Store w o) ≡ Continues (label.Data (data_label.Store n v)) (with_context n (x.position + 1) x.registers u) n
  store_rule w o v u value is =
      ap (λ v. Continues (label.Data (data_label.Store n v)) (stored n w v at) n) (value_is o ∙ sym value)
      ∙ ap (λ new. Continues (label.Data (data_label.Store n v)) new n)
      (stored-context n s there.0 there.1 x.position x.registers w v
      ∙ ap (λ j. with_context n (x.position + 1) x.registers (set_memory_cell j w v s)) (sym instance)
      ∙ ap (with_context n (x.position + 1) x.registers) (sym is))

  module _ (end : ℕ) (script : length (script_of c n at) ≡ end) (before : x.position < end) where
    abbrev passing : Bool → ℕ → ℕ
    passing b ops = min (x.position + 1 + (if b then ops else 0)) end

    position_is : position_of n at ≡ x.position
    position_is = position-context n s there.0 there.1 x.position x.registers

    skip_where : (b : Bool) (ops : ℕ) → skip_rule c n ops at b ≡ Continues (label.Data (data_label.SkipEq n)) (moved_to n (passing b ops) at) n
    unfolding skipped advanced
    skip_where true ops = ap₂ (λ a b. Continues (label.Data (data_label.SkipEq n)) (moved_to n (min (a + 1 + ops) b) at) n) position_is script
    skip_where false ops =
        let position = position_is in
        let next : position_of n at + 1 ≡ passing false ops = omega (arith, before) in
        ap (λ p. Continues (label.Data (data_label.SkipEq n)) (moved_to n p at) n) next

    pub skip_eq_rule : (a b : Operand) (ops p : ℕ) → p ≡ passing (value_in x.registers a == value_in x.registers b) ops
        → data_rule c n at (data_op.SkipEq a b ops) ≡ Continues (label.Data (data_label.SkipEq n)) (with_context n p x.registers s) n
    skip_eq_rule a b ops p is =
        skip_where (value_of n at a == value_of n at b) ops
        ∙ ap₂ (λ v w. Continues (label.Data (data_label.SkipEq n)) (moved_to n (passing (v == w) ops) at) n) (value_is a) (value_is b)
        ∙ ap (λ q. Continues (label.Data (data_label.SkipEq n)) (moved_to n q at) n) (sym is)
        ∙ ap (λ new. Continues (label.Data (data_label.SkipEq n)) new n) (moved-context n s there.0 there.1 x.position x.registers p)
