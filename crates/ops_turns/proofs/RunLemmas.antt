-- A step of the running thread.
use Rattle.std.proofs.Common.{ap, refl, subst, sym, ◌∙◌}
use Rattle.std.specs.Option.{option_map_or}
use Rattle.std.specs.Prelude.{Bool, List, None, Option, Some, [], false, is_none, slice_get, true, unwrap_or, ℕ, ◌≡◌}
use Rattle.machine_data.specs.Core.{Core, Main}
use Rattle.machine_data.specs.Labels.{choice_of, host_label}
use Rattle.machine_data.specs.Maps.{get}
use Rattle.machine_data.specs.Moves.{may_publish}
use Rattle.machine_data.specs.declared.records.Subtask.TheVariants as subtask
use Rattle.machine_data.specs.Read.{callee_of, next_entry, place_of, position_of, task_of}
use Rattle.machine_data.specs.declared.component.Callee.{Callee}
use Rattle.machine_data.specs.declared.component.Component.{Component}
use Rattle.machine_data.specs.declared.label.Label.{Label}
use Rattle.machine_data.specs.declared.label.Label.TheVariants as label
use Rattle.machine_data.specs.declared.label.TakeLabel.TheVariants as take_label
use Rattle.machine_data.specs.declared.records.Entry.TheVariants as entry
use Rattle.machine_data.specs.declared.statuses.Mark.{Mark}
use Rattle.machine_data.specs.declared.op.Op.{Op}
use Rattle.machine_data.specs.declared.op.Op.TheVariants as op
use Rattle.machine_data.specs.declared.op.TaskOp.TheVariants as task
use Rattle.machine_data.specs.declared.records.Script.{Script}
use Rattle.machine_data.specs.declared.records.Thread.{Thread}
use Rattle.machine_data.specs.declared.records.Turn.{Turn}
use Rattle.machine_data.specs.declared.records.Turn.TheVariants as turn
use Rattle.machine_data.specs.Labels.{Choice}
use Rattle.machine_rules.specs.Picks.{Picks, Preference}
use Rattle.ops_guests.proofs.CalmLemmas.{silent_shows}
use Rattle.ops_guests.proofs.ImplementLemmas.{implementing_is_step, picking_is_picked, taking_is_picked, taking_is_step}
use Rattle.ops_guests.specs.OpResult.{Implements, PicksFirst}
use Rattle.ops_guests.specs.Stays.{StaysAfter}
use Rattle.ops_guests.specs.Steps.{core_after, label_of, turn_after}
use Rattle.ops_guests.specs.declared.op_result.OpResult.{OpResult}
use Rattle.ops_guests.specs.declared.op_result.OpResult.TheVariants as op_result
use Rattle.machine_rules.specs.Outcome.{outcome_of_label}
use Rattle.machine_rules.specs.Progress.{Stops, may}
use Rattle.machine_rules.specs.Scripts.{op_of, script_in, script_of}
use Rattle.machine_rules.specs.Stalled.{Setting}
use Rattle.machine_rules.specs.Step.{Step, did, scripted_op_rule}
use Rattle.machine_rules.specs.Takes.{host_done, scripted_host_rule, popped, pushed, thread_taken}
use Rattle.machine_rules.specs.Turns.{at_turn, goes_to}
use Rattle.task_table.specs.declared.id.TableId.{TableId}
use Rattle.ops_turns.specs.Turn.{state_at}
use Rattle.task_wait.specs.declared.keys.ThreadKey.{ThreadKey}
use Rattle.core_primitives.specs.StateView.{StateView, thread_of}

-- ---- The op

module _ (c : Component) (n : ℕ) (s : Core) (t : Thread) (here : get s.threads n ≡ Some t) (ops : List Op) (f : Callee) (k p : ℕ) (x : Script) (callee : f ≡ callee_of k s) (call : k ≡ task_of n s)
    (script : x ≡ t.script) (read : ops ≡ script_in c f x) (place : p ≡ position_of n s) where
  pub script_is : script_of c n s ≡ ops
  unfolding script_of
  script_is =
      ap (λ (o : Option Thread). option_map_or (λ (u : Thread). script_in c (callee_of u.call s) u.script) o []) here
      ∙ (ap (λ j. script_in c (callee_of j s) t.script) (sym (call ∙ ap (λ (o : Option Thread). option_map_or (λ (u : Thread). u.call) o 0) here))
      ∙ (ap (λ g. script_in c g t.script) (sym callee) ∙ (ap (script_in c f) (sym script) ∙ sym read)))

  -- the rule of the op at the thread's place; at the script's end it exits
  pub row_at : (o : Option Op) → o ≡ slice_get ops p → (ch : Choice) → scripted_op_rule c n s ch (unwrap_or o (op.Task task.Exit)) ≡ did c n s ch
  unfolding did op_of
  row_at o e ch = ap (λ (q : Option Op). scripted_op_rule c n s ch (unwrap_or q (op.Task task.Exit))) (e ∙ (ap (slice_get ops) place ∙ ap (λ (os : List Op). slice_get os (position_of n s)) (sym script_is)))

  -- the op at the thread's place; at the script's end it exits
  pub op_is : (o : Option Op) → o ≡ slice_get ops p → op_of c n s ≡ unwrap_or o (op.Task task.Exit)
  unfolding op_of
  op_is o e = sym (ap (λ (q : Option Op). unwrap_or q (op.Task task.Exit)) (e ∙ (ap (slice_get ops) place ∙ ap (λ (os : List Op). slice_get os (position_of n s)) (sym script_is))))

-- ---- The step

pub settled : (r : OpResult) (s : Core) (m : Main) (p : Turn) (t : Core) → goes_to (state_at s m p) t (turn_after r) ≡ state_at t m (turn_after r)
unfolding at_turn
settled (op_result.Continues l k said) s m p t = refl
settled (op_result.Stops l) s m p t = refl
settled (op_result.Traps why) s m p t = refl
settled (op_result.Fails i) s m p t = refl

module _ (id : TableId ThreadKey) (n : ℕ) (s t : StateView) (number : thread_of s id ≡ n) where
  pub label_same : (r : OpResult) → StaysAfter r s t → label_of (thread_of t id) r ≡ label_of n r
  label_same (op_result.Continues l k said) e = refl
  label_same (op_result.Stops l) e = refl
  label_same (op_result.Traps why) e = ap (λ (v : StateView). label_of (thread_of v id) (op_result.Traps why)) e ∙ ap (λ k. label_of k (op_result.Traps why)) number
  label_same (op_result.Fails i) e = ap (λ (v : StateView). label_of (thread_of v id) (op_result.Fails i)) e ∙ ap (λ k. label_of k (op_result.Fails i)) number

  pub core_same : (r : OpResult) → StaysAfter r s t → core_after (thread_of t id) r t.core ≡ core_after n r t.core
  core_same (op_result.Continues l k said) e = refl
  core_same (op_result.Stops l) e = refl
  core_same (op_result.Traps why) e = ap (λ k. core_after k (op_result.Traps why) t.core) (ap (λ (v : StateView). thread_of v id) e ∙ number)
  core_same (op_result.Fails i) e = ap (λ k. core_after k (op_result.Fails i) t.core) (ap (λ (v : StateView). thread_of v id) e ∙ number)

  -- an op that did its rule makes a step
  pub ran : (c : Component) (r : OpResult) (l : Label) (p : Turn) (u : Core) → Implements (did c n s.core (choice_of (label_of n r))) s.core r t.core → StaysAfter r s t → l ≡ label_of (thread_of t id) r → p ≡ turn_after r
      → u ≡ core_after (thread_of t id) r t.core → (x : Setting) → x.component ≡ c → (m : Main) → Step x (state_at s.core m (turn.Run n)) l (state_at u m p)
  ran c r l p u implements stays label_is turn_is core_is x component m =
      let step = implementing_is_step x (state_at s.core m (turn.Run n)) n r t.core refl (subst (λ (d : Component). Implements (did d n s.core (choice_of (label_of n r))) s.core r t.core) (sym component) implements) in
      let shown = label_is ∙ label_same r stays in
      let after : state_at u m p ≡ goes_to (state_at s.core m (turn.Run n)) (core_after n r t.core) (turn_after r) =
      ap (λ (q : Turn). state_at u m q) turn_is ∙ (ap (λ (v : Core). state_at v m (turn_after r)) (core_is ∙ core_same r stays) ∙ sym (settled r s.core m (turn.Run n) (core_after n r t.core))) in
      rw shown (rw after step)

  -- the same, where the op did the rule of the id's thread
  pub ran_at : (c : Component) (r : OpResult) (l : Label) (p : Turn) (u : Core) → Implements (did c (thread_of s id) s.core (choice_of (label_of (thread_of s id) r))) s.core r t.core → StaysAfter r s t → l ≡ label_of (thread_of t id) r → p ≡ turn_after r
      → u ≡ core_after (thread_of t id) r t.core → (x : Setting) → x.component ≡ c → (m : Main) → Step x (state_at s.core m (turn.Run n)) l (state_at u m p)
  ran_at c r l p u implements = ran c r l p u (subst (λ k. Implements (did c k s.core (choice_of (label_of k r))) s.core r t.core) number implements)

  -- one that picked what comes first makes a step that does
  pub picked : (pref : Preference) (c : Component) (r : OpResult) (l : Label) (p : Turn) (u : Core) → PicksFirst pref (did c n s.core (choice_of (label_of n r))) (label_of n r) s.core r t.core → StaysAfter r s t → l ≡ label_of (thread_of t id) r → p ≡ turn_after r
      → u ≡ core_after (thread_of t id) r t.core → (x : Setting) → x.component ≡ c → (m : Main) → Picks pref x (state_at s.core m (turn.Run n)) l (state_at u m p)
  picked pref c r l p u picks stays label_is turn_is core_is x component m =
      let step = picking_is_picked pref x (state_at s.core m (turn.Run n)) n r t.core refl (subst (λ (d : Component). PicksFirst pref (did d n s.core (choice_of (label_of n r))) (label_of n r) s.core r t.core) (sym component) picks) in
      let shown = label_is ∙ label_same r stays in
      let after : state_at u m p ≡ goes_to (state_at s.core m (turn.Run n)) (core_after n r t.core) (turn_after r) =
      ap (λ (q : Turn). state_at u m q) turn_is ∙ (ap (λ (v : Core). state_at v m (turn_after r)) (core_is ∙ core_same r stays) ∙ sym (settled r s.core m (turn.Run n) (core_after n r t.core))) in
      rw shown (rw after step)

  pub picked_at : (pref : Preference) (c : Component) (r : OpResult) (l : Label) (p : Turn) (u : Core) → PicksFirst pref (did c (thread_of s id) s.core (choice_of (label_of (thread_of s id) r))) (label_of (thread_of s id) r) s.core r t.core → StaysAfter r s t → l ≡ label_of (thread_of t id) r → p ≡ turn_after r
      → u ≡ core_after (thread_of t id) r t.core → (x : Setting) → x.component ≡ c → (m : Main) → Picks pref x (state_at s.core m (turn.Run n)) l (state_at u m p)
  picked_at pref c r l p u picks = picked pref c r l p u (subst (λ k. PicksFirst pref (did c k s.core (choice_of (label_of k r))) (label_of k r) s.core r t.core) number picks)

-- a taking that did its rule makes a step
pub took : (c : Component) (ended : Bool) (mark : Mark) (id : TableId ThreadKey) (n : ℕ) (s u t : StateView) (r : OpResult) (l : Label) (p : Turn) (z : Core) → thread_of u id ≡ n → u.core ≡ popped mark s.core
    → next_entry s.core ≡ Some (mark, entry.Thread n) → Implements (thread_taken mark (thread_of u id) (choice_of (label_of (thread_of u id) r)) u.core (place_of (thread_of u id) u.core)) u.core r t.core → StaysAfter r u t
    → l ≡ label_of (thread_of t id) r → p ≡ turn_after r → z ≡ core_after (thread_of t id) r t.core → (x : Setting) → x.component ≡ c → (m : Main) → Step x (state_at s.core m (turn.Take ended)) l (state_at z m p)
took c ended mark id n s u t r l p z number base next implements stays label_is turn_is core_is x component m =
    let named = subst (λ k. Implements (thread_taken mark k (choice_of (label_of k r)) u.core (place_of k u.core)) u.core r t.core) number implements in
    let based = subst (λ (b : Core). Implements (thread_taken mark n (choice_of (label_of n r)) b (place_of n b)) b r t.core) base named in
    let step = taking_is_step x (state_at s.core m (turn.Take ended)) ended (mark, entry.Thread n) r t.core refl next based in
    let shown = label_is ∙ label_same id n u t number r stays in
    let after : state_at z m p ≡ goes_to (state_at s.core m (turn.Take ended)) (core_after n r t.core) (turn_after r) =
    ap (λ (q : Turn). state_at z m q) turn_is ∙ (ap (λ (v : Core). state_at v m (turn_after r)) (core_is ∙ core_same id n u t number r stays) ∙ sym (settled r s.core m (turn.Take ended) (core_after n r t.core))) in
    rw shown (rw after step)

-- one that picked what comes first makes a step that does
pub took_picks : (pref : Preference) (c : Component) (ended : Bool) (mark : Mark) (id : TableId ThreadKey) (n : ℕ) (s u t : StateView) (r : OpResult) (l : Label) (p : Turn) (z : Core) → thread_of u id ≡ n → u.core ≡ popped mark s.core
    → next_entry s.core ≡ Some (mark, entry.Thread n) → PicksFirst pref (thread_taken mark (thread_of u id) (choice_of (label_of (thread_of u id) r)) u.core (place_of (thread_of u id) u.core)) (label_of (thread_of u id) r) u.core r t.core → StaysAfter r u t
    → l ≡ label_of (thread_of t id) r → p ≡ turn_after r → z ≡ core_after (thread_of t id) r t.core → (x : Setting) → x.component ≡ c → (m : Main) → Picks pref x (state_at s.core m (turn.Take ended)) l (state_at z m p)
took_picks pref c ended mark id n s u t r l p z number base next picks stays label_is turn_is core_is x component m =
    let named = subst (λ k. PicksFirst pref (thread_taken mark k (choice_of (label_of k r)) u.core (place_of k u.core)) (label_of k r) u.core r t.core) number picks in
    let based = subst (λ (b : Core). PicksFirst pref (thread_taken mark n (choice_of (label_of n r)) b (place_of n b)) (label_of n r) b r t.core) base named in
    let step = taking_is_picked pref x (state_at s.core m (turn.Take ended)) ended (mark, entry.Thread n) r t.core refl next based in
    let shown = label_is ∙ label_same id n u t number r stays in
    let after : state_at z m p ≡ goes_to (state_at s.core m (turn.Take ended)) (core_after n r t.core) (turn_after r) =
    ap (λ (q : Turn). state_at z m q) turn_is ∙ (ap (λ (v : Core). state_at v m (turn_after r)) (core_is ∙ core_same id n u t number r stays) ∙ sym (settled r s.core m (turn.Take ended) (core_after n r t.core))) in
    rw shown (rw after step)

pub push_picks : (pref : Preference) (c : Component) (ended : Bool) (mark : Mark) (i : ℕ) (s t : StateView) → next_entry s.core ≡ Some (mark, entry.Push i) → t.core ≡ pushed i (popped mark s.core) → (x : Setting) → x.component ≡ c → (m : Main)
    → Picks pref x (state_at s.core m (turn.Take ended)) (label.Take (take_label.Push mark i)) (state_at t.core m turn.Main)
push_picks pref c ended mark i s t next core x component m =
    let l = label.Take (take_label.Push mark i) in
    subst (Picks pref x (state_at s.core m (turn.Take ended)) l) (settled (op_result.Stops l) s.core m (turn.Take ended) t.core)
    (taking_is_picked pref x (state_at s.core m (turn.Take ended)) ended (mark, entry.Push i) (op_result.Stops l) t.core refl next
    (record { shows = silent_shows pref (popped mark s.core) l (refl, refl); order = (refl, core) }))

pub host_picks : (pref : Preference) (c : Component) (ended : Bool) (mark : Mark) (i : ℕ) (s u t : StateView) (l : Label) → u.core ≡ popped mark s.core → next_entry s.core ≡ Some (mark, entry.Host i) → PicksFirst pref (scripted_host_rule mark i (choice_of l).woken u.core) l u.core (op_result.Stops l) t.core
    → (x : Setting) → x.component ≡ c → (m : Main) → Picks pref x (state_at s.core m (turn.Take ended)) l (state_at t.core m turn.Main)
host_picks pref c ended mark i s u t l base next picks x component m =
    let based = subst (λ (b : Core). PicksFirst pref (scripted_host_rule mark i (choice_of l).woken b) l b (op_result.Stops l) t.core) base picks in
    subst (Picks pref x (state_at s.core m (turn.Take ended)) l) (settled (op_result.Stops l) s.core m (turn.Take ended) t.core)
    (taking_is_picked pref x (state_at s.core m (turn.Take ended)) ended (mark, entry.Host i) (op_result.Stops l) t.core refl next based)

pub took_push : (c : Component) (ended : Bool) (mark : Mark) (i : ℕ) (s t : StateView) → next_entry s.core ≡ Some (mark, entry.Push i) → t.core ≡ pushed i (popped mark s.core) → (x : Setting) → x.component ≡ c → (m : Main)
    → Step x (state_at s.core m (turn.Take ended)) (label.Take (take_label.Push mark i)) (state_at t.core m turn.Main)
took_push c ended mark i s t next core x component m =
    subst (Step x (state_at s.core m (turn.Take ended)) (label.Take (take_label.Push mark i))) (settled (op_result.Stops (label.Take (take_label.Push mark i))) s.core m (turn.Take ended) t.core)
    (taking_is_step x (state_at s.core m (turn.Take ended)) ended (mark, entry.Push i) (op_result.Stops (label.Take (take_label.Push mark i))) t.core refl next (refl, core))

pub took_host : (c : Component) (ended : Bool) (mark : Mark) (i : ℕ) (s u t : StateView) (r : OpResult) (l : Label) → u.core ≡ popped mark s.core → next_entry s.core ≡ Some (mark, entry.Host i) → Implements (scripted_host_rule mark i (choice_of (label_of i r)).woken u.core) u.core r t.core → r ≡ op_result.Stops l
    → (x : Setting) → x.component ≡ c → (m : Main) → Step x (state_at s.core m (turn.Take ended)) l (state_at t.core m turn.Main)
took_host c ended mark i s u t r l base next implements is x component m =
    let based = subst (λ (b : Core). Implements (scripted_host_rule mark i (choice_of (label_of i r)).woken b) b r t.core) base implements in
    let shown = subst (λ (q : OpResult). Implements (scripted_host_rule mark i (choice_of (label_of i q)).woken (popped mark s.core)) (popped mark s.core) q t.core) is based in
    subst (Step x (state_at s.core m (turn.Take ended)) l) (settled (op_result.Stops l) s.core m (turn.Take ended) t.core)
    (taking_is_step x (state_at s.core m (turn.Take ended)) ended (mark, entry.Host i) (op_result.Stops l) t.core refl next shown)

host_quiet : (m : Mark) (i : ℕ) (w : Option ℕ) → outcome_of_label (host_label m i w) ≡ None
host_quiet m i None = refl
host_quiet m i (Some k) = refl

-- the taking of a host entry stops nothing more, and gives no outcome
pub host_over : (m : Mark) (i : ℕ) (w : Option ℕ) (s t : Core) (r : OpResult) (l : Label) → Implements (scripted_host_rule m i w s) s r t → r ≡ op_result.Stops l → is_none (outcome_of_label l) ≡ true
host_over m i w s t r l h is = by (may_publish (subtask.Host i) w s) h
  where
    same : (a b : Label) → op_result.Stops a ≡ op_result.Stops b → a ≡ b
    same a b e = cc

    by : (b : Bool) → Implements (may b (Stops (host_label m i w) (host_done i w s))) s r t → is_none (outcome_of_label l) ≡ true
    by true met = ap (λ (a : Label). is_none (outcome_of_label a)) (same l (host_label m i w) (sym is ∙ met.0)) ∙ ap is_none (host_quiet m i w)
    by false met = absurd met
