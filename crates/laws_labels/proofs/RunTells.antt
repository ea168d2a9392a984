-- What runs tell the groups.
use Rattle.laws_labels.proofs.DataGroups.{Mild, data_plain, mild_group, mild_same, mild_then}
use Rattle.laws_labels.proofs.ListLemmas.{finish_none}
use Rattle.laws_labels.proofs.StepTells.{RunsOn, data_starts, data_works, plain_runs_on}
use Rattle.laws_labels.specs.Tells.{DataRunsTellNothing, DataTellsNothing, RunsTellOn}
use Rattle.laws_labels.proofs.OwnLemmas.{IsDone, op_done}
use Rattle.laws_labels.proofs.ShowLemmas.{wider}
use Rattle.laws_labels.proofs.TurnLemmas.{shown}
use Rattle.laws_labels.specs.Own.{is_data}
use Rattle.std.proofs.Common.{append_assoc}
use Rattle.std.specs.List.{list_all}
use Rattle.machine_data.specs.declared.records.Notice.{Notice}
use Rattle.machine_data.specs.declared.records.NoticeKind.{NoticeKind}
use Rattle.machine_rules.proofs.Machine.{Asks, HostPoll, Bool, Call, CallLabel, Component, Core, Enter, Fails, Continues, Label, List, Main, Never, Op, Ordered, Progress, Progresses, Run, Set, Setting, Some, State, Step, Stops, Thread, Traps, Turn, TurnStep, [], and_parts, ap, ap₂, arith, choice_of, cond, data_rule, did, false, history, nat_tests, op_of, scripted_op_rule, refl, subst, sym, thread_group, trap_label, true, ℕ, ◌++◌, ◌==◌, ◌∙◌, ◌∷◌, ◌≡◌}
use Rattle.machine_rules.specs.Notices.{finish_notices, group_notice, moment_notices, notices, of_live, running_group, switch_notices}
use Rattle.machine_rules.specs.OpParts.{is_data_op}
use Rattle.machine_rules.specs.Step.{RunStep, own_script}

-- ---- A step on registers and memory cells

no_data : {A : Type 0} (l : Label) → is_data l ≡ true → is_data l ≡ false → A
no_data l shows lacks = let never : ◌≡◌ {A = Bool} true false = sym shows ∙ lacks in absurd (cc)

done_no_data : (l : Label) → IsDone l → is_data l ≡ false
done_no_data (Label.Data l) done = absurd (cc)
done_no_data _ done = refl

module _ (c : Component) (s : State) (l : Label) (t : State) (d : is_data l ≡ true) (n : ℕ) where
  -- no other op shows such a label
  never_shown : {A : Type 0} (o : Op) → is_data_op o ≡ false → Progresses s s.core n (scripted_op_rule c n s.core (choice_of l) o) l t → A
  never_shown o other h =
      let row = scripted_op_rule c n s.core (choice_of l) o in
      no_data l d
      (shown (λ k. is_data k ≡ false) s s.core n (λ why is. refl) (λ i. refl) row
      (wider IsDone (λ k. is_data k ≡ false) done_no_data row (op_done (own_script o) c n s.core (choice_of l) o other)) l t h)

  op_runs_on : (o : Op) → Progresses s s.core n (scripted_op_rule c n s.core (choice_of l) o) l t → RunsOn s n l t
  op_runs_on (Op.Data o) h = plain_runs_on s n (data_rule c n s.core o) l t (data_plain c n s.core o) h
  op_runs_on (Op.Task o) h = never_shown (Op.Task o) refl h
  op_runs_on (Op.Set o) h = never_shown (Op.Set o) refl h
  op_runs_on (Op.Call o) h = never_shown (Op.Call o) refl h
  op_runs_on (Op.Thread o) h = never_shown (Op.Thread o) refl h

  runs_on : RunStep c s n l t → RunsOn s n l t
  unfolding did
  runs_on h = op_runs_on (op_of c n s.core) h

data_runs_on : (x : Setting) (s : State) (l : Label) (t : State) (n : ℕ) → Step x s l t → s.turn ≡ Turn.Run n → is_data l ≡ true → RunsOn s n l t
unfolding Step
data_runs_on x s l t n h at d = runs_on x.component s l t d n (subst (λ p. TurnStep x s p l t) at h)

eq_self : (g : ℕ) → (g == g) ≡ true
eq_self g = grind (arith, nat_tests)

no_switch : (g h : ℕ) → h ≡ g → switch_notices (Some g) (Some h) ≡ []
no_switch g h e = ap (λ k. switch_notices (Some g) (Some k)) e ∙ ap (λ b. cond b [] (group_notice NoticeKind.Exit (Some g) ++ group_notice NoticeKind.Enter (Some g))) (eq_self g)

module _ (s : State) (l : Label) (t : State) (n : ℕ) (at : s.turn ≡ Turn.Run n) (r : RunsOn s n l t) where
  same_running : switch_notices (running_group s.core s.turn) (running_group t.core t.turn) ≡ []
  same_running =
      ap₂ (λ (p q : Turn). switch_notices (running_group s.core p) (running_group t.core q)) at r.runs
      ∙ no_switch (thread_group n s.core) (thread_group n t.core) (mild_group r.mild n)

  tells_nothing : moment_notices (record { before = s; label = l; after = t }) ≡ []
  tells_nothing =
      ap₂ (λ (a w : List Notice).
      a ++ of_live s.core.groups (switch_notices (running_group s.core s.turn) (running_group t.core t.turn) ++ w)
      ++ finish_notices s.core.groups t.core.groups) (data_starts l t.core r.data_label) (data_works l s.core r.data_label)
      ∙ ap₂ (λ (b f : List Notice). [] ++ of_live s.core.groups (b ++ []) ++ f) same_running
      (ap (finish_notices s.core.groups) r.mild.groups ∙ finish_none s.core.groups)

pub data_tells_nothing : DataTellsNothing
data_tells_nothing x s l t n h at d = let r = data_runs_on x s l t n h at d in (r.runs, tells_nothing s l t n at r)

-- ---- Runs

pub data_runs_tell_nothing : DataRunsTellNothing
data_runs_tell_nothing x s [] t n run at all = refl
data_runs_tell_nothing x s (l ∷ ls) t n run at all =
    let both = and_parts (is_data l) (list_all is_data ls) all in
    let first = data_tells_nothing x s l run.0 n run.1.0 at both.0 in
    ap₂ (λ (a b : List Notice). a ++ b) first.1 (data_runs_tell_nothing x run.0 ls t n run.1.1 first.0 both.1)

-- a run of such labels from a thread's turn leaves the groups, and each thread in its own
pub data_runs_mild : (x : Setting) (s : State) (ls : List Label) (t : State) (n : ℕ) → Run x s ls t → s.turn ≡ Turn.Run n → list_all is_data ls ≡ true → Mild s.core t.core
data_runs_mild x s [] t n run at all = subst (λ (v : State). Mild s.core v.core) (sym run) (mild_same s.core)
data_runs_mild x s (l ∷ ls) t n run at all =
    let both = and_parts (is_data l) (list_all is_data ls) all in
    let first = data_runs_on x s l run.0 n run.1.0 at both.0 in
    mild_then first.mild (data_runs_mild x run.0 ls t n run.1.1 first.runs both.1)

tells_from : (x : Setting) (s m : State) (ks : List Label) (t : State) → m ≡ s → (more : Run x m ks t) →
    (both : Run x s ks t) × (notices (history x s ks t both) ≡ notices (history x m ks t more))
tells_from x s m ks t is =
    subst (λ (v : State). (more : Run x v ks t) → (both : Run x s ks t) × (notices (history x s ks t both) ≡ notices (history x v ks t more)))
    (sym is) (λ more. (more, refl))

pub runs_tell_on : RunsTellOn
runs_tell_on x s [] m ks t run more = tells_from x s m ks t run more
runs_tell_on x s (l ∷ ls) m ks t run more =
    let rest = runs_tell_on x run.0 ls m ks t run.1.1 more in (
      (run.0, (run.1.0, rest.0)),
      ap (λ (ns : List Notice). moment_notices (record { before = s; label = l; after = run.0 }) ++ ns) rest.1
          ∙ sym (append_assoc (moment_notices (record { before = s; label = l; after = run.0 })) (notices (history x run.0 ls m run.1.1)) (notices (history x m ks t more))),
    )
