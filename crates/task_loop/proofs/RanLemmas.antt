-- A run goes on: what was told in it, and what main did.
use Rattle.laws_labels.specs.Own.{is_data}
use Rattle.std.proofs.Common.{ap, append-nil, append_assoc, refl, subst, sym, ◌∙◌}
use Rattle.std.proofs.lemmas.List.{append_cancel_left}
use Rattle.std.specs.List.{list_all}
use Rattle.std.specs.Prelude.{List, None, Option, Some, [], true, ℕ, ◌++◌, ◌∷◌, ◌≡◌}
use Rattle.task_group.specs.Listeners.{Listeners, ToldListeners}
use Rattle.task_loop.proofs.AnswersOkLemmas.{all_told, answers_ok_data, answers_ok_late, answers_ok_nothing}
use Rattle.task_loop.proofs.TakenLemmas.{stands_adds}
use Rattle.task_loop.proofs.ToldLemmas.{nothing_computed, stands_turn}
use Rattle.task_loop.specs.AnswersOk.{AnswersOkAll, AnswersOkMoment}
use Rattle.task_loop.specs.Ran.{DoesAll, DoesStep, Ran}
use Rattle.task_loop.specs.Told.{TurnTold, turn_of}
use Rattle.machine_data.specs.Core.{Core, Main, State}
use Rattle.machine_data.specs.declared.label.Label.{Label}
use Rattle.machine_data.specs.declared.label.Label.TheVariants as label
use Rattle.machine_data.specs.declared.records.Turn.{Turn}
use Rattle.machine_data.specs.declared.records.Turn.TheVariants as turn
use Rattle.machine_rules.proofs.Machine.{and_parts}
use Rattle.machine_rules.specs.History.{history}
use Rattle.machine_rules.specs.Notices.{notices}
use Rattle.machine_rules.specs.Run.{Run}
use Rattle.machine_rules.specs.Stalled.{Setting}
use Rattle.machine_rules.specs.Step.{Step}
use Rattle.ops_turns.specs.Does.{step_shown}
use Rattle.ops_turns.specs.Drive.{Computes}
use Rattle.ops_turns.specs.StepResult.{Added}
use Rattle.ops_turns.specs.Turn.{runs_in, state_at}
use Rattle.ops_turns.specs.declared.made.MadeStep.{MadeStep}
use Rattle.ops_turns.specs.declared.made.StepResult.{StepResult}
use Rattle.ops_turns.specs.declared.mains.MainStep.{MainStep}
use Rattle.core_primitives.specs.StateView.{StateView}

-- ---- What main did

pub last_same : (ls : List Label) (k l : Label) → ls ++ k ∷ [] ≡ ls ++ l ∷ [] → k ≡ l
last_same ls k l e = let same = append_cancel_left ls (k ∷ []) (l ∷ []) e in cc

data_shown : (l : Label) → is_data l ≡ true → None ≡ step_shown l
data_shown (label.Data l) h = refl
data_shown (label.Main l) h = absurd (cc)
data_shown (label.Loop l) h = absurd (cc)
data_shown _ h = absurd (cc)

module _ {M : Type 0} (does : M → Core → MainStep → M → Core → Type 0) where
  does_data : (x : Setting) (s : State) (ls : List Label) (t : State) (run : Run x s ls t) (m : M) → list_all is_data ls ≡ true → DoesAll does (history x s ls t run) m m
  does_data x s [] t run m all = refl
  does_data x s (l ∷ ls) t run m all =
      let both = and_parts (is_data l) (list_all is_data ls) all in (
        m,
        (
          subst (λ (o : Option MainStep). DoesStep does m s.core o m run.0.core) (data_shown l both.0) refl,
          does_data x run.0 ls t run.1.1 m both.1,
        ),
      )

  -- a run and then another
  both : (x : Setting) (s : State) (ls : List Label) (u : State) (ks : List Label) (t : State) (r : Run x s ls u) (q : Run x u ks t) (a b c : Listeners) (m mid n : M) →
      AnswersOkAll (history x s ls u r) a b → AnswersOkAll (history x u ks t q) b c → DoesAll does (history x s ls u r) m mid → DoesAll does (history x u ks t q) mid n →
      (run : Run x s (ls ++ ks) t) × (AnswersOkAll (history x s (ls ++ ks) t run) a c × DoesAll does (history x s (ls ++ ks) t run) m n)
  both x s [] u ks t r q a b c m mid n h more d e =
      let moved = subst (λ (y : State). (run : Run x y ks t) × (AnswersOkAll (history x y ks t run) b c × DoesAll does (history x y ks t run) mid n)) r (q, (more, e)) in
      (moved.0, (answers_ok_late (history x s ks t moved.0) a b c h moved.1.0, subst (λ (k : M). DoesAll does (history x s ks t moved.0) k n) d moved.1.1))
  both x s (l ∷ ls) u ks t r q a b c m mid n h more d e =
      let rest = both x r.0 ls u ks t r.1.1 q h.0 b c d.0 mid n h.1.1 more d.1.1 e in
      ((r.0, (r.1.0, rest.0)), ((h.0, (h.1.0, rest.1.0)), (d.0, (d.1.0, rest.1.1))))

  ran_both : (x : Setting) (s : State) (m : M) (before : List Label) (old : Listeners) (t : State) (n : M) (mid : List Label) (now : Listeners) (ls : List Label) (u : State) (k : M) (new : Listeners) →
      Ran does x s m before old t n mid now → (run : Run x t ls u) → AnswersOkAll (history x t ls u run) now new → DoesAll does (history x t ls u run) n k → Ran does x s m before old u k (mid ++ ls) new
  ran_both x s m before old t n mid now ls u k new r run answers_ok mains =
      let all = both x s r.added t ls u r.run run old now new m n k r.answers_ok answers_ok r.mains mains in
      record {
        added = r.added ++ ls;
        trace = ap (λ (ks : List Label). ks ++ ls) r.trace ∙ append_assoc before r.added ls;
        run = all.0;
        answers_ok = all.1.0;
        mains = all.1.1;
      }

module _ {M : Type 0} (does : M → Core → MainStep → M → Core → Type 0) (x : Setting) (s : State) (m : M) (before : List Label) (old : Listeners) where
  -- nothing was added yet
  pub nothing_ran : Ran does x s m before old s m before old
  nothing_ran = record { added = []; trace = sym (append-nil before); run = refl; answers_ok = answers_ok_nothing old; mains = refl }

  -- the notices of the whole run were told
  pub ran_told : (t : State) (n : M) (after : List Label) (new : Listeners) → (r : Ran does x s m before old t n after new) → ToldListeners (notices (history x s r.added t r.run)) old new
  ran_told t n after new r = all_told (history x s r.added t r.run) old new r.answers_ok

  -- a step more, of which this was told
  step_ran : (t : State) (n : M) (mid : List Label) (now : Listeners) (l : Label) (u : State) (k : M) (after : List Label) (new : Listeners) →
      Ran does x s m before old t n mid now → Step x t l u → AnswersOkMoment (record { before = t; label = l; after = u }) now new →
      DoesStep does n t.core (step_shown l) k u.core → after ≡ mid ++ l ∷ [] → Ran does x s m before old u k after new
  step_ran t n mid now l u k after new r step answers_ok did pushed =
      subst (λ (ls : List Label). Ran does x s m before old u k ls new) (sym pushed)
      (ran_both does x s m before old t n mid now (l ∷ []) u k new r (u, (step, refl)) (new, (answers_ok, answers_ok_nothing new)) (k, (did, refl)))

  module _ (part : M → Main) where
    -- it goes on by a step that was told
    pub ran_more : (p : Turn) (n : M) (u : StateView) (mid : List Label) (g : Listeners) (k : M) (v : StateView) (h : Listeners) (q : StepResult) (after : List Label) →
        Ran does x s m before old (state_at u.core (part n) p) n mid g →
        Added (λ (made : MadeStep). TurnTold x p (part n) u g (Some made) (part k) v h) q mid after →
        Added (λ (made : MadeStep). DoesStep does n u.core (step_shown made.label) k v.core) q mid after →
        Ran does x s m before old (state_at v.core (part k) (turn_of q)) k after h
    ran_more p n u mid g k v h q after r told did =
        let made = told.0 in
        let here = told.1.1 in
        let pushed = stands_adds q mid made after told.1.0 in
        let same = last_same mid did.0.label made.label (sym (stands_adds q mid did.0 after did.1.0) ∙ pushed) in
        subst (λ (w : Turn). Ran does x s m before old (state_at v.core (part k) w) k after h) (stands_turn q mid made after told.1.0)
        (step_ran (state_at u.core (part n) p) n mid g made.label (state_at v.core (part k) made.turn) k after h r here.turned.step
        (record { told = here.told; hook_is_ok = here.hook_is_ok; fewer = here.fewer }) (subst (λ (l : Label). DoesStep does n u.core (step_shown l) k v.core) same did.1.1) pushed)

    ran_same : (p : Turn) (n : M) (u : StateView) (mid : List Label) (l : Listeners) (v : StateView) (added : ℕ) (after : List Label) (k : ℕ) →
        Ran does x s m before old (state_at u.core (part n) p) n mid l → Computes x.component p u mid added v after k → k ≡ added →
        Ran does x s m before old (state_at v.core (part n) p) n after l
    ran_same p n u mid l v added after k r q same =
        let e = nothing_computed x.component p u mid added v after k q same x refl (part n) in
        subst (λ (w : State). Ran does x s m before old w n after l) (sym e.0)
        (subst (λ (ls : List Label). Ran does x s m before old (state_at u.core (part n) p) n ls l) (sym e.1) r)

    -- and by ops on registers and memory cells
    pub ran_computed : (p : Turn) (n : M) (u : StateView) (mid : List Label) (l : Listeners) (v : StateView) (added : ℕ) (after : List Label) (k : ℕ) →
        Ran does x s m before old (state_at u.core (part n) p) n mid l → Computes x.component p u mid added v after k → (runs_in p ≡ None → k ≡ added) →
        Ran does x s m before old (state_at v.core (part n) p) n after l
    ran_computed (turn.Run i) n u mid l v added after k r q still =
        let run = q.run x refl (part n) in
        subst (λ (ls : List Label). Ran does x s m before old (state_at v.core (part n) (turn.Run i)) n ls l) (sym q.trace)
        (ran_both does x s m before old (state_at u.core (part n) (turn.Run i)) n mid l q.labels (state_at v.core (part n) (turn.Run i)) n l r run
        (answers_ok_data x (state_at u.core (part n) (turn.Run i)) q.labels (state_at v.core (part n) (turn.Run i)) i l run refl q.computing)
        (does_data does x (state_at u.core (part n) (turn.Run i)) q.labels (state_at v.core (part n) (turn.Run i)) run n q.computing))
    ran_computed turn.Main n u mid l v added after k r q still = ran_same turn.Main n u mid l v added after k r q (still refl)
    ran_computed (turn.Futures i) n u mid l v added after k r q still = ran_same (turn.Futures i) n u mid l v added after k r q (still refl)
    ran_computed (turn.Take b) n u mid l v added after k r q still = ran_same (turn.Take b) n u mid l v added after k r q (still refl)
    ran_computed turn.Over n u mid l v added after k r q still = ran_same turn.Over n u mid l v added after k r q (still refl)

    -- it stays where nothing was made
    pub ran_still : (p : Turn) (n : M) (u : StateView) (mid : List Label) (g : Listeners) (k : M) (v : StateView) (h : Listeners) (after : List Label) →
        Ran does x s m before old (state_at u.core (part n) p) n mid g →
        TurnTold x p (part n) u g None (part k) v h × (after ≡ mid) → k ≡ n →
        Ran does x s m before old (state_at v.core (part k) p) k after h
    ran_still p n u mid g k v h after r q same =
        let here = state_at u.core (part n) p in
        let longer = ran_both does x s m before old here n mid g [] here n h r refl (record { told = q.0.told; hook_is_ok = q.0.hook_is_ok }) refl in
        let kept = subst (λ (ls : List Label). Ran does x s m before old here n ls h) (append-nil mid ∙ sym q.1) longer in
        subst (λ (j : M). Ran does x s m before old (state_at v.core (part j) p) j after h) (sym same)
        (subst (λ (w : StateView). Ran does x s m before old (state_at w.core (part n) p) n after h) (sym q.0.turned.1.1) kept)
