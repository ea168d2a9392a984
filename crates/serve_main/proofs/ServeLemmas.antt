-- What a server has served in a run.
use Rattle.serve_requests.proofs.ServedLemmas.{serving_serves}
use Rattle.serve_requests.specs.Served.{IsServed}
use Rattle.serve_requests.specs.Serving.{Asked, Serves, Serving, reply_of}
use Rattle.serve_requests.specs.declared.request.Reply.{Reply}
use Rattle.serve_requests.specs.declared.request.Request.{Request}
use Rattle.serve_requests.specs.declared.request.Stage.{Stage}
use Rattle.serve_requests.specs.declared.request.Stage.TheVariants.{Waits}
use Rattle.serve_main.specs.Knows.{asked}
use Rattle.serve_main.specs.Serves.{Does, IsServedBy, server_opening, server_setting}
use Rattle.serve_main.specs.declared.serving.Served.{Served}
use Rattle.serve_main.specs.declared.server.ServerMain.{ServerMain}
use Rattle.std.proofs.Common.{ap, refl, subst, sym, ◌∙◌}
use Rattle.std.specs.Prelude.{List, None, Option, Some, [], length, map, replicate, ℕ, ◌++◌, ◌≤◌, ◌∷◌, ◌≡◌}
use Rattle.machine_data.specs.Core.{Core, State}
use Rattle.machine_data.specs.declared.label.Label.{Label}
use Rattle.machine_data.specs.declared.label.Label.TheVariants as label
use Rattle.machine_data.specs.declared.label.LoopLabel.TheVariants as loop_label
use Rattle.machine_data.specs.declared.label.MainLabel.TheVariants as main_label
use Rattle.machine_rules.specs.History.{Moment, history}
use Rattle.machine_rules.specs.Outcome.{IsOutcome}
use Rattle.machine_rules.specs.Run.{Run}
use Rattle.machine_rules.specs.Stalled.{Setting}
use Rattle.task_run.specs.declared.scenario.Scenario.{Scenario}
use Rattle.task_loop.specs.Ran.{DoesAll, DoesStep}
use Rattle.ops_turns.specs.Does.{label_of_step, step_shown}
use Rattle.ops_turns.specs.declared.mains.MainStep.{MainStep}
use Rattle.ops_turns.specs.declared.mains.MainStep.TheVariants as step

-- a step of others is none of the server's
quiet_serves : (x : Asked) (a b : List Stage) (s t : Core) (l : Label) → step_shown l ≡ None → b ≡ a → Serves x a s l b t
quiet_serves x a b s t (label.Main (main_label.Answer v)) none same = absurd (cc)
quiet_serves x a b s t (label.Main _) none same = absurd (cc)
quiet_serves x a b s t (label.Loop loop_label.MainPends) none same = absurd (cc)
quiet_serves x a b s t _ none same = same

shown_label : (l : Label) (x : MainStep) → step_shown l ≡ Some x → label_of_step x ≡ l
shown_label (label.Main (main_label.Answer v)) x is = let same : step.Answer v ≡ x = cc in ap label_of_step (sym same)
shown_label (label.Main m) x is = let same : step.Did (label.Main m) ≡ x = cc in ap label_of_step (sym same)
shown_label (label.Loop loop_label.MainPends) x is = let same : step.Pends ≡ x = cc in ap label_of_step (sym same)
shown_label _ x is = absurd (cc)

one_more : (m mid n : ServerMain) (k : Moment) (ks : List Moment) (o : Option MainStep) → step_shown k.label ≡ o → DoesStep Does m k.before.core o mid k.after.core →
    Serving (asked mid) mid.stages.items ks n.stages.items → Serving (asked m) m.stages.items (k ∷ ks) n.stages.items
one_more m mid n k ks None is does rest = (
  mid.stages.items,
  (
    quiet_serves (asked m) m.stages.items mid.stages.items k.before.core k.after.core k.label is (ap (λ (q : ServerMain). q.stages.items) does),
    subst (λ (x : Asked). Serving x mid.stages.items ks n.stages.items) (ap asked does) rest,
  ),
)
one_more m mid n k ks (Some x) is does rest = (
  mid.stages.items,
  (
    subst (λ (l : Label). Serves (asked m) m.stages.items k.before.core l mid.stages.items k.after.core) (shown_label k.label x is) does.serves,
    subst (λ (y : Asked). Serving y mid.stages.items ks n.stages.items) does.asked_is rest,
  ),
)

serving_of : (m n : ServerMain) (h : List Moment) → DoesAll Does h m n → Serving (asked m) m.stages.items h n.stages.items
serving_of m n [] does = ap (λ (q : ServerMain). q.stages.items) does
serving_of m n (k ∷ ks) does = one_more m does.0 n k ks (step_shown k.label) refl does.1.0 (serving_of does.0 n ks does.1.1)

pub served_by : (m n : ServerMain) (h : List Moment) (x : Asked) → asked m ≡ x → m.stages.items ≡ replicate (length x.requests) Waits → DoesAll Does h m n → IsServed x (map reply_of n.stages.items) h
served_by m n h x is first does =
    let serving = subst (λ (a : List Stage). Serving x a h n.stages.items) first (subst (λ (y : Asked). Serving y m.stages.items h n.stages.items) is (serving_of m n h does)) in
    serving_serves x h n.stages.items serving

-- ---- The run of a server

-- a run of these labels, and what main did in it
abbrev pub Led : Setting → State → List Label → State → ServerMain → ServerMain → Type 0
Led x s ls t m n = (run : Run x s ls t) × DoesAll Does (history x s ls t run) m n

pub led_from : (x y : Setting) (s u : State) (ks ls : List Label) (t : State) (m n : ServerMain) → x ≡ y → s ≡ u → ks ≡ ls → Led x s ks t m n → Led y u ls t m n
led_from x y s u ks ls t m n setting state labels led =
    subst (λ (z : Setting). Led z u ls t m n) setting (subst (λ (q : State). Led x q ls t m n) state (subst (λ (js : List Label). Led x s js t m n) labels led))

module _ (x : Scenario) (rs : List Request) (limit steps : ℕ) (served : Served) (m n : ServerMain) where
  pub served_run : (last : State) → Led (server_setting x) (server_opening x) served.trace last m n → asked m ≡ record { limit = limit; requests = rs } → m.stages.items ≡ replicate (length rs) Waits →
      length served.trace ≤ steps → IsOutcome (server_setting x) last served.trace steps served.outcome → served.replies.items ≡ map reply_of n.stages.items → IsServedBy x rs limit steps served
  served_run last led is first few ends replies = record {
    last = last;
    run = led.0;
    few = few;
    ends = ends;
    served_is = subst (λ (qs : List Reply). IsServed (record { limit = limit; requests = rs }) qs (history (server_setting x) (server_opening x) served.trace last led.0)) (sym replies)
        (served_by m n (history (server_setting x) (server_opening x) served.trace last led.0) (record { limit = limit; requests = rs }) is first led.1);
  }

  -- the same of a run that was added to an empty trace
  pub served_driven : (y : Setting) (s last : State) (before added : List Label) → y ≡ server_setting x → s ≡ server_opening x → before ≡ [] → served.trace ≡ before ++ added → (run : Run y s added last) → DoesAll Does (history y s added last run) m n →
      length added ≤ steps → IsOutcome y last added steps served.outcome → asked m ≡ record { limit = limit; requests = rs } → m.stages.items ≡ replicate (length rs) Waits → served.replies.items ≡ map reply_of n.stages.items → IsServedBy x rs limit steps served
  served_driven y s last before added setting state none trace run mains few ends is first replies =
      let labels : added ≡ served.trace = sym (trace ∙ ap (λ (ls : List Label). ls ++ added) none) in
      served_run last (led_from y (server_setting x) s (server_opening x) added served.trace last m n setting state labels (run, mains)) is first
      (subst (λ (ls : List Label). length ls ≤ steps) labels few)
      (subst (λ (ls : List Label). IsOutcome (server_setting x) last ls steps served.outcome) labels (subst (λ (z : Setting). IsOutcome z last added steps served.outcome) setting ends)) replies
