-- The turn in which an entry is taken.
use Rattle.std.proofs.Common.{ap, inl, refl, subst, sym, ◌≡◌}
use Rattle.std.specs.Prelude.{Bool, List, None, Option, Some, false, true, ℕ, ◌⊎◌}
use Rattle.task_loop.proofs.DoesLemmas.{still_taken}
use Rattle.task_loop.proofs.HoldLemmas.{held_taken}
use Rattle.task_loop.proofs.HookLemmas.{stops_after}
use Rattle.task_loop.proofs.KnowsLemmas.{by_take}
use Rattle.task_loop.proofs.LackLemmas.{tells_none}
use Rattle.task_loop.proofs.TakenLemmas.{taken_running, taken_told}
use Rattle.task_loop.specs.HasRun.{At, FailsTurn, HasNoRoom, HasTurned, LacksTurn, MayTurn, MayWant, TurnsTo, may_change}
use Rattle.task_loop.specs.Says.{Says}
use Rattle.task_loop.specs.Threads.{FailsTold, LacksStart, LacksThread, TakesTo, ToldBeside}
use Rattle.machine_data.specs.Core.{Main}
use Rattle.machine_data.specs.declared.component.Component.{Component}
use Rattle.machine_data.specs.declared.component.HostDef.{HostDef}
use Rattle.machine_data.specs.declared.label.Label.{Label}
use Rattle.machine_data.specs.declared.records.Turn.{Turn}
use Rattle.machine_data.specs.declared.records.Turn.TheVariants as turn
use Rattle.ops_guests.specs.Works.{KeepsWorks}
use Rattle.machine_rules.specs.Stalled.{Setting}
use Rattle.task_store.specs.Hosts.{HoldsHosts, held_by}
use Rattle.task_store.specs.declared.store.Store.{Store}
use Rattle.ops_turns.specs.Later.{WorksLast}
use Rattle.ops_turns.proofs.SteppedLemmas.{made_some, match_then, none_as}
use Rattle.ops_turns.specs.StepResult.{AddedOrNone, MatchStep, is_made}
use Rattle.ops_turns.specs.Turn.{PendsIn, CoreInOrder, Turned, TurnedBeside, setting_of}
use Rattle.ops_turns.specs.declared.made.MadeStep.{MadeStep}
use Rattle.ops_turns.specs.declared.made.StepResult.{StepResult}
use Rattle.ops_turns.specs.declared.made.StepResult.TheVariants as stepped
use Rattle.core_primitives.specs.Groups.{IsAsked}
use Rattle.core_primitives.specs.StateView.{StateView}

module _ {M T H G : Type 0} (says : Says M) (course : H → HostDef) (c : Component) (m : M) (b ended : Bool) (q : Turn) (is : q ≡ turn.Take ended) (s t : Store T H G) (before after : List Label) (running : ℕ) (own : ℕ)
    (may : MayTurn says course c own (record { turn = q; idle = b; main = m; store = s; trace = before }))
    (stays : (u : StateView) → WorksLast s.state u → says.knows m s.state → says.knows m u) (rest : t ≡ record s { state = t.state; listeners = t.listeners }) where
  abbrev p : Turn
  p = turn.Take ended

  abbrev x : Setting
  x = setting_of c (says.script m) b

  abbrev part : Main
  part = says.part m

  abbrev u : Turn → At M T H G
  u r = record { turn = r; idle = b; main = m; store = s; trace = before }

  abbrev v : Turn → At M T H G
  v r = record { turn = r; idle = b; main = m; store = t; trace = after }

  abbrev Taken : StepResult → Type 0
  Taken k = AddedOrNone (λ (made : Option MadeStep). TurnedBeside c b p s.state made t.state) k before after

  pends : PendsIn x s.state.core part p
  pends = subst (λ (r : Turn). PendsIn x s.state.core part r) is may.may_turn.pends

  order : CoreInOrder c p s.state.core
  order = subst (λ (r : Turn). CoreInOrder c r s.state.core) is may.may_turn.order

  works : (made : Option MadeStep) → TurnedBeside c b p s.state made t.state → HoldsHosts course t
  works made turned =
      subst (λ (st : Store T H G). HoldsHosts course st) (sym rest) (held_taken x b ended part s.state t.state (held_by course s) made order refl pends turned may.may_turn.works)

  knows : (made : Option MadeStep) → TurnedBeside c b p s.state made t.state → KeepsWorks s.state t.state → says.knows m t.state
  knows made turned kept = by_take (says.knows m) s.state t.state (λ last. stays t.state last may.may_turn.knows) x b ended part made order refl pends turned kept

  turned_of : (k : StepResult) → Taken k → AddedOrNone (λ (made : Option MadeStep). Turned x p part s.state made part t.state) k before after
  turned_of k taken = none_as (λ (made : Option MadeStep). TurnedBeside c b p s.state made t.state) (λ (made : Option MadeStep). Turned x p part s.state made part t.state) k before after (λ made h. h x refl refl part pends) taken

  -- nothing is told where nothing is there
  took_ok : (k : StepResult) → Taken k → (made : Option MadeStep) → TurnedBeside c b p s.state made t.state → KeepsWorks s.state t.state → (is_made k ≡ true → ToldBeside s.state s.listeners p running t.state t.listeners) →
      (k ≡ stepped.Nothing → t.listeners ≡ s.listeners) → IsAsked t.state → HasTurned says course c k running (u p) (v p)
  took_ok k taken made turned kept told none asked = record {
    turn = refl;
    told = taken_told x ended part s.state t.state before after s.listeners t.listeners k may.may_turn.asked (turned_of k taken) none (λ is. (told is).told) (λ is. (told is).hook_is_ok);
    did = still_taken says.does m x part s.state t.state b ended k before after refl pends taken;
    group = taken_running x ended part s.state t.state before after running k (turned_of k taken) (λ is. (told is).group);
    suits = may.may_turn.suits;
    knows = knows made turned kept;
    works = works made turned;
    asked = asked;
  }

  took_failed : (k : StepResult) → is_made k ≡ true → Taken k → KeepsWorks s.state t.state → FailsTold s.state.core p t.state s.listeners t.listeners → FailsTurn says course c (u p) (v p)
  took_failed k is taken kept fails =
      let added = taken.made is in
      record {
        stops = stops_after x p p refl (λ no. absurd (cc)) part s.state before after s.listeners t.listeners (fails.told.answered, fails.hook) k part t.state fails.told ((turned_of k taken).made is);
        main = refl;
        knows = knows (Some added.0) added.1.1 kept;
        works = works (Some added.0) added.1.1;
      }

  took_lacks : LacksStart s t before after → LacksTurn says course c (u p) (v p)
  took_lacks lost = record { trace = lost.trace; wants = lost.wants; image = λ no. absurd (cc); main = λ other. refl; untold = λ other. lost.listeners; told = tells_none _ _ lost.listeners; groups = λ other. lost.tracked }

  -- by what the call gives that takes it
  pub took : (k : StepResult) → TakesTo c b ended s k running t before after → TurnsTo says course c k running (u q) (v q)
  took k taken = record {
    made = λ e.
        let told = taken.made e in
        let added = told.0.0.made e in
        subst (λ (w : Turn). HasTurned says course c k running (u w) (v w)) (sym is) (took_ok k told.0.0 (Some added.0) added.1.1 told.0.1 (λ yes. told.1) (λ none. absurd (made_some k e none)) told.1.asked);
    nothing = λ e.
        let nothing = taken.nothing e in
        let there = subst (λ (w : StepResult). Taken w) (sym e) nothing.0.0 in
        subst (λ (w : Turn). HasTurned says course c k running (u w) (v w)) (sym is)
        (took_ok k there None (there.nothing e).0 nothing.0.1 (λ made. absurd (made_some k made e)) (λ same. nothing.1.0) nothing.1.1);
    full = λ e. subst (λ (w : Turn). LacksTurn says course c (u w) (v w)) (sym is) (took_lacks (taken.full e));
    failed = λ e. let fails = taken.failed e in subst (λ (w : Turn). FailsTurn says course c (u w) (v w)) (sym is) (took_failed fails.1.0 fails.1.1.0 fails.1.1.1.0 fails.1.1.1.1 fails.0);
  }

-- ---- It is out of memory for the op of a thread

pub lacks_run : {M T H G : Type 0} (says : Says M) (course : H → HostDef) (c : Component) (m : M) (idle : Bool) (q : Turn) (n : ℕ) → q ≡ turn.Run n → (s t : Store T H G) (before after : List Label) → LacksThread c n s t before after
    → LacksTurn says course c (record { turn = q; idle = idle; main = m; store = s; trace = before }) (record { turn = q; idle = idle; main = m; store = t; trace = after })
lacks_run says course c m idle q n is s t before after lost = record {
  trace = lost.trace;
  wants = subst (λ (w : Turn). MayWant c w s.state.core) (sym is) lost.wants;
  image = λ kept. ap (λ (v : StateView). v.core) (lost.same (subst (λ (w : Turn). may_change c w s.state.core ≡ false) is kept));
  main = λ other. refl;
  untold = λ other. lost.listeners;
  told = tells_none _ _ lost.listeners;
  groups = λ other. lost.tracked;
}

-- ---- What a turn gives for whose label there is room

pub gives : {M T H G : Type 0} (says : Says M) (course : H → HostDef) (c : Component) (q : StepResult) (running room : ℕ) (a b : At M T H G) (mid : List Label) → mid ≡ a.trace → TurnsTo says course c q running (record a { trace = mid }) b
    → MatchStep (HasTurned says course c q running a b) (HasTurned says course c q running a b) (LacksTurn says course c a b ⊎ HasNoRoom says course c room a b) (FailsTurn says course c a b) q
gives says course c q running room a b mid same turned =
    match_then q (λ e h. h) (λ e h. h) (λ h. inl h) (λ h. h) (subst (λ (ls : List Label). TurnsTo says course c q running (record a { trace = ls }) b) same turned)
