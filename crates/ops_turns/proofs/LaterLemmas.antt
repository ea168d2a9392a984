-- What steps keep of the ids that a host has.
use Rattle.laws_order.proofs.SpawnLemmas.{spawns_stay}
use Rattle.laws_order.specs.Spawns.{SpawnsStay}
use Rattle.std.proofs.Common.{ap, inl, le_refl, refl, subst, sym, ◌∙◌}
use Rattle.std.specs.Option.{option_map_or}
use Rattle.std.specs.Prelude.{None, Option, Some, false, ◌≡◌, ◌≤◌}
use Rattle.laws_states.specs.Order.{InOrder}
use Rattle.machine_data.specs.Core.{Core, Main}
use Rattle.machine_data.specs.Maps.{Records, get}
use Rattle.machine_data.specs.declared.label.Label.{Label}
use Rattle.machine_data.specs.declared.records.MadeCounts.{MadeCounts as Count}
use Rattle.machine_data.specs.declared.records.Turn.{Turn}
use Rattle.machine_data.specs.declared.records.Work.{Work}
use Rattle.ops_guests.specs.Works.{KeepsWorks, NamesWorks}
use Rattle.machine_rules.proofs.LawLemmas.{steady}
use Rattle.machine_rules.specs.Laws.{LaterBy, LaterWork}
use Rattle.machine_rules.specs.MainOps.{is_spawn, is_spawn_caller}
use Rattle.machine_rules.specs.Stalled.{Setting}
use Rattle.machine_rules.specs.Step.{Step}
use Rattle.ops_turns.specs.Later.{SameWorks, WorksLast}
use Rattle.ops_turns.specs.Turn.{CoreInOrder, Turned, state_at}
use Rattle.ops_turns.specs.declared.made.MadeStep.{MadeStep}
use Rattle.core_primitives.specs.StateView.{StateView, Tags, work_number, work_of}

-- what is gone doesn't come back
gone_later : (o p : Option Work) → LaterBy LaterWork o p → o ≡ None → p ≡ None
gone_later None None h e = refl
gone_later None (Some w) h e = absurd h
gone_later (Some v) p h e = absurd (cc)

pub last_by_names : (x : Setting) (p q : Turn) (m n : Main) (l : Label) (s t : StateView) → CoreInOrder x.component p s.core → Step x (state_at s.core m p) l (state_at t.core n q) → NamesWorks s t → WorksLast s t
unfolding SpawnsStay
last_by_names x p q m n l s t in_turn step names =
    let r = steady x (state_at s.core m p) l (state_at t.core n q) step in
    record {
      names = names;
      made = r.works_made;
      gone = λ i below none. gone_later (get s.core.works i) (get t.core.works i) (r.works i below) none;
      spawns = λ i is. spawns_stay x (state_at s.core m p) l (state_at t.core n q) (in_turn.order m) step i is;
    }

pub last_by_step : (x : Setting) (p q : Turn) (m n : Main) (l : Label) (s t : StateView) → CoreInOrder x.component p s.core → Step x (state_at s.core m p) l (state_at t.core n q) → KeepsWorks s t → WorksLast s t
last_by_step x p q m n l s t in_turn step names = last_by_names x p q m n l s t in_turn step (λ id live. inl (names id live))

pub last_same : (s t : StateView) → t ≡ s → WorksLast s t
last_same s t e = record {
  names = λ id live. inl (ap (λ (v : StateView). work_of v id) e);
  made = subst (λ (v : StateView). s.core.made.works ≤ v.core.made.works) (sym e) (le_refl _);
  gone = λ i below none. ap (λ (v : StateView). get v.core.works i) e ∙ none;
  spawns = λ i is. ap (λ (v : StateView). is_spawn i v.core) e ∙ is;
}

pub last_by_works : (s t : StateView) → SameWorks s t → WorksLast s t
last_by_works s t same = record {
  names = λ id live. inl (ap (λ (g : Tags). work_number g id) same.tags);
  made = subst (λ (c : Count). s.core.made.works ≤ c.works) (sym same.made) (le_refl _);
  gone = λ i below none. ap (λ w. get w i) same.works ∙ none;
  spawns = λ i is. ap (λ (m : Records Work). option_map_or (λ (w : Work). is_spawn_caller w.caller) (get m i) false) same.works ∙ is;
}

pub last_by_turned : (x : Setting) (p : Turn) (m n : Main) (s t : StateView) (o : Option MadeStep) → CoreInOrder x.component p s.core → Turned x p m s o n t → KeepsWorks s t → WorksLast s t
last_by_turned x p m n s t (Some made) in_turn turned names = last_by_step x p made.turn m n made.label s t in_turn turned.step names
last_by_turned x p m n s t None in_turn turned names = last_same s t turned.1.1

pub last_by_core : (s t : StateView) → t.core ≡ s.core → KeepsWorks s t → WorksLast s t
last_by_core s t e names = record {
  names = λ id live. inl (names id live);
  made = subst (λ (c : Core). s.core.made.works ≤ c.made.works) (sym e) (le_refl _);
  gone = λ i below none. ap (λ (c : Core). get c.works i) e ∙ none;
  spawns = λ i is. ap (λ (c : Core). is_spawn i c) e ∙ is;
}
