-- What an op did, against its rule.
use Rattle.std.proofs.Common.{ap, subst, sym, ◌∙◌}
use Rattle.std.specs.Prelude.{ℕ, ◌≡◌}
use Rattle.machine_data.specs.Core.{Core}
use Rattle.machine_data.specs.Labels.{Choice, choice_of}
use Rattle.machine_data.specs.declared.trap.Trap.{Trap}
use Rattle.ops_guests.proofs.CalmLemmas.{calm_picks}
use Rattle.ops_guests.specs.OpResult.{Implements, PicksFirst}
use Rattle.machine_rules.specs.Picks.{LeavesNoChoice}
use Rattle.core_primitives.specs.Preferences.{preference}
use Rattle.ops_guests.specs.Does.{DoesRule, KeepsRest, Rule, SameNames}
use Rattle.ops_guests.specs.Ended.{ended}
use Rattle.ops_guests.specs.Stays.{StaysAfter}
use Rattle.ops_guests.specs.Steps.{label_of}
use Rattle.ops_guests.specs.declared.op_result.OpResult.{OpResult}
use Rattle.ops_guests.specs.declared.op_result.OpResult.TheVariants as op_result
use Rattle.machine_rules.specs.Finish.{Doer, SomeHost}
use Rattle.machine_rules.specs.Progress.{Asks, Fails, Continues, Never, OneOf, Ordered, Progress, Stops, Traps}
use Rattle.task_table.specs.declared.id.TableId.{TableId}
use Rattle.task_wait.specs.declared.keys.ThreadKey.{ThreadKey}
use Rattle.core_primitives.specs.StateView.{StateView, Tags, thread_of, with_core, work_number}

-- ---- A trap has changed nothing

trapped_same : (p : Progress) (s t : Core) (why : Trap) → Implements p s (op_result.Traps why) t → t ≡ s
trapped_same (Continues l new m) s t why h = absurd (let e = h.0 in cc)
trapped_same (Stops l new) s t why h = absurd (let e = h.0 in cc)
trapped_same (Traps other) s t why h = h.1
trapped_same (Fails i) s t why h = absurd (let e = h.0 in cc)
trapped_same Never s t why h = absurd h
trapped_same (Ordered ns next) s t why h = trapped_same (next h.0) s t why h.1.1
trapped_same (OneOf ns next) s t why h = trapped_same (next h.0) s t why h.1.1
trapped_same (Asks next) s t why h = trapped_same (next h.0) s t why h.1

failed_same : (p : Progress) (s t : Core) (i : ℕ) → Implements p s (op_result.Fails i) t → t ≡ s
failed_same (Continues l new m) s t i h = absurd (let e = h.0 in cc)
failed_same (Stops l new) s t i h = absurd (let e = h.0 in cc)
failed_same (Traps other) s t i h = absurd (let e = h.0 in cc)
failed_same (Fails j) s t i h = h.1
failed_same Never s t i h = absurd h
failed_same (Ordered ns next) s t i h = failed_same (next h.0) s t i h.1.1
failed_same (OneOf ns next) s t i h = failed_same (next h.0) s t i h.1.1
failed_same (Asks next) s t i h = failed_same (next h.0) s t i h.1

same_view : (s t : StateView) → t.core ≡ s.core → t.tags ≡ s.tags → t.current ≡ s.current → t ≡ s
same_view s t core tags current =
    ap (λ d. let v : StateView = record { core = d; tags = t.tags; current = t.current } in v) core
    ∙ (ap (λ d. let v : StateView = record { core = s.core; tags = d; current = t.current } in v) tags
    ∙ ap (λ d. let v : StateView = record { core = s.core; tags = s.tags; current = d } in v) current)

-- an op that changes no name, and not who is current
pub ended_stays : (p : Progress) (d : Doer) (n : ℕ) (r : OpResult) (s t : StateView) → Implements p s.core r (ended d n r t.core) → t.tags ≡ s.tags → t.current ≡ s.current → StaysAfter r s t
ended_stays p d n (op_result.Continues l m said) s t h tags current = tt
ended_stays p d n (op_result.Stops l) s t h tags current = tt
ended_stays p d n (op_result.Traps why) s t h tags current = same_view s t (trapped_same p s.core t.core why h) tags current
ended_stays p d n (op_result.Fails i) s t h tags current = same_view s t (failed_same p s.core t.core i h) tags current

-- what an op picks whose rule leaves no choice, whoever has it done
abbrev pub IsCalm : Rule → TableId ThreadKey → StateView → OpResult → Type 0
IsCalm rule id s r = (d : Doer) → LeavesNoChoice (rule d (thread_of s id) (choice_of (label_of (thread_of s id) r)) s.core)

-- what an op picks, whoever has it done
abbrev pub PicksAs : Rule → TableId ThreadKey → StateView → OpResult → StateView → Type 0
PicksAs rule id s r t = (d : Doer) → PicksFirst (preference s) (rule d (thread_of s id) (choice_of (label_of (thread_of s id) r)) s.core)
    (label_of (thread_of s id) r) s.core r (ended d (thread_of s id) r t.core)

pub calm_as : (rule : Rule) (id : TableId ThreadKey) (s t : StateView) (r : OpResult) → IsCalm rule id s r
    → ((d : Doer) → Implements (rule d (thread_of s id) (choice_of (label_of (thread_of s id) r)) s.core) s.core r (ended d (thread_of s id) r t.core))
    → PicksAs rule id s r t
calm_as rule id s t r calm implements = λ d. calm_picks (preference s) (thread_of s id) (rule d (thread_of s id) (choice_of (label_of (thread_of s id) r)) s.core) s.core r (ended d (thread_of s id) r t.core) (calm d) (implements d)

-- it did its rule, and no name is changed
pub does_same : (rule : Rule) (id : TableId ThreadKey) (s t : StateView) (r : OpResult)
    → ((d : Doer) → Implements (rule d (thread_of s id) (choice_of (label_of (thread_of s id) r)) s.core) s.core r (ended d (thread_of s id) r t.core))
    → PicksAs rule id s r t → t.tags ≡ s.tags → t.current ≡ s.current → DoesRule SameNames rule id s r t
does_same rule id s t r implements picks tags current = record {
  implements = implements;
  picks = picks;
  stays = ended_stays (rule SomeHost (thread_of s id) (choice_of (label_of (thread_of s id) r)) s.core) SomeHost (thread_of s id) r s t (implements SomeHost) tags current;
  kept = (tags, current);
}

-- the same, where the core alone was written
pub does_on : (rule : Rule) (id : TableId ThreadKey) (new : Core) (s t : StateView) (r : OpResult) → t ≡ with_core new s
    → ((d : Doer) → Implements (rule d (thread_of s id) (choice_of (label_of (thread_of s id) r)) s.core) s.core r (ended d (thread_of s id) r t.core))
    → PicksAs rule id s r t → DoesRule SameNames rule id s r t
does_on rule id new s t r e implements picks = does_same rule id s t r implements picks (ap (λ (v : StateView). v.tags) e) (ap (λ (v : StateView). v.current) e)

-- ---- What is kept

-- where no name is changed all that is said of names is kept
pub same_rest : (s t : StateView) → SameNames s t → KeepsRest s t
same_rest s t k = ((λ id live. ap (λ (g : Tags). work_number g id) k.0, ap (λ (g : Tags). g.tracked) k.0), k.1)

-- ---- Another name of the rule

pub does_rule : (AreKept : StateView → StateView → Type 0) (rule other : Rule) (id : TableId ThreadKey) (s t : StateView) (r : OpResult) → DoesRule AreKept rule id s r t
    → ((d : Doer) (c : Choice) → other d (thread_of s id) c s.core ≡ rule d (thread_of s id) c s.core) → DoesRule AreKept other id s r t
does_rule AreKept rule other id s t r did same = record {
  implements = λ d. subst (λ (p : Progress). Implements p s.core r (ended d (thread_of s id) r t.core)) (sym (same d (choice_of (label_of (thread_of s id) r)))) (did.implements d);
  picks = λ d. subst (λ (p : Progress). PicksFirst (preference s) p (label_of (thread_of s id) r) s.core r (ended d (thread_of s id) r t.core)) (sym (same d (choice_of (label_of (thread_of s id) r)))) (did.picks d);
  stays = did.stays;
  kept = did.kept;
}

-- the same of a rule that leaves no choice
pub calm_same : (rule : Rule) (id : TableId ThreadKey) (s t : StateView) (r : OpResult) → IsCalm rule id s r
    → ((d : Doer) → Implements (rule d (thread_of s id) (choice_of (label_of (thread_of s id) r)) s.core) s.core r (ended d (thread_of s id) r t.core))
    → t.tags ≡ s.tags → t.current ≡ s.current → DoesRule SameNames rule id s r t
calm_same rule id s t r calm implements tags current = does_same rule id s t r implements (calm_as rule id s t r calm implements) tags current
