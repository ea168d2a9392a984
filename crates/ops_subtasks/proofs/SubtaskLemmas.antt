-- A subtask that a handle names, where it may be gone: what is gone reads and is written as nothing.
use Rattle.std.proofs.Common.{ap, refl, subst, sym, ◌∙◌}
use Rattle.std.specs.Option.{option_map_or}
use Rattle.std.specs.Prelude.{None, Option, Some, is_some, option_and_then, option_map, ℕ, ◌≡◌}
use Rattle.machine_data.proofs.MapLemmas.{change-absent}
use Rattle.machine_data.specs.Core.{Core}
use Rattle.machine_data.specs.Maps.{get}
use Rattle.machine_data.specs.Read.{event_of, instance_of, is_stage_ended, join_of, subtask_at, subtask_ended}
use Rattle.machine_data.specs.Write.{on_call, on_work, set_join}
use Rattle.machine_data.specs.declared.records.Call.{Call}
use Rattle.machine_data.specs.declared.records.Join.{Join}
use Rattle.machine_data.specs.declared.records.Join.TheVariants as join
use Rattle.machine_data.specs.declared.records.Stage.TheVariants as stage
use Rattle.machine_data.specs.declared.records.Subtask.{Subtask}
use Rattle.machine_data.specs.declared.records.Subtask.TheVariants as subtask
use Rattle.machine_data.specs.declared.records.Work.{Work}
use Rattle.machine_data.specs.declared.trap.Trap.TheVariants as trap
use Rattle.ops_guests.specs.OpResult.{Implements}
use Rattle.ops_guests.specs.declared.op_result.OpResult.{OpResult}
use Rattle.machine_rules.specs.Progress.{Progress, or_trap}
use Rattle.core_primitives.specs.Live.{kept_in, live_subtask}

pub absent_call : (k : ℕ) (f : Call → Call) (s : Core) → get s.calls k ≡ None → on_call k f s ≡ s
unfolding on_call
absent_call k f s gone = ap (λ m. record s { calls = m }) (change-absent s.calls k f gone)

pub absent_work : (i : ℕ) (f : Work → Work) (s : Core) → get s.works i ≡ None → on_work i f s ≡ s
unfolding on_work
absent_work i f s gone = ap (λ m. record s { works = m }) (change-absent s.works i f gone)

-- the two read alike, and are written alike as to where they are
pub record Alike (a b : Subtask) (s : Core) : Type 0 where
  pub join : join_of a s ≡ join_of b s
  pub event : event_of a s ≡ event_of b s
  pub ended : subtask_ended a s ≡ subtask_ended b s
  pub joined : (j : Join) → set_join a j s ≡ set_join b j s

pub same_alike : (a : Subtask) (s : Core) → Alike a a s
same_alike a s = record { join = refl; event = refl; ended = refl; joined = λ j. refl }

pub gone_calls : (k q : ℕ) (s : Core) → get s.calls k ≡ None → get s.calls q ≡ None → Alike (subtask.Guest k) (subtask.Guest q) s
unfolding set_join
gone_calls k q s a b = record {
  join = ap (λ (o : Option Call). option_map_or (λ (c : Call). c.join) o join.Nowhere) (a ∙ sym b);
  event = ap (λ (o : Option Call). option_and_then (λ (c : Call). c.event) o) (a ∙ sym b);
  ended = ap (λ (o : Option Call). is_some (option_and_then (λ (c : Call). c.«end») o)) (a ∙ sym b);
  joined = λ j. absent_call k (λ c. record c { join = j }) s a ∙ sym (absent_call q (λ c. record c { join = j }) s b);
}

pub gone_works : (k q : ℕ) (s : Core) → get s.works k ≡ None → get s.works q ≡ None → Alike (subtask.Host k) (subtask.Host q) s
unfolding set_join
gone_works k q s a b = record {
  join = ap (λ (o : Option Work). option_map_or (λ (w : Work). w.join) o join.Nowhere) (a ∙ sym b);
  event = ap (λ (o : Option Work). option_and_then (λ (w : Work). w.event) o) (a ∙ sym b);
  ended = ap (λ (o : Option Work). is_stage_ended (option_map_or (λ (w : Work). w.stage) o stage.Ended)) (a ∙ sym b);
  joined = λ j. absent_work k (λ c. record c { join = j }) s a ∙ sym (absent_work q (λ c. record c { join = j }) s b);
}

-- a subtask is like the one that is left of it
pub kept_alike : (sub : Subtask) (s : Core) → get s.calls 0 ≡ None → get s.works 0 ≡ None → Alike sub (live_subtask sub s) s
kept_alike (subtask.Guest k) s calls works = go (get s.calls k) refl
  where
    go : (o : Option Call) → get s.calls k ≡ o → Alike (subtask.Guest k) (subtask.Guest (kept_in s.calls k)) s
    go None e = rw e (gone_calls k 0 s e calls)
    go (Some c) e = rw e (same_alike (subtask.Guest k) s)
kept_alike (subtask.Host k) s calls works = go (get s.works k) refl
  where
    go : (o : Option Work) → get s.works k ≡ o → Alike (subtask.Host k) (subtask.Host (kept_in s.works k)) s
    go None e = rw e (gone_works k 0 s e works)
    go (Some c) e = rw e (same_alike (subtask.Host k) s)

-- ---- The rule of a named subtask

pub at_kept : (i h : ℕ) (q : Subtask) (s : Core) (row : Subtask → Progress) → Some q ≡ option_map (λ sub. live_subtask sub s) (subtask_at i h s) → ((sub : Subtask) → subtask_at i h s ≡ Some sub → row sub ≡ row (live_subtask sub s)) → or_trap (subtask_at i h s) trap.BadHandle row ≡ row q
at_kept i h q s row e same = go (subtask_at i h s) refl e
  where
    no_both : Some q ≡ None → ⊥
    no_both d = cc

    same_some : (a b : Subtask) → Some a ≡ Some b → b ≡ a
    same_some a b d = cc

    go : (o : Option Subtask) → subtask_at i h s ≡ o → Some q ≡ option_map (λ sub. live_subtask sub s) o → or_trap o trap.BadHandle row ≡ row q
    go None at d = absurd (no_both d)
    go (Some sub) at d = same sub at ∙ ap row (same_some q (live_subtask sub s) d)

-- the rule as contracts see it
-- the rule of an op on what the handle names is that of what it names
pub named_row : (n i h : ℕ) (q : Subtask) (row : Subtask → Progress) (s : Core) → i ≡ instance_of n s → Some q ≡ option_map (λ sub. live_subtask sub s) (subtask_at i h s) → ((sub : Subtask) → subtask_at i h s ≡ Some sub → row sub ≡ row (live_subtask sub s)) → or_trap (subtask_at (instance_of n s) h s) trap.BadHandle row ≡ row q
named_row n i h q row s at named same = ap (λ (j : ℕ). or_trap (subtask_at j h s) trap.BadHandle row) (sym at) ∙ at_kept i h q s row named same

pub named_implements : (n i h : ℕ) (q : Subtask) (row : Subtask → Progress) (s t : Core) (r : OpResult) → i ≡ instance_of n s → Some q ≡ option_map (λ sub. live_subtask sub s) (subtask_at i h s) → ((sub : Subtask) → subtask_at i h s ≡ Some sub → row sub ≡ row (live_subtask sub s)) → Implements (row q) s r t → Implements (or_trap (subtask_at (instance_of n s) h s) trap.BadHandle row) s r t
named_implements n i h q row s t r at named same implements =
    subst (λ (j : ℕ). Implements (or_trap (subtask_at j h s) trap.BadHandle row) s r t) at (subst (λ (p : Progress). Implements p s r t) (sym (at_kept i h q s row named same)) implements)
