use Rattle.choice_offers.proofs.JoinedLemmas.{join_named_set, join_unnamed, join_zero, no_event, wakes_joined, watched_none}
use Rattle.choice_offers.proofs.op_spots.join_to_spot.Goals as goal
use Rattle.core_primitives.specs.Names.{subtask_in}
use Rattle.core_primitives.specs.StateView.{set_if_any, set_of, thread_of}
use Rattle.machine_data.specs.Read.{event_of, instance_of, is_watched, join_of, set_at}
use Rattle.std.proofs.Common.{ap, rules, sym, ◌∙◌}
use Rattle.std.specs.Prelude.{None, Some, false, is_some, true, ℕ, ◌≡◌}

pub returns-then-set-eq0 : goal.returns-then-set-eq0
returns-then-set-eq0 c =
    let s = c.args.core.now in
    let n = thread_of s c.args.thread in
    ((c.no_spot.ensures n).0, (c.no_spot.ensures n).1 ∙ join_zero n s.core (subtask_in s.tags c.args.subtask) c.args.set c.if-set-eq0.true)

pub returns-in_default : goal.returns-in_default
returns-in_default c =
    let s = c.args.core.now in
    let n = thread_of s c.args.thread in
    let named : None ≡ set_at (instance_of n s.core) c.args.set s.core =
    ap (set_if_any s) (sym c.in_default.is) ∙ (c.set_named.ensures.is ∙ ap (λ (i : ℕ). set_at i c.args.set s.core) c.instance_of.ensures) in (
      (c.no_spot-in_default.ensures n).0,
      (c.no_spot-in_default.ensures n).1 ∙ join_unnamed n s.core (subtask_in s.tags c.args.subtask) c.args.set c.if-set-eq0.false named,
    )

pub returns-then-is_watched : goal.returns-then-is_watched
returns-then-is_watched c =
    let s = c.args.core.now in
    let n = thread_of s c.args.thread in
    let q = subtask_in s.tags c.args.subtask in
    let named : Some (set_of s c.in-Some.set) ≡ set_at (instance_of n s.core) c.args.set s.core =
    ap (set_if_any s) (sym c.in-Some.is) ∙ (c.set_named.ensures.is ∙ ap (λ (i : ℕ). set_at i c.args.set s.core) c.instance_of.ensures) in
    let watched : is_watched (join_of q s.core) ≡ true = sym c.is_watched.ensures ∙ c.if-is_watched.true in (
      (c.no_spot-then-is_watched.ensures n).0,
      (c.no_spot-then-is_watched.ensures n).1
          ∙ (watched_none q s.core (Some (set_of s c.in-Some.set)) watched ∙ join_named_set n s.core q (set_of s c.in-Some.set) c.args.set c.if-set-eq0.false named),
    )

pub returns-then-is_some : goal.returns-then-is_some
returns-then-is_some c =
    let s = c.args.core.now in
    let n = thread_of s c.args.thread in
    let q = subtask_in s.tags c.args.subtask in
    let named : Some (set_of s c.in-Some.set) ≡ set_at (instance_of n s.core) c.args.set s.core =
    ap (set_if_any s) (sym c.in-Some.is) ∙ (c.set_named.ensures.is ∙ ap (λ (i : ℕ). set_at i c.args.set s.core) c.instance_of.ensures) in
    let apart : is_watched (join_of q s.core) ≡ false = sym c.is_watched.ensures ∙ c.if-is_watched.false in
    let event : is_some (event_of q s.core) ≡ true = search rules in (
      (c.wakes.ensures n).0,
      (c.wakes.ensures n).1
          ∙ (wakes_joined q s.core (set_of s c.in-Some.set) apart event ∙ join_named_set n s.core q (set_of s c.in-Some.set) c.args.set c.if-set-eq0.false named),
    )

pub returns-else-is_some : goal.returns-else-is_some
returns-else-is_some c =
    let s = c.args.core.now in
    let n = thread_of s c.args.thread in
    let q = subtask_in s.tags c.args.subtask in
    let named : Some (set_of s c.in-Some.set) ≡ set_at (instance_of n s.core) c.args.set s.core =
    ap (set_if_any s) (sym c.in-Some.is) ∙ (c.set_named.ensures.is ∙ ap (λ (i : ℕ). set_at i c.args.set s.core) c.instance_of.ensures) in
    let apart : is_watched (join_of q s.core) ≡ false = sym c.is_watched.ensures ∙ c.if-is_watched.false in
    let event : is_some (event_of q s.core) ≡ false = search rules in (
      (c.no_spot-else-is_some.ensures n).0,
      (c.no_spot-else-is_some.ensures n).1
          ∙ (no_event q s.core (Some (set_of s c.in-Some.set)) apart event ∙ join_named_set n s.core q (set_of s c.in-Some.set) c.args.set c.if-set-eq0.false named),
    )
