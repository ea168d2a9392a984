use Rattle.choice_offers.proofs.TestLemmas.{direct_none, exit_by_kind, explicit_none}
use Rattle.choice_offers.proofs.op_spots.exit_spot.Goals as goal
use Rattle.core_primitives.specs.StateView.{thread_of}
use Rattle.laws_choices.specs.Offers.{kind_exit_offer, tells}
use Rattle.machine_data.specs.Read.{goal_of, is_direct, is_explicit, kind_of, task_of}
use Rattle.machine_data.specs.declared.component.ExportKind.TheVariants as kinds
use Rattle.std.proofs.Common.{ap, rules, sym, ◌∙◌}
use Rattle.std.specs.Prelude.{false, true, ℕ, ◌≡◌}

pub returns-then-is_explicit : goal.returns-then-is_explicit
returns-then-is_explicit c =
    let s = c.args.core.now in
    let n = thread_of s c.args.thread in
    let explicit : is_explicit n s.core ≡ true = search rules in
    ((c.no_spot.ensures n).0, (c.no_spot.ensures n).1 ∙ explicit_none n s.core explicit)

pub returns-then-matches : goal.returns-then-matches
returns-then-matches c =
    let s = c.args.core.now in
    let n = thread_of s c.args.thread in
    let explicit : is_explicit n s.core ≡ false = search rules in
    let direct : is_direct (goal_of (task_of n s.core) s.core) ≡ true = search rules in
    ((c.no_spot-then-matches.ensures n).0, (c.no_spot-then-matches.ensures n).1 ∙ direct_none n s.core explicit direct)

pub returns-in-Sync : goal.returns-in-Sync
returns-in-Sync c =
    let s = c.args.core.now in
    let n = thread_of s c.args.thread in
    let explicit : is_explicit n s.core ≡ false = search rules in
    let direct : is_direct (goal_of (task_of n s.core) s.core) ≡ false = search rules in
    let kind : kind_of (task_of n s.core) s.core ≡ kinds.Sync = search rules in
    ((c.tells.ensures n).0, (c.tells.ensures n).1 ∙ (ap (λ (k : ℕ). tells k s.core) c.task_of-call.ensures.is ∙ (sym (ap (kind_exit_offer n s.core) kind) ∙ exit_by_kind n s.core explicit direct)))

pub returns-in-Stackful : goal.returns-in-Stackful
returns-in-Stackful c =
    let s = c.args.core.now in
    let n = thread_of s c.args.thread in
    let explicit : is_explicit n s.core ≡ false = search rules in
    let direct : is_direct (goal_of (task_of n s.core) s.core) ≡ false = search rules in
    let kind : kind_of (task_of n s.core) s.core ≡ kinds.Stackful = search rules in
    ((c.no_spot-in-Stackful.ensures n).0, (c.no_spot-in-Stackful.ensures n).1 ∙ (sym (ap (kind_exit_offer n s.core) kind) ∙ exit_by_kind n s.core explicit direct))
