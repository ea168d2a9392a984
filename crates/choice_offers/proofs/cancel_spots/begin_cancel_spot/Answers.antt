use Rattle.choice_offers.proofs.NamedLemmas.{cancel_named, cancel_unnamed}
use Rattle.choice_offers.proofs.cancel_spots.begin_cancel_spot.Goals as goal
use Rattle.core_primitives.specs.Live.{live_subtask}
use Rattle.core_primitives.specs.Names.{subtask_in}
use Rattle.core_primitives.specs.StateView.{call_of, thread_of, work_of}
use Rattle.core_primitives.specs.declared.names.SubtaskId.{SubtaskId}
use Rattle.laws_choices.specs.Offers.{cancel_found_offer, cancel_offer_by, nothing, unless}
use Rattle.machine_data.specs.Read.{is_joined, join_of, subtask_at}
use Rattle.machine_data.specs.declared.records.Subtask.TheVariants as subtask
use Rattle.machine_data.specs.declared.records.Subtask.{Subtask}
use Rattle.machine_rules.specs.Cancels.{cancel_case}
use Rattle.ops_subtasks.proofs.CancelLemmas.{named_call, there_live}
use Rattle.std.proofs.Common.{ap, refl, sym, ◌∙◌}
use Rattle.std.specs.Prelude.{Bool, None, Option, Some, false, option_map, true, ℕ, ◌≡◌}

pub cancel_call_spot-requires : goal.cancel_call_spot-requires
cancel_call_spot-requires c =
    let s = c.args.core.now in
    there_live (call_of s c.in-Guest.call) s.core c.none_is_zero.ensures.calls (named_call c.instance_of.result c.args.handle (call_of s c.in-Guest.call) (subtask_in s.tags c.in-Some.subtask) s.core c.requires (ap (subtask_in s.tags) c.in-Guest.is) c.in-Some.ensures.is)

pub returns-then-is_joined : goal.returns-then-is_joined
returns-then-is_joined c =
    let s = c.args.core.now in
    let n = thread_of s c.args.thread in
    let q = subtask_in s.tags c.in-Some.subtask in
    let found : Some q ≡ option_map (λ sub. live_subtask sub s.core) (subtask_at _ c.args.handle s.core) = c.in-Some.ensures.is ∙ ap (λ (i : ℕ). option_map (λ sub. live_subtask sub s.core) (subtask_at i c.args.handle s.core)) c.instance_of.ensures in
    ((c.no_spot-then-is_joined.ensures n).0, (c.no_spot-then-is_joined.ensures n).1 ∙ (sym (joined q (sym c.is_joined.ensures ∙ c.if-is_joined.true)) ∙ sym (cancel_named n c.args.handle q s.core c.requires found)))
  where
    joined : (q : Subtask) → is_joined (join_of q c.args.core.now.core) ≡ true → cancel_found_offer c.args.core.now.core q ≡ nothing
    joined (subtask.Guest k) is = ap (λ (b : Bool). unless b (cancel_offer_by k c.args.core.now.core (cancel_case k c.args.core.now.core))) is
    joined (subtask.Host i) is = refl

pub returns-in-Guest : goal.returns-in-Guest
returns-in-Guest c =
    let s = c.args.core.now in
    let n = thread_of s c.args.thread in
    let k = call_of s c.in-Guest.call in
    let q = subtask_in s.tags c.in-Some.subtask in
    let is : q ≡ subtask.Guest k = ap (subtask_in s.tags) c.in-Guest.is in
    let found : Some q ≡ option_map (λ sub. live_subtask sub s.core) (subtask_at _ c.args.handle s.core) = c.in-Some.ensures.is ∙ ap (λ (i : ℕ). option_map (λ sub. live_subtask sub s.core) (subtask_at i c.args.handle s.core)) c.instance_of.ensures in
    let apart : is_joined (join_of (subtask.Guest k) s.core) ≡ false = ap (λ (p : Subtask). is_joined (join_of p s.core)) (sym is) ∙ (sym c.is_joined.ensures ∙ c.if-is_joined.false) in (
      (c.cancel_call_spot.ensures n).0,
      (c.cancel_call_spot.ensures n).1
          ∙ (sym (ap (λ (b : Bool). unless b (cancel_offer_by k s.core (cancel_case k s.core))) apart)
          ∙ (sym (ap (cancel_found_offer s.core) is) ∙ sym (cancel_named n c.args.handle q s.core c.requires found))),
    )

pub returns-in-Host : goal.returns-in-Host
returns-in-Host c =
    let s = c.args.core.now in
    let n = thread_of s c.args.thread in
    let q = subtask_in s.tags c.in-Some.subtask in
    let is : q ≡ subtask.Host (work_of s c.in-Host.field-0) = ap (subtask_in s.tags) c.in-Host.is in
    let found : Some q ≡ option_map (λ sub. live_subtask sub s.core) (subtask_at _ c.args.handle s.core) = c.in-Some.ensures.is ∙ ap (λ (i : ℕ). option_map (λ sub. live_subtask sub s.core) (subtask_at i c.args.handle s.core)) c.instance_of.ensures in
    ((c.no_spot-in-Host.ensures n).0, (c.no_spot-in-Host.ensures n).1 ∙ (sym (ap (cancel_found_offer s.core) is) ∙ sym (cancel_named n c.args.handle q s.core c.requires found)))

pub returns-in_default : goal.returns-in_default
returns-in_default c =
    let s = c.args.core.now in
    let n = thread_of s c.args.thread in
    let found : None ≡ option_map (λ sub. live_subtask sub s.core) (subtask_at _ c.args.handle s.core) =
    ap (λ (o : Option SubtaskId). option_map (subtask_in s.tags) o) (sym c.in_default.is) ∙ (c.subtask_at.ensures.is ∙ ap (λ (i : ℕ). option_map (λ sub. live_subtask sub s.core) (subtask_at i c.args.handle s.core)) c.instance_of.ensures) in
    ((c.no_spot.ensures n).0, (c.no_spot.ensures n).1 ∙ cancel_unnamed n c.args.handle s.core found)
