use Rattle.choice_offers.proofs.WantedLemmas.{thread_found}
use Rattle.choice_offers.proofs.offered.wanted_waiter.Goals as goal
use Rattle.choice_offers.specs.Listings.{numbers_of}
use Rattle.core_primitives.specs.StateView.{thread_of}
use Rattle.laws_choices.specs.Offer.{is_one_of}
use Rattle.std.proofs.Common.{ap, subst, sym, ◌∙◌}
use Rattle.std.specs.Prelude.{Option, option_map, true, ℕ, ◌≡◌}
use Rattle.task_table.specs.declared.id.TableId.{TableId}
use Rattle.task_wait.specs.declared.keys.ThreadKey.{ThreadKey}

pub returns-in-Some : goal.returns-in-Some
returns-in-Some c = λ s named.
    ap (λ (o : Option (TableId ThreadKey)). option_map (λ id. thread_of s id) o) c.find_thread.ensures
    ∙ (thread_found s c.args.list.now c.in-Some.number named (subst (λ (o : Option ℕ). is_one_of (numbers_of c.args.list.now) o ≡ true) c.in-Some.is c.requires)
    ∙ sym c.in-Some.is)
