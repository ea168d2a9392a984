use Rattle.choice_offers.proofs.WantedLemmas.{permuted_listed, threads_found}
use Rattle.choice_offers.proofs.offered.Offered.wanted.Goals as goal
use Rattle.choice_offers.specs.Listings.{AreNamed, AreNamedIn, handles_in, id_in, numbers_of}
use Rattle.choice_offers.specs.declared.held.NamedThread.{NamedThread}
use Rattle.choice_offers.specs.declared.offered.NamedMember.{NamedMember}
use Rattle.core_primitives.specs.StateView.{thread_of}
use Rattle.laws_choices.specs.Offer.{is_one_of}
use Rattle.machine_data.specs.Read.{instance_of}
use Rattle.std.proofs.Common.{ap, subst, sym, ◌∙◌}
use Rattle.std.specs.List.{filter_map}
use Rattle.std.specs.Prelude.{List, map, true, ℕ, ◌≡◌}
use Rattle.task_table.specs.declared.id.TableId.{TableId}
use Rattle.task_wait.specs.declared.keys.ThreadKey.{ThreadKey}

pub wanted_waiter-waiter-requires : goal.wanted_waiter-waiter-requires
wanted_waiter-waiter-requires c =
    subst (λ (l : List NamedThread). is_one_of (numbers_of l) c.args.choice.now.waiter ≡ true) (sym c.as_slice.ensures.value) c.requires.waiter

pub wanted_member-member-requires : goal.wanted_member-member-requires
wanted_member-member-requires c =
    subst (λ (l : List NamedMember). is_one_of (handles_in l) c.args.choice.now.member ≡ true) (sym c.as_slice-2.ensures.value) c.requires.member

pub returns : goal.returns
returns c = λ s n named. record {
  waiter = c.wanted_waiter-waiter.ensures s (subst (λ (l : List NamedThread). AreNamed s l) (sym c.as_slice.ensures.value) named.waiters);
  member = c.wanted_member-member.ensures s (instance_of n s.core) (subst (λ (l : List NamedMember). AreNamedIn s (instance_of n s.core) l) (sym c.as_slice-2.ensures.value) named.members);
  held =
      ap (λ (ids : List (TableId ThreadKey)). map (λ id. thread_of s id) ids) (c.in_ok-held.ensures
      ∙ (ap (λ (l : List NamedThread). filter_map (id_in l) c.as_slice-4.result.now) c.as_slice-3.ensures.value ∙ ap (λ (ns : List ℕ). filter_map (id_in c.args.self.now.held.items) ns) c.as_slice-4.ensures))
      ∙ threads_found s c.args.self.now.held.items c.args.choice.now.release named.held (permuted_listed c.args.self.now.held.items c.args.choice.now.release c.requires.release);
}
