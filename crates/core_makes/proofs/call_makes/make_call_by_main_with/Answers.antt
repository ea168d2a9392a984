use Rattle.core_records.proofs.Core.{arith, bare, get, HasRoom, IsSome, parts_of, refl, seen, subst, sym, StateView, fits, true, ◌+◌, ◌<◌, ◌^◌, ◌∙◌, ◌≡◌}
use Rattle.core_records.specs.declared.{parts.CoreParts.CoreParts}
use Rattle.core_makes.proofs.MainLemmas.{fits_fewer}
use Rattle.core_makes.proofs.call_makes.make_call_by_main_with.Goals as goal
use Rattle.core_makes.specs.LooseCalls.{AreCallAndThreadLoose}
use Rattle.core_records.specs.Names.{keeps_waits}

pub reserve_end-requires-clause-room : goal.reserve_end-requires-clause-room
reserve_end-requires-clause-room c = subst (λ (v : StateView). fits 1 v.core ≡ true) (sym c.in-Ok.ensures.seen) (fits_fewer 1 4 (seen c.args.parts.now).core (omega arith) c.requires.room)

pub add_main_call-requires-clause-add : goal.add_main_call-requires-clause-add
add_main_call-requires-clause-add c =
    let same : seen c.reserve_end.new.parts ≡ seen c.args.parts.now = c.reserve_end.ensures.seen ∙ c.in-Ok.ensures.seen in
    record {
      words = c.requires.words;
      few = subst (λ (v : StateView). v.core.made.threads + 1 < 2 ^ 64) (sym same) c.requires.few;
      groups = subst (λ (v : StateView). v.core.made.groups + 1 < 2 ^ 64) (sym same) c.requires.groups;
      room = subst (λ (v : StateView). fits 4 v.core ≡ true) (sym same) c.requires.room;
      end_room = c.in_ok-reserve_end-in-Ok.ensures.room;
      caller = refl;
      there = subst (λ (v : StateView). IsSome (get v.core.instances c.args.callee.instance)) (sym same) c.requires.there;
      result = λ is. subst (λ (y : CoreParts). HasRoom (y.made.threads + 1) y.results) (sym c.reserve_end.ensures.only) (c.in-Ok.ensures.result is);
      loose = subst (λ (y : CoreParts). AreCallAndThreadLoose (bare (parts_of y)) (keeps_waits y.version c.args.kind) c.in-Ok.nodes.0 c.in-Ok.nodes.1) (sym c.reserve_end.ensures.only) c.in-Ok.ensures.loose;
    }
