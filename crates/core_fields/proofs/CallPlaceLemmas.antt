-- The call that is at the place that a thread keeps is the thread's.
use Rattle.core_records.proofs.Core.{ap, bare, bare_call, Call, call_group, call_key, get, HasNumber, IsCallNamed, IsSome, IsSoundCore, item_at, item_of, None, Ok, on_item, Option, option_and_then, option_map, option_map_or, parts_of, place_at, place_at-mapped, Placed, placed_as, records, refl, seen, Some, subst, sym, ℕ, ◌<◌, ◌∙◌, ◌≡◌}
use Rattle.machine_data.specs.Read.{callee_of, no_callee}
use Rattle.core_records.proofs.KindLemmas.{item_number, item_read}
use Rattle.core_records.proofs.StandLemmas.{item_by, item_here, number_is, same_here, stands_here}
use Rattle.core_records.specs.declared.{call_records.GuestTask.GuestTask, parts.CoreParts.CoreParts, single.Single.Single}

module _ (a : CoreParts) (place n : ℕ) (has : HasNumber call_key a.calls place n) (some : 0 < n) where
  pub placed : (q : Placed (Single GuestTask)) × ((place_at a.calls place ≡ Some q) × (q.entry.item.number ≡ n))
  placed = stands_here (λ (g : GuestTask). g.number) (λ (g : GuestTask). g.call) a.calls place n has some

  pub call_there : IsSome (option_and_then (λ (p : Placed (Single GuestTask)). item_of p.entry) (place_at a.calls place))
  call_there = item_here (λ (g : GuestTask). g.number) (λ (g : GuestTask). g.call) a.calls place n has some

  pub call_stands : None ≡ option_and_then (λ (p : Placed (Single GuestTask)). item_of p.entry) (place_at a.calls place) → ⊥
  call_stands none = absurd (let there = subst (λ (o : Option GuestTask). IsSome o) (sym none) call_there in cc)

  module _ (sound : IsSoundCore a) (r : GuestTask) (is : Some r ≡ option_and_then (λ (p : Placed (Single GuestTask)). item_of p.entry) (place_at a.calls place)) where
    pub call_item : Ok r ≡ item_at item_of a.calls place placed.0.serial
    call_item = item_by (λ (g : GuestTask). g.number) (λ (g : GuestTask). g.call) a.calls place n has some r is place placed.0.serial placed.0.serial refl refl (sym (ap (option_map (λ (p : Placed (Single GuestTask)). p.serial)) placed.1.0))

    call_is : Some r.call ≡ get (seen a).core.calls n
    unfolding seen IsSoundCore
    call_is =
        item_read (λ (g : GuestTask). g.number) (λ (g : GuestTask). g.call) a.calls a.made.threads sound.tables.calls place placed.0.serial r call_item
        ∙ ap (get (records call_key a.calls.places)) (item_number (λ (g : GuestTask). g.number) (λ (g : GuestTask). g.call) a.calls place placed.0.serial r call_item ∙ number_is (λ (g : GuestTask). g.number) (λ (g : GuestTask). g.call) a.calls place n has some r is)

    pub group_at : r.call.group ≡ call_group n (seen a).core
    group_at = ap (λ (o : Option Call). option_map_or (λ (k : Call). k.group) o 0) call_is

    pub callee_at : r.call.callee ≡ callee_of n (seen a).core
    callee_at = ap (λ (o : Option Call). option_map_or (λ (k : Call). k.callee) o no_callee) call_is

    -- it names its group
    pub call_named : IsCallNamed (bare (parts_of a)) (bare_call r)
    unfolding IsSoundCore placed
    call_named =
        subst (λ (h : GuestTask). IsCallNamed (bare (parts_of a)) (bare_call h)) (sym (same_here (λ (g : GuestTask). g.number) (λ (g : GuestTask). g.call) a.calls place n has some r is))
        (sound.whole.named.calls place _ (place_at-mapped (on_item bare_call) a.calls place ∙ ap (placed_as (on_item bare_call)) placed.1.0))
