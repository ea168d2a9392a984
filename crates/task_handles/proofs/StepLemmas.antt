-- The three steps of a table in the words of the code: an append, a freed slot that is filled, and a live slot that is freed.
use Rattle.std.proofs.Common.{subst, ◌≡◌, ◌≢◌, ℕ, zero, suc, ◌+◌, ◌-◌, ◌<◌, ◌≤◌, List, [], ◌∷◌, ◌++◌, length, set, refl, sym, ap, ◌∙◌, arith}
use Rattle.std.specs.Prelude.{Option, Some, None, IsSome}
use Rattle.task_handles.specs.Handles.{Handles, no_handles, live_count, IsWhole, held_by, with_held, without}
use Rattle.task_handles.specs.declared.TheConstants.{MAX_HANDLES}
use Rattle.task_handles.specs.declared.slots.HandleSlot.{HandleSlot}
use Rattle.task_handles.specs.declared.slots.HandleSlot.TheVariants.{Live, Freed}
use Rattle.std.specs.Ordering.{nat_cmp}
use Rattle.std.specs.FinMap as map
use Rattle.std.specs.Option.{option_and_then}
use Rattle.task_handles.proofs.HandleLaws.{live_count_positive}
use Rattle.task_handles.specs.Slots.{value_of, live_in, link, slot_at, value_at, AreSoundHandles, shown}
use Rattle.task_handles.proofs.SlotLemmas.{slot_at_within, get-live_in}
use Rattle.task_handles.proofs.ChainLemmas.{shown_whole, next_free, shown-push, sound-push, shown-take, sound-take, shown-free, sound-free, held_slot}

pub value_in : {X : Type 0} (o : Option X) → IsSome o → (x : X) × (o ≡ Some x)
value_in None h = absurd (cc)
value_in (Some x) h = (x, refl)

module _ {X : Type 0} where
  pub held_by_shown : (slots : List (HandleSlot X)) (f l h : ℕ) (t : Handles X) → shown slots f l ≡ t → held_by t h ≡ value_at slots h
  held_by_shown slots f l h t is = ap (λ t. held_by t h) (sym is) ∙ get-live_in slots h

  pub empty_shown : (slots : List (HandleSlot X)) → slots ≡ [] → shown slots 0 0 ≡ no_handles
  unfolding live_in
  empty_shown slots none = rw none refl

  pub empty_sound : (slots : List (HandleSlot X)) → slots ≡ [] → AreSoundHandles slots 0 0
  empty_sound slots none =
      let count : map.len (live_in slots) ≡ 0 = ap live_count (empty_shown slots none) ∙ map.len-empty nat_cmp X in
      rw none (record { chained = refl; counted = omega (arith, rw none at count); small = omega arith })

  module _ (slots : List (HandleSlot X)) (f l : ℕ) (t : Handles X) (is : shown slots f l ≡ t) (sound : AreSoundHandles slots f l) where
    pub whole : IsWhole t
    whole = let P : Handles X → Type 0 = IsWhole in subst P is (shown_whole slots f l sound)

    chain_of : (f : ℕ) → f ≢ 0 → AreSoundHandles slots f l → slot_at slots l ≡ Some (Freed (link slots l))
    chain_of zero some sound = absurd (some refl)
    chain_of (suc n) some sound = sound.chained.0

    pub append_free : (n : ℕ) → f ≡ 0 → n ≡ length slots + 1 → held_by t n ≡ None
    append_free n none next =
        rw (← is, next) (let empty : AreSoundHandles slots 0 l = rw none at sound in next_free slots 0 l empty)

    pub fill_free : f ≢ 0 → held_by t l ≡ None
    fill_free some = held_by_shown slots f l l t is ∙ ap (option_and_then value_of) (chain_of f some sound)

    pub fill_small : f ≢ 0 → l ≤ MAX_HANDLES
    fill_small some = let within = slot_at_within slots l _ (chain_of f some sound) in omega (arith, sound.small, within)

  module _ (slots slots' : List (HandleSlot X)) (f l : ℕ) (x : X) (t : Handles X) (is : shown slots f l ≡ t) (sound : AreSoundHandles slots f l) where
    pub append_sound : f ≡ 0 → slots' ≡ slots ++ Live x ∷ [] → live_count t < MAX_HANDLES → AreSoundHandles slots' f l
    append_sound none e room =
        let whole : live_count t + f ≡ length slots = rw (← is) sound.counted in
        rw (e, none) (sound-push slots l x (rw none at sound) (omega arith))

    pub append_shown : f ≡ 0 → slots' ≡ slots ++ Live x ∷ [] → shown slots' f l ≡ with_held x t
    append_shown none e = rw (← is, e, none) (shown-push slots l x)

    pub fill_sound : f ≢ 0 → slots' ≡ set slots (l - 1) (Live x) → AreSoundHandles slots' (f - 1) (link slots l)
    fill_sound some e = rw e (sound-take slots f l x (omega arith) sound)

    pub fill_shown : f ≢ 0 → slots' ≡ set slots (l - 1) (Live x) → shown slots' (f - 1) (link slots l) ≡ with_held x t
    fill_shown some e = rw (← is, e) (shown-take slots f l x (omega arith) sound)

  module _ (slots : List (HandleSlot X)) (f l h : ℕ) (t : Handles X) (is : shown slots f l ≡ t) (sound : AreSoundHandles slots f l) (live : IsSome (held_by t h)) where
    held : (x : X) × (held_by t h ≡ Some x)
    held = value_in (held_by t h) live

    held_shown : held_by (shown slots f l) h ≡ Some held.0
    held_shown = ap (λ t. held_by t h) is ∙ held.1

    pub free_place : (0 < h) × (h ≤ length slots)
    free_place = slot_at_within slots h _ (held_slot slots f l h held.0 held_shown)

    pub free_fits : f < MAX_HANDLES
    free_fits = let some = live_count_positive (shown slots f l) h held.0 held_shown in omega (arith, sound.counted, sound.small, some)

    pub free_sound : AreSoundHandles (set slots (h - 1) (Freed l)) (f + 1) h
    free_sound = sound-free slots f l h held.0 sound held_shown

    pub free_shown : shown (set slots (h - 1) (Freed l)) (f + 1) h ≡ without h t
    free_shown = rw (← is) (shown-free slots f l h held.0 sound held_shown)
