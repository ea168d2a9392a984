-- The chain of freed slots, and what an insert and a removal make of it.
use Rattle.std.proofs.Common.{◌≡◌, ◌≢◌, ℕ, zero, suc, ◌+◌, ◌-◌, ◌<◌, ◌≤◌, List, [], ◌∷◌, ◌++◌, length, set, refl, sym, ap, subst, ◌∙◌, arith, length-append, length-set, add-one, sub-one}
use Rattle.std.specs.Prelude.{Option, Some, None}
use Rattle.std.specs.Option.{option_and_then}
use Rattle.std.specs.FinMap as map
use Rattle.task_handles.specs.Handles.{next_handle, live_count, IsWhole, held_by, with_held, without}
use Rattle.task_handles.specs.declared.TheConstants.{MAX_HANDLES}
use Rattle.task_handles.specs.declared.slots.HandleSlot.{HandleSlot}
use Rattle.task_handles.specs.declared.slots.HandleSlot.TheVariants.{Live, Freed}
use Rattle.task_handles.specs.Slots.{value_of, link_of, link, slot_at, live_in, freed_from, IsChain, AreSoundHandles, shown}
use Rattle.task_handles.proofs.HandleLaws.{live_count-with_held, live_count-without, live_count_positive}
use Rattle.std.proofs.lemmas.Option.{slice_get_past}
use Rattle.task_handles.proofs.SlotLemmas.{slot_at-set_same, slot_at-set_other, slot_at-push_same, slot_at-push_other, slot_at_within, get-live_in, live_in-insert, live_in-remove}

module _ {X : Type 0} where
  -- a handle is at most one step away from the chain's end
  chain_length : (slots : List (HandleSlot X)) (a b h : ℕ) → IsChain slots a h → IsChain slots b h → a ≡ b
  chain_length slots zero zero h c d = refl
  chain_length slots zero (suc b) h c d = let e : slot_at slots h ≡ None = ap (slot_at slots) c in absurd (cc (e, d.0))
  chain_length slots (suc a) zero h c d = let e : slot_at slots h ≡ None = ap (slot_at slots) d in absurd (cc (e, c.0))
  chain_length slots (suc a) (suc b) h c d = ap suc (chain_length slots a b (link slots h) c.1 d.1)

  -- a change at a handle that is in no part of the chain leaves the chain
  kept : (slots slots' : List (HandleSlot X)) (h count next : ℕ) → ((q : ℕ) → q ≢ h → slot_at slots' q ≡ slot_at slots q) → ((k q : ℕ) → k ≤ count → IsChain slots k q → q ≢ h)
      → IsChain slots count next → IsChain slots' count next × (freed_from slots' count next ≡ freed_from slots count next)
  kept slots slots' h zero next others far chain = (chain, refl)
  kept slots slots' h (suc count) next others far chain =
      let same = others next (far (suc count) next (omega arith) chain) in
      let rest = kept slots slots' h count (link slots next) others (λ k q le c. far k q (omega arith) c) chain.1 in
      let P : ℕ → Type 0 = λ l. IsChain slots' count l in
      let after : link slots next ≡ link slots' next = ap link_of (sym same) in (
        (same ∙ chain.0 ∙ ap (λ l. Some (Freed l)) after, subst P after rest.0),
        ap (λ l. next ∷ freed_from slots' count l) (sym after) ∙ ap (λ l. next ∷ l) rest.1,
      )

  length-freed_from : (slots : List (HandleSlot X)) (count l : ℕ) → length (freed_from slots count l) ≡ count
  length-freed_from slots zero l = refl
  length-freed_from slots (suc count) l = ap suc (length-freed_from slots count (link slots l))

  pub shown_whole : (slots : List (HandleSlot X)) (f l : ℕ) → AreSoundHandles slots f l → IsWhole (shown slots f l)
  shown_whole slots f l sound = omega (arith, sound.counted, length-freed_from slots f l)

  -- the next handle isn't live
  pub next_free : (slots : List (HandleSlot X)) (f l : ℕ) → AreSoundHandles slots f l → held_by (shown slots f l) (next_handle (shown slots f l)) ≡ None
  next_free slots zero l sound =
      get-live_in slots (length slots + 1)
      ∙ ap (option_and_then value_of) (ap (slot_at slots) (add-one (length slots)) ∙ slice_get_past slots (length slots) (omega arith))
  next_free slots (suc n) l sound = get-live_in slots l ∙ ap (option_and_then value_of) sound.chained.0

  pub shown-push : (slots : List (HandleSlot X)) (l : ℕ) (x : X) → shown (slots ++ Live x ∷ []) 0 l ≡ with_held x (shown slots 0 l)
  shown-push slots l x =
      let live : live_in (slots ++ Live x ∷ []) ≡ map.insert (live_in slots) (length slots + 1) x =
      live_in-insert slots (slots ++ Live x ∷ []) (length slots + 1) x (slot_at-push_same slots (Live x)) (λ q ne. slot_at-push_other slots q (Live x) ne) in
      let made : length (slots ++ Live x ∷ []) ≡ length slots + 1 = omega (arith, length-append slots (Live x ∷ [])) in
      λ i. record { live = live i; freed = []; made = made i }

  pub sound-push : (slots : List (HandleSlot X)) (l : ℕ) (x : X) → AreSoundHandles slots 0 l → length slots < MAX_HANDLES → AreSoundHandles (slots ++ Live x ∷ []) 0 l
  sound-push slots l x sound room =
      let more : length (slots ++ Live x ∷ []) ≡ length slots + 1 = omega (arith, length-append slots (Live x ∷ [])) in
      let count : live_count (shown (slots ++ Live x ∷ []) 0 l) ≡ live_count (shown slots 0 l) + 1 =
      ap live_count (shown-push slots l x) ∙ live_count-with_held x (shown slots 0 l) (next_free slots 0 l sound) in
      record { chained = sound.chained; counted = omega (arith, sound.counted, more, count); small = omega (arith, more, room) }

  taken_chain : (slots : List (HandleSlot X)) (n h : ℕ) (x : X) → AreSoundHandles slots (suc n) h
      → IsChain (set slots (h - 1) (Live x)) n (link slots h) × (freed_from (set slots (h - 1) (Live x)) n (link slots h) ≡ freed_from slots n (link slots h))
  taken_chain slots n h x sound =
      let within = slot_at_within slots h _ sound.chained.0 in
      kept slots (set slots (h - 1) (Live x)) h n (link slots h)
      (λ q ne. slot_at-set_other slots h q (Live x) within.0 ne)
      (λ k q le c e. let same = chain_length slots (suc n) k h sound.chained (let P : ℕ → Type 0 = IsChain slots k in subst P e c) in absurd (omega arith))
      sound.chained.1

  shown_taken : (slots : List (HandleSlot X)) (n h : ℕ) (x : X) → AreSoundHandles slots (suc n) h → shown (set slots (h - 1) (Live x)) n (link slots h) ≡ with_held x (shown slots (suc n) h)
  shown_taken slots n h x sound =
      let within = slot_at_within slots h _ sound.chained.0 in
      let live : live_in (set slots (h - 1) (Live x)) ≡ map.insert (live_in slots) h x =
      live_in-insert slots (set slots (h - 1) (Live x)) h x (slot_at-set_same slots h (Live x) within.0 within.1) (λ q ne. slot_at-set_other slots h q (Live x) within.0 ne) in
      let freed = (taken_chain slots n h x sound).1 in
      let made : length (set slots (h - 1) (Live x)) ≡ length slots = length-set slots (h - 1) (Live x) in
      λ i. record { live = live i; freed = freed i; made = made i }

  pub shown-take : (slots : List (HandleSlot X)) (f h : ℕ) (x : X) → 0 < f → AreSoundHandles slots f h → shown (set slots (h - 1) (Live x)) (f - 1) (link slots h) ≡ with_held x (shown slots f h)
  shown-take slots zero h x some sound = absurd (omega arith)
  shown-take slots (suc n) h x some sound = rw (sub-one (suc n)) (shown_taken slots n h x sound)

  sound_taken : (slots : List (HandleSlot X)) (n h : ℕ) (x : X) → AreSoundHandles slots (suc n) h → AreSoundHandles (set slots (h - 1) (Live x)) n (link slots h)
  sound_taken slots n h x sound =
      let made : length (set slots (h - 1) (Live x)) ≡ length slots = length-set slots (h - 1) (Live x) in
      let count : live_count (shown (set slots (h - 1) (Live x)) n (link slots h)) ≡ live_count (shown slots (suc n) h) + 1 =
      ap live_count (shown_taken slots n h x sound) ∙ live_count-with_held x (shown slots (suc n) h) (next_free slots (suc n) h sound) in
      record { chained = (taken_chain slots n h x sound).0; counted = omega (arith, sound.counted, made, count); small = omega (arith, made, sound.small) }

  pub sound-take : (slots : List (HandleSlot X)) (f h : ℕ) (x : X) → 0 < f → AreSoundHandles slots f h → AreSoundHandles (set slots (h - 1) (Live x)) (f - 1) (link slots h)
  sound-take slots zero h x some sound = absurd (omega arith)
  sound-take slots (suc n) h x some sound = rw (sub-one (suc n)) (sound_taken slots n h x sound)

  live_slot : (o : Option (HandleSlot X)) (x : X) → option_and_then value_of o ≡ Some x → o ≡ Some (Live x)
  live_slot None x e = absurd (cc)
  live_slot (Some (Live y)) x e = cc
  live_slot (Some (Freed n)) x e = absurd (cc)

  far : (slots : List (HandleSlot X)) (h : ℕ) (x : X) → slot_at slots h ≡ Some (Live x) → 0 < h → (n k q : ℕ) → k ≤ n → IsChain slots k q → q ≢ h
  far slots h x here some n zero q le chain e = absurd (omega (arith, chain, e))
  far slots h x here some n (suc k) q le chain e = let both : slot_at slots q ≡ Some (Live x) = ap (slot_at slots) e ∙ here in absurd (cc (both, chain.0))

  freed_chain : (slots : List (HandleSlot X)) (n l h : ℕ) (x : X) → AreSoundHandles slots n l → slot_at slots h ≡ Some (Live x)
      → IsChain (set slots (h - 1) (Freed l)) (suc n) h × (freed_from (set slots (h - 1) (Freed l)) (suc n) h ≡ h ∷ freed_from slots n l)
  freed_chain slots n l h x sound here =
      let within = slot_at_within slots h (Live x) here in
      let after = set slots (h - 1) (Freed l) in
      let now : slot_at after h ≡ Some (Freed l) = slot_at-set_same slots h (Freed l) within.0 within.1 in
      let linked : l ≡ link after h = sym (ap link_of now) in
      let rest = kept slots after h n l (λ q ne. slot_at-set_other slots h q (Freed l) within.0 ne) (far slots h x here within.0 n) sound.chained in
      let P : ℕ → Type 0 = λ m. IsChain after n m in
      ((now ∙ ap (λ m. Some (Freed m)) linked, subst P linked rest.0), ap (λ m. h ∷ freed_from after n m) (sym linked) ∙ ap (λ m. h ∷ m) rest.1)

  shown_freed : (slots : List (HandleSlot X)) (n l h : ℕ) (x : X) → AreSoundHandles slots n l → slot_at slots h ≡ Some (Live x) → shown (set slots (h - 1) (Freed l)) (suc n) h ≡ without h (shown slots n l)
  shown_freed slots n l h x sound here =
      let within = slot_at_within slots h (Live x) here in
      let live : live_in (set slots (h - 1) (Freed l)) ≡ map.remove (live_in slots) h =
      live_in-remove slots (set slots (h - 1) (Freed l)) h l (slot_at-set_same slots h (Freed l) within.0 within.1) (λ q ne. slot_at-set_other slots h q (Freed l) within.0 ne) in
      let freed = (freed_chain slots n l h x sound here).1 in
      let made : length (set slots (h - 1) (Freed l)) ≡ length slots = length-set slots (h - 1) (Freed l) in
      λ i. record { live = live i; freed = freed i; made = made i }

  pub held_slot : (slots : List (HandleSlot X)) (n l h : ℕ) (x : X) → held_by (shown slots n l) h ≡ Some x → slot_at slots h ≡ Some (Live x)
  held_slot slots n l h x held = live_slot (slot_at slots h) x (sym (get-live_in slots h) ∙ held)

  pub shown-free : (slots : List (HandleSlot X)) (n l h : ℕ) (x : X) → AreSoundHandles slots n l → held_by (shown slots n l) h ≡ Some x → shown (set slots (h - 1) (Freed l)) (n + 1) h ≡ without h (shown slots n l)
  shown-free slots n l h x sound held = rw (add-one n) (shown_freed slots n l h x sound (held_slot slots n l h x held))

  sound_freed : (slots : List (HandleSlot X)) (n l h : ℕ) (x : X) → AreSoundHandles slots n l → held_by (shown slots n l) h ≡ Some x → AreSoundHandles (set slots (h - 1) (Freed l)) (suc n) h
  sound_freed slots n l h x sound held =
      let here = held_slot slots n l h x held in
      let made : length (set slots (h - 1) (Freed l)) ≡ length slots = length-set slots (h - 1) (Freed l) in
      let count : live_count (shown (set slots (h - 1) (Freed l)) (suc n) h) ≡ live_count (shown slots n l) - 1 =
      ap live_count (shown_freed slots n l h x sound here) ∙ live_count-without h (shown slots n l) x held in
      let some = live_count_positive (shown slots n l) h x held in
      record { chained = (freed_chain slots n l h x sound here).0; counted = omega (arith, sound.counted, made, count, some); small = omega (arith, made, sound.small) }

  pub sound-free : (slots : List (HandleSlot X)) (n l h : ℕ) (x : X) → AreSoundHandles slots n l → held_by (shown slots n l) h ≡ Some x → AreSoundHandles (set slots (h - 1) (Freed l)) (n + 1) h
  sound-free slots n l h x sound held = rw (add-one n) (sound_freed slots n l h x sound held)
