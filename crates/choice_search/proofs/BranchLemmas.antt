-- A branch is read out of a list, and its choices with one more.
use Rattle.choice_offers.specs.Choices.{chosen_of}
use Rattle.choice_offers.specs.declared.choice.Choice.{Choice}
use Rattle.choice_search.specs.declared.search.Branch.{Branch}
use Rattle.laws_choices.specs.Offer.{Chosen}
use Rattle.std.proofs.Common.{ap, refl, subst, ◌∙◌}
use Rattle.std.proofs.lemmas.List.{map-append}
use Rattle.std.proofs.lemmas.Option.{slice_get_past, slice_get_read}
use Rattle.std.specs.List.{HoldsAt}
use Rattle.std.specs.Option.{MatchOption}
use Rattle.std.specs.Prelude.{List, None, Option, Some, [], length, map, option_map, slice_get, ℕ, ◌++◌, ◌<◌, ◌∷◌, ◌≡◌, ◌≤◌}

pub branch_there : {X : Type 0} (xs ys : List Branch) (n : ℕ) (f : X → Branch) (o : Option X) (r : X) → xs ≡ ys → MatchOption o (length xs ≤ n) (λ r. (n < length xs) × HoldsAt (λ y. f r ≡ y) xs n) → o ≡ Some r → slice_get ys n ≡ Some (f r)
branch_there xs ys n f None r same at is = absurd (cc)
branch_there xs ys n f (Some q) r same at is =
    subst (λ (bs : List Branch). slice_get bs n ≡ Some (f r)) same (slice_get_read xs (length xs) n (f q) refl at.0 (at.1 (f q)) ∙ ap (λ o. option_map f o) is)

pub branch_none : {X : Type 0} (xs ys : List Branch) (n : ℕ) (f : X → Branch) (o : Option X) → xs ≡ ys → MatchOption o (length xs ≤ n) (λ r. (n < length xs) × HoldsAt (λ y. f r ≡ y) xs n) → o ≡ None → slice_get ys n ≡ None
branch_none xs ys n f None same past is = subst (λ (bs : List Branch). slice_get bs n ≡ None) same (slice_get_past xs n past)
branch_none xs ys n f (Some q) same at is = absurd (cc)

pub choices_one : (list front bs : List Choice) (last : Choice) (d : Chosen) → list ≡ front ++ last ∷ [] → front ≡ bs → chosen_of last ≡ d → map chosen_of list ≡ map chosen_of bs ++ d ∷ []
choices_one list front bs last d one two three =
    ap (λ (cs : List Choice). map chosen_of cs) one
    ∙ (map-append chosen_of front (last ∷ [])
    ∙ (ap (λ (fs : List Choice). map chosen_of fs ++ chosen_of last ∷ []) two ∙ ap (λ (c : Chosen). map chosen_of bs ++ c ∷ []) three))
