-- The calls in a scope beside the stages of their requests.
use Rattle.serve_requests.specs.declared.request.Stage.{Stage}
use Rattle.serve_requests.specs.declared.request.Stage.TheVariants.{Answered, Open}
use Rattle.std.specs.Prelude.{Bool, List, None, Option, Some, [], false, slice_get, true, ℕ, ◌∷◌, ◌≡◌}

-- the request has a call
abbrev pub is_begun : Stage → Bool
is_begun (Open n) = true
is_begun (Answered n v) = true
is_begun _ = false

module _ {K : Type 0} (thread : K → Option ℕ) where
  -- a call that is open has the thread of its request; one that has ended has none
  abbrev pub IsPair : K → Stage → Type 0
  IsPair k (Open n) = thread k ≡ Some n
  IsPair k (Answered n v) = thread k ≡ None
  IsPair k _ = ⊥

  -- the calls are those of the first requests, in order, and no other request has one
  abbrev pub ArePairs : List K → List Stage → Type 0
  ArePairs [] es = (i : ℕ) (e : Stage) → slice_get es i ≡ Some e → is_begun e ≡ false
  ArePairs (k ∷ ks) [] = ⊥
  ArePairs (k ∷ ks) (e ∷ es) = IsPair k e × ArePairs ks es
