-- What a server keeps of its requests.
use Rattle.serve_requests.specs.HowMany.{how_many}
use Rattle.serve_requests.specs.Pairs.{ArePairs}
use Rattle.serve_requests.specs.Serving.{is_replied}
use Rattle.serve_requests.specs.declared.request.Request.{Request}
use Rattle.serve_requests.specs.declared.request.Stage.{Stage}
use Rattle.serve_requests.specs.declared.request.Stage.TheVariants.{Declined, Waits}
use Rattle.std.specs.Prelude.{Bool, List, Option, Some, false, length, slice_get, suc, true, ℕ, ◌≡◌, ◌≤◌}
use Rattle.machine_data.specs.declared.trap.Trap.{Trap}
use Rattle.machine_rules.specs.MainOps.{is_refusal}

-- The calls in its scope are those of the first requests, and the counts are those of the stages. Where a refusal is due, it is that of the
-- last request that was started.
pub record KeepsReplies {K : Type 0} (thread : K → Option ℕ) (IsCall : K → Type 0) (rs : List Request) (ks : List K) (es : List Stage) (started replied : ℕ)
    (due declined : Bool) : Type 0 where
  pub few : length rs ≤ 10000
  pub size : length es ≡ length rs
  pub calls : (i : ℕ) (k : K) → slice_get ks i ≡ Some k → IsCall k
  pub pairs : ArePairs thread ks es
  pub waiting : (i : ℕ) (e : Stage) → slice_get es i ≡ Some e → started ≤ i → e ≡ Waits
  pub begun : (i : ℕ) → slice_get es i ≡ Some Waits → started ≤ i
  pub within : started ≤ length rs
  pub behind : length ks ≤ started
  pub next : declined ≡ false → length ks ≡ started
  pub due_is : due ≡ true → (p : ℕ) × (why : Trap) × (started ≡ suc p) × (slice_get es p ≡ Some (Declined why)) × (is_refusal why ≡ true) × (declined ≡ true)
  pub none_due : due ≡ false → (i : ℕ) (why : Trap) → slice_get es i ≡ Some (Declined why) → ⊥
  pub last_due : (i : ℕ) (why : Trap) → slice_get es i ≡ Some (Declined why) → started ≡ suc i
  pub counts : replied ≡ how_many is_replied es
