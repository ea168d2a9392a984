-- The first states of a store: its limits, and its instances one by one.
use Rattle.core_picks.specs.Rules.{with_version}
use Rattle.machine_data.specs.declared.scenario.Version.TheVariants as version
use Rattle.machine_data.specs.declared.scenario.Version.{Version}
use Rattle.std.proofs.Common.{arith, refl, suc, zero, ℕ, ◌≡◌, ◌≤◌, ◌∙◌}
use Rattle.std.specs.Prelude.{None}
use Rattle.core_makes.specs.Instances.{with_instance}
use Rattle.core_counts.specs.Limits.{with_capacity, with_handle_limit}
use Rattle.machine_data.proofs.MapLemmas.{get-insert_other}
use Rattle.machine_data.proofs.SizeLemmas.{size-empty, size-insert_new}
use Rattle.machine_data.specs.Core.{filled, fresh, untouched}
use Rattle.machine_data.specs.Maps.{get, get-empty, size}
use Rattle.machine_data.specs.declared.records.Call.{Call}

module _ {X : Type 0} (x : X) where
  past_filled : (n q : ℕ) → n ≤ q → get (filled x n) q ≡ None
  past_filled zero q past = get-empty q
  past_filled (suc n) q past = get-insert_other (filled x n) n x q (λ same. omega arith) ∙ past_filled n q (omega arith)

  size_filled : (n : ℕ) → size (filled x n) ≡ n
  size_filled zero = size-empty X
  size_filled (suc n) =
      let one = size-insert_new (filled x n) n x (past_filled n n (omega arith)) in
      let rest = size_filled n in
      omega arith

-- how many instances a first state has
pub size_fresh : (v : Version) (n handles capacity : ℕ) → size (fresh v n handles capacity).instances ≡ n
unfolding fresh
size_fresh v n handles capacity = size_filled untouched n

-- and that it has no call
pub no_calls : (v : Version) (n handles capacity : ℕ) → size (fresh v n handles capacity).calls ≡ 0
unfolding fresh
no_calls v n handles capacity = size-empty Call

-- one instance more is a first state, too
pub fresh_more : (v : Version) (n handles capacity : ℕ) → with_instance (fresh v n handles capacity) ≡ fresh v (suc n) handles capacity
unfolding fresh with_instance
fresh_more v n handles capacity = rw (size_filled untouched n) refl

-- the limits of a new store are set, and its rules stay
pub limits_set : (handles capacity : ℕ) → with_handle_limit handles (with_capacity capacity (fresh version.One 0 100000 1000000)) ≡ fresh version.One 0 handles capacity
unfolding fresh
limits_set handles capacity = refl

-- the rules of a store in which nothing goes on are set
pub rules_set : (v : Version) (n handles capacity : ℕ) → with_version v (fresh version.One n handles capacity) ≡ fresh v n handles capacity
unfolding fresh
rules_set v n handles capacity = refl
