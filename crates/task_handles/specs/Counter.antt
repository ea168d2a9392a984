-- What a contract sees of a counter of handles.
use Rattle.std.specs.Prelude.{◌≡◌, ℕ, ◌+◌, ◌-◌, List, sum}

-- how many handles may be live, and how many are
pub record Counter : Type 0 where
  pub limit : ℕ
  pub live : ℕ

-- the counter after an insert
abbrev pub raised : Counter → Counter
raised c = record c { live = c.live + 1 }

-- the counter after the removal of a live handle
abbrev pub lowered : Counter → Counter
lowered c = record c { live = c.live - 1 }

-- the live count is the sum of the live handles of these tables, each of which is here by their number, and of the reservations that
-- stand
abbrev pub IsSumOf : Counter → List ℕ → ℕ → Type 0
IsSumOf c tables reserved = c.live ≡ sum tables + reserved

-- one reservation more stands
pub record Reserves (before after : Counter) : Type 0 where
  pub counter : after ≡ raised before
  pub sum : (tables : List ℕ) (reserved : ℕ) → IsSumOf before tables reserved → IsSumOf after tables (reserved + 1)

-- one reservation less stands
pub record Releases (before after : Counter) : Type 0 where
  pub counter : after ≡ lowered before
  pub sum : (tables : List ℕ) (reserved : ℕ) → IsSumOf before tables (reserved + 1) → IsSumOf after tables reserved
