-- What a contract sees of a table of handles, and how it changes.
use Rattle.std.specs.Prelude.{ℕ, ◌+◌, List, [], ◌∷◌, drop, Option, refl, length, ◌≡◌}
use Rattle.std.specs.Coded.{Coded, code_by, coded×, coded_ℕ, coded_list}
use Rattle.std.specs.Ordering.{nat_cmp}
use Rattle.std.specs.FinMap as map

-- what each live handle represents, the freed handles with the last freed first, and how many handles were ever made
pub record Handles (X : Type 0) : Type 0 where
  pub live : map.FinMap nat_cmp X
  pub freed : List ℕ
  pub made : ℕ

abbrev pub handles_code : {X : Type 0} → Coded X → Coded (Handles X)
handles_code {X} code =
    code_by
    (map.FinMap nat_cmp X × (List ℕ × ℕ))
    (coded× (map.code coded_ℕ code) (coded× (coded_list coded_ℕ) coded_ℕ))
    (λ t. (t.live, (t.freed, t.made)))
    (λ p. record { live = p.0; freed = p.1.0; made = p.1.1 })
    (λ _. refl)

-- the table in which no handle was made
abbrev pub no_handles : {X : Type 0} → Handles X
no_handles = record { live = map.empty; freed = []; made = 0 }

-- the handle freed last, else the one after all that were made
abbrev pub next_of : List ℕ → ℕ → ℕ
next_of [] made = made + 1
next_of (handle ∷ _) made = handle

-- one more was made only where no handle was free
abbrev pub made_of : List ℕ → ℕ → ℕ
made_of [] made = made + 1
made_of (_ ∷ _) made = made

module _ {X : Type 0} where
  -- what a handle refers to, if it is live
  abbrev pub held_by : Handles X → ℕ → Option X
  held_by t handle = map.get t.live handle

  -- how many handles are live
  abbrev pub live_count : Handles X → ℕ
  live_count t = map.len t.live

  -- each handle that was made is live or freed
  abbrev pub IsWhole : Handles X → Type 0
  IsWhole t = live_count t + length t.freed ≡ t.made

  -- the handle that the next insert gives
  abbrev pub next_handle : Handles X → ℕ
  next_handle t = next_of t.freed t.made

  -- the table after an insert
  abbrev pub with_held : X → Handles X → Handles X
  with_held x t =
      record { live = map.insert t.live (next_handle t) x; freed = drop 1 t.freed; made = made_of t.freed t.made }

  -- the table after the removal of a live handle
  abbrev pub without : ℕ → Handles X → Handles X
  without handle t = record t { live = map.remove t.live handle; freed = handle ∷ t.freed }
