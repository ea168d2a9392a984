-- The labels that heads and numbers represent: each head takes its numbers from the front of those that are left.
use Rattle.std.specs.Prelude.{ℕ, List, [], ◌∷◌, ◌*◌, ◌+◌, ◌≡◌, ◌≤◌, drop, length, take}
use Rattle.machine_data.specs.declared.label.Label.{Label}
use Rattle.run_trace.specs.declared.kinds.Head.{Head}
use Rattle.run_trace.specs.Opened.{all, opened}

-- the label of a head whose numbers in the list are these
abbrev pub label_of : Head → List ℕ → Label
label_of h xs = opened h.kind h.small xs (all h.small xs)

unfoldable pub labels_of : List Head → List ℕ → List Label
labels_of [] ns = []
labels_of (h ∷ hs) ns = label_of h (take h.count ns) ∷ labels_of hs (drop h.count ns)

-- how many numbers the heads take
unfoldable pub count_of : List Head → ℕ
count_of [] = 0
count_of (h ∷ hs) = h.count + count_of hs

-- The numbers are as many as the heads take, and there is room for so many labels more: for a head each, and for three numbers.
pub record IsPacked (hs : List Head) (ns : List ℕ) (spare heads most_heads numbers most_numbers : ℕ) : Type 0 where
  pub whole : count_of hs ≡ length ns
  pub heads_left : spare + heads ≤ most_heads
  pub numbers_left : 3 * spare + numbers ≤ most_numbers
