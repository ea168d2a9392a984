-- The entries of a cell's log, which is put together by stages.
use Rattle.beside_main.specs.Headline.{HasEntries}
use Rattle.beside_works.proofs.SharedLemmas.{all_met, lists_of}
use Rattle.beside_works.specs.Aborters.{briefs}
use Rattle.beside_works.specs.Shared.{listed}
use Rattle.beside_works.specs.Views.{HasMetEach, met_list, own_list, spawn_view}
use Rattle.beside_works.specs.declared.cells.SharedSpawn.{SharedSpawn}
use Rattle.std.proofs.Common.{ap, arith, length, map, subst, sym}
use Rattle.std.specs.Prelude.{List, [], ℕ, ◌+◌, ◌<◌, ◌∷◌, ◌≡◌}
use Rattle.task_abort.proofs.KnownLemmas.{known}
use Rattle.task_abort.proofs.OrderLemmas.{aborter_entries, run_entries}
use Rattle.task_abort.proofs.RoundLemmas.{last_calls}
use Rattle.task_abort.specs.Staged.{Aborter as Listed, LastRound, Numbered, staged}
use Rattle.task_abort.specs.declared.log.LogEntry.{LogEntry}

pub entries_of : (s : SharedSpawn) (n : ℕ) (log : List (LogEntry ℕ)) → HasMetEach s → LastRound (spawn_view s) n → log ≡ staged (own_list s) (listed (met_list s)) n →
    Numbered 0 (listed (met_list s)) → HasEntries (own_list s) (listed (met_list s)) n log
entries_of s n log each round is numbered =
    let v = spawn_view s in
    let knows = s.pass.knows in
    let all = known v knows (all_met s each) in
    subst (λ (es : List (LogEntry ℕ)). HasEntries (own_list s) (listed (met_list s)) n es) (sym is)
    (record {
      run = run_entries v knows all (own_list s) (listed (met_list s)) n (lists_of s) round numbered;
      each = λ i a at. aborter_entries v knows all (own_list s) (listed (met_list s)) n (lists_of s) round numbered i a at;
      late = last_calls v knows all (own_list s) (listed (met_list s)) n (lists_of s) round;
    })

-- ---- The aborters are in the order of their numbers

abbrev first_of : List (ℕ × ℕ) → ℕ
first_of [] = 0
first_of (b ∷ bs) = b.0

abbrev rest_of : List (ℕ × ℕ) → List (ℕ × ℕ)
rest_of [] = []
rest_of (b ∷ bs) = bs

pub numbered_briefs : (lines : List (List ℕ)) (k j : ℕ) (all : List Listed) → map (λ (a : Listed). (a.0, length a.1)) all ≡ briefs lines (k + 1) j → Numbered k all
numbered_briefs lines k j [] is = tt
numbered_briefs [] k j (a ∷ all) is = absurd (cc)
numbered_briefs (line ∷ lines) k j (a ∷ all) is =
    let here : a.0 ≡ k + 1 = ap first_of is in
    (omega (arith, here), subst (λ (m : ℕ). Numbered m all) (sym here) (numbered_briefs lines (k + 1) j all (ap rest_of is)))
