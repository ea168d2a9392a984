-- Cells of which each pass that was split off was met.
use Rattle.beside_works.proofs.MeetLemmas.{can_meet, later_none}
use Rattle.beside_works.specs.Aborters.{AreNew, CanMeet, HaveRun}
use Rattle.beside_works.specs.Counts.{later, met_count}
use Rattle.beside_works.specs.declared.line.Aborter.{Aborter}
use Rattle.beside_works.specs.Views.{HasMetEach, met_list, spawn_cell, split_count}
use Rattle.beside_works.specs.declared.cells.SharedSpawn.{SharedSpawn}
use Rattle.std.proofs.Common.{ap, length, map, refl, subst, sym, ◌∙◌}
use Rattle.std.proofs.lemmas.List.{map-append}
use Rattle.std.proofs.lemmas.Option.{same_Some}
use Rattle.std.specs.Prelude.{List, Some, [], slice_get, suc, zero, ℕ, ◌++◌, ◌∷◌, ◌≡◌}
use Rattle.task_abort.specs.Cells.{CellId}

head_same : {A : Type 0} (x y : A) (xs ys : List A) → x ∷ xs ≡ y ∷ ys → x ≡ y
head_same x y xs ys same = same_Some x y (ap (λ zs. slice_get zs 0) same)

tail_of : {A : Type 0} → List A → List A
tail_of [] = []
tail_of (x ∷ xs) = xs

tail_same : {A : Type 0} (x y : A) (xs ys : List A) → x ∷ xs ≡ y ∷ ys → xs ≡ ys
unfolding tail_of
tail_same x y xs ys same = ap tail_of same

pub each_met : (cs : List SharedSpawn) (k : ℕ) (s : SharedSpawn) → map split_count cs ≡ map met_count cs → slice_get cs k ≡ Some s → HasMetEach s
each_met [] k s same at = absurd (cc)
each_met (c ∷ cs) zero s same at = subst (λ (d : SharedSpawn). HasMetEach d) (same_Some _ _ at) (head_same _ _ (map split_count cs) (map met_count cs) same)
each_met (c ∷ cs) (suc k) s same at = each_met cs k s (tail_same _ _ (map split_count cs) (map met_count cs) same) at

-- a new cell, of which none was split off
pub cell_added : (cs : List SharedSpawn) (s : SharedSpawn) → map split_count cs ≡ map met_count cs → split_count s ≡ 0 → met_list s ≡ [] →
    map split_count (cs ++ s ∷ []) ≡ map met_count (cs ++ s ∷ [])
cell_added cs s same none met =
    map-append split_count cs (s ∷ []) ∙ (ap (λ (ns : List ℕ). ns ++ split_count s ∷ []) same
    ∙ (ap (λ (n : ℕ). map met_count cs ++ n ∷ []) (none ∙ sym (ap length met)) ∙ sym (map-append met_count cs (s ∷ []))))

counts_of : (cs : List SharedSpawn) → map met_count cs ≡ map length (map met_list cs)
counts_of [] = refl
counts_of (c ∷ cs) = ap (λ (ns : List ℕ). met_count c ∷ ns) (counts_of cs)

pub same_counts : (cs ds : List SharedSpawn) → map met_list ds ≡ map met_list cs → map met_count ds ≡ map met_count cs
same_counts cs ds same = counts_of ds ∙ (ap (map length) same ∙ sym (counts_of cs))

-- those that have run can be met
pub all_can : (cs ds : List SharedSpawn) (lines : List (List ℕ)) (olds news : List Aborter) → map split_count cs ≡ map met_count cs → map spawn_cell ds ≡ map spawn_cell cs →
    map met_list ds ≡ map met_list cs → AreNew (map spawn_cell cs) (map split_count cs) 0 olds → HaveRun lines olds news → CanMeet (map spawn_cell ds) (map met_count ds) news
all_can cs ds lines olds news first cells met new run =
    let places : later 0 (map split_count cs) ≡ map met_count ds = later_none (map split_count cs) ∙ (first ∙ sym (same_counts cs ds met)) in
    subst (λ (ids : List CellId). CanMeet ids (map met_count ds) news) (sym cells)
    (subst (λ (ms : List ℕ). CanMeet (map spawn_cell cs) ms news) places (can_meet (map spawn_cell cs) (map split_count cs) 0 lines olds news new run))

pub same_number : (lines : List (List ℕ)) (olds news : List Aborter) → HaveRun lines olds news → length news ≡ length olds
same_number lines [] [] run = refl
same_number lines [] (b ∷ news) run = absurd run
same_number lines (a ∷ olds) [] run = absurd run
same_number lines (a ∷ olds) (b ∷ news) run = ap suc (same_number lines olds news run.1)

-- once those were met, each pass that was split off was
pub all_met : (cs ds es : List SharedSpawn) (lines : List (List ℕ)) (olds news : List Aborter) → map split_count cs ≡ map met_count cs →
    map split_count ds ≡ later (length lines) (map split_count cs) → map met_list ds ≡ map met_list cs → length olds ≡ length lines → HaveRun lines olds news →
    map split_count es ≡ map split_count ds → map met_count es ≡ later (length news) (map met_count ds) → map split_count es ≡ map met_count es
all_met cs ds es lines olds news first split met number run same count =
    let many : length news ≡ length lines = same_number lines olds news run ∙ number in
    same ∙ (split ∙ (ap (later (length lines)) (first ∙ sym (same_counts cs ds met)) ∙ (ap (λ (n : ℕ). later n (map met_count ds)) (sym many) ∙ sym count)))
