-- The cells of a run's spawns, from step to step.
use Rattle.beside_works.proofs.MeetLemmas.{each_length}
use Rattle.beside_main.proofs.AllMetLemmas.{all_can, all_met}
use Rattle.beside_works.proofs.LineLemmas.{aborts_are_met}
use Rattle.beside_works.proofs.NewLemmas.{got}
use Rattle.beside_works.specs.Aborters.{AreNew as NewAborters, CanMeet, HaveRun, NoneOutOfMemory, briefs, with_all}
use Rattle.beside_works.specs.Counts.{brief, counts_in, later, met_count, met_of, with_each}
use Rattle.beside_works.specs.declared.line.Aborter.{Aborter}
use Rattle.beside_main.proofs.CallLemmas.{called_at}
use Rattle.beside_main.proofs.EntryLemmas.{numbered_briefs}
use Rattle.beside_main.specs.Calls.{AreCalled, IsEarly}
use Rattle.beside_main.specs.Cells.{AreCounts, AreEarly, AreLogsOf, AreMet, AreNew, IsLog, KeepsCell, KeepsCells}
use Rattle.beside_main.specs.Headline.{HasEntries, IsLogOf}
use Rattle.beside_main.specs.Same.{same_cell, same_cells}
use Rattle.beside_works.specs.Shared.{listed}
use Rattle.beside_works.specs.Views.{met_list, own_list, spawn_cell, spawn_view, split_count}
use Rattle.beside_works.specs.declared.cells.SharedSpawn.{SharedSpawn}
use Rattle.beside_works.specs.declared.log.Found.{Found}
use Rattle.std.proofs.Common.{ap, ap₂, arith, get_or, inl, inr, length, map, refl, subst, sym, take, ⊎_elim, ◌∙◌}
use Rattle.std.proofs.lemmas.List.{length-map, map-append, take_more}
use Rattle.std.proofs.lemmas.Option.{same_Some}
use Rattle.std.specs.Prelude.{Bool, List, None, Some, [], false, slice_get, slice_set, suc, true, zero, ℕ, ◌++◌, ◌+◌, ◌<◌, ◌∷◌, ◌≡◌, ◌≤◌, ◌⊎◌}
use Rattle.laws_beside.specs.Courses.{Own, none_called}
use Rattle.task_abort.specs.PhaseLog.{first_view}
use Rattle.task_abort.specs.Staged.{Aborter as Listed, LastRound, staged, told}
use Rattle.task_abort.specs.declared.log.CallMade.{CallMade}
use Rattle.task_abort.specs.declared.log.LogEntry.{LogEntry}
use Rattle.machine_data.specs.Read.{is_nil}
use Rattle.machine_data.specs.declared.scenario.ScenarioDef.{ScenarioDef}

pub cells_then : (olds bs cs : List SharedSpawn) → KeepsCells olds bs → KeepsCells bs cs → KeepsCells olds cs
cells_then [] [] [] p q = tt
cells_then [] [] (c ∷ cs) p q = absurd q
cells_then [] (b ∷ bs) cs p q = absurd p
cells_then (a ∷ olds) [] cs p q = absurd p
cells_then (a ∷ olds) (b ∷ bs) [] p q = absurd q
cells_then (a ∷ olds) (b ∷ bs) (c ∷ cs) p q = (
  record { cell = q.0.cell ∙ p.0.cell; split = q.0.split ∙ p.0.split; met = q.0.met ∙ p.0.met; round = λ n r. q.0.round n (p.0.round n r) },
  cells_then olds bs cs p.1 q.1,
)

pub one_cell : (olds : List SharedSpawn) (k : ℕ) (a b : SharedSpawn) → slice_get olds k ≡ Some a → KeepsCell a b → KeepsCells olds (slice_set olds k b)
one_cell [] k a b at keeps = absurd (cc)
one_cell (x ∷ olds) zero a b at keeps = (subst (λ (y : SharedSpawn). KeepsCell y b) (sym (same_Some _ _ at)) keeps, same_cells olds)
one_cell (x ∷ olds) (suc k) a b at keeps = (same_cell x, one_cell olds k a b at keeps)

-- ---- What stays of all of them

pub same_fields : (olds bs : List SharedSpawn) → KeepsCells olds bs →
    (map spawn_cell bs ≡ map spawn_cell olds) × ((map split_count bs ≡ map split_count olds) × (map met_list bs ≡ map met_list olds))
same_fields [] [] keeps = (refl, (refl, refl))
same_fields [] (b ∷ bs) keeps = absurd keeps
same_fields (a ∷ olds) [] keeps = absurd keeps
same_fields (a ∷ olds) (b ∷ bs) keeps = let rest = same_fields olds bs keeps.1 in (
  ap₂ (λ x xs. x ∷ xs) keeps.0.cell rest.0,
  (ap₂ (λ (x : ℕ) (xs : List ℕ). x ∷ xs) keeps.0.split rest.1.0, ap₂ (λ x xs. x ∷ xs) keeps.0.met rest.1.1),
)

pub early_kept : (olds bs : List SharedSpawn) (ns : List ℕ) → KeepsCells olds bs → AreEarly olds ns → AreEarly bs ns
early_kept [] [] ns keeps early = early
early_kept [] (b ∷ bs) ns keeps early = absurd keeps
early_kept (a ∷ olds) [] ns keeps early = absurd keeps
early_kept (a ∷ olds) (b ∷ bs) [] keeps early = absurd early
early_kept (a ∷ olds) (b ∷ bs) (n ∷ ns) keeps early = (keeps.0.round n early.0, early_kept olds bs ns keeps.1 early.1)

pub early_more : (olds : List SharedSpawn) (a : SharedSpawn) (ns : List ℕ) (n : ℕ) → AreEarly olds ns → LastRound (spawn_view a) n → AreEarly (olds ++ a ∷ []) (ns ++ n ∷ [])
early_more [] a [] n early last = (last, tt)
early_more [] a (m ∷ ns) n early last = absurd early
early_more (b ∷ olds) a [] n early last = absurd early
early_more (b ∷ olds) a (m ∷ ns) n early last = (early.0, early_more olds a ns n early.1 last)

-- those of the first cells, with that of one cell more
pub early_next : (cells : List SharedSpawn) (ns ms : List ℕ) (i n : ℕ) (d : SharedSpawn) → i < length cells → AreEarly (take i cells) ns → LastRound (spawn_view (get_or cells i d)) n →
    ms ≡ ns ++ n ∷ [] → AreEarly (take (i + 1) cells) ms
early_next cells ns ms i n d lt early last is =
    subst (λ (ks : List ℕ). AreEarly (take (i + 1) cells) ks) (sym is)
    (subst (λ (cs : List SharedSpawn). AreEarly cs (ns ++ n ∷ [])) (sym (take_more cells i d lt)) (early_more (take i cells) (get_or cells i d) ns n early last))

pub early_at : (olds : List SharedSpawn) (ns : List ℕ) (k : ℕ) (a : SharedSpawn) (n : ℕ) → AreEarly olds ns → slice_get olds k ≡ Some a → slice_get ns k ≡ Some n → LastRound (spawn_view a) n
early_at [] ns k a n early at is = absurd (cc)
early_at (b ∷ olds) [] k a n early at is = absurd early
early_at (b ∷ olds) (m ∷ ns) zero a n early at is =
    subst (λ (c : SharedSpawn). LastRound (spawn_view c) n) (same_Some _ _ at) (subst (λ (j : ℕ). LastRound (spawn_view b) j) (same_Some _ _ is) early.0)
early_at (b ∷ olds) (m ∷ ns) (suc k) a n early at is = early_at olds ns k a n early.1 at is

-- ---- Logs

last_or : {A : Type 0} (xs : List A) (x y : A) (k : ℕ) → slice_get (xs ++ x ∷ []) k ≡ Some y → (slice_get xs k ≡ Some y) ⊎ ((k ≡ length xs) × (x ≡ y))
last_or [] x y zero at = inr (refl, same_Some _ _ at)
last_or [] x y (suc k) at = absurd (cc)
last_or (z ∷ xs) x y zero at = inl at
last_or (z ∷ xs) x y (suc k) at = ⊎_elim (λ here. inl here) (λ last. inr (ap suc last.0, last.1)) (last_or xs x y k at)

none_at : (k : ℕ) (log : List (LogEntry ℕ)) → slice_get [] k ≡ Some log → ⊥
none_at k log at = absurd (cc)

pub logs_none : (cells : List SharedSpawn) (early : List ℕ) (logs : List (List (LogEntry ℕ))) → logs ≡ [] → AreLogsOf cells early logs
logs_none cells early logs is k log at = absurd (none_at k log (subst (λ (ls : List (List (LogEntry ℕ))). slice_get ls k ≡ Some log) is at))

pub logs_more : (cells : List SharedSpawn) (early : List ℕ) (logs : List (List (LogEntry ℕ))) (log : List (LogEntry ℕ)) (i : ℕ) (s : SharedSpawn) (n : ℕ) → AreLogsOf cells early logs →
    length logs ≡ i → slice_get cells i ≡ Some s → slice_get early i ≡ Some n → IsLog s n log → AreLogsOf cells early (logs ++ log ∷ [])
logs_more cells early logs log i s n are count at here is k l there = ⊎_elim (are k l) last (last_or logs log l k there)
  where
    last : (k ≡ length logs) × (log ≡ l) → (t : SharedSpawn) × ((m : ℕ) × ((slice_get cells k ≡ Some t) × ((slice_get early k ≡ Some m) × IsLog t m l)))
    last q = (s, (n, (ap (slice_get cells) (q.0 ∙ count) ∙ at, (ap (slice_get early) (q.0 ∙ count) ∙ here, subst (λ (m : List (LogEntry ℕ)). IsLog s n m) q.1 is))))

-- each cell has its count
pub early_there : (cells : List SharedSpawn) (ns : List ℕ) (k : ℕ) → AreEarly cells ns → k < length cells → slice_get ns k ≡ None → ⊥
early_there [] ns k early lt none = omega (arith, lt)
early_there (s ∷ cells) [] k early lt none = early
early_there (s ∷ cells) (n ∷ ns) zero early lt none = absurd (cc)
early_there (s ∷ cells) (n ∷ ns) (suc k) early lt none = early_there cells ns k early.1 (omega (arith, lt)) none

-- the counts of the first cells, with that of one cell more
pub counts_next : (cells : List SharedSpawn) (ns ms : List ℕ) (i n : ℕ) (d : SharedSpawn) → i < length cells → AreCounts (take i cells) ns → n ≡ length (own_list (get_or cells i d)) →
    ms ≡ ns ++ n ∷ [] → AreCounts (take (i + 1) cells) ms
counts_next cells ns ms i n d lt counts is more =
    more ∙ (ap₂ (λ (ks : List ℕ) (m : ℕ). ks ++ m ∷ []) counts is
    ∙ (sym (map-append (λ (s : SharedSpawn). length (own_list s)) (take i cells) (get_or cells i d ∷ [])) ∙ ap (map (λ (s : SharedSpawn). length (own_list s))) (sym (take_more cells i d lt))))

-- so they are of the calls of the run, all of which are early
pub counts_early : (own : Own) (cells : List SharedSpawn) (ns : List ℕ) → AreCounts cells ns → AreCalled own.calls 1 cells → IsEarly own → (k n : ℕ) → slice_get ns k ≡ Some n → n ≡ own.early (k + 1)
counts_early own cells ns counts called early k n at = by cells 1 k (k + 1) refl called (ap (λ (ms : List ℕ). slice_get ms k) (sym counts) ∙ at) ∙ sym (early (k + 1))
  where
    by : (cs : List SharedSpawn) (j q i : ℕ) → i ≡ q + j → AreCalled own.calls j cs → slice_get (map (λ (s : SharedSpawn). length (own_list s)) cs) q ≡ Some n → n ≡ length (own.calls i)
    by [] j q i number called at = absurd (cc)
    by (c ∷ cs) j zero i number called at =
        let here : j ≡ i = omega (arith, number) in
        sym (same_Some _ _ at) ∙ (sym (length-map (own_list c) (λ (m : CallMade). m.call)) ∙ (ap length called.0 ∙ ap (λ (m : ℕ). length (own.calls m)) here))
    by (c ∷ cs) j (suc q) i number called at = by cs (j + 1) q i (omega (arith, number)) called.1 at

-- new cells have no call
pub new_called : (cells : List SharedSpawn) (k : ℕ) → AreNew cells → AreCalled none_called.calls k cells
new_called [] k new = tt
new_called (s ∷ cells) k new = (ap (map (λ (m : CallMade). m.call)) new.0.1.1, new_called cells (k + 1) new.1)

-- ---- New cells

pub new_more : (olds : List SharedSpawn) (a : SharedSpawn) → AreNew olds → split_count a ≡ 0 → met_list a ≡ [] → own_list a ≡ [] → AreNew (olds ++ a ∷ [])
new_more [] a new split met own = ((split, (met, own)), tt)
new_more (b ∷ olds) a new split met own = (new.0, new_more olds a new.1 split met own)

-- as the pass sees none
pub none_listed_yet : (a : SharedSpawn) → spawn_view a ≡ first_view → own_list a ≡ []
none_listed_yet a view = a.listed ∙ ap (λ v. map told v.own.calls) view

pub new_met : (olds : List SharedSpawn) → AreNew olds → AreMet olds
new_met [] new = refl
new_met (a ∷ olds) new = ap₂ (λ (n : ℕ) (ns : List ℕ). n ∷ ns) (new.0.0 ∙ sym (ap length new.0.1.0)) (new_met olds new.1)

new_at : (olds : List SharedSpawn) (k : ℕ) → AreNew olds → k < length olds → slice_get (map met_of olds) k ≡ Some []
new_at [] k new lt = absurd (omega (arith, lt))
new_at (a ∷ olds) zero new lt = ap (λ (fs : List Found). Some (map brief fs)) new.0.1.0
new_at (a ∷ olds) (suc k) new lt = new_at olds k new.1 (omega (arith, lt))

counts_of : (olds bs : List SharedSpawn) → map met_list bs ≡ map met_list olds → map met_count bs ≡ map met_count olds
counts_of olds bs same = by bs ∙ (ap (map length) same ∙ sym (by olds))
  where
    by : (cs : List SharedSpawn) → map met_count cs ≡ map length (map met_list cs)
    by [] = refl
    by (c ∷ cs) = ap (λ (ns : List ℕ). met_count c ∷ ns) (by cs)

briefs_of : (olds bs : List SharedSpawn) → map met_list bs ≡ map met_list olds → map met_of bs ≡ map met_of olds
briefs_of olds bs same = by bs ∙ (ap (map (map brief)) same ∙ sym (by olds))
  where
    by : (cs : List SharedSpawn) → map met_of cs ≡ map (map brief) (map met_list cs)
    by [] = refl
    by (c ∷ cs) = ap (λ mss. met_of c ∷ mss) (by cs)

pub met_kept : (olds bs : List SharedSpawn) → KeepsCells olds bs → AreMet olds → AreMet bs
met_kept olds bs keeps met = let same = same_fields olds bs keeps in same.1.0 ∙ (met ∙ sym (counts_of olds bs same.1.1))

pub at_within : {A : Type 0} (xs : List A) (k : ℕ) (x : A) → slice_get xs k ≡ Some x → k < length xs
at_within [] k x at = absurd (cc)
at_within (y ∷ ys) zero x at = omega arith
at_within (y ∷ ys) (suc k) x at = omega (arith, at_within ys k x at)

pub none_behind : {A : Type 0} (xs : List A) (k : ℕ) → slice_get xs k ≡ None → length xs ≤ k
none_behind [] k none = omega arith
none_behind (x ∷ xs) zero none = absurd (cc)
none_behind (x ∷ xs) (suc k) none = let rest = none_behind xs k none in omega (arith, rest)

-- ---- What is listed

-- the aborters of a log's lists are those of the cell
pub listed_briefs : (fs : List Found) → map (λ (a : Listed). (a.0, length a.1)) (listed fs) ≡ map brief fs
listed_briefs [] = refl
listed_briefs (f ∷ fs) = ap (λ (bs : List (ℕ × ℕ)). brief f ∷ bs) (listed_briefs fs)

abbrev pub AreListed : List (List ℕ) → List SharedSpawn → Type 0
AreListed lines cells = (k : ℕ) (s : SharedSpawn) → slice_get cells k ≡ Some s → met_of s ≡ briefs lines 1 (k + 1)

pub logs_listed : (x : ScenarioDef) (own : Own) (cells : List SharedSpawn) (ns : List ℕ) (logs : List (List (LogEntry ℕ))) → AreListed x.aborters cells → AreCalled own.calls 1 cells →
    ((k n : ℕ) → slice_get ns k ≡ Some n → n ≡ own.early (k + 1)) → AreLogsOf cells ns logs → (k : ℕ) (log : List (LogEntry ℕ)) → slice_get logs k ≡ Some log → IsLogOf x own (k + 1) log
logs_listed x own cells ns logs each called early are k log at =
    let found = are k log at in
    let s = found.0 in
    let n = found.1.0 in
    let is = found.1.1.1.1 in
    record {
      own = own_list s;
      calls = called_at own.calls 1 k (k + 1) cells s refl called found.1.1.0;
      aborters = listed (met_list s);
      staged = is.staged ∙ ap (λ (m : ℕ). staged (own_list s) (listed (met_list s)) m) (early k n found.1.1.1.0);
      legal = is.legal;
      each = listed_briefs (met_list s) ∙ each k s found.1.1.0;
      entries = subst (λ (m : ℕ). HasEntries (own_list s) (listed (met_list s)) m log) (early k n found.1.1.1.0)
          (is.entries (numbered_briefs x.aborters 0 (k + 1) (listed (met_list s)) (listed_briefs (met_list s) ∙ each k s found.1.1.0)));
    }

-- with no aborter none is listed
pub none_listed : (lines : List (List ℕ)) (olds bs : List SharedSpawn) → is_nil lines ≡ true → AreNew olds → KeepsCells olds bs → AreListed lines bs
none_listed [] olds bs nil new keeps k s at =
    let same = briefs_of olds bs (same_fields olds bs keeps).1.1 in
    let here : slice_get (map met_of olds) k ≡ Some (met_of s) = ap (λ mss. slice_get mss k) (sym same) ∙ got met_of bs k s at in
    same_Some _ _ (sym here ∙ new_at olds k new (let lt = at_within (map met_of olds) k (met_of s) here in let long = length-map olds met_of in omega (arith, lt, long)))
none_listed (line ∷ lines) olds bs nil new keeps k s at = absurd (cc)

with_all_length : (all : List Aborter) (mss : List (List (ℕ × ℕ))) → length (with_all all mss) ≡ length mss
with_all_length [] mss = refl
with_all_length (a ∷ all) mss = with_all_length all (with_each a.number (counts_in a.passes.items) mss) ∙ each_length a.number (counts_in a.passes.items) mss

-- ---- From new cells to those of which each pass was met

module _ (lines : List (List ℕ)) (cs ds es : List SharedSpawn) (olds news : List Aborter) (new : AreNew cs) (cells : map spawn_cell ds ≡ map spawn_cell cs)
    (met : map met_list ds ≡ map met_list cs) (made : NewAborters (map spawn_cell cs) (map split_count cs) 0 olds) (number : length olds ≡ length lines)
    (kept : KeepsCells ds es) (run : HaveRun lines olds news) where
  later_met : map met_list es ≡ map met_list cs
  later_met = (same_fields ds es kept).1.1 ∙ met

  pub can : CanMeet (map spawn_cell es) (map met_count es) news
  can = all_can cs es lines olds news (new_met cs new) ((same_fields ds es kept).0 ∙ cells) later_met made run

  module _ (fs gs : List SharedSpawn) (split : map split_count ds ≡ later (length lines) (map split_count cs)) (same : map split_count fs ≡ map split_count es)
      (count : map met_count fs ≡ later (length news) (map met_count es)) (listed : map met_of fs ≡ with_all news (map met_of es)) (none : NoneOutOfMemory news) (stays : KeepsCells fs gs) where
    pub all_are_met : AreMet gs
    all_are_met = met_kept fs gs stays (all_met cs es fs lines olds news (new_met cs new) ((same_fields ds es kept).1.0 ∙ split) later_met number run same count)

    pub all_listed : AreListed lines gs
    all_listed k s at =
        let all : map met_of gs ≡ with_all news (map met_of es) = briefs_of fs gs (same_fields fs gs stays).1.1 ∙ listed in
        let here : slice_get (with_all news (map met_of es)) k ≡ Some (met_of s) = ap (λ mss. slice_get mss k) (sym all) ∙ got met_of gs k s at in
        let long : length gs ≡ length cs =
        sym (length-map gs met_of) ∙ (ap length all ∙ (with_all_length news (map met_of es) ∙ (ap length (briefs_of cs es later_met) ∙ length-map cs met_of))) in
        let lt : k < length cs = (let within = at_within gs k s at in omega (arith, within, long)) in
        let first : slice_get (map met_of es) k ≡ Some [] = ap (λ mss. slice_get mss k) (briefs_of cs es later_met) ∙ new_at cs k new lt in
        same_Some _ _ (sym here ∙ aborts_are_met (map spawn_cell cs) (map split_count cs) lines olds news (map met_of es) k [] made number run none
        (let wide = length-map cs split_count in omega (arith, lt, wide)) first)
