-- How many entries were taken since a run last yielded, where it is polled on.
use Rattle.laws_labels.specs.Own.{mark_taken}
use Rattle.run_trace.specs.YieldBudget.{counted, counted_past, is_unyielded, passes_after, since_after, since_driven, unless_yielded, yields_before}
use Rattle.std.proofs.Common.{ap, arith, drop, refl, suc, sym, take, zero, ◌<◌, ◌∙◌}
use Rattle.std.proofs.lemmas.List.{drop-map, get_or-drop}
use Rattle.std.specs.Prelude.{Bool, List, None, Option, Some, [], false, length, map, not, slice_index_or, true, ℕ, ◌&&◌, ◌++◌, ◌+◌, ◌∷◌, ◌≡◌}
use Rattle.machine_data.specs.declared.label.Label.{Label}
use Rattle.machine_data.specs.declared.statuses.Mark.{Mark}

-- where it doesn't yield before it, an entry is counted
pub past_stays : (b : Bool) (k : ℕ) (o : Option Mark) → yields_before b k o ≡ false → counted_past b k o ≡ counted k o
past_stays b k o h = ap (λ (y : Bool). counted (unless_yielded y k) o) h

pub driven_both : (b : Bool) (k : ℕ) (ls ks : List Label) → since_driven b k (ls ++ ks) ≡ since_driven (passes_after b ls) (since_driven b k ls) ks
driven_both b k [] ks = refl
driven_both b k (l ∷ ls) ks = driven_both false (counted_past b k (mark_taken l)) ls ks ∙ later ls
  where
    later : (ls : List Label) → since_driven (passes_after false ls) (since_driven false (counted_past b k (mark_taken l)) ls) ks ≡ since_driven false (since_driven false (counted_past b k (mark_taken l)) ls) ks
    later [] = refl
    later (m ∷ ls) = refl

-- Where it didn't yield, a poll counts the same.
pub driven_unyielded : (b : Bool) (k : ℕ) (ls : List Label) → is_unyielded b k ls ≡ true → since_driven b k ls ≡ since_after k ls
driven_unyielded b k [] h = refl
driven_unyielded b k (l ∷ ls) h =
    let q = both (yields_before b k (mark_taken l)) (is_unyielded false (counted k (mark_taken l)) ls) h in
    ap (λ (j : ℕ). since_driven false j ls) (past_stays b k (mark_taken l) q.0) ∙ driven_unyielded false (counted k (mark_taken l)) ls q.1
  where
    both : (x y : Bool) → (not x && y) ≡ true → (x ≡ false) × (y ≡ true)
    both false y h = (refl, h)
    both true y h = absurd (cc)

-- Where it yields before the entry that is taken next, it may have yielded so just before.
pub past_yielded : (b : Bool) (k : ℕ) (o : Option Mark) → yields_before b k o ≡ true → counted_past b k o ≡ counted_past true 0 o
past_yielded b k None h = absurd (cc)
past_yielded b k (Some m) h = ap (λ (y : Bool). counted (unless_yielded y k) (Some m)) h

-- a label more
pub driven_next : (ls : List Label) (n : ℕ) (b : Bool) (k : ℕ) → n < length ls →
    (since_driven b k (take (suc n) ls) ≡ counted_past (passes_after b (take n ls)) (since_driven b k (take n ls)) (slice_index_or (map mark_taken ls) n None)) × (passes_after b (take (suc n) ls) ≡ false)
driven_next [] n b k within = absurd (omega arith)
driven_next (l ∷ ls) zero b k within = (refl, refl)
driven_next (l ∷ ls) (suc n) b k within =
    let j = counted_past b k (mark_taken l) in
    ((driven_next ls n false j (omega arith)).0 ∙ ap (λ (q : Bool). counted_past q (since_driven false j (take n ls)) (slice_index_or (map mark_taken ls) n None)) (no_more (take n ls)), refl)
  where
    no_more : (ls : List Label) → passes_after false ls ≡ false
    no_more [] = refl
    no_more (m ∷ ls) = refl

-- the mark of the label at a place of those from a place on
pub mark_from : (ls : List Label) (from n : ℕ) → slice_index_or (map mark_taken (drop from ls)) n None ≡ slice_index_or (map mark_taken ls) (from + n) None
mark_from ls from n = ap (λ (ms : List (Option Mark)). slice_index_or ms n None) (sym (drop-map mark_taken from ls)) ∙ get_or-drop from (map mark_taken ls) n None
