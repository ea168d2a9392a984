-- A label shows the mark that its kind shows.
use Rattle.laws_labels.specs.Own.{mark_taken}
use Rattle.run_trace.specs.Labels.{labels_of}
use Rattle.run_trace.specs.Marks.{mark_in}
use Rattle.run_trace.specs.Opened.{opened}
use Rattle.run_trace.specs.declared.kinds.CallKind.TheVariants as call
use Rattle.run_trace.specs.declared.kinds.HandleKind.TheVariants as handle
use Rattle.run_trace.specs.declared.kinds.Head.{Head}
use Rattle.run_trace.specs.declared.kinds.LabelKind.{LabelKind}
use Rattle.run_trace.specs.declared.kinds.LabelKind.TheVariants as kind
use Rattle.run_trace.specs.declared.kinds.OwnKind.TheVariants as owned
use Rattle.run_trace.specs.declared.kinds.TakeKind.TheVariants as taken
use Rattle.std.proofs.Common.{List, [], ap, arith, drop, length, refl, suc, sym, zero, ℕ, ◌<◌, ◌≡◌, ◌≤◌, ◌∙◌, ◌∷◌}
use Rattle.std.specs.Prelude.{None, map, slice_index_or}

kind_shows : (k : LabelKind) (s : ℕ) (xs ys : List ℕ) → mark_taken (opened k s xs ys) ≡ mark_in k
kind_shows (kind.Main k) s xs ys = refl
kind_shows (kind.Loop k) s xs ys = refl
kind_shows (kind.Take m taken.Thread) s xs ys = refl
kind_shows (kind.Take m taken.ThreadWakes) s xs ys = refl
kind_shows (kind.Take m taken.Held) s xs ys = refl
kind_shows (kind.Take m taken.HeldWakes) s xs ys = refl
kind_shows (kind.Take m taken.Again) s xs ys = refl
kind_shows (kind.Take m taken.Push) s xs ys = refl
kind_shows (kind.Take m taken.Host) s xs ys = refl
kind_shows (kind.Take m taken.HostWakes) s xs ys = refl
kind_shows (kind.Own m owned.Nothing) s xs ys = refl
kind_shows (kind.Own m owned.Cancelled) s xs ys = refl
kind_shows (kind.Own m owned.NothingWakes) s xs ys = refl
kind_shows (kind.Own m owned.CancelledWakes) s xs ys = refl
kind_shows (kind.Given m x) s xs ys = refl
kind_shows (kind.Data k) s xs ys = refl
kind_shows (kind.Task k) s xs ys = refl
kind_shows (kind.Set k) s xs ys = refl
kind_shows (kind.Call call.Calls) s xs ys = refl
kind_shows (kind.Call call.Enters) s xs ys = refl
kind_shows (kind.Call call.CallSync) s xs ys = refl
kind_shows (kind.Call call.CallSyncPolls) s xs ys = refl
kind_shows (kind.Call call.PausesPolls) s xs ys = refl
kind_shows (kind.Call call.Fails) s xs ys = refl
kind_shows (kind.Call call.Drop) s xs ys = refl
kind_shows (kind.Call call.RetWakes) s xs ys = refl
kind_shows (kind.Thread k) s xs ys = refl
kind_shows (kind.Handle handle.SetNew) s xs ys = refl
kind_shows (kind.Handle (handle.Wait x)) s xs ys = refl
kind_shows (kind.Handle (handle.Poll x)) s xs ys = refl
kind_shows (kind.Handle handle.Call) s xs ys = refl
kind_shows (kind.Handle handle.CallPolls) s xs ys = refl
kind_shows (kind.Handle handle.Cancel) s xs ys = refl
kind_shows (kind.Handle handle.CancelSync) s xs ys = refl
kind_shows (kind.Handle handle.ThreadNew) s xs ys = refl
kind_shows (kind.Handle handle.ThreadIndex) s xs ys = refl

-- the label at a place has the head there
pub shows_mark : (hs : List Head) (ns : List ℕ) (i : ℕ) (h : Head) → i < length hs → h ≡ slice_index_or hs i h → slice_index_or (map mark_taken (labels_of hs ns)) i None ≡ mark_in h.kind
unfolding labels_of
shows_mark [] ns i h within at = absurd (omega arith)
shows_mark (g ∷ hs) ns zero h within at = kind_shows g.kind g.small _ _ ∙ ap (λ (e : Head). mark_in e.kind) (sym at)
shows_mark (g ∷ hs) ns (suc i) h within at = shows_mark hs (drop g.count ns) i h (omega arith) at

-- past the last one there is none
pub shows_none : (hs : List Head) (ns : List ℕ) (i : ℕ) → length hs ≤ i → slice_index_or (map mark_taken (labels_of hs ns)) i None ≡ None
unfolding labels_of
shows_none [] ns i past = refl
shows_none (g ∷ hs) ns zero past = absurd (omega arith)
shows_none (g ∷ hs) ns (suc i) past = shows_none hs (drop g.count ns) i (omega arith)
