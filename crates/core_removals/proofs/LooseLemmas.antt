-- The nodes and the chain of a host work are made, one after another: they hang on nothing.
use Rattle.core_records.proofs.Core.{[], bare, ChainOf, filings, FreeNode, if◌then◌else◌, is_stage_live, IsSoundCore, live_chain, live_value, None, parts_of, place_at, place_chain, place_filing, Placed, ready_in, ready_work_chain, Renames, Some, subst, sym, Unmade, ℕ, ◌≡◌}
use Rattle.core_records.specs.declared.{parts.CoreParts.CoreParts, single.Single.Single, thread_records.GuestThread.GuestThread, work_records.WorkRecord.WorkRecord}
use Rattle.core_makes.proofs.LooseLemmas.{loose_index}
use Rattle.core_makes.specs.Loose.{IsLoose, IsSpare}
use Rattle.core_makes.proofs.NodeLemmas.{filed_made, spare_made}
use Rattle.core_removals.specs.LooseWorks.{AreWorkLoose}
use Rattle.core_removals.specs.declared.work_nodes.WorkNodes.{WorkNodes}
use Rattle.core_records.specs.RecordPlaces.{member_order_key}

module _ (a b c d e : CoreParts) (n : WorkNodes) (sound_a : IsSoundCore a) (sound_b : IsSoundCore b) (sound_c : IsSoundCore c) (sound_d : IsSoundCore d)
    (only_b : b ≡ record a { places = b.places }) (only_c : c ≡ record b { ready_works = c.ready_works }) (only_d : d ≡ record c { polled = d.polled }) (only_e : e ≡ record d { marks = e.marks })
    (blocked : Renames a.places b.places n.blocked Unmade (ChainOf [])) (ready : Renames b.ready_works c.ready_works n.ready.index Unmade FreeNode) (live : Renames c.polled d.polled n.live.index Unmade FreeNode) (mark : Renames d.marks e.marks n.mark.index Unmade FreeNode) where
  blocked_new : IsLoose (place_chain (bare (parts_of a))) b.places n.blocked
  unfolding IsSoundCore
  blocked_new = loose_index (place_chain (bare (parts_of a))) a.places b.places (filings (place_filing a.version) (bare (parts_of a)).threads) sound_a.whole.chained.places n.blocked blocked

  ready_new : IsSpare (λ (w : WorkRecord). w.ready.index) (bare (parts_of b)).works c.ready_works n.ready.index
  unfolding IsSoundCore
  ready_new = spare_made _ _ b.ready_works c.ready_works n.ready.index (filed_made (λ (w : WorkRecord). w.ready.index) (λ w. ready_in w.work.event w.work.join) (λ r w. member_order_key w.entry r) (ready_work_chain (bare (parts_of b))) (bare (parts_of b)).works b.ready_works sound_b.whole.chained.ready_works) ready

  live_new : IsSpare (λ (w : WorkRecord). w.live.index) (bare (parts_of c)).works d.polled n.live.index
  unfolding IsSoundCore
  live_new = spare_made _ _ c.polled d.polled n.live.index (filed_made (λ (w : WorkRecord). w.live.index) (λ w. if is_stage_live w.work.stage then Some tt else None) live_value (live_chain (bare (parts_of c))) (bare (parts_of c)).works c.polled sound_c.whole.chained.polled) live

  mark_new : IsSpare (λ (w : WorkRecord). w.mark.index) (bare (parts_of d)).works e.marks n.mark.index
  unfolding IsSoundCore
  mark_new = spare_made _ _ d.marks e.marks n.mark.index sound_d.whole.nodes.works.made mark

  thread_new : IsSpare (λ (g : GuestThread). g.mark.index) (bare (parts_of d)).threads e.marks n.mark.index
  unfolding IsSoundCore
  thread_new = spare_made _ _ d.marks e.marks n.mark.index sound_d.whole.nodes.marks.made mark

  abbrev HasBlocked : CoreParts → Type 0
  HasBlocked y = IsLoose (place_chain (bare (parts_of y))) y.places n.blocked

  abbrev HasReady : CoreParts → Type 0
  HasReady y = IsSpare (λ (w : WorkRecord). w.ready.index) (bare (parts_of y)).works y.ready_works n.ready.index

  abbrev HasLive : CoreParts → Type 0
  HasLive y = IsSpare (λ (w : WorkRecord). w.live.index) (bare (parts_of y)).works y.polled n.live.index

  pub made_work_loose : AreWorkLoose (bare (parts_of e)) n
  made_work_loose = record {
    ready = subst HasReady (sym only_e) (subst HasReady (sym only_d) (subst (λ (y : CoreParts). IsSpare (λ (w : WorkRecord). w.ready.index) (bare (parts_of y)).works c.ready_works n.ready.index) (sym only_c) ready_new));
    live = subst HasLive (sym only_e) (subst (λ (y : CoreParts). IsSpare (λ (w : WorkRecord). w.live.index) (bare (parts_of y)).works d.polled n.live.index) (sym only_d) live_new);
    mark = subst (λ (y : CoreParts). IsSpare (λ (w : WorkRecord). w.mark.index) (bare (parts_of y)).works e.marks n.mark.index) (sym only_e) mark_new;
    no_thread = subst (λ (y : CoreParts). (r : ℕ) (g : Placed (Single GuestThread)) → place_at (bare (parts_of y)).threads r ≡ Some g → g.entry.item.mark.index ≡ n.mark.index → ⊥) (sym only_e) thread_new.apart;
    blocked = subst HasBlocked (sym only_e) (subst HasBlocked (sym only_d) (subst HasBlocked (sym only_c) (subst (λ (y : CoreParts). IsLoose (place_chain (bare (parts_of y))) b.places n.blocked) (sym only_b) blocked_new)));
  }
