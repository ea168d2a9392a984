use Rattle.core_fields.proofs.CallPlaceLemmas.{call_item, call_there}
use Rattle.core_places.proofs.TargetLemmas.{waits_is}
use Rattle.core_places.proofs.waits.filing_for.Goals as goal
use Rattle.core_places.specs.Waits.{wait_chain_at}
use Rattle.core_places.specs.declared.waits.WaitFiling.{WaitFiling}
use Rattle.core_records.specs.RecordPlaces.{member_order_key}
use Rattle.table_links.specs.declared.links.Node.{Node}
use Rattle.table_lists.specs.declared.ordered_lists.OrderKey.{OrderKey}
use Rattle.core_records.proofs.Core.{ap, None, Option, Place, refl, seen, sym, task_of, thread_of, ◌∙◌, ◌≡◌, Bool, ℕ}
use Rattle.core_records.proofs.HomeLemmas.{task_live, task_place, thread_task}
use Rattle.core_records.proofs.StandLemmas.{number_is}
use Rattle.core_records.specs.declared.{call_records.GuestTask.GuestTask}

abbrev filing_of : Node → Option ℕ → OrderKey → WaitFiling
filing_of node k x = record { node = node; chain = k; order_key = x }

-- a filing is its chain and its order key
filed : (node : Node) → {k l : Option ℕ} → {x y : OrderKey} → k ≡ l → x ≡ y → filing_of node k x ≡ filing_of node l y
filed node {k = k} {y = y} chain key = ap (λ x. filing_of node k x) key ∙ ap (λ k. filing_of node k y) chain

pub there-requires : goal.there-requires
there-requires c =
    let a = c.args.parts.now in
    let g = c.args.thread.now in
    call_there a g.task (task_of (thread_of (seen a) c.args.id) (seen a).core) (task_place a c.requires.sound c.args.id g c.requires.there) (task_live a c.requires.sound c.args.id g c.requires.there)

pub returns-in-Waiting : goal.returns-in-Waiting
returns-in-Waiting c =
    let a = c.args.parts.now in
    let g = c.args.thread.now in
    let k = task_of (thread_of (seen a) c.args.id) (seen a).core in
    let place = task_place a c.requires.sound c.args.id g c.requires.there in
    let live = task_live a c.requires.sound c.args.id g c.requires.there in
    let r = c.there.result.now in
    let chain : r.waits ≡ wait_chain_at a g c.args.to.now =
    sym (ap (λ p. wait_chain_at a g p) c.in-Waiting.is ∙ waits_is a c.requires.sound g.thread.call g.task _ r
    (number_is (λ (g : GuestTask). g.number) (λ (g : GuestTask). g.call) a.calls g.task k place live r c.there.ensures ∙ thread_task a c.requires.sound c.args.id g c.requires.there)
    (call_item a g.task k place live c.requires.sound r c.there.ensures)) in
    let key : c.member_order_key-order_key.result ≡ member_order_key g.entry c.args.id.rep = c.member_order_key-order_key.ensures ∙ ap (member_order_key g.entry) c.rep.ensures in
    filed c.args.node chain key

pub returns-in_default : goal.returns-in_default
returns-in_default c =
    let g = c.args.thread.now in
    let key : c.member_order_key-order_key.result ≡ member_order_key g.entry c.args.id.rep = c.member_order_key-order_key.ensures ∙ ap (member_order_key g.entry) c.rep.ensures in
    filed c.args.node (by c.args.to.now c.in_default.not-Waiting) key
  where
    by : (p : Place) → ((x : ℕ) (b : Bool) → p ≡ Place.Waiting x b → ⊥) → None ≡ wait_chain_at c.args.parts.now c.args.thread.now p
    by (Place.Waiting x b) other = absurd (other x b refl)
    by _ other = refl
