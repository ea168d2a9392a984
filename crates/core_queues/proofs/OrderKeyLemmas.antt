-- Whose an entry is, and what its nodes say of it.
use Rattle.core_records.proofs.Core.{ap, Bool, Entry, entry_keyed, eq-eqb, eqb-true, false, host_entry, inl, inr, is_entry_of, is_number, is_of_instance, IsOfThread, IsKeyed, IsSome, IsWhole, None, Option, option_map, CoreImage, place_at, Placed, push_entry, refl, same_Some, Some, subst, sym, thread_entry, true, ℕ, ◌&&◌, ◌==◌, ◌∙◌, ◌≡◌, ◌⊎◌}
use Rattle.core_records.specs.declared.{single.Single.Single, thread_records.GuestThread.GuestThread, thread_records.Queued.Queued, work_records.WorkRecord.WorkRecord}
use Rattle.core_queues.specs.OrderKeys.{OfThread, OfWork, is_entry_of_work, leaves, same_instance}
use Rattle.core_queues.proofs.ListLemmas.{same_test}

pub same_instance-true : (a b : Option ℕ) → same_instance a b ≡ true → b ≡ a
same_instance-true None None is = refl
same_instance-true None (Some j) is = absurd (cc)
same_instance-true (Some i) None is = absurd (cc)
same_instance-true (Some i) (Some j) is = ap (λ (k : ℕ). Some k) (eqb-true j i is)

pub same_instance-same : (a b : Option ℕ) → b ≡ a → same_instance a b ≡ true
same_instance-same None b is = ap (same_instance None) is
same_instance-same (Some i) b is = ap (same_instance (Some i)) is ∙ eq-eqb i i refl

pub leaves_mark : (q x : Queued) → leaves q x ≡ true → x.mark.index ≡ q.mark.index
leaves_mark q x is = by (x.mark.index == q.mark.index) refl is
  where
    by : (b : Bool) → (x.mark.index == q.mark.index) ≡ b → (b && same_instance q.instance x.instance) ≡ true → x.mark.index ≡ q.mark.index
    by true same is = eqb-true x.mark.index q.mark.index same
    by false same is = absurd (cc)

pub leaves_instance : (q x : Queued) → leaves q x ≡ true → x.instance ≡ q.instance
leaves_instance q x is = by (x.mark.index == q.mark.index) is
  where
    by : (b : Bool) → (b && same_instance q.instance x.instance) ≡ true → x.instance ≡ q.instance
    by true is = same_instance-true q.instance x.instance is
    by false is = absurd (cc)

-- what leaves is in the instance of what is taken
pub leaves_alike : (q : Queued) (i : ℕ) (x : Queued) → leaves q x ≡ true → is_of_instance i x ≡ is_of_instance i q
leaves_alike q i x is = ap (is_number i) (leaves_instance q x is)

pub leaves_same : (q x : Queued) → x.mark.index ≡ q.mark.index → x.instance ≡ q.instance → leaves q x ≡ true
leaves_same q x mark instance = ap (λ b. b && same_instance q.instance x.instance) (eq-eqb x.mark.index q.mark.index mark) ∙ same_instance-same q.instance x.instance instance

pub leaves_itself : (q : Queued) → leaves q q ≡ true
leaves_itself q = leaves_same q q refl refl

module _ (p : CoreImage) where
  -- an entry is a thread's or a work's
  pub order_key_of : (x : Queued) → IsKeyed p x → OfThread p x ⊎ OfWork p x
  order_key_of x is = by x.entry refl is
    where
      of_thread : (o : Option (Placed (Single GuestThread))) → place_at p.threads x.place ≡ o → option_map (λ (q : Placed (Single GuestThread)). thread_entry x.place q.entry.item) o ≡ Some x → OfThread p x
      of_thread None at is = absurd (cc)
      of_thread (Some q) at is = record { placed = q; at = at; is = same_Some (thread_entry x.place q.entry.item) x is }

      of_push : (o : Option (Placed (Single WorkRecord))) → place_at p.works x.place ≡ o → option_map (λ (w : Placed (Single WorkRecord)). push_entry x.place w.entry.item) o ≡ Some x → OfWork p x
      of_push None at is = absurd (cc)
      of_push (Some w) at is =
          let same = same_Some (push_entry x.place w.entry.item) x is in
          record { placed = w; at = at; mark = ap (λ (y : Queued). y.mark) same; entry = subst (λ (y : Queued). is_entry_of_work w.entry.item.number y.entry ≡ true) same (eq-eqb w.entry.item.number w.entry.item.number refl); alone = sym (ap (λ (y : Queued). y.instance) same) }

      of_host : (o : Option (Placed (Single WorkRecord))) → place_at p.works x.place ≡ o → option_map (λ (w : Placed (Single WorkRecord)). host_entry x.place w.entry.item) o ≡ Some x → OfWork p x
      of_host None at is = absurd (cc)
      of_host (Some w) at is =
          let same = same_Some (host_entry x.place w.entry.item) x is in
          record { placed = w; at = at; mark = ap (λ (y : Queued). y.mark) same; entry = subst (λ (y : Queued). is_entry_of_work w.entry.item.number y.entry ≡ true) same (eq-eqb w.entry.item.number w.entry.item.number refl); alone = sym (ap (λ (y : Queued). y.instance) same) }

      by : (e : Entry) → x.entry ≡ e → entry_keyed p e x.place ≡ Some x → OfThread p x ⊎ OfWork p x
      by (Entry.Thread n) e is = inl (of_thread (place_at p.threads x.place) refl is)
      by (Entry.Push i) e is = inr (of_push (place_at p.works x.place) refl is)
      by (Entry.Host i) e is = inr (of_host (place_at p.works x.place) refl is)

  pub thread_keyed : (rep : ℕ) (q : Placed (Single GuestThread)) → place_at p.threads rep ≡ Some q → IsKeyed p (thread_entry rep q.entry.item)
  thread_keyed rep q at = ap (option_map (λ (q : Placed (Single GuestThread)). thread_entry rep q.entry.item)) at

  pub host_keyed : (rep : ℕ) (w : Placed (Single WorkRecord)) → place_at p.works rep ≡ Some w → IsKeyed p (host_entry rep w.entry.item)
  host_keyed rep w at = ap (option_map (λ (w : Placed (Single WorkRecord)). host_entry rep w.entry.item)) at

  -- an entry that is in an instance is a thread's
  pub threads_own : (x : Queued) → IsKeyed p x → IsOfThread x → OfThread p x
  threads_own x is of_thread = elim (order_key_of x is) [
    | inl order_key ↦ order_key
    | inr order_key ↦ absurd (let none : IsSome {T = ℕ} None = subst IsSome order_key.alone of_thread in cc)
  ]

  -- threads at one place have one entry
  pub same_thread : (x y : Queued) → OfThread p x → OfThread p y → x.place ≡ y.place → x ≡ y
  same_thread x y at_x at_y same =
      let placed : at_x.placed ≡ at_y.placed = same_Some at_x.placed at_y.placed (sym at_x.at ∙ (ap (place_at p.threads) same ∙ at_y.at)) in
      sym at_x.is ∙ (ap (λ (r : ℕ). thread_entry r at_x.placed.entry.item) same ∙ (ap (λ (q : Placed (Single GuestThread)). thread_entry y.place q.entry.item) placed ∙ at_y.is))

  module _ (whole : IsWhole p) where
    -- a node among the entries of the marks, or of an instance there, is one thread's
    pub one_mark : (x y : Queued) → OfThread p x → OfThread p y → x.mark.index ≡ y.mark.index → x ≡ y
    one_mark x y at_x at_y same = same_thread x y at_x at_y (whole.nodes.marks.own x.place y.place at_x.placed at_y.placed at_x.at at_y.at (ap (λ (z : Queued). z.mark.index) at_x.is ∙ (same ∙ sym (ap (λ (z : Queued). z.mark.index) at_y.is))))

    pub one_instance_queue : (x y : Queued) → OfThread p x → OfThread p y → x.instance_queue.index ≡ y.instance_queue.index → x ≡ y
    one_instance_queue x y at_x at_y same = same_thread x y at_x at_y (whole.nodes.instance_queues.own x.place y.place at_x.placed at_y.placed at_x.at at_y.at (ap (λ (z : Queued). z.instance_queue.index) at_x.is ∙ (same ∙ sym (ap (λ (z : Queued). z.instance_queue.index) at_y.is))))

    pub apart_marks : {X : Type 0} (x y : Queued) → OfThread p x → OfWork p y → (x.mark.index ≡ y.mark.index) → X
    apart_marks x y at_x at_y same = absurd (whole.nodes.apart x.place y.place at_x.placed at_y.placed at_x.at at_y.at (ap (λ (z : Queued). z.mark.index) at_x.is ∙ (same ∙ sym (ap (λ m. m.index) at_y.mark))))

    -- one node, one instance
    one_instance : (x y : Queued) → IsKeyed p x → IsKeyed p y → x.mark.index ≡ y.mark.index → x.instance ≡ y.instance
    one_instance x y is_x is_y same = elim (order_key_of x is_x) [
      | inl at_x ↦ elim (order_key_of y is_y) [
        | inl at_y ↦ ap (λ (z : Queued). z.instance) (one_mark x y at_x at_y same)
        | inr at_y ↦ apart_marks x y at_x at_y same
      ]
      | inr at_x ↦ elim (order_key_of y is_y) [
        | inl at_y ↦ apart_marks y x at_y at_x (sym same)
        | inr at_y ↦ at_x.alone ∙ sym at_y.alone
      ]
    ]

    -- the test knows the node at the marks
    pub knows_mark : (q : Queued) → IsKeyed p q → (x : Queued) → IsKeyed p x → leaves q x ≡ (x.mark.index == q.mark.index)
    knows_mark q is_q x is_x = same_test (leaves q x) (x.mark.index == q.mark.index) (λ is. eq-eqb x.mark.index q.mark.index (leaves_mark q x is)) (λ is.
        let same = eqb-true x.mark.index q.mark.index is in
        leaves_same q x same (one_instance x q is_x is_q same))

    -- and among the entries of an instance
    pub knows_instance_queue : (q : Queued) → OfThread p q → (x : Queued) → OfThread p x → leaves q x ≡ (x.instance_queue.index == q.instance_queue.index)
    knows_instance_queue q at_q x at_x = same_test (leaves q x) (x.instance_queue.index == q.instance_queue.index)
        (λ is. eq-eqb x.instance_queue.index q.instance_queue.index (ap (λ (z : Queued). z.instance_queue.index) (one_mark x q at_x at_q (leaves_mark q x is))))
        (λ is. subst (λ (z : Queued). leaves q z ≡ true) (sym (one_instance_queue x q at_x at_q (eqb-true x.instance_queue.index q.instance_queue.index is))) (leaves_itself q))

    -- what leaves with a thread's entry is an entry of this thread
    pub leaves_thread : (q : Queued) → OfThread p q → (n : ℕ) → q.entry ≡ Entry.Thread n → (x : Queued) → IsKeyed p x → leaves q x ≡ true → is_entry_of n x.entry ≡ true
    leaves_thread q at_q n is_n x is_x is = elim (order_key_of x is_x) [
      | inl at_x ↦ ap (λ (z : Queued). is_entry_of n z.entry) (one_mark x q at_x at_q (leaves_mark q x is)) ∙ (ap (is_entry_of n) is_n ∙ eq-eqb n n refl)
      | inr at_x ↦ apart_marks q x at_q at_x (sym (leaves_mark q x is))
    ]
