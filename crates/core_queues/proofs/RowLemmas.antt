-- An entry is pushed at a mark, at the end or at the front, or leaves it.
use Rattle.core_records.proofs.Core.{[], ap, append-nil, chained, Each, Each-less_by, Each-more, entries, eq-eqb, false, filter, filter-append, filter-none, free_in_none, High, inl, inr, is_free, is_made, is_number, is_of_instance, IsLinks, IsOfThread, IsRows, IsRows-pushed, IsRows-pushed_first, IsRows-removed, IsRows-same, IsKeyed, IsSome, IsWhole, less_by, less_elsewhere, linked, List, list_any, Low, ne_eqb, None, Option, part, CoreImage, Refiles-linked, Refiles-removed, refl, removed, Row, row, row_chain, instance_queue_chain, Some, Spot, subst, sym, true, ℕ, ◌++◌, ◌∙◌, ◌∷◌, ◌≡◌, ◌⊎◌}
use Rattle.table_lists.proofs.Parts.{IsRows-part_pushed, IsRows-part_pushed_first, IsRows-part_removed}
use Rattle.core_records.specs.declared.{thread_records.Queued.Queued}
use Rattle.core_records.proofs.KindLemmas.{absent}
use Rattle.core_queues.specs.OrderKeys.{OfThread, OfWork, RowsAre, leaves, left, row_with}
use Rattle.core_queues.proofs.ListLemmas.{Each-part, Each-weaker, filter-less_out, none_in_part}
use Rattle.core_queues.proofs.OrderKeyLemmas.{knows_mark, knows_instance_queue, leaves_alike, order_key_of, thread_keyed, threads_own}
use Rattle.core_queues.proofs.WholeLemmas.{KeepsNodes, row_is, rows_whole}

-- what is known of each value of the lists
pub IsRows-known : {K P : Type 0} (chain : K → Option ℕ) (node : P → ℕ) (Known Good : P → Type 0) (links : List (Spot P)) (list : K → List P) → IsRows chain node Known links list → ((k : K) (c : ℕ) → chain k ≡ Some c → Each Good (list k)) → IsRows chain node Good links list
IsRows-known chain node Known Good links list rows good = record { live = rows.live; own_chain = rows.own_chain; has_list = rows.has_list; all_known = good; owner = rows.owner }

pub one_row : (j r : Row) → (j ≡ r) ⊎ (j ≡ r → ⊥)
one_row High High = inl refl
one_row High Low = inr (λ same. absurd (cc))
one_row Low High = inr (λ same. absurd (cc))
one_row Low Low = inl refl

row_with_here : (r : Row) (xs : List Queued) (list : Row → List Queued) → row_with r xs list r ≡ xs
row_with_here High xs list = refl
row_with_here Low xs list = refl

row_with_other : (r : Row) (xs : List Queued) (list : Row → List Queued) (j : Row) → (j ≡ r → ⊥) → row_with r xs list j ≡ list j
row_with_other High xs list High other = absurd (other refl)
row_with_other High xs list Low other = refl
row_with_other Low xs list High other = refl
row_with_other Low xs list Low other = absurd (other refl)

pub of_some_instance : (i : ℕ) (o : Option ℕ) → is_number i o ≡ true → IsSome o
of_some_instance i None is = absurd (cc)
of_some_instance i (Some j) is = refl

module _ (p : CoreImage) (whole : IsWhole p) where
  -- each entry is one that is known
  pub row_known : (r : Row) → Each (IsKeyed p) (row p r)
  row_known r = by (row_chain p r) refl
    where
      by : (o : Option ℕ) → row_chain p r ≡ o → Each (IsKeyed p) (chained p.marks o)
      by None is = tt
      by (Some c) is = subst (λ o. Each (IsKeyed p) (chained p.marks o)) is (whole.chained.marks.all_known r c is)

  nothing_there : (r : Row) → row_chain p r ≡ None → row p r ≡ []
  nothing_there r none = ap (chained p.marks) none

  -- the entries of an instance are threads'
  pub instance_queue_threads : IsRows (instance_queue_chain p) (λ q. q.instance_queue.index) (OfThread p) p.instance_queues (part is_of_instance (row p))
  instance_queue_threads = IsRows-known (instance_queue_chain p) (λ q. q.instance_queue.index) (IsKeyed p) (OfThread p) p.instance_queues (part is_of_instance (row p)) whole.chained.instance_queues
      (λ k c at. Each-part (IsKeyed p) (OfThread p) (is_of_instance k.0) (λ x is_x of. threads_own p x is_x (of_some_instance k.0 x.instance of)) (row p k.1) (row_known k.1))

  pub of_thread_keyed : (x : Queued) → OfThread p x → IsKeyed p x
  of_thread_keyed x at = subst (IsKeyed p) at.is (thread_keyed p x.place at.placed at.at)

  instance_queues_keyed : (links : List (Spot Queued)) (list : Row → List Queued) → IsRows (instance_queue_chain p) (λ q. q.instance_queue.index) (OfThread p) links (part is_of_instance list) → IsRows (instance_queue_chain p) (λ q. q.instance_queue.index) (IsKeyed p) links (part is_of_instance list)
  instance_queues_keyed links list rows = IsRows-known (instance_queue_chain p) (λ q. q.instance_queue.index) (OfThread p) (IsKeyed p) links (part is_of_instance list) rows (λ k c at. Each-weaker (OfThread p) (IsKeyed p) of_thread_keyed (part is_of_instance list k) (rows.all_known k c at))

  -- ---- Nodes

  pub mark_made : (v : Queued) → IsKeyed p v → is_made p.marks v.mark.index ≡ true
  mark_made v is = elim (order_key_of p v is) [
    | inl at ↦ subst (λ (x : Queued). is_made p.marks x.mark.index ≡ true) at.is (whole.nodes.marks.made v.place at.placed at.at)
    | inr at ↦ subst (λ m. is_made p.marks m.index ≡ true) at.mark (whole.nodes.works.made v.place at.placed at.at)
  ]

  pub instance_queue_made : (v : Queued) → OfThread p v → is_made p.instance_queues v.instance_queue.index ≡ true
  instance_queue_made v at = subst (λ (x : Queued). is_made p.instance_queues x.instance_queue.index ≡ true) at.is (whole.nodes.instance_queues.made v.place at.placed at.at)

  -- that of an entry which is nowhere is free
  pub mark_free : (v : Queued) → IsKeyed p v → IsLinks p.marks → ((r : Row) → list_any (leaves v) (row p r) ≡ false) → is_free p.marks v.mark.index ≡ true
  mark_free v is sound none = free_in_none (row_chain p) (λ q. q.mark.index) (IsKeyed p) p.marks (row p) whole.chained.marks sound (leaves v) v.mark.index (knows_mark p whole v is) (mark_made v is) none

  pub instance_queue_free : (v : Queued) → OfThread p v → IsLinks p.instance_queues → ((r : Row) → list_any (leaves v) (row p r) ≡ false) → is_free p.instance_queues v.instance_queue.index ≡ true
  instance_queue_free v at sound none = free_in_none (instance_queue_chain p) (λ q. q.instance_queue.index) (OfThread p) p.instance_queues (part is_of_instance (row p)) instance_queue_threads sound (leaves v) v.instance_queue.index (knows_instance_queue p whole v at) (instance_queue_made v at) (λ k. none_in_part (is_of_instance k.0) (leaves v) (row p k.1) (none k.1))

  -- ---- A push

  module _ (r : Row) (c : ℕ) (at : row_chain p r ≡ Some c) (v : Queued) (is_v : IsKeyed p v) (free : is_free p.marks v.mark.index ≡ true) (xs : List Queued) (new : List (Spot Queued)) where
    abbrev list : Row → List Queued
    list = row_with r xs (row p)

    list_empty : (j : Row) → row_chain p j ≡ None → list j ≡ []
    list_empty j none = elim (one_row j r) [
      | inl same ↦ absent c (sym none ∙ (ap (row_chain p) same ∙ at))
      | inr other ↦ row_with_other r xs (row p) j other ∙ nothing_there j none
    ]

    others : (j : Row) → (j ≡ r → ⊥) → list j ≡ row p j
    others j other = row_with_other r xs (row p) j other

    rows_pushed : xs ≡ row p r ++ v ∷ [] → new ≡ linked c v.mark.index v (entries p.marks c ++ (v.mark.index, v) ∷ []) p.marks → IsRows (row_chain p) (λ q. q.mark.index) (IsKeyed p) new list
    rows_pushed is puts = IsRows-pushed (row_chain p) (λ q. q.mark.index) (IsKeyed p) p.marks (row p) whole.chained.marks new list r c at (λ j d at_j other. others j other) v is_v free (row_with_here r xs (row p) ∙ is) puts

    rows_pushed_first : xs ≡ v ∷ row p r → new ≡ linked c v.mark.index v ((v.mark.index, v) ∷ entries p.marks c) p.marks → IsRows (row_chain p) (λ q. q.mark.index) (IsKeyed p) new list
    rows_pushed_first is puts = IsRows-pushed_first (row_chain p) (λ q. q.mark.index) (IsKeyed p) p.marks (row p) whole.chained.marks new list r c at (λ j d at_j other. others j other) v is_v free (row_with_here r xs (row p) ∙ is) puts

    keeps_marks : (now : List (ℕ × Queued)) → new ≡ linked c v.mark.index v now p.marks → KeepsNodes p.marks new
    keeps_marks now puts = (Refiles-linked p.marks new c v.mark.index v now (whole.chained.marks.live r c at) (mark_made v is_v) puts).made

    low_threads : (r ≡ Low → Each IsOfThread xs) → Each IsOfThread (list Low)
    low_threads all = by r all
      where
        by : (j : Row) → (j ≡ Low → Each IsOfThread xs) → Each IsOfThread (row_with j xs (row p) Low)
        by High all = whole.chained.low
        by Low all = all refl

    module _ (i d : ℕ) (at_instance_queue : instance_queue_chain p (i, r) ≡ Some d) (of_v : OfThread p v) (in_i : v.instance ≡ Some i) (free_instance_queue : is_free p.instance_queues v.instance_queue.index ≡ true) (new_instance_queues : List (Spot Queued)) where
      in_group : is_of_instance i v ≡ true
      in_group = ap (is_number i) in_i ∙ eq-eqb i i refl

      in_no_other : (h : ℕ) → (h ≡ i → ⊥) → is_of_instance h v ≡ false
      in_no_other h other = ap (is_number h) in_i ∙ ne_eqb i h (λ same. other (sym same))

      keeps_instance_queues : (now : List (ℕ × Queued)) → new_instance_queues ≡ linked d v.instance_queue.index v now p.instance_queues → KeepsNodes p.instance_queues new_instance_queues
      keeps_instance_queues now puts = (Refiles-linked p.instance_queues new_instance_queues d v.instance_queue.index v now (whole.chained.instance_queues.live (i, r) d at_instance_queue) (instance_queue_made v of_v) puts).made

      of_v_thread : IsOfThread v
      of_v_thread = subst IsSome (sym in_i) refl

      -- at the end
      pub pushed : xs ≡ row p r ++ v ∷ [] → new ≡ linked c v.mark.index v (entries p.marks c ++ (v.mark.index, v) ∷ []) p.marks → new_instance_queues ≡ linked d v.instance_queue.index v (entries p.instance_queues d ++ (v.instance_queue.index, v) ∷ []) p.instance_queues → RowsAre p new new_instance_queues list
      pushed is puts puts_instance_queue =
          let rows = rows_pushed is puts in
          record {
            whole = rows_whole p whole new new_instance_queues list rows list_empty (keeps_marks _ puts) (keeps_instance_queues _ puts_instance_queue)
                (instance_queues_keyed new_instance_queues list (IsRows-part_pushed is_of_instance (instance_queue_chain p) (λ q. q.instance_queue.index) (OfThread p) p.instance_queues (row p) instance_queue_threads new_instance_queues list i r d at_instance_queue (λ j. one_row j r) others v in_group in_no_other of_v free_instance_queue (row_with_here r xs (row p) ∙ is) puts_instance_queue))
                (low_threads (λ low. subst (Each IsOfThread) (sym (is ∙ ap (λ j. row p j ++ v ∷ []) low)) (Each-more IsOfThread (row p Low) v whole.chained.low of_v_thread)));
            rows = row_is p whole new new_instance_queues list rows list_empty;
          }

      -- at the front
      pub pushed_first : xs ≡ v ∷ row p r → new ≡ linked c v.mark.index v ((v.mark.index, v) ∷ entries p.marks c) p.marks → new_instance_queues ≡ linked d v.instance_queue.index v ((v.instance_queue.index, v) ∷ entries p.instance_queues d) p.instance_queues → RowsAre p new new_instance_queues list
      pushed_first is puts puts_instance_queue =
          let rows = rows_pushed_first is puts in
          record {
            whole = rows_whole p whole new new_instance_queues list rows list_empty (keeps_marks _ puts) (keeps_instance_queues _ puts_instance_queue)
                (instance_queues_keyed new_instance_queues list (IsRows-part_pushed_first is_of_instance (instance_queue_chain p) (λ q. q.instance_queue.index) (OfThread p) p.instance_queues (row p) instance_queue_threads new_instance_queues list i r d at_instance_queue (λ j. one_row j r) others v in_group in_no_other of_v free_instance_queue (row_with_here r xs (row p) ∙ is) puts_instance_queue))
                (low_threads (λ low. subst (Each IsOfThread) (sym (is ∙ ap (λ j. v ∷ row p j) low)) (of_v_thread, whole.chained.low)));
            rows = row_is p whole new new_instance_queues list rows list_empty;
          }

    -- an entry of a work, which is in no instance, is pushed at high
    pub pushed_work : OfWork p v → r ≡ High → xs ≡ row p r ++ v ∷ [] → new ≡ linked c v.mark.index v (entries p.marks c ++ (v.mark.index, v) ∷ []) p.marks → RowsAre p new p.instance_queues list
    pushed_work of_v high is puts =
        let rows = rows_pushed is puts in
        record {
          whole = rows_whole p whole new p.instance_queues list rows list_empty (keeps_marks _ puts) (λ n made. made)
              (IsRows-same (instance_queue_chain p) (λ q. q.instance_queue.index) (IsKeyed p) p.instance_queues (part is_of_instance (row p)) whole.chained.instance_queues (part is_of_instance list) (λ k d at_k. part_same k))
              (low_threads (λ low. not_low (sym high ∙ low)));
          rows = row_is p whole new p.instance_queues list rows list_empty;
        }
      where
        not_low : {X : Type 0} → High ≡ Low → X
        not_low same = absurd (cc)

        part_same : (k : ℕ × Row) → filter (is_of_instance k.0) (list k.1) ≡ filter (is_of_instance k.0) (row p k.1)
        part_same k = elim (one_row k.1 r) [
          | inl same ↦
              ap (λ j. filter (is_of_instance k.0) (list j)) same ∙ (ap (filter (is_of_instance k.0)) (row_with_here r xs (row p) ∙ is)
              ∙ (filter-append (is_of_instance k.0) (row p r) (v ∷ []) ∙ (ap (λ (l : List Queued). filter (is_of_instance k.0) (row p r) ++ l) (filter-none (is_of_instance k.0) v (ap (is_number k.0) of_v.alone))
              ∙ (append-nil (filter (is_of_instance k.0) (row p r)) ∙ sym (ap (λ j. filter (is_of_instance k.0) (row p j)) same)))))
          | inr other ↦ ap (filter (is_of_instance k.0)) (others k.1 other)
        ]

  -- ---- An entry leaves its mark

  module _ (q : Queued) (is_q : IsKeyed p q) (sound : IsLinks p.marks) where
    -- where it is at one mark nothing leaves the other
    pub left_elsewhere : (j k : Row) → (j ≡ k → ⊥) → list_any (leaves q) (row p j) ≡ true → left p q k ≡ row p k
    left_elsewhere j k differ any = by (row_chain p j) (row_chain p k) refl refl
      where
        by : (b d : Option ℕ) → row_chain p j ≡ b → row_chain p k ≡ d → left p q k ≡ row p k
        by b None is_j is_k = ap (less_by (leaves q)) (nothing_there k is_k) ∙ sym (nothing_there k is_k)
        by None (Some d) is_j is_k = absurd (let none : list_any (leaves q) (row p j) ≡ false = ap (list_any (leaves q)) (nothing_there j is_j) in let two = sym none ∙ any in cc)
        by (Some b) (Some d) is_j is_k = less_elsewhere (row_chain p) (λ q. q.mark.index) (IsKeyed p) p.marks (row p) whole.chained.marks sound (leaves q) q.mark.index (knows_mark p whole q is_q) j k b d is_j is_k differ any

    module _ (new : List (Spot Queued)) (takes : new ≡ removed q.mark.index p.marks) where
      rows_left : IsRows (row_chain p) (λ q. q.mark.index) (IsKeyed p) new (left p q)
      rows_left = IsRows-removed (row_chain p) (λ q. q.mark.index) (IsKeyed p) p.marks (row p) whole.chained.marks sound (leaves q) q.mark.index (knows_mark p whole q is_q) new (left p q) (λ k. refl) takes

      left_empty : (j : Row) → row_chain p j ≡ None → left p q j ≡ []
      left_empty j none = ap (less_by (leaves q)) (nothing_there j none)

      left_keeps : KeepsNodes p.marks new
      left_keeps = (Refiles-removed p.marks new q.mark.index sound (mark_made q is_q) takes).made

      pub thread_left : OfThread p q → IsLinks p.instance_queues → (new_instance_queues : List (Spot Queued)) → new_instance_queues ≡ removed q.instance_queue.index p.instance_queues → RowsAre p new new_instance_queues (left p q)
      thread_left at sound_instance_queues new_instance_queues takes_instance_queue = record {
        whole = rows_whole p whole new new_instance_queues (left p q) rows_left left_empty left_keeps ((Refiles-removed p.instance_queues new_instance_queues q.instance_queue.index sound_instance_queues (instance_queue_made q at) takes_instance_queue).made)
            (instance_queues_keyed new_instance_queues (left p q) (IsRows-part_removed is_of_instance (instance_queue_chain p) (λ q. q.instance_queue.index) (OfThread p) p.instance_queues (row p) instance_queue_threads new_instance_queues (left p q) sound_instance_queues (leaves q) q.instance_queue.index (knows_instance_queue p whole q at) (λ i. is_of_instance i q) (leaves_alike q) (λ k. refl) takes_instance_queue))
            (Each-less_by IsOfThread (leaves q) (row p Low) whole.chained.low);
        rows = row_is p whole new new_instance_queues (left p q) rows_left left_empty;
      }

      pub work_left : OfWork p q → RowsAre p new p.instance_queues (left p q)
      work_left at = record {
        whole = rows_whole p whole new p.instance_queues (left p q) rows_left left_empty left_keeps (λ n made. made)
            (IsRows-same (instance_queue_chain p) (λ q. q.instance_queue.index) (IsKeyed p) p.instance_queues (part is_of_instance (row p)) whole.chained.instance_queues (part is_of_instance (left p q))
            (λ k c at_k. filter-less_out (is_of_instance k.0) (leaves q) (λ x is. leaves_alike q k.0 x is ∙ ap (is_number k.0) at.alone) (row p k.1)))
            (Each-less_by IsOfThread (leaves q) (row p Low) whole.chained.low);
        rows = row_is p whole new p.instance_queues (left p q) rows_left left_empty;
      }
