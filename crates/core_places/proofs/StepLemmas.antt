-- A thread goes on.
use Rattle.core_records.proofs.Core.{ap, change, change-change_same, Core, get, get-change_same, OpProgress, moved_to, None, on_thread, Option, option_map, option_map_or, Place, position_of, refl, Script, set_do_not_enter, set_op_progress, set_place, set_position, set_register, set_script, slice_set, Some, sym, Thread, true, ℕ, ◌∙◌, ◌≡◌}
use Rattle.machine_data.specs.Write.{on_instance}
use Rattle.machine_data.specs.declared.statuses.Given.{Given}
use Rattle.machine_rules.specs.Sets.{given_code, given_handle, given_result, set_given}
use Rattle.core_places.specs.Moved.{to_answer, to_begun, to_op, to_stand}

abbrev pub with_register : ℕ → ℕ → Thread → Thread
with_register r v t = record t { registers = slice_set t.registers r v }

-- a write of a register leaves the thread where it is
pub position_kept : (n r v : ℕ) (s : Core) → position_of n (set_register n r v s) ≡ position_of n s
unfolding set_register on_thread
position_kept n r v s = ap (λ o. option_map_or (λ (x : Thread). x.position) o 0) (get-change_same s.threads n (with_register r v)) ∙ by (get s.threads n)
  where
    by : (o : Option Thread) → option_map_or (λ (x : Thread). x.position) (option_map (with_register r v) o) 0 ≡ option_map_or (λ (x : Thread). x.position) o 0
    by None = refl
    by (Some t) = refl

-- an answer and the end of its op as one write of the thread's record
pub answered : (n r v p : ℕ) (s : Core) → on_thread n (to_answer r v p) s ≡ moved_to n p (set_register n r v s)
unfolding moved_to set_op_progress set_position set_register on_thread
answered n r v p s = ap (λ m. record s { threads = m }) (sym (ap (λ m. change n fresh m) (change-change_same s.threads n at (with_register r v)) ∙ change-change_same s.threads n fresh (λ t. at (with_register r v t))))
  where
    at : Thread → Thread
    at t = record t { position = p }

    fresh : Thread → Thread
    fresh t = record t { op_progress = OpProgress.Fresh }

pub answered_then : (n r v p : ℕ) (s : Core) → on_thread n (to_op p) (set_register n r v s) ≡ on_thread n (to_answer r v p) s
unfolding set_register on_thread
answered_then n r v p s = ap (λ m. record s { threads = m }) (change-change_same s.threads n (to_op p) (with_register r v))

-- another place and another point of an op as one write of the thread's record
pub stood : (n : ℕ) (p : Place) (h : OpProgress) (s : Core) → on_thread n (to_stand p h) s ≡ set_op_progress n h (set_place n p s)
unfolding set_place set_op_progress on_thread
stood n p h s = ap (λ m. record s { threads = m }) (sym (change-change_same s.threads n (λ (t : Thread). record t { op_progress = h }) (λ (t : Thread). record t { place = p })))

-- an activation as one write of the thread's record
pub activation : (n i : ℕ) (v : Given) (s : Core) → on_thread n (to_begun (given_code v) (given_handle v) (given_result v)) (set_do_not_enter i true s) ≡ set_place n Place.Running (moved_to n 0 (set_script n Script.React (set_do_not_enter i true (set_given n 0 v s))))
unfolding set_place moved_to set_op_progress set_position set_script set_do_not_enter set_given set_register on_thread on_instance
activation n i v s = ap (λ m. record (set_do_not_enter i true s) { threads = m }) (sym merged)
  where
    first : Thread → Thread
    first = with_register 0 (given_code v)

    second : Thread → Thread
    second = with_register 1 (given_handle v)

    third : Thread → Thread
    third = with_register 2 (given_result v)

    reacts : Thread → Thread
    reacts t = record t { script = Script.React }

    at_start : Thread → Thread
    at_start t = record t { position = 0 }

    fresh : Thread → Thread
    fresh t = record t { op_progress = OpProgress.Fresh }

    placed_running : Thread → Thread
    placed_running t = record t { place = Place.Running }

    merged : change n placed_running (change n fresh (change n at_start (change n reacts (change n third (change n second (change n first s.threads)))))) ≡ change n (λ t. placed_running (fresh (at_start (reacts (third (second (first t))))))) s.threads
    merged =
        ap (λ m. change n placed_running (change n fresh (change n at_start (change n reacts (change n third m))))) (change-change_same s.threads n second first)
        ∙ (ap (λ m. change n placed_running (change n fresh (change n at_start (change n reacts m)))) (change-change_same s.threads n third (λ t. second (first t)))
        ∙ (ap (λ m. change n placed_running (change n fresh (change n at_start m))) (change-change_same s.threads n reacts (λ t. third (second (first t))))
        ∙ (ap (λ m. change n placed_running (change n fresh m)) (change-change_same s.threads n at_start (λ t. reacts (third (second (first t)))))
        ∙ (ap (λ m. change n placed_running m) (change-change_same s.threads n fresh (λ t. at_start (reacts (third (second (first t))))))
        ∙ change-change_same s.threads n placed_running (λ t. fresh (at_start (reacts (third (second (first t))))))))))
