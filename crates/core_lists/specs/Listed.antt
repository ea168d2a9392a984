-- What a core lists: who waits on a set, its ready members, and the held threads that an instance lets in once it is opened.
use Rattle.core_primitives.specs.Names.{subtask_in}
use Rattle.core_primitives.specs.StateView.{StateView, thread_of}
use Rattle.core_primitives.specs.declared.names.SubtaskId.{SubtaskId}
use Rattle.core_records.specs.declared.parts.CoreParts.{CoreParts}
use Rattle.core_removals.specs.Walks.{of_chain}
use Rattle.machine_data.specs.Core.{Core}
use Rattle.machine_data.specs.Moves.{held_why_of}
use Rattle.machine_data.specs.Read.{is_explicit, is_ready_member, is_sync, kind_of, subtasks, task_of}
use Rattle.machine_data.specs.declared.records.Subtask.{Subtask}
use Rattle.machine_data.specs.declared.records.Why.TheVariants as why
use Rattle.machine_data.specs.declared.records.Why.{Why}
use Rattle.std.specs.Option.{option_map_or}
use Rattle.std.specs.Prelude.{Bool, IsPermutation, List, false, filter, map, true, ℕ, ◌++◌, ◌||◌, ◌≡◌}
use Rattle.task_table.specs.declared.id.TableId.{TableId}
use Rattle.task_wait.specs.declared.keys.ThreadKey.{ThreadKey}

-- the ready members of the set
abbrev pub ready_of : ℕ → Core → List Subtask
ready_of x s = filter (λ sub. is_ready_member x sub s) (subtasks s)

-- such an entry of the thread is admitted even where its instance's flag is set
abbrev pub passes_flag : ℕ → Core → Why → Bool
passes_flag n s why.Start = is_explicit n s || is_sync (kind_of (task_of n s) s)
passes_flag n s (why.Delivery d) = false
passes_flag n s why.Resumption = true

-- the thread is held with such an entry
abbrev pub held_passes_flag : Core → ℕ → Bool
held_passes_flag s n = option_map_or (passes_flag n s) (held_why_of n s) false

-- the one list, and the other after it if both are asked for
abbrev pub one_or_both : Bool → List ℕ → List ℕ → List ℕ
one_or_both true xs ys = xs ++ ys
one_or_both false xs ys = xs

-- those that are held with such an entry
abbrev pub passing : StateView → List ℕ → List ℕ
passing s ns = filter (held_passes_flag s.core) ns

-- the list has these threads, or subtasks, after those that it had
abbrev pub AddsThreads : StateView → List ℕ → (before after : List (TableId ThreadKey)) → Type 0
AddsThreads s ns before after = map (λ id. thread_of s id) after ≡ map (λ id. thread_of s id) before ++ ns

abbrev pub AddsSubtasks : StateView → List Subtask → (before after : List SubtaskId) → Type 0
AddsSubtasks s subs before after = map (λ id. subtask_in s.tags id) after ≡ map (λ id. subtask_in s.tags id) before ++ subs

-- the threads of the one chain, and after them those of the other one if all are asked for
abbrev pub of_both : CoreParts → Bool → (one other : ℕ) → List ℕ
of_both a all one other = one_or_both all (of_chain a one) (of_chain a other)

-- the ids name these threads, each once, in some order
abbrev pub ListsThreads : StateView → List ℕ → List (TableId ThreadKey) → Type 0
ListsThreads s ns ids = IsPermutation ns (map (λ id. thread_of s id) ids)

-- the ids name these subtasks, each once, in some order
abbrev pub ListsSubtasks : StateView → List Subtask → List SubtaskId → Type 0
ListsSubtasks s subs ids = IsPermutation subs (map (λ id. subtask_in s.tags id) ids)
