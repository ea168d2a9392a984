-- What is in a chain of ready members or of waiting threads, and what a walk through a chain has listed.
use Rattle.core_records.specs.Keys.{call_key, work_key}
use Rattle.core_records.specs.declared.parts.CoreParts.{CoreParts}
use Rattle.core_removals.specs.Walks.{at_order_key}
use Rattle.machine_data.specs.declared.records.Subtask.TheVariants as subtask
use Rattle.machine_data.specs.declared.records.Subtask.{Subtask}
use Rattle.std.specs.Prelude.{Bool, List, filter, map, ℕ, ◌++◌, ◌≡◌}
use Rattle.table_links.specs.Links.{entries}
use Rattle.table_lists.specs.Walks.{number_at, walked}
use Rattle.table_lists.specs.declared.ordered_lists.OrderKey.{OrderKey}
use Rattle.task_table.specs.Records.{number_in, record_at}

-- a waiting thread, which a node of its call's chain represents, and the threads of that chain, in order
abbrev pub waiting_of_node : CoreParts → ℕ → ℕ
waiting_of_node a n = number_at (at_order_key a) a.waits n

abbrev pub waiting_in_chain : CoreParts → ℕ → List ℕ
waiting_in_chain a c = walked (at_order_key a) a.waits c

-- the number of the call, and of the work, that an order key has as its place
abbrev pub call_at_key : CoreParts → OrderKey → ℕ
call_at_key a v = number_in (record_at call_key a.calls.places v.place)

abbrev pub work_at_key : CoreParts → OrderKey → ℕ
work_at_key a v = number_in (record_at work_key a.works.places v.place)

-- what a node of the chains of ready members represents
abbrev pub call_of_node : CoreParts → ℕ → Subtask
call_of_node a n = subtask.Guest (number_at (call_at_key a) a.ready_calls n)

abbrev pub work_of_node : CoreParts → ℕ → Subtask
work_of_node a n = subtask.Host (number_at (work_at_key a) a.ready_works n)

-- the members in a chain, in order
abbrev pub calls_in : CoreParts → ℕ → List Subtask
calls_in a c = map (λ e. call_of_node a e.0) (entries a.ready_calls c)

abbrev pub works_in : CoreParts → ℕ → List Subtask
works_in a c = map (λ e. work_of_node a e.0) (entries a.ready_works c)

-- what was listed, and what is left of the entries, are all
abbrev pub Adds : {B P : Type 0} (of : ℕ → B) → (all listed : List B) → (left : List (ℕ × P)) → Type 0
Adds of all listed left = listed ++ map (λ e. of e.0) left ≡ all

-- what was listed, and those of what is left that pass, are all
abbrev pub AddsPassing : {P : Type 0} (test : ℕ → Bool) (of : ℕ → ℕ) → (all listed : List ℕ) → (left : List (ℕ × P)) → Type 0
AddsPassing test of all listed left = listed ++ filter test (map (λ e. of e.0) left) ≡ all
