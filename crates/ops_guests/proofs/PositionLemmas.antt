-- A thread's place in its script stays while other records, and its other fields, are written.
use Rattle.std.proofs.Common.{refl}
use Rattle.std.specs.Prelude.{slice_set, ℕ, ◌≡◌}
use Rattle.machine_data.proofs.MapLemmas.{change-field}
use Rattle.machine_data.specs.Core.{Core}
use Rattle.machine_data.specs.Read.{position_of}
use Rattle.machine_data.specs.Write.{on_instance, on_thread, set_register, set_memory_cell}
use Rattle.machine_data.specs.declared.records.Thread.{Thread}
use Rattle.ops_moves.proofs.TellLemmas.{map_or_is}

position_thread : (n m : ℕ) (f : Thread → Thread) (s : Core) → ((t : Thread) → (f t).position ≡ t.position) → position_of n (on_thread m f s) ≡ position_of n s
unfolding on_thread
position_thread n m f s keeps = map_or_is (λ (t : Thread). t.position) 0 _ _ (change-field (λ (t : Thread). t.position) m f keeps s.threads n)

pub position_memory_cell : (n i w v : ℕ) (s : Core) → position_of n (set_memory_cell i w v s) ≡ position_of n s
unfolding set_memory_cell on_instance
position_memory_cell n i w v s = refl

pub position_register : (n m r v : ℕ) (s : Core) → position_of n (set_register m r v s) ≡ position_of n s
unfolding set_register
position_register n m r v s = position_thread n m (λ t. record t { registers = slice_set t.registers r v }) s (λ t. refl)
