-- A core in which nothing was made.
use Rattle.core_records.proofs.Core.{[], AreApart-new_table, AreChained, AreCounted, AreNamed, arith, bare, BlockedOn, by_place_from, call_key, empty, false, Filing, filings, found_record, fresh, get-empty, group_key, HaveRowNodes, HeldIn, StartsIn, High, image, IsIndex, IsIndex-nothing, IsIndex-same_chains, IsRows, IsTable, List, live_count, Low, mapped, new_table, None, nothing, nothing_made, numbers, Option, CoreImage, place_chain, records, refl, Row, row_chain, set_key, size, Sound, SoundTable, Subtask, sym, Table, table_use, thread_key, UnderOf, WaitsOn, Where, with_capacity, work_key, ℕ, ◌∙◌, ◌≡◌, ◌≤◌, has, true, ◌+◌, ◌<◌}
use Rattle.core_records.specs.declared.{single.Single.Single}
use Rattle.core_primitives.specs.StateView.{nothing_wanted}
use Rattle.machine_data.specs.declared.scenario.Version.TheVariants as version
use Rattle.core_records.proofs.KindLemmas.{absent}

abbrev pub no_records : {T : Type 0} → Table (Single T)
no_records = with_capacity 4294967295 new_table

-- the parts of such a core
abbrev pub opening : (end_room : ℕ) → CoreImage
opening end_room = record {
  threads = no_records;
  calls = no_records;
  works = no_records;
  sets = no_records;
  groups = no_records;
  instances = [];
  counter = record { limit = 100000; live = 0 };
  places = [];
  waits = [];
  ready_calls = [];
  ready_works = [];
  polled = [];
  marks = [];
  instance_queues = [];
  behind = [];
  high = None;
  low = None;
  live = None;
  switch = None;
  current = None;
  wanted = nothing_wanted;
  results = [];
  kept = record { used = 0; groups = 0; interesting = 0; live = 0; moving = 0 };
  finished = 0;
  ended = [];
  end_room = end_room;
  capacity = 1000000;
  made = nothing_made;
  version = version.One;
  arrivals = 0;
  trapped = false;
}

pub opening_shown : (room : ℕ) → image (opening room) ≡ nothing
unfolding records by_place_from fresh with_capacity numbers empty
opening_shown room = refl

opening_table : {T X : Type 0} (key : Single T → Option (ℕ × X)) → IsTable (no_records {T = T}) → SoundTable key no_records 0
unfolding with_capacity found_record
opening_table key table = record {
  table = table;
  childless = λ rep. refl;
  apart = AreApart-new_table key;
  above_zero = refl;
  later = λ n later. refl;
}

no_index : {K P : Type 0} (chain : K → Option ℕ) (filing : ℕ → Option (Filing K P)) → ((k : K) → chain k ≡ None) → ((r : ℕ) → filing r ≡ None) → IsIndex chain [] filing
no_index chain filing none unfiled = IsIndex-same_chains (λ k. None) [] filing (IsIndex-nothing filing unfiled) chain none

no_rows : {K P : Type 0} (chain : K → Option ℕ) (node : P → ℕ) (Known : P → Type 0) (list : K → List P) → ((k : K) → chain k ≡ None) → IsRows chain node Known [] list
no_rows chain node Known list none = record {
  live = λ k c at. absent c (sym (none k) ∙ at);
  own_chain = λ j k c at_j at_k. absent c (sym (none j) ∙ at_j);
  has_list = λ k c at. absent c (sym (none k) ∙ at);
  all_known = λ k c at. absent c (sym (none k) ∙ at);
  owner = λ n c v link. absent (c, v) link;
}

no_place : (room : ℕ) (k : Where) → place_chain (bare (opening room)) k ≡ None
unfolding found_record mapped with_capacity
no_place room (WaitsOn x) = refl
no_place room (StartsIn i) = refl
no_place room (HeldIn i) = refl
no_place room (UnderOf n) = refl
no_place room (BlockedOn (Subtask.Guest k)) = refl
no_place room (BlockedOn (Subtask.Host i)) = refl

no_row : (room : ℕ) (r : Row) → row_chain (bare (opening room)) r ≡ None
no_row room High = refl
no_row room Low = refl

opening_chained : (room : ℕ) → AreChained (bare (opening room))
unfolding found_record filings mapped with_capacity
opening_chained room = record {
  places = no_index _ _ (no_place room) (λ r. refl);
  waits = no_index _ _ (λ k. refl) (λ r. refl);
  ready_calls = no_index _ _ (λ x. refl) (λ r. refl);
  ready_works = no_index _ _ (λ x. refl) (λ r. refl);
  polled = no_index _ _ (λ k. refl) (λ r. refl);
  rising = tt;
  marks = no_rows _ _ _ _ (no_row room);
  instance_queues = no_rows _ _ _ _ (λ k. refl);
  low = tt;
  behind = no_rows _ _ _ _ (λ k. refl);
}

opening_named : (room : ℕ) → AreNamed (bare (opening room))
unfolding mapped with_capacity
opening_named room = record {
  threads = λ rep q at. absent q at;
  calls = λ rep q at. absent q at;
  works = λ rep q at. absent q at;
  switch = tt;
}

opening_nodes : (room : ℕ) → HaveRowNodes (bare (opening room))
unfolding mapped with_capacity
opening_nodes room = record {
  marks = record { made = λ rep q at. absent q at; own = λ r s p q at. absent p at };
  instance_queues = record { made = λ rep q at. absent q at; own = λ r s p q at. absent p at };
  callers = record { made = λ rep q at. absent q at; own = λ r s p q at. absent p at };
  works = record { made = λ rep q at. absent q at; own = λ r s p q at. absent p at };
  apart = λ r s q w at. absent q at;
}

few : 1000000 ≤ 4294967295
few = omega arith

opening_counted : (room : ℕ) → AreCounted (bare (opening room))
unfolding records by_place_from table_use live_count size empty numbers mapped with_capacity
opening_counted room = record {
  kept = record { used = refl; groups = refl; live = refl };
  calls = λ rep q at. absent q at;
  sets = λ rep q at. absent q at;
  groups = λ rep q at. absent q at;
  few = few;
  finished = omega arith;
  high = λ some. absurd (some refl);
  low = λ some. absurd (some refl);
  works = λ rep q at. absent q at;
  results = λ k c at. absent c (sym (get-empty k) ∙ at);
}

within : 0 ≤ 4294967295
within = omega arith

same : 4294967295 ≤ 4294967295
same = omega arith

table : (T : Type 0) → IsTable (no_records {T = T})
unfolding with_capacity
table T = record { places_fit = within; capacity_fits = same; free_once = λ rep. refl; free_or_taken = refl; serials = λ rep p at. absent p at; parents = λ rep none. refl }

no_end : (n : ℕ) → has n [] ≡ true → (0 < n) × (n ≤ 0)
no_end n there = absurd (cc)

no_end_apart : (n : ℕ) → has n [] ≡ true → has n [] ≡ false
no_end_apart n there = refl

end_room : (room : ℕ) → 0 + 0 ≤ room
end_room room = omega arith

pub opening_sound : (room : ℕ) → Sound (opening room)
unfolding records with_capacity empty live_count size by_place_from numbers
opening_sound room = record {
  handles = λ i r at. absent r at;
  owned = λ rep q at. absent q at;
  live = refl;
  interesting = refl;
  moving = refl;
  tables = record { threads = opening_table thread_key (table _); calls = opening_table call_key (table _); works = opening_table work_key (table _); sets = opening_table set_key (table _); groups = opening_table group_key (table _) };
  whole = record { named = opening_named room; chained = opening_chained room; nodes = opening_nodes room; counted = opening_counted room };
  ended = record { once = tt; apart = no_end_apart; within = no_end; room = end_room room };
}
