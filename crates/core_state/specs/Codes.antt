-- The code of what contracts see, by which a model may have it as its value.
use Rattle.std.specs.Coded.{Coded, code_by, coded×, coded_ℕ, coded_list, coded_option}
use Rattle.std.specs.Prelude.{ℕ, List, Option, refl}
use Rattle.machine_data.specs.Codes.{core_code}
use Rattle.machine_data.specs.Core.{Core}
use Rattle.task_table.specs.declared.id.TableId.{TableId}
use Rattle.task_table.specs.contracts.id.TableId as id
use Rattle.task_wait.specs.contracts.keys.ThreadKey as key
use Rattle.task_wait.specs.declared.keys.ThreadKey.{ThreadKey}
use Rattle.machine_data.specs.Maps.{Records, records_code}
use Rattle.machine_rules.specs.Picks.{Seats, ThreadSeat}
use Rattle.core_primitives.specs.contracts.names.SubtaskId as names
use Rattle.core_primitives.specs.declared.names.SubtaskId.{SubtaskId}
use Rattle.core_primitives.specs.StateView.{StateView, Tag, Tags, Wanted}

abbrev pub tag_code : Coded Tag
tag_code = code_by (ℕ × ℕ) (coded× coded_ℕ coded_ℕ) (λ t. (t.serial, t.number)) (λ p. record { serial = p.0; number = p.1 }) (λ _. refl)

abbrev names_code : Coded (List (Option Tag))
names_code = coded_list (coded_option tag_code)

abbrev Names : Type 0
Names = List (Option Tag)

abbrev pub thread_seat_code : Coded ThreadSeat
thread_seat_code = code_by (ℕ × ℕ) (coded× coded_ℕ coded_ℕ) (λ p. (p.task, p.own)) (λ p. record { task = p.0; own = p.1 }) (λ _. refl)

abbrev pub seats_code : Coded Seats
seats_code =
    code_by (Records ThreadSeat × (Records ℕ × Records ℕ)) (coded× (records_code thread_seat_code) (coded× (records_code coded_ℕ) (records_code coded_ℕ)))
    (λ p. (p.threads, (p.calls, p.works))) (λ p. record { threads = p.0; calls = p.1.0; works = p.1.1 }) (λ _. refl)

abbrev thread_id_code : Coded (TableId ThreadKey)
thread_id_code = (id.the_row key.the_row).coded

abbrev pub wanted_code : Coded Wanted
wanted_code =
    code_by (Option (TableId ThreadKey) × (Option SubtaskId × List (TableId ThreadKey)))
    (coded× (coded_option thread_id_code) (coded× (coded_option names.the_row.coded) (coded_list thread_id_code)))
    (λ w. (w.waiter, (w.member, w.held))) (λ p. record { waiter = p.0; member = p.1.0; held = p.1.1 }) (λ _. refl)

abbrev pub tags_code : Coded Tags
tags_code =
    code_by (Names × (Names × (Names × (Names × (List ℕ × (Wanted × Seats))))))
    (coded× names_code (coded× names_code (coded× names_code (coded× names_code (coded× (coded_list coded_ℕ) (coded× wanted_code seats_code))))))
    (λ t. (t.threads, (t.calls, (t.sets, (t.works, (t.tracked, (t.wanted, t.seats)))))))
    (λ p. record {
      threads = p.0;
      calls = p.1.0;
      sets = p.1.1.0;
      works = p.1.1.1.0;
      tracked = p.1.1.1.1.0;
      wanted = p.1.1.1.1.1.0;
      seats = p.1.1.1.1.1.1;
    }) (λ _. refl)

abbrev pub state_view_code : Coded StateView
state_view_code =
    code_by (Core × (Tags × Option (TableId ThreadKey))) (coded× core_code (coded× tags_code (coded_option (id.the_row key.the_row).coded)))
    (λ s. (s.core, (s.tags, s.current))) (λ p. record { core = p.0; tags = p.1.0; current = p.1.1 }) (λ _. refl)

-- contracts see a core as it is shown
abbrev pub itself : StateView → StateView
itself s = s
