-- The codes of cores, by which a model may have one as its value.
use Rattle.std.specs.Prelude.{ℕ, Bool, List, Option, refl}
use Rattle.std.specs.Coded.{Coded, code_by, coded×, coded_ℕ, coded_bool, coded_list, coded_option}
use Rattle.machine_data.specs.declared.records.Call.{Call}
use Rattle.machine_data.specs.declared.records.Entry.{Entry}
use Rattle.machine_data.specs.declared.records.Instance.{Instance}
use Rattle.machine_data.specs.declared.records.MadeCounts.{MadeCounts}
use Rattle.machine_data.specs.declared.records.Named.{Named}
use Rattle.machine_data.specs.declared.records.Set.{Set}
use Rattle.machine_data.specs.declared.records.Thread.{Thread}
use Rattle.machine_data.specs.declared.records.Work.{Work}
use Rattle.machine_data.specs.declared.scenario.Version.{Version}
use Rattle.machine_data.specs.contracts.records.Call as call
use Rattle.machine_data.specs.contracts.records.Entry as entry
use Rattle.machine_data.specs.contracts.records.Instance as instance
use Rattle.machine_data.specs.contracts.records.MadeCounts as made
use Rattle.machine_data.specs.contracts.records.Named as named
use Rattle.machine_data.specs.contracts.records.Set as set
use Rattle.machine_data.specs.contracts.records.Thread as thread
use Rattle.machine_data.specs.contracts.records.Work as work
use Rattle.machine_data.specs.contracts.scenario.Version as version
use Rattle.machine_data.specs.Maps.{Records, records_code}
use Rattle.machine_data.specs.Core.{NameTable, Queues, Core}

abbrev pub table_code : {X : Type 0} → Coded X → Coded (NameTable X)
table_code {X = X} x =
    code_by (Records X × List ℕ) (coded× (records_code x) (coded_list coded_ℕ))
    (λ t. (t.live, t.freed)) (λ p. record { live = p.0; freed = p.1 }) (λ _. refl)

abbrev pub queues_code : Coded Queues
queues_code =
    code_by (Option ℕ × (List Entry × List Entry))
    (coded× (coded_option coded_ℕ) (coded× (coded_list entry.the_row.coded) (coded_list entry.the_row.coded)))
    (λ q. (q.switch, (q.high, q.low)))
    (λ p. record { switch = p.0; high = p.1.0; low = p.1.1 })
    (λ _. refl)

-- what threads, calls, works, sets and instances have
abbrev Maps : Type 0
Maps = Records Call × (Records Thread × (Records (List ℕ) × (Records Work ×
    (Records Set × (Records Instance × (Records (NameTable Named) × Records (NameTable ℕ)))))))

maps_code : Coded Maps
maps_code =
    coded× (records_code call.the_row.coded) (coded× (records_code thread.the_row.coded) (coded× (records_code (coded_list coded_ℕ))
    (coded× (records_code work.the_row.coded) (coded× (records_code set.the_row.coded) (coded× (records_code instance.the_row.coded)
    (coded× (records_code (table_code named.the_row.coded)) (records_code (table_code coded_ℕ))))))))

-- the rest of a core
abbrev Rest : Type 0
Rest = Queues × (Records ℕ × (List ℕ × (Bool × (ℕ × (ℕ × (MadeCounts × (Version × ℕ)))))))

rest_code : Coded Rest
rest_code =
    coded× queues_code
    (coded× (records_code coded_ℕ)
    (coded× (coded_list coded_ℕ) (coded× coded_bool (coded× coded_ℕ (coded× coded_ℕ
    (coded× made.the_row.coded (coded× version.the_row.coded coded_ℕ)))))))

pub core_code : Coded Core
core_code =
    code_by (Maps × Rest) (coded× maps_code rest_code)
    (λ s. (
      (s.calls, (s.threads, (s.callers, (s.works, (s.sets, (s.instances, (s.handles, s.thread_handles))))))),
      (s.queues, (s.results, (s.groups, (s.trapped, (s.handle_limit, (s.capacity, (s.made, (s.version, s.arrivals)))))))),
    ))
    (λ p. record {
      calls = p.0.0;
      threads = p.0.1.0;
      callers = p.0.1.1.0;
      works = p.0.1.1.1.0;
      sets = p.0.1.1.1.1.0;
      instances = p.0.1.1.1.1.1.0;
      handles = p.0.1.1.1.1.1.1.0;
      thread_handles = p.0.1.1.1.1.1.1.1;
      queues = p.1.0;
      results = p.1.1.0;
      groups = p.1.1.1.0;
      trapped = p.1.1.1.1.0;
      handle_limit = p.1.1.1.1.1.0;
      capacity = p.1.1.1.1.1.1.0;
      made = p.1.1.1.1.1.1.1.0;
      version = p.1.1.1.1.1.1.1.1.0;
      arrivals = p.1.1.1.1.1.1.1.1.1;
    })
    (λ _. refl)
