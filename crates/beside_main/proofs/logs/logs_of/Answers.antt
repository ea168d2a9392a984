use Rattle.std.proofs.Common.{List, ap, arith, get_or, length, length-append, map, refl, rules, subst, sym, ◌++◌, ◌-◌, ◌∙◌, ◌≡◌, ◌≤◌}
use Rattle.std.proofs.lemmas.List.{length-map, map-append}
use Rattle.std.proofs.lemmas.Option.{slice_get_read}
use Rattle.std.specs.Global.{Vec}
use Rattle.std.specs.Prelude.{Some, [], slice_get, ℕ, ◌∷◌}
use Rattle.beside_main.proofs.AllMetLemmas.{each_met}
use Rattle.beside_main.proofs.CellLemmas.{at_within, early_at, early_there, logs_more, logs_none, none_behind}
use Rattle.beside_main.proofs.EntryLemmas.{entries_of}
use Rattle.beside_main.specs.Cells.{AreLogsOf}
use Rattle.task_abort.specs.declared.log.LogEntry.{LogEntry}
use Rattle.beside_main.proofs.logs.logs_of.Goals as goal

abbrev entries : List (Vec (LogEntry ℕ)) → List (List (LogEntry ℕ))
entries vs = map (λ (v : Vec (LogEntry ℕ)). v.items) vs

pub loop-cell-init : goal.loop-cell-init
loop-cell-init c = record { are = logs_none c.args.cells.now c.args.early.now _ (ap entries c.new-logs.ensures.items); count = ap length c.new-logs.ensures.items; spawn = refl; made = omega arith }

pub unreachable-requires : goal.unreachable-requires
unreachable-requires c =
    let cells = c.args.cells.now in
    let i = c.loop-cell.cell-index in
    let place : c.len.result ≡ i = (let one = c.len.ensures in let two = c.loop-cell.logs.ok.0 in let three = c.loop-cell.invariant.count in omega (arith, one, two, three)) in
    absurd (early_there cells c.args.early.now i c.requires.early c.loop-cell-test.true (ap (slice_get c.args.early.now) (sym place) ∙ sym c.in_default-count_at.ensures))

pub log-requires-clause-met : goal.log-requires-clause-met
log-requires-clause-met c =
    let cells = c.args.cells.now in
    let i = c.loop-cell.cell-index in
    let cell = c.cell-item.result in
    let here : cell ≡ get_or cells i cell = search rules in
    each_met cells i cell c.requires.met (slice_get_read cells (length cells) i cell refl c.loop-cell-test.true here)

pub log-requires-clause-last : goal.log-requires-clause-last
log-requires-clause-last c =
    let cells = c.args.cells.now in
    let i = c.loop-cell.cell-index in
    let cell = c.cell-item.result in
    let here : cell ≡ get_or cells i cell = search rules in
    let place : c.len.result ≡ i = (let one = c.len.ensures in let two = c.loop-cell.logs.ok.0 in let three = c.loop-cell.invariant.count in omega (arith, one, two, three)) in
    early_at cells c.args.early.now i cell c.in-Some-count_at.count c.requires.early (slice_get_read cells (length cells) i cell refl c.loop-cell-test.true here)
    (ap (slice_get c.args.early.now) (sym place) ∙ sym c.in-Some-count_at.ensures)

pub loop-cell-preserved : goal.loop-cell-preserved
loop-cell-preserved c =
    let cells = c.args.cells.now in
    let early = c.args.early.now in
    let i = c.loop-cell.cell-index in
    let cell = c.cell-item.result in
    let here : cell ≡ get_or cells i cell = search rules in
    let logs = c.loop-cell.logs.items in
    let log = c.in_ok-log.log in
    let more = c.in_ok-add.ensures.ok in
    let hs = c.args.script.now.spawns.items in
    let place : c.len.result ≡ i = (let one = c.len.ensures in let two = c.loop-cell.logs.ok.0 in let three = c.loop-cell.invariant.count in omega (arith, one, two, three)) in
    let spawn : c.in-Some.next - 1 ≡ i = (let next = c.in-Some.ensures.1 in let at = c.loop-cell.invariant.spawn in omega (arith, next, at)) in
    record {
      are = subst (λ (ls : List (List (LogEntry ℕ))). AreLogsOf cells early ls) (sym (ap entries more ∙ map-append (λ (v : Vec (LogEntry ℕ)). v.items) logs (log ∷ [])))
          (logs_more cells early (entries logs) log.items i cell c.in-Some-count_at.count c.loop-cell.invariant.are (length-map logs (λ (v : Vec (LogEntry ℕ)). v.items) ∙ c.loop-cell.invariant.count)
          (slice_get_read cells (length cells) i cell refl c.loop-cell-test.true here) (ap (slice_get early) (sym place) ∙ sym c.in-Some-count_at.ensures)
          (record {
            staged = c.in_ok-log.ensures.staged;
            legal = c.in_ok-log.ensures.legal;
            entries = λ numbered. entries_of cell c.in-Some-count_at.count log.items
                (each_met cells i cell c.requires.met (slice_get_read cells (length cells) i cell refl c.loop-cell-test.true here))
                (early_at cells early i cell c.in-Some-count_at.count c.requires.early (slice_get_read cells (length cells) i cell refl c.loop-cell-test.true here)
                (ap (slice_get early) (sym place) ∙ sym c.in-Some-count_at.ensures))
                c.in_ok-log.ensures.staged numbered;
          }));
      count = let long = ap length more ∙ length-append logs (log ∷ []) in let before = c.loop-cell.invariant.count in omega (arith, long, before);
      spawn = let next = c.in-Some.ensures.1 in let at = c.loop-cell.invariant.spawn in omega (arith, next, at);
      made = let lt = at_within hs i c.in-Some-spawned._work (ap (slice_get hs) (sym spawn) ∙ sym c.in-Some-spawned.ensures.is) in omega (arith, lt);
    }

pub returns-in_default-spawned-clause-logs : goal.returns-in_default-spawned-clause-logs
returns-in_default-spawned-clause-logs c = c.loop-cell.invariant.are

pub returns-in_default-spawned-clause-each : goal.returns-in_default-spawned-clause-each
returns-in_default-spawned-clause-each c =
    let i = c.loop-cell.cell-index in
    let hs = c.args.script.now.spawns.items in
    let spawn : c.in-Some.next - 1 ≡ i = (let next = c.in-Some.ensures.1 in let at = c.loop-cell.invariant.spawn in omega (arith, next, at)) in
    let past : length hs ≤ i = none_behind hs i (ap (slice_get hs) (sym spawn) ∙ sym c.in_default-spawned.ensures.is) in
    let made = c.loop-cell.invariant.made in
    let count = c.loop-cell.invariant.count in
    omega (arith, past, made, count)

pub returns-in-None-clause-logs : goal.returns-in-None-clause-logs
returns-in-None-clause-logs c = c.loop-cell.invariant.are

pub returns-in-None-clause-each : goal.returns-in-None-clause-each
returns-in-None-clause-each c =
    let i = c.loop-cell.cell-index in
    let hs = c.args.script.now.spawns.items in
    let spawn : c.in-Some-checked_add.next - 1 ≡ i = (let next = c.in-Some-checked_add.ensures.1 in let at = c.loop-cell.invariant.spawn in omega (arith, next, at)) in
    let past : length hs ≤ i = none_behind hs i (ap (slice_get hs) (sym spawn) ∙ sym c.in-None.ensures.is) in
    let made = c.loop-cell.invariant.made in
    let count = c.loop-cell.invariant.count in
    omega (arith, past, made, count)
