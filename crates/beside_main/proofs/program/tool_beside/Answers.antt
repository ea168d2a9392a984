use Rattle.std.proofs.Common.{rules, ◌∙◌}
use Rattle.beside_main.proofs.ToolLemmas.{is_due}
use Rattle.beside_main.specs.Tool.{ReadWhole, SaidTooLong, SaidUsage, Unread}
use Rattle.beside_main.proofs.program.tool_beside.Goals as goal

pub returns-in_default-clause-ended : goal.returns-in_default-clause-ended
returns-in_default-clause-ended g c = SaidUsage c.in_default.ensures c.say.ensures.said

pub returns-in_default-clause-due : goal.returns-in_default-clause-due
returns-in_default-clause-due g c =
    let left = g.S.Source.left c.args.source.now in
    is_due _ left left (g.K.Sink.held c.args.sink.now) (g.K.Sink.held c.say.new.sink) c.say.result (SaidUsage c.in_default.ensures c.say.ensures.said)

pub returns-in-Ok-clause-ended : goal.returns-in-Ok-clause-ended
returns-in-Ok-clause-ended g c =
    ReadWhole c.in-Some.steps c.in-Some.ensures _ (λ all l. let t = c.in-Ok.ensures.told all l in (c.as_slice.ensures.value ∙ t.0, t.1)) c.report_on.ensures.ended

pub returns-in-Ok-clause-due : goal.returns-in-Ok-clause-due
returns-in-Ok-clause-due g c =
    is_due _ (g.S.Source.left c.args.source.now) (g.S.Source.left c.read_all.new.source) (g.K.Sink.held c.args.sink.now) (g.K.Sink.held c.report_on.new.sink) c.report_on.result
    (ReadWhole c.in-Some.steps c.in-Some.ensures _ (λ all l. let t = c.in-Ok.ensures.told all l in (c.as_slice.ensures.value ∙ t.0, t.1)) c.report_on.ensures.ended)

pub returns-in-Err-NoMemory-clause-ended : goal.returns-in-Err-NoMemory-clause-ended
returns-in-Err-NoMemory-clause-ended g c = Unread c.in-Some.steps c.in-Some.ensures (search rules) (search rules)

pub returns-in-Err-Failed-clause-ended : goal.returns-in-Err-Failed-clause-ended
returns-in-Err-Failed-clause-ended g c = Unread c.in-Some.steps c.in-Some.ensures (search rules) (search rules)

pub returns-in-Err-TooLong-clause-ended : goal.returns-in-Err-TooLong-clause-ended
returns-in-Err-TooLong-clause-ended g c = SaidTooLong c.in-Some.steps c.in-Some.ensures (search rules) (search rules)

pub returns-in-Err-TooLong-clause-due : goal.returns-in-Err-TooLong-clause-due
returns-in-Err-TooLong-clause-due g c =
    is_due _ (g.S.Source.left c.args.source.now) (g.S.Source.left c.read_all.new.source) (g.K.Sink.held c.args.sink.now) (g.K.Sink.held c.say-in-Err-TooLong.new.sink) c.say-in-Err-TooLong.result
    (SaidTooLong c.in-Some.steps c.in-Some.ensures (search rules) (search rules))
