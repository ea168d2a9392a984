-- All was read, or more than an input may have.
use Rattle.choice_run.proofs.ToolLemmas.{said_too_long}
use Rattle.choice_run.proofs.program.choose_source.Goals as goal
use Rattle.choice_run.specs.Tool.{ReadWhole}
use Rattle.std.proofs.Common.{subst, ◌∙◌}
use Rattle.std.specs.Prelude.{Err}
use Rattle.text_bytes.specs.Pump.{ReadsUpTo}
use Rattle.text_bytes.specs.declared.pump.ReadFault.{ReadFault}

pub returns-in-Ok-clause-ended : goal.returns-in-Ok-clause-ended
returns-in-Ok-clause-ended g c = ReadWhole _ (λ all l. let t = c.in-Ok.ensures.told all l in (c.as_slice.ensures.value ∙ t.0, t.1)) c.answer.ensures.ended

pub returns-in-Err-TooLong-clause-ended : goal.returns-in-Err-TooLong-clause-ended
returns-in-Err-TooLong-clause-ended g c =
    said_too_long c.args.steps (g.S.Source.left c.args.source.now) (g.S.Source.left c.read_up_to.new.source) _ _ c.say.result
    (λ all l. subst (λ (e : ReadFault). ReadsUpTo 16777216 all (g.S.Source.left c.read_up_to.new.source) (Err e)) c.in-Err-TooLong.field-0-is (c.in-Err-TooLong.ensures.told all l)) c.say.ensures.told
