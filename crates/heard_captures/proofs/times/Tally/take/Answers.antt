use Rattle.std.{proofs.Common.{◌∙◌, sym, subst}, specs.Prelude.{Option, Some, None}}
use Rattle.heard_captures.{specs.Times.{Counts}, proofs.TimesLaws.{other_messages, first_time}, specs.declared.times.Times.{Times}}
use Rattle.heard_captures.proofs.times.Tally.take.Goals as goal

pub returns-in-Some-clause-counts : goal.returns-in-Some-clause-counts
returns-in-Some-clause-counts c = λ new i is_new counts.
    subst (λ (o : Option Times). Counts o new i is_new) (sym (sym c.remove.ensures.value ∙ c.in-Some.is)) counts

pub returns-in-None-clause-counts : goal.returns-in-None-clause-counts
returns-in-None-clause-counts c = λ new i is_new counts.
    subst (λ (o : Option Times). Counts o new i is_new) (sym (sym c.remove.ensures.value ∙ c.in-None.is)) (first_time c.new.result new i is_new c.new.ensures counts)

pub returns-in-Some-clause-others : goal.returns-in-Some-clause-others
returns-in-Some-clause-others c = other_messages c.args.self.now (record { by_message = c.remove.new.self }) c.args.bytes.now None c.remove.ensures.updates

pub returns-in-None-clause-others : goal.returns-in-None-clause-others
returns-in-None-clause-others c = other_messages c.args.self.now (record { by_message = c.remove.new.self }) c.args.bytes.now None c.remove.ensures.updates
