use Rattle.std.{proofs.Common.{◌≡◌, ◌∙◌}, specs.Cow.{cow_str_bytes}}
use Rattle.play_commands.{specs.Scripting.{no_script}, proofs.Scripted.{other_told}}
use Rattle.play_commands.proofs.script.answer_by_text.Goals as goal

pub returns-in_ok-to_string-in-Other-clause-answers : goal.returns-in_ok-to_string-in-Other-clause-answers
returns-in_ok-to_string-in-Other-clause-answers c =
    let told : cow_str_bytes c.fault-in-Other.result.text ≡ no_script = c.fault-in-Other.ensures.text ∙ c.in_ok-to_string-in-Other.ensures.ok in
    other_told c.args.script.now c.args.plan.now c.args.certificate.now c.in-Ok.checked c.args.node c.deref.result.now c.in_ok-judge-in-Ok.field-0 c.fault-in-Other.result
    c.in-Ok.ensures.accepted (record { named = c.requires.named; first = c.requires.first }) c.in-Ok.ensures.checked c.in_ok-judge-in-Ok.ensures.judged c.in-Other.is
    c.fault-in-Other.ensures.status told
