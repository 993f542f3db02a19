use Rattle.std.{proofs.Common.{rules, ◌≡◌, Err, refl}, specs.Cow.{cow_str_bytes}}
use Rattle.command_answers.proofs.answer.give.Goals as goal

pub returns-in_err-print-clause-broken : goal.returns-in_err-print-clause-broken
returns-in_err-print-clause-broken g c =
    let failed = c.in_err-print in
    let ended : c.from_residual.result ≡ Err failed.field-0.0 = search rules in
    rw ended (
      failed.ensures.unwritten,
      record {
        text = cow_str_bytes c.args.answer.now.text;
        answer = refl;
        fails = failed.ensures.fails;
        beginning = search rules;
      },
    )
