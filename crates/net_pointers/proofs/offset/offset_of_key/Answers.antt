use Rattle.std.proofs.Common.{rules, Some, None}
use Rattle.net_pointers.{proofs.Beginnings.{key_found, no_key_within}, proofs.Offsets.{found_key_leads}}
use Rattle.net_pointers.proofs.offset.offset_of_key.Goals as goal

pub returns-in-Some-clause-leads : goal.returns-in-Some-clause-leads
returns-in-Some-clause-leads c =
    search (rules, found_key_leads c.args.text.now c.args.path.now c.args.member c.offset_before.result (key_found c.args.text.now c.args.path.now c.args.member c.in-Some.left c.offset_before.result (search rules) (search rules)))

pub returns-in-Some-clause-found : goal.returns-in-Some-clause-found
returns-in-Some-clause-found c =
    search (rules, key_found c.args.text.now c.args.path.now c.args.member c.in-Some.left c.offset_before.result (search rules) (search rules))

pub returns-in-None-clause-found : goal.returns-in-None-clause-found
returns-in-None-clause-found c = λ tree ms whole at within.
    absurd (no_key_within c.args.text.now c.args.path.now c.args.member (search rules) tree ms whole at within)
