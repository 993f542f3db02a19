use Rattle.std.proofs.Common.{rules, Some, None}
use Rattle.net_pointers.proofs.Beginnings.{part_found, no_part}
use Rattle.net_pointers.proofs.offset.offset_of_part.Goals as goal

pub returns-in-Some-clause-stands : goal.returns-in-Some-clause-stands
returns-in-Some-clause-stands c =
    search (rules, part_found c.args.text.now c.args.path.now c.in-Some.left c.offset_before.result (search rules) (search rules))

pub returns-in-Some-clause-found : goal.returns-in-Some-clause-found
returns-in-Some-clause-found c =
    search (rules, part_found c.args.text.now c.args.path.now c.in-Some.left c.offset_before.result (search rules) (search rules))

pub returns-in-None-clause-found : goal.returns-in-None-clause-found
returns-in-None-clause-found c = λ tree part whole at.
    absurd (no_part c.args.text.now c.args.path.now (search rules) tree part whole at)
