use Rattle.std.proofs.Common.{rules, Some}
use Rattle.net_pointers.proofs.Short.{key_fits}
use Rattle.net_pointers.proofs.offset.left_at_key.Goals as goal

pub count_left-requires : goal.count_left-requires
count_left-requires c =
    key_fits c.args.text.now c.args.path.now c.args.member c.follow_to_key.new.reader (search rules) (search rules)
