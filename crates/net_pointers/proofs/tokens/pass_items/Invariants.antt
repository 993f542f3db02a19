-- What is left decides.
use Rattle.std.proofs.Common.{◌≡◌, ◌-◌}
use Rattle.net_pointers.specs.PartTokens.{past_items}
use Rattle.net_pointers.proofs.tokens.pass_items.Given as goal

abbrev pub invariant-loop : goal.invariant-loop
invariant-loop l = past_items (l.count - l.counter) l.reader ≡ past_items l.count l.fn.reader
