-- What is left decides.
use Rattle.std.proofs.Common.{◌≡◌, ◌-◌}
use Rattle.net_pointers.specs.PartTokens.{past_members}
use Rattle.net_pointers.proofs.tokens.pass_members.Given as goal

abbrev pub invariant-loop : goal.invariant-loop
invariant-loop l = past_members (l.count - l.counter) l.reader ≡ past_members l.count l.fn.reader
