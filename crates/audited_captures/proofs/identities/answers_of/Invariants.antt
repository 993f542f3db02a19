use Rattle.std.proofs.Common.{◌≡◌, map, take}
use Rattle.audited_captures.{specs.Answers.{answer_values}, specs.Exchanges.{exchange_value}, specs.Identities.{answers_of}}
use Rattle.audited_captures.proofs.identities.answers_of.Given as goal

abbrev pub invariant-loop-exchange : goal.invariant-loop-exchange
invariant-loop-exchange l = answer_values l.answers.items ≡ answers_of l.eid.value (map exchange_value (take l.exchange-index l.exchanges))
