use Rattle.std.{proofs.Common.{rules, of_calls}, proofs.lemmas.List.Elements.{filter_from_retain}}
use Rattle.net_rules.specs.Certificates.{has_ranges}
use Rattle.net_rules.proofs.certifying.exact_ranks.keep_ranked.Goals as goal

pub returns : goal.returns
returns c = filter_from_retain _ has_ranges (λ p x b q says. search (rules, of_calls)) _ _ _ c.retain.ensures.filtered
