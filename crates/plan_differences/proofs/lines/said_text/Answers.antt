use Rattle.std.proofs.Common.{rules, subst, codes, List, ◌≡◌, IfOk, string_bytes, ℕ, ◌++◌}
use Rattle.plan_differences.{specs.Facts.{fact_value}, specs.DifferenceLines.{said_text}}
use Rattle.plan_texts.specs.LineParts.{address_text}
use Rattle.plan_differences.proofs.lines.said_text.Goals as goal

pub returns-in_ok-address-in-Port : goal.returns-in_ok-address-in-Port
returns-in_ok-address-in-Port c =
    let words : List ℕ → List ℕ = λ address. codes "bus " ++ (c.in-Port.bus.now ++ (codes " address " ++ address)) in
    let Says : List ℕ → Type 0 = λ said. IfOk c.format-in-Port.result (λ text. string_bytes text ≡ said) in
    let same : words (address_text c.in-Port.address.now) ≡ said_text (fact_value c.args.fact.now) = search rules in
    subst Says same (subst (λ address. Says (words address)) c.in_ok-address-in-Port.ensures c.format-in-Port.ensures.ok)
