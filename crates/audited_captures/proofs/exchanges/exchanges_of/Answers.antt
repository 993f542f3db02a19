use Rattle.std.{proofs.Common.{◌++◌, [], List, subst, sym, ◌∙◌, ap, map}, specs.Prelude.{option_to_list}}
use Rattle.audited_captures.{specs.Exchanges.{exchange_value, AreExchanges, Empty}, specs.declared.exchanges.Exchange.{Exchange}, proofs.ExchangeLaws.{next_exchange}}
use Rattle.audited_captures.proofs.exchanges.exchanges_of.Goals as goal

pub loop-i-init : goal.loop-i-init
loop-i-init c = subst (λ (xs : List Exchange). AreExchanges [] (map exchange_value xs)) (sym c.new-exchanges.ensures.items) Empty

pub loop-i-preserved : goal.loop-i-preserved
loop-i-preserved c =
    let items = c.args.words.now in
    next_exchange items c.loop-i.i c.index-words-i.result (map exchange_value c.loop-i.exchanges.items) _ c.loop-i-test.true c.index-words-i.is c.loop-i.invariant
    (c.in_ok-add.ensures ∙ ap (λ x. map exchange_value c.loop-i.exchanges.items ++ option_to_list x) c.exchange_of.ensures)
