use Rattle.std.proofs.Common.{◌≡◌, IfOk, option_map, sym, ap, ◌∙◌, subst}
use Rattle.net_plan.{specs.Trees.{view}, specs.Finding.{inside, located}, specs.Grammar.{grammar, known_seen}, proofs.FieldKeys.{seen_list}}
use Rattle.net_plan.proofs.find.+first.Goals as goal

pub fault_inside-returns-in-List : goal.fault_inside-returns-in-List
fault_inside-returns-in-List t c =
    subst (λ g. IfOk c.fault_in_list.result (λ found. option_map located found ≡ inside (known_seen c.args.known) g (view c.args.value.now))) (sym (ap grammar c.in-List.is ∙ seen_list c.in-List.most c.in-List.item)) c.fault_in_list.ensures
