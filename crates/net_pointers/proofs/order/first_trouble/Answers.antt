use Rattle.std.proofs.Common.{rules, ◌≡◌, None, Some}
use Rattle.json.specs.Value.{value_view}
use Rattle.net_plan.{specs.Finding.{first_fault, located}, specs.Grammar.{grammar}, specs.Trees.{view}, proofs.Fitting.{none_fits}}
use Rattle.net_pointers.{specs.Asks.{asks}, specs.OrderOfTests.{AreKeysSingle}, proofs.Leads.{leads}, proofs.Unknown.{unknown_left}}
use Rattle.net_pointers.proofs.order.first_trouble.Goals as goal

pub returns-in-Some : goal.returns-in-Some
returns-in-Some c =
    let g = grammar c.args.asked.now.shape.now in
    let d = view c.args.value.now in
    let told : first_fault None g d ≡ Some (located c.in-Some.found) = search rules in
    (told, leads None g d (located c.in-Some.found) told)

pub returns-in-Some-4 : goal.returns-in-Some-4
returns-in-Some-4 c =
    let a = asks c.args.asked.now in
    let d = view c.args.value.now in
    let l = located c.in-Some-4.found in
    let keys : AreKeysSingle a (value_view c.args.value.now) = search rules in
    let told : first_fault (Some a.known) a.grammar d ≡ Some l = search rules in
    (keys, unknown_left a.known a.grammar d (none_fits None a.grammar d (search rules)) l told, (told, leads (Some a.known) a.grammar d l told))
