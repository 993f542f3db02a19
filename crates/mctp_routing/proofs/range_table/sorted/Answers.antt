use Rattle.std.{proofs.Common.{ℕ, rules}, specs.List.Sorted.{IsPermutation}, proofs.lemmas.List.Sorted.{IsNonDecreasingBy-from_sort_by_key}}
use Rattle.mctp_routing.{specs.declared.row.TableRow.{TableRow}, proofs.Apart.{table_of, routes_moved}}
use Rattle.mctp_routing.proofs.range_table.sorted.Goals as goal

pub returns-clause-ordered : goal.returns-clause-ordered
returns-clause-ordered c =
    let first : TableRow → ℕ = λ row. row.first.value in
    let sorted = IsNonDecreasingBy-from_sort_by_key first _ c.sort_unstable_by_key.ensures.sorted (λ a r q k. search rules) in
    let same : IsPermutation c.args.rows.now c.sort_unstable_by_key.new.self.items = search rules in
    table_of c.args.rows.now c.sort_unstable_by_key.new.self.items c.requires same sorted

pub returns-clause-routes : goal.returns-clause-routes
returns-clause-routes c =
    let same : IsPermutation c.args.rows.now c.sort_unstable_by_key.new.self.items = search rules in
    routes_moved c.args.rows.now c.sort_unstable_by_key.new.self.items same
