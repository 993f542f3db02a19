use Rattle.std.proofs.Common.{◌≡◌, ◌-◌, [], ◌∷◌, ◌++◌, length, Some, ap, ◌∙◌, sym, subst, refl, rules, arith}
use Rattle.json.{specs.Json.{no_items, array, items, value, parse_map, after_end_array}, proofs.Grammar.{value-begin_array, items_more, items_end}, proofs.Trees.{none_before}}
use Rattle.net_plan.{specs.Gathered.{EachIs}, proofs.Gathered.{items_joined, items_joined_none, item_last, one_more_item, each_last}}
use Rattle.plain_json.proofs.Tokens.{value_shorter, no_end_array}
use Rattle.net_plan.proofs.gather.next_list.Goals as goal

pub items-init : goal.items-init
items-init g c =
    let ts = c.begin_array.new.self in
    let none : c.new-list.result.items ≡ [] = search rules in
    (length ts, no_items, omega arith, none_before (items (value (c.args.depth - 1)) (length ts) ts), omega arith, subst (EachIs (g.N.NextItem.IsOf c.args.each.now) no_items) (sym none) tt, search rules)

pub items-smaller : goal.items-smaller
items-smaller g c =
    let l = c.items in
    let same : c.take_end_array.new.self ≡ l.reader = grind arith in
    let took = c.in_ok-item.ensures in
    let lesser = value_shorter (c.args.depth - 1) c.take_end_array.new.self c.next_item.new.reader took.0 took.1 in
    let as_long = ap length same in
    omega arith

pub items-preserved : goal.items-preserved
items-preserved g c =
    let p = value (c.args.depth - 1) in
    let l = c.items in
    let n = l.invariant.0 in
    let before = l.invariant.1 in
    let r = c.next_item.new.reader in
    let x = c.in_ok-item.item in
    let same : c.take_end_array.new.self ≡ l.reader = grind arith in
    let took = c.in_ok-item.ensures in
    let j = took.0 in
    let read : p l.reader ≡ Some (j, r) = rw (← same) took.1 in
    let lesser = value_shorter (c.args.depth - 1) l.reader r j read in
    let enough = l.invariant.2 in
    let within = l.invariant.4 in
    let pushed : c.push.new.self.items ≡ l.list.items ++ x ∷ [] = search rules in
    let turn = items_more p n l.reader r j (omega arith) (no_end_array (c.args.depth - 1) l.reader j r read) read in (
      n - 1,
      item_last before j,
      omega arith,
      l.invariant.3 ∙ ap (parse_map (items_joined before)) turn ∙ one_more_item before j (items p (n - 1) r),
      omega arith,
      subst (EachIs (g.N.NextItem.IsOf c.args.each.now) (item_last before j)) (sym pushed) (each_last (g.N.NextItem.IsOf c.args.each.now) before l.list.items j x l.invariant.5 took.2),
      search rules,
    )

pub returns-clause-read : goal.returns-clause-read
returns-clause-read g c =
    let p = value (c.args.depth - 1) in
    let l = c.items in
    let n = l.invariant.0 in
    let before = l.invariant.1 in
    let r = c.take_end_array.new.self in
    let end : after_end_array l.reader ≡ Some r = grind arith in
    let opened = ap (value c.args.depth) c.in_ok-begin_array.ensures ∙ value-begin_array c.args.depth c.begin_array.new.self (omega arith) in
    let over = l.invariant.3 ∙ ap (parse_map (items_joined before)) (items_end p n l.reader r l.invariant.2 end) in (
      array before,
      opened ∙ ap (parse_map array) over ∙ ap (λ js. Some (array js, r)) (items_joined_none before),
      (before, refl, l.invariant.5),
    )
