use Rattle.std.proofs.Common.{◌≡◌, ◌-◌, [], ◌∷◌, ◌++◌, length, Some, None, Global, sym, ap, ◌∙◌, arith, rules}
use Rattle.json.{specs.Json.{Json, array, object, parse_map, read_key, items, members, value}, specs.Value.{value_view}, specs.declared.value.Value.{String, Number, Null, the_lemmas}, proofs.Grammar.{value_is, value-begin_array, value-begin_object, read_key-shorter, items_end, items_more, members_end, members_more}, proofs.Trees.{items_before, members_before, items_before-no_items, members_before-no_members, one_more_item, one_more_member, view-Array, view-Object}}
use Rattle.plain_json.proofs.Tokens.{value_shorter, no_end_array}
use Rattle.plain_json.proofs.value.+read.Goals as goal

pub read_items-items-smaller : goal.read_items-items-smaller
read_items-items-smaller t c =
    let same : c.take_end_array.new.self ≡ c.items.reader = grind arith in
    let as_long = ap length same in
    let lesser = value_shorter c.args.depth c.take_end_array.new.self c.read_value.new.reader _ c.in_ok-item.ensures in
    omega arith

pub read_items-items-preserved : goal.read_items-items-preserved
read_items-items-preserved t c =
    let p = value c.args.depth in
    let l = c.items in
    let n = l.invariant.0 in
    let v = c.in_ok-item.item in
    let r = c.read_value.new.reader in
    let same : c.take_end_array.new.self ≡ l.reader = grind arith in
    let read : p l.reader ≡ Some (value_view v, r) = rw (← same) c.in_ok-item.ensures in
    let lesser = value_shorter c.args.depth l.reader r (value_view v) read in
    let enough = l.invariant.1 in
    let within = l.invariant.2 in
    let pushed : c.push.new.self.items ≡ l.found.items ++ v ∷ [] = search rules in
    let turn = items_more p n l.reader r (value_view v) (omega arith) (no_end_array c.args.depth l.reader (value_view v) r read) read in (
      n - 1,
      omega arith,
      omega arith,
      l.invariant.3 ∙ ap (parse_map (items_before l.found.items)) turn ∙ one_more_item l.found.items v _ ∙ ap (λ vs. parse_map (items_before vs) (items p (n - 1) r)) (sym pushed),
    )

pub read_items-returns : goal.read_items-returns
read_items-returns t c =
    let p = value c.args.depth in
    let l = c.items in
    let r = c.take_end_array.new.self in
    l.invariant.3 ∙ ap (parse_map (items_before l.found.items)) (items_end p l.invariant.0 l.reader r l.invariant.1 (grind arith)) ∙ ap (λ js. Some (js, r)) (items_before-no_items l.found.items)

pub read_members-members-smaller : goal.read_members-members-smaller
read_members-members-smaller t c =
    let k = c.in-Some.key.now in
    let s = c.next_key.new.self in
    let key : read_key c.members.reader ≡ Some (Some k, s) = grind arith in
    let less = read_key-shorter c.members.reader (Some k) s key in
    let lesser = value_shorter c.args.depth s c.read_value.new.reader _ c.in_ok-member.ensures in
    omega arith

pub read_members-members-preserved : goal.read_members-members-preserved
read_members-members-preserved t c =
    let p = value c.args.depth in
    let l = c.members in
    let n = l.invariant.0 in
    let k = c.in-Some.key.now in
    let s = c.next_key.new.self in
    let v = c.in_ok-member.member in
    let r = c.read_value.new.reader in
    let key : read_key l.reader ≡ Some (Some k, s) = grind arith in
    let less = read_key-shorter l.reader (Some k) s key in
    let lesser = value_shorter c.args.depth s r (value_view v) c.in_ok-member.ensures in
    let enough = l.invariant.1 in
    let within = l.invariant.2 in
    let pushed : c.push.new.self.items ≡ l.found.items ++ (c.in-Some.key, v) ∷ [] = search rules in
    let turn = members_more p n k l.reader s r (value_view v) (omega arith) key c.in_ok-member.ensures in (
      n - 1,
      omega arith,
      omega arith,
      l.invariant.3 ∙ ap (parse_map (members_before l.found.items)) turn ∙ one_more_member l.found.items (c.in-Some.key, v) _ ∙ ap (λ ms. parse_map (members_before ms) (members p (n - 1) r)) (sym pushed),
    )

pub read_members-returns : goal.read_members-returns
read_members-returns t c =
    let p = value c.args.depth in
    let l = c.members in
    let r = c.next_key.new.self in
    l.invariant.3 ∙ ap (parse_map (members_before l.found.items)) (members_end p l.invariant.0 l.reader r l.invariant.1 (grind arith)) ∙ ap (λ ms. Some (ms, r)) (members_before-no_members l.found.items)

pub read_value-returns-in_ok-read_members-in-123 : goal.read_value-returns-in_ok-read_members-in-123
read_value-returns-in_ok-read_members-in-123 t c =
    let opened = ap (value c.args.depth) c.in_ok-begin_object-in-123.ensures ∙ value-begin_object c.args.depth c.begin_object.new.self (omega arith) in
    let found = c.in_ok-read_members-in-123 in
    opened ∙ ap (parse_map object) found.ensures ∙ ap (λ j. Some (j, c.read_members.new.reader)) (sym (view-Object found.field-0))

pub read_value-returns-in_ok-read_items-in-91 : goal.read_value-returns-in_ok-read_items-in-91
read_value-returns-in_ok-read_items-in-91 t c =
    let opened = ap (value c.args.depth) c.in_ok-begin_array-in-91.ensures ∙ value-begin_array c.args.depth c.begin_array.new.self (omega arith) in
    let found = c.in_ok-read_items-in-91 in
    opened ∙ ap (parse_map array) found.ensures ∙ ap (λ j. Some (j, c.read_items.new.reader)) (sym (view-Array found.field-0))

pub read_value-returns-in_ok-next_string-in-34 : goal.read_value-returns-in_ok-next_string-in-34
read_value-returns-in_ok-next_string-in-34 t c =
    let text = c.in_ok-next_string-in-34 in
    let seen : value_view {A = Global} (String text.field-0) ≡ Json.string text.field-0.now = search (rules, the_lemmas) in
    ap (value c.args.depth) text.ensures ∙ value_is c.args.depth _ ∙ ap (λ j. Some (j, c.next_string.new.self)) (sym seen)

pub read_value-returns-in_ok-next_null-in-110 : goal.read_value-returns-in_ok-next_null-in-110
read_value-returns-in_ok-next_null-in-110 t c =
    let seen : value_view {A = Global} Null ≡ Json.null = search (rules, the_lemmas) in
    ap (value c.args.depth) c.in_ok-next_null-in-110.ensures ∙ value_is c.args.depth _ ∙ ap (λ j. Some (j, c.next_null.new.self)) (sym seen)

pub read_value-returns-in_ok-next_numeral-in_default : goal.read_value-returns-in_ok-next_numeral-in_default
read_value-returns-in_ok-next_numeral-in_default t c =
    let text = c.in_ok-next_numeral-in_default in
    let seen : value_view {A = Global} (Number text.field-0) ≡ Json.number text.field-0.now = search (rules, the_lemmas) in
    ap (value c.args.depth) text.ensures ∙ value_is c.args.depth _ ∙ ap (λ j. Some (j, c.next_numeral.new.self)) (sym seen)
