use Rattle.std.{proofs.Common.{rules, ◌≡◌, ◌+◌, get_or, Some, true, sym, ap, ◌∙◌, subst, arith}, proofs.lemmas.Grind.{common_steps}}
use Rattle.json.{specs.Json.{array, object}, proofs.Trees.{view-Object}, specs.Strict.{keys}, specs.Value.{value_view, items_view, members_view}}
use Rattle.net_plan.{specs.Names.{names_differ}, specs.SingleKeys.{single}}
use Rattle.net_pointers.{specs.Doubles.{IsFirstDoubled, part_at, NoneBefore, IsFirstDoubledKey}, proofs.Doubling.{item_of_view, member_of_view, Passed, passed_more, part_first, no_object, keys_once, none_before_whole}}
use Rattle.net_pointers.proofs.doubled.+doubled.Goals as goal

pub doubled_in_items-returns-in-Some : goal.doubled_in_items-returns-in-Some
doubled_in_items-returns-in-Some t c =
    let x = c.item-item.result in
    let vs = c.deref-item-items.result.now in
    let i = c.loop-index.index in
    let h : IsFirstDoubledKey (value_view x) c.in-Some.doubled = search rules in
    subst (λ vs. IsFirstDoubledKey (array (items_view vs)) c.in_ok-under.field-0) c.deref-item-items.ensures.value (part_first (array (items_view vs)) (value_view (get_or vs i x)) i c.in-Some.doubled c.in_ok-under.field-0 (item_of_view vs i x c.loop-index-test.true) (subst (λ v. IsFirstDoubledKey (value_view v) c.in-Some.doubled) c.item-item.is h) (search rules) (search rules) (no_object (items_view vs)) (subst (λ vs. Passed (array (items_view vs)) i) (sym c.deref-item-items.ensures.value) c.loop-index.invariant.1))

pub doubled_in_members-returns-in-Some : goal.doubled_in_members-returns-in-Some
doubled_in_members-returns-in-Some t c =
    let x = c.member-item.result in
    let ms = c.deref-member-items.result.now in
    let i = c.loop-index.index in
    let h : IsFirstDoubledKey (value_view x.1) c.in-Some.doubled = search rules in
    let once : names_differ (keys (members_view ms)) ≡ true = subst (λ ms. names_differ (keys (members_view ms)) ≡ true) (sym c.deref-member-items.ensures.value) c.requires in
    subst (λ ms. IsFirstDoubledKey (object (members_view ms)) c.in_ok-under.field-0) c.deref-member-items.ensures.value (part_first (object (members_view ms)) (value_view (get_or ms i x).1) i c.in-Some.doubled c.in_ok-under.field-0 (member_of_view ms i x c.loop-index-test.true) (subst (λ m. IsFirstDoubledKey (value_view m.1) c.in-Some.doubled) c.member-item.is h) (search rules) (search rules) (λ os. keys_once (members_view ms) os once) (subst (λ ms. Passed (object (members_view ms)) i) (sym c.deref-member-items.ensures.value) c.loop-index.invariant.1))

pub doubled_key-returns-in-Some : goal.doubled_key-returns-in-Some
doubled_key-returns-in-Some t c =
    let j = value_view c.args.value.now in
    let ms = members_view c.in-Object.members.items in
    let whole : j ≡ object ms = ap value_view c.in-Object.is ∙ view-Object c.in-Object.members in
    let twice : IsFirstDoubled (keys ms) c.in-Some.members = search rules in
    let here : part_at c.new.result.items j ≡ Some (object ms) = ap (λ p. part_at p j) c.new.ensures.items ∙ ap Some whole in
    ((ms, here, twice), subst (NoneBefore j) (sym c.new.ensures.items) (none_before_whole j))

pub doubled_in_items-loop-index-preserved : goal.doubled_in_items-loop-index-preserved
doubled_in_items-loop-index-preserved t c =
    let x = c.item-item.result in
    let vs = c.deref-item-items.result.now in
    let i = c.loop-index.index in
    let once : single (value_view x) ≡ true = search rules in
    let passed : Passed (array (items_view vs)) i = subst (λ vs. Passed (array (items_view vs)) i) (sym c.deref-item-items.ensures.value) c.loop-index.invariant.1 in
    let more = passed_more (array (items_view vs)) (value_view (get_or vs i x)) i (item_of_view vs i x c.loop-index-test.true) passed (subst (λ v. single (value_view v) ≡ true) c.item-item.is once) in
    (grind (arith, common_steps), subst (λ vs. Passed (array (items_view vs)) (i + 1)) c.deref-item-items.ensures.value more)

pub doubled_in_members-loop-index-preserved : goal.doubled_in_members-loop-index-preserved
doubled_in_members-loop-index-preserved t c =
    let x = c.member-item.result in
    let ms = c.deref-member-items.result.now in
    let i = c.loop-index.index in
    let once : single (value_view x.1) ≡ true = search rules in
    let passed : Passed (object (members_view ms)) i = subst (λ ms. Passed (object (members_view ms)) i) (sym c.deref-member-items.ensures.value) c.loop-index.invariant.1 in
    let more = passed_more (object (members_view ms)) (value_view (get_or ms i x).1) i (member_of_view ms i x c.loop-index-test.true) passed (subst (λ m. single (value_view m.1) ≡ true) c.member-item.is once) in
    (grind (arith, common_steps), subst (λ ms. Passed (object (members_view ms)) (i + 1)) c.deref-member-items.ensures.value more)
