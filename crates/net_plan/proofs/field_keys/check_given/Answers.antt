use Rattle.std.{proofs.Common.{rules, ◌≡◌, true, false, not, is_some, refl, sym, ap, ◌∙◌}, specs.List.{list_any}}
use Rattle.serde_json.{specs.Data.{object}, specs.Find.{get}}
use Rattle.net_plan.{specs.Json.{lacks_key}, specs.Trees.{view, members_view}, proofs.Trees.{view-Object}, specs.Grammar.{keys_of, fields_view}, specs.declared.shape.Field.{out-Field}, proofs.FieldKeys.{lacked_seen}}
use Rattle.net_plan.proofs.field_keys.check_given.Goals as goal

pub returns-then-is_lacking : goal.returns-then-is_lacking
returns-then-is_lacking c =
    let fields = c.args.fields.now in
    let members = c.in-Object.field-0 in
    let seen : view c.args.value.now ≡ object (members_view members.items) = ap view c.in-Object.is ∙ view-Object members in
    let holds : c.is_lacking.result ≡ true = search rules in
    let lacked : lacks_key (keys_of (fields_view fields)) (members_view members.items) ≡ true = lacked_seen fields (members_view members.items) ∙ ap (λ d. list_any (λ f. not (is_some (get (out-Field f).key.now d))) fields) (sym seen) ∙ sym c.is_lacking.ensures ∙ holds in
    rw (seen, lacked) refl

pub returns : goal.returns
returns c =
    let fields = c.args.fields.now in
    let members = c.in-Object.field-0 in
    let seen : view c.args.value.now ≡ object (members_view members.items) = ap view c.in-Object.is ∙ view-Object members in
    let holds : c.is_lacking.result ≡ false = search rules in
    let lacked : lacks_key (keys_of (fields_view fields)) (members_view members.items) ≡ false = lacked_seen fields (members_view members.items) ∙ ap (λ d. list_any (λ f. not (is_some (get (out-Field f).key.now d))) fields) (sym seen) ∙ sym c.is_lacking.ensures ∙ holds in
    rw (seen, lacked) refl
