use Rattle.std.proofs.Common.{rules, ◌≡◌, true, false, refl, sym, ap, ◌∙◌}
use Rattle.serde_json.specs.Data.{object}
use Rattle.net_plan.{specs.Json.{has_unknown_key}, specs.Trees.{view, members_view}, proofs.Trees.{view-Object}, specs.Grammar.{keys_of, fields_view}, proofs.FieldKeys.{unknown_seen}}
use Rattle.net_plan.proofs.field_keys.check_known.Goals as goal

pub returns-then-has_unknown_key : goal.returns-then-has_unknown_key
returns-then-has_unknown_key c =
    let members = c.in-Object.members in
    let seen : view c.args.value.now ≡ object (members_view members.items) = ap view c.in-Object.is ∙ view-Object members in
    let holds : c.has_unknown_key.result ≡ true = search rules in
    let unknown : has_unknown_key (keys_of (fields_view c.args.fields.now)) (members_view members.items) ≡ true = unknown_seen c.args.fields.now members.items ∙ sym c.has_unknown_key.ensures ∙ holds in
    rw (seen, unknown) refl

pub returns : goal.returns
returns c =
    let members = c.in-Object.members in
    let seen : view c.args.value.now ≡ object (members_view members.items) = ap view c.in-Object.is ∙ view-Object members in
    let holds : c.has_unknown_key.result ≡ false = search rules in
    let unknown : has_unknown_key (keys_of (fields_view c.args.fields.now)) (members_view members.items) ≡ false = unknown_seen c.args.fields.now members.items ∙ sym c.has_unknown_key.ensures ∙ holds in
    rw (seen, unknown) refl
