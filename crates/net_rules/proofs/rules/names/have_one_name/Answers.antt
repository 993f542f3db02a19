use Rattle.std.{proofs.Common.{◌≡◌, ℕ, ◌<◌, length, get_or, Some, sym, ap, ◌∙◌, string_bytes}, specs.Prelude.{option_map}, specs.Cmp.Lexicographic.{bytes_decides}, proofs.lemmas.Option.{slice_get-get_or, same_Some}}
use Rattle.plan_values.{specs.declared.plan.Plan.{Plan}, specs.declared.nodes.Node.{Node}}
use Rattle.net_rules.specs.Names.{name_of, HaveOneName}
use Rattle.net_rules.proofs.rules.names.have_one_name.Goals as goal

name_at : (plan : Plan) (n : ℕ) (d : Node) → n < length plan.nodes.items → d ≡ get_or plan.nodes.items n d → name_of plan n ≡ Some (string_bytes d.name.text)
name_at plan n d lt is =
    ap (option_map (λ (node : Node). string_bytes node.name.text)) (slice_get-get_or plan.nodes.items n d lt ∙ ap Some (sym is))

pub returns : goal.returns
unfolding HaveOneName
returns c =
    let plan = c.args.plan.now in
    let one = c.index.result.now in
    let other = c.index-2.result.now in
    let d = bytes_decides (string_bytes one.name.text) (string_bytes other.name.text) in
    let first = name_at plan c.args.node one c.requires.first c.index.ensures in
    let second = name_at plan c.args.other other c.requires.second c.index-2.ensures in (
      λ h. (string_bytes one.name.text, first, second ∙ ap Some (sym (d.0 (sym c.eq.ensures ∙ h)))),
      λ (name, a, b). c.eq.ensures ∙ d.1 (same_Some _ _ (sym first ∙ a) ∙ sym (same_Some _ _ (sym second ∙ b))),
    )
