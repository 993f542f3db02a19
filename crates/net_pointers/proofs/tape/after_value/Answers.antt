use Rattle.std.{proofs.Common.{map, get_or, option_map, sym, ap, ◌∙◌, subst, arith, ⊎_elim}, proofs.lemmas.List.{get_or_default, length-map}, proofs.Math.ListN.{drop_of_length-le}}
use Rattle.json.{specs.Json.{skip_value}, specs.Tape.{node_token, LinkAt}, specs.declared.tape.Node.TheVariants.{Object, Null}, proofs.Found.{not_found}, proofs.Grammar.{value_is}}
use Rattle.net_pointers.proofs.Links.{here, one_passed, linked_passed}
use Rattle.net_pointers.proofs.tape.after_value.Goals as goal

pub returns-in_default : goal.returns-in_default
returns-in_default c ts e =
    let ns = c.args.nodes.now in
    one_passed (get_or ns c.args.at (Object 0)) _ ts (λ a z. grind arith) (λ a z. grind arith) (ap (skip_value 127) (sym (here ns c.args.at (Object 0) c.if-at-nodes.true)) ∙ e)

pub returns-in-Object : goal.returns-in-Object
returns-in-Object c ts e =
    let ns = c.args.nodes.now in
    let all = map node_token ns in
    let linked = subst (LinkAt all c.args.at) (get_or_default ns c.args.at Null (Object 0) c.if-at-nodes.true) (c.requires c.args.at (omega arith) c.if-at-nodes.true) in
    linked_passed all c.args.at c.in-Object.end ts (⊎_elim (λ is. subst (LinkAt all c.args.at) is linked) (λ is. subst (LinkAt all c.args.at) is linked) c.in-Object.is) e

pub returns-in-Object-2 : goal.returns-in-Object-2
returns-in-Object-2 c ts e =
    let ns = c.args.nodes.now in
    let all = map node_token ns in
    let linked = subst (LinkAt all c.args.at) (get_or_default ns c.args.at Null (Object 0) c.if-at-nodes.true) (c.requires c.args.at (omega arith) c.if-at-nodes.true) in
    linked_passed all c.args.at c.in-Object.end ts (⊎_elim (λ is. subst (LinkAt all c.args.at) is linked) (λ is. subst (LinkAt all c.args.at) is linked) c.in-Object.is) e

pub returns-else-at-nodes : goal.returns-else-at-nodes
returns-else-at-nodes c ts e =
    let all = map node_token c.args.nodes.now in
    let past = drop_of_length-le all (omega (arith, length-map c.args.nodes.now node_token, c.if-at-nodes.false)) in
    not_found ts (sym (ap (option_map (λ z. z.1)) (value_is 127 _)) ∙ ap (skip_value 127) (sym past) ∙ e)
