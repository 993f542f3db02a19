use Rattle.std.proofs.Common.{◌∷◌, ◌+◌, drop, map, get_or, sym, ap, ◌∙◌}
use Rattle.json.{specs.Tape.{node_token}, specs.declared.tape.Node.TheVariants.{Object}}
use Rattle.net_pointers.{specs.PartTokens.{from_part, past_key, past_members}, proofs.Links.{here, and_then_parts, key_passed, no_part}}
use Rattle.net_pointers.proofs.tape.enter.Goals as goal

pub returns-in-Array : goal.returns-in-Array
returns-in-Array c = λ ts e.
    let ns = c.args.nodes.now in
    let at = here ns c.args.at (Object 0) c.if-nodes-at.false ∙ ap (λ n. node_token n ∷ drop (c.args.at + 1) (map node_token ns)) c.in-Array.is in
    c.after_items.ensures ts (ap (from_part c.args.index) (sym at) ∙ e)

pub returns-in-Object : goal.returns-in-Object
returns-in-Object c = λ ts e.
    let ns = c.args.nodes.now in
    let all = map node_token ns in
    let at = here ns c.args.at (Object 0) c.if-nodes-at.false ∙ ap (λ n. node_token n ∷ drop (c.args.at + 1) all) c.in-Object.is in
    let s = and_then_parts past_key (past_members c.args.index (drop (c.args.at + 1) all)) ts (ap (from_part c.args.index) (sym at) ∙ e) in
    let same = c.after_members.ensures s.0 s.1 in
    key_passed s.0 (drop c.next.result all) ts (λ t vs is. c.next.ensures t vs (sym same ∙ is)) s.2

pub returns-in_default : goal.returns-in_default
returns-in_default c = λ ts e.
    let ns = c.args.nodes.now in
    let all = map node_token ns in
    absurd (no_part (get_or ns c.args.at (Object 0)) c.args.index (drop (c.args.at + 1) all) ts c.in_default.not-Object c.in_default.not-Array (ap (from_part c.args.index) (sym (here ns c.args.at (Object 0) c.if-nodes-at.false)) ∙ e))
