use Rattle.std.proofs.Common.{List, ℕ, length, string_bytes, subst}
use Rattle.net_rules.specs.declared.mixed_loop.Side.{Side}
use Rattle.explain_commands.{specs.MoveRows.{AreHopsTold, file_of}, proofs.MovedTexts.{loop_told}}
use Rattle.explain_commands.proofs.explain.moved.rows.loop_text.Goals as goal

pub returns : goal.returns
returns c =
    let before = file_of c.args.name.now c.args.before.now in
    let after = file_of c.args.new_name.now c.args.after.now in
    let loop = c.args.found.now in
    let hops = string_bytes c.in_ok-hops.hops in
    let nodes_so = subst (λ (nodes : List ℕ). AreHopsTold before after loop.eid.value nodes c.deref-2.result.now (length c.deref-2.result.now) hops) c.deref.ensures.value c.in_ok-hops.ensures in
    let each = subst (λ (sides : List Side). AreHopsTold before after loop.eid.value loop.nodes.items sides (length sides) hops) c.deref-2.ensures.value nodes_so in
    loop_told string_bytes before after loop hops (string_bytes c.in_ok-why.why) c.format.result each c.format.ensures.ok
