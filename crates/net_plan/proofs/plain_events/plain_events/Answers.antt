use Rattle.std.proofs.Common.{◌≡◌, ℕ, List, map, ap, ◌∙◌}
use Rattle.json.specs.Json.{object}
use Rattle.net_plan.{specs.Names.{index_of}, specs.NameIndexes.{noted}, specs.declared.name_index.NameIndex.{NameIndex}, proofs.BusNames.{node_names_of}, proofs.Gathered.{if_some}}
use Rattle.plan_values.specs.PlanValues.{plan_value, node_value, node_names, name_bytes}
use Rattle.net_plan.proofs.plain_events.plain_events.Goals as goal

pub returns : goal.returns
returns c =
    let read = c.in_ok-read_text.ensures.read in
    let ms = read.0 in
    let nodes = c.args.plan.now.nodes.items in
    let kept : c.read_text.new.gathered.nodes.now ≡ c.in-Ok.index = c.read_text.ensures.kept ∙ c.none-parts.ensures.nodes in
    let named : map (λ n. name_bytes n.name) c.as_slice.result.now ≡ node_names (map node_value nodes) = ap (map (λ n. name_bytes n.name)) c.as_slice.ensures.value ∙ node_names_of nodes in
    let placed : (q : List ℕ) → noted c.read_text.new.gathered.nodes.now q ≡ index_of (node_names (map node_value nodes)) q = λ q. ap (λ (p : NameIndex). noted p q) kept ∙ c.in-Ok.ensures.placed q ∙ ap (λ ns. index_of ns q) named in
    if_some c.events.result (λ x told. let is = told ms (read.2 c.none-parts.ensures.none) in (object ms, read.1, is.1, is.0 (plan_value c.args.plan.now) placed)) c.events.ensures
