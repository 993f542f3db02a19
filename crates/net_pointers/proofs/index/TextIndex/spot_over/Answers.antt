use Rattle.std.proofs.Common.{rules, ◌≡◌, ◌∷◌, drop, map, ap, ◌∙◌}
use Rattle.json.{specs.Lex.{tokens}, specs.Tape.{node_token}}
use Rattle.net_pointers.{specs.PartTokens.{from_path}, specs.Spots.{AreSpots}, proofs.Indexed.{part_tokens, part_spot}}
use Rattle.net_pointers.proofs.index.TextIndex.spot_over.Goals as goal

pub returns-in_err-at : goal.returns-in_err-at
returns-in_err-at c = λ tree part whole at.
    let same : map node_token c.nodes.result.now ≡ tokens c.args.self.now = c.nodes.ensures.tokens ∙ c.requires in
    let p = part_tokens c.args.self.now c.args.path.now tree part whole at in
    absurd (c.in_err-at.ensures (p.0 ∷ p.1) (ap (from_path c.args.path.now) same ∙ p.2))

pub returns : goal.returns
returns c = λ tree part whole at.
    let same : map node_token c.nodes.result.now ≡ tokens c.args.self.now = c.nodes.ensures.tokens ∙ c.requires in
    let p = part_tokens c.args.self.now c.args.path.now tree part whole at in
    let there = c.in_ok-at.ensures (p.0 ∷ p.1) (ap (from_path c.args.path.now) same ∙ p.2) in
    let are : AreSpots c.args.self.now c.self.inside.spots.items = search (rules, c.self.invariant.1, c.self.view_is) in
    let found = part_spot c.args.self.now c.args.path.now c.self.inside.spots.items c.in_ok-at.at p.0 p.1 are p.2 p.3 (there ∙ ap (drop c.in_ok-at.at) same) in
    search (rules, found, c.spot_at.ensures)
