use Rattle.std.{proofs.Common.{◌+◌, drop, map, get_or, sym, ap, ◌∙◌}, proofs.Math.ListN.{drop_of_length-le}, proofs.lemmas.List.{drop_more}}
use Rattle.json.{specs.Tape.{node_token}, proofs.Found.{Some_inj}}
use Rattle.net_pointers.{specs.PartTokens.{from_path}, proofs.Links.{path_on}}
use Rattle.net_pointers.proofs.tape.follow_links.Goals as goal

pub loop-index-init : goal.loop-index-init
loop-index-init c = λ ts e. e

pub returns-in_err-at : goal.returns-in_err-at
returns-in_err-at c = λ ts e.
    let path = c.args.path.now in
    let i = c.loop-index.index-index in
    let step = path_on (drop i path) (drop (i + 1) path) (get_or path i 0) _ ts (drop_more path i 0 c.loop-index-test.true) (c.loop-index.invariant ts e) in
    absurd (c.in_err-at.ensures step.0 step.1)

pub loop-index-preserved : goal.loop-index-preserved
loop-index-preserved c = λ ts e.
    let path = c.args.path.now in
    let i = c.loop-index.index-index in
    let step = path_on (drop i path) (drop (i + 1) path) (get_or path i 0) _ ts (drop_more path i 0 c.loop-index-test.true) (c.loop-index.invariant ts e) in
    ap (from_path (drop (i + 1) path)) (sym (c.in_ok-at.ensures step.0 step.1)) ∙ step.2

pub returns : goal.returns
returns c = λ ts e.
    let all = map node_token c.args.nodes.now in
    let past = drop_of_length-le c.args.path.now c.loop-index-test.false in
    sym (Some_inj _ _ (ap (λ p. from_path p (drop c.loop-index.at all)) (sym past) ∙ c.loop-index.invariant ts e))
