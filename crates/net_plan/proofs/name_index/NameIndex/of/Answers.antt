use Rattle.std.{proofs.Common.{rules, ◌≡◌, length, map, take, Some, None, if◌then◌else◌, unwrap_or, take_all, sym, ap, ◌∙◌}, proofs.lemmas.List.{length-map}, specs.Option.{option_or}, specs.Str.{bytes_eq}}
use Rattle.net_plan.{specs.Names.{index_of}, specs.NameIndexes.{noted}, proofs.Names.{index_of-take, index_among-of}}
use Rattle.net_plan.proofs.name_index.NameIndex.of.Goals as goal

pub loop-index-preserved : goal.loop-index-preserved
loop-index-preserved g c =
    let f = g.N.Naming.name_of c.args.naming.now in
    let i = c.loop-index.index in
    let x = c.index-items-index.result in (
      λ q. c.in_ok-note.ensures.noted q ∙ ap (λ name. option_or (noted c.loop-index.known q) (if bytes_eq q name then Some i else None)) c.name.ensures ∙ ap (λ o. option_or o (if bytes_eq q (f x) then Some i else None)) (c.loop-index.invariant.0 q)
          ∙ sym (index_of-take f c.args.items.now i x q (search rules) c.index-items-index.is),
      c.in_ok-note.ensures.count ∙ c.loop-index.invariant.1,
    )

pub returns-clause-placed : goal.returns-clause-placed
returns-clause-placed g c = λ q.
    let all : take c.loop-index.index c.args.items.now ≡ c.args.items.now = take_all c.loop-index.index c.args.items.now (search rules) in
    c.loop-index.invariant.0 q ∙ ap (λ items. index_of (map (g.N.Naming.name_of c.args.naming.now) items) q) all

pub returns-clause-found : goal.returns-clause-found
returns-clause-found g c = λ q.
    let names = map (g.N.Naming.name_of c.args.naming.now) c.args.items.now in
    let all : take c.loop-index.index c.args.items.now ≡ c.args.items.now = take_all c.loop-index.index c.args.items.now (search rules) in
    let few : c.loop-index.known.count ≡ length names = c.loop-index.invariant.1 ∙ sym (length-map c.args.items.now (g.N.Naming.name_of c.args.naming.now)) in
    ap (λ o. unwrap_or o c.loop-index.known.count) (c.loop-index.invariant.0 q ∙ ap (λ items. index_of (map (g.N.Naming.name_of c.args.naming.now) items) q) all)
    ∙ ap (unwrap_or (index_of names q)) few ∙ index_among-of names q
