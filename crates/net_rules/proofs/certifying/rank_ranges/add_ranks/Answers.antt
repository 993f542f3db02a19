use Rattle.std.{proofs.Common.{◌≡◌, ◌<◌, length, Some, sym, ◌∙◌, ap, arith, subst, inl, inr, get_or}, specs.Prelude.{slice_get}, proofs.lemmas.Option.{slice_get_within, get_or_from_slice_get}, proofs.lemmas.List.{length-set}}
use Rattle.plan_values.specs.declared.certificate.NodeRanks.{NodeRanks}
use Rattle.net_rules.specs.RankRuns.{IsGrown, AreLongestRuns, below}
use Rattle.net_tables.proofs.Elements.{in_set, set_elsewhere}
use Rattle.net_rules.proofs.certifying.rank_ranges.add_ranks.Goals as goal

pub loop-node-preserved : goal.loop-node-preserved
loop-node-preserved c =
    let given = c.loop-node.given in
    let p = c.loop-node.node in
    let first = c.args.stretch.first.value in
    let last = c.args.stretch.last.value in
    let read = c.index-given-node.result in
    let r = get_or given p read in
    let new : NodeRanks = record { node = r.node; ranges = c.add_rank.new.ranges } in
    let lt : p < length given = omega (arith, c.loop-node.invariant.long) in
    record {
      long = length-set given p new ∙ c.loop-node.invariant.long;
      grown = λ n rank one other less ranked before after. elim (in_set given new p n other lt after) [
        | inl (apart, old) ↦ c.loop-node.invariant.grown n rank one other (omega (arith, apart)) ranked before old
        | inr (at, same) ↦ (
            let here : slice_get given n ≡ Some one = c.loop-node.invariant.same n (omega (arith, at)) ∙ before in
            let is_one : r ≡ one = get_or_from_slice_get given p one read (ap (λ k. slice_get given k) (sym at) ∙ here) in
            let its_rank : get_or c.args.ranks.now p 0 ≡ rank = get_or_from_slice_get c.args.ranks.now p rank 0 (ap (λ k. slice_get c.args.ranks.now k) (sym at) ∙ ranked) in
            subst (λ o. IsGrown first last rank one o) same (record {
              node = ap (λ (o : NodeRanks). o.node) is_one;
              longest = λ ranks level h. c.in_ok-add_rank.ensures ranks (λ d low high. level d low high ∙ sym its_rank) (subst (λ (o : NodeRanks). AreLongestRuns (below first ranks) o.ranges.items) (sym is_one) h);
            }))
      ];
      same = λ n less. set_elsewhere given p n new (λ at. omega (arith, at, less)) ∙ c.loop-node.invariant.same n (omega arith);
    }

pub returns : goal.returns
returns c = (c.loop-node.invariant.long, λ n rank one other ranked before after. c.loop-node.invariant.grown n rank one other (omega (arith, slice_get_within c.args.given.now n one before)) ranked before after)
