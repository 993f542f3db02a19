use Rattle.std.{proofs.Common.{rules, ◌≡◌, ◌+◌, map, take, drop, is_some, true, false, sym, ap, ◌∙◌, Some, None, if◌then◌else◌}, specs.Option.{option_or}, specs.Str.{bytes_eq}}
use Rattle.net_plan.{specs.Json.{is_among}, specs.Names.{are_new}, specs.NameIndexes.{noted}, proofs.Names.{index_of-take, index_of-among, was_there, was_new, not_new, one_new, names_take, names_drop}}
use Rattle.net_plan.proofs.name_index.names_differ.Goals as goal

pub returns-then-not-is_new : goal.returns-then-not-is_new
returns-then-not-is_new g c =
    let f = g.N.Naming.name_of c.args.naming.now in
    let items = c.args.items.now in
    let i = c.loop-index.index in
    let x = c.index-items-index.result in
    let seen = map f (take i items) in
    let among : is_among seen (f x) ≡ true = sym (index_of-among seen (f x)) ∙ ap is_some (sym (c.loop-index.invariant.0 (f x))) ∙ ap (λ q. is_some (noted c.loop-index.known q)) (sym c.name.ensures) ∙ was_there _ _ c.in_ok-is_new.ensures.first c.if-not-is_new.true in
    sym (not_new seen (f x) (map f (drop (i + 1) items)) among) ∙ ap (are_new seen) (sym (names_drop f items i x (search rules) c.index-items-index.is)) ∙ c.loop-index.invariant.1

pub loop-index-preserved : goal.loop-index-preserved
loop-index-preserved g c =
    let f = g.N.Naming.name_of c.args.naming.now in
    let items = c.args.items.now in
    let i = c.loop-index.index in
    let x = c.index-items-index.result in
    let seen = map f (take i items) in
    let among : is_among seen (f x) ≡ false = sym (index_of-among seen (f x)) ∙ ap is_some (sym (c.loop-index.invariant.0 (f x))) ∙ ap (λ q. is_some (noted c.loop-index.known q)) (sym c.name.ensures) ∙ was_new _ _ c.in_ok-is_new.ensures.first c.if-not-is_new.false in (
      λ q. c.in_ok-is_new.ensures.noted q ∙ ap (λ name. option_or (noted c.loop-index.known q) (if bytes_eq q name then Some i else None)) c.name.ensures ∙ ap (λ o. option_or o (if bytes_eq q (f x) then Some i else None)) (c.loop-index.invariant.0 q)
          ∙ sym (index_of-take f items i x q (search rules) c.index-items-index.is),
      ap (λ names. are_new names (map f (drop (i + 1) items))) (names_take f items i x (search rules) c.index-items-index.is) ∙ sym (one_new seen (f x) (map f (drop (i + 1) items)) among)
          ∙ ap (are_new seen) (sym (names_drop f items i x (search rules) c.index-items-index.is)) ∙ c.loop-index.invariant.1,
    )
