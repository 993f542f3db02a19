use Rattle.std.{proofs.Common.{get_or, subst, sym, IsTrue, Bool, ◌↔◌}, proofs.lemmas.Option.{slice_get-get_or}}
use Rattle.net_tables.specs.Routing.{OfItem}
use Rattle.net_rules.specs.RecordChains.{HasNext}
use Rattle.net_faults.proofs.RecordLaws.{has_next_tells}
use Rattle.net_faults.proofs.chain_faults.has_next.Goals as goal

pub returns : goal.returns
returns c =
    let r = get_or c.args.records.now c.args.j c.index-records-j.result in
    let P : Bool → Type 0 = λ b. IsTrue b ↔ OfItem c.args.records.now c.args.j (HasNext c.args.records.now) in
    subst P (sym c.is_some.ensures)
    (has_next_tells c.args.records.now c.args.j r c.args.handles.now (slice_get-get_or c.args.records.now c.args.j c.index-records-j.result c.requires.within) c.requires.handles c.if-next-eq0.false c.get.result c.get.ensures)
