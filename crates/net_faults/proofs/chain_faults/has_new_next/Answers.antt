use Rattle.std.{proofs.Common.{get_or}, proofs.lemmas.Option.{slice_get-get_or}}
use Rattle.net_faults.proofs.RecordLaws.{first_next_tells, no_next_is_none}
use Rattle.net_faults.proofs.chain_faults.has_new_next.Goals as goal

pub returns-in-Some : goal.returns-in-Some
returns-in-Some c =
    let r = get_or c.args.records.now c.args.j c.index-records-j.result in
    first_next_tells c.args.records.now c.args.j r c.args.nexts.now (slice_get-get_or c.args.records.now c.args.j c.index-records-j.result c.requires.within) c.requires.nexts c.in-Some.first c.in-Some.ensures

pub returns-in-None : goal.returns-in-None
returns-in-None c =
    let r = get_or c.args.records.now c.args.j c.index-records-j.result in
    absurd (no_next_is_none c.args.records.now c.args.j r c.args.nexts.now (slice_get-get_or c.args.records.now c.args.j c.index-records-j.result c.requires.within) c.requires.nexts c.in-None.ensures)
