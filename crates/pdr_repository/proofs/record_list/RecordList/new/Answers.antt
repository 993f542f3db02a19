use Rattle.std.proofs.Common.{List, ℕ, Vec, Global, subst}
use Rattle.pdr_repository.{specs.Records.{entries}, specs.Indexes.{IsIndexOf}, proofs.Headers.{lawful_short}}
use Rattle.pdr_repository.proofs.record_list.RecordList.new.Goals as goal

pub invariant_of-result : goal.invariant_of-result
invariant_of-result c =
    let P : List (ℕ × Vec ℕ Global) → Type 0 = λ records. IsIndexOf (entries records) c.in_ok-index.index.rows.items in
    record { short = lawful_short c.args.records.items c.requires; indexed = subst P c.as_slice.ensures.value c.in_ok-index.ensures }
