use Rattle.std.{proofs.Common.{IfSome, codes, true, sym, subst, rules}, proofs.lemmas.Slice.Eq.{bytes_eq-Decides}, specs.Str.{bytes_eq}}
use Rattle.net_plan.{specs.Gathered.{IsMore}, specs.Skeleton.{AreNodeParts}}
use Rattle.net_plan.proofs.skeleton.NodePartsGather.take.Goals as goal

pub returns-then-eq-clause-more : goal.returns-then-eq-clause-more
returns-then-eq-clause-more c =
    subst (λ key. IfSome c.take_terminus.result (λ _. IsMore c.args.depth key c.args.reader.now c.take_terminus.new.reader (AreNodeParts c.args.self.now) (AreNodeParts c.take_terminus.new.self)))
    (sym ((bytes_eq-Decides c.args.key.now (codes "terminus")).0 (search rules))) c.take_terminus.ensures

pub returns-then-eq-2-clause-more : goal.returns-then-eq-2-clause-more
returns-then-eq-2-clause-more c =
    subst (λ key. IfSome c.take_rows.result (λ _. IsMore c.args.depth key c.args.reader.now c.take_rows.new.reader (AreNodeParts c.args.self.now) (AreNodeParts c.take_rows.new.self)))
    (sym ((bytes_eq-Decides c.args.key.now (codes "rows")).0 (search rules))) c.take_rows.ensures
