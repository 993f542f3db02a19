use Rattle.std.{proofs.Common.{arith}, proofs.lemmas.Bool.Decides.{nat_tests}}
use Rattle.pdr_repository.proofs.Indexing.{meant_first, meant_named, meant_none}
use Rattle.pdr_repository.proofs.handle_index.HandleIndex.place_meant_by.Goals as goal

pub returns-then-handle-ne0 : goal.returns-then-handle-ne0
returns-then-handle-ne0 c = λ records index. meant_named records c.args.handle c.place_of.result c.if-handle-ne0.true (c.place_of.ensures records index)

pub returns-then-is_empty : goal.returns-then-is_empty
returns-then-is_empty c = λ records index. meant_none records c.args.self.now.rows.items c.args.handle index (grind (arith, nat_tests, c.if-is_empty.ensures))

pub returns-else-is_empty : goal.returns-else-is_empty
returns-else-is_empty c = λ records index. meant_first records c.args.self.now.rows.items c.args.handle c.if-handle-ne0.false index (grind (arith, nat_tests, c.if-is_empty.ensures))
