use Rattle.std.proofs.Common.{◌∙◌}
use Rattle.pdr_repository.proofs.Collected.{found}
use Rattle.pdr_repository.proofs.walker.collected.Collected.has_handle.Goals as goal

pub returns : goal.returns
returns c = c.is_ok.ensures.value ∙ found c.args.self.now.handles.items c.args.handle _ c.place_of.ensures ∙ c.args.self.now.members c.args.handle
