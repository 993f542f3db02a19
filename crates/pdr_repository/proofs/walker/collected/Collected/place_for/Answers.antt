use Rattle.pdr_repository.proofs.Collected.{place_found, place_between}
use Rattle.pdr_repository.proofs.walker.collected.Collected.place_for.Goals as goal

pub returns-in-Ok : goal.returns-in-Ok
returns-in-Ok c = place_found c.args.self.now.handles.items c.args.handle c.in-Ok.at c.args.self.now.ascending c.in-Ok.ensures

pub returns-in-Err : goal.returns-in-Err
returns-in-Err c = place_between c.args.self.now.handles.items c.args.handle c.in-Err.at c.in-Err.ensures
