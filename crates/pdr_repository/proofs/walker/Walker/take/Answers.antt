use Rattle.pdr_repository.{proofs.Following.{goes_on}, proofs.Telling.{tells}, proofs.Wanting.{enough}}
use Rattle.pdr_repository.proofs.walker.Walker.take.Goals as goal

pub returns-clause-tells : goal.returns-clause-tells
returns-clause-tells c = tells _ _ c.args.answer.now _ c.take_bytes.ensures.takes

pub returns-clause-goes_on : goal.returns-clause-goes_on
returns-clause-goes_on c = goes_on _ _ _ _ c.args.self.now.least c.args.self.now.most c.take_bytes.ensures.takes

pub returns-clause-room : goal.returns-clause-room
returns-clause-room c = λ room wants. enough c.args.self.now c.args.answer.now room (c.take_bytes.ensures.wants wants)
