use Rattle.std.{proofs.Common.{◌∙◌, ap}, proofs.lemmas.List.{append-nil}}
use Rattle.pdr_repository.specs.Records.{handle_in}
use Rattle.pdr_repository.proofs.walker.collected.handle_of_record.Goals as goal

pub returns : goal.returns
returns c = c.handle_of.ensures ∙ ap handle_in (append-nil c.args.bytes.now)
