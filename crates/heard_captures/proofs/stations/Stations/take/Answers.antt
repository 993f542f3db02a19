use Rattle.std.{proofs.Common.{◌∙◌, sym}, specs.BTreeMap.{get}}
use Rattle.heard_captures.{specs.Places.{place_cmp}, proofs.StationLaws.{taken_given, idle_given}}
use Rattle.heard_captures.proofs.stations.Stations.take.Goals as goal

pub returns-in-Some-clause-given : goal.returns-in-Some-clause-given
returns-in-Some-clause-given c =
    taken_given (get place_cmp c.args.self.now.by_place c.args.place) c.in-Some.assembler (sym c.remove.ensures.value ∙ c.in-Some.is)

pub returns-in-None-clause-given : goal.returns-in-None-clause-given
returns-in-None-clause-given c =
    idle_given (get place_cmp c.args.self.now.by_place c.args.place) c.new.result (sym c.remove.ensures.value ∙ c.in-None.is)
    c.new.ensures.slots c.new.ensures.limit c.new.ensures.stands
