use Rattle.std.proofs.Common.{map, codes, refl}
use Rattle.plan_values.specs.CertificateValues.{level_value, places_value, node_ranks_value}
use Rattle.net_plan.{specs.JsonWords.{IsNumberWithin, IsListOf}, specs.LevelParts.{IsLevelBy}, specs.NameIndexes.{noted}, specs.PlaceParts.{ArePlacesBy}, specs.PlainCertificate.{certificate_slots}, specs.RankParts.{AreRanksBy}, proofs.Gathered.{any_list_there, next_taken, there_taken}}
use Rattle.net_plan.proofs.plain_certificate.CertificatePartsGather.take.Goals as goal

pub returns-in_ok-next_number_within-in-format-clause-more : goal.returns-in_ok-next_number_within-in-format-clause-more
returns-in_ok-next_number_within-in-format-clause-more c =
    next_taken (IsNumberWithin 1 1) (codes "format") (certificate_slots c.args.self.now) c.args.self.now.format c.set_once.new.slot c.in_ok-next_number_within-in-format.field-0 c.set_once.result c.args.key.now c.args.depth c.args.reader.now c.next_number_within.new.reader c.in-format.is (λ o h. h) refl c.in_ok-next_number_within-in-format.ensures.read c.set_once.ensures

pub returns-in_ok-next_list-in-levels-clause-more : goal.returns-in_ok-next_list-in-levels-clause-more
returns-in_ok-next_list-in-levels-clause-more c =
    there_taken (λ d v. IsListOf (IsLevelBy (noted c.args.self.now.nodes.now)) d (map level_value v.items)) (codes "levels") (certificate_slots c.args.self.now) c.args.self.now.levels c.set_once-in-levels.new.slot c.in_ok-next_list-in-levels.field-0 c.set_once-in-levels.result c.args.key.now c.args.depth c.args.reader.now c.next_list.new.reader c.in-levels.is (λ o h. h) refl (any_list_there (IsLevelBy (noted c.args.self.now.nodes.now)) level_value c.args.depth c.args.reader.now c.next_list.new.reader c.in_ok-next_list-in-levels.field-0.items c.in_ok-next_list-in-levels.ensures.read) c.set_once-in-levels.ensures

pub returns-in_ok-next_list-in-places-clause-more : goal.returns-in_ok-next_list-in-places-clause-more
returns-in_ok-next_list-in-places-clause-more c =
    there_taken (λ d v. IsListOf (ArePlacesBy (noted c.args.self.now.nodes.now)) d (map places_value v.items)) (codes "places") (certificate_slots c.args.self.now) c.args.self.now.places c.set_once-in-places.new.slot c.in_ok-next_list-in-places.field-0 c.set_once-in-places.result c.args.key.now c.args.depth c.args.reader.now c.next_list-in-places.new.reader c.in-places.is (λ o h. h) refl (any_list_there (ArePlacesBy (noted c.args.self.now.nodes.now)) places_value c.args.depth c.args.reader.now c.next_list-in-places.new.reader c.in_ok-next_list-in-places.field-0.items c.in_ok-next_list-in-places.ensures.read) c.set_once-in-places.ensures

pub returns-in_ok-next_list-in-ranks-clause-more : goal.returns-in_ok-next_list-in-ranks-clause-more
returns-in_ok-next_list-in-ranks-clause-more c =
    there_taken (λ d v. IsListOf (AreRanksBy (noted c.args.self.now.nodes.now)) d (map node_ranks_value v.items)) (codes "ranks") (certificate_slots c.args.self.now) c.args.self.now.ranks c.set_once-in-ranks.new.slot c.in_ok-next_list-in-ranks.field-0 c.set_once-in-ranks.result c.args.key.now c.args.depth c.args.reader.now c.next_list-in-ranks.new.reader c.in-ranks.is (λ o h. h) refl (any_list_there (AreRanksBy (noted c.args.self.now.nodes.now)) node_ranks_value c.args.depth c.args.reader.now c.next_list-in-ranks.new.reader c.in_ok-next_list-in-ranks.field-0.items c.in_ok-next_list-in-ranks.ensures.read) c.set_once-in-ranks.ensures
