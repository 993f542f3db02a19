use Rattle.std.proofs.Common.{map, codes, refl}
use Rattle.net_plan.{specs.JsonWords.{IsName, IsListOf, IsNumberWithin}, specs.PlaceParts.{places_slots}, proofs.Gathered.{any_list_there, next_taken, there_taken}}
use Rattle.net_plan.proofs.place_parts.PlacesPartsGather.take.Goals as goal

pub returns-in_ok-next_name-in-node-clause-more : goal.returns-in_ok-next_name-in-node-clause-more
returns-in_ok-next_name-in-node-clause-more c =
    next_taken (λ d name. IsName d name.now) (codes "node") (places_slots c.args.self.now) c.args.self.now.node c.set_once.new.slot c.in_ok-next_name-in-node.field-0 c.set_once.result c.args.key.now c.args.depth c.args.reader.now c.next_name.new.reader c.in-node.is (λ o h. h) refl c.in_ok-next_name-in-node.ensures c.set_once.ensures

pub returns-in_ok-next_list-in-places-clause-more : goal.returns-in_ok-next_list-in-places-clause-more
returns-in_ok-next_list-in-places-clause-more c =
    there_taken (λ d v. IsListOf (IsNumberWithin 0 4095) d (map (λ place. place.value) v.items)) (codes "places") (places_slots c.args.self.now) c.args.self.now.places c.set_once-in-places.new.slot c.in_ok-next_list-in-places.field-0 c.set_once-in-places.result c.args.key.now c.args.depth c.args.reader.now c.next_list.new.reader c.in-places.is (λ o h. h) refl (any_list_there (IsNumberWithin 0 4095) (λ place. place.value) c.args.depth c.args.reader.now c.next_list.new.reader c.in_ok-next_list-in-places.field-0.items c.in_ok-next_list-in-places.ensures.read) c.set_once-in-places.ensures
