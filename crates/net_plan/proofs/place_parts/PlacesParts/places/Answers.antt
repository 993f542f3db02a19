use Rattle.std.proofs.Common.{map, codes, refl, rules}
use Rattle.json.specs.Json.{object}
use Rattle.net_plan.{specs.Trees.{data_of}, specs.JsonWords.{IsName, IsNumberWithin, IsListOf}, specs.Keys.{places_keys}, specs.NameIndexes.{noted}, proofs.Gathered.{here, all_keys, object_plain, placed_at}}
use Rattle.net_plan.proofs.place_parts.PlacesParts.places.Goals as goal

pub returns : goal.returns
returns c ms h =
    let p = c.args.self in
    let node = here (codes "node") (λ d name. IsName d name.now) p.node ms h.read.0 c.in_ok-node.node (search rules) in
    let places = here (codes "places") (λ d v. IsListOf (IsNumberWithin 0 4095) d (map (λ place. place.value) v.items)) p.places ms h.read.1.0 c.in_ok-places.places (search rules) in (
      λ names found. record {
        keys = all_keys places_keys ms h.plain (rw (node.1, places.1) refl);
        node = placed_at names (noted c.args.nodes.now) found c.in_ok-node.node.now c.in_ok-index.index (search rules) (data_of (object ms)) node.2;
        places = places.2;
      },
      object_plain places_keys ms h.plain,
    )
