use Rattle.json.specs.Json.{object}
use Rattle.net_plan.proofs.Gathered.{if_some}
use Rattle.net_plan.proofs.place_parts.NextPlacesNextItem.next_item.Goals as goal

pub returns : goal.returns
returns c =
    let read = c.in_ok-read_object.ensures.read in
    if_some c.places.result (λ p told. (object read.0, read.1, told read.0 (read.2 c.none-parts.ensures))) c.places.ensures
