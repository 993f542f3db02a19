use Rattle.std.proofs.Common.{◌∷◌, ap, ◌∙◌, refl}
use Rattle.json.{specs.Token.{Token}, specs.Json.{null, object, value}, proofs.Grammar.{value_is}}
use Rattle.net_plan.proofs.terminus_parts.next_terminus.Goals as goal

pub returns-in_ok-next_null-in-110 : goal.returns-in_ok-next_null-in-110
returns-in_ok-next_null-in-110 c =
    (null, ap (value c.args.depth) c.in_ok-next_null-in-110.ensures ∙ value_is c.args.depth (Token.null ∷ c.next_null.new.self), (refl, (refl, refl)))

pub returns-in_ok-terminus-in_default : goal.returns-in_ok-terminus-in_default
returns-in_ok-terminus-in_default c =
    let read = c.in_ok-read_object-in_default.ensures.read in
    let told = c.in_ok-terminus-in_default.ensures read.0 (read.2 c.none-parts.ensures) in
    (object read.0, read.1, (((λ e. cc), told.0), told.1))
