use Rattle.std.proofs.Common.{◌≡◌, ◌∷◌, [], rules}
use Rattle.pdr_record.{specs.Lists.{entities_value}, specs.ListsLeft.{entities_left}, specs.Values.{entity_value}}
use Rattle.net_questions.proofs.Contained.{list_begun, list_on, list_ended}
use Rattle.net_questions.proofs.lints.entities.note_all.Goals as goal

pub loop-entity-init : goal.loop-entity-init
loop-entity-init c =
    let all : entities_left c.iter-left.result ≡ entities_value c.args.entities.now = search rules in
    list_begun c.args.contained.now (entities_value c.args.entities.now) (entities_left c.iter-left.result) all

pub loop-entity-preserved : goal.loop-entity-preserved
loop-entity-preserved c =
    let left : entities_left c.loop-entity.left ≡ entity_value c.in-Some.entity ∷ entities_left c.next.new.self = search rules in
    list_on c.args.contained.now c.loop-entity.contained c.note.new.contained (entities_value c.args.entities.now) (entities_left c.loop-entity.left)
    (entities_left c.next.new.self) (entity_value c.in-Some.entity) c.loop-entity.invariant left c.in_ok-note.ensures

pub returns : goal.returns
returns c =
    let none : entities_left c.loop-entity.left ≡ [] = search rules in
    list_ended c.args.contained.now c.loop-entity.contained (entities_value c.args.entities.now) (entities_left c.loop-entity.left) c.loop-entity.invariant none
