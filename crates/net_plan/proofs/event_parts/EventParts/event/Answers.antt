use Rattle.std.proofs.Common.{Some, codes, rules}
use Rattle.net_plan.{specs.NameIndexes.{noted}, proofs.EventParts.{word_here}, proofs.Gathered.{if_some}}
use Rattle.net_plan.proofs.event_parts.EventParts.event.Goals as goal

pub returns-in-put : goal.returns-in-put
returns-in-put c =
    if_some c.put.result (λ e made ms h. made ms h (word_here c.args.self c.in_ok-self.field-0 (codes "put") (search rules) (search rules) ms h)) c.put.ensures

pub returns-in-move : goal.returns-in-move
returns-in-move c =
    if_some c.move_on.result (λ e made ms h. made (noted c.args.nodes.now) ms h (word_here c.args.self c.in_ok-self.field-0 (codes "move") (search rules) (search rules) ms h)) c.move_on.ensures

pub returns-in-lose : goal.returns-in-lose
returns-in-lose c =
    if_some c.lose.result (λ e made ms h. made (noted c.args.nodes.now) ms h (word_here c.args.self c.in_ok-self.field-0 (codes "lose") (search rules) (search rules) ms h)) c.lose.ensures

pub returns-in-expire : goal.returns-in-expire
returns-in-expire c =
    if_some c.expire.result (λ e made ms h. made ms h (word_here c.args.self c.in_ok-self.field-0 (codes "expire") (search rules) (search rules) ms h)) c.expire.ensures

pub returns-in-answer : goal.returns-in-answer
returns-in-answer c =
    if_some c.answer.result (λ e made ms h. made ms h (word_here c.args.self c.in_ok-self.field-0 (codes "answer") (search rules) (search rules) ms h)) c.answer.ensures

pub returns-in-switch : goal.returns-in-switch
returns-in-switch c =
    if_some c.switch.result (λ e made ms h. made ms h (word_here c.args.self c.in_ok-self.field-0 (codes "switch") (search rules) (search rules) ms h)) c.switch.ensures

pub returns-in-walk : goal.returns-in-walk
returns-in-walk c =
    if_some c.walk.result (λ e made ms h. made ms h (word_here c.args.self c.in_ok-self.field-0 (codes "walk") (search rules) (search rules) ms h)) c.walk.ensures

pub returns-in-ask : goal.returns-in-ask
returns-in-ask c =
    if_some c.ask.result (λ e made ms h. made (noted c.args.nodes.now) ms h (word_here c.args.self c.in_ok-self.field-0 (codes "ask") (search rules) (search rules) ms h)) c.ask.ensures

pub returns-in-collected : goal.returns-in-collected
returns-in-collected c =
    if_some c.collected.result (λ e made ms h. made (noted c.args.nodes.now) ms h (word_here c.args.self c.in_ok-self.field-0 (codes "collected") (search rules) (search rules) ms h)) c.collected.ensures
