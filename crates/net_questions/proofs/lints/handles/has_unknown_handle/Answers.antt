use Rattle.pdr_record.specs.Values.{sensor_value}
use Rattle.net_questions.{specs.Sensors.{IsSensor, HasLocatorOf}, proofs.Exists.{of_only, of_nobody}}
use Rattle.net_questions.proofs.lints.handles.has_unknown_handle.Goals as goal

pub returns-in-Some : goal.returns-in-Some
returns-in-Some c =
    of_only (IsSensor c.args.bytes.now) (sensor_value c.in-Some.sensor) (λ s. ¬ HasLocatorOf c.args.plan.now c.args.node s.terminus_handle) c.lacks_locator_of.result
    c.in-Some.ensures.found c.in-Some.ensures.all c.lacks_locator_of.ensures

pub returns-in-None : goal.returns-in-None
returns-in-None c =
    of_nobody (IsSensor c.args.bytes.now) (λ s. ¬ HasLocatorOf c.args.plan.now c.args.node s.terminus_handle) c.in-None.ensures.all
