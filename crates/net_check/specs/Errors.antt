-- What the errors of check say.
use Rattle.plan_values.{specs.declared.plan.Plan.{Plan}, specs.declared.certificate.Certificate.{Certificate}}
use Rattle.net_check.specs.declared.check_error.CheckError.{CheckError}
use Rattle.net_rules.specs.Faults.{IsFirstFault, site_of}
use Rattle.net_check.specs.declared.check_error.CheckError.TheVariants as error

-- unless memory ran out, the error names the first fault
abbrev pub NamesFirstFault : Plan → Certificate → CheckError → Type 0
NamesFirstFault plan cert error.OutOfMemory = Unit {0}
NamesFirstFault plan cert (error.Fault fault) = IsFirstFault plan cert (site_of fault)
