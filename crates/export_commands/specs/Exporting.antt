-- What answers `export`.
use Rattle.std.specs.Prelude.{◌≡◌, ◌≢◌, ◌⊎◌, ℕ, List, All, Option, Some, None, option_map, ⊤}
use Rattle.command_answers.{specs.Answers.{Stream, AreGiven, AreUnread, IsFaultText}, specs.Naming.{IsFirstNamed}, specs.Statuses.{HasCause}, specs.declared.refused.Refused.{Refused}, specs.declared.status.Status.{Status}}
use Rattle.command_questions.{specs.declared.exports.Export.{Export}, specs.declared.exports.ExportKind.{ExportKind}}
use Rattle.plan_values.{specs.declared.certificate.Certificate.{Certificate}, specs.declared.plan.Plan.{Plan}}
use Rattle.net_rules.specs.Rules.{Accepts}
use Rattle.net_tables.{specs.Names.{name_of_bus}, specs.Repositories.{records_by_place, terminus_of}, specs.Routing.{IsBridge, eid_of}}
use Rattle.plan_exports.{specs.CSources.{IsCSource, TerminusFacts}, specs.DeviceTrees.{IsDeviceTree}, specs.LinuxScripts.{IsLinuxScript}, specs.MctpdScripts.{IsMctpdScript}, specs.Repositories.{joined_bytes}, specs.TableAnswers.{AreEntryLines}, specs.declared.links.Link.{Link}}
use Rattle.command_answers.specs.declared.status.Status.TheVariants as status
use Rattle.command_questions.specs.declared.exports.ExportKind.TheVariants as kind

-- the terminus of n, with its records by place
abbrev pub terminus_at : Plan → Certificate → ℕ → Option TerminusFacts
terminus_at plan cert n =
    option_map (λ t. record { tid = t.tid; records = records_by_place plan cert n }) (terminus_of plan n)

-- the bytes are n in this form
abbrev pub IsExported : ExportKind → List Link → Plan → Certificate → ℕ → List ℕ → Type 0
IsExported kind.Linux links plan cert n bytes = IsLinuxScript plan n links bytes
IsExported kind.Mctpd links plan cert n bytes = IsMctpdScript plan n links bytes
IsExported kind.DeviceTree links plan cert n bytes = IsDeviceTree plan n links bytes
IsExported kind.C links plan cert n bytes = IsCSource plan n (terminus_at plan cert n) bytes
IsExported kind.Entries links plan cert n bytes =
    (eid : ℕ) × (eid_of plan n ≡ Some eid) × AreEntryLines plan n eid bytes
IsExported kind.Records links plan cert n bytes = bytes ≡ joined_bytes (records_by_place plan cert n)

-- n has what the form is of: a bridge its routing table to tell, a terminus its records
abbrev pub HasForm : ExportKind → Plan → ℕ → Type 0
HasForm kind.Linux plan n = ⊤
HasForm kind.Mctpd plan n = ⊤
HasForm kind.DeviceTree plan n = ⊤
HasForm kind.C plan n = ⊤
HasForm kind.Entries plan n = IsBridge plan n
HasForm kind.Records plan n = terminus_of plan n ≢ None

-- a bus of the plan has the name
unfoldable pub HasBus : Plan → List ℕ → Type 0
HasBus plan name = (b : ℕ) × (name_of_bus plan b ≡ Some name)

-- n is the first node of the export's name and has what the form is of, and each link's bus is one of the plan's
pub record IsSubject (export : Export) (links : List Link) (plan : Plan) (n : ℕ) : Type 0 where
  pub named : IsFirstNamed plan export.node.now n
  pub formed : HasForm export.kind plan n
  pub linked : All (λ (link : Link). HasBus plan link.bus.now) links

abbrev pub IsNamedIn : Export → List Link → Plan → Type 0
IsNamedIn export links plan = (n : ℕ) × IsSubject export links plan n

-- The bytes answer on the plan, the certificate and n, in a run that ends so: they are n in the form, and every rule
-- holds; or they tell the first fault.
abbrev pub AnswersAt : ExportKind → List Link → Plan → Certificate → ℕ → Status → List ℕ → Type 0
AnswersAt form links plan cert n status.Yes bytes = Accepts plan cert × IsExported form links plan cert n bytes
AnswersAt form links plan cert n status.Fault bytes = IsFaultText plan cert bytes
AnswersAt form links plan cert n status.Unreadable bytes = ⊥
AnswersAt form links plan cert n status.NoMemory bytes = ⊥

-- so they answer on the node that is named
abbrev pub AnswersExportOn : Export → List Link → Plan → Certificate → Status → List ℕ → Type 0
AnswersExportOn export links plan cert ended bytes =
    (n : ℕ) × IsSubject export links plan n × AnswersAt export.kind links plan cert n ended bytes

-- so they do of the plan and the certificate that were given
abbrev pub AnswersExportSo : Export → List Link → Stream → Stream → Status → List ℕ → Type 0
AnswersExportSo export links plans certificates ended bytes = (plan : Plan) × (cert : Certificate)
    × AreGiven plans certificates plan cert × AnswersExportOn export links plan cert ended bytes

-- why there is no answer on a plan: it lacks what is named
abbrev pub IsUnexportedOn : Export → List Link → Plan → Refused → Type 0
IsUnexportedOn export links plan why = HasCause (λ unread cause. ⊥) (¬ IsNamedIn export links plan) ⊥ ⊥ why

-- why there is none: the inputs were not read, or the plan lacks what is named
abbrev pub IsUnexportedFor : Export → List Link → Stream → Stream → Refused → Type 0
IsUnexportedFor export links plans certificates why = AreUnread why plans certificates
    ⊎ ((plan : Plan) × (cert : Certificate) × AreGiven plans certificates plan cert
    × IsUnexportedOn export links plan why)
