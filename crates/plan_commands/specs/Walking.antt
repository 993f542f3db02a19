-- What the end of `walk` says of the plan and the certificate that it read, and of what it wrote.
use Rattle.std.{specs.Prelude.{◌≡◌, ◌<◌, ℕ, List, ◌++◌, length, sum_by}, specs.List.{flat_map}}
use Rattle.net_tables.specs.Repositories.{records_by_place}
use Rattle.plan_values.{specs.declared.plan.Plan.{Plan}, specs.declared.certificate.Certificate.{Certificate}}
use Rattle.pdr_repository.{specs.Records.{Entry, bytes_by_place}, specs.Walks.{exchanges}}
use Rattle.plan_texts.specs.WalkLines.{record_line, count_line}
use Rattle.command_answers.specs.Naming.{IsTerminusNamed}

-- the line of each record by place, and the line of their number and of the requests for them, by parts of so many
-- bytes
abbrev pub walk_text : ℕ → List Entry → List ℕ
walk_text count records =
    flat_map record_line (bytes_by_place records) ++ count_line (length records) (exchanges count records)

-- the text is that of the records of the terminus of the node of this name
abbrev pub IsWalkText : List ℕ → ℕ → Plan → Certificate → List ℕ → Type 0
IsWalkText name count plan certificate text =
    (n : ℕ) × IsTerminusNamed plan name n × (text ≡ walk_text count (records_by_place plan certificate n))

-- how many bytes the records have
abbrev pub bytes_of : List Entry → ℕ
bytes_of records = sum_by length (bytes_by_place records)

-- the most bytes that a walk collects
abbrev pub most_bytes : ℕ
most_bytes = 16777216

-- the records of the terminus of the name have more bytes than a walk collects
abbrev pub HasTooManyBytes : List ℕ → Plan → Certificate → Type 0
HasTooManyBytes name plan certificate =
    (n : ℕ) × IsTerminusNamed plan name n × (most_bytes < bytes_of (records_by_place plan certificate n))
