-- The lines of the records that a walk collects.
use Rattle.std.{specs.Prelude.{◌-◌, ℕ, List, ◌++◌, length, codes}, specs.Fmt.{decimal}}
use Rattle.pdr_repository.specs.Records.{handle_in}

-- a record's handle, and how many bytes follow its header of ten bytes
abbrev pub record_line : List ℕ → List ℕ
record_line bytes =
    codes "record " ++ (decimal (handle_in bytes) ++ (codes " length " ++ (decimal (length bytes - 10) ++ codes "\n")))

-- how many records there are, and how many requests they took
abbrev pub count_line : ℕ → ℕ → List ℕ
count_line records requests =
    codes "records " ++ (decimal records ++ (codes " requests " ++ (decimal requests ++ codes "\n")))
