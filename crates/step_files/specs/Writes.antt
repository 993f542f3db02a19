-- Files that are written, one after the other.
use Rattle.std.specs.Prelude.{◌≡◌, ◌<◌, ℕ, ◌+◌, ◌-◌, ◌^◌, List, [], ◌++◌, length, take, Option, None, Some, ⊤}
use Rattle.step_files.specs.StepFiles.{FileValue}

-- what is known where files are written: which were, and how many writes have failed
pub record FilesAccount : Type 0 where
  pub files : Option (List FileValue)
  pub failures : ℕ

-- a write may be tried: one failure more can be counted
abbrev pub MayFail : FilesAccount → Type 0
MayFail account = account.failures < 2 ^ 64 - 1

-- behind the files that are known these were written, one after the other
abbrev pub AddsFiles : Option (List FileValue) → Option (List FileValue) → List FileValue → Type 0
AddsFiles None new files = ⊤
AddsFiles (Some xs) None files = ⊥
AddsFiles (Some xs) (Some ys) files = ys ≡ xs ++ files

-- the accounts before a call and after it
pub record Writes : Type 0 where
  pub before : FilesAccount
  pub after : FilesAccount

abbrev pub writes : {F : Type 0} → (F → FilesAccount) → F → F → Writes
writes account old new = record { before = account old; after = account new }

-- all these files were written, and no write failed
abbrev pub WritesAll : Writes → List FileValue → Type 0
WritesAll files texts = AddsFiles files.before.files files.after.files texts
    × (files.after.failures ≡ files.before.failures)

-- a file could not be written, and none was
abbrev pub WritesNone : Writes → Type 0
WritesNone files = AddsFiles files.before.files files.after.files []
    × (files.after.failures ≡ files.before.failures + 1)

-- one of these files could not be written; those before it were, and no other
pub record WritesFirst (files : Writes) (texts : List FileValue) : Type 0 where
  pub count : ℕ
  pub fewer : count < length texts
  pub first : AddsFiles files.before.files files.after.files (take count texts)
  pub fails : files.after.failures ≡ files.before.failures + 1
