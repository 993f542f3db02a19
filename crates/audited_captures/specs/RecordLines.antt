-- What is told of a terminus' records, by the verdicts on its answers.
use Rattle.std.{specs.Prelude.{◌≡◌, ◌⊎◌, ℕ, zero, suc, ◌+◌, ◌==◌, ◌&&◌, ◌||◌, Bool, not, true, false, List, [], ◌∷◌, ◌++◌, length, if◌then◌else◌}, specs.List.{filter, list_any}}
use Rattle.pdr_repository.specs.Records.{Entry}
use Rattle.audited_captures.{specs.Counting.{difference_count, has_compared}, specs.Lines.{LineValue, silence}, specs.RecordParts.{RecordPartValue}, specs.RecordReadings.{begins_walk}, specs.declared.record_readings.Verdict.{Verdict}}
use Rattle.audited_captures.specs.declared.record_readings.Verdict.TheVariants as verdict

-- it tells a difference
abbrev pub is_fault : Verdict → Bool
is_fault verdict.Unknown = false
is_fault verdict.Refused = false
is_fault (verdict.Reads at is_end) = false
is_fault (verdict.Extra handle) = true
is_fault (verdict.Differs at f) = true

-- something was laid beside the plan
abbrev pub is_judged : Verdict → Bool
is_judged verdict.Unknown = false
is_judged verdict.Refused = true
is_judged (verdict.Reads at is_end) = true
is_judged (verdict.Extra handle) = true
is_judged (verdict.Differs at f) = true

-- the record at a place was read to its end, as planned
abbrev pub reads_end : (place : ℕ) → Verdict → Bool
reads_end place verdict.Unknown = false
reads_end place verdict.Refused = false
reads_end place (verdict.Reads at is_end) = is_end && at == place
reads_end place (verdict.Extra handle) = false
reads_end place (verdict.Differs at f) = false

-- something that was told of it differs
abbrev pub differs_at : (place : ℕ) → Verdict → Bool
differs_at place verdict.Unknown = false
differs_at place verdict.Refused = false
differs_at place (verdict.Reads at is_end) = false
differs_at place (verdict.Extra handle) = false
differs_at place (verdict.Differs at f) = at == place

abbrev pub is_read : List Verdict → (place : ℕ) → Bool
is_read verdicts place = list_any (reads_end place) verdicts

-- it wasn't, and no difference in it was told
abbrev pub is_unread : List Verdict → (place : ℕ) → Bool
is_unread verdicts place = not (is_read verdicts place || list_any (differs_at place) verdicts)

abbrev pub one_if : Bool → ℕ
one_if b = if b then 1 else 0

abbrev pub fault_count : List Verdict → ℕ
fault_count verdicts = length (filter is_fault verdicts)

-- how many of the first numbers pass
abbrev pub count_below : (ℕ → Bool) → ℕ → ℕ
count_below test zero = 0
count_below test (suc k) = count_below test k + one_if (test k)

-- how many of the first records are so
abbrev pub unread_count : List Verdict → (places : ℕ) → ℕ
unread_count verdicts places = count_below (is_unread verdicts) places

-- how many of them weren't read to their end
abbrev pub missing_count : List Verdict → (places : ℕ) → ℕ
missing_count verdicts places = count_below (λ place. not (is_read verdicts place)) places

-- A difference for each answer that tells one, and where a walk began, for each other record that wasn't read.
abbrev pub told_differences : List Entry → List RecordPartValue → List Verdict → ℕ
told_differences records parts verdicts =
    fault_count verdicts + (if list_any begins_walk parts then unread_count verdicts (length records) else 0)

-- where something was compared
abbrev pub record_differences : List Entry → List RecordPartValue → List Verdict → ℕ
record_differences records parts verdicts =
    if list_any is_judged verdicts then told_differences records parts verdicts else 0

-- so many lines were added, which all tell a difference
abbrev pub AddsDifferences : (old new : List LineValue) → ℕ → Type 0
AddsDifferences old new count =
    (length new ≡ length old + count) × (difference_count new ≡ difference_count old + count)

-- a remark was added, or none
abbrev pub IsRemarked : (old new : List LineValue) → Type 0
IsRemarked old new = (new ≡ old) ⊎ ((text : List ℕ) × (new ≡ old ++ silence text ∷ []))

-- the lines tell so many differences, and they tell of a comparison where one was made
pub record AreRecordLines (records : List Entry) (parts : List RecordPartValue) (verdicts : List Verdict)
    (lines : List LineValue) : Type 0 where
  pub counted : difference_count lines ≡ record_differences records parts verdicts
  pub compared : has_compared lines ≡ list_any is_judged verdicts
