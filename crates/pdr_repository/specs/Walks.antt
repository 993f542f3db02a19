-- A walk through the records of a terminus: each record read part by part, then the one that its last answer names.
use Rattle.std.{specs.Prelude.{◌≡◌, ◌≢◌, ◌⊎◌, ◌↔◌, ℕ, ◌+◌, ◌≤◌, List, [], ◌∷◌, ◌++◌, length, map, take, slice_get, Option, Some, None, Ok, Err, ◌==◌, if◌then◌else◌, All, AllPairs, sum_by}, specs.List.{flat_map, last_or}, specs.Int.{div_ceil}}
use Rattle.pdr_repository.{specs.Records.{Entry, IsLawful, Means, bytes_by_place, change_in, handle_in, handle_at}, specs.Parts.{PartAnswer, AnswersPart}}
use Rattle.pldm_message.specs.Pdrs.{PartRequest, Part}

-- a request and its answer
pub record Exchange : Type 0 where
  pub request : PartRequest
  pub answer : PartAnswer

-- the request for the first part of a record
abbrev pub first_part : ℕ → ℕ → PartRequest
first_part count handle = record { handle = handle; transfer = 0; operation = 1; count = count; change = 0 }

-- The request that follows an exchange: after a start or a middle the record's next part, with the change number of its
-- first part; else the first part of the next record, if there is one.
abbrev pub follows : PartRequest → PartAnswer → Option PartRequest
follows r (Err code) = None
follows r (Ok p) =
    if p.flag == 0
    then Some
    (record {
      handle = r.handle;
      transfer = p.transfer;
      operation = 0;
      count = r.count;
      change = change_in p.bytes;
    })
    else
    (if p.flag == 1
    then Some
    (record { handle = r.handle; transfer = p.transfer; operation = 0; count = r.count; change = r.change })
    else (if p.next == 0 then None else Some (first_part r.count p.next)))

-- the request that is due after the last exchange, and where there was none
abbrev pub due_by : ℕ → Option Exchange → Option PartRequest
due_by count None = Some (first_part count 0)
due_by count (Some x) = follows x.request x.answer

abbrev pub due_after : ℕ → List Exchange → Option PartRequest
due_after count xs = due_by count (last_or None xs)

-- a walk with parts of `count` bytes: each request is the one that is due after the exchanges before it,
-- and each answer is one of the terminus
pub record Walk (records : List Entry) (count : ℕ) (xs : List Exchange) : Type 0 where
  pub asked : (i : ℕ) (x : Exchange) → slice_get xs i ≡ Some x → due_after count (take i xs) ≡ Some x.request
  pub answered : (i : ℕ) (x : Exchange) → slice_get xs i ≡ Some x → AnswersPart records x.request x.answer

-- no request follows
abbrev pub IsFinished : ℕ → List Exchange → Type 0
IsFinished count xs = due_after count xs ≡ None

-- the bytes of an answer, none in a refusal
abbrev pub data_of : PartAnswer → List ℕ
data_of (Err code) = []
data_of (Ok p) = p.bytes

-- the transfer flag of an answer, if it has one
abbrev pub flag_of : PartAnswer → Option ℕ
flag_of (Err code) = None
flag_of (Ok p) = Some p.flag

abbrev pub HasFlag : ℕ → Exchange → Type 0
HasFlag flag x = flag_of x.answer ≡ Some flag

-- the data of some exchanges, joined
abbrev pub joined : List Exchange → List ℕ
joined xs = flat_map (λ x. data_of x.answer) xs

-- exchanges that have read one record: a start and end alone, or a start, middles and an end
abbrev pub IsStretch : List Exchange → Type 0
IsStretch xs =
    ((x : Exchange) × (xs ≡ x ∷ []) × HasFlag 5 x)
    ⊎ ((x y : Exchange) × (middle : List Exchange) × (xs ≡ x ∷ (middle ++ y ∷ [])) × HasFlag 0 x
    × All (HasFlag 1) middle × HasFlag 4 y)

-- exchanges that are reading one record: none, or a start and middles
abbrev pub IsOpen : List Exchange → Type 0
IsOpen xs =
    (xs ≡ []) ⊎ ((x : Exchange) × (middle : List Exchange) × (xs ≡ x ∷ middle) × HasFlag 0 x × All (HasFlag 1) middle)

-- the exchanges are stretches, and then the open one: the records collected are the joined data of each stretch, and
-- the data under way that of the open one
pub record Collects (xs : List Exchange) (collected : List (List ℕ)) (under_way : List ℕ) : Type 0 where
  pub stretches : List (List Exchange)
  pub rest : List Exchange
  pub whole : xs ≡ flat_map (λ s. s) stretches ++ rest
  pub each : All IsStretch stretches
  pub open_one : IsOpen rest
  pub records : collected ≡ map joined stretches
  pub data_so_far : under_way ≡ joined rest

-- how many exchanges it takes to read all records: for each its length divided by the count, rounded up
abbrev pub exchanges : ℕ → List Entry → ℕ
exchanges count records = sum_by (λ e. div_ceil (length e.bytes) count) records

abbrev pub IsBeginning : {X : Type 0} → List X → List X → Type 0
IsBeginning {X} xs ys = (zs : List X) × (xs ++ zs ≡ ys)

-- the answer is a part of the record that was asked for, and the next handle is that of the following place
abbrev pub NamesTheNext : List Entry → Exchange → Type 0
NamesTheNext records x =
    (place : ℕ) × (e : Entry) × (p : Part) × Means records x.request.handle place e × (x.answer ≡ Ok p)
    × (p.next ≡ handle_at records (place + 1))

-- What is promised of a walk: it has collected a beginning of the records by place, and all of them once it is
-- finished, which it is after exactly so many exchanges.
pub record WalkPromises (records : List Entry) (count : ℕ) (xs : List Exchange) : Type 0 where
  pub collected : List (List ℕ)
  pub under_way : List ℕ
  pub collects : Collects xs collected under_way
  pub beginning : IsBeginning collected (bytes_by_place records)
  pub whole : IsFinished count xs → (collected ≡ bytes_by_place records) × (under_way ≡ [])
  pub exact : IsFinished count xs ↔ (length xs ≡ exchanges count records)
  pub bounded : length xs ≤ exchanges count records
  pub handles : AllPairs (λ a b. handle_in a ≢ handle_in b) (bytes_by_place records)
  pub nexts : (i : ℕ) (x : Exchange) → slice_get xs i ≡ Some x → NamesTheNext records x

-- every walk over a lawful list keeps these promises
abbrev pub EveryWalkCollects : Type 0
EveryWalkCollects =
    (records : List Entry) (count : ℕ) (xs : List Exchange) → IsLawful records → 8 ≤ count → count ≤ 4079
    → Walk records count xs → WalkPromises records count xs

-- exchanges collect one list of records
abbrev pub CollectsOnce : Type 0
CollectsOnce =
    (xs : List Exchange) (rs ss : List (List ℕ)) (before data_there : List ℕ) → Collects xs rs before
    → Collects xs ss data_there → (rs ≡ ss) × (before ≡ data_there)
