-- Which events a JSON value is.
use Rattle.std.specs.Prelude.{ℕ, ◌≡◌, ◌≢◌, Bool, true, false, codes, List}
use Rattle.serde_json.specs.Data.{Data}
use Rattle.plan_values.{specs.EventValues.{EventEntry, put, move, lose, expire, answer, switch, walk, ask, collected}, specs.PlanValues.{PlanValue, node_names}}
use Rattle.net_plan.{specs.JsonWords.{HasKeys, At, IsShortListOf, IsNumber, IsNumberWithin, IsTruth, IsText, IsHex, IsIndexOfName}, specs.Keys.{events_keys, put_keys, move_keys, lose_keys, expire_keys, answer_keys, switch_keys, walk_keys, ask_keys, collected_keys}, specs.PlanText.{IsByte, IsWord}, specs.declared.event_format.Format.{Format}, specs.declared.event_format.Format.TheVariants.{One, Two, Three}, specs.Limits.{most_events}}

-- what happens is this
abbrev pub Does : List ℕ → Data → Type 0
Does word d = At (codes "do") (λ e w. IsText w e) d word

pub record IsPutOf (nodes : List (List ℕ)) (d : Data) (node : ℕ) (bytes : List ℕ) : Type 0 where
  pub keys : HasKeys put_keys d
  pub does : Does (codes "put") d
  pub at_node : At (codes "node") (IsIndexOfName nodes) d node
  pub packet : At (codes "bytes") IsHex d bytes

pub record IsMoveOf (d : Data) (flight : ℕ) (keep : Bool) : Type 0 where
  pub keys : HasKeys move_keys d
  pub does : Does (codes "move") d
  pub number : At (codes "flight") IsWord d flight
  pub kept : At (codes "keep") IsTruth d keep

pub record IsLoseOf (d : Data) (flight : ℕ) : Type 0 where
  pub keys : HasKeys lose_keys d
  pub does : Does (codes "lose") d
  pub number : At (codes "flight") IsWord d flight

-- 1 for true, 0 for false
abbrev pub IsBit : Data → Bool → Type 0
IsBit d true = IsNumber d 1
IsBit d false = IsNumber d 0

pub record IsExpireOf (nodes : List (List ℕ)) (d : Data) (node source tag : ℕ) (owner : Bool) : Type 0 where
  pub keys : HasKeys expire_keys d
  pub does : Does (codes "expire") d
  pub at_node : At (codes "node") (IsIndexOfName nodes) d node
  pub from : At (codes "source") IsByte d source
  pub tagged : At (codes "tag") (IsNumberWithin 0 7) d tag
  pub owned : At (codes "owner") IsBit d owner

pub record IsAnswerOf (nodes : List (List ℕ)) (d : Data) (node : ℕ) : Type 0 where
  pub keys : HasKeys answer_keys d
  pub does : Does (codes "answer") d
  pub at_node : At (codes "node") (IsIndexOfName nodes) d node

-- the event is one of formats 2 and 3
pub record IsSwitchOf (format : Format) (nodes : List (List ℕ)) (d : Data) (node : ℕ) : Type 0 where
  pub later : format ≢ One
  pub keys : HasKeys switch_keys d
  pub does : Does (codes "switch") d
  pub at_node : At (codes "node") (IsIndexOfName nodes) d node

-- the event is one of format 3 alone; the endpoint ID can be assigned, and a part of a record has 8 to 4079 bytes
pub record IsWalkOf (format : Format) (nodes : List (List ℕ)) (d : Data) (node eid tag count : ℕ) : Type 0 where
  pub third : format ≡ Three
  pub keys : HasKeys walk_keys d
  pub does : Does (codes "walk") d
  pub at_node : At (codes "node") (IsIndexOfName nodes) d node
  pub asked : At (codes "eid") (IsNumberWithin 8 254) d eid
  pub tagged : At (codes "tag") (IsNumberWithin 0 7) d tag
  pub counted : At (codes "count") (IsNumberWithin 8 4079) d count

-- the event is one of format 3 alone
pub record IsAskOf (format : Format) (d : Data) (walker : ℕ) : Type 0 where
  pub third : format ≡ Three
  pub keys : HasKeys ask_keys d
  pub does : Does (codes "ask") d
  pub number : At (codes "walker") IsWord d walker

-- the event is one of format 3 alone
pub record IsCollectedOf (format : Format) (d : Data) (walker : ℕ) : Type 0 where
  pub third : format ≡ Three
  pub keys : HasKeys collected_keys d
  pub does : Does (codes "collected") d
  pub number : At (codes "walker") IsWord d walker

-- an event at nodes with these names, in a list of this format
abbrev pub IsEventOf : Format → List (List ℕ) → Data → EventEntry → Type 0
IsEventOf format nodes d (put node bytes) = IsPutOf nodes d node bytes
IsEventOf format nodes d (move flight keep) = IsMoveOf d flight keep
IsEventOf format nodes d (lose flight) = IsLoseOf d flight
IsEventOf format nodes d (expire node source tag owner) = IsExpireOf nodes d node source tag owner
IsEventOf format nodes d (answer node) = IsAnswerOf nodes d node
IsEventOf format nodes d (switch node) = IsSwitchOf format nodes d node
IsEventOf format nodes d (walk node eid tag count) = IsWalkOf format nodes d node eid tag count
IsEventOf format nodes d (ask walker) = IsAskOf format d walker
IsEventOf format nodes d (collected walker) = IsCollectedOf format d walker

-- the number of the format
abbrev pub IsFormat : Data → Format → Type 0
IsFormat d One = IsNumber d 1
IsFormat d Two = IsNumber d 2
IsFormat d Three = IsNumber d 3

-- a list of events at the nodes of a plan
pub record AreEventsOf (plan : PlanValue) (d : Data) (es : List EventEntry) : Type 0 where
  pub keys : HasKeys events_keys d
  pub format : Format
  pub numbered : At (codes "format") IsFormat d format
  pub events : At (codes "events") (IsShortListOf most_events (IsEventOf format (node_names plan.nodes))) d es
