-- How often messages came on each interface, as the code keeps it.
use Rattle.std.{specs.Prelude.{◌≡◌, ◌≤◌, ◌<◌, ◌+◌, ℕ, Bool, true, false, List, Option, Some, None, unwrap_or}, specs.Cmp.Lexicographic.{slice_cmp}, specs.Ordering.{nat_cmp}, specs.Str.{bytes_eq}, specs.BTreeMap.{get, get_by}}
use Rattle.bus_captures.specs.declared.capture.Interface.{Interface}
use Rattle.heard_captures.{specs.Messages.{MessageValue}, specs.Said.{spoken}, specs.Places.{is_same, pair_of, pair_cmp}, specs.declared.times.Tally.{Tally}, specs.declared.times.Times.{Times}}

-- how often it came on an interface, and the most often on one of them
abbrev pub times_on : Option Times → Interface → ℕ
times_on None i = 0
times_on (Some t) i = unwrap_or (get pair_cmp t.on (pair_of i)) 0

abbrev pub most_on : Option Times → ℕ
most_on None = 0
most_on (Some t) = t.most

-- it never came
pub record IsNever (t : Times) : Type 0 where
  pub never : (i : Interface) → times_on (Some t) i ≡ 0
  pub most : t.most ≡ 0

-- It came once more on an interface, and that is new where it came there as often as anywhere before.
pub record Counts (old new : Option Times) (i : Interface) (is_new : Bool) : Type 0 where
  pub this : (j : Interface) → is_same i j ≡ true → times_on new j ≡ times_on old j + 1
  pub others : (j : Interface) → is_same i j ≡ false → times_on new j ≡ times_on old j
  pub fresh : is_new ≡ true → (most_on old ≤ times_on old i) × (most_on new ≡ times_on old i + 1)
  pub again : is_new ≡ false → (times_on old i < most_on old) × (most_on new ≡ most_on old)

-- the counts of what is said by these bytes
abbrev pub times_of : Tally → List ℕ → Option Times
times_of tally bytes = get_by (λ k. slice_cmp nat_cmp bytes k.items) tally.by_message

abbrev pub IsEmptyTally : Tally → Type 0
IsEmptyTally tally = (bytes : List ℕ) → times_of tally bytes ≡ None

-- a message came once more on an interface
pub record Tallies (old new : Tally) (i : Interface) (m : MessageValue) (is_new : Bool) : Type 0 where
  pub this : Counts (times_of old (spoken m)) (times_of new (spoken m)) i is_new
  pub others : (bytes : List ℕ) → bytes_eq (spoken m) bytes ≡ false → times_of new bytes ≡ times_of old bytes
