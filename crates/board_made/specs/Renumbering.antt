-- How the numbers of two plans' nodes differ, and the lines that tell it.
use Rattle.std.{specs.Prelude.{ℕ, Bool, true, false, not, ◌&&◌, ◌||◌, ◌==◌, ◌+◌, nat_le, nat_lt, if◌then◌else◌, List, [], ◌++◌, Option, Some, None, codes, length, count_by}, specs.List.{flat_map, find}, specs.Str.{bytes_eq}, specs.Fmt.{decimal}}
use Rattle.plan_values.specs.declared.plan.Plan.{Plan}
use Rattle.board_made.specs.Numbers.{NumberValue, plan_numbers}

abbrev pub same_part : Bool → Bool → Bool
same_part true b = b
same_part false b = not b

-- whether two numbers are of one thing: the endpoint ID or the pool of nodes of one name
abbrev pub same_thing : NumberValue → NumberValue → Bool
same_thing a b = bytes_eq a.node b.node && same_part a.is_pool b.is_pool

-- the number of the same thing among others, the first if there are several
abbrev pub number_in : List NumberValue → NumberValue → Option NumberValue
number_in numbers n = find (same_thing n) numbers

abbrev pub same_begin : Option ℕ → Option ℕ → Bool
same_begin None None = true
same_begin (Some a) (Some b) = a == b
same_begin _ _ = false

abbrev pub same_owner : Option (List ℕ) → Option (List ℕ) → Bool
same_owner None None = true
same_owner (Some a) (Some b) = bytes_eq a b
same_owner _ _ = false

-- whether another number has the endpoint ID: one that a node holds, or a pool beside, of the same owner's pool
abbrev pub takes : NumberValue → ℕ → NumberValue → Bool
takes n eid m =
    not (same_thing n m) && (nat_le m.first eid && (nat_lt eid (m.first + m.size)
    && (not m.is_pool || same_begin n.within m.within)))

abbrev pub part_word : NumberValue → List ℕ
part_word n = if n.is_pool then codes "pool" else codes "eid"

-- why a number is another one, as far as that is told
abbrev pub taken_text : ℕ → Option NumberValue → List ℕ
taken_text eid None = []
taken_text eid (Some m) = codes ": " ++ (decimal eid ++ (codes " is of " ++ (m.node ++ codes " now")))

abbrev pub owner_text : Option (List ℕ) → List ℕ
owner_text None = codes ": it has no owner now"
owner_text (Some name) = codes ": its owner is " ++ (name ++ codes " now")

abbrev pub place_text : List NumberValue → NumberValue → NumberValue → List ℕ
place_text news o n =
    if same_begin o.within n.within then taken_text o.first (find (takes n o.first) news)
    else codes ": its owner's pool moved"

abbrev pub reason_text : List NumberValue → NumberValue → NumberValue → List ℕ
reason_text news o n = if same_owner o.owner n.owner then place_text news o n else owner_text n.owner

abbrev pub moved_line : List NumberValue → NumberValue → NumberValue → List ℕ
moved_line news o n =
    codes "moved " ++ (n.node ++ (codes " " ++ (part_word n ++ (codes " " ++ (decimal o.first
    ++ (codes " to " ++ (decimal n.first ++ (reason_text news o n ++ codes "\n"))))))))

-- `new NAME eid 12`, `gone NAME eid 12`
abbrev pub plain_line : List ℕ → NumberValue → List ℕ
plain_line word n =
    word ++ (codes " " ++ (n.node ++ (codes " " ++ (part_word n ++ (codes " " ++ (decimal n.first ++ codes "\n"))))))

-- the line of a number of the new plan, by what it was, or nothing where it is the same
abbrev pub changed_line : List NumberValue → NumberValue → Option NumberValue → List ℕ
changed_line news n None = plain_line (codes "new") n
changed_line news n (Some o) = if o.first == n.first then [] else moved_line news o n

-- the line of a number of the old plan that the new one doesn't have
abbrev pub gone_line : NumberValue → Option NumberValue → List ℕ
gone_line o None = plain_line (codes "gone") o
gone_line o (Some n) = []

-- whether a number is the same as before
abbrev pub is_kept : NumberValue → Option NumberValue → Bool
is_kept o None = false
is_kept o (Some n) = o.first == n.first

abbrev pub lines_of : List NumberValue → List NumberValue → List ℕ
lines_of olds news =
    flat_map (λ n. changed_line news n (number_in olds n)) news
    ++ flat_map (λ o. gone_line o (number_in news o)) olds

-- The lines of each number of the new plan that is new or another one, in its order, and of each that is gone, in the
-- order of the old plan.
abbrev pub renumbered_lines : Plan → Plan → List ℕ
renumbered_lines old new = lines_of (plan_numbers old) (plan_numbers new)

abbrev pub kept_count : List NumberValue → List NumberValue → ℕ
kept_count olds news = count_by (λ o. is_kept o (number_in news o)) olds

-- how many numbers of the old plan the new one has
abbrev pub kept_line : Plan → Plan → List ℕ
kept_line old new =
    codes "kept " ++ (decimal (kept_count (plan_numbers old) (plan_numbers new))
    ++ (codes " of " ++ (decimal (length (plan_numbers old)) ++ codes "\n")))
