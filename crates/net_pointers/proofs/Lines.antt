-- Where the last line begins.
use Rattle.std.{proofs.Common.{◌≡◌, ℕ, List, [], ◌∷◌, Bool, true, false, if◌then◌else◌, refl}, specs.List.{list_any}}
use Rattle.net_pointers.specs.Positions.{is_line_feed, last_line}

-- the last line of what is left, or what was seen to be the last line's beginning
abbrev pub last_of : List ℕ → List ℕ → List ℕ
last_of left seen = if list_any is_line_feed left then last_line left else seen

again : {A : Type 0} (t : Bool) (a b : A) → (if t then a else b) ≡ (if t then (if t then a else b) else b)
again true a b = refl
again false a b = refl

pub whole_left : (xs : List ℕ) → last_line xs ≡ last_of xs xs
whole_left [] = refl
whole_left (b ∷ bs) = again (list_any is_line_feed (b ∷ bs)) (last_line bs) (b ∷ bs)

pub line_feed : (b : ℕ) (left seen : List ℕ) → is_line_feed b ≡ true → last_of (b ∷ left) seen ≡ last_of left left
line_feed b left seen e = rw e (whole_left left)

inner : {A : Type 0} (t : Bool) (a b c : A) → (if t then (if t then a else b) else c) ≡ (if t then a else c)
inner true a b c = refl
inner false a b c = refl

pub other_byte : (b : ℕ) (left seen : List ℕ) → is_line_feed b ≡ false → last_of (b ∷ left) seen ≡ last_of left seen
other_byte b left seen e = rw e (inner (list_any is_line_feed left) (last_line left) (b ∷ left) seen)
