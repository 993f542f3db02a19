-- Some table stands for each history: so each packet has its answer, and each key is open or not.
use Rattle.std.{proofs.Common.{◌≡◌, ℕ, zero, suc, Bool, true, [], ◌∷◌, ◌++◌, length, slice_get, position, Option, Some, None, is_none, is_some, refl, sym, ap, ◌∙◌, inl, inr, subst}, specs.Prelude.{◌↔◌, nat_lt}, proofs.lemmas.Bool.{cases_Bool}, proofs.lemmas.List.{length-set, append_assoc, append-nil}, proofs.lemmas.Option.{same_Some, none-some}}
use Rattle.mctp_transport.{specs.PacketValues.{PacketValue, KeyValue, key_of}, specs.Histories.{Input, Arrived, TimeUp, History, after, IsOpen}, specs.Hearing.{Answer, HearsOnly}, specs.Tables.{Partial, Holds, TableStandsFor, Table, is_at}, specs.TableChanges.{next_partial, placed, started, ended, carried_at, carried, moved, expired}, proofs.Standing.{moved_is, pick_true, pick_false, found_open, expired_stands, nothing_stands}}

-- a table with nothing in its slots
abbrev free_table : ℕ → Table
free_table zero = []
free_table (suc n) = None ∷ free_table n

free_length : (n : ℕ) → length (free_table n) ≡ n
free_length zero = refl
free_length (suc n) = ap suc (free_length n)

free_holds_none : (n i : ℕ) (q : Partial) → ¬ Holds (free_table n) i q
free_holds_none zero i q a = none-some (Some q) a
free_holds_none (suc n) zero q a = none-some q (same_Some None (Some q) a)
free_holds_none (suc n) (suc i) q a = free_holds_none n i q a

-- no input changes the number of slots
ended_length : (t : Table) (found : Option ℕ) → length (ended t found) ≡ length t
ended_length t None = refl
ended_length t (Some i) = length-set t i None

placed_length : (t : Table) (p : PacketValue) (found : Option ℕ) → length (placed t p found).0 ≡ length t
placed_length t p None = refl
placed_length t p (Some i) = length-set t i _

started_length : (limit : ℕ) (t : Table) (p : PacketValue) → length (started limit t p).0 ≡ length t
started_length limit t p = elim (cases_Bool (nat_lt limit (length p.payload))) [
  | inl y ↦ rw y refl
  | inr n ↦ elim (cases_Bool p.eom) [ inl y ↦ rw (n, y) refl | inr z ↦ rw (n, z) (placed_length t p (position is_none t)) ]
]

carried_at_length : (limit : ℕ) (t : Table) (p : PacketValue) (i : ℕ) (o : Option (Option Partial)) → length (carried_at limit t p i o).0 ≡ length t
carried_at_length limit t p i None = refl
carried_at_length limit t p i (Some None) = refl
carried_at_length limit t p i (Some (Some q)) = length-set t i (next_partial limit q p)

carried_length : (limit : ℕ) (t : Table) (p : PacketValue) (found : Option ℕ) → length (carried limit t p found).0 ≡ length t
carried_length limit t p None = refl
carried_length limit t p (Some i) = carried_at_length limit t p i (slice_get t i)

moved_length : (limit : ℕ) (t : Table) (p : PacketValue) → length (moved limit t p).0 ≡ length t
moved_length limit t p =
    let P : Table × Answer → Type 0 = λ x. length x.0 ≡ length t in
    let index = position (is_at (key_of p)) t in
    elim (cases_Bool p.som) [
      | inl y ↦ pick_true P p.som _ _ y (started_length limit (ended t index) p ∙ ended_length t index)
      | inr n ↦ pick_false P p.som _ _ n (carried_length limit t p index)
    ]

-- a table of so many slots that stands for the history
pub record SomeTable (slots limit : ℕ) (history : History) : Type 0 where
  pub table : Table
  pub stands : TableStandsFor slots limit table history
  pub long : length table ≡ slots

table_after : (slots limit : ℕ) (history : History) (i : Input) → SomeTable slots limit history → SomeTable slots limit (after history i)
table_after slots limit history (Arrived p) s = record {
  table = (moved limit s.table p).0;
  stands = (moved_is slots limit s.table history p s.stands s.long).1;
  long = moved_length limit s.table p ∙ s.long;
}
table_after slots limit history (TimeUp key) s = record {
  table = expired s.table key;
  stands = expired_stands slots limit s.table history key s.stands;
  long = ended_length s.table (position (is_at key) s.table) ∙ s.long;
}

table_after_all : (slots limit : ℕ) (history inputs : History) → SomeTable slots limit history → SomeTable slots limit (history ++ inputs)
table_after_all slots limit history [] s = subst (λ (h : History). SomeTable slots limit h) (sym (append-nil history)) s
table_after_all slots limit history (i ∷ is) s =
    subst (λ (h : History). SomeTable slots limit h) (append_assoc history (i ∷ []) is)
    (table_after_all slots limit (after history i) is (table_after slots limit history i s))

some_table : (slots limit : ℕ) (history : History) → SomeTable slots limit history
some_table slots limit history = table_after_all slots limit [] history (record {
  table = free_table slots;
  stands = nothing_stands slots limit (free_table slots) (free_holds_none slots);
  long = free_length slots;
})

-- each packet has an answer, and no other
pub some_answer : (slots limit : ℕ) (history : History) (p : PacketValue) → (a : Answer) × HearsOnly slots limit history p a
some_answer slots limit history p =
    let s = some_table slots limit history in
    ((moved limit s.table p).1, (moved_is slots limit s.table history p s.stands s.long).0)

-- each key is open or not
pub open_or_not : (slots limit : ℕ) (history : History) (key : KeyValue) → (b : Bool) × ((b ≡ true) ↔ IsOpen slots limit history key)
open_or_not slots limit history key =
    let s = some_table slots limit history in
    (is_some (position (is_at key) s.table), found_open slots limit s.table history key s.stands)
