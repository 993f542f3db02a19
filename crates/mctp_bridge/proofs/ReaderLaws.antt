-- An entry reader that is fed a bridge's answers.
use Rattle.std.{proofs.Common.{◌≡◌, ◌≢◌, ℕ, ◌+◌, ◌<◌, Bool, true, List, [], ◌++◌, length, Option, None, Some, sym, ap, subst, ◌∙◌, inl, inr, arith, length-append, length-take}, specs.Prelude.{Result, Ok, option_map, if◌then◌else◌, MatchOption, is_some}, proofs.lemmas.Bool.{cases_lt, false≢true}}
use Rattle.mctp_control.{specs.Headers.{HeaderValue}, specs.RouteEntries.{EntryValue}, specs.Responses.{EntriesTold, ResponseValue}, specs.ResponseLaws.{one_response}}
use Rattle.mctp_bridge.{specs.declared.read_fault.ReadFault.{ReadFault}, specs.declared.read_fault.ReadFault.TheVariants.{NotAsked}, specs.Parts.{Tells}, specs.Readers.{ReaderState, Asks, AsksNothing, Takes, TakesPart, Ignores, asking, handle_after, is_last, state_after}, specs.Reads.{Exchange, IsTold, IsTablePart, Reads, due_after, collected, IsReadUpTo, HasReadUpTo, IsTaken}, proofs.Readings.{some_entry, next_last, ends_within, follows, reads_more, reading_collects, due_pushed, collected_pushed, reads_pushed}}
use Rattle.mctp_transport.specs.First.{First}

asked_by : (old new : ReaderState) (xs : List Exchange) (id : ℕ) (request : Option (List ℕ)) (handle : Option ℕ) → HasReadUpTo old xs → handle ≡ due_after xs
    → MatchOption handle (AsksNothing old request new) (λ handle. (request ≡ Some (asking id handle)) × (new ≡ record old { waiting = Some id }))
    → (request ≡ option_map (asking id) (due_after xs)) × HasReadUpTo new xs
asked_by old new xs id request None stands is asks = (asks.0 ∙ ap (option_map (asking id)) is, subst (λ w. HasReadUpTo w xs) (sym asks.1) stands)
asked_by old new xs id request (Some handle) stands is asks = (
  asks.0 ∙ ap (option_map (asking id)) is,
  subst (λ w. HasReadUpTo w xs) (sym asks.1) (record { entries = stands.entries; handle = stands.handle; goes = stands.goes }),
)

-- what is due is asked for
pub asked : (old new : ReaderState) (xs : List Exchange) (id : ℕ) (request : Option (List ℕ)) → HasReadUpTo old xs → Asks old id request new
    → (request ≡ option_map (asking id) (due_after xs)) × HasReadUpTo new xs
asked old new xs id request stands asks =
    elim asks [
      | inl (failed, _) ↦ absurd (false≢true (sym stands.goes ∙ failed))
      | inr (_, rest) ↦ asked_by old new xs id request old.handle stands stands.handle rest
    ]

told_next : (n m : ℕ) (es fs : List EntryValue) → EntriesTold n es ≡ EntriesTold m fs → n ≡ m
told_next n m es fs e = cc

told_entries : (n m : ℕ) (es fs : List EntryValue) → EntriesTold n es ≡ EntriesTold m fs → es ≡ fs
told_entries n m es fs e = cc

-- what is read with nothing more to ask for is the table
whole_at : (table entries : List EntryValue) (next : ℕ) → is_last next ≡ true → IsReadUpTo table (handle_after next) entries → entries ≡ table
whole_at table entries next last upto =
    let due : handle_after next ≡ None = ap (λ b. if b then None else Some next) last in
    subst (λ due. IsReadUpTo table due entries) due upto

is_there : (o : Option ℕ) (i : ℕ) → o ≡ Some i → o ≢ None
is_there o i is none = false≢true (sym (ap is_some none) ∙ ap is_some is)

-- bytes tell of one part of a table
same_told : (h k : HeaderValue) (n m : ℕ) (es fs : List EntryValue) (bytes : List ℕ) → Tells h n es bytes → Tells k m fs bytes → (h ≡ k) × (n ≡ m) × (es ≡ fs)
same_told h k n m es fs bytes one other =
    let same = one_response (record { header = h; answer = EntriesTold n es }) (record { header = k; answer = EntriesTold m fs }) one.0 other.0 (sym one.1 ∙ other.1) in
    let answers = ap (λ (r : ResponseValue). r.answer) same in
    (ap (λ (r : ResponseValue). r.header) same, told_next n m es fs answers, told_entries n m es fs answers)

module _ (table : List EntryValue) (told : IsTold table) (xs : List Exchange) (x : Exchange) (reads : Reads table xs) (part : IsTablePart table x)
    (old : ReaderState) (stands : HasReadUpTo old xs) (due : old.handle ≡ Some x.handle) where
  read_so_far : IsReadUpTo table (Some x.handle) (collected xs)
  read_so_far =
      let P : Option ℕ → Type 0 = λ due. IsReadUpTo table due (collected xs) in
      subst P (sym stands.handle ∙ due) (reading_collects table told.are xs reads)

  -- an answer that announces more has an entry
  never_empty : x.entries ≡ [] → x.next ≢ 255 → ⊥
  never_empty none more =
      elim (cases_lt (x.handle + length x.entries) (length table)) [
        | inl lt ↦ (let some = rw none at (some_entry table told.are x part (omega arith)) in absurd (omega arith))
        | inr ge ↦ more (part.next ∙ next_last table (x.handle + length x.entries) (ends_within table told.are x part) ge)
      ]

  -- there is room for its entries
  never_too_many : 247 < length old.entries + length x.entries → ⊥
  never_too_many many =
      let joined = ap length (follows table told.are (collected xs) x read_so_far.0 part) in
      let few = told.are.few in
      let is = ap length stands.entries in
      let whole = rw length-append at joined in
      let cut = length-take (x.handle + length x.entries) table in
      absurd (omega arith)

  taken : (result : Result Bool ReadFault) (new : ReaderState) → result ≡ Ok (is_last x.next) → new ≡ state_after old x.next x.entries → IsTaken table xs x result new
  taken result new is_result is_new =
      let due_is = sym stands.handle ∙ due in
      let more = reads_more table told.are (collected xs) x read_so_far part in
      let entries = ap (λ (w : ReaderState). w.entries) is_new ∙ ap (λ es. es ++ x.entries) stands.entries in
      record {
        told = is_result;
        reads = reads_pushed table (Some 0) xs x reads due_is part;
        stands = record {
          entries = entries ∙ sym (collected_pushed xs x);
          handle = ap (λ (w : ReaderState). w.handle) is_new ∙ sym (due_pushed (Some 0) xs x);
          goes = ap (λ (w : ReaderState). w.failed) is_new ∙ stands.goes;
        };
        whole = λ last. entries ∙ whole_at table (collected xs ++ x.entries) x.next last more;
      }

  by : (header h : HeaderValue) (n : ℕ) (es : List EntryValue) (result : Result Bool ReadFault) (new : ReaderState) → (h ≡ header) × (n ≡ x.next) × (es ≡ x.entries)
      → old.waiting ≡ Some header.instance → First (old.waiting ≢ Some h.instance) (Ignores old NotAsked result new) (TakesPart old n es result new) → IsTaken table xs x result new
  by header h n es result new (is_h, is_n, is_es) waits rest =
      elim rest [
        | inl (other, _) ↦ absurd (other (waits ∙ ap (λ (k : HeaderValue). Some k.instance) (sym is_h)))
        | inr (_, inl ((none, more), _)) ↦ absurd (never_empty (sym is_es ∙ none) (λ last. more (is_n ∙ last)))
        | inr (_, inr (_, inl (many, _))) ↦ absurd (never_too_many (rw is_es at many))
        | inr (_, inr (_, inr (_, (is_result, is_new)))) ↦ taken result new (is_result ∙ ap (λ m. Ok (is_last m)) is_n) (is_new ∙ ap (λ m. state_after old m es) is_n ∙ ap (state_after old x.next) is_es)
      ]

  -- the answer to the reader's request is taken
  pub answer_taken : (header : HeaderValue) (bytes : List ℕ) (result : Result Bool ReadFault) (new : ReaderState) → Tells header x.next x.entries bytes
      → old.waiting ≡ Some header.instance → Takes old bytes result new → IsTaken table xs x result new
  answer_taken header bytes result new tells waits takes =
      elim takes [
        | inl (failed, _) ↦ absurd (false≢true (sym stands.goes ∙ failed))
        | inr (_, inl (none, _)) ↦ absurd (is_there old.waiting header.instance waits none)
        | inr (_, inr (_, inl (nothing, _))) ↦ absurd (nothing header x.next x.entries tells)
        | inr (_, inr (_, inr (_, (h, n, es, other, rest)))) ↦ by header h n es result new (same_told h header n x.next es x.entries bytes other tells) waits rest
      ]
