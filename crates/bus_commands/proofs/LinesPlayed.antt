-- Lines that were played, and one more.
use Rattle.std.{proofs.Common.{◌≡◌, ℕ, ◌+◌, ◌-◌, ◌^◌, length, Bool, true, false, List, [], ◌∷◌, ◌++◌, Result, Ok, Err, inl, inr, refl, ap, ◌∙◌, subst, append_assoc}, specs.Prelude.{⊤}, specs.List.{flat_map}, proofs.lemmas.List.{flat_map_more, length_push}, proofs.lemmas.List.Elements.{All-nil, All-push}, proofs.KnownBytes.{Appends-nil, Appends-trans, Consumes-nil, Consumes-trans}, specs.Io.KnownBytes.{Appends, Consumes}}
use Rattle.command_answers.{specs.Answers.{Stream}, specs.declared.refused.Refused.{Refused}}
use Rattle.net_plan.specs.Stream.{Account}
use Rattle.bus_commands.{specs.Lines.{GaveLine, HasNoEnd}, specs.Playing.{LineTurn, TakesTurns, lines_of, IsGivenLine, BreaksAt, KeepsRoom, PlaysLine, Writes, PlaysWhole, PlaysAll, BreaksOff}, specs.declared.playing.Stop.{Stop}}
use Rattle.command_answers.specs.declared.refused.Input.TheVariants as input
use Rattle.command_answers.specs.declared.refused.Refused.TheVariants as refused
use Rattle.net_plan.specs.declared.error.PlanError.TheVariants as error
use Rattle.bus_commands.specs.declared.playing.Stop.TheVariants as stop

abbrev pub between : Account → Account → Stream
between before after = record { before = before; after = after }

-- one turn more
pub takes_more : {S : Type 0} (Takes : S → List ℕ → List ℕ → List ℕ → S → Type 0) (s last next : S) (turns : List LineTurn) (t : LineTurn) → TakesTurns Takes s turns last
    → Takes last t.line t.answer t.note next → TakesTurns Takes s (turns ++ t ∷ []) next
takes_more Takes s last next [] t is takes = (next, subst (λ x. Takes x t.line t.answer t.note next) is takes, refl)
takes_more Takes s last next (u ∷ turns) t (mid, first, rest) takes = (mid, first, takes_more Takes mid last next turns t rest takes)

-- what stands in front of all turns' texts, and one more
joined_more : (f : LineTurn → List ℕ) (turns : List LineTurn) (t : LineTurn) → flat_map f turns ++ f t ≡ flat_map f (turns ++ t ∷ [])
joined_more f turns t = flat_map_more f [] turns t

more_appended : (f : LineTurn → List ℕ) (turns : List LineTurn) (t : LineTurn) (a b c : Account) → Appends a.bytes b.bytes (flat_map f turns)
    → Appends b.bytes c.bytes (f t) → Appends a.bytes c.bytes (flat_map f (turns ++ t ∷ []))
more_appended f turns t a b c first second =
    subst (Appends a.bytes c.bytes) (joined_more f turns t) (Appends-trans a.bytes b.bytes c.bytes (flat_map f turns) (f t) first second)

-- nothing was played yet
pub plays_none : {S : Type 0} (Takes : S → List ℕ → List ℕ → List ℕ → S → Type 0) (s : S) (i o e : Account) → Consumes i.bytes i.bytes [] → Appends o.bytes o.bytes [] → Appends e.bytes e.bytes []
    → PlaysWhole Takes s s [] (between i i) (between o o) (between e e)
plays_none Takes s i o e read answered noted =
    record { takes = refl; lines = All-nil (λ t. HasNoEnd t.line); read = read; answered = answered; noted = noted }

module _ {S : Type 0} (Stands : S → Type 0) (Takes : S → List ℕ → List ℕ → List ℕ → S → Type 0) (s last : S) (turns : List LineTurn) (i j k o p q e f g : Account)
    (whole : PlaysWhole Takes s last turns (between i j) (between o p) (between e f)) where
  -- a line more, with its end
  pub plays_more : (line : IsGivenLine Stands Takes last false (Ok false) (between j k) (between p q) (between f g))
      → PlaysWhole Takes s line.next (turns ++ line.turn ∷ []) (between i k) (between o q) (between e g)
  plays_more line = record {
    takes = takes_more Takes s last line.next turns line.turn whole.takes line.takes;
    lines = All-push (λ t. HasNoEnd t.line) turns line.turn whole.lines line.given.0;
    read = subst (Consumes i.bytes k.bytes) (joined_more (λ t. t.line ++ 10 ∷ []) turns line.turn)
        (Consumes-trans i.bytes j.bytes k.bytes (lines_of turns) (line.turn.line ++ 10 ∷ []) whole.read line.given.1);
    answered = more_appended (λ t. t.answer) turns line.turn o p q whole.answered line.writes.0;
    noted = more_appended (λ t. t.note) turns line.turn e f g whole.noted line.writes.1;
  }

  -- the last line
  pub plays_all : IsGivenLine Stands Takes last true (Ok true) (between j k) (between p q) (between f g)
      → PlaysAll Takes s (between i k) (between o q) (between e g)
  plays_all line = record {
    text = lines_of turns ++ line.turn.line;
    turns = turns ++ line.turn ∷ [];
    last = line.next;
    takes = takes_more Takes s last line.next turns line.turn whole.takes line.takes;
    lines = All-push (λ t. HasNoEnd t.line) turns line.turn whole.lines line.given.0;
    joined = append_assoc (lines_of turns) line.turn.line (10 ∷ []) ∙ joined_more (λ t. t.line ++ 10 ∷ []) turns line.turn;
    read = Consumes-trans i.bytes j.bytes k.bytes (lines_of turns) line.turn.line whole.read line.given.1.0;
    ends = line.given.1.1;
    answered = more_appended (λ t. t.answer) turns line.turn o p q whole.answered line.writes.0;
    noted = more_appended (λ t. t.note) turns line.turn e f g whole.noted line.writes.1;
  }

  -- whatever it stands for then
  given_also : (due : Result Bool Stop) (end : Bool) (inputs outputs said : Stream) → IsGivenLine Stands Takes last end due inputs outputs said
      → IsGivenLine (λ next. ⊤) Takes last end due inputs outputs said
  given_also due end inputs outputs said line =
      record { turn = line.turn; next = line.next; given = line.given; takes = line.takes; stands = tt; writes = line.writes }

  breaks_also : (why : Stop) (inputs outputs said : Stream) → BreaksAt Stands Takes last why inputs outputs said
      → BreaksAt (λ next. ⊤) Takes last why inputs outputs said
  breaks_also (stop.Refused refused.Usage) inputs outputs said breaks = absurd breaks
  breaks_also (stop.Refused (refused.Unreadable input.Plan cause)) inputs outputs said breaks = absurd breaks
  breaks_also (stop.Refused (refused.Unreadable input.Certificate cause)) inputs outputs said breaks = absurd breaks
  breaks_also (stop.Refused (refused.Unreadable input.Events cause)) inputs outputs said breaks = absurd breaks
  breaks_also (stop.Refused (refused.Unreadable input.Lines cause)) inputs outputs said breaks = breaks
  breaks_also (stop.Refused refused.UnknownNode) inputs outputs said breaks = absurd breaks
  breaks_also (stop.Refused refused.UnreadableHex) inputs outputs said breaks = absurd breaks
  breaks_also (stop.Refused refused.TooMuch) inputs outputs said breaks = absurd breaks
  breaks_also (stop.Refused refused.Unwritten) inputs outputs said (end, line) =
      (end, given_also (Err (stop.Refused refused.Unwritten)) end inputs outputs said line)
  breaks_also (stop.Refused refused.NoMemory) inputs outputs said breaks = breaks
  breaks_also stop.Unsaid inputs outputs said (end, line) = (end, given_also (Err stop.Unsaid) end inputs outputs said line)

  -- it breaks off at the next line
  pub plays_part : (why : Stop) → BreaksAt Stands Takes last why (between j k) (between p q) (between f g)
      → BreaksOff Takes s why (between i k) (between o q) (between e g)
  plays_part why breaks = record {
    turns = turns;
    between = last;
    read = j;
    written = p;
    noted = f;
    whole = whole;
    breaks = inl (breaks_also why (between j k) (between p q) (between f g) breaks);
  }

-- so many lines were played whole, and the node stands for what they led to
pub record HasPlayed {S : Type 0} (Stands : S → Type 0) (Takes : S → List ℕ → List ℕ → List ℕ → S → Type 0) (s : S) (count : ℕ) (inputs outputs said : Stream) : Type 0 where
  pub turns : List LineTurn
  pub last : S
  pub whole : PlaysWhole Takes s last turns inputs outputs said
  pub stands : Stands last
  pub many : length turns ≡ count

pub played_none : {S : Type 0} (Stands : S → Type 0) (Takes : S → List ℕ → List ℕ → List ℕ → S → Type 0) (s : S) (i o e : Account) → Stands s
    → HasPlayed Stands Takes s 0 (between i i) (between o o) (between e e)
played_none Stands Takes s i o e stands = record {
  turns = [];
  last = s;
  stands = stands;
  many = refl;
  whole = plays_none Takes s i o e (Consumes-nil i.bytes) (Appends-nil o.bytes) (Appends-nil e.bytes);
}

module _ {N S : Type 0} (Stands Stands' : S → Type 0) (Taking : N → S → List ℕ → List ℕ → List ℕ → S → Type 0) (nature nature' : N) (same : nature' ≡ nature) (s : S) (count : ℕ) (i j k o p q e f g : Account)
    (before : HasPlayed Stands (Taking nature) s count (between i j) (between o p) (between e f)) where
  abbrev Plays : Result Bool Stop → Type 0
  Plays ended = (x : S) → Stands x → PlaysLine Stands' (Taking nature') x ended (between j k) (between p q) (between f g)

  played : (ended due : Result Bool Stop) → ended ≡ due → Plays ended → PlaysLine Stands' (Taking nature) before.last due (between j k) (between p q) (between f g)
  played ended due is line =
      subst (λ x. PlaysLine Stands' (Taking x) before.last due (between j k) (between p q) (between f g)) same (subst Plays is line before.last before.stands)

  pub played_more : (ended : Result Bool Stop) → ended ≡ Ok false → Plays ended → HasPlayed Stands' (Taking nature) s (count + 1) (between i k) (between o q) (between e g)
  played_more ended is line =
      let given = played ended (Ok false) is line in record {
        turns = before.turns ++ given.turn ∷ [];
        last = given.next;
        whole = plays_more Stands' (Taking nature) s before.last before.turns i j k o p q e f g before.whole given;
        stands = given.stands;
        many = length_push before.turns given.turn ∙ ap (λ n. n + 1) before.many;
      }

  pub played_all : (ended : Result Bool Stop) → ended ≡ Ok true → Plays ended → PlaysAll (Taking nature) s (between i k) (between o q) (between e g)
  played_all ended is line = plays_all Stands' (Taking nature) s before.last before.turns i j k o p q e f g before.whole (played ended (Ok true) is line)

  pub played_part : (why : Stop) → Plays (Err why) → BreaksOff (Taking nature) s why (between i k) (between o q) (between e g)
  played_part why line = plays_part Stands' (Taking nature) s before.last before.turns i j k o p q e f g before.whole why (played (Err why) (Err why) refl line)

-- what standard error has failed
pub keeps_after : (why : Stop) (e f g : Account) → f.failures ≡ e.failures → KeepsRoom {T = Bool} (Err why) (between f g) → KeepsRoom {T = Bool} (Err why) (between e g)
keeps_after (stop.Refused why) e f g same kept = kept ∙ same
keeps_after stop.Unsaid e f g same kept = tt

-- a line that the node was given, and what was written for it
module _ {S : Type 0} (Stands : S → Type 0) (Takes : S → List ℕ → List ℕ → List ℕ → S → Type 0) (s next : S) (last : Bool) (line text answer note : List ℕ) (inputs outputs said : Stream)
    (given : GaveLine last inputs.before.bytes inputs.after.bytes text) (same : line ≡ text) (takes : Takes s line answer note next) (stands : Stands next) where
  pub given_line : (ended : Result Bool Stop) → Writes answer note ended outputs said → IsGivenLine Stands Takes s last ended inputs outputs said
  given_line ended writes = record {
    turn = record { line = text; answer = answer; note = note };
    next = next;
    given = given;
    takes = subst (λ l. Takes s l answer note next) same takes;
    stands = stands;
    writes = writes;
  }

  pub breaks_line : (T : Type 0) (why : Stop) → Writes {T = T} answer note (Err why) outputs said → BreaksAt Stands Takes s why inputs outputs said
  breaks_line T (stop.Refused refused.Usage) writes = absurd writes
  breaks_line T (stop.Refused (refused.Unreadable input cause)) writes = absurd writes
  breaks_line T (stop.Refused refused.UnknownNode) writes = absurd writes
  breaks_line T (stop.Refused refused.UnreadableHex) writes = absurd writes
  breaks_line T (stop.Refused refused.TooMuch) writes = absurd writes
  breaks_line T (stop.Refused refused.Unwritten) writes = (last, given_line (Err (stop.Refused refused.Unwritten)) writes)
  breaks_line T (stop.Refused refused.NoMemory) writes = absurd writes
  breaks_line T stop.Unsaid writes = (last, given_line (Err stop.Unsaid) writes)

-- there were as many lines as are taken at most
pub played_most : {S : Type 0} (Stands : S → Type 0) (Takes : S → List ℕ → List ℕ → List ℕ → S → Type 0) (s : S) (i j o p e f : Account) (why : Refused)
    → HasPlayed Stands Takes s (2 ^ 64 - 1) (between i j) (between o p) (between e f) → why ≡ refused.Unreadable input.Lines error.OverLimit
    → BreaksOff Takes s (stop.Refused why) (between i j) (between o p) (between e f)
played_most Stands Takes s i j o p e f why before is = record {
  turns = before.turns;
  between = before.last;
  read = j;
  written = p;
  noted = f;
  whole = before.whole;
  breaks = inr (ap stop.Refused is, before.many);
}
