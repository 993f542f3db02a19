-- One message more.
use Rattle.std.{proofs.Common.{◌≡◌, ◌⊎◌, ℕ, ◌<◌, ◌+◌, List, [], ◌∷◌, ◌++◌, length, ap, sym, ◌∙◌, subst, get_or, map, take, drop, inl, inr, Bool, not, add-one, suc, zero, refl}, specs.Prelude.{Option, Some, None, MatchOption}, proofs.Math.Seq.{drop-cons}, proofs.lemmas.List.{take_more, map-append}}
use Rattle.heard_captures.{specs.Messages.{MessageValue, message_value}, specs.declared.messages.Message.{Message}}
use Rattle.audited_captures.{specs.Words.{WordValue, word_value, IsSaid, IsWord, IsNoWord, IsMisowned, IsNotMisowned, AddsWord, AreWords, Other, More}, specs.declared.words.Word.{Word}}

-- so many items of a list, and the next one
pub mapped_more : {A B : Type 0} (f : A → B) (items : List A) (i : ℕ) (item : A) → i < length items → item ≡ get_or items i item
    → map f (take (i + 1) items) ≡ map f (take i items) ++ f item ∷ []
mapped_more f items i item within is =
    ap (map f) (take_more items i item within ∙ ap (λ x. take i items ++ x ∷ []) (sym is)) ∙ map-append f (take i items) (item ∷ [])

-- what is left from a place on is the item there, and what is left after it
pub left_mapped : {A B : Type 0} (f : A → B) (items : List A) (i : ℕ) (item : A) → i < length items → item ≡ get_or items i item
    → map f (drop i items) ≡ f item ∷ map f (drop (i + 1) items)
left_mapped f items i item within is =
    ap (map f) (drop-cons items i item within ∙ ap (λ x. x ∷ drop (suc i) items) (sym is)) ∙ ap (λ k. f item ∷ map f (drop k items)) (sym (add-one i))

added : (ms : List MessageValue) (old new : List WordValue) (m : MessageValue) → AreWords ms old → AddsWord m old new → AreWords (ms ++ m ∷ []) new
added ms old new m are (inl (none, same)) = subst (λ ws. AreWords (ms ++ m ∷ []) ws) (sym same) (Other ms old m are none)
added ms old new m are (inr (w, is, same)) = subst (λ ws. AreWords (ms ++ m ∷ []) ws) (sym same) (More ms old m w are is)

-- the next message of a list
pub next_word : (items : List Message) (i : ℕ) (item : Message) (old new : List WordValue) → i < length items → item ≡ get_or items i item
    → AreWords (map message_value (take i items)) old → AddsWord (message_value item) old new → AreWords (map message_value (take (i + 1) items)) new
next_word items i item old new within is are adds =
    subst (λ ms. AreWords ms new) (sym (mapped_more message_value items i item within is)) (added (map message_value (take i items)) old new (message_value item) are adds)

-- ---- what a message says

neither : {A : Type 0} (P Q : A → Type 0) → ((w : A) → ¬ P w) → ((w : A) → ¬ Q w) → (w : A) → ¬ (P w ⊎ Q w)
neither P Q no_p no_q w (inl p) = no_p w p
neither P Q no_p no_q w (inr q) = no_q w q

-- it isn't the one, so it is the other or neither
pub or_other : {A W : Type 0} (P Q : A → Type 0) (value : W → A) (found : Option W) → ((w : A) → ¬ P w) → MatchOption found ((w : A) → ¬ Q w) (λ x. Q (value x))
    → MatchOption found ((w : A) → ¬ (P w ⊎ Q w)) (λ x. P (value x) ⊎ Q (value x))
or_other P Q value None no_p no_q = neither P Q no_p no_q
or_other P Q value (Some x) no_p q = inr q

module _ (m : MessageValue) (found : Option Word) where
  abbrev Says : Bool → Type 0
  Says owns = MatchOption found ((w : WordValue) → ¬ IsSaid owns m w) (λ word. IsSaid owns m (word_value word))

  -- by who owns the tag
  pub said_by : (owns : Bool) → m.owner ≡ owns → Says owns → MatchOption found (IsNoWord m) (λ word. IsWord m (word_value word))
  said_by owns is says = subst Says (sym is) says

  pub misowned_by : (owns : Bool) → m.owner ≡ owns → Says (not owns) → MatchOption found (IsNotMisowned m) (λ word. IsMisowned m (word_value word))
  misowned_by owns is says = subst (λ (b : Bool). Says (not b)) (sym is) says
