-- Lines of devices that no node of the plan stands for.
use Rattle.std.{proofs.Common.{◌≡◌, ℕ, ◌<◌, ◌+◌, List, [], ◌∷◌, ◌++◌, length, arith, refl, ap, sym, subst, inl, inr, map, take, get_or}, specs.Prelude.{Result, Ok, Err, IfOk}}
use Rattle.plan_values.specs.declared.plan.Plan.{Plan}
use Rattle.audited_captures.{specs.Counting.{difference_count}, specs.Exchanges.{ExchangeValue, exchange_value}, specs.declared.exchanges.Exchange.{Exchange}, specs.Lines.{LineValue}, specs.Strangers.{IsStranger, IsOfNone, stranger_line, AreLinesOf, AreStrangerLines, Empty, More, HasNoStrangers}, proofs.MatchLaws.{AllDiffer, all_both, zero_left, zero_right, zero_both}, proofs.PacketLaws.{among_left, among_right, among_split}, proofs.WordLaws.{mapped_more}}

module _ (plan : Plan) where
  pub next_answer : (items : List Exchange) (i : ℕ) (item : Exchange) (old more new : List LineValue) → i < length items → item ≡ get_or items i item
      → AreStrangerLines plan (map exchange_value (take i items)) old → AreLinesOf plan (exchange_value item) more → new ≡ old ++ more
      → AreStrangerLines plan (map exchange_value (take (i + 1) items)) new
  next_answer items i item old more new within is are of_one joined =
      subst (λ xs. AreStrangerLines plan xs new) (sym (mapped_more exchange_value items i item within is))
      (subst (λ ls. AreStrangerLines plan (map exchange_value (take i items) ++ exchange_value item ∷ []) ls) (sym joined)
      (More (map exchange_value (take i items)) old (exchange_value item) more are of_one))

  pub some_line : {T E : Type 0} (lines_of : T → List LineValue) (x : ExchangeValue) (eid : ℕ) (result : Result T E) → IsStranger plan x eid
      → IfOk result (λ t. lines_of t ≡ stranger_line eid ∷ []) → IfOk result (λ t. AreLinesOf plan x (lines_of t))
  some_line lines_of x eid (Ok t) is told = inl (eid, is, told)
  some_line lines_of x eid (Err e) is told = told

  of_none : (x : ExchangeValue) (ls : List LineValue) → AreLinesOf plan x ls → difference_count ls ≡ 0 → IsOfNone plan x
  of_none x ls (inl (eid, is, told)) zero =
      let one : difference_count ls ≡ 1 = ap difference_count told in
      absurd (omega (arith, one, zero))
  of_none x ls (inr (none, told)) zero = none

  none_told : (x : ExchangeValue) (ls : List LineValue) → AreLinesOf plan x ls → IsOfNone plan x → difference_count ls ≡ 0
  none_told x ls (inl (eid, is, told)) none = absurd (none eid is)
  none_told x ls (inr (of_none, told)) none = ap difference_count told

  pub no_strangers : {xs : List ExchangeValue} {ls : List LineValue} → AreStrangerLines plan xs ls → difference_count ls ≡ 0 → HasNoStrangers plan xs
  no_strangers Empty zero x among = absurd among
  no_strangers (More xs ls y more are of_one) zero x among = elim (among_split x xs (y ∷ []) among) [
    | inl before ↦ no_strangers are (zero_left ls more zero) x before
    | inr last ↦ elim last [
      | inl same ↦ subst (λ z. IsOfNone plan z) same (of_none y more of_one (zero_right ls more zero))
      | inr none ↦ absurd none
    ]
  ]

  pub no_stranger_told : {xs : List ExchangeValue} {ls : List LineValue} → AreStrangerLines plan xs ls → HasNoStrangers plan xs → difference_count ls ≡ 0
  no_stranger_told Empty none = refl
  no_stranger_told (More xs ls y more are of_one) none =
      zero_both ls more (no_stranger_told are (λ x among. none x (among_left x xs (y ∷ []) among)))
      (none_told y more of_one (none y (among_right y xs (y ∷ []) (inl refl))))

  one_differs : (x : ExchangeValue) (ls : List LineValue) → AreLinesOf plan x ls → AllDiffer ls
  one_differs x ls (inl (eid, is, told)) = subst AllDiffer (sym told) refl
  one_differs x ls (inr (none, told)) = subst AllDiffer (sym told) refl

  -- each line of a stranger tells a difference
  pub strangers_differ : {xs : List ExchangeValue} {ls : List LineValue} → AreStrangerLines plan xs ls → AllDiffer ls
  strangers_differ Empty = refl
  strangers_differ (More xs ls x more are of_one) = all_both ls more (strangers_differ are) (one_differs x more of_one)
