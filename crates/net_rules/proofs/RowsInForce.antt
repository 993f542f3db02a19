-- The stretches of what is asked of the rows in force, whichever plan each node goes by.
use Rattle.std.{proofs.Common.{◌≡◌, ℕ, ◌<◌, ◌≤◌, List, length, Option, Some, None, sym, ◌∙◌, arith, inl, inr}, specs.Prelude.{◌↔◌, MatchOption}, proofs.lemmas.Option.{slice_get_within}}
use Rattle.mctp_transport.specs.declared.address.Eid.{Eid}
use Rattle.plan_values.{specs.declared.certificate.RankRange.{RankRange}, specs.declared.certificate.Certificate.{Certificate}, specs.declared.plan.Plan.{Plan}}
use Rattle.net_tables.{specs.Routing.{Holds, HasRow, IsBridge, OfItem, eid_number}, specs.TwoPlans.{Tables, moving, HasRowAlways, HasRowEver}, specs.Ranks.{ranges_of, rank_in, rank}}
use Rattle.net_rules.{specs.HeldEids.{IsLedOn}, specs.Superfluous.{NeedsItsRank, NeedsRankBy}, specs.Stretches.{IsStretch, IsAlong, IsLeastFailure}, proofs.StretchLaws.{shorter, rank_of_ranges}, proofs.RanksByEid.{Has, ranked_by}}

pub both_alike : (before after : Plan) (n at a b less : ℕ) → IsStretch (HasRow before n) at a → IsStretch (HasRow after n) at b → at < less → less ≤ a → less ≤ b
    → IsStretch (HasRowAlways (moving before after) n) at less
both_alike before after n at a b less one other some le le' =
    let old = shorter (HasRow before n) at a less some le one in
    let new = shorter (HasRow after n) at b less some le' other in (
      some,
      λ e low high.
          let o = old.1 e low high in
          let w = new.1 e low high in
          (λ has. (o.0 has.0, w.0 has.1), λ has. (o.1 has.0, w.1 has.1)),
    )

led_along : (tables : Tables) (n m d e : ℕ) → ((k : ℕ) → Holds tables.plan k d ↔ Holds tables.plan k e) → (HasRowAlways tables m d → HasRowAlways tables m e)
    → IsLedOn tables n d m → IsLedOn tables n e m
unfolding IsLedOn
led_along tables n m d e held routed led = λ holder holds other. elim (led holder ((held holder).1 holds) other) [
  | inl here ↦ inl ((held m).0 here)
  | inr (bridge, row) ↦ inr (bridge, routed row)
]

pub led_alike : (tables : Tables) (n m at end last less : ℕ) → ((k : ℕ) → IsStretch (Holds tables.plan k) at end) → IsStretch (HasRowAlways tables m) at last → at < less
    → less ≤ end → less ≤ last → IsStretch (λ e. IsLedOn tables n e m) at less
led_alike tables n m at end last less holders rows some le le' =
    let held : (k : ℕ) → IsStretch (Holds tables.plan k) at less = λ k. shorter (Holds tables.plan k) at end less some le (holders k) in
    let routed : IsStretch (HasRowAlways tables m) at less = shorter (HasRowAlways tables m) at last less some le' rows in (
      some,
      λ e low high. (
        led_along tables n m e at (λ k. (held k).1 e low high) ((routed.1 e low high).0),
        led_along tables n m at e (λ k. (let h = (held k).1 e low high in (h.1, h.0))) ((routed.1 e low high).1),
      ),
    )

led_by_row : (tables : Tables) (n m e : ℕ) → IsBridge tables.plan m → HasRowAlways tables m e → IsLedOn tables n e m
unfolding IsLedOn
led_by_row tables n m e bridge row = λ holder holds other. inr (bridge, row)

pub led_along_rows : (tables : Tables) (n m at end : ℕ) → IsBridge tables.plan m → HasRowAlways tables m at → IsStretch (HasRowAlways tables m) at end
    → IsStretch (λ e. IsLedOn tables n e m) at end
led_along_rows tables n m at end bridge row rows = (
  rows.0,
  λ e low high. (λ _. led_by_row tables n m at bridge row, λ _. led_by_row tables n m e bridge ((rows.1 e low high).1 row)),
)

pub either_alike : (before after : Plan) (n at a b less : ℕ) → IsStretch (HasRow before n) at a → IsStretch (HasRow after n) at b → at < less → less ≤ a → less ≤ b
    → IsStretch (HasRowEver (moving before after) n) at less
either_alike before after n at a b less one other some le le' =
    let old = shorter (HasRow before n) at a less some le one in
    let new = shorter (HasRow after n) at b less some le' other in (
      some,
      λ e low high.
          let o = old.1 e low high in
          let w = new.1 e low high in (
            λ has. elim has [ inl x ↦ inl (o.0 x) | inr y ↦ inr (w.0 y) ],
            λ has. elim has [ inl x ↦ inl (o.1 x) | inr y ↦ inr (w.1 y) ],
          ),
    )

need_of_ranges : (tables : Tables) (cert : Certificate) (n : ℕ) (ranges : List RankRange) (e : ℕ) → rank_in ranges e ≡ rank cert n e → (e ≤ 255 → NeedsRankBy tables n ranges e)
    → NeedsItsRank tables cert n e
unfolding NeedsItsRank
need_of_ranges tables cert n ranges e same need within small given = need small (λ none. given (sym same ∙ none))

range_of_need : (tables : Tables) (cert : Certificate) (n : ℕ) (ranges : List RankRange) (e : ℕ) → rank_in ranges e ≡ rank cert n e → n < length tables.plan.nodes.items → e ≤ 255
    → NeedsItsRank tables cert n e → NeedsRankBy tables n ranges e
unfolding NeedsItsRank
range_of_need tables cert n ranges e same within small need given = need within small (λ none. given (same ∙ none))

pub first_of_all_eids : (tables : Tables) (cert : Certificate) (n : ℕ) (ranges : List RankRange) (found : Option Eid) → n < length tables.plan.nodes.items → ranges ≡ ranges_of cert n
    → IsLeastFailure (NeedsRankBy tables n ranges) 0 256 (eid_number found)
    → MatchOption found ((e : ℕ) → NeedsItsRank tables cert n e) (λ eid. ¬ NeedsItsRank tables cert n eid.value × ((d : ℕ) → d < eid.value → NeedsItsRank tables cert n d))
first_of_all_eids tables cert n ranges None within same none =
    λ e. need_of_ranges tables cert n ranges e (rank_of_ranges cert n e ranges same) (λ small. none e (omega arith) (omega arith))
first_of_all_eids tables cert n ranges (Some eid) within same found = (
  λ need. found.2 (range_of_need tables cert n ranges eid.value (rank_of_ranges cert n eid.value ranges same) within (omega arith) need),
  λ d less. need_of_ranges tables cert n ranges d (rank_of_ranges cert n d ranges same) (λ small. found.3 d (omega arith) less),
)

-- the stretch of what is asked of a rank that ranges give
pub need_alike : (tables : Tables) (n : ℕ) (ranges : List RankRange) (at given covered held less rank : ℕ) → IsAlong (rank_in ranges) at given rank → IsStretch (HasRowEver tables n) at covered
    → IsStretch (Holds tables.plan n) at held → less ≤ given → less ≤ covered → less ≤ held → at < less → IsStretch (NeedsRankBy tables n ranges) at less
need_alike tables n ranges at given covered held less rank along rows holds le le' le'' some = (
  some,
  λ e low high.
      let row = rows.1 e low (omega arith) in
      let hold = holds.1 e low (omega arith) in
      let here : rank_in ranges at ≡ rank = along.1 at (omega arith) (omega arith) in
      let there : rank_in ranges e ≡ rank = along.1 e low (omega arith) in (
        λ need some'. (let met = need (λ none. some' (here ∙ (sym there ∙ none))) in (λ h. met.0 (hold.1 h), row.0 met.1)),
        λ need some'. (let met = need (λ none. some' (there ∙ (sym here ∙ none))) in (λ h. met.0 (hold.0 h), row.1 met.1)),
      ),
)

-- what each range needs, all that is given a rank needs
pub all_needed : (tables : Tables) (n : ℕ) (ranges : List RankRange) (count : ℕ) → length ranges ≤ count
    → ((k : ℕ) → k < count → OfItem ranges k (λ range. (e : ℕ) → Has range e → ¬ Holds tables.plan n e × HasRowEver tables n e)) → (e : ℕ) → NeedsRankBy tables n ranges e
all_needed tables n ranges count all each e some =
    let found = ranked_by ranges e some in
    let within = slice_get_within ranges found.0 found.1 found.2 in
    each found.0 (omega arith) found.1 found.2 e found.3
