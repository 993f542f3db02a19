-- Entries that were read as planned forward as the plan's rows do.
use Rattle.std.{proofs.Common.{◌≡◌, ℕ, zero, suc, ◌+◌, ◌<◌, ◌==◌, true, List, [], ◌∷◌, length, arith, refl, ap, sym, ◌∙◌, subst, inl, inr, map, get_or}, specs.Prelude.{nat_lt}, proofs.lemmas.Bool.{cases_Bool, cases_lt}, proofs.lemmas.Bool.Decides.{nat_tests}}
use Rattle.mctp_routing.{specs.Rows.{Covers, Routes}, specs.declared.row.Hop.{Hop}, specs.declared.row.TableRow.{TableRow}, proofs.Apart.{routes_moved}}
use Rattle.mctp_transport.specs.declared.device_kind.DeviceKind.{DeviceKind}
use Rattle.mctp_bridge.{specs.Entries.{run_entry, own_entry, entry_before, lies_later, entries_to, row_entries, table_entries}, specs.declared.routing_entries.Neighbor.{Neighbor}}
use Rattle.mctp_control.specs.RouteEntries.{EntryValue}
use Rattle.plan_values.specs.declared.plan.Plan.{Plan}
use Rattle.net_questions.proofs.WayLaws.{accepted_apart, one_hop}
use Rattle.net_tables.{specs.Routing.{rows_of}, specs.Rows.{RowsAreApart}, specs.Tables.{table_row}}
use Rattle.plan_exports.{specs.Neighbors.{NeighborValue, neighbor_of, neighbor_value}, specs.TableAnswers.{AreEntriesOf}}
use Rattle.audited_captures.{specs.AsPlanned.{IsAmong, IsLike, AreAsPlanned}, specs.Forwarding.{IsFor, LeadsAs, ForwardsAs, TablesForward, AuditsForward}, specs.Matching.{IsReadAsPlanned}, specs.Readings.{ReadingValue, Read, Refused, Unended}, proofs.Booleans.{both_left, both_right}, proofs.PacketLaws.{among_left, among_right, among_split}, proofs.PlannedReadings.{matches}, proofs.WholeAudits.{as_planned_where_none_differs}}
use Rattle.mctp_transport.specs.declared.device_kind.DeviceKind.TheVariants as device
use Rattle.mctp_control.specs.declared.route_entry.EntryKind.TheVariants as kind

-- ---- the entries of one row

module _ (row : TableRow) (next : Neighbor) (e : ℕ) where
  -- the entry leads to the neighbor
  abbrev pub LeadsTo : EntryValue → Type 0
  LeadsTo f = (f.port ≡ row.hop.port) × (f.binding ≡ next.binding) × (f.media ≡ next.media) × (f.address ≡ next.address.now)

  for_by : (k : DeviceKind) → Covers row e → (f : EntryValue) × IsAmong f (entries_to k row next) × IsFor e f
  for_by device.Endpoint covers = (run_entry row next row.first.value row.size kind.Endpoint, inl refl, covers)
  for_by device.Bridge covers = elim (cases_Bool (next.eid.value == row.first.value)) [
    | inl first ↦ (
        let same : next.eid.value ≡ row.first.value = grind (arith, nat_tests) in
        let is : IsFor e (own_entry row next) = (omega (arith, same, covers.0), omega (arith, same, covers.0, covers.1), covers.2) in
        rw first (own_entry row next, inl refl, is))
    | inr other ↦ elim (cases_Bool (lies_later next.eid.value row)) [
      | inl later ↦ (
          let after : (nat_lt row.first.value next.eid.value) ≡ true = both_left (nat_lt row.first.value next.eid.value) (nat_lt next.eid.value (row.first.value + row.size)) later in
          let before : (nat_lt next.eid.value (row.first.value + row.size)) ≡ true =
          both_right (nat_lt row.first.value next.eid.value) (nat_lt next.eid.value (row.first.value + row.size)) later in
          let low : row.first.value < next.eid.value = grind (arith, nat_tests) in
          let high : next.eid.value < row.first.value + row.size = grind (arith, nat_tests) in
          rw (other, later) (elim (cases_lt e next.eid.value) [
            | inl less ↦ (
                let is : IsFor e (entry_before row next) = (covers.0, omega (arith, less, low), covers.2) in
                (entry_before row next, inl refl, is))
            | inr more ↦ (
                let is : IsFor e (own_entry row next) = (omega (arith, more), omega (arith, more, high, covers.1), covers.2) in
                (own_entry row next, inr (inl refl), is))
          ]))
      | inr apart ↦ rw (other, apart) (run_entry row next row.first.value row.size kind.Range, inl refl, covers)
    ]
  ]

  from_by : (k : DeviceKind) (f : EntryValue) → IsAmong f (entries_to k row next) → IsFor e f → Covers row e × LeadsTo f
  from_by device.Endpoint f (inl same) is = subst (λ g. IsFor e g → Covers row e × LeadsTo g) same (λ covers. (covers, (refl, refl, refl, refl))) is
  from_by device.Endpoint f (inr none) is = absurd none
  from_by device.Bridge f among is = elim (cases_Bool (next.eid.value == row.first.value)) [
    | inl first ↦ (
        let same : next.eid.value ≡ row.first.value = grind (arith, nat_tests) in
        let one : IsAmong f (own_entry row next ∷ []) = rw first at among in
        elim one [
          | inl own ↦ subst (λ g. IsFor e g → Covers row e × LeadsTo g) own
              (λ covers. ((omega (arith, same, covers.0), omega (arith, same, covers.1, covers.0), covers.2), (refl, refl, refl, refl))) is
          | inr none ↦ absurd none
        ])
    | inr other ↦ elim (cases_Bool (lies_later next.eid.value row)) [
      | inl later ↦ (
          let after : (nat_lt row.first.value next.eid.value) ≡ true = both_left (nat_lt row.first.value next.eid.value) (nat_lt next.eid.value (row.first.value + row.size)) later in
          let before : (nat_lt next.eid.value (row.first.value + row.size)) ≡ true =
          both_right (nat_lt row.first.value next.eid.value) (nat_lt next.eid.value (row.first.value + row.size)) later in
          let low : row.first.value < next.eid.value = grind (arith, nat_tests) in
          let high : next.eid.value < row.first.value + row.size = grind (arith, nat_tests) in
          let two : IsAmong f (entry_before row next ∷ own_entry row next ∷ []) = rw (other, later) at among in
          elim two [
            | inl part ↦ subst (λ g. IsFor e g → Covers row e × LeadsTo g) part
                (λ covers. ((covers.0, omega (arith, covers.0, covers.1, low, high), covers.2), (refl, refl, refl, refl))) is
            | inr rest ↦ elim rest [
              | inl own ↦ subst (λ g. IsFor e g → Covers row e × LeadsTo g) own
                  (λ covers. ((omega (arith, covers.0, low), omega (arith, covers.0, covers.1, high), covers.2), (refl, refl, refl, refl))) is
              | inr none ↦ absurd none
            ]
          ])
      | inr apart ↦ (
          let one : IsAmong f (run_entry row next row.first.value row.size kind.Range ∷ []) = rw (other, apart) at among in
          elim one [
            | inl whole ↦ subst (λ g. IsFor e g → Covers row e × LeadsTo g) whole (λ covers. (covers, (refl, refl, refl, refl))) is
            | inr none ↦ absurd none
          ])
    ]
  ]

-- ---- the entries of all rows

module _ (plan : Plan) (n e : ℕ) where
  -- the first rows with their neighbors
  abbrev AreLed : List TableRow → List Neighbor → Type 0
  AreLed table neighbors = map neighbor_value neighbors ≡ map (λ (row : TableRow). neighbor_of plan n row.hop) table

  on_from : (table : List TableRow) (neighbors : List Neighbor) (k : ℕ) (row : TableRow) → AreLed table neighbors → k < length table → get_or table k row ≡ row → Covers row e
      → (f : EntryValue) × IsAmong f (table_entries table neighbors) × IsFor e f
  on_from [] neighbors k row led lt at covers = absurd (omega (arith, lt))
  on_from (r ∷ table) [] k row led lt at covers = absurd (cc)
  on_from (r ∷ table) (next ∷ neighbors) zero row led lt at covers =
      let P : TableRow → Type 0 = λ x. Covers x e in
      let one = for_by r next e next.kind (subst P (sym at) covers) in
      (one.0, among_left one.0 (row_entries r next) (table_entries table neighbors) one.1, one.2)
  on_from (r ∷ table) (next ∷ neighbors) (suc k) row led lt at covers =
      let rest : AreLed table neighbors = cc in
      let later = on_from table neighbors k row rest (omega (arith, lt)) at covers in
      (later.0, among_right later.0 (row_entries r next) (table_entries table neighbors) later.1, later.2)

  -- an entry is that of a row
  abbrev IsOfRow : List TableRow → EntryValue → Type 0
  IsOfRow table f = (k : ℕ) × (row : TableRow) × (k < length table) × (get_or table k row ≡ row) × Covers row e × LeadsAs plan n row.hop f

  led_to : (r : TableRow) (next : Neighbor) (f : EntryValue) → neighbor_value next ≡ neighbor_of plan n r.hop → LeadsTo r next e f → LeadsAs plan n r.hop f
  led_to r next f same (port, binding, media, address) = record {
    port = port;
    binding = binding ∙ ap (λ (v : NeighborValue). v.binding) same;
    media = media ∙ ap (λ (v : NeighborValue). v.media) same;
    address = address ∙ ap (λ (v : NeighborValue). v.address) same;
  }

  of_row : (table : List TableRow) (neighbors : List Neighbor) (f : EntryValue) → AreLed table neighbors → IsAmong f (table_entries table neighbors) → IsFor e f → IsOfRow table f
  of_row [] neighbors f led among is = absurd among
  of_row (r ∷ table) [] f led among is = absurd among
  of_row (r ∷ table) (next ∷ neighbors) f led among is = elim (among_split f (row_entries r next) (table_entries table neighbors) among) [
    | inl here ↦ (
        let same : neighbor_value next ≡ neighbor_of plan n r.hop = cc in
        let one = from_by r next e next.kind f here is in
        (0, r, omega arith, refl, one.0, led_to r next f same one.1))
    | inr there ↦ (
        let rest : AreLed table neighbors = cc in
        let later = of_row table neighbors f rest there is in
        (suc later.0, later.1, omega (arith, later.2), later.3, later.4, later.5))
  ]

like_for : (e : ℕ) (planned found : EntryValue) → IsLike planned found → IsFor e planned → IsFor e found
like_for e planned found like (low, high, byte) = (omega (arith, low, like.first), omega (arith, high, like.first, like.size), byte)

for_like : (e : ℕ) (planned found : EntryValue) → IsLike planned found → IsFor e found → IsFor e planned
for_like e planned found like (low, high, byte) = (omega (arith, low, like.first), omega (arith, high, like.first, like.size), byte)

like_leads : (plan : Plan) (n : ℕ) (hop : Hop) (planned found : EntryValue) → IsLike planned found → LeadsAs plan n hop planned → LeadsAs plan n hop found
like_leads plan n hop planned found like leads = record {
  port = sym like.port ∙ leads.port;
  binding = sym like.binding ∙ leads.binding;
  media = sym like.media ∙ leads.media;
  address = sym like.address ∙ leads.address;
}

pub forwards : (plan : Plan) (n : ℕ) (planned found : List EntryValue) → RowsAreApart plan → AreEntriesOf plan n planned → AreAsPlanned planned found → ForwardsAs plan n found
forwards plan n planned found apart are read =
    let rows = map table_row (rows_of plan n) in
    let moved = routes_moved rows are.table are.planned.ordered.rows in
    let row_for : (e : ℕ) (f : EntryValue) → IsAmong f found → IsFor e f → (hop : Hop) × Routes rows e hop × LeadsAs plan n hop f = λ e f among is.
    (let one = read.only f among in
    let listed : IsAmong one.0 (table_entries are.table are.neighbors) = subst (λ es. IsAmong one.0 es) are.told one.1 in
    let row = of_row plan n e are.table are.neighbors one.0 are.planned.led listed (for_like e one.0 f one.2 is) in
    let route : Routes are.table e row.1.hop = (row.0, row.1, row.2, row.3, (row.4, refl)) in
    (row.1.hop, (moved e row.1.hop).1 route, like_leads plan n row.1.hop one.0 f one.2 row.5)) in
    record {
      on = λ e hop route.
          (let (k, row, lt, at, (covers, goes)) = (moved e hop).0 route in
          let listed = on_from plan n e are.table are.neighbors k row are.planned.led lt at covers in
          let one = read.all listed.0 (subst (λ es. IsAmong listed.0 es) (sym are.told) listed.1) in
          (one.0, one.1, like_for e listed.0 one.0 one.2 listed.2));
      same = λ e hop f route among is.
          (let row = row_for e f among is in
          subst (λ h. LeadsAs plan n h f) (one_hop plan n e apart row.0 hop row.1 route) row.2);
      only = λ e f among is. (let row = row_for e f among is in (row.0, row.1));
    }

pub tables_forward : TablesForward
tables_forward plan cert n name planned found accepted are none =
    forwards plan n planned found (accepted_apart plan cert accepted) are ((matches name planned found).0 none)

read_so : (plan : Plan) (n : ℕ) (planned : List EntryValue) (r : ReadingValue) → RowsAreApart plan → AreEntriesOf plan n planned → IsReadAsPlanned planned r
    → (found : List EntryValue) × (r ≡ Read found) × ForwardsAs plan n found
read_so plan n planned Unended apart are is = absurd is
read_so plan n planned Refused apart are is = absurd is
read_so plan n planned (Read found) apart are is = (found, refl, forwards plan n planned found apart are is)

pub audits_forward : AuditsForward
audits_forward plan cert bus complete entries lines sum accepted are none n node at r among =
    let said = (as_planned_where_none_differs plan cert bus complete entries lines sum are none).0 n node at in
    read_so plan n said.0.planned r (accepted_apart plan cert accepted) said.1.plans (said.2.tables r among)
