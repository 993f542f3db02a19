use Rattle.std.proofs.Common.{◌≡◌, ◌∙◌, ◌∷◌, ◌++◌, ℕ, suc, List, ap, subst, arith}
use Rattle.byteorder.specs.Endian.{little_bytes}
use Rattle.pdr_record.{specs.Fields.{bytes_of}, specs.Layouts.{StateSetValue, state_sets_fields}, specs.ListsAt.{after_state_set, state_sets_of}, proofs.ListsRead.{first_state_set}}
use Rattle.pdr_record.proofs.state_sets.StateSets.split_first.Goals as goal

pub invariant_of-result : goal.invariant_of-result
invariant_of-result c =
    let n = c.in_ok-count.count in
    let bytes = c.args.self.bytes.now in
    let id = c.u16-state_set_id.result in
    let size = c.u8.result in
    let more : c.args.self.count ≡ suc n = omega (arith, c.in_ok-count.ensures.0, c.in_ok-count.ensures.1) in
    let whole : bytes_of (state_sets_fields (state_sets_of (suc n) bytes)) ≡ bytes = subst (λ (m : ℕ). bytes_of (state_sets_fields (state_sets_of m bytes)) ≡ bytes) more c.args.self.whole in
    let front : bytes ≡ little_bytes 2 id ++ size ∷ c.u8.new.self.rest.now = c.u16-state_set_id.ensures.field ∙ ap (λ (r : List ℕ). little_bytes 2 id ++ r) c.u8.ensures.field in
    let read = first_state_set n id size bytes c.u8.new.self.rest.now c.bytes-possible_states.result.now c.bytes-possible_states.new.self.rest.now (omega arith) whole front
    c.bytes-possible_states.ensures.field (c.bytes-possible_states.ensures.count ∙ c.from-size.ensures) in
    record { whole = read.2 }

pub returns-clause-first : goal.returns-clause-first
returns-clause-first c =
    let n = c.in_ok-count.count in
    let bytes = c.args.self.bytes.now in
    let id = c.u16-state_set_id.result in
    let size = c.u8.result in
    let more : c.args.self.count ≡ suc n = omega (arith, c.in_ok-count.ensures.0, c.in_ok-count.ensures.1) in
    let whole : bytes_of (state_sets_fields (state_sets_of (suc n) bytes)) ≡ bytes = subst (λ (m : ℕ). bytes_of (state_sets_fields (state_sets_of m bytes)) ≡ bytes) more c.args.self.whole in
    let front : bytes ≡ little_bytes 2 id ++ size ∷ c.u8.new.self.rest.now = c.u16-state_set_id.ensures.field ∙ ap (λ (r : List ℕ). little_bytes 2 id ++ r) c.u8.ensures.field in
    let read = first_state_set n id size bytes c.u8.new.self.rest.now c.bytes-possible_states.result.now c.bytes-possible_states.new.self.rest.now (omega arith) whole front
    c.bytes-possible_states.ensures.field (c.bytes-possible_states.ensures.count ∙ c.from-size.ensures) in
    ap (λ (m : ℕ). state_sets_of m bytes) more
    ∙ ap (λ (s : StateSetValue). s ∷ state_sets_of n (after_state_set bytes)) read.0
    ∙ ap (λ (bs : List ℕ). record { state_set_id = id; possible_states = c.bytes-possible_states.result.now } ∷ state_sets_of n bs) read.1
