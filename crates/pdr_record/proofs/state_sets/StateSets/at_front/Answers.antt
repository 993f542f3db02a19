use Rattle.std.{proofs.Common.{◌≡◌, ◌++◌, ◌-◌, sym, arith, length, Some}, proofs.lemmas.List.{take-append-drop}}
use Rattle.pdr_record.{specs.ListsAt.{after_state_sets}, proofs.ListsRead.{state_sets_count, shorter_after, own_bytes}}
use Rattle.pdr_record.proofs.state_sets.StateSets.at_front.Goals as goal

pub overflow_sub-bytes : goal.overflow_sub-bytes
overflow_sub-bytes c =
    let e : after_state_sets c.args.count c.args.bytes.now ≡ Some c.in_ok-rest.rest.now = sym c.in_ok-rest.ensures in
    shorter_after c.args.count c.args.bytes.now c.in_ok-rest.rest.now (λ i. omega (arith, c.type_inv.bytes i)) e

pub invariant_of-result : goal.invariant_of-result
invariant_of-result c =
    let bytes = c.args.bytes.now in
    let own = c.split_at.result.0.now in
    let new = c.split_at.result.1.now in
    let e : after_state_sets c.args.count bytes ≡ Some c.in_ok-rest.rest.now = sym c.in_ok-rest.ensures in
    let parts : bytes ≡ own ++ new = rw (c.split_at.ensures.front, c.split_at.ensures.back) (sym (take-append-drop (length bytes - length c.in_ok-rest.rest.now) bytes)) in
    let read = own_bytes c.args.count bytes own new c.in_ok-rest.rest.now (λ i. omega (arith, c.type_inv.bytes i)) e parts (omega (arith, c.split_at.ensures.front_len)) in
    record { whole = read.whole }

pub returns-clause-field : goal.returns-clause-field
returns-clause-field c =
    let bytes = c.args.bytes.now in
    let own = c.split_at.result.0.now in
    let new = c.split_at.result.1.now in
    let e : after_state_sets c.args.count bytes ≡ Some c.in_ok-rest.rest.now = sym c.in_ok-rest.ensures in
    let parts : bytes ≡ own ++ new = rw (c.split_at.ensures.front, c.split_at.ensures.back) (sym (take-append-drop (length bytes - length c.in_ok-rest.rest.now) bytes)) in
    let read = own_bytes c.args.count bytes own new c.in_ok-rest.rest.now (λ i. omega (arith, c.type_inv.bytes i)) e parts (omega (arith, c.split_at.ensures.front_len)) in
    read.field

pub returns-clause-count : goal.returns-clause-count
returns-clause-count c = state_sets_count c.args.count c.split_at.result.0.now

pub returns-clause-fits : goal.returns-clause-fits
returns-clause-fits c =
    let bytes = c.args.bytes.now in
    let own = c.split_at.result.0.now in
    let new = c.split_at.result.1.now in
    let e : after_state_sets c.args.count bytes ≡ Some c.in_ok-rest.rest.now = sym c.in_ok-rest.ensures in
    let parts : bytes ≡ own ++ new = rw (c.split_at.ensures.front, c.split_at.ensures.back) (sym (take-append-drop (length bytes - length c.in_ok-rest.rest.now) bytes)) in
    let read = own_bytes c.args.count bytes own new c.in_ok-rest.rest.now (λ i. omega (arith, c.type_inv.bytes i)) e parts (omega (arith, c.split_at.ensures.front_len)) in
    read.fits
