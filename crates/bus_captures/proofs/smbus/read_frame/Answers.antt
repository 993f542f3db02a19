use Rattle.std.proofs.Common.{List, ℕ, refl, inl, inr, subst}
use Rattle.pdr_repository.specs.Crc.{IsCrc}
use Rattle.bus_captures.{specs.Smbus.{covered}, specs.SmbusValues.{frame_value}}
use Rattle.bus_captures.proofs.smbus.read_frame.Goals as goal

pub returns-then-frame-computed : goal.returns-then-frame-computed
returns-then-frame-computed c =
    let f = frame_value c.args.frame.now in
    let crc = c.crc8-computed.result in
    let is : IsCrc (covered f) crc = subst (λ (bytes : List ℕ). IsCrc bytes crc) (c.before_last.ensures (covered f) f.pec c.requires.1) c.crc8-computed.ensures in
    (crc, is, inl (c.if-frame-computed.true, refl, refl))

pub returns : goal.returns
returns c =
    let f = frame_value c.args.frame.now in
    let crc = c.crc8-computed.result in
    let is : IsCrc (covered f) crc = subst (λ (bytes : List ℕ). IsCrc bytes crc) (c.before_last.ensures (covered f) f.pec c.requires.1) c.crc8-computed.ensures in
    (crc, is, inr (c.if-frame-computed.false, refl, refl))
