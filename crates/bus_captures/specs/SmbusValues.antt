-- Frames of SMBus, as the code holds them.
use Rattle.bus_captures.specs.declared.smbus.SmbusFrame.{SmbusFrame}
use Rattle.bus_captures.specs.Smbus as smbus

abbrev pub frame_value : SmbusFrame → smbus.SmbusFrame
frame_value f = record { to = f.to; from = f.from; packet = f.packet.now; pec = f.pec }
