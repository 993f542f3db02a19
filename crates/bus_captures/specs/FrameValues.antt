-- What was captured, as the code holds it.
use Rattle.bus_captures.{specs.declared.frame.Frame.{Frame}, specs.Frames.{FrameValue}}

abbrev pub frame_value : Frame → FrameValue
frame_value f = record { direction = f.direction; index = f.index; kind = f.kind; bytes = f.bytes.now }
