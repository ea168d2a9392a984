-- The ends of a strand.
use Rattle.std.specs.Prelude.{◌-◌, List, length, Option, slice_get, slice_set}
use Rattle.task_strand.specs.declared.frame.Frame.{Frame}

-- the frame that was pushed last
abbrev pub top_of : List Frame → Option Frame
top_of frames = slice_get frames (length frames - 1)

-- the frame that was pushed first
abbrev pub foot_of : List Frame → Option Frame
foot_of frames = slice_get frames 0

-- the strand with another top frame
abbrev pub with_top : List Frame → Frame → List Frame
with_top frames frame = slice_set frames (length frames - 1) frame
