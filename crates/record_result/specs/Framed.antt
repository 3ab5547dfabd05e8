-- A pose with its frames in a record: its numbers, then from and to.
use Rattle.std.specs.Prelude.{ℕ, ◌+◌, ◌*◌, List, [], ◌∷◌, ◌++◌}
use Rattle.std.specs.Float.{Format}
use Rattle.frames.specs.Pose.{framed}
use Rattle.frames.specs.Floats.{Pose}
use Rattle.layout.specs.Layout.{pose_count, pose_in, pose_numbers}
use Rattle.wire.specs.Wire.{Item, word, width, word_at, number_at, numbers}

-- a frame is a whole number of two bytes, in either format
abbrev pub frame_width : ℕ
frame_width = 2

abbrev pub framed_width : Format → ℕ
framed_width f = pose_count * width f + 2 * frame_width

-- the frame at a place in the bytes
abbrev pub frame_at : List ℕ → ℕ → ℕ
frame_at b at = word_at frame_width b at

-- the pose with its frames at the front of the bytes
unfoldable pub framed_in : Format → List ℕ → Pose
framed_in f b =
    framed (pose_in (number_at f b) 0) (frame_at b (pose_count * width f))
    (frame_at b (pose_count * width f + frame_width))

unfoldable pub framed_items : Pose → List Item
framed_items x = numbers (pose_numbers x.sim3) ++ (word frame_width x.from ∷ word frame_width x.to ∷ [])
