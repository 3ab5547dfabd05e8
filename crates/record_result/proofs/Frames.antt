-- The bytes of a pose and its frames: how many they are; in either format. Assumes nothing.
use Prim.Native.Nat.{ℕ, ◌*◌}
use mathlib.Core.Path.{◌≡◌, refl, ◌∙◌}
use mathlib.Core.List.{List, [], ◌∷◌, ◌++◌}
use lib.ListN.{length, length-append}
use lib.Ieee.{Format}
use Rattle.linalg.specs.Vector.{vec_numbers}
use Rattle.frames.specs.Floats.{Pose}
use Rattle.layout.specs.Layout.{pose_count, quat_numbers, pose_numbers}
use Rattle.layout.proofs.Numbers.{pose-count}
use Rattle.wire.specs.Wire.{word, width, word_bytes, numbers_bytes, item_bytes, items_bytes, all_finite, numbers}
use Rattle.wire.proofs.Bytes.{word-length, numbers-length, items_append, items_numbers}
use Rattle.record_result.specs.Framed.{frame_width, framed_width, framed_items}

-- the bytes of one frame
abbrev frame : Format → ℕ → List ℕ
frame f n = item_bytes f (word frame_width n)

frame_length : (f : Format) (n : ℕ) → length (frame f n) ≡ 2
unfolding item_bytes
frame_length f n = word-length 2 n

two_frames : (f : Format) (m n : ℕ) → items_bytes f (word frame_width m ∷ word frame_width n ∷ [])
    ≡ frame f m ++ frame f n
unfolding items_bytes item_bytes word_bytes
two_frames f m n = refl

abbrev posed : Format → Pose → List ℕ
posed f x = numbers_bytes f (pose_numbers x.sim3)

posed_length : (f : Format) (x : Pose) → length (posed f x) ≡ pose_count * width f
posed_length f x = rw (numbers-length f (pose_numbers x.sim3), pose-count x.sim3) refl

framed-bytes : (f : Format) (x : Pose) → items_bytes f (framed_items x) ≡ posed f x ++ (frame f x.from ++ frame f x.to)
unfolding framed_items
framed-bytes f x =
    items_append f (numbers (pose_numbers x.sim3)) _
    ∙ rw (items_numbers f (pose_numbers x.sim3), two_frames f x.from x.to) refl

pub framed-length : (f : Format) (x : Pose) → length (items_bytes f (framed_items x)) ≡ framed_width f
framed-length f x =
    rw (
      framed-bytes f x,
      length-append (posed f x) (frame f x.from ++ frame f x.to),
      length-append (frame f x.from)
          (frame f x.to),
    )
    (rw (posed_length f x, frame_length f x.from, frame_length f x.to) refl)

-- frames are always finite
pub framed-finite : (x : Pose) → all_finite (framed_items x) ≡ all_finite (numbers (pose_numbers x.sim3))
unfolding framed_items pose_numbers quat_numbers vec_numbers numbers all_finite
framed-finite x = refl
