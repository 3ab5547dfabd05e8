-- The bytes of the arms and of the numbers after them: how many they are; in either format. Assumes nothing.
use Prim.Native.Nat.{ℕ, ◌+◌, ◌*◌}
use mathlib.Core.Path.{◌≡◌, refl, ap, ◌∙◌}
use mathlib.Core.List.{List, ◌++◌}
use native.Mathlib.Omega.{arith}
use lib.ListN.{length, length-append}
use lib.Ieee.{Format}
use Rattle.coeffs.specs.Floats.{Armed}
use Rattle.pairs.specs.Floats.{ArmedPair}
use Rattle.layout.specs.Layout.{scaled_pair_numbers, armed_scaled}
use Rattle.layout.proofs.Numbers.{scaled-pair-count}
use Rattle.wire.specs.Wire.{width, word_bytes, numbers_bytes, item_bytes, items_bytes, numbers}
use Rattle.wire.proofs.Bytes.{numbers-length, items_append, items_numbers}
use Rattle.replies.specs.Table.{arm_items, armed_items}

arm-length : (f : Format) (a : Armed) → length (items_bytes f (arm_items a)) ≡ 2
unfolding arm_items items_bytes item_bytes word_bytes
arm-length f a = refl

abbrev view : Format → ArmedPair → List ℕ
view f p = numbers_bytes f (scaled_pair_numbers (armed_scaled p))

view-length : (f : Format) (p : ArmedPair) → length (view f p) ≡ 20 * width f
view-length f p = rw (numbers-length f (scaled_pair_numbers (armed_scaled p)), scaled-pair-count (armed_scaled p)) refl

armed-bytes : (f : Format) (p : ArmedPair) → items_bytes f (armed_items p)
    ≡ items_bytes f (arm_items p.pos) ++ (items_bytes f (arm_items p.neg) ++ view f p)
unfolding armed_items
armed-bytes f p =
    let l = numbers (scaled_pair_numbers (armed_scaled p)) in
    items_append f (arm_items p.pos) (arm_items p.neg ++ l)
    ∙ ap (λ (x : List ℕ). items_bytes f (arm_items p.pos) ++ x)
    (items_append f (arm_items p.neg) l ∙ ap (λ (x : List ℕ). items_bytes f (arm_items p.neg) ++ x)
    (items_numbers f (scaled_pair_numbers (armed_scaled p))))

pub armed-length : (f : Format) (p : ArmedPair) → length (items_bytes f (armed_items p)) ≡ 4 + 20 * width f
armed-length f p =
    rw (
      armed-bytes f p,
      length-append (items_bytes f (arm_items p.pos))
          (items_bytes f (arm_items p.neg) ++ view f p),
      length-append (items_bytes f (arm_items p.neg)) (view f p),
    )
    (rw (arm-length f p.pos, arm-length f p.neg, view-length f p) (omega arith))
