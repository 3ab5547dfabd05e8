-- The bytes of a pose with its frames at a place in a list: as the code reads and stores them, and that what is stored
-- reads back. Assumes nothing.
use Prim.Native.Nat.{ℕ, ◌+◌, ◌≤◌, ◌<◌}
use native.Mathlib.Omega.{arith}
use mathlib.Core.Path.{◌≡◌, refl, sym, ap, ◌∙◌}
use mathlib.Core.List.{List}
use lib.ListN.{length, take, drop}
use lib.Seq.{drop-drop}
use lib.Dec.{T}
use lib.Ieee.{binary64, fits}
use Rattle.linalg.specs.Vector.{vec_numbers}
use Rattle.frames.specs.Floats.{Pose}
use Rattle.layout.specs.Layout.{vec_in, quat_in, pose_in, quat_numbers, pose_numbers}
use Rattle.wire.specs.Wire.{word_of, word_at, word_bytes, number_of, number_at, number_bytes, item_bytes, items_bytes}
use Rattle.wire.specs.Wire.{numbers}
use Rattle.wire.proofs.Places.{within}
use Rattle.wire.proofs.Bytes.{word-length, word_back, number_back}
use Rattle.record_result.specs.Framed.{framed_in, framed_items}

-- ---- read: the bytes after the pose are not read
pub framed_front : (b : List ℕ) (at : ℕ) → framed_in binary64 (take 68 (drop at b)) ≡ framed_in binary64 (drop at b)
unfolding framed_in pose_in quat_in vec_in number_at word_at
framed_front b at =
    let in_front : (k s t : ℕ) → 68 ≡ k + t → s ≤ t → take s (drop k (take 68 (drop at b)))
    ≡ take s (drop k (drop at b)) =
    λ k s t e g. within b at k s t 68 e g ∙ sym (ap (take s) (drop-drop k at b)) in
    let n : (k t : ℕ) → 68 ≡ k + t → 8 ≤ t → number_of binary64 (take 8 (drop k (take 68 (drop at b))))
    ≡ number_of binary64 (take 8 (drop k (drop at b))) =
    λ k t e g. ap (number_of binary64) (in_front k 8 t e g) in
    let w : (k t : ℕ) → 68 ≡ k + t → 2 ≤ t → word_of (take 2 (drop k (take 68 (drop at b))))
    ≡ word_of (take 2 (drop k (drop at b))) =
    λ k t e g. ap word_of (in_front k 2 t e g) in
    λ i. record {
      sim3 =
          record {
            q =
                record {
                  w = n 0 68 refl (omega arith) i;
                  x = n 8 60 refl (omega arith) i;
                  y =
                      n 16 52 refl (omega arith) i;
                  z = n 24 44 refl (omega arith) i;
                };
            t =
                record {
                  x = n 32 36 refl (omega arith) i;
                  y = n 40 28 refl (omega arith) i;
                  z =
                      n 48 20 refl (omega arith) i;
                };
            sigma = n 56 12 refl (omega arith) i;
          };
      from = w 64 4 refl (omega arith) i;
      to = w 66 2 refl (omega arith) i;
    }

-- ---- stored
abbrev pub frame : ℕ → List ℕ
frame n = word_bytes 2 n

pub frame_length : (n : ℕ) → length (frame n) ≡ 2
frame_length n = word-length 2 n

-- ---- what is stored reads back
pub record Fit (x : Pose) : Type 0 where
  pub w : T (fits binary64 x.sim3.q.w)
  pub x₁ : T (fits binary64 x.sim3.q.x)
  pub y₁ : T (fits binary64 x.sim3.q.y)
  pub z₁ : T (fits binary64 x.sim3.q.z)
  pub x₂ : T (fits binary64 x.sim3.t.x)
  pub y₂ : T (fits binary64 x.sim3.t.y)
  pub z₂ : T (fits binary64 x.sim3.t.z)
  pub s : T (fits binary64 x.sim3.sigma)
  pub from : x.from < 65536
  pub to : x.to < 65536

pub short_back : (n : ℕ) → n < 65536 → word_of (word_bytes 2 n) ≡ n
short_back n h = word_back 2 n h

pub framed_back : (x : Pose) → Fit x → framed_in binary64 (items_bytes binary64 (framed_items x)) ≡ x
unfolding framed_in pose_in quat_in vec_in number_at word_at framed_items pose_numbers quat_numbers vec_numbers numbers
    items_bytes item_bytes number_bytes word_bytes
framed_back x f = λ i. record {
  sim3 =
      record {
        q =
            record {
              w = number_back binary64 x.sim3.q.w f.w i;
              x = number_back binary64 x.sim3.q.x f.x₁ i;
              y = number_back binary64 x.sim3.q.y f.y₁ i;
              z = number_back binary64 x.sim3.q.z f.z₁ i;
            };
        t =
            record {
              x = number_back binary64 x.sim3.t.x f.x₂ i;
              y = number_back binary64 x.sim3.t.y f.y₂ i;
              z =
                  number_back binary64 x.sim3.t.z f.z₂ i;
            };
        sigma = number_back binary64 x.sim3.sigma f.s i;
      };
  from = short_back x.from f.from i;
  to = short_back x.to f.to i;
}
