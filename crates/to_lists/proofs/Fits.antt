-- Numbers for a list of their length: the return value, and the list afterwards. Assumes nothing.
use Prim.Native.Nat.{ℕ}
use mathlib.Core.Path.{◌≡◌, sym, ◌∙◌}
use mathlib.Core.List.{List, append-nil}
use native.Mathlib.Omega.{arith}
use borrow.Author.Tests.{eq-eqb}
use lib.ListN.{length}
use lib.Seq.{sets}
use Rattle.std.proofs.lemmas.List.{drop_all}
use lib.Ieee.{Float}
use Rattle.layout.proofs.Runs.{sets_front}
use Rattle.frames.specs.Floats.{Pose}
use Rattle.layout.specs.Layout.{pose_count}
use Rattle.layout.specs.Lists.{PoseLists, frames_count}
use Rattle.to_lists.specs.Written.{status, written, fitting, framed_numbers, framed_written, framed_fitting}

-- a run of as many stores as the list has elements leaves only the run
pub sets-all : {A : Type 0} (out l : List A) → length out ≡ length l → sets out 0 l ≡ l
sets-all out l h = rw (sets_front l out (omega arith), drop_all (length l) out (omega arith)) (append-nil l)

-- ---- with the right length: 0, and the numbers
pub fitted : (out l : List Float) (n : ℕ) → length out ≡ n → length l ≡ n →
    (status (fitting out l) ≡ 0) × (written (fitting out l) out ≡ l)
unfolding status written fitting
fitted out l n h k = let e = eq-eqb (length out) (length l) (h ∙ sym k) in (simp e, simp e)

pub framed_fitted :
    (out : PoseLists) (x : Pose) → length out.numbers ≡ pose_count → length out.frames ≡ frames_count →
    (status (framed_fitting out x) ≡ 0) × (framed_written (λ o. framed_fitting o x) out ≡ framed_numbers x)
unfolding status written framed_fitting
framed_fitted out x h k =
    let n = eq-eqb (length out.numbers) pose_count h in
    let m = eq-eqb (length out.frames) frames_count k in
    (simp (n, m), simp (n, m))
