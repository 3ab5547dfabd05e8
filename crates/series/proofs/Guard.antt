-- Whether a series is refused does not depend on what it would compute. Assumes nothing.
use mathlib.Core.Path.{◌≡◌, refl, sym, ap, ◌∙◌}
use Prim.Native.Nat.{ℕ}
use mathlib.Core.Bool.{Bool, true, false, cond}
use lib.Dec.{ltb}
use Rattle.linalg.specs.Answer.{answers, refuses, and_then}
use Rattle.series.specs.Series.{terms_guard}

terms_by : {A B : Type 0} (b : Bool) (a : A) (k : B) → cond b (refuses 4) (answers a)
    ≡ and_then (cond b (refuses 4) (answers k)) (λ _. answers a)
terms_by true a k = refl
terms_by false a k = refl

terms_value : {B : Type 0} (b : Bool) (m k : B) → answers m ≡ cond b (refuses 4) (answers k) → m ≡ k
terms_value true m k h = cc
terms_value false m k h = cc

pub terms_refused : {A B : Type 0} (most k : ℕ) (n : B) (r : ℕ) (a : A) → refuses r ≡ terms_guard most k n →
    refuses r ≡ terms_guard most k a
terms_refused most k n r a h = ap (λ s. and_then s (λ _. answers a)) h ∙ sym (terms_by (ltb most k) a n)

pub terms_accepted : {A : Type 0} (most k : ℕ) (full : ℕ → A) (m : ℕ) (a : A) → answers m ≡ terms_guard most k k →
    a ≡ full m → answers a ≡ terms_guard most k (full k)
terms_accepted most k full m a h q =
    ap answers (q ∙ ap full (terms_value (ltb most k) m k h)) ∙ ap (λ s. and_then s (λ _. answers (full k))) h
    ∙ sym (terms_by (ltb most k) (full k) k)
