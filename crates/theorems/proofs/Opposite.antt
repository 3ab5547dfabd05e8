-- Opposite values, vectors and matrices: negated, up to the sign of a zero. Sums and differences of opposites, and
-- their products with an unchanged factor, are opposite, for every value, NaN and infinities included, at any format.
-- Assumes nothing.
use mathlib.Core.Path.{◌≡◌, refl, sym, ap, ◌∙◌}
use mathlib.Core.Logic.{◌⊎◌, inl, inr}
use Prim.Native.Nat.{zero, suc}
use lib.Ieee.{Float, nan, inf, fin, Format, neg, add, sub, mul}
use Rattle.ieee.specs.Numbers.{f0}
use Rattle.ieee.specs.Signs.{unsigned_zero, Same}
use Rattle.ieee.proofs.Sign.{neg-neg, mul-neg_l, mul-neg_r}
use Rattle.ieee.proofs.Zero.{neg_same}
use Rattle.ieee.proofs.Signed.{add_same, sub_same, neg-add, neg-sub}
use Rattle.ieee.proofs.Product.{mul-same}
use Rattle.linalg.specs.Vector.{sum3, vec_scale, vec_dot, vec_cross, vec_add, vec_sub, vec_neg}
use Rattle.linalg.specs.Matrix.{row_mul, mat_scale, mat_add, mat_sub, mat_mul, mat_mul_vec, mat_hat, vec_hat_mul}
use Rattle.linalg.specs.Matrix.{mat_hat_mul}
use Rattle.linalg.specs.Floats.{Vec3}
use Rattle.linalg.specs.Floats.{Mat3}
use Rattle.side_jacobians.specs.Blocks.{mat_outer}
use Rattle.theorems.specs.RhoNegated.{Opposite, OppositeVec, OppositeMat, OppositeIs}

-- ---- what `Opposite` says of two values
zero-opposite : Opposite f0 f0
unfolding unsigned_zero neg
zero-opposite = refl

zero_or : (x : Float) → (Same x f0) ⊎ (unsigned_zero x ≡ x)
unfolding unsigned_zero
zero_or nan = inr refl
zero_or (inf s) = inr refl
zero_or (fin s zero e) = inl refl
zero_or (fin s (suc m) e) = inr refl

zero_of_neg : (x : Float) → Same (neg x) f0 → Same x f0
zero_of_neg x p = ap unsigned_zero (sym (neg-neg x)) ∙ neg_same (neg x) f0 p ∙ sym zero-opposite

pub opposite-is : (x y : Float) → OppositeIs x y
opposite-is x y =
    record {
      only = λ p. elim (zero_or y) [
        | inl z ↦ inr (zero_of_neg x (sym p ∙ z), z)
        | inr e ↦ elim (zero_or (neg x)) [ inl z ↦ inr (zero_of_neg x z, p ∙ z) | inr d ↦ inl (sym e ∙ p ∙ d) ]
      ];
      negated = λ e. ap unsigned_zero e;
      zeros = λ p q. q ∙ zero-opposite ∙ sym (neg_same x f0 p);
    }

-- ---- numbers
neg-opposite : (x y : Float) → Opposite x y → Opposite (neg x) (neg y)
neg-opposite x y h = neg_same y (neg x) h

module _ (f : Format) where
  add-opposite : (a b a' b' : Float) → Opposite a a' → Opposite b b' → Opposite (add f a b) (add f a' b')
  add-opposite a b a' b' p q = add_same f a' (neg a) b' (neg b) p q ∙ neg-add f a b

  sub-opposite : (a b a' b' : Float) → Opposite a a' → Opposite b b' → Opposite (sub f a b) (sub f a' b')
  sub-opposite a b a' b' p q = sub_same f a' (neg a) b' (neg b) p q ∙ neg-sub f a b

  -- a factor that is the same
  times-opposite : (a a' k : Float) → Opposite a a' → Opposite (mul f a k) (mul f a' k)
  times-opposite a a' k p = mul-same f a' (neg a) k k p refl ∙ ap unsigned_zero (mul-neg_l f a k)

  pub by_opposite : (k b b' : Float) → Opposite b b' → Opposite (mul f k b) (mul f k b')
  by_opposite k b b' p = mul-same f k k b' (neg b) refl p ∙ ap unsigned_zero (mul-neg_r f k b)

  sum3-opposite : (a b c a' b' c' : Float) → Opposite a a' → Opposite b b' → Opposite c c' →
      Opposite (sum3 f a b c) (sum3 f a' b' c')
  sum3-opposite a b c a' b' c' p q r = add-opposite (add f a b) c (add f a' b') c' (add-opposite a b a' b' p q) r

-- ---- vectors
pub neg-vec : (a : Vec3) → OppositeVec a (vec_neg a)
unfolding vec_neg
neg-vec a = record { x = refl; y = refl; z = refl }

pub vec-neg : (a b : Vec3) → OppositeVec a b → OppositeVec (vec_neg a) (vec_neg b)
unfolding vec_neg
vec-neg a b h = record { x = neg-opposite _ _ h.x; y = neg-opposite _ _ h.y; z = neg-opposite _ _ h.z }

module _ (f : Format) where
  pub vec-add : (a b a' b' : Vec3) → OppositeVec a a' → OppositeVec b b' → OppositeVec (vec_add f a b) (vec_add f a' b')
  unfolding vec_add
  vec-add a b a' b' p q =
      record {
        x = add-opposite f _ _ _ _ p.x q.x;
        y = add-opposite f _ _ _ _ p.y q.y;
        z =
            add-opposite f _ _ _ _ p.z q.z;
      }

  vec-sub : (a b a' b' : Vec3) → OppositeVec a a' → OppositeVec b b' → OppositeVec (vec_sub f a b) (vec_sub f a' b')
  unfolding vec_sub
  vec-sub a b a' b' p q =
      record {
        x = sub-opposite f _ _ _ _ p.x q.x;
        y = sub-opposite f _ _ _ _ p.y q.y;
        z =
            sub-opposite f _ _ _ _ p.z q.z;
      }

  pub vec-scale : (a a' : Vec3) (s : Float) → OppositeVec a a' → OppositeVec (vec_scale f a s) (vec_scale f a' s)
  unfolding vec_scale
  vec-scale a a' s p =
      record { x = times-opposite f _ _ s p.x; y = times-opposite f _ _ s p.y; z = times-opposite f _ _ s p.z }

  -- a vector that is the same, times an opposite number
  pub scale_by : (a : Vec3) (s s' : Float) → Opposite s s' → OppositeVec (vec_scale f a s) (vec_scale f a s')
  unfolding vec_scale
  scale_by a s s' p = record { x = by_opposite f _ _ _ p; y = by_opposite f _ _ _ p; z = by_opposite f _ _ _ p }

  pub dot_by : (a b b' : Vec3) → OppositeVec b b' → Opposite (vec_dot f a b) (vec_dot f a b')
  unfolding vec_dot
  dot_by a b b' p =
      sum3-opposite f _ _ _ _ _ _ (by_opposite f _ _ _ p.x) (by_opposite f _ _ _ p.y) (by_opposite f _ _ _ p.z)

  pub cross_by : (a b b' : Vec3) → OppositeVec b b' → OppositeVec (vec_cross f a b) (vec_cross f a b')
  unfolding vec_cross
  cross_by a b b' p =
      record {
        x = sub-opposite f _ _ _ _ (by_opposite f _ _ _ p.z) (by_opposite f _ _ _ p.y);
        y = sub-opposite f _ _ _ _ (by_opposite f _ _ _ p.x) (by_opposite f _ _ _ p.z);
        z = sub-opposite f _ _ _ _ (by_opposite f _ _ _ p.y) (by_opposite f _ _ _ p.x);
      }

-- ---- matrices
pub hat_opposite : (a b : Vec3) → OppositeVec a b → OppositeMat (mat_hat a) (mat_hat b)
unfolding mat_hat
hat_opposite a b p =
    record {
      c0 = record { x = zero-opposite; y = p.z; z = neg-opposite _ _ p.y };
      c1 = record { x = neg-opposite _ _ p.z; y = zero-opposite; z = p.x };
      c2 = record { x = p.y; y = neg-opposite _ _ p.x; z = zero-opposite };
    }

module _ (f : Format) where
  pub mat-add : (a b a' b' : Mat3) → OppositeMat a a' → OppositeMat b b' → OppositeMat (mat_add f a b) (mat_add f a' b')
  unfolding mat_add
  mat-add a b a' b' p q =
      record { c0 = vec-add f _ _ _ _ p.c0 q.c0; c1 = vec-add f _ _ _ _ p.c1 q.c1; c2 = vec-add f _ _ _ _ p.c2 q.c2 }

  pub mat-sub : (a b a' b' : Mat3) → OppositeMat a a' → OppositeMat b b' → OppositeMat (mat_sub f a b) (mat_sub f a' b')
  unfolding mat_sub
  mat-sub a b a' b' p q =
      record { c0 = vec-sub f _ _ _ _ p.c0 q.c0; c1 = vec-sub f _ _ _ _ p.c1 q.c1; c2 = vec-sub f _ _ _ _ p.c2 q.c2 }

  pub mat-scale : (a a' : Mat3) (s : Float) → OppositeMat a a' → OppositeMat (mat_scale f a s) (mat_scale f a' s)
  unfolding mat_scale
  mat-scale a a' s p = record { c0 = vec-scale f _ _ s p.c0; c1 = vec-scale f _ _ s p.c1; c2 = vec-scale f _ _ s p.c2 }

  -- a row that is the same times an opposite vector, and an opposite row times a vector that is the same
  row_by : (a b c : Float) (v v' : Vec3) → OppositeVec v v' → Opposite (row_mul f a b c v) (row_mul f a b c v')
  row_by a b c v v' p =
      sum3-opposite f _ _ _ _ _ _ (by_opposite f _ _ _ p.x) (by_opposite f _ _ _ p.y) (by_opposite f _ _ _ p.z)

  row-times : (a b c a' b' c' : Float) (v : Vec3) → Opposite a a' → Opposite b b' → Opposite c c' →
      Opposite (row_mul f a b c v) (row_mul f a' b' c' v)
  row-times a b c a' b' c' v p q r =
      sum3-opposite f _ _ _ _ _ _ (times-opposite f _ _ _ p) (times-opposite f _ _ _ q) (times-opposite f _ _ _ r)

  vec_by : (m : Mat3) (v v' : Vec3) → OppositeVec v v' → OppositeVec (mat_mul_vec f m v) (mat_mul_vec f m v')
  unfolding mat_mul_vec
  vec_by m v v' p = record { x = row_by _ _ _ v v' p; y = row_by _ _ _ v v' p; z = row_by _ _ _ v v' p }

  vec-times : (m m' : Mat3) (v : Vec3) → OppositeMat m m' → OppositeVec (mat_mul_vec f m v) (mat_mul_vec f m' v)
  unfolding mat_mul_vec
  vec-times m m' v p =
      record {
        x = row-times _ _ _ _ _ _ v p.c0.x p.c1.x p.c2.x;
        y = row-times _ _ _ _ _ _ v p.c0.y p.c1.y p.c2.y;
        z = row-times _ _ _ _ _ _ v p.c0.z p.c1.z p.c2.z;
      }

  pub mat_by : (a b b' : Mat3) → OppositeMat b b' → OppositeMat (mat_mul f a b) (mat_mul f a b')
  unfolding mat_mul
  mat_by a b b' p = record { c0 = vec_by a _ _ p.c0; c1 = vec_by a _ _ p.c1; c2 = vec_by a _ _ p.c2 }

  pub mat-times : (a a' b : Mat3) → OppositeMat a a' → OppositeMat (mat_mul f a b) (mat_mul f a' b)
  unfolding mat_mul
  mat-times a a' b p = record { c0 = vec-times a a' _ p; c1 = vec-times a a' _ p; c2 = vec-times a a' _ p }

  hat_times : (v v' b : Vec3) → OppositeVec v v' → OppositeVec (vec_hat_mul f v b) (vec_hat_mul f v' b)
  unfolding vec_hat_mul
  hat_times v v' b p =
      record {
        x = add-opposite f _ _ _ _ (times-opposite f _ _ _ (neg-opposite _ _ p.z)) (times-opposite f _ _ _ p.y);
        y = add-opposite f _ _ _ _ (times-opposite f _ _ _ p.z) (times-opposite f _ _ _ (neg-opposite _ _ p.x));
        z = add-opposite f _ _ _ _ (times-opposite f _ _ _ (neg-opposite _ _ p.y)) (times-opposite f _ _ _ p.x);
      }

  pub hat_mul : (v v' : Vec3) (b : Mat3) → OppositeVec v v' → OppositeMat (mat_hat_mul f v b) (mat_hat_mul f v' b)
  unfolding mat_hat_mul
  hat_mul v v' b p = record { c0 = hat_times v v' _ p; c1 = hat_times v v' _ p; c2 = hat_times v v' _ p }

  pub outer : (u u' v : Vec3) → OppositeVec u u' → OppositeMat (mat_outer f u v) (mat_outer f u' v)
  unfolding mat_outer
  outer u u' v p = record { c0 = vec-scale f u u' _ p; c1 = vec-scale f u u' _ p; c2 = vec-scale f u u' _ p }
