-- Matrices of three columns, in the operations of a format f, and the answers of the functions that refuse a row or
-- column above 2.
use Rattle.std.specs.Prelude.{ℕ, Bool, cond, ◌&&◌, eqb, Float}
use Rattle.std.specs.Float.{Format}
use Rattle.std.specs.Float.Ieee.{neg}
use Rattle.ieee.specs.Numbers.{f0, f1}
use Rattle.ieee.specs.Infix.{operations}
use Rattle.linalg.specs.Answer.{Answer, answers, refuses, and_then}
use Rattle.linalg.specs.Vector.{vec, sum3, vec_dot, vec_neg, vec_over, vec_operations}
use Rattle.linalg.specs.Floats.{Vec3}
use Rattle.linalg.specs.Floats.{Mat3}
use Rattle.linalg.specs.Floats.{Inverse}

-- ---- made from columns and from rows
abbrev pub mat : Vec3 → Vec3 → Vec3 → Mat3
mat a b c = record { c0 = a; c1 = b; c2 = c }

unfoldable pub mat_of_rows : Vec3 → Vec3 → Vec3 → Mat3
mat_of_rows a b c = mat (vec a.x b.x c.x) (vec a.y b.y c.y) (vec a.z b.z c.z)

unfoldable pub mat_transpose : Mat3 → Mat3
mat_transpose m = mat_of_rows m.c0 m.c1 m.c2

unfoldable pub mat_identity : Mat3
mat_identity = mat (vec f1 f0 f0) (vec f0 f1 f0) (vec f0 f0 f1)

-- ---- entries, rows and columns; refusal 3 above 2
abbrev pub of_three : {A : Type 0} → A → A → A → ℕ → Answer A
of_three a b c i = cond (eqb i 0) (answers a) (cond (eqb i 1) (answers b) (cond (eqb i 2) (answers c) (refuses 3)))

unfoldable pub vec_component : Vec3 → ℕ → Answer Float
vec_component v i = of_three v.x v.y v.z i

unfoldable pub mat_col : Mat3 → ℕ → Answer Vec3
mat_col m c = of_three m.c0 m.c1 m.c2 c

unfoldable pub mat_row : Mat3 → ℕ → Answer Vec3
mat_row m r = mat_col (mat_transpose m) r

unfoldable pub mat_get : Mat3 → ℕ → ℕ → Answer Float
mat_get m r c = and_then (mat_col m c) (λ v. vec_component v r)

-- v with component i replaced by x where `on`
unfoldable pub vec_put : Vec3 → Bool → ℕ → Float → Vec3
vec_put v on i x = vec (cond (on && eqb i 0) x v.x) (cond (on && eqb i 1) x v.y) (cond (on && eqb i 2) x v.z)

unfoldable pub mat_set : Mat3 → ℕ → ℕ → Float → Answer Mat3
mat_set m r c x =
    and_then (mat_get m r c)
    (λ _. answers (mat (vec_put m.c0 (eqb c 0) r x) (vec_put m.c1 (eqb c 1) r x) (vec_put m.c2 (eqb c 2) r x)))

unfoldable pub mat_neg : Mat3 → Mat3
mat_neg m = mat (vec_neg m.c0) (vec_neg m.c1) (vec_neg m.c2)

-- hat: the matrix of v × _
unfoldable pub mat_hat : Vec3 → Mat3
mat_hat v = mat (vec f0 v.z (neg v.y)) (vec (neg v.z) f0 v.x) (vec v.y (neg v.x) f0)

-- ---- arithmetic
module _ (f : Format) where
  infixl 60 ◌⊕◌ ◌⊖◌ ◌⊞◌ ◌⊟◌
  infixl 70 ◌⊗◌ ◌⊘◌ ◌⊡◌
  infixl 80 ◌⨯◌
  open operations f use {◌⊕◌, ◌⊖◌, ◌⊗◌, ◌⊘◌}
  open vec_operations f use {◌⊞◌, ◌⊟◌, ◌⊡◌, ◌⨯◌}

  unfoldable pub mat_scale : Mat3 → Float → Mat3
  mat_scale m s = mat (m.c0 ⊡ s) (m.c1 ⊡ s) (m.c2 ⊡ s)

  unfoldable pub mat_add : Mat3 → Mat3 → Mat3
  mat_add a b = mat (a.c0 ⊞ b.c0) (a.c1 ⊞ b.c1) (a.c2 ⊞ b.c2)

  unfoldable pub mat_sub : Mat3 → Mat3 → Mat3
  mat_sub a b = mat (a.c0 ⊟ b.c0) (a.c1 ⊟ b.c1) (a.c2 ⊟ b.c2)

  -- the row (a, b, c) of a matrix times a vector
  abbrev pub row_mul : Float → Float → Float → Vec3 → Float
  row_mul a b c v = sum3 f (a ⊗ v.x) (b ⊗ v.y) (c ⊗ v.z)

  unfoldable pub mat_mul_vec : Mat3 → Vec3 → Vec3
  mat_mul_vec m v =
      vec (row_mul m.c0.x m.c1.x m.c2.x v) (row_mul m.c0.y m.c1.y m.c2.y v) (row_mul m.c0.z m.c1.z m.c2.z v)

  unfoldable pub mat_mul : Mat3 → Mat3 → Mat3
  mat_mul a b = mat (mat_mul_vec a b.c0) (mat_mul_vec a b.c1) (mat_mul_vec a b.c2)

  -- the adjugate over the determinant, also for a zero determinant
  unfoldable pub mat_inverse_adj : Mat3 → Inverse
  mat_inverse_adj m =
      let r0 = m.c1 ⨯ m.c2 in
      let r1 = m.c2 ⨯ m.c0 in
      let r2 = m.c0 ⨯ m.c1 in
      let det = vec_dot f m.c0 r0 in
      record { inv = mat_of_rows (vec_over f r0 det) (vec_over f r1 det) (vec_over f r2 det); det = det }

  -- the products by hat v that skip its zeros: a (hat v)
  unfoldable pub mat_mul_hat : Mat3 → Vec3 → Mat3
  mat_mul_hat a v =
      mat (a.c1 ⊡ v.z ⊞ a.c2 ⊡ neg v.y) (a.c0 ⊡ neg v.z ⊞ a.c2 ⊡ v.x) (a.c0 ⊡ v.y ⊞ a.c1 ⊡ neg v.x)

  -- (hat v) b, for a vector and for a matrix
  unfoldable pub vec_hat_mul : Vec3 → Vec3 → Vec3
  vec_hat_mul v b =
      vec (neg v.z ⊗ b.y ⊕ v.y ⊗ b.z) (v.z ⊗ b.x ⊕ neg v.x ⊗ b.z) (neg v.y ⊗ b.x ⊕ v.x ⊗ b.y)

  unfoldable pub mat_hat_mul : Vec3 → Mat3 → Mat3
  mat_hat_mul v b = mat (vec_hat_mul v b.c0) (vec_hat_mul v b.c1) (vec_hat_mul v b.c2)

-- the same as infix operators between matrices, for files that open them: the sum a ⊞ᵐ b, the difference a ⊟ᵐ b, a ⊡ᵐ s
-- (each entry times s), the product a ⊠ b, and a ⊠ᵛ v, the matrix times a vector
pub record MatOperations : Type 0 where
  pub ◌⊞ᵐ◌ : Mat3 → Mat3 → Mat3
  pub ◌⊟ᵐ◌ : Mat3 → Mat3 → Mat3
  pub ◌⊡ᵐ◌ : Mat3 → Float → Mat3
  pub ◌⊠◌ : Mat3 → Mat3 → Mat3
  pub ◌⊠ᵛ◌ : Mat3 → Vec3 → Vec3

abbrev pub mat_operations : Format → MatOperations
mat_operations f =
    record { ◌⊞ᵐ◌ = mat_add f; ◌⊟ᵐ◌ = mat_sub f; ◌⊡ᵐ◌ = mat_scale f; ◌⊠◌ = mat_mul f; ◌⊠ᵛ◌ = mat_mul_vec f }
