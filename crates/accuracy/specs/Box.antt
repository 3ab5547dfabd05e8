-- Points and quaternions whose numbers are finite and at most b / w in size, and what is said of how near they are to
-- exact ones.
use Rattle.std.specs.Prelude.{ℕ}
use Rattle.linalg.specs.Floats.{Vec3}
use Rattle.so3.specs.Floats.{Quat}
use Rattle.rounding.specs.Value.{Value, value_of, Near, AbsoluteError}
use Rattle.rounding.specs.Leaves.{Bounded}

pub record Three (A : Type 0) : Type 0 where
  pub x : A
  pub y : A
  pub z : A

pub record Four (A : Type 0) : Type 0 where
  pub w : A
  pub x : A
  pub y : A
  pub z : A

abbrev pub exact_vec : Vec3 → Three Value
exact_vec v = record { x = value_of v.x; y = value_of v.y; z = value_of v.z }

abbrev pub exact_quat : Quat → Four Value
exact_quat q = record { w = value_of q.w; x = value_of q.x; y = value_of q.y; z = value_of q.z }

abbrev pub vector_part : Four Value → Three Value
vector_part q = record { x = q.x; y = q.y; z = q.z }

-- each number is finite and at most b / w in size
pub record VecIn (w b : ℕ) (v : Vec3) : Type 0 where
  pub x : Bounded w v.x b
  pub y : Bounded w v.y b
  pub z : Bounded w v.z b

pub record QuatIn (u b : ℕ) (q : Quat) : Type 0 where
  pub w : Bounded u q.w b
  pub x : Bounded u q.x b
  pub y : Bounded u q.y b
  pub z : Bounded u q.z b

-- each number is finite, and its absolute error at most e / w
pub record VecError (w : ℕ) (v : Vec3) (t : Three Value) (e : ℕ) : Type 0 where
  pub x : AbsoluteError w v.x t.x e
  pub y : AbsoluteError w v.y t.y e
  pub z : AbsoluteError w v.z t.z e

pub record QuatError (u : ℕ) (q : Quat) (t : Four Value) (e : ℕ) : Type 0 where
  pub w : AbsoluteError u q.w t.w e
  pub x : AbsoluteError u q.x t.x e
  pub y : AbsoluteError u q.y t.y e
  pub z : AbsoluteError u q.z t.z e

-- each number of v is within e / w of that of t
pub record VecNear (w : ℕ) (v t : Three Value) (e : ℕ) : Type 0 where
  pub x : Near w v.x t.x e
  pub y : Near w v.y t.y e
  pub z : Near w v.z t.z e
