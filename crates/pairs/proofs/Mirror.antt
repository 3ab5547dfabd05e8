-- The levels at -sigma are those at sigma, with the parts of odd parity negated, up to the sign of a zero: every
-- summand of a part has one parity, and negation commutes with rounding. Assumes nothing.
use mathlib.Core.Path.{◌≡◌, refl, ap, ◌∙◌}
use mathlib.Core.Logic.{inl, inr}
use Prim.Native.Nat.{ℕ, zero, suc, ◌%◌}
use native.Mathlib.Omega.{arith}
use mathlib.Core.Bool.{Bool, true, false, not}
use borrow.Author.Tests.{eq-eqb, ne_eqb}
use lib.Ieee.{Float, Format, neg, add, sub, mul}
use Rattle.std.proofs.lemmas.Bool.{cases_lt}
use Rattle.ieee.specs.Signs.{unsigned_zero, Same}
use Rattle.ieee.proofs.Sign.{mul-neg_l, mul-neg_r, mul-neg-neg}
use Rattle.ieee.proofs.Signed.{add_same, sub_same, neg-add, neg-sub}
use Rattle.ieee.proofs.Product.{mul-same}
use Rattle.series.specs.Series.{series_first, series_next, series_level}
use Rattle.pairs.specs.Private.{odd}
use Rattle.series.specs.Floats.{Level}

-- -x where b, else x
abbrev pub turned : Bool → Float → Float
turned true x = neg x
turned false x = x

-- y is x, negated where b, up to the sign of a zero
abbrev pub Turned : Bool → Float → Float → Type 0
Turned b x y = Same y (turned b x)

-- ---- sums and products of such values
pub add_turned : (f : Format) (b : Bool) (x x' y y' : Float) → Turned b x x' → Turned b y y' →
    Turned b (add f x y) (add f x' y')
add_turned f true x x' y y' p q = add_same f x' (neg x) y' (neg y) p q ∙ neg-add f x y
add_turned f false x x' y y' p q = add_same f x' x y' y p q

sub-turned : (f : Format) (b : Bool) (x x' y y' : Float) → Turned b x x' → Turned b y y' →
    Turned b (sub f x y) (sub f x' y')
sub-turned f true x x' y y' p q = sub_same f x' (neg x) y' (neg y) p q ∙ neg-sub f x y
sub-turned f false x x' y y' p q = sub_same f x' x y' y p q

pub mul-turned_l : (f : Format) (b : Bool) (x x' y : Float) → Turned b x x' → Turned b (mul f x y) (mul f x' y)
mul-turned_l f true x x' y p = mul-same f x' (neg x) y y p refl ∙ ap unsigned_zero (mul-neg_l f x y)
mul-turned_l f false x x' y p = mul-same f x' x y y p refl

mul-turned_r : (f : Format) (b : Bool) (x y y' : Float) → Turned b y y' → Turned b (mul f x y) (mul f x y')
mul-turned_r f true x y y' p = mul-same f x x y' (neg y) refl p ∙ ap unsigned_zero (mul-neg_r f x y)
mul-turned_r f false x y y' p = mul-same f x x y' y refl p

-- sigma times a part, at -sigma: negated once more
pub by_sigma : (f : Format) (b : Bool) (sigma y y' : Float) → Turned b y y' →
    Turned (not b) (mul f sigma y) (mul f (neg sigma) y')
by_sigma f true sigma y y' p =
    mul-same f (neg sigma) (neg sigma) y' (neg y) refl p ∙ ap unsigned_zero (mul-neg-neg f sigma y)
by_sigma f false sigma y y' p = mul-same f (neg sigma) (neg sigma) y' y refl p ∙ ap unsigned_zero (mul-neg_l f sigma y)

times-sigma : (f : Format) (b : Bool) (x x' sigma : Float) → Turned b x x' →
    Turned (not b) (mul f x sigma) (mul f x' (neg sigma))
times-sigma f true x x' sigma p =
    mul-same f x' (neg x) (neg sigma) (neg sigma) p refl ∙ ap unsigned_zero (mul-neg-neg f x sigma)
times-sigma f false x x' sigma p =
    mul-same f x' x (neg sigma) (neg sigma) p refl ∙ ap unsigned_zero (mul-neg_r f x sigma)

-- ---- a level: p, zeta and dzeta are negated where b, xi and dxi where not
pub record Mirror (b : Bool) (l m : Level) : Type 0 where
  pub p : Turned b l.p m.p
  pub zeta : Turned b l.zeta m.zeta
  pub dzeta : Turned b l.dzeta m.dzeta
  pub xi : Turned (not b) l.xi m.xi
  pub dxi : Turned (not b) l.dxi m.dxi

next_mirror : (f : Format) (b : Bool) (sigma z : Float) (l m : Level) → Mirror b l m →
    Mirror (not b) (series_next f sigma z l) (series_next f (neg sigma) z m)
unfolding series_next
next_mirror f true sigma z l m h =
    record {
      p = times-sigma f true _ _ _ h.p;
      zeta = add_turned f false _ _ _ _ (by_sigma f true _ _ _ h.zeta) h.xi;
      dzeta = add_turned f false _ _ _ _ (by_sigma f true _ _ _ h.dzeta) h.dxi;
      xi =
          sub-turned f true _ _ _ _ (add_turned f true _ _ _ _ (by_sigma f false _ _ _ h.xi) h.p)
          (mul-turned_r f true _ _ _ h.zeta);
      dxi =
          sub-turned f true _ _ _ _ (sub-turned f true _ _ _ _ (by_sigma f false _ _ _ h.dxi) h.zeta)
          (mul-turned_r f true _ _ _ h.dzeta);
    }
next_mirror f false sigma z l m h =
    record {
      p = times-sigma f false _ _ _ h.p;
      zeta = add_turned f true _ _ _ _ (by_sigma f false _ _ _ h.zeta) h.xi;
      dzeta = add_turned f true _ _ _ _ (by_sigma f false _ _ _ h.dzeta) h.dxi;
      xi =
          sub-turned f false _ _ _ _ (add_turned f false _ _ _ _ (by_sigma f true _ _ _ h.xi) h.p)
          (mul-turned_r f false _ _ _ h.zeta);
      dxi =
          sub-turned f false _ _ _ _ (sub-turned f false _ _ _ _ (by_sigma f true _ _ _ h.dxi) h.zeta)
          (mul-turned_r f false _ _ _ h.dzeta);
    }

pub odd_suc : (j : ℕ) → odd (suc j) ≡ not (odd j)
odd_suc j = elim (cases_lt (j % 2) 1) [
  | inl h ↦ rw (ne_eqb (j % 2) 1 (λ e. omega arith), eq-eqb (suc j % 2) 1 (omega arith)) refl
  | inr h ↦ rw (eq-eqb (j % 2) 1 (omega arith), ne_eqb (suc j % 2) 1 (λ e. omega arith)) refl
]

pub level_mirror : (f : Format) (sigma z : Float) (j : ℕ) → Mirror (odd j) (series_level f sigma z j)
    (series_level f (neg sigma) z j)
unfolding series_level
level_mirror f sigma z zero =
    unfold series_first unsigned_zero neg in record { p = refl; zeta = refl; dzeta = refl; xi = refl; dxi = refl }
level_mirror f sigma z (suc j) = rw (odd_suc j) (next_mirror f (odd j) sigma z _ _ (level_mirror f sigma z j))
