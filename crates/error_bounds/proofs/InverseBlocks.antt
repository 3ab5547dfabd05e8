-- The errors of the left Jacobian's inverse near zero. Assumes nothing.
use mathlib.Core.Path.{◌≡◌, refl, sym, subst}
use mathlib.Core.Bool.{Bool, true, false, not, cond}
use mathlib.Core.List.{List, [], ◌∷◌}
use Prim.Native.Nat.{ℕ, zero, suc, ◌+◌, ◌-◌, ◌*◌, ◌^◌, ◌≤◌, ◌<◌}
use native.Mathlib.Nat.{mul-le-mul_right, mul-lt-mul_of_pos_right, lt_of_mul-lt-mul_right, mul-pos, zero-lt-suc}
use lib.Ieee.Fits.{down_pos}
use Rattle.rounding.proofs.Differences.{expand}
use native.Mathlib.Omega.{arith}
use lib.IntN.{ℤ, negsuc}
use lib.Dec.{T, ltb→lt, lt→ltb, lit≤, lit<}
use lib.Ieee.{Float, nan, inf, fin, Format, binary32, binary64, up, down, sub, lt, of_bits}
use Rattle.ieee.specs.Numbers.{f0, f1}
use Rattle.ieee.specs.Table.{factorial}
use Rattle.linalg.specs.Vector.{vec_norm_sq}
use Rattle.linalg.specs.Floats.{Mat3}
use Rattle.arms.specs.Limits.{coeffs_delta, series_below}
use Rattle.arms.specs.Floats.{Values}
use Rattle.coeffs.specs.Group.{coeffs_scaled, coeffs_unscaled}
use Rattle.sim3.specs.Floats.{Sim3Tangent}
use Rattle.rounding.specs.Value.{Value, plus, opposite, times, value_of, AtMost}
use Rattle.rounding.specs.Tree.{Term, leaf, quot, computed, exact, Bound, bound, no_overflow, well_defined}
use Rattle.rounding.specs.Tree.{DivisorsAtLeast, ForwardError}
use Rattle.rounding.specs.Leaves.{Bounded, nth, no_bound, errorless}
use Rattle.rounding.specs.Arithmetic.{trees}
use Rattle.rounding.proofs.Fractions.{most-times, most-opposite}
use Rattle.rounding.proofs.Leaves.{leaf_forward}
use Rattle.rounding.proofs.Divisors.{Above, above_at_least, above_plus, above_more, above_times, above_zero}
use Rattle.rounding.proofs.Divisors.{above_square}
use Rattle.accuracy.specs.Box.{Three}
use Rattle.accuracy.specs.Domain.{InDomain}
use Rattle.accuracy.specs.Series.{Eight, most_terms, exact_horner, exact_recip, bound_horner}
use Rattle.accuracy.specs.Series.{bound_total, bound_term, horner_no_overflow, total_no_overflow, term_no_overflow}
use Rattle.accuracy.specs.CoefficientSizes.{eight_of, exact_eight, EightWithin, with_errors}
use Rattle.accuracy.proofs.Domain.{domain}
use Rattle.accuracy.proofs.CoefficientSizes.{SizesAtMost, sizes_at_most, sized_within}
use Rattle.accuracy.proofs.Exponential.{from, not_scaled}
use Rattle.accuracy.proofs.Rows.{norm_plain}
use Rattle.linalg.specs.Vector.{vec_scale, vec_add, vec_neg}
use Rattle.linalg.specs.Matrix.{mat_of_rows, mat_identity, mat_hat, mat_scale, mat_add, mat_mul_hat, mat_neg}
use Rattle.linalg.specs.Matrix.{mat_mul, mat_mul_vec}
use Rattle.sim3.specs.Exp.{three_v}
use Rattle.side_jacobians.specs.Blocks.{poly_matrix, inv_coeffs, jl_blocks, jl_and_inverse_from, jl_and_inverse}
use Rattle.side_jacobians.specs.Side.{jac_jl_inv}
use Rattle.jacobian.specs.Floats.{Sim3Jac}
use Rattle.rounding.proofs.Leaves.{AllForwardError, nth_forward}
use Rattle.rounding.proofs.Quotients.{forward_error-divided}
use Rattle.accuracy.specs.Box.{exact_vec, VecIn}
use Rattle.accuracy.specs.Action.{leaves}
use Rattle.accuracy.proofs.Series.{one_forward}
use Rattle.error_bounds.specs.Blocks.{Columns, Blocks, tree_blocks, exact_blocks, columns_row, same9, blocks_bounds}
use Rattle.error_bounds.specs.Blocks.{three_hold, columns_hold, blocks_hold, three_of, columns_of, ColumnsWithin}
use Rattle.error_bounds.specs.Blocks.{unscaled_bounds, rotation_bound}
use Rattle.error_bounds.proofs.Blocks.{◌◁◌, each3, three_within, columns_within, three_error, columns_error}
use Rattle.error_bounds.proofs.Blocks.{BlocksWithin, bounds_of_blocks, blocks_within, Ranges}
use Rattle.error_bounds.proofs.Blocks.{unscaled_within}
use Rattle.error_bounds.specs.InverseBlocks.{polynomial, exact_polynomial, exact_inverse_coefficients}
use Rattle.error_bounds.specs.InverseBlocks.{inverse_coefficients, inverse_blocks, exact_inverse_v}
use Rattle.error_bounds.specs.InverseBlocks.{exact_inverse_blocks, near_below, near_phi, near_v_error, near_b_error}
use Rattle.error_bounds.specs.InverseBlocks.{near_f_error, inverse_rotation_bound, InverseVAccurate}
use Rattle.error_bounds.specs.InverseBlocks.{InverseBlocksAccurate, InverseBlocksTheorem}

-- ---- below one limit, so below a greater one
less_over : (A dd N D dd' N' : ℕ) → 0 < dd → A * dd < N * D → N * dd' ≤ N' * dd → 0 < dd' → A * dd' < N' * D
less_over A dd N D dd' N' z h k z' =
    let x = mul-lt-mul_of_pos_right h z' in
    let y = mul-le-mul_right D k in
    lt_of_mul-lt-mul_right dd (simp expand (omega (arith, simp expand at x, simp expand at y)))

some_over : (A dd N D dd' N' : ℕ) → 0 < A * dd + N * D → N * dd' ≤ N' * dd → 0 < dd' → 0 < A * dd' + N' * D
some_over (suc A) dd N D dd' N' h k z = let p : 0 < suc A * dd' = mul-pos (zero-lt-suc A) z in omega (arith, p)
some_over zero dd zero D dd' zero h k z = absurd (omega (arith, h))
some_over zero dd (suc N) D dd' zero h k z =
    absurd (let p : 0 < suc N * dd' = mul-pos (zero-lt-suc N) z in omega (arith, p, k))
some_over zero dd N zero dd' (suc N') h k z = absurd (omega (arith, h))
some_over zero dd N (suc D) dd' (suc N') h k z =
    let p : 0 < suc N' * suc D = mul-pos (zero-lt-suc N') (zero-lt-suc D) in omega (arith, p)

below_other : (x : Float) (n n' : ℕ) (d d' : ℤ) → n * up d * down d' ≤ n' * up d' * down d → T (lt x (fin false n d))
    → T (lt x (fin false n' d'))
unfolding lt
below_other nan n n' d d' h t = t
below_other (inf s) n n' d d' h t = t
below_other (fin false m j) n n' d d' h t =
    lt→ltb (m * up j * down d') (n' * up d' * down j)
    (less_over (m * up j) (down d) (n * up d) (down j) (down d') (n' * up d') (down_pos d)
    (ltb→lt (m * up j * down d) (n * up d * down j) t) h (down_pos d'))
below_other (fin true m j) n n' d d' h t =
    lt→ltb 0 (m * up j * down d' + n' * up d' * down j)
    (some_over (m * up j) (down d) (n * up d) (down j) (down d') (n' * up d')
    (ltb→lt 0 (m * up j * down d + n * up d * down j) t) h (down_pos d'))

-- ---- the sizes near zero, in units of 2^-100
abbrev near_sigma : Format → ℕ
near_sigma binary32 = 197177503099 * 2 ^ 61
near_sigma binary64 = 282557819785 * 2 ^ 61

abbrev near_z : Format → ℕ
near_z binary32 = 565763408827 * 2 ^ 58
near_z binary64 = 580904608953 * 2 ^ 59

abbrev near_sizes : Format → Eight ℕ
near_sizes binary32 =
    record {
      v0 = 39 * 2 ^ 95;
      v1 = 21 * 2 ^ 95;
      v2 = 29 * 2 ^ 93;
      w0 = 37 * 2 ^ 94;
      w1 = 2 ^ 99;
      w2 = 2 ^ 98;
      dv1 = 2 ^ 98;
      dv2 = 2 ^ 98;
    }
near_sizes binary64 =
    record {
      v0 = 21 * 2 ^ 96;
      v1 = 3 * 2 ^ 98;
      v2 = 2 ^ 98;
      w0 = 39 * 2 ^ 94;
      w1 = 2 ^ 99;
      w2 = 2 ^ 98;
      dv1 = 2 ^ 98;
      dv2 = 2 ^ 98;
    }

record NearZero (f : Format) (s z : Float) : Type 0 where
  k : ℕ
  i : ℕ
  length : suc (suc (suc (suc k))) + suc i ≡ most_terms f
  sigma : Bounded (2 ^ 100) s (near_sigma f)
  most : Bounded (2 ^ 100) z (near_z f)
  above : (value_of z).n ≡ 0
  sizes : SizesAtMost (2 ^ 100) (value_of s) (value_of z) k (near_sizes f)

near : (f : Format) (s z : Float) → T (lt (coeffs_delta f s z) (near_below f)) → T (not (lt z f0)) → NearZero f s z
unfolding of_bits horner_no_overflow total_no_overflow term_no_overflow bound_horner bound_total bound_term factorial
near binary64 s z t p =
    let w = 2 ^ 100 in
    let r = 282557819785 * 2 ^ 61 in
    let y = 580904608953 * 2 ^ 59 in
    let h : InDomain w r y s z =
    domain binary64 w (72613076119 * 2 ^ 62) r y s z 4758770556533881 (negsuc 53) (lit< tt) t p (lit≤ tt) (lit≤ tt)
    (lit≤ tt) in
    let c : Eight ℕ =
    record {
      v0 = 5 * 2 ^ 44;
      v1 = 19 * 2 ^ 42;
      v2 = 35 * 2 ^ 40;
      w0 = 5 * 2 ^ 40;
      w1 = 35 * 2 ^ 37;
      w2 = 63 * 2 ^ 35;
      dv1 = 11 * 2 ^ 40;
      dv2 = 21 * 2 ^ 37;
    } in
    record {
      k = 14;
      i = 4;
      length = refl;
      sigma = h.sigma;
      most = h.z;
      above = h.nonnegative;
      sizes =
          sizes_at_most binary64 w r y 14 s z (lit< tt) (lit≤ tt) h c (near_sizes binary64)
          (tt, tt, tt, tt, tt, tt, tt, tt)
          (lit≤ tt, lit≤ tt, lit≤ tt, lit≤ tt, lit≤ tt, lit≤ tt, lit≤ tt, lit≤ tt)
          (lit≤ tt, lit≤ tt, lit≤ tt, lit≤ tt, lit≤ tt, lit≤ tt, lit≤ tt, lit≤ tt);
    }
near binary32 s z t p =
    let w = 2 ^ 100 in
    let r = 197177503099 * 2 ^ 61 in
    let y = 565763408827 * 2 ^ 58 in
    let h : InDomain w r y s z =
    domain binary32 w (269777 * 2 ^ 79) r y s z 269777 (negsuc 20) (lit< tt) t p (lit≤ tt) (lit≤ tt) (lit≤ tt) in
    let c : Eight ℕ =
    record {
      v0 = 41 * 2 ^ 69;
      v1 = 37 * 2 ^ 69;
      v2 = 33 * 2 ^ 68;
      w0 = 37 * 2 ^ 66;
      w1 = 29 * 2 ^ 66;
      w2 = 3 * 2 ^ 68;
      dv1 = 5 * 2 ^ 69;
      dv2 = 37 * 2 ^ 64;
    } in
    record {
      k = 7;
      i = 3;
      length = refl;
      sigma = h.sigma;
      most = h.z;
      above = h.nonnegative;
      sizes =
          sizes_at_most binary32 w r y 7 s z (lit< tt) (lit≤ tt) h c (near_sizes binary32)
          (tt, tt, tt, tt, tt, tt, tt, tt)
          (lit≤ tt, lit≤ tt, lit≤ tt, lit≤ tt, lit≤ tt, lit≤ tt, lit≤ tt, lit≤ tt)
          (lit≤ tt, lit≤ tt, lit≤ tt, lit≤ tt, lit≤ tt, lit≤ tt, lit≤ tt, lit≤ tt);
    }

in_series : (f : Format) (x : Float) → T (lt x (near_below f)) → T (lt x (series_below f))
unfolding of_bits
in_series binary32 x t = below_other x 269777 4973131 (negsuc 20) (negsuc 20) (lit≤ tt) t
in_series binary64 x t = below_other x 4758770556533881 2230359052429091 (negsuc 53) (negsuc 49) (lit≤ tt) t

-- ---- the divisors: v₀ = 1 + σ w₀, χ = v₀ - z v₂, Λ at least χ²
abbrev least_v0 : Format → ℕ
least_v0 binary32 = 101 * 2 ^ 93
least_v0 binary64 = 175 * 2 ^ 92

abbrev least_chi : Format → ℕ
least_chi binary32 = 97 * 2 ^ 93
least_chi binary64 = 39 * 2 ^ 94

abbrev least_lambda : Format → ℕ
least_lambda binary32 = 73 * 2 ^ 93
least_lambda binary64 = 47 * 2 ^ 93

abbrev least_both : Format → ℕ
least_both binary32 = 57 * 2 ^ 93
least_both binary64 = 2 ^ 98

-- what σ w₀ and z v₂ come to at most
abbrev slack_v0 : Format → ℕ
slack_v0 f = 2 ^ 100 - least_v0 f

abbrev slack_chi : Format → ℕ
slack_chi f = least_v0 f - least_chi f

record Numbers (f : Format) : Type 0 where
  v0 : least_v0 f + slack_v0 f ≤ 2 ^ 100
  v0_slack : near_sigma f * (near_sizes f).w0 ≤ slack_v0 f * 2 ^ 100
  chi : least_chi f + slack_chi f ≤ least_v0 f
  chi_slack : near_z f * (near_sizes f).v2 ≤ slack_chi f * 2 ^ 100
  lambda : least_lambda f * 2 ^ 100 ≤ least_chi f * least_chi f
  both : least_both f * 2 ^ 100 ≤ least_v0 f * least_lambda f

numbers : (f : Format) → Numbers f
numbers binary32 =
    record { v0 = lit≤ tt; v0_slack = lit≤ tt; chi = lit≤ tt; chi_slack = lit≤ tt; lambda = lit≤ tt; both = lit≤ tt }
numbers binary64 =
    record { v0 = lit≤ tt; v0_slack = lit≤ tt; chi = lit≤ tt; chi_slack = lit≤ tt; lambda = lit≤ tt; both = lit≤ tt }

v0_above : (f : Format) (s : Value) (m : ℕ) → AtMost (2 ^ 100) s (near_sigma f)
    → AtMost (2 ^ 100) (exact_horner s 2 m) (near_sizes f).w0 → Above (2 ^ 100) (exact_horner s 1 (suc m)) (least_v0 f)
unfolding exact_horner factorial
v0_above f s m h k =
    let q = numbers f in
    above_plus (2 ^ 100) (exact_recip 1) (times s (exact_horner s 2 m)) (2 ^ 100) (slack_v0 f) (least_v0 f) q.v0
    (record { least = lit≤ tt })
    (most-times (2 ^ 100) s (exact_horner s 2 m) (near_sigma f) (near_sizes f).w0 (slack_v0 f) (lit< tt) h k q.v0_slack)

record Apart (f : Format) (z v0 v1 v2 : Value) : Type 0 where
  lambda : Above (2 ^ 100) (plus (times (plus v0 (opposite (times z v2))) (plus v0 (opposite (times z v2))))
      (times z (times v1 v1))) (least_lambda f)
  both : Above (2 ^ 100) (times v0 (plus (times (plus v0 (opposite (times z v2))) (plus v0 (opposite (times z v2))))
      (times z (times v1 v1)))) (least_both f)

apart : (f : Format) (z v0 v1 v2 : Value) → z.n ≡ 0 → AtMost (2 ^ 100) z (near_z f)
    → AtMost (2 ^ 100) v2 (near_sizes f).v2 → Above (2 ^ 100) v0 (least_v0 f) → Apart f z v0 v1 v2
apart f z v0 v1 v2 e hz h2 h0 =
    let w = 2 ^ 100 in
    let q = numbers f in
    let x = plus v0 (opposite (times z v2)) in
    let c : Above w x (least_chi f) =
    above_plus w v0 (opposite (times z v2)) (least_v0 f) (slack_chi f) (least_chi f) q.chi h0
    (most-opposite w (times z v2) (slack_chi f)
    (most-times w z v2 (near_z f) (near_sizes f).v2 (slack_chi f) (lit< tt) hz h2 q.chi_slack)) in
    let y = times z (times v1 v1) in
    let n : Above w y 0 =
    above_times w z (times v1 v1) 0 0 0 (lit< tt) (lit≤ tt) (above_zero w z e) (above_square w v1) in
    let l : Above w (plus (times x x) y) (least_lambda f) =
    above_more w (times x x) y (least_lambda f)
    (above_times w x x (least_chi f) (least_chi f) (least_lambda f) (lit< tt) q.lambda c c) n in
    record {
      lambda = l;
      both = above_times w v0 (plus (times x x) y) (least_v0 f) (least_lambda f) (least_both f)
          (lit< tt) q.both h0 l;
    }

-- ---- the three quotients, over 1, z, v₀, v₁ and v₂
abbrev quotient_trees : Format → Three Term
quotient_trees f =
    inverse_coefficients trees (quot (least_v0 f)) (quot (least_lambda f)) (quot (least_both f)) (leaf 0) (leaf 1)
    (leaf 2) (leaf 3) (leaf 4)

abbrev near_bounds : Format → Eight Bound
near_bounds f = with_errors f (near_sizes f)

abbrev quotient_leaves : Format → List Bound
quotient_leaves f =
    let b = near_bounds f in
    errorless (2 ^ 100) ∷ errorless (near_z f) ∷ b.v0 ∷ b.v1 ∷ b.v2 ∷ []

abbrev quotient_bounds : Format → Three Bound
quotient_bounds f =
    let b = nth no_bound (quotient_leaves f) in
    let t = quotient_trees f in
    record { x = bound f (2 ^ 100) b t.x; y = bound f (2 ^ 100) b t.y; z = bound f (2 ^ 100) b t.z }

abbrev v_leaves : Format → List Bound
v_leaves f =
    let p = errorless (near_phi f) in
    let q = quotient_bounds f in
    no_bound ∷ errorless (2 ^ 100) ∷ p ∷ p ∷ p ∷ q.x ∷ q.y ∷ q.z ∷ []

v_tree : Columns Term
v_tree = polynomial trees (leaf 0) (leaf 1) (leaves 2 3 4) (leaves 5 6 7)

abbrev QuotientsDefined : Format → Type 0
QuotientsDefined f =
    let b = nth no_bound (quotient_leaves f) in
    let t = quotient_trees f in
    T (well_defined f (2 ^ 100) b t.x) × T (well_defined f (2 ^ 100) b t.y) × T (well_defined f (2 ^ 100) b t.z)

quotients_defined : (f : Format) → QuotientsDefined f
unfolding well_defined bound
quotients_defined binary32 = (tt, tt, tt)
quotients_defined binary64 = (tt, tt, tt)

abbrev v_bounds : Format → Columns Bound
v_bounds f = each3 (each3 (bound f (2 ^ 100) (nth no_bound (v_leaves f)))) v_tree

v_holds : (f : Format) → T (columns_hold f (2 ^ 100) (nth no_bound (v_leaves f)) v_tree (near_v_error f))
unfolding well_defined bound no_overflow v_tree
v_holds binary32 = tt
v_holds binary64 = tt

near_within : (f : Format) (tau : Sim3Tangent) (v : Values)
    → T (lt (coeffs_delta f tau.sigma (vec_norm_sq f tau.phi)) (near_below f)) → (n : ℕ)
    → EightWithin (2 ^ 100) (eight_of (coeffs_scaled f tau.sigma (vec_norm_sq f tau.phi) v).c)
    (exact_eight (value_of tau.sigma) (value_of (vec_norm_sq f tau.phi)) (most_terms f + n)) (near_bounds f)
near_within f tau v t n =
    let z = vec_norm_sq f tau.phi in
    let p = norm_plain f tau.phi in
    let g = near f tau.sigma z t p in
    sized_within f tau.sigma z v g.k (suc g.i) (near_sizes f) (in_series f (coeffs_delta f tau.sigma z) t) p g.length
    g.sizes n

v_within : (f : Format) (tau : Sim3Tangent) (v : Values) (jl jl_inv : Mat3)
    → T (lt (coeffs_delta f tau.sigma (vec_norm_sq f tau.phi)) (near_below f)) → VecIn (2 ^ 100) (near_phi f) tau.phi
    → (n : ℕ) → ColumnsWithin (2 ^ 100) (columns_of (jac_jl_inv f tau v jl jl_inv).c)
    (exact_inverse_v (exact_vec tau.phi) (value_of (vec_norm_sq f tau.phi))
    (exact_eight (value_of tau.sigma) (value_of (vec_norm_sq f tau.phi)) (most_terms f + n))) (v_bounds f)
unfolding computed exact DivisorsAtLeast v_tree exact_polynomial exact_inverse_coefficients jac_jl_inv
    jl_and_inverse jl_and_inverse_from inv_coeffs poly_matrix mat_of_rows mat_identity mat_hat mat_scale mat_add
    mat_mul_hat vec_scale vec_add sub
v_within f tau v jl jl_inv t hp n =
    let w = 2 ^ 100 in
    let z = vec_norm_sq f tau.phi in
    let d = in_series f (coeffs_delta f tau.sigma z) t in
    let g = near f tau.sigma z t (norm_plain f tau.phi) in
    let s = value_of tau.sigma in
    let u = value_of z in
    let M = most_terms f in
    let y = exact_eight s u (M + n) in
    let c = (coeffs_scaled f tau.sigma z v).c in
    let h = near_within f tau v t n in
    let leaf_s = leaf_forward w tau.sigma (near_sigma f) g.sigma in
    let leaf_z = leaf_forward w z (near_z f) g.most in
    let mw =
    from (λ j. AtMost w (exact_horner s 2 j) (near_sizes f).w0) g.k (4 + g.i) (4 + g.i + g.k) (omega arith) g.sizes.w0 n
    in
    let a0 : Above w y.v0 (least_v0 f) =
    subst (λ (j : ℕ). Above w (exact_horner s 1 j) (least_v0 f)) (later g.k g.i M n g.length)
    (v0_above f s (4 + g.i + g.k + n) leaf_s.size mw) in
    let q = apart f u y.v0 y.v1 y.v2 g.above leaf_z.size h.v2.size a0 in
    let xs = f1 ∷ z ∷ c.v0 ∷ c.v1 ∷ c.v2 ∷ [] in
    let ys = value_of f1 ∷ u ∷ y.v0 ∷ y.v1 ∷ y.v2 ∷ [] in
    let all : AllForwardError w xs ys (quotient_leaves f) = one_forward w ◁ leaf_z ◁ h.v0 ◁ h.v1 ◁ h.v2 ◁ tt in
    let B = nth no_bound (quotient_leaves f) in
    let T3 = quotient_trees f in
    let go : (a : Term) → T (well_defined f w B a) → DivisorsAtLeast w (nth (value_of f0) ys) a → ForwardError w
    (computed f (nth f0 xs) a) (exact (nth (value_of f0) ys) a) (bound f w B a) =
    λ a i j. forward_error-divided f w (nth f0 xs) (nth (value_of f0) ys) B (lit< tt)
    (nth_forward w xs ys (quotient_leaves f) all) a i j in
    let k = quotients_defined f in
    let l = above_at_least w _ (least_lambda f) q.lambda in
    let x0 = go T3.x k.0 (tt, (tt, above_at_least w y.v0 (least_v0 f) a0)) in
    let x1 = go T3.y k.1 (tt, ((((tt, (tt, tt)), (tt, (tt, tt))), (tt, (tt, tt))), l)) in
    let x2 =
    go T3.z k.2 (
      ((tt, tt), (tt, (tt, (tt, tt)))),
      ((tt, (((tt, (tt, tt)), (tt, (tt, tt))), (tt, (tt, tt)))), above_at_least w _ (least_both f) q.both),
    ) in
    let ci = inv_coeffs f (three_v c) z in
    let yi = exact_inverse_coefficients u y.v0 y.v1 y.v2 in
    let fs = f0 ∷ f1 ∷ tau.phi.x ∷ tau.phi.y ∷ tau.phi.z ∷ ci.x0 ∷ ci.x1 ∷ ci.x2 ∷ [] in
    let vs =
    value_of f0 ∷ value_of f1 ∷ value_of tau.phi.x ∷ value_of tau.phi.y ∷ value_of tau.phi.z ∷ yi.x ∷ yi.y ∷ yi.z ∷ []
    in
    let of = λ (a : Float) (i : Bounded w a (near_phi f)). leaf_forward w a (near_phi f) i in
    let each : AllForwardError w fs vs (v_leaves f) =
    leaf_forward w f0 0 (lit≤ tt) ◁ one_forward w ◁ of tau.phi.x hp.x ◁ of tau.phi.y hp.y ◁ of tau.phi.z hp.z
    ◁ x0 ◁ x1 ◁ x2 ◁ tt in
    subst (λ (o : Bool). ColumnsWithin w (columns_of (mat_scale f (poly_matrix f tau.phi ci) (cond o v.down f1)))
    (exact_polynomial (exact_vec tau.phi) yi) (v_bounds f)) (sym (not_scaled f tau.sigma z v d))
    (columns_within f w (nth no_bound (v_leaves f)) (nth f0 fs) (nth (value_of f0) vs) (lit< tt)
    (nth_forward w fs vs (v_leaves f) each) v_tree (near_v_error f) (v_holds f))
  where
    later : (k i M n : ℕ) → suc (suc (suc (suc k))) + suc i ≡ M → suc (4 + i + k + n) ≡ M + n
    later k i M n e = omega (arith, e)

v_accurate : (f : Format) (tau : Sim3Tangent) (v : Values) (jl jl_inv : Mat3)
    → InverseVAccurate f tau (jac_jl_inv f tau v jl jl_inv).c
v_accurate f tau v jl jl_inv t hp n =
    columns_error f (2 ^ 100) (nth no_bound (v_leaves f)) (jac_jl_inv f tau v jl jl_inv).c _ v_tree (near_v_error f)
    (v_within f tau v jl jl_inv t hp n) (v_holds f)

-- ---- the other blocks: Q and the column of σ as BlocksTheorem has them, with the coefficients' sizes near zero
near_ranges : (f : Format) → Ranges f (near_bounds f)
near_ranges binary32 = (tt, tt, tt, tt, tt, tt, tt, tt)
near_ranges binary64 = (tt, tt, tt, tt, tt, tt, tt, tt)

abbrev left_bounds : Format → ℕ → Bound
left_bounds f =
    blocks_bounds (2 ^ 100) (near_phi f) (2 ^ 100) (unscaled_bounds f (near_bounds f)) (rotation_bound f)

-- nothing in them overflows; the bounds of their trees are taken as they are, so that any numbers above those do here
left_safe : (f : Format) → T (blocks_hold f (2 ^ 100) (left_bounds f) (2 ^ 100) (2 ^ 100) (2 ^ 100))
unfolding blocks_hold
left_safe binary32 = tt
left_safe binary64 = tt

-- over V⁻¹, Q, J_l(φ)⁻¹ and the column of σ, each entry within the bound of its tree
abbrev inverse_row : {A : Type 0} → Columns A → Columns A → Columns A → Three A → List A
inverse_row v q k f = columns_row v (columns_row q (columns_row k (f.x ∷ f.y ∷ f.z ∷ [])))

inverse_tree : Blocks Term
inverse_tree =
    inverse_blocks trees (record { x = leaves 0 1 2; y = leaves 3 4 5; z = leaves 6 7 8 })
    (record { x = leaves 9 10 11; y = leaves 12 13 14; z = leaves 15 16 17 }) (leaves 27 28 29)
    (record { x = leaves 18 19 20; y = leaves 21 22 23; z = leaves 24 25 26 })

abbrev inverse_leaves : Format → List Bound
inverse_leaves f =
    let u = bounds_of_blocks f (2 ^ 100) (left_bounds f) in
    inverse_row (v_bounds f) u.b (same9 (inverse_rotation_bound f)) u.f

inverse_holds : (f : Format)
    → T (columns_hold f (2 ^ 100) (nth no_bound (inverse_leaves f)) inverse_tree.b (near_b_error f))
    × T (three_hold f (2 ^ 100) (nth no_bound (inverse_leaves f)) inverse_tree.f (near_f_error f))
unfolding well_defined bound no_overflow v_tree tree_blocks inverse_tree
inverse_holds binary32 = (tt, tt)
inverse_holds binary64 = (tt, tt)

blocks_accurate : (f : Format) (tau : Sim3Tangent) (v : Values) (jl jl_inv : Mat3)
    → InverseBlocksAccurate f tau jl jl_inv (jac_jl_inv f tau v jl jl_inv)
unfolding computed exact inverse_tree exact_inverse_blocks jac_jl_inv jl_and_inverse jl_and_inverse_from
    coeffs_unscaled mat_neg mat_mul mat_mul_vec vec_neg
blocks_accurate f tau v jl jl_inv t hp hr m k hm hk n =
    let w = 2 ^ 100 in
    let z = vec_norm_sq f tau.phi in
    let y = exact_eight (value_of tau.sigma) (value_of z) (most_terms f + n) in
    let b = near_bounds f in
    let l = rotation_bound f in
    let j = jac_jl_inv f tau v jl jl_inv in
    let c = coeffs_unscaled f tau.sigma z v in
    let left = jl_blocks f tau.phi tau.rho c jl in
    let x = exact_blocks (exact_vec tau.phi) (exact_vec tau.rho) y m in
    let u = bounds_of_blocks f w (left_bounds f) in
    let hl : BlocksWithin w left x u =
    blocks_within f tau.phi tau.rho c jl w (near_phi f) w (unscaled_bounds f b) l w w w (lit< tt) (left_safe f) hp hr y
    (unscaled_within f tau v y b (in_series f (coeffs_delta f tau.sigma z) t) (near_ranges f) (near_within f tau v t n))
    m hm in
    let hv = v_within f tau v jl jl_inv t hp n in
    let vx = exact_inverse_v (exact_vec tau.phi) (value_of z) y in
    let floats = inverse_row (columns_of j.c) (columns_of left.b) (columns_of jl_inv) (three_of left.f) in
    let values = inverse_row vx x.b k x.f in
    let all : AllForwardError w floats values (inverse_leaves f) =
    hv.x.x ◁ hv.x.y ◁ hv.x.z ◁ hv.y.x ◁ hv.y.y ◁ hv.y.z ◁ hv.z.x ◁ hv.z.y ◁ hv.z.z
    ◁ hl.b.x.x ◁ hl.b.x.y ◁ hl.b.x.z ◁ hl.b.y.x ◁ hl.b.y.y ◁ hl.b.y.z ◁ hl.b.z.x ◁ hl.b.z.y ◁ hl.b.z.z
    ◁ hk.x.x ◁ hk.x.y ◁ hk.x.z ◁ hk.y.x ◁ hk.y.y ◁ hk.y.z ◁ hk.z.x ◁ hk.z.y ◁ hk.z.z
    ◁ hl.f.x ◁ hl.f.y ◁ hl.f.z ◁ tt in
    let B = nth no_bound (inverse_leaves f) in
    let F = nth f0 floats in
    let V = nth (value_of f0) values in
    let h = nth_forward w floats values (inverse_leaves f) all in
    let s = inverse_holds f in
    let e = exact_inverse_blocks vx x k in
    record {
      b = columns_error f w B j.b e.b inverse_tree.b (near_b_error f)
          (columns_within f w B F V (lit< tt) h inverse_tree.b (near_b_error f) s.0) s.0;
      c = v_accurate f tau v jl jl_inv t hp n;
      f = three_error f w B j.f e.f inverse_tree.f (near_f_error f)
          (three_within f w B F V (lit< tt) h inverse_tree.f (near_f_error f) s.1) s.1;
    }

-- what specs/InverseBlocks.antt states
pub inverse_blocks_theorem : (f : Format) → InverseBlocksTheorem f
inverse_blocks_theorem f = record { v = v_accurate f; blocks = blocks_accurate f }

pub inverse_v_holds : (f : Format) (tau : Sim3Tangent) (v : Values) (jl jl_inv : Mat3) (j : Sim3Jac)
    → j ≡ jac_jl_inv f tau v jl jl_inv → InverseVAccurate f tau j.c
inverse_v_holds f tau v jl jl_inv j e =
    subst (λ (i : Sim3Jac). InverseVAccurate f tau i.c) (sym e) (v_accurate f tau v jl jl_inv)

pub inverse_blocks_hold : (f : Format) (tau : Sim3Tangent) (v : Values) (jl jl_inv : Mat3) (j : Sim3Jac)
    → j ≡ jac_jl_inv f tau v jl jl_inv → InverseBlocksAccurate f tau jl jl_inv j
inverse_blocks_hold f tau v jl jl_inv j e =
    subst (λ (i : Sim3Jac). InverseBlocksAccurate f tau jl jl_inv i) (sym e) (blocks_accurate f tau v jl jl_inv)
