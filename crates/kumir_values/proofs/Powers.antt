-- Powers, as std's closed form has them, and the guard of the range.
use Rattle.std.specs.Prelude.{◌≡◌, ℕ, zero, suc, ◌*◌, ◌^◌, ◌%◌, ◌<◌, ◌==◌, Bool, true, false, cond, ℤ, pos, negsuc, ◌*ℤ◌, neg_ℤ, FitsSigned, Ok, Err, unsigned_abs, not, int_lt, ◌≤◌}
use Rattle.std.proofs.Common.{refl, sym, ap, ◌∙◌, arith, w32, inl, inr}
use Rattle.std.proofs.Math.Nat.{pow-suc, pow-zero}
use Rattle.std.proofs.lemmas.Bool.Decides.{nat_tests}
use Rattle.std.proofs.lemmas.Bool.{cases_lt}
use Rattle.std.specs.Int.{int_pow}
use Rattle.kumir_values.specs.Arithmetic.{in_range, ranged, raised, power_of}
use Rattle.kumir_values.specs.declared.run_end.RunFault.TheVariants.{Range}

mul-zero : (n : ℕ) → 0 * n ≡ 0
mul-zero n = omega arith

negated_times : (x a : ℕ) → neg_ℤ (pos x) *ℤ negsuc a ≡ pos (x * suc a)
negated_times zero a = rw mul-zero refl
negated_times (suc x) a = refl

by_le : (n : ℕ) → (n < 2147483648 → ⊥) → 2147483648 ≤ n
by_le n h = omega arith

pub fits_in_range : (z : ℤ) → FitsSigned w32 z → in_range z ≡ true
fits_in_range (pos n) f = let h : n < 2147483648 = f.sfits in grind (arith, nat_tests)
fits_in_range (negsuc n) f = let h : n < 2147483648 = f.sfits in grind (arith, nat_tests)

pub ranged_within : (z : ℤ) → FitsSigned w32 z → ranged z ≡ Ok z
ranged_within z f = ap (λ b. cond b (Ok z) (Err Range)) (fits_in_range z f)

above_range : (z : ℤ) → (FitsSigned w32 z → ⊥) → in_range z ≡ false
above_range (pos n) f = let h : 2147483648 ≤ n = by_le n (λ l. f (record { sfits = l })) in grind (arith, nat_tests)
above_range (negsuc n) f = let h : 2147483648 ≤ n = by_le n (λ l. f (record { sfits = l })) in grind (arith, nat_tests)

pub ranged_outside : (z : ℤ) → (FitsSigned w32 z → ⊥) → ranged z ≡ Err Range
ranged_outside z f = ap (λ b. cond b (Ok z) (Err Range)) (above_range z f)

-- the sign of a power of a negative number turns with each step
turns : (n : ℕ) → (suc n % 2 == 0) ≡ not (n % 2 == 0)
turns n = elim (cases_lt (n % 2) 1) [ inl l ↦ (let e : n % 2 ≡ 0 = omega arith in let o : suc n % 2 ≡ 1 = omega arith in grind (arith, nat_tests)) | inr l ↦ (let e : n % 2 ≡ 1 = omega arith in let o : suc n % 2 ≡ 0 = omega arith in grind (arith, nat_tests)) ]

signed_step : (e e' : Bool) (x a : ℕ) → e' ≡ not e → cond e' (pos (x * suc a)) (neg_ℤ (pos (x * suc a))) ≡ cond e (pos x) (neg_ℤ (pos x)) *ℤ negsuc a
signed_step true e' x a h = rw h refl
signed_step false e' x a h = rw h (sym (negated_times x a))

pow_step : (z : ℤ) (n : ℕ) → int_pow z (suc n) ≡ int_pow z n *ℤ z
pow_step (pos a) n = ap pos (pow-suc a n)
pow_step (negsuc a) n = rw (pow-suc (suc a) n) (signed_step (n % 2 == 0) (suc n % 2 == 0) (suc a ^ n) a (turns n))

pub power_is : (z : ℤ) (n : ℕ) → int_pow z n ≡ power_of z n
unfolding power_of
power_is (pos a) zero = ap pos (pow-zero a)
power_is (negsuc a) zero = ap pos (pow-zero (suc a))
power_is z (suc n) = pow_step z n ∙ ap (λ y. y *ℤ z) (power_is z n)

pub power_within : (a e x : ℤ) → int_lt e (pos 0) ≡ false → FitsSigned w32 (int_pow a (unsigned_abs e)) → x ≡ int_pow a (unsigned_abs e) → Ok x ≡ raised a e
power_within a (pos n) x h f is = ap Ok is ∙ sym (ranged_within (int_pow a n) f) ∙ ap ranged (power_is a n)
power_within a (negsuc n) x h f is = absurd (cc)

pub power_outside : (a e : ℤ) → int_lt e (pos 0) ≡ false → (FitsSigned w32 (int_pow a (unsigned_abs e)) → ⊥) → Err Range ≡ raised a e
power_outside a (pos n) h f = sym (ranged_outside (int_pow a n) f) ∙ ap ranged (power_is a n)
power_outside a (negsuc n) h f = absurd (cc)
