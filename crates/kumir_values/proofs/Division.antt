-- Division with a remainder that is not negative: the definitions obey the law, and nothing else does.
use Rattle.std.specs.Prelude.{◌≡◌, ◌≢◌, ℕ, zero, suc, ◌+◌, ◌*◌, ◌/◌, ◌%◌, ◌<◌, ℤ, pos, negsuc, ◌+ℤ◌, ◌*ℤ◌, neg_ℤ, unsigned_abs}
use Rattle.std.proofs.Common.{refl, sym, ap, ◌∙◌, arith}
use Rattle.std.proofs.lemmas.Int.{ints}
use Rattle.std.proofs.lemmas.Nat.{div-add-mod', mod_below, same_from_place}
use borrow.Author.Differences.{up, down, same_in}
use Rattle.kumir_values.specs.Arithmetic.{IsDivision, quotient, remainder}

mul-zero : (n : ℕ) → n * 0 ≡ 0
mul-zero n = omega arith

times_negated : (b q : ℕ) → negsuc b *ℤ neg_ℤ (pos q) ≡ pos (suc b * q)
times_negated b zero = rw mul-zero refl
times_negated b (suc q) = refl

pub division_law : (a b : ℤ) → b ≢ pos 0 → IsDivision a b (quotient a b) (remainder a b)
division_law a (pos zero) h = absurd (h refl)
division_law (pos a) (pos (suc b)) h =
    let e : a / suc b * suc b + a % suc b ≡ a = div-add-mod' a (suc b) in
    let l : a % suc b < suc b = mod_below a (suc b) (omega arith) in
    record { whole = omega (arith, ints); low = omega (arith, ints); high = omega (arith, ints) }
division_law (pos a) (negsuc b) h =
    let e : a / suc b * suc b + a % suc b ≡ a = div-add-mod' a (suc b) in
    let l : a % suc b < suc b = mod_below a (suc b) (omega arith) in
    record { whole = rw (times_negated b (a / suc b)) (omega (arith, ints)); low = omega (arith, ints); high = omega (arith, ints) }
division_law (negsuc a) (pos (suc b)) h =
    let e : a / suc b * suc b + a % suc b ≡ a = div-add-mod' a (suc b) in
    let l : a % suc b < suc b = mod_below a (suc b) (omega arith) in
    record { whole = omega (arith, ints); low = omega (arith, ints); high = omega (arith, ints) }
division_law (negsuc a) (negsuc b) h =
    let e : a / suc b * suc b + a % suc b ≡ a = div-add-mod' a (suc b) in
    let l : a % suc b < suc b = mod_below a (suc b) (omega arith) in
    record { whole = omega (arith, ints); low = omega (arith, ints); high = omega (arith, ints) }

-- a product, as a difference of naturals
times_pos : (n : ℕ) (q : ℤ) → up (pos n *ℤ q) + down q * n ≡ down (pos n *ℤ q) + up q * n
times_pos n (pos q) = omega (arith, ints)
times_pos n (negsuc q) = omega (arith, ints)

times_negsuc : (n : ℕ) (q : ℤ) → up (negsuc n *ℤ q) + up q * suc n ≡ down (negsuc n *ℤ q) + down q * suc n
times_negsuc n (pos q) = omega (arith, ints)
times_negsuc n (negsuc q) = omega (arith, ints)

natural_part : (r : ℤ) (b : ℤ) (a q : ℤ) → IsDivision a b q r → (n : ℕ) × (r ≡ pos n) × (n < unsigned_abs b)
natural_part (pos n) b a q d = (n, refl, omega (arith, ints, d.high))
natural_part (negsuc n) b a q d = absurd (omega (arith, ints, d.low))

alone_pos : (n : ℕ) (a q q' : ℤ) (m m' : ℕ) → m < n → m' < n → a ≡ pos n *ℤ q +ℤ pos m → a ≡ pos n *ℤ q' +ℤ pos m' → (q ≡ q') × (m ≡ m')
alone_pos n a q q' m m' l l' e e' =
    let x = times_pos n q in
    let x' = times_pos n q' in
    let f : pos n *ℤ q +ℤ pos m ≡ pos n *ℤ q' +ℤ pos m' = sym e ∙ e' in
    let g : (up q + down q') * n + m ≡ (up q' + down q) * n + m' = omega (arith, ints) in
    let s = same_from_place (up q + down q') m (up q' + down q) m' n l l' g in
    (same_in q q' s.0, s.1)

alone_negsuc : (n : ℕ) (a q q' : ℤ) (m m' : ℕ) → m < suc n → m' < suc n → a ≡ negsuc n *ℤ q +ℤ pos m → a ≡ negsuc n *ℤ q' +ℤ pos m' → (q ≡ q') × (m ≡ m')
alone_negsuc n a q q' m m' l l' e e' =
    let x = times_negsuc n q in
    let x' = times_negsuc n q' in
    let f : negsuc n *ℤ q +ℤ pos m ≡ negsuc n *ℤ q' +ℤ pos m' = sym e ∙ e' in
    let g : (up q' + down q) * suc n + m ≡ (up q + down q') * suc n + m' = omega (arith, ints) in
    let s = same_from_place (up q' + down q) m (up q + down q') m' (suc n) l l' g in
    (same_in q q' (sym s.0), s.1)

alone : (a b q q' : ℤ) (m m' : ℕ) → m < unsigned_abs b → m' < unsigned_abs b → a ≡ b *ℤ q +ℤ pos m → a ≡ b *ℤ q' +ℤ pos m' → (q ≡ q') × (m ≡ m')
alone a (pos n) = alone_pos n a
alone a (negsuc n) = alone_negsuc n a

pub only_division : (a b q r q' r' : ℤ) → IsDivision a b q r → IsDivision a b q' r' → (q ≡ q') × (r ≡ r')
only_division a b q r q' r' d d' =
    let n = natural_part r b a q d in
    let n' = natural_part r' b a q' d' in
    let s = alone a b q q' n.0 n'.0 n.2 n'.2 (d.whole ∙ ap (λ z. b *ℤ q +ℤ z) n.1) (d'.whole ∙ ap (λ z. b *ℤ q' +ℤ z) n'.1) in
    (s.0, n.1 ∙ ap pos s.1 ∙ sym n'.1)

pub division_alone : (a b : ℤ) → b ≢ pos 0 → (q r : ℤ) → IsDivision a b q r → (q ≡ quotient a b) × (r ≡ remainder a b)
division_alone a b h q r d = only_division a b q r (quotient a b) (remainder a b) d (division_law a b h)
