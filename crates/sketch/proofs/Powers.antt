-- Shows that `least_power` is the least power of two not below a number, and that what `next_power_of_two` promises pins it.
use Rattle.std.proofs.Common.{◌≡◌, ℕ, zero, suc, ◌+◌, ◌*◌, ◌/◌, ◌%◌, ◌^◌, ◌<◌, ◌≤◌, max, ◌==◌, refl, ap, ◌∙◌, subst, ⊎_elim, mul_assoc, pow-suc, arith, pow_pos, pow_mono}
use Rattle.std.proofs.lemmas.Bool.Decides.{nat_tests}
use Rattle.std.proofs.lemmas.Bool.{lt-ltb, le-ltb, cases_lt}
use Rattle.std.proofs.Math.Nat.{mul_right_comm}
use Rattle.std.proofs.lemmas.Nat.{ones_cat, ones_le_self, zero_from_ones}
use Rattle.std.specs.Int.Count.{ones, ones_step}
use Rattle.sketch.specs.declared.meter.Meter.{Meter}
use Rattle.sketch.specs.Powers.{PowerOfTwo, doubled, least_power, LeastPower}

-- powers are in the order of their exponents
pub pow_order : (k j : ℕ) → 2 ^ k < 2 ^ j → 2 ^ k * 2 ≤ 2 ^ j
pow_order k j h = grind (arith, pow-suc 2 k, pow_mono {i = suc k} {j = j}, pow_mono {i = j} {j = k})

below_pow : (m : ℕ) → m ≤ 2 ^ m
below_pow zero = omega arith
below_pow (suc m) = omega (arith, below_pow m, pow-suc 2 m, pow_pos m)

doubled_least : (n k m : ℕ) → m ≤ 2 ^ k * 2 ^ n → ((j : ℕ) → m ≤ 2 ^ j → 2 ^ k ≤ 2 ^ j) → LeastPower m (doubled n (2 ^ k) m)
unfolding doubled
doubled_least zero k m h f = record { power = (k, refl); enough = omega arith; least = f }
doubled_least (suc n) k m h f =
    ⊎_elim
    (λ (l : 2 ^ k < m).
    let e : 2 ^ suc k ≡ 2 ^ k * 2 = pow-suc 2 k in
    let h' : m ≤ 2 ^ suc k * 2 ^ n = omega (arith, h, ap (λ (x : ℕ). 2 ^ k * x) (pow-suc 2 n), mul_assoc (2 ^ k) (2 ^ n) 2, mul_right_comm (2 ^ k) (2 ^ n) 2, ap (λ (x : ℕ). x * 2 ^ n) e) in
    let f' : (j : ℕ) → m ≤ 2 ^ j → 2 ^ suc k ≤ 2 ^ j = λ j q. let s : 2 ^ k < 2 ^ j = omega arith in omega (arith, e, pow_order k j s) in
    rw (lt-ltb (2 ^ k) m l) (subst (λ (x : ℕ). LeastPower m (doubled n x m)) e (doubled_least n (suc k) m h' f')))
    (λ (l : m ≤ 2 ^ k). rw (le-ltb (2 ^ k) m l) (record { power = (k, refl); enough = l; least = f }))
    (cases_lt (2 ^ k) m)

pub least_power_is : (m : ℕ) → LeastPower m (least_power m)
unfolding least_power
least_power_is m = doubled_least m 0 m (omega (arith, below_pow m)) (λ j q. omega (arith, pow_pos j))

-- what `next_power_of_two` promises pins it
pub least_power_unique : (m r : ℕ) → PowerOfTwo r → m ≤ r → r / 2 < max 1 m → r ≡ least_power m
least_power_unique m r p l u = grind (arith, least_power_is m, pow_order, pow_pos)

-- the length of a table, as its meter has it, is a power of two
pub table_power : (n m : ℕ) → n ≡ least_power m → PowerOfTwo n
table_power n m e = let i = (least_power_is m).power in (i.0, e ∙ i.1)

-- the least power of two for m is within t, a power of two that is not below m
pub least_within : (m t : ℕ) → m ≤ t → least_power t ≡ t → least_power m ≤ t
least_within m t h e = grind (arith, least_power_is m, least_power_is t)

-- an open sketch has words, and its sample is small
pub table_some : (m : Meter) → 0 < m.table_len
table_some m = let p = table_power m.table_len (m.sample_size / 10) m.power in omega (arith, pow_pos p.0, p.1)

pub sample_small : (m : Meter) → m.sample_size < 2 ^ 17
sample_small m = let e = (least_power_is (m.sample_size / 10)).enough in let p = m.power in let f = m.few in omega arith

-- ---- one bit set

one_bit : (k : ℕ) → ones (2 ^ k) ≡ 1
unfolding ones
one_bit k = ap ones (let e : 2 ^ k ≡ 1 * 2 ^ k + 0 = omega arith in e) ∙ ones_cat k 1 0 (pow_pos k)

-- a number with one bit set is a power of two; a fuel of n is enough
power_in : (n t : ℕ) → t ≤ n → ones t ≡ 1 → PowerOfTwo t
power_in zero t h e = absurd (let z : t ≡ 0 = omega arith in omega (arith, ones_le_self t))
power_in (suc n) t h e =
    ⊎_elim
    (λ (l : t % 2 < 1).
    let s : ones (t / 2) ≡ 1 = omega (arith, ones_step t) in
    let h' : t / 2 ≤ n = omega (arith, ones_le_self t) in
    let p = power_in n (t / 2) h' s in
    (suc p.0, omega (arith, p.1, pow-suc 2 p.0)))
    (λ (l : 1 ≤ t % 2).
    let s : ones (t / 2) ≡ 0 = omega (arith, ones_step t) in
    let z = zero_from_ones (t / 2) s in
    (0, omega arith))
    (cases_lt (t % 2) 1)

-- `is_power_of_two` says whether a number is its own least power of two
pub power_test : (t : ℕ) → (ones t == 1) ≡ (least_power t == t)
power_test t = grind (arith, nat_tests, least_power_is t, power_in t t, one_bit)
