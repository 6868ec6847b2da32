-- Shows that quotients, products and casts of floats that equal fractions are the roundings of those fractions in whole numbers.
use Rattle.std.proofs.Common.{◌≡◌, ℕ, suc, ◌+◌, ◌-◌, ◌*◌, ◌/◌, ◌^◌, ◌<◌, ◌≤◌, true, false, T, eqb, pos, sym, ap, ◌∙◌, subst, subst₂, true≢false, le_trans, le_of_eq, lt_of_le_of_lt, mul-le-mul_right, mul_assoc, suc-mul, mul_comm, div-lt_iff_lt-mul, mul-le-mul, lt_of_mul-lt-mul_right, mul-lt-mul_of_pos_right, mul-pos, one-mul, mul-one, div-le_self, mul_right_comm, div-mul-le_self, mul-div_cancel, mul_left_comm, arith, lit<, lit≤, lt→ltb, ne_eqb}
use native.Mathlib.Nat.{div-div-eq-div-mul, pow-le-pow_right, mul-mul-mul_comm}
use lib.Ieee.{Float, nan, inf, fin, binary64, up, down, round, mul, div, lt, to_unsigned, of_int, size}
use lib.Ieee.Exact.{HasValue}
use lib.Ieee.Fits.{up_pos, down_pos, nearest-le}
use lib.Ieee.Digits.{size-le}
use Rattle.rules.specs.Rounding.{closest, rounded, weighed_size}
use lib.Ieee.Positive.{first_pos}
use lib.Ieee.Scale.{round_same, round_val}
use lib.Ieee.Back.{round_whole}
use lib.Ieee.Nearest.{div_same}

-- the product of two that are not negative
pub mul_by : (x y : Float) (a c b d : ℕ) → 0 < c → 0 < d → HasValue x false a c → HasValue y false b d → mul binary64 x y ≡ round binary64 false (a * b) (c * d)
unfolding mul
mul_by nan y a c b d C D h k = absurd h
mul_by (inf s) y a c b d C D h k = absurd h
mul_by (fin true m e) y a c b d C D h k = absurd (true≢false h.0)
mul_by (fin false m e) nan a c b d C D h k = absurd k
mul_by (fin false m e) (inf t) a c b d C D h k = absurd k
mul_by (fin false m e) (fin true n f) a c b d C D h k = absurd (true≢false k.0)
mul_by (fin false m e) (fin false n f) a c b d C D h k =
    round_same binary64 false (m * up e * (n * up f)) (down e * down f) (a * b) (c * d) (mul-pos (down_pos e) (down_pos f)) (mul-pos C D)
    (mul-mul-mul_comm (m * up e) (n * up f) c d ∙ ap (λ (z : ℕ). z * (n * up f * d)) h.1 ∙ ap (λ (z : ℕ). a * down e * z) k.1 ∙ mul-mul-mul_comm a (down e) b (down f))

-- cross-multiplied: p c = a q and r d = b s give (p s) (c b) = (a d) (r q)
cross : (p q r s a b c d : ℕ) → p * c ≡ a * q → r * d ≡ b * s → p * s * (c * b) ≡ a * d * (r * q)
cross p q r s a b c d h k =
    mul-mul-mul_comm p s c b ∙ ap (λ (z : ℕ). z * (s * b)) h ∙ ap (λ (z : ℕ). a * q * z) (mul_comm s b ∙ sym k) ∙ shuffle
  where
    shuffle : a * q * (r * d) ≡ a * d * (r * q)
    shuffle = mul_assoc a q (r * d) ∙ ap (λ (z : ℕ). a * z) (mul_left_comm q r d ∙ ap (λ (z : ℕ). r * z) (mul_comm q d) ∙ mul_left_comm r d q) ∙ sym (mul_assoc a d (r * q))

-- the quotient of two that are not negative, by one that is not zero
pub div_by : (x y : Float) (a c b d : ℕ) → 0 < c → 0 < d → 0 < b → HasValue x false a c → HasValue y false b d → div binary64 x y ≡ round binary64 false (a * d) (c * b)
unfolding div
div_by nan y a c b d C D B h k = absurd h
div_by (inf s) y a c b d C D B h k = absurd h
div_by (fin true m e) y a c b d C D B h k = absurd (true≢false h.0)
div_by (fin false m e) nan a c b d C D B h k = absurd k
div_by (fin false m e) (inf t) a c b d C D B h k = absurd k
div_by (fin false m e) (fin true n f) a c b d C D B h k = absurd (true≢false k.0)
div_by (fin false m e) (fin false n f) a c b d C D B h k =
    let np : 0 < n = first_pos n (up f) (first_pos (n * up f) d (subst (λ (z : ℕ). 0 < z) (sym k.1) (mul-pos B (down_pos f)))) in
    let no : eqb n 0 ≡ false = ne_eqb n 0 (λ z. omega arith) in
    rw no
    (round_same binary64 false (m * up e * down f) (n * up f * down e) (a * d) (c * b) (mul-pos (mul-pos np (up_pos f)) (down_pos e)) (mul-pos C B)
    (cross (m * up e) (down e) (n * up f) (down f) a b c d h.1 k.1))

-- the whole part of one that is not negative and below 2^64
pub cut_of : (x : Float) (a c : ℕ) → 0 < c → a / c < 2 ^ 64 → HasValue x false a c → to_unsigned 64 x ≡ a / c
unfolding to_unsigned
cut_of nan a c C l h = absurd h
cut_of (inf s) a c C l h = absurd h
cut_of (fin true m e) a c C l h = absurd (true≢false h.0)
cut_of (fin false m e) a c C l h =
    let q : m * up e / down e ≡ a / c = div_same (m * up e) (down e) a c (down_pos e) C h.1 in
    rw q (omega arith)

pub above_minus_one : (x : Float) (a c : ℕ) → HasValue x false a c → T (lt (fin true 1 (pos 0)) x)
unfolding lt
above_minus_one nan a c h = absurd h
above_minus_one (inf s) a c h = absurd h
above_minus_one (fin true m e) a c h = absurd (true≢false h.0)
above_minus_one (fin false m e) a c h = lt→ltb 0 (1 * up (pos 0) * down e + m * up e * down (pos 0)) (omega (arith, down_pos e))

pub below_top : (x : Float) (a c : ℕ) → 0 < c → a < 2 ^ 64 * c → HasValue x false a c → T (lt x (fin false 1 (pos 64)))
unfolding lt
below_top nan a c C l h = absurd h
below_top (inf s) a c C l h = absurd h
below_top (fin true m e) a c C l h = absurd (true≢false h.0)
below_top (fin false m e) a c C l h =
    lt→ltb (m * up e * 1) (1 * 2 ^ 64 * down e)
    (lt_of_mul-lt-mul_right c
    (let s : m * up e * 1 * c ≡ a * down e = ap (λ (z : ℕ). z * c) (mul-one (m * up e)) ∙ h.1 in
    let t : 1 * 2 ^ 64 * down e * c ≡ 2 ^ 64 * c * down e = ap (λ (z : ℕ). z * down e * c) (one-mul (2 ^ 64)) ∙ mul_right_comm (2 ^ 64) (down e) c in
    subst₂ (λ (y z : ℕ). y < z) (sym s) (sym t) (mul-lt-mul_of_pos_right l (down_pos e))))

-- a rounded fraction is hardly above the fraction
pub rounded_le : (a c S : ℕ) → a * 2 ^ 1074 / c < 2 ^ S → rounded a c ≤ a * 2 ^ 1074 / c + 2 ^ (S - 53)
rounded_le a c S h =
    let n = a * 2 ^ 1074 in
    let w = n / c in
    let k = size w - 53 in
    let kl : k ≤ S - 53 = omega (arith, size-le w S h) in
    let p : 2 ^ k ≤ 2 ^ (S - 53) = pow-le-pow_right (omega arith) kl in
    let d : w / 2 ^ k ≡ n / (c * 2 ^ k) = div-div-eq-div-mul n c (2 ^ k) in
    let b : closest n (c * 2 ^ k) ≤ suc (w / 2 ^ k) = subst (λ (z : ℕ). closest n (c * 2 ^ k) ≤ suc z) (sym d) (nearest-le (n / (c * 2 ^ k)) _) in
    let m : closest n (c * 2 ^ k) * 2 ^ k ≤ suc (w / 2 ^ k) * 2 ^ k = mul-le-mul_right (2 ^ k) b in
    let e : suc (w / 2 ^ k) * 2 ^ k ≡ w / 2 ^ k * 2 ^ k + 2 ^ k = suc-mul (w / 2 ^ k) (2 ^ k) in
    let f : w / 2 ^ k * 2 ^ k ≤ w = div-mul-le_self w (2 ^ k) in
    omega (arith, p, m, e, f)

-- `omega` takes no numeral of more than 154 digits, so the unit is a variable here
first_sum : (U x w k q : ℕ) → x ≤ w + k → w ≤ q → q ≤ 2 ^ 44 * U → k ≤ U → x ≤ 2 ^ 45 * U
first_sum U x w k q a b c d = omega arith

second_sum : (U x w k m : ℕ) → x ≤ w + k → w ≤ m → m ≤ 2 ^ 12 * (2 ^ 45 * U) → k ≤ 32 * U → x ≤ 2 ^ 58 * U
second_sum U x w k m a b c d = omega arith

under_top : (U x : ℕ) → 0 < U → x ≤ 2 ^ 58 * U → x < 2 ^ 64 * U
under_top U x h l = omega arith

module _ (entries recorded capacity : ℕ) (he : entries ≤ 2 ^ 12) (hr : recorded ≤ 2 ^ 44) (hp : 0 < capacity) (hc : capacity ≤ 2 ^ 48) where
  pow_pos' : 0 < 2 ^ 1074
  pow_pos' = lit< tt

  -- the quotient is at most 2^44, and rounded hardly more
  first_small : rounded recorded capacity ≤ 2 ^ 45 * 2 ^ 1074
  first_small =
      let q : recorded * 2 ^ 1074 / capacity ≤ recorded * 2 ^ 1074 = div-le_self (recorded * 2 ^ 1074) capacity in
      let t : recorded * 2 ^ 1074 ≤ 2 ^ 44 * 2 ^ 1074 = mul-le-mul_right (2 ^ 1074) hr in
      let w : recorded * 2 ^ 1074 / capacity < 2 ^ 1119 = lt_of_le_of_lt (le_trans q t) (lit< tt) in
      first_sum (2 ^ 1074) (rounded recorded capacity) (recorded * 2 ^ 1074 / capacity) (2 ^ 1066) (recorded * 2 ^ 1074) (rounded_le recorded capacity 1119 w) q t (lit≤ tt)

  second_small : rounded (entries * rounded recorded capacity) (2 ^ 1074) ≤ 2 ^ 58 * 2 ^ 1074
  second_small =
      let m : entries * rounded recorded capacity ≤ 2 ^ 12 * (2 ^ 45 * 2 ^ 1074) = mul-le-mul he first_small in
      let e : entries * rounded recorded capacity * 2 ^ 1074 / 2 ^ 1074 ≤ entries * rounded recorded capacity = le_of_eq (mul-div_cancel (entries * rounded recorded capacity) pow_pos') in
      let w : entries * rounded recorded capacity * 2 ^ 1074 / 2 ^ 1074 < 2 ^ 1132 = lt_of_le_of_lt (le_trans e m) (lit< tt) in
      second_sum (2 ^ 1074) (rounded (entries * rounded recorded capacity) (2 ^ 1074)) (entries * rounded recorded capacity * 2 ^ 1074 / 2 ^ 1074) (2 ^ 1079) (entries * rounded recorded capacity)
      (rounded_le (entries * rounded recorded capacity) (2 ^ 1074) 1132 w) e m (lit≤ tt)

  small : rounded (entries * rounded recorded capacity) (2 ^ 1074) < 2 ^ 64 * 2 ^ 1074
  small = under_top (2 ^ 1074) (rounded (entries * rounded recorded capacity) (2 ^ 1074)) pow_pos' second_small

  pub share : (x y : Float) → x ≡ of_int binary64 (pos recorded) → y ≡ of_int binary64 (pos capacity) → HasValue (div binary64 x y) false (rounded recorded capacity) (2 ^ 1074)
  unfolding of_int
  share x y ex ey =
      let hx : HasValue x false recorded 1 = subst (λ (z : Float). HasValue z false recorded 1) (sym ex) (round_whole binary64 false recorded (omega arith)) in
      let hy : HasValue y false capacity 1 = subst (λ (z : Float). HasValue z false capacity 1) (sym ey) (round_whole binary64 false capacity (omega arith)) in
      let e : div binary64 x y ≡ round binary64 false recorded capacity =
      div_by x y recorded 1 capacity 1 (omega arith) (omega arith) hp hx hy ∙ ap (λ (z : ℕ). round binary64 false z (1 * capacity)) (mul-one recorded) ∙ ap (λ (z : ℕ). round binary64 false recorded z) (one-mul capacity) in
      subst (λ (z : Float). HasValue z false (rounded recorded capacity) (2 ^ 1074)) (sym e) (round_val binary64 recorded capacity (lt_of_le_of_lt first_small (lit< tt)))

  pub product : (x y z : Float) → x ≡ of_int binary64 (pos recorded) → y ≡ of_int binary64 (pos capacity) → z ≡ of_int binary64 (pos entries)
      → HasValue (mul binary64 z (div binary64 x y)) false (rounded (entries * rounded recorded capacity) (2 ^ 1074)) (2 ^ 1074)
  unfolding of_int
  product x y z ex ey ez =
      let hz : HasValue z false entries 1 = subst (λ (v : Float). HasValue v false entries 1) (sym ez) (round_whole binary64 false entries (omega arith)) in
      let e : mul binary64 z (div binary64 x y) ≡ round binary64 false (entries * rounded recorded capacity) (2 ^ 1074) =
      mul_by z (div binary64 x y) entries 1 (rounded recorded capacity) (2 ^ 1074) (omega arith) pow_pos' hz (share x y ex ey)
      ∙ ap (λ (v : ℕ). round binary64 false (entries * rounded recorded capacity) v) (one-mul (2 ^ 1074)) in
      subst (λ (v : Float). HasValue v false (rounded (entries * rounded recorded capacity) (2 ^ 1074)) (2 ^ 1074)) (sym e)
      (round_val binary64 (entries * rounded recorded capacity) (2 ^ 1074) (lt_of_le_of_lt second_small (lit< tt)))

  pub low : (w : Float) → HasValue w false (rounded (entries * rounded recorded capacity) (2 ^ 1074)) (2 ^ 1074) → T (lt (fin true 1 (pos 0)) w)
  low w h = above_minus_one w (rounded (entries * rounded recorded capacity) (2 ^ 1074)) (2 ^ 1074) h

  pub high : (w : Float) → HasValue w false (rounded (entries * rounded recorded capacity) (2 ^ 1074)) (2 ^ 1074) → T (lt w (fin false 1 (pos 64)))
  high w h = below_top w (rounded (entries * rounded recorded capacity) (2 ^ 1074)) (2 ^ 1074) pow_pos' small h

  pub whole : (w : Float) → HasValue w false (rounded (entries * rounded recorded capacity) (2 ^ 1074)) (2 ^ 1074) → to_unsigned 64 w ≡ weighed_size entries recorded capacity
  unfolding weighed_size
  whole w h = cut_of w (rounded (entries * rounded recorded capacity) (2 ^ 1074)) (2 ^ 1074) pow_pos' ((div-lt_iff_lt-mul pow_pos').1 small) h
