-- Shows that the code's shifts and masks on a word do to its counters what the definitions say.
use Rattle.std.proofs.Common.{◌≡◌, ℕ, zero, suc, ◌+◌, ◌*◌, ◌/◌, ◌%◌, ◌^◌, ◌<◌, ◌≤◌, min, ◌≢◌, map, get_or, sym, refl, ap, ◌∙◌, div-one, arith, lit<, pow-add, shr-shr}
use lib.Bits.{bit_and, and_block, and_mask, and_zero_r}
use lib.Count.{ones, ones_cat, ones_step}
use Rattle.std.proofs.lemmas.Nat.{one_shl}
use Rattle.std.proofs.lemmas.Bool.Decides.{nat_tests}
use Rattle.std.proofs.lemmas.Bool.{lt-ltb, le-ltb}
use Rattle.sketch.specs.Counters.{counter, raised, counters, packed, halved, odd_ones, odds}

-- ---- a counter, from the lowest on

pub counter_zero : (w : ℕ) → counter w 0 ≡ w % 16
unfolding counter
counter_zero w = ap (λ (x : ℕ). x % 16) (div-one w)

shift_suc : (k : ℕ) → 2 ^ (4 * suc k) ≡ 16 * 2 ^ (4 * k)
shift_suc k = ap (λ (x : ℕ). 2 ^ x) (omega arith) ∙ pow-add 2 4 (4 * k)

pub counter_suc : (w k : ℕ) → counter w (suc k) ≡ counter (w / 16) k
unfolding counter
counter_suc w k =
    ap (λ (x : ℕ). w / 2 ^ x % 16) (let e : 4 * suc k ≡ 4 + 4 * k = omega arith in e) ∙ ap (λ (x : ℕ). x % 16) (sym (shr-shr w 4 (4 * k)))

pub counter_lt : (w k : ℕ) → counter w k < 16
unfolding counter
counter_lt w k = omega arith

-- ---- one counter up

pub up_same : (k w : ℕ) → counter w k < 15 → counter (w + 2 ^ (4 * k)) k ≡ counter w k + 1
up_same zero w h =
    let a = counter_zero w in
    let b = counter_zero (w + 1) in
    omega arith
up_same (suc k) w h =
    let a = counter_suc w k in
    let i : counter (w / 16) k < 15 = omega arith in
    let s : (w + 2 ^ (4 * suc k)) / 16 ≡ w / 16 + 2 ^ (4 * k) = omega (arith, shift_suc k) in
    counter_suc (w + 2 ^ (4 * suc k)) k ∙ ap (λ (x : ℕ). counter x k) s ∙ up_same k (w / 16) i ∙ ap (λ (x : ℕ). x + 1) (sym a)

pub up_other : (k j w : ℕ) → counter w k < 15 → j ≢ k → counter (w + 2 ^ (4 * k)) j ≡ counter w j
up_other zero zero w h n = absurd (n refl)
up_other zero (suc j) w h n =
    let z = counter_zero w in
    let s : (w + 1) / 16 ≡ w / 16 = omega arith in
    counter_suc (w + 1) j ∙ ap (λ (x : ℕ). counter x j) s ∙ sym (counter_suc w j)
up_other (suc k) zero w h n =
    let a = counter_zero w in
    let b = counter_zero (w + 2 ^ (4 * suc k)) in
    omega (arith, shift_suc k)
up_other (suc k) (suc j) w h n =
    let a = counter_suc w k in
    let i : counter (w / 16) k < 15 = omega arith in
    let s : (w + 2 ^ (4 * suc k)) / 16 ≡ w / 16 + 2 ^ (4 * k) = omega (arith, shift_suc k) in
    counter_suc (w + 2 ^ (4 * suc k)) j ∙ ap (λ (x : ℕ). counter x j) s ∙ up_other k j (w / 16) i (λ e. n (ap suc e)) ∙ sym (counter_suc w j)

pub up_fits : (n k w : ℕ) → k < n → w < 2 ^ (4 * n) → counter w k < 15 → w + 2 ^ (4 * k) < 2 ^ (4 * n)
up_fits zero k w l f h = omega arith
up_fits (suc n) zero w l f h =
    let a = counter_zero w in
    omega (arith, shift_suc n)
up_fits (suc n) (suc k) w l f h =
    let a = counter_suc w k in
    let i : counter (w / 16) k < 15 = omega arith in
    let g : w / 16 < 2 ^ (4 * n) = omega (arith, shift_suc n) in
    let l' : k < n = omega arith in
    omega (arith, shift_suc n, shift_suc k, up_fits n k (w / 16) l' g i)

-- ---- the two masks

sevens : ℕ → ℕ
sevens zero = 0
sevens (suc n) = sevens n * 16 + 7

firsts : ℕ → ℕ
firsts zero = 0
firsts (suc n) = firsts n * 16 + 1

and_sevens : (n w : ℕ) → bit_and (w / 2) (sevens n) ≡ packed (map (λ c. c / 2) (counters n w))
unfolding sevens counters packed
and_sevens zero w = and_zero_r (w / 2)
and_sevens (suc n) w =
    let a : w / 2 ≡ (w / 16 / 2) * 2 ^ 4 + (w / 16 % 2 * 8 + w % 16 / 2) = omega arith in
    let r : w / 16 % 2 * 8 + w % 16 / 2 < 2 ^ 4 = omega arith in
    let m = and_mask (w / 16 % 2 * 8 + w % 16 / 2) 3 in
    let e : (w / 16 % 2 * 8 + w % 16 / 2) % 8 ≡ w % 16 / 2 = omega arith in
    ap (λ (x : ℕ). bit_and x (sevens n * 16 + 7)) a
    ∙ and_block 4 (w / 16 / 2) (sevens n) (w / 16 % 2 * 8 + w % 16 / 2) 7 r (lit< tt)
    ∙ omega (arith, m, e, and_sevens n (w / 16))

-- `(w >> 1) & 0x7777_7777_7777_7777` halves each counter
pub halved_is : (w : ℕ) → bit_and (w / 2) 0x7777_7777_7777_7777 ≡ halved w
unfolding sevens halved
halved_is w = and_sevens 16 w

ones_digit : (r : ℕ) → r < 2 → ones r ≡ r
unfolding ones
ones_digit r h =
    let z : r / 2 ≡ 0 = omega arith in
    let o : ones (r / 2) ≡ 0 = ap ones z in
    omega (arith, ones_step r)

ones_firsts : (n w : ℕ) → ones (bit_and w (firsts n)) ≡ odd_ones (counters n w)
unfolding firsts counters odd_ones ones
ones_firsts zero w = ap ones (and_zero_r w)
ones_firsts (suc n) w =
    let a : w ≡ (w / 16) * 2 ^ 4 + w % 16 = omega arith in
    let r : w % 16 < 2 ^ 4 = omega arith in
    let m : bit_and (w % 16) 1 ≡ w % 16 % 2 = and_mask (w % 16) 1 in
    let l : bit_and (w % 16) 1 < 2 ^ 4 = omega arith in
    let l2 : bit_and (w % 16) 1 < 2 = omega arith in
    ap (λ (x : ℕ). ones (bit_and x (firsts n * 16 + 1))) a
    ∙ ap ones (and_block 4 (w / 16) (firsts n) (w % 16) 1 r (lit< tt))
    ∙ ones_cat 4 (bit_and (w / 16) (firsts n)) (bit_and (w % 16) 1) l
    ∙ omega (arith, m, ones_digit (bit_and (w % 16) 1) l2, ones_firsts n (w / 16))

-- `(w & 0x1111_1111_1111_1111).count_ones()` counts the odd counters
pub odds_is : (w : ℕ) → ones (bit_and w 0x1111_1111_1111_1111) ≡ odds w
unfolding firsts odds
odds_is w = ones_firsts 16 w

odd_ones_le : (n w : ℕ) → odd_ones (counters n w) ≤ n
unfolding counters odd_ones
odd_ones_le zero w = omega arith
odd_ones_le (suc n) w = omega (arith, odd_ones_le n (w / 16))

pub odds_le : (w : ℕ) → odds w ≤ 16
unfolding odds
odds_le w = odd_ones_le 16 w

-- the list of the counters, and the counter of a number
counters_at : (n k w : ℕ) → k < n → get_or (counters n w) k 0 ≡ counter w k
unfolding counters
counters_at zero k w h = omega arith
counters_at (suc n) zero w h = grind (arith, counter_zero)
counters_at (suc n) (suc k) w h = grind (arith, counter_suc, counters_at n k (w / 16))

pub get_or_counters : (w k : ℕ) → k < 16 → get_or (counters 16 w) k 0 ≡ counter w k
get_or_counters w k h = counters_at 16 k w h

-- ---- what halving and raising do to each counter

halves_at : (n k w : ℕ) → k < n → counter (packed (map (λ c. c / 2) (counters n w))) k ≡ counter w k / 2
unfolding counters packed
halves_at zero k w h = omega arith
halves_at (suc n) zero w h = omega (arith, counter_zero w, counter_zero (packed (map (λ c. c / 2) (counters n (w / 16))) * 16 + w % 16 / 2))
halves_at (suc n) (suc k) w h =
    let p : ℕ = packed (map (λ c. c / 2) (counters n (w / 16))) in
    let s : (p * 16 + w % 16 / 2) / 16 ≡ p = omega arith in
    let l : k < n = omega arith in
    counter_suc (p * 16 + w % 16 / 2) k ∙ ap (λ (x : ℕ). counter x k) s ∙ halves_at n k (w / 16) l ∙ ap (λ (x : ℕ). x / 2) (sym (counter_suc w k))

pub counter_halved : (w k : ℕ) → k < 16 → counter (halved w) k ≡ counter w k / 2
unfolding halved
counter_halved w k h = halves_at 16 k w h

pub raised_low : (w k : ℕ) → counter w k < 15 → raised w k ≡ w + 2 ^ (4 * k)
unfolding raised
raised_low w k h = rw (lt-ltb (counter w k) 15 h)

pub raised_full : (w k : ℕ) → 15 ≤ counter w k → raised w k ≡ w
unfolding raised
raised_full w k h = rw (le-ltb (counter w k) 15 h)

pub counter_raised_same : (w k : ℕ) → counter (raised w k) k ≡ min 15 (counter w k + 1)
unfolding raised
counter_raised_same w k = grind (arith, nat_tests, up_same, counter_lt)

pub counter_raised_other : (w k j : ℕ) → j ≢ k → counter (raised w k) j ≡ counter w j
unfolding raised
counter_raised_other w k j n = grind (arith, nat_tests, up_other)

-- ---- the code's `word + (1 << (4 * number))`

pub shl_is : (k : ℕ) → k < 16 → (1 * 2 ^ (4 * k)) % 2 ^ 64 ≡ 2 ^ (4 * k)
shl_is k h = let l : 4 * k < 64 = omega arith in one_shl (4 * k) 64 l

pub raise_fits : (w k : ℕ) → w < 2 ^ 64 → k < 16 → counter w k < 15 → w + (1 * 2 ^ (4 * k)) % 2 ^ 64 < 2 ^ 64
raise_fits w k f h l = omega (arith, shl_is k h, up_fits 16 k w h f l)

pub raise_is : (w k : ℕ) → k < 16 → counter w k < 15 → w + (1 * 2 ^ (4 * k)) % 2 ^ 64 ≡ raised w k
raise_is w k h l = omega (arith, shl_is k h, raised_low w k l)
