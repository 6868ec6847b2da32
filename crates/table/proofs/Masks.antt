-- The remainder by a power of two is a mask; a number that shares no digit with the one below it is a power.
use Rattle.std.proofs.Common.{◌≡◌, ℕ, zero, suc, ◌+◌, ◌-◌, ◌*◌, ◌/◌, ◌%◌, ◌^◌, ◌<◌, ◌≤◌, min, sym, ap, ◌∙◌, inl, inr, pow-suc, arith}
use lib.Bits.{bit_and, and_step, and_self, and_mask}
use Rattle.std.proofs.lemmas.Bool.{cases_eq}

-- n is a power of two, found by halving; f bounds the halvings
power : (f n : ℕ) → n ≤ f → 0 < n → bit_and n (n - 1) ≡ 0 → (k : ℕ) × (n ≡ 2 ^ k)
power zero n l p e = absurd (omega arith)
power (suc f) n l p e =
    elim (cases_eq (n % 2) 0) [
      | inl even ↦ twice even (power f (n / 2) (omega arith) (omega arith) (below even))
      | inr odd ↦ (0, one odd)
    ]
  where
    step : bit_and (n / 2) ((n - 1) / 2) * 2 + min (n % 2) ((n - 1) % 2) ≡ 0
    step = sym (and_step n (n - 1)) ∙ e

    below : n % 2 ≡ 0 → bit_and (n / 2) (n / 2 - 1) ≡ 0
    below even =
        let h : (n - 1) / 2 ≡ n / 2 - 1 = omega arith in
        let z : bit_and (n / 2) ((n - 1) / 2) ≡ 0 = let y = step in omega arith in
        ap (bit_and (n / 2)) (sym h) ∙ z

    one : (n % 2 ≡ 0 → ⊥) → n ≡ 2 ^ 0
    one odd =
        let h : (n - 1) / 2 ≡ n / 2 = omega arith in
        let z : bit_and (n / 2) ((n - 1) / 2) ≡ 0 = let y = step in omega arith in
        let w : n / 2 ≡ 0 = sym (and_self (n / 2)) ∙ ap (bit_and (n / 2)) (sym h) ∙ z in
        omega arith

    twice : n % 2 ≡ 0 → (k : ℕ) × (n / 2 ≡ 2 ^ k) → (k : ℕ) × (n ≡ 2 ^ k)
    twice even r =
        let q = r.1 in
        let d : n ≡ n / 2 * 2 = omega arith in
        (suc r.0, d ∙ ap (λ (x : ℕ). x * 2) q ∙ sym (pow-suc 2 r.0))

-- so masking by n - 1 is the remainder by n
pub masked : (a n : ℕ) → 0 < n → bit_and n (n - 1) ≡ 0 → bit_and a (n - 1) ≡ a % n
masked a n p e =
    let r = power n n (omega arith) p e in
    let q = r.1 in
    ap (λ (x : ℕ). bit_and a (x - 1)) q ∙ and_mask a r.0 ∙ ap (λ (x : ℕ). a % x) (sym q)
