-- Rounding goes to the nearest whole number, and at a tie to the even one.
use Rattle.std.proofs.Common.{◌≡◌, ℕ, zero, suc, ◌+◌, ◌*◌, ◌/◌, ◌%◌, ◌<◌, ◌≤◌, ◌⊎◌, sym, refl, ap, ◌∙◌, inl, inr, arith}
use Prim.Native.Nat.{compare, Ordering}
use native.Mathlib.Nat as nat
use lib.Dec.{is_le, compare_is_eq}
use lib.Ieee.{nearest}
use Rattle.std.proofs.lemmas.Bool.{leb-true, leb-false, eqb-true, eqb-false}
use Rattle.rules.specs.Laws.{Nearest}

-- a number below 2
either : (n : ℕ) → n < 2 → (n ≡ 0) ⊎ (n ≡ 1)
either zero h = inl refl
either (suc zero) h = inr refl
either (suc (suc n)) h = absurd (omega arith)

-- a quotient q with a remainder m, where both parts of the number are known
half : (q b m a r : ℕ) → a ≡ q * b + m → r ≡ q → m * 2 ≤ b → (r * b * 2 ≤ a * 2 + b) × (a * 2 ≤ r * b * 2 + b)
half q b m a r e s h =
    let f : r * b ≡ q * b = ap (λ (n : ℕ). n * b) s in
    (omega arith, omega arith)

half_up : (q b m a r : ℕ) → a ≡ q * b + m → r ≡ suc q → m < b → b ≤ m * 2 → (r * b * 2 ≤ a * 2 + b) × (a * 2 ≤ r * b * 2 + b)
half_up q b m a r e s l h =
    let f : r * b ≡ q * b + b = ap (λ (n : ℕ). n * b) s ∙ nat.suc-mul q b in
    (omega arith, omega arith)

pub rounds_to_nearest : (a b : ℕ) → 0 < b → Nearest a b (nearest (a / b) (compare (a % b * 2) b))
rounds_to_nearest a b pos = go (compare (a % b * 2) b) refl
  where
    split : a ≡ a / b * b + a % b
    split = sym (ap (λ (n : ℕ). n + a % b) (nat.mul_comm (a / b) b) ∙ nat.div-add-mod a b)

    go : (o : Ordering) → compare (a % b * 2) b ≡ o → Nearest a b (nearest (a / b) o)
    go Ordering.lt e =
        let h = half (a / b) b (a % b) a (a / b) split refl (leb-true (a % b * 2) b (ap is_le e)) in
        record { not_above = h.0; not_below = h.1; even_tie = λ t. absurd (eqb-false (a % b * 2) b (ap compare_is_eq e) t) }
    go Ordering.gt e =
        let up = leb-false (a % b * 2) b (ap is_le e) in
        let h = half_up (a / b) b (a % b) a (suc (a / b)) split refl (nat.mod-lt a pos) (omega arith) in
        record { not_above = h.0; not_below = h.1; even_tie = λ t. absurd (omega arith) }
    go Ordering.eq e =
        let tie = eqb-true (a % b * 2) b (ap compare_is_eq e) in
        let low : a / b % 2 < 2 = nat.mod-lt (a / b) (omega arith) in
        elim (either (a / b % 2) low) [
          | inl z ↦
              let h = half (a / b) b (a % b) a (a / b + a / b % 2) split (omega arith) (omega arith) in
              record { not_above = h.0; not_below = h.1; even_tie = λ t. omega arith }
          | inr z ↦
              let h = half_up (a / b) b (a % b) a (a / b + a / b % 2) split (omega arith) (nat.mod-lt a pos) (omega arith) in
              record { not_above = h.0; not_below = h.1; even_tie = λ t. omega arith }
        ]
