-- Powers of two, and the least of them that is large enough.
use Rattle.std.specs.Prelude.{◌≡◌, ℕ, zero, suc, ◌*◌, ◌^◌, ◌≤◌, cond, nat_lt}

-- n is a power of two
abbrev pub PowerOfTwo : ℕ → Type 0
PowerOfTwo n = (k : ℕ) × (n ≡ 2 ^ k)

-- p doubled until it is not below m, n times at most
unfoldable pub doubled : ℕ → ℕ → ℕ → ℕ
doubled zero p m = p
doubled (suc n) p m = cond (nat_lt p m) (doubled n (p * 2) m) p

-- the least power of two that is not below m: m doublings of 1 are enough
unfoldable pub least_power : ℕ → ℕ
least_power m = doubled m 1 m

-- r is a power of two, is not below m, and no smaller one is
pub record LeastPower (m r : ℕ) : Type 0 where
  pub power : PowerOfTwo r
  pub enough : m ≤ r
  pub least : (j : ℕ) → m ≤ 2 ^ j → r ≤ 2 ^ j
