-- Rounding to 53 significant bits, in whole numbers.
use Rattle.std.specs.Prelude.{ℕ, ◌-◌, ◌*◌, ◌/◌, ◌%◌, ◌^◌}
use Prim.Native.Nat.{compare}
use Rattle.std.specs.Float.Ieee.{size, nearest}

-- a / b to the nearest whole number, a tie to the even one
abbrev pub closest : ℕ → ℕ → ℕ
closest a b = nearest (a / b) (compare (a % b * 2) b)

-- how many binary digits of a whole part are more than 53
abbrev pub spare_bits : ℕ → ℕ → ℕ
spare_bits a c = size (a / c) - 53

-- a / c rounded to 53 significant bits, in units of 1 / 2^1074
abbrev pub rounded : ℕ → ℕ → ℕ
rounded a c = closest (a * 2 ^ 1074) (c * 2 ^ spare_bits (a * 2 ^ 1074) c) * 2 ^ spare_bits (a * 2 ^ 1074) c

-- recorded by capacity, rounded; times the entries, rounded; the fraction dropped
unfoldable pub weighed_size : ℕ → ℕ → ℕ → ℕ
weighed_size entries recorded capacity = rounded (entries * rounded recorded capacity) (2 ^ 1074) / 2 ^ 1074
