-- Tags: eight bytes in one number, the first byte highest.
use Rattle.std.specs.Prelude.{ℕ, ◌+◌, ◌-◌, ◌*◌, ◌/◌, ◌%◌, ◌^◌, Bool, cond, ◌&&◌, List, [], ◌∷◌, map, fold, count_by, ◌==◌, nat_le, nat_lt}

-- Byte j of a tag, the first at j = 0.
unfoldable pub tag_byte : ℕ → ℕ → ℕ
tag_byte tag j = tag / 256 ^ (7 - j) % 256

-- The bytes of a tag, first to last.
unfoldable pub tag_bytes : ℕ → List ℕ
tag_bytes tag = map (tag_byte tag) (0 ∷ 1 ∷ 2 ∷ 3 ∷ 4 ∷ 5 ∷ 6 ∷ 7 ∷ [])

-- The number that bytes make, the first highest.
unfoldable pub joined : List ℕ → ℕ
joined bytes = fold (λ n b. n * 256 + b) 0 bytes

-- A byte, with a capital (65 to 90) counted as its small letter, 32 higher.
abbrev pub fold_byte : ℕ → ℕ
fold_byte b = cond (nat_le 65 b && nat_le b 90) (b + 32) b

-- A tag with each byte so folded.
unfoldable pub folded_tag : ℕ → ℕ
folded_tag tag = joined (map fold_byte (tag_bytes tag))

-- Whether two tags are the same: when they fold to one number.
abbrev pub same_tag : ℕ → ℕ → Bool
same_tag k l = folded_tag k == folded_tag l

-- Whether a byte isn't zero.
abbrev pub filled : ℕ → Bool
filled b = nat_lt 0 b

-- How many bytes of a tag aren't zero.
unfoldable pub filled_bytes : ℕ → ℕ
filled_bytes tag = count_by filled (tag_bytes tag)
