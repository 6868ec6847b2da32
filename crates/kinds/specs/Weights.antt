-- What a log weighs.
use Rattle.std.specs.Prelude.{ℕ, ◌+◌, ◌-◌, ◌^◌, min}
use Rattle.kinds.specs.Tags.{filled_bytes}

-- The log's length and its tag's bytes that aren't zero, stopping at 2^32 - 1.
abbrev pub tag_weight : ℕ → ℕ → ℕ
tag_weight tag length = min (length + filled_bytes tag) (2 ^ 32 - 1)
