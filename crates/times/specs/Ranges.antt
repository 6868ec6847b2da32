-- Which numbers are instants and durations.
use Rattle.std.specs.Prelude.{ℕ, ◌^◌, cond, Ok, Err, Result, nat_le}
use Rattle.times.specs.declared.refusal.Refusal.{Refusal}
use Rattle.times.specs.declared.refusal.Refusal.TheVariants.{BeyondRange}

-- A number of at most 2^62, or its refusal.
abbrev pub in_range : ℕ → Result ℕ Refusal
in_range n = cond (nat_le n (2 ^ 62)) (Ok n) (Err BeyondRange)

-- An outcome with the number in place of what was made from it. What is made has a number and a
-- bound on it, and nothing else, so that the number is all of it.
abbrev pub numbered : {Made : Type 0} → (Made → ℕ) → Result Made Refusal → Result ℕ Refusal
numbered number (Ok made) = Ok (number made)
numbered number (Err why) = Err why
