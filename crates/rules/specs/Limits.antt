-- Where numbers stop, what fits, and how many leave at once.
use Rattle.std.specs.Prelude.{ℕ, ◌+◌, ◌-◌, ◌^◌, min, Bool, true, List, [], take, Some, None, Option, nat_le}

-- the greatest number, at which recorded weight and tickets stop
abbrev pub top : ℕ
top = 2 ^ 64 - 1

-- the latest instant
abbrev pub latest : ℕ
latest = 2 ^ 62

-- a sum that stops at the greatest number
abbrev pub plus : ℕ → ℕ → ℕ
plus a b = min (a + b) top

-- by how much the recorded weight is above the capacity
abbrev pub excess : Option ℕ → ℕ → ℕ
excess None recorded = 0
excess (Some c) recorded = recorded - c

-- whether a newcomer of weight w fits
abbrev pub fits : Option ℕ → ℕ → ℕ → Bool
fits None recorded w = true
fits (Some c) recorded w = nat_le (recorded + w) c

-- whether a weight alone is within the capacity
abbrev pub within : Option ℕ → ℕ → Bool
within None w = true
within (Some c) w = nat_le w c

-- an order of writing is kept only with a life
abbrev pub kept : Option ℕ → List ℕ → List ℕ
kept None ns = []
kept (Some d) ns = ns

-- each pass removes at most so many
abbrev pub batch : {A : Type 0} → List A → List A
batch xs = take 100 xs
