-- A table of words: the four counters of a hash, the estimate that they give, and the table after an increment and after a halving.
use Rattle.std.specs.Prelude.{ℕ, ◌+◌, ◌*◌, ◌/◌, ◌%◌, ◌^◌, min, Bool, ◌||◌, List, [], ◌∷◌, map, length, sum_by, nat_lt, slice_index, slice_set}
use Rattle.sketch.specs.Counters.{most, counter, raised, halved, odds}

-- ---- where the four counters of a hash stand, one for each depth from 0 to 3

-- the seed of each depth
abbrev pub seeds : List ℕ
seeds = 0xc3a5_c85c_97cb_3127 ∷ 0xb492_b66f_be98_f273 ∷ 0x9ae1_6a3b_2f90_404f ∷ 0xcbf2_9ce4_8422_2325 ∷ []

-- a hash mixed with a seed
abbrev pub mixed : ℕ → ℕ → ℕ
mixed hash seed = (hash + seed) * seed % 2 ^ 64

-- the high half of a mixed hash added to it, so that it counts in the low bits too
abbrev pub spread : ℕ → ℕ
spread a = (a + a / 2 ^ 32) % 2 ^ 64

-- the word of a hash at a depth, in a table of n words
unfoldable pub place : ℕ → ℕ → ℕ → ℕ
place n hash depth = spread (mixed hash (slice_index seeds depth)) % n

-- the counter of a hash at a depth, in that word
unfoldable pub number : ℕ → ℕ → ℕ
number hash depth = 4 * (hash % 4) + depth

-- what the counter of a hash at a depth holds
unfoldable pub held : List ℕ → ℕ → ℕ → ℕ
held ws hash depth = counter (slice_index ws (place (length ws) hash depth)) (number hash depth)

-- ---- reading

-- the estimate of a hash: the least of its four counters
unfoldable pub estimate : List ℕ → ℕ → ℕ
estimate ws hash = min (min (min (held ws hash 0) (held ws hash 1)) (held ws hash 2)) (held ws hash 3)

-- ---- an increment

-- the counter of a hash at a depth raised
unfoldable pub raised_at : List ℕ → ℕ → ℕ → List ℕ
raised_at ws hash depth =
    let p : ℕ = place (length ws) hash depth in
    slice_set ws p (raised (slice_index ws p) (number hash depth))

-- each of the four counters of a hash raised
unfoldable pub raised_all : List ℕ → ℕ → List ℕ
raised_all ws hash = raised_at (raised_at (raised_at (raised_at ws hash 0) hash 1) hash 2) hash 3

-- whether one of the four is not yet full
unfoldable pub rises : List ℕ → ℕ → Bool
rises ws hash = ((nat_lt (held ws hash 0) most || nat_lt (held ws hash 1) most) || nat_lt (held ws hash 2) most) || nat_lt (held ws hash 3) most

-- ---- halving

-- every counter of every word halved, rounding down
unfoldable pub halved_all : List ℕ → List ℕ
halved_all ws = map halved ws

-- how many counters of a table are odd
unfoldable pub odds_all : List ℕ → ℕ
odds_all ws = sum_by odds ws
