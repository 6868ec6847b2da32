-- A word is sixteen counters of four bits each: what they hold, one of them raised, all of them halved.
use Rattle.std.specs.Prelude.{ℕ, zero, suc, ◌+◌, ◌*◌, ◌/◌, ◌%◌, ◌^◌, cond, List, [], ◌∷◌, map, nat_lt}

-- the largest number that a counter holds
abbrev pub most : ℕ
most = 15

-- counter k of a word: its bits 4 k to 4 k + 3
unfoldable pub counter : ℕ → ℕ → ℕ
counter w k = w / 2 ^ (4 * k) % 16

-- the word with counter k one higher, unless it is full
unfoldable pub raised : ℕ → ℕ → ℕ
raised w k = cond (nat_lt (counter w k) most) (w + 2 ^ (4 * k)) w

-- the n lowest counters of a word, from counter 0 on
unfoldable pub counters : ℕ → ℕ → List ℕ
counters zero w = []
counters (suc n) w = w % 16 ∷ counters n (w / 16)

-- the word that has these counters, from counter 0 on
unfoldable pub packed : List ℕ → ℕ
packed [] = 0
packed (c ∷ cs) = packed cs * 16 + c

-- the word with each of its sixteen counters halved, rounding down
unfoldable pub halved : ℕ → ℕ
halved w = packed (map (λ c. c / 2) (counters 16 w))

-- how many of these numbers are odd
unfoldable pub odd_ones : List ℕ → ℕ
odd_ones [] = 0
odd_ones (c ∷ cs) = odd_ones cs + c % 2

-- how many of a word's sixteen counters are odd
unfoldable pub odds : ℕ → ℕ
odds w = odd_ones (counters 16 w)
