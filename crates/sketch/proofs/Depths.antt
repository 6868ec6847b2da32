-- Shows where the four counters of a hash stand, what raising them one after the other does, and that nothing rises where all are full.
use Rattle.std.proofs.Common.{◌≡◌, ℕ, zero, suc, ◌+◌, ◌-◌, ◌*◌, ◌/◌, ◌%◌, ◌^◌, ◌<◌, ◌≤◌, Bool, false, ◌||◌, ltb, ◌≢◌, List, [], ◌++◌, map, length, get_or, take, drop, set, sym, refl, ap, ◌∙◌, add-one, arith, length-set}
use Rattle.std.proofs.lemmas.Nat.{mul-mod_first}
use lib.Bits.{bit_and, and_mask}
use lib.Seq.{set-get_or}
use Rattle.std.proofs.lemmas.List.{set_past}
use Rattle.std.proofs.lemmas.Bool.Decides.{nat_tests}
use Rattle.std.proofs.lemmas.Grind.{common_steps, elements}
use Rattle.sketch.specs.Counters.{counter, raised}
use Rattle.sketch.specs.Powers.{PowerOfTwo}
use Rattle.sketch.specs.Tables.{place, number, held, estimate, raised_at, raised_all, rises, mixed, spread}
use Rattle.sketch.proofs.Word.{counter_lt, counter_raised_other, raised_full}

-- what the code computes for a place, in a table of a power of two
pub place_is : (n hash seed : ℕ) → PowerOfTwo n → (a : ℕ) → a ≡ (hash + seed) % 2 ^ 64 * seed % 2 ^ 64
    → bit_and ((a + a / 2 ^ 32) % 2 ^ 64) (n - 1) ≡ spread (mixed hash seed) % n
place_is n hash seed p a e = grind (arith, mul-mod_first, and_mask, p)

-- ---- the loops over the depths

unfoldable pub raised_to : List ℕ → ℕ → ℕ → List ℕ
raised_to ws hash zero = ws
raised_to ws hash (suc n) = raised_at (raised_to ws hash n) hash n

unfoldable pub rises_to : List ℕ → ℕ → ℕ → Bool
rises_to ws hash zero = false
rises_to ws hash (suc n) = rises_to ws hash n || ltb (held ws hash n) 15

pub held_lt : (ws : List ℕ) (hash depth : ℕ) → held ws hash depth < 16
unfolding held
held_lt ws hash depth = counter_lt (get_or ws (place (length ws) hash depth) 0) (number hash depth)

pub estimate_le : (ws : List ℕ) (hash : ℕ) → estimate ws hash ≤ 15
unfolding estimate
estimate_le ws hash = omega (arith, held_lt ws hash 0)

pub raised_to_all : (ws : List ℕ) (hash : ℕ) → raised_to ws hash 4 ≡ raised_all ws hash
unfolding raised_to raised_all
raised_to_all ws hash = refl

pub rises_to_all : (ws : List ℕ) (hash : ℕ) → rises_to ws hash 4 ≡ rises ws hash
unfolding rises_to rises
rises_to_all ws hash = refl

-- ---- what one raise does to any counter

pub length_raised_at : (ws : List ℕ) (hash depth : ℕ) → length (raised_at ws hash depth) ≡ length ws
unfolding raised_at
length_raised_at ws hash depth = length-set ws (place (length ws) hash depth) (raised (get_or ws (place (length ws) hash depth) 0) (number hash depth))

pub length_raised_to : (ws : List ℕ) (hash n : ℕ) → length (raised_to ws hash n) ≡ length ws
unfolding raised_to
length_raised_to ws hash zero = refl
length_raised_to ws hash (suc n) = length_raised_at (raised_to ws hash n) hash n ∙ length_raised_to ws hash n

pub length_raised_all : (ws : List ℕ) (hash : ℕ) → length (raised_all ws hash) ≡ length ws
length_raised_all ws hash = ap length (sym (raised_to_all ws hash)) ∙ length_raised_to ws hash 4

-- a counter of another number stays
pub set_raised_other : (ws : List ℕ) (p k q j : ℕ) → j ≢ k → counter (get_or (set ws p (raised (get_or ws p 0) k)) q 0) j ≡ counter (get_or ws q 0) j
set_raised_other ws p k q j n = grind (arith, elements, counter_raised_other, set_past)

pub held_raised_at_other : (ws : List ℕ) (hash i j : ℕ) → j ≢ i → held (raised_at ws hash i) hash j ≡ held ws hash j
unfolding held raised_at number
held_raised_at_other ws hash i j n = grind (arith, length-set, set_raised_other)

pub held_raised_to : (ws : List ℕ) (hash n j : ℕ) → n ≤ j → held (raised_to ws hash n) hash j ≡ held ws hash j
unfolding raised_to
held_raised_to ws hash zero j h = refl
held_raised_to ws hash (suc n) j h =
    let ne : j ≢ n = omega arith in
    let l : n ≤ j = omega arith in
    held_raised_at_other (raised_to ws hash n) hash n j ne ∙ held_raised_to ws hash n j l

-- one turn
pub raised_to_more : (ws : List ℕ) (hash n : ℕ) → raised_to ws hash (n + 1) ≡ raised_at (raised_to ws hash n) hash n
unfolding raised_to
raised_to_more ws hash n = ap (raised_to ws hash) (add-one n)

pub rises_to_more : (ws : List ℕ) (hash n : ℕ) → rises_to ws hash (n + 1) ≡ rises_to ws hash n || ltb (held ws hash n) 15
unfolding rises_to
rises_to_more ws hash n = ap (rises_to ws hash) (add-one n)

-- the code's number of a counter
pub number_is : (hash depth : ℕ) → 4 * bit_and hash 3 + depth ≡ number hash depth
unfolding number
number_is hash depth = ap (λ (x : ℕ). 4 * x + depth) (and_mask hash 2)

-- ---- the loop that halves

pub front_at : (f : ℕ → ℕ) (xs ys : List ℕ) (i : ℕ) → i < length xs → ys ≡ map f (take i xs) ++ drop i xs → get_or ys i 0 ≡ get_or xs i 0
front_at f xs ys i h e = grind (arith, common_steps, elements)

-- ---- without words

pub estimate_nil : (hash : ℕ) → estimate [] hash ≡ 0
unfolding estimate held counter
estimate_nil hash = grind arith

-- ---- nothing rises where all four are 15

pub raised_all_full : (ws : List ℕ) (hash : ℕ) → rises ws hash ≡ false → raised_all ws hash ≡ ws
unfolding raised_all rises raised_at held
raised_all_full ws hash h = grind (arith, nat_tests, raised_full, set-get_or)
