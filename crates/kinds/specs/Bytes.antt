-- A fact about each of the 256 bytes, shown by one test that computes: `at_byte f tt b h` is the test f
-- passed at the byte b.
use Rattle.std.specs.Prelude.{◌≡◌, ℕ, zero, suc, ◌<◌, Bool, true, false, T, nat_eq, nat_lt}
use Rattle.std.proofs.Common.{subst, ⊎_elim, arith, eqb→eq, ltb→lt}
use Rattle.std.proofs.lemmas.Bool.{cases_lt}

both : Bool → Bool → Bool
both true b = b
both false b = false

both_left : (a b : Bool) → T (both a b) → T a
unfolding both
both_left true b t = tt
both_left false b t = t

both_right : (a b : Bool) → T (both a b) → T b
unfolding both
both_right true b t = t
both_right false b t = absurd t

-- the test passes at each number below n
unfoldable pub all_below : ℕ → (ℕ → Bool) → Bool
unfolding both
all_below zero f = true
all_below (suc n) f = both (f n) (all_below n f)

pub at_below : (n : ℕ) (f : ℕ → Bool) → T (all_below n f) → (b : ℕ) → b < n → T (f b)
unfolding all_below both
at_below zero f t b h = absurd (omega arith)
at_below (suc n) f t b h =
    ⊎_elim
    (λ l. at_below n f (both_right (f n) (all_below n f) t) b l)
    (λ g. let e : n ≡ b = omega arith in subst (λ (x : ℕ). T (f x)) e (both_left (f n) (all_below n f) t))
    (cases_lt b n)

-- two functions agree on every byte
pub agree : (f g : ℕ → ℕ) → T (all_below 256 (λ b. nat_eq (f b) (g b))) → (b : ℕ) → b < 256 → f b ≡ g b
agree f g t b h = eqb→eq (f b) (g b) (at_below 256 (λ b. nat_eq (f b) (g b)) t b h)

-- a function takes every byte to a byte
pub small : (f : ℕ → ℕ) → T (all_below 256 (λ b. nat_lt (f b) 256)) → (b : ℕ) → b < 256 → f b < 256
small f t b h = ltb→lt (f b) 256 (at_below 256 (λ b. nat_lt (f b) 256) t b h)
