-- Words as lanes of bytes. `lanes f n k` is the word whose n lowest bytes are those of k, each under f.
-- Shown: an operation on words that goes byte by byte is that operation in each lane; a word is its own
-- lanes; the bits set in lanes are counted lane by lane; each lane can be read off again.
use Rattle.std.specs.Prelude.{◌≡◌, ℕ, zero, suc, ◌+◌, ◌*◌, ◌/◌, ◌%◌, ◌^◌, ◌<◌, refl}
use Rattle.std.proofs.Common.{sym, ap, ap₂, ◌∙◌, arith, pow-suc, mul_comm, div-one}
use Rattle.std.proofs.Math.Nat.{div-div-eq-div-mul}
use Rattle.std.specs.Int.Count.{ones}
use Rattle.std.proofs.lemmas.Nat.{ones_cat}

-- the n lowest bytes of k, gone through from the highest to the lowest
unfoldable pub over_bytes : (ℕ → ℕ → ℕ) → ℕ → ℕ → ℕ
over_bytes step zero k = 0
over_bytes step (suc n) k = step (over_bytes step n (k / 256)) (k % 256)

-- the n lowest bytes of k, each under f, put together again
unfoldable pub lanes : (ℕ → ℕ) → ℕ → ℕ → ℕ
lanes f n k = over_bytes (λ word b. word * 256 + f b) n k

-- the sum of f over the n lowest bytes of k
unfoldable pub lane_sum : (ℕ → ℕ) → ℕ → ℕ → ℕ
lane_sum f n k = over_bytes (λ sum b. sum + f b) n k

-- one byte, n times
unfoldable pub spread : ℕ → ℕ → ℕ
spread b zero = 0
spread b (suc n) = spread b n * 256 + b

-- f takes bytes to bytes
abbrev pub Small : (ℕ → ℕ) → Type 0
Small f = (b : ℕ) → b < 256 → f b < 256

last : (k : ℕ) → k % 256 < 256
last k = omega arith

-- ---- words that are lanes

pub spread_lanes : (b n k : ℕ) → spread b n ≡ lanes (λ _. b) n k
unfolding spread lanes over_bytes
spread_lanes b zero k = refl
spread_lanes b (suc n) k = ap (λ (x : ℕ). x * 256 + b) (spread_lanes b n (k / 256))

pub own_lanes : (n k : ℕ) → k < 256 ^ n → k ≡ lanes (λ b. b) n k
unfolding lanes over_bytes
own_lanes zero k h = omega arith
own_lanes (suc n) k h =
    let p = pow-suc 256 n in
    let l : k / 256 < 256 ^ n = omega arith in
    omega (arith, own_lanes n (k / 256) l)

-- steps that agree on every byte come to the same
same_over : (s t : ℕ → ℕ → ℕ) → ((a b : ℕ) → b < 256 → s a b ≡ t a b) → (n k : ℕ) → over_bytes s n k ≡ over_bytes t n k
unfolding over_bytes
same_over s t e zero k = refl
same_over s t e (suc n) k = ap (λ (x : ℕ). s x (k % 256)) (same_over s t e n (k / 256)) ∙ e (over_bytes t n (k / 256)) (k % 256) (last k)

pub same_lanes : (f g : ℕ → ℕ) → ((b : ℕ) → b < 256 → f b ≡ g b) → (n k : ℕ) → lanes f n k ≡ lanes g n k
unfolding lanes
same_lanes f g e = same_over (λ word b. word * 256 + f b) (λ word b. word * 256 + g b) (λ word b h. ap (λ (x : ℕ). word * 256 + x) (e b h))

pub same_sums : (f g : ℕ → ℕ) → ((b : ℕ) → b < 256 → f b ≡ g b) → (n k : ℕ) → lane_sum f n k ≡ lane_sum g n k
unfolding lane_sum
same_sums f g e = same_over (λ sum b. sum + f b) (λ sum b. sum + g b) (λ sum b h. ap (λ (x : ℕ). sum + x) (e b h))

-- ---- operations in lanes

-- the operation goes byte by byte: nothing passes from a byte to the rest
pub record Bytewise (op : ℕ → ℕ → ℕ) : Type 0 where
  pub none : op 0 0 ≡ 0
  pub block : (a b r s : ℕ) → r < 256 → s < 256 → op (a * 256 + r) (b * 256 + s) ≡ op a b * 256 + op r s

pub lanes_op : (op : ℕ → ℕ → ℕ) → Bytewise op → (f g : ℕ → ℕ) → Small f → Small g → (n k : ℕ) → op (lanes f n k) (lanes g n k) ≡ lanes (λ b. op (f b) (g b)) n k
unfolding lanes over_bytes
lanes_op op w f g sf sg zero k = w.none
lanes_op op w f g sf sg (suc n) k =
    w.block (lanes f n (k / 256)) (lanes g n (k / 256)) (f (k % 256)) (g (k % 256)) (sf (k % 256) (last k)) (sg (k % 256) (last k))
    ∙ ap (λ (x : ℕ). x * 256 + op (f (k % 256)) (g (k % 256))) (lanes_op op w f g sf sg n (k / 256))

lanes_times_four : (f : ℕ → ℕ) (n k : ℕ) → lanes (λ b. 4 * f b) n k ≡ 4 * lanes f n k
unfolding lanes over_bytes
lanes_times_four f zero k = refl
lanes_times_four f (suc n) k = omega (arith, lanes_times_four f n (k / 256))

-- a shift by two bits, where the two lowest of each lane are clear
pub lanes_quarter : (f : ℕ → ℕ) (n k : ℕ) → lanes (λ b. 4 * f b) n k / 4 ≡ lanes f n k
lanes_quarter f n k = omega (arith, lanes_times_four f n k)

pub ones_lanes : (f : ℕ → ℕ) → Small f → (n k : ℕ) → ones (lanes f n k) ≡ lane_sum (λ b. ones (f b)) n k
unfolding lanes lane_sum ones over_bytes
ones_lanes f s zero k = refl
ones_lanes f s (suc n) k =
    ones_cat 8 (lanes f n (k / 256)) (f (k % 256)) (s (k % 256) (last k))
    ∙ ap (λ (x : ℕ). x + ones (f (k % 256))) (ones_lanes f s n (k / 256))

-- ---- lanes read again

byte_next : (k i : ℕ) → k / 256 ^ suc i ≡ k / 256 / 256 ^ i
byte_next k i = ap (λ (x : ℕ). k / x) (pow-suc 256 i ∙ mul_comm (256 ^ i) 256) ∙ sym (div-div-eq-div-mul k 256 (256 ^ i))

pub lane : (f : ℕ → ℕ) → Small f → (i n k : ℕ) → i < n → lanes f n k / 256 ^ i % 256 ≡ f (k / 256 ^ i % 256)
unfolding lanes over_bytes
lane f s i zero k h = absurd (omega arith)
lane f s zero (suc n) k h =
    ap (λ (x : ℕ). x % 256) (div-one (lanes f n (k / 256) * 256 + f (k % 256)))
    ∙ (let l = s (k % 256) (last k) in let e : (lanes f n (k / 256) * 256 + f (k % 256)) % 256 ≡ f (k % 256) = omega arith in e)
    ∙ ap (λ (x : ℕ). f (x % 256)) (sym (div-one k))
lane f s (suc i) (suc n) k h =
    let l = s (k % 256) (last k) in
    let e : (lanes f n (k / 256) * 256 + f (k % 256)) / 256 ≡ lanes f n (k / 256) = omega arith in
    let i' : i < n = omega arith in
    ap (λ (x : ℕ). x % 256) (byte_next (lanes f n (k / 256) * 256 + f (k % 256)) i)
    ∙ ap (λ (x : ℕ). x / 256 ^ i % 256) e
    ∙ lane f s i n (k / 256) i'
    ∙ ap (λ (x : ℕ). f (x % 256)) (sym (byte_next k i))

digits : (x y d e : ℕ) → d < 256 → e < 256 → x * 256 + d ≡ y * 256 + e → (x ≡ y) × (d ≡ e)
digits x y d e hd he q = (omega arith, omega arith)

-- what the lanes decide of each byte, they decide of the sum
pub lanes_decide : (f g : ℕ → ℕ) → Small f → ((a b : ℕ) → f a ≡ f b → g a ≡ g b) → (n k l : ℕ) → lanes f n k ≡ lanes f n l → lane_sum g n k ≡ lane_sum g n l
unfolding lanes lane_sum over_bytes
lanes_decide f g s d zero k l e = refl
lanes_decide f g s d (suc n) k l e =
    let q = digits (lanes f n (k / 256)) (lanes f n (l / 256)) (f (k % 256)) (f (l % 256)) (s (k % 256) (last k)) (s (l % 256) (last l)) e in
    ap₂ (λ (x y : ℕ). x + y) (lanes_decide f g s d n (k / 256) (l / 256) q.0) (d (k % 256) (l % 256) q.1)
