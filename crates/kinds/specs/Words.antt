-- The operations on whole words, lane by lane: the word with capitals folded has each byte folded, and
-- the word with a bit for each byte that isn't zero has as many bits.
use Rattle.std.specs.Prelude.{◌≡◌, ℕ, ◌+◌, ◌*◌, ◌/◌, ◌^◌, ◌<◌, cond, ◌&&◌, bit_and, bit_or, bit_xor, nat_le, refl}
use Rattle.std.proofs.Math.Path.{ap}
use Rattle.std.proofs.Common.{ap₂, ◌∙◌, arith}
use Rattle.std.proofs.lemmas.Nat.{and_block, or_block, xor_block}
use Rattle.std.specs.Int.Count.{ones}
use Rattle.std.proofs.Math.Dec.{lit<}
use Rattle.kinds.specs.Tags.{fold_byte, filled}
use Rattle.kinds.specs.Bytes.{all_below, agree, small}
use Rattle.kinds.specs.Lanes.{lanes, lane_sum, spread, Small, Bytewise, spread_lanes, own_lanes, same_lanes, lanes_op, lanes_quarter, ones_lanes, same_sums}

-- ---- the operations that go byte by byte

ands : Bytewise bit_and
ands = record { none = refl; block = and_block 8 }

ors : Bytewise bit_or
ors = record { none = refl; block = or_block 8 }

xors : Bytewise bit_xor
xors = record { none = refl; block = xor_block 8 }

-- a sum of words is the sum in each lane, and stays in its lane where that is a byte
sums : Bytewise ◌+◌
sums = record { none = refl; block = λ a b r s _ _. let e : a * 256 + r + (b * 256 + s) ≡ (a + b) * 256 + (r + s) = omega arith in e }

-- ---- what they do to one byte

low : ℕ → ℕ
low b = bit_and b 127

-- the highest bit: whether the low bits lie from 65 to 90
between : ℕ → ℕ
unfolding low
between b = bit_xor (low b + 63) (low b + 37)

capital : ℕ → ℕ
unfolding between
capital b = bit_and (bit_and (between b) (bit_xor b 128)) 128

-- what a capital is raised by
rise : ℕ → ℕ
rise b = cond (nat_le 65 b && nat_le b 90) 32 0

-- the highest bit: whether the byte isn't zero
mark : ℕ → ℕ
unfolding low
mark b = bit_and (bit_or (low b + 127) b) 128

capital_is : (b : ℕ) → b < 256 → capital b ≡ 4 * rise b
unfolding capital between low rise all_below
capital_is = agree capital (λ b. 4 * rise b) tt

raised_is : (b : ℕ) → b < 256 → bit_or b (rise b) ≡ fold_byte b
unfolding rise all_below
raised_is = agree (λ b. bit_or b (rise b)) fold_byte tt

marks_is : (b : ℕ) → b < 256 → ones (mark b) ≡ cond (filled b) 1 0
unfolding mark low ones all_below
marks_is = agree (λ b. ones (mark b)) (λ b. cond (filled b) 1 0) tt

pub fold_small : Small fold_byte
unfolding all_below
fold_small = small fold_byte tt

-- ---- the same of a word of eight

-- the highest bit of each byte that is a capital
unfoldable pub capitals : ℕ → ℕ
capitals k =
    bit_and (bit_and (bit_xor (bit_and k 0x7f7f_7f7f_7f7f_7f7f + 0x3f3f_3f3f_3f3f_3f3f) (bit_and k 0x7f7f_7f7f_7f7f_7f7f + 0x2525_2525_2525_2525)) (bit_xor k 0x8080_8080_8080_8080)) 0x8080_8080_8080_8080

module _ (k : ℕ) (h : k < 2 ^ 64) where
  own : k ≡ lanes (λ b. b) 8 k
  own = own_lanes 8 k h

  both : (op : ℕ → ℕ → ℕ) → Bytewise op → (f g : ℕ → ℕ) → Small f → Small g → {x y : ℕ} → x ≡ lanes f 8 k → y ≡ lanes g 8 k → op x y ≡ lanes (λ b. op (f b) (g b)) 8 k
  both op w f g sf sg p q = ap₂ op p q ∙ lanes_op op w f g sf sg 8 k

  lows : bit_and k 0x7f7f_7f7f_7f7f_7f7f ≡ lanes low 8 k
  unfolding low spread
  lows = both bit_and ands (λ b. b) (λ _. 127) (λ b l. l) (λ _ _. lit< tt) own (spread_lanes 127 8 k)

  low_small : Small low
  unfolding low all_below
  low_small = small low tt

  betweens : bit_xor (bit_and k 0x7f7f_7f7f_7f7f_7f7f + 0x3f3f_3f3f_3f3f_3f3f) (bit_and k 0x7f7f_7f7f_7f7f_7f7f + 0x2525_2525_2525_2525) ≡ lanes between 8 k
  unfolding between low spread all_below
  betweens =
      both bit_xor xors (λ b. low b + 63) (λ b. low b + 37) (small (λ b. low b + 63) tt) (small (λ b. low b + 37) tt)
      (both ◌+◌ sums low (λ _. 63) low_small (λ _ _. lit< tt) lows (spread_lanes 63 8 k))
      (both ◌+◌ sums low (λ _. 37) low_small (λ _ _. lit< tt) lows (spread_lanes 37 8 k))

  tops : bit_xor k 0x8080_8080_8080_8080 ≡ lanes (λ b. bit_xor b 128) 8 k
  unfolding spread
  tops = both bit_xor xors (λ b. b) (λ _. 128) (λ b l. l) (λ _ _. lit< tt) own (spread_lanes 128 8 k)

  capitals_are : capitals k ≡ lanes capital 8 k
  unfolding capitals capital between low spread all_below
  capitals_are =
      both bit_and ands (λ b. bit_and (between b) (bit_xor b 128)) (λ _. 128) (small (λ b. bit_and (between b) (bit_xor b 128)) tt) (λ _ _. lit< tt)
      (both bit_and ands between (λ b. bit_xor b 128) (small between tt) (small (λ b. bit_xor b 128) tt) betweens tops)
      (spread_lanes 128 8 k)

  rises_are : capitals k / 4 ≡ lanes rise 8 k
  rises_are = ap (λ (x : ℕ). x / 4) (capitals_are ∙ same_lanes capital (λ b. 4 * rise b) capital_is 8 k) ∙ lanes_quarter rise 8 k

  pub folded_word : bit_or k (capitals k / 4) ≡ lanes fold_byte 8 k
  unfolding rise all_below
  folded_word =
      both bit_or ors (λ b. b) rise (λ b l. l) (small rise tt) own rises_are ∙ same_lanes (λ b. bit_or b (rise b)) fold_byte raised_is 8 k

  pub marked_word : ones (bit_and (bit_or (bit_and k 0x7f7f_7f7f_7f7f_7f7f + 0x7f7f_7f7f_7f7f_7f7f) k) 0x8080_8080_8080_8080) ≡ lane_sum (λ b. cond (filled b) 1 0) 8 k
  unfolding mark low spread all_below
  marked_word =
      ap ones
      (both bit_and ands (λ b. bit_or (low b + 127) b) (λ _. 128) (small (λ b. bit_or (low b + 127) b) tt) (λ _ _. lit< tt)
      (both bit_or ors (λ b. low b + 127) (λ b. b) (small (λ b. low b + 127) tt) (λ b l. l)
      (both ◌+◌ sums low (λ _. 127) low_small (λ _ _. lit< tt) lows (spread_lanes 127 8 k))
      own)
      (spread_lanes 128 8 k))
      ∙ ones_lanes mark (small mark tt) 8 k
      ∙ same_sums (λ b. ones (mark b)) (λ b. cond (filled b) 1 0) marks_is 8 k
