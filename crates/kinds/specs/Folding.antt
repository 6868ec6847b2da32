-- The tag's definitions, which go from the first byte to the last, are the lanes, which go from the last
-- to the first; and from there the laws of folded tags.
use Rattle.std.specs.Prelude.{◌≡◌, ℕ, ◌+◌, ◌-◌, ◌*◌, ◌/◌, ◌%◌, ◌^◌, ◌<◌, ◌≤◌, true, cond, fold}
use Rattle.std.proofs.Common.{sym, ap, ◌∙◌, arith, div-one, eqb-true, eq-eqb, lit<}
use Rattle.std.proofs.Math.Nat.{div-div-eq-div-mul}
use Rattle.std.proofs.lemmas.List.Sums.{count_by-le-length}
use Rattle.std.proofs.lemmas.Bool.Decides.{nat_tests}
use Rattle.kinds.specs.Tags.{tag_byte, tag_bytes, joined, fold_byte, folded_tag, same_tag, filled, filled_bytes}
use Rattle.kinds.specs.Laws.{FoldsEachByte, SameByteByByte, FoldsOnce}
use Rattle.kinds.specs.Lanes.{over_bytes, lanes, lane_sum, lane, lanes_decide}
use Rattle.kinds.specs.Words.{fold_small}

-- ---- definitions and lanes

-- a tag's bytes, gone through from the first on
over_tag : (step : ℕ → ℕ → ℕ) (k : ℕ) → over_bytes step 8 k ≡ fold step 0 (tag_bytes k)
unfolding over_bytes tag_bytes tag_byte
over_tag step k =
    rw (div-div-eq-div-mul k 256 256, div-div-eq-div-mul k (256 ^ 2) 256, div-div-eq-div-mul k (256 ^ 3) 256, div-div-eq-div-mul k (256 ^ 4) 256, div-div-eq-div-mul k (256 ^ 5) 256, div-div-eq-div-mul k (256 ^ 6) 256, div-one k)

pub folded_lanes : (k : ℕ) → lanes fold_byte 8 k ≡ folded_tag k
unfolding lanes folded_tag joined tag_bytes
folded_lanes k = over_tag (λ word b. word * 256 + fold_byte b) k

pub filled_lanes : (k : ℕ) → lane_sum (λ b. cond (filled b) 1 0) 8 k ≡ filled_bytes k
unfolding lane_sum filled_bytes
filled_lanes k = over_tag (λ sum b. sum + cond (filled b) 1 0) k

-- ---- the laws

pub folds_each_byte : FoldsEachByte
unfolding tag_byte
folds_each_byte tag j h =
    let i : 7 - j < 8 = omega arith in
    ap (λ (x : ℕ). x / 256 ^ (7 - j) % 256) (sym (folded_lanes tag)) ∙ lane fold_byte fold_small (7 - j) 8 tag i

-- tags whose bytes fold alike fold to one number
same_folded : (k l : ℕ) → ((j : ℕ) → j < 8 → fold_byte (tag_byte k j) ≡ fold_byte (tag_byte l j)) → folded_tag k ≡ folded_tag l
unfolding folded_tag tag_bytes
same_folded k l e =
    rw (e 0 (lit< tt), e 1 (lit< tt), e 2 (lit< tt), e 3 (lit< tt), e 4 (lit< tt), e 5 (lit< tt), e 6 (lit< tt), e 7 (lit< tt))

pub same_byte_by_byte : SameByteByByte
same_byte_by_byte k l =
    record {
      from_bytes = λ e. eq-eqb (folded_tag k) (folded_tag l) (same_folded k l e);
      to_bytes = λ t j h. sym (folds_each_byte k j h) ∙ ap (λ (x : ℕ). tag_byte x j) (eqb-true (folded_tag k) (folded_tag l) t) ∙ folds_each_byte l j h;
    }

fold_twice : (b : ℕ) → fold_byte (fold_byte b) ≡ fold_byte b
fold_twice b = grind (arith, nat_tests)

pub folds_once : FoldsOnce
folds_once tag = same_folded (folded_tag tag) tag (λ j h. ap fold_byte (folds_each_byte tag j h) ∙ fold_twice (tag_byte tag j))

-- ---- the bytes that aren't zero

pub filled_few : (k : ℕ) → filled_bytes k ≤ 8
unfolding filled_bytes tag_bytes
filled_few k = count_by-le-length filled (tag_bytes k)

fold_fills : (a b : ℕ) → fold_byte a ≡ fold_byte b → ◌≡◌ {A = ℕ} (cond (filled a) 1 0) (cond (filled b) 1 0)
fold_fills a b e = grind (arith, nat_tests)

-- the same tags have as many
pub same_filled : (k l : ℕ) → same_tag k l ≡ true → filled_bytes k ≡ filled_bytes l
same_filled k l t =
    sym (filled_lanes k)
    ∙ lanes_decide fold_byte (λ b. cond (filled b) 1 0) fold_small fold_fills 8 k l (folded_lanes k ∙ eqb-true (folded_tag k) (folded_tag l) t ∙ sym (folded_lanes l))
    ∙ filled_lanes l
