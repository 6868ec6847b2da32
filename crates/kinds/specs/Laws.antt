-- What is certain of folded tags.
use Rattle.std.specs.Prelude.{◌≡◌, ℕ, ◌<◌, true}
use Rattle.kinds.specs.Tags.{tag_byte, fold_byte, folded_tag, same_tag}

-- Each byte of a folded tag is that byte of the tag, folded.
abbrev pub FoldsEachByte : Type 0
FoldsEachByte = (tag j : ℕ) → j < 8 → tag_byte (folded_tag tag) j ≡ fold_byte (tag_byte tag j)

-- Two tags are the same exactly when each byte of one folds to what that byte of the other folds to.
pub record SameBytes (k l : ℕ) : Type 0 where
  pub from_bytes : ((j : ℕ) → j < 8 → fold_byte (tag_byte k j) ≡ fold_byte (tag_byte l j)) → same_tag k l ≡ true
  pub to_bytes : same_tag k l ≡ true → (j : ℕ) → j < 8 → fold_byte (tag_byte k j) ≡ fold_byte (tag_byte l j)

abbrev pub SameByteByByte : Type 0
SameByteByByte = (k l : ℕ) → SameBytes k l

-- Folding a second time changes nothing.
abbrev pub FoldsOnce : Type 0
FoldsOnce = (tag : ℕ) → folded_tag (folded_tag tag) ≡ folded_tag tag
