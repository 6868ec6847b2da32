-- Shows what the runs of bytes at the front of a line have to do with its words.
use Rattle.std.proofs.Common.{◌≡◌, ℕ, suc, ◌-◌, ◌<◌, ◌≤◌, true, false, List, [], ◌∷◌, length, take, drop, sym, refl, ap, ◌∙◌, ⊎_elim, arith, length-drop}
use Rattle.std.proofs.lemmas.List.{take_all, length-take-le}
use Rattle.std.proofs.lemmas.Bool.{cases_Bool}
use Rattle.script.specs.Lines.{blank, before, parted, words}
use Rattle.script.specs.Runs.{leading}

-- the code's `line[n..]`
pub from_on : (n : ℕ) (line : List ℕ) → take (length line - n) (drop n line) ≡ drop n line
from_on n line = take_all (length line - n) (drop n line) (omega (arith, length-drop n line))

-- ---- words

-- blanks in front don't count
pub without_blanks : (line : List ℕ) → words (drop (leading true line) line) ≡ words line
without_blanks [] = refl
without_blanks (b ∷ bs) =
    ⊎_elim
    (λ (e : blank b ≡ true). rw e (without_blanks bs))
    (λ (e : blank b ≡ false). simp e)
    (cases_Bool (blank b))

-- the first word, which may be empty, and those behind it
parted_is : (line : List ℕ) → parted line ≡ (take (leading false line) line, words (drop (leading false line) line))
parted_is [] = refl
parted_is (b ∷ bs) =
    ⊎_elim
    (λ (e : blank b ≡ true). simp e)
    (λ (e : blank b ≡ false). rw e (ap (λ (p : List ℕ × List (List ℕ)). (b ∷ p.0, p.1)) (parted_is bs)))
    (cases_Bool (blank b))

-- behind the blanks there is a word, or nothing
nothing_behind : (line : List ℕ) → leading false (drop (leading true line) line) ≡ 0 → drop (leading true line) line ≡ []
nothing_behind [] h = refl
nothing_behind (b ∷ bs) h =
    ⊎_elim
    (λ (e : blank b ≡ true). rw e (nothing_behind bs (rw e at h)))
    (λ (e : blank b ≡ false). absurd (let z : suc (leading false bs) ≡ 0 = simp e at h in omega arith))
    (cases_Bool (blank b))

before_some : (w : List ℕ) (ws : List (List ℕ)) → 0 < length w → before w ws ≡ w ∷ ws
before_some [] ws h = absurd (omega arith)
before_some (b ∷ bs) ws h = refl

-- a line with no byte behind its blanks has no word, and what is left of it has none either
pub no_word : (line rest : List ℕ) → rest ≡ drop (leading true line) line → leading false rest ≡ 0 → (words line ≡ []) × (rest ≡ [])
no_word line rest e h =
    let n = nothing_behind line (ap (leading false) (sym e) ∙ h) in
    (sym (without_blanks line) ∙ ap words n, e ∙ n)

-- any other has the run behind its blanks for its first word
pub a_word : (line rest : List ℕ) (n : ℕ) → rest ≡ drop (leading true line) line → n ≡ leading false rest → n ≤ length rest → 0 < n
    → words line ≡ take n rest ∷ words (drop n rest)
a_word line rest n er en l pos =
    let some : 0 < length (take n rest) = omega (arith, length-take-le n rest l) in
    sym (without_blanks line) ∙ ap words (sym er) ∙ ap (λ (p : List ℕ × List (List ℕ)). before p.0 p.1) (parted_is rest)
    ∙ ap (λ (m : ℕ). before (take m rest) (words (drop m rest))) (sym en) ∙ before_some (take n rest) (words (drop n rest)) some
