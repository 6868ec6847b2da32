use Rattle.std.proofs.Common.{◌≡◌, ℕ, ◌-◌, ◌<◌, ◌≤◌, true, false, List, length, take, drop, Some, None, sym, ap, ◌∙◌, arith}
use lib.Seq.{drop-nil}
use Rattle.script.specs.Lines.{words, first, others}
use Rattle.script.specs.Runs.{leading}
use Rattle.script.proofs.Fronts.{from_on, no_word, a_word}
use Rattle.script.proofs.words.WordsIterator.next.Goals as goal

-- the code's `line[from..]` and what is left of it: f blanks, then n other bytes
abbrev behind : ℕ → List ℕ → List ℕ
behind f line = take (length line - f) (drop f line)

behind_is : (f n : ℕ) (line : List ℕ) → f ≡ leading true line → n ≡ leading false (behind f line) → (behind f line ≡ drop (leading true line) line) × (n ≡ leading false (drop (leading true line) line))
behind_is f n line ef en =
    let e : behind f line ≡ drop (leading true line) line = from_on f line ∙ ap (λ (x : ℕ). drop x line) ef in
    (e, en ∙ ap (leading false) e)

none_left : (f n : ℕ) (line : List ℕ) → f ≡ leading true line → n ≡ leading false (behind f line) → n ≡ 0
    → (None ≡ first (words line)) × (words (behind n (behind f line)) ≡ others (words line))
none_left f n line ef en z =
    let b = behind_is f n line ef en in
    let w = no_word line (behind f line) b.0 (sym en ∙ z) in
    (rw w.0, rw w.0 (ap words (from_on n (behind f line) ∙ ap (drop n) w.1 ∙ drop-nil n)))

pub returns-then-to-eq0-clause-steps : goal.returns-then-to-eq0-clause-steps
returns-then-to-eq0-clause-steps c =
    none_left c.leading_bytes-from.result c.leading_bytes-to.result c.args.self.now.rest.now c.leading_bytes-from.ensures.is c.leading_bytes-to.ensures.is c.if-to-eq0.true

some_left : (f n : ℕ) (line : List ℕ) → f ≡ leading true line → n ≡ leading false (behind f line) → n ≤ length (behind f line) → 0 < n
    → (Some (take (n - 0) (behind f line)) ≡ first (words line)) × (words (behind n (behind f line)) ≡ others (words line))
some_left f n line ef en l pos =
    let b = behind_is f n line ef en in
    let w = a_word line (behind f line) n b.0 en l pos in
    let z : n - 0 ≡ n = omega arith in
    (rw (w, z), rw w (ap words (from_on n (behind f line))))

pub returns-else-to-eq0-clause-steps : goal.returns-else-to-eq0-clause-steps
returns-else-to-eq0-clause-steps c =
    let pos : 0 < c.leading_bytes-to.result = omega arith in
    some_left c.leading_bytes-from.result c.leading_bytes-to.result c.args.self.now.rest.now c.leading_bytes-from.ensures.is c.leading_bytes-to.ensures.is c.leading_bytes-to.ensures.within pos
