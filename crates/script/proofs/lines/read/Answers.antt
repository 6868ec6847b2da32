use Rattle.std.proofs.Common.{◌≡◌, ℕ, false, List, [], ◌∷◌, Some, sym, ap, ◌∙◌, arith}
use Rattle.std.proofs.lemmas.Grind.{common_steps}
use Rattle.script.specs.Lines.{words, first, others}
use Rattle.script.specs.LineReadings.{line_of, named, asks, comment_word}
use Rattle.script.proofs.lines.read.Goals as goal

-- a line whose first word makes it no comment
by_first : (ws vs : List (List ℕ)) (w : List ℕ) → Some w ≡ first ws → vs ≡ others ws → comment_word w ≡ false → asks (named w vs) ≡ line_of ws
by_first [] vs w e f n = let z : ◌≡◌ {A = ℕ} 0 1 = cc in absurd (let y : ⊥ = omega (arith, z) in y)
by_first (x ∷ ws) vs w e f n =
    let q : w ≡ x = cc in
    rw (ap comment_word (sym q) ∙ n) (ap (λ (y : List (List ℕ)). asks (named w y)) f ∙ ap (λ (y : List ℕ). asks (named y ws)) q)

pub returns-in-Some : goal.returns-in-Some
returns-in-Some c =
    let r : c.map.result ≡ asks c.read_named.result = grind (arith, common_steps) in
    r ∙ ap asks c.read_named.ensures
    ∙ by_first (words c.of-words.result.rest.now) (words c.next.new.self.rest.now) c.in-Some.name.now
    c.in-Some.ensures.steps.0 c.in-Some.ensures.steps.1 (sym c.is_comment.ensures ∙ c.if-not-is_comment.true)
    ∙ ap (λ (x : List ℕ). line_of (words x)) c.of-words.ensures
