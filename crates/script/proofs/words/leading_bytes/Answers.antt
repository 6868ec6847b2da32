use Rattle.std.proofs.Common.{rules, arith, ◌≡◌, ℕ, suc, ◌+◌, ◌≤◌, Bool, true, false, not, cond, position, Option, Some, None, List, length, nat_lt, sym, ◌∙◌, ap, refl}
use Rattle.std.proofs.lemmas.Grind.{common_steps}
use Rattle.std.proofs.lemmas.Iterator.Search.{position_from_yields_List}
use Rattle.std.proofs.lemmas.Iterator.{YieldsList-from_slice}
use Rattle.std.proofs.lemmas.List.Recursion.{is_position_or_len}
use Rattle.std.specs.List.{position_or_len}
use Rattle.std.specs.Option.{unwrap_or}
use Rattle.std.proofs.lemmas.List.Sums.{prefix_len-le-length}
use borrow.Author.Tests.{tests}
use mathlib.Core.Bool.{beq}
use Rattle.script.specs.Lines.{blank}
use Rattle.script.specs.Runs.{as_asked, leading}
use Rattle.script.proofs.words.leading_bytes.Goals as goal

-- the code's test
abbrev ends : Bool → ℕ → Bool
ends k b = not (beq (blank b) k)

one_more : (k t : Bool) (n : ℕ) → cond (as_asked k t) (suc n) 0 ≡ cond (not (beq t k)) 0 (1 + n)
one_more true true n = omega arith
one_more true false n = refl
one_more false true n = refl
one_more false false n = omega arith

-- the run ends where the first byte passes the test
leading_is : (k : Bool) (line : List ℕ) → leading k line ≡ position_or_len (ends k) line
leading_is k = is_position_or_len (leading k) (ends k) refl (λ b bs. one_more k (blank b) (leading k bs))

-- the place that is found, or the length
found : (n m : ℕ) → n ≤ m → unwrap_or (cond (nat_lt n m) (Some n) None) m ≡ n
found n m h = grind (arith, common_steps)

pub returns-clause-is : goal.returns-clause-is
returns-clause-is c =
    let e : c.position.result ≡ position (ends c.args.blanks) c.args.line.now =
    position_from_yields_List (ends c.args.blanks) _ _ _ c.position.ensures.ran (YieldsList-from_slice c.args.line.now cc) (λ x b q h. search (rules, tests)) in
    c.unwrap_or.ensures ∙ ap (λ (o : Option ℕ). unwrap_or o (length c.args.line.now)) e
    ∙ found (position_or_len (ends c.args.blanks) c.args.line.now) (length c.args.line.now) (prefix_len-le-length _ c.args.line.now)
    ∙ sym (leading_is c.args.blanks c.args.line.now)
