use Rattle.std.proofs.Common.{◌≡◌, drop}
use Rattle.script.specs.Numerals.{numeral, with_digits}
use Rattle.script.proofs.numbers.number.Given as goal

abbrev pub invariant-loop-b : goal.invariant-loop-b
invariant-loop-b l = numeral l.word ≡ with_digits l.n (drop l.b-index l.word)
