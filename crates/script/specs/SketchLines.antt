-- What a line asks of a sketch.
use Rattle.std.specs.Prelude.{ℕ, cond, List, None, Ok, codes}
use Rattle.std.specs.Str.{bytes_eq}
use Rattle.script.specs.declared.command.Command.TheVariants.{MakeSketch, Sketch}
use Rattle.script.specs.declared.command.SketchCommand.TheVariants.{Open, Count, Estimate}
use Rattle.script.specs.Readings.{Asked, only_number, only_field, asking}

-- `sketch words=N`, `open C`, `count HASH`, `estimate HASH`
abbrev pub sketch_reading : List ℕ → List (List ℕ) → Asked
sketch_reading w ws =
    cond (bytes_eq w (codes "sketch")) (asking (only_field (codes "words=") ws) MakeSketch)
    (cond (bytes_eq w (codes "open")) (asking (only_number ws) (λ n. Sketch (Open n)))
    (cond (bytes_eq w (codes "count")) (asking (only_number ws) (λ n. Sketch (Count n)))
    (cond (bytes_eq w (codes "estimate")) (asking (only_number ws) (λ n. Sketch (Estimate n))) (Ok None))))
