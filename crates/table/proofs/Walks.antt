-- What the last of a walk is.
use Rattle.std.proofs.Common.{◌≡◌, ℕ, List, None, Option, sym, refl, ap, ◌∙◌}
use Rattle.std.specs.Iterator.{Drains}
use Rattle.std.specs.List.{last_or}
use Rattle.std.proofs.lemmas.List.{map-id}
use Rattle.std.proofs.lemmas.Iterator.{YieldsList}
use Rattle.std.proofs.lemmas.Iterator.Consumers.{YieldsList-end}

-- the last that came is the last of the list that comes
pub last_of : {S : Type 0} {steps : S → Option ℕ → S → Type 0} {s : S} (all : List ℕ) (r : Option ℕ) → (xs : List ℕ) × Drains steps s xs × (r ≡ last_or None xs) → YieldsList steps (λ x. x) s all → r ≡ last_or None all
last_of all r d e =
    let came = YieldsList-end e d.0 d.1.1.0 d.1.1.1 None d.1.0 refl d.1.1.2 in
    d.2 ∙ ap (last_or None) (sym (map-id d.0) ∙ came.0)
