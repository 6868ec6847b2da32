-- What a holder keeps.
use Rattle.std.specs.Prelude.{◌≡◌, ℕ}
use Rattle.index.specs.Meaning.{held_in}
use Rattle.kinds.specs.declared.EntryKind.{Ghosts}
use Rattle.index.specs.declared.kept.Index.{Index}

-- the count is how many cells of the index are held
abbrev pub Counted : {K A B : Type 0} {m : Ghosts K A B} → Index K A B m → ℕ → Type 0
Counted x n = n ≡ held_in x
