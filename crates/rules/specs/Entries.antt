-- What a cache holds.
use Rattle.std.specs.Prelude.{ℕ, List, []}
use Rattle.sketch.specs.Sketches.{Sketch, closed}

-- how many cells, and how many words for the sketch, were lent
pub record Sizes : Type 0 where
  pub cells : ℕ
  pub words : ℕ

-- An entry. Its cell is its place in memory, which no other entry has and which stays while it is held.
pub record Entry (Key Value : Type 0) : Type 0 where
  pub cell : ℕ
  pub key : Key
  pub value : Value
  pub weight : ℕ
  pub hash : ℕ
  pub touched : ℕ
  pub written : ℕ
  pub ticket : ℕ

-- A cache's state: the entries, longest untouched first; with a life, their cells, longest unwritten first;
-- the next ticket, the recorded weight, the entry count and the sketch.
pub record State (Key Value : Type 0) : Type 0 where
  pub touch : List (Entry Key Value)
  pub write : List ℕ
  pub next : ℕ
  pub recorded : ℕ
  pub count : ℕ
  pub sketch : Sketch

-- a cache just made
unfoldable pub fresh : {Key Value : Type 0} → State Key Value
fresh = record { touch = []; write = []; next = 1; recorded = 0; count = 0; sketch = closed }
