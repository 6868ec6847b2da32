-- Nodes that are linked in an order: the state, its order, what it means, and how its links lie.
use Rattle.std.specs.Prelude.{◌≡◌, ℕ, zero, suc, ◌<◌, ◌≤◌, true, List, [], ◌∷◌, length, Some, None, Option}
use Rattle.std.specs.List.{flat_map}
use Rattle.deque.specs.declared.node.Node.{Node}
use Rattle.links.specs.declared.Link.{Link}
use Rattle.links.specs.Places.{is, first, last, has, after, before, distinct}
use Rattle.links.specs.Links.{goes_to, most}
use Rattle.deque.specs.Views.{View, views, next_of, prev_of, linked_of, element_of, linked_count}

-- the lent nodes, the ends of the order, and how many are linked
pub record State (T : Type 0) : Type 0 where
  pub ns : List (View T)
  pub head : Option ℕ
  pub tail : Option ℕ
  pub len : ℕ

-- what the memory says
abbrev pub said : {T : Type 0} → List (Node T) → Link → Link → ℕ → State T
said ns h t n = record { ns = views ns; head = goes_to h; tail = goes_to t; len = n }

-- o is the number of a lent node, if it is one at all
abbrev pub Within : {T : Type 0} → Option ℕ → State T → Type 0
Within o s = (j : ℕ) → is o j ≡ true → j < length s.ns

-- ---- what the state means
-- from a start along `next`, for as many nodes as are linked
abbrev pub walk : {T : Type 0} → List (View T) → ℕ → Option ℕ → List ℕ
walk ns zero s = []
walk ns (suc f) None = []
walk ns (suc f) (Some i) = i ∷ walk ns f (next_of ns i)

-- the linked nodes, front first
abbrev pub order : {T : Type 0} → State T → List ℕ
order s = walk s.ns s.len s.head

-- number i with the element x, where there is one
abbrev pub item_in : {T : Type 0} → ℕ → Option T → List (ℕ × T)
item_in i None = []
item_in i (Some x) = (i, x) ∷ []

-- node i with its element, where it is lent
abbrev pub item : {T : Type 0} → List (View T) → ℕ → List (ℕ × T)
item ns i = item_in i (element_of ns i)

-- the linked nodes with their elements, front first
abbrev pub meaning : {T : Type 0} → State T → List (ℕ × T)
meaning s = flat_map (item s.ns) (order s)

-- ---- how the links lie: for every number j, also of a node that is out (no links, no mark) or not lent
pub record Lies {T : Type 0} (ns : List (View T)) (xs : List ℕ) : Type 0 where
  pub nexts : (j : ℕ) → next_of ns j ≡ after xs j
  pub prevs : (j : ℕ) → prev_of ns j ≡ before xs j
  pub marks : (j : ℕ) → linked_of ns j ≡ has xs j

-- the links lie as xs says, no node stands twice in it, and the ends and the counts are those of xs
pub record Sound {T : Type 0} (s : State T) (xs : List ℕ) : Type 0 where
  pub lies : Lies s.ns xs
  pub apart : distinct xs ≡ true
  pub starts : s.head ≡ first xs
  pub ends : s.tail ≡ last xs
  pub counts : s.len ≡ length xs
  pub total : s.len ≡ linked_count s.ns
  pub small : length s.ns ≤ most

-- what holds of every queue
abbrev pub Kept : {T : Type 0} → List (Node T) → Link → Link → ℕ → Type 0
Kept ns h t n = ∥ Sound (said ns h t n) (order (said ns h t n)) ∥₁
