-- What a node in memory says: its links as options, its mark, its element.
use Rattle.std.specs.Prelude.{ℕ, suc, Bool, false, cond, List, [], ◌∷◌, map, Some, None, Option}
use Rattle.std.specs.List.{slice_get}
use Rattle.links.specs.Links.{goes_to}
use Rattle.deque.specs.declared.node.Node.{Node}

-- what a node in memory says
pub record View (T : Type 0) : Type 0 where
  pub next : Option ℕ
  pub prev : Option ℕ
  pub linked : Bool
  pub element : T

-- what the node n says
abbrev pub view_of : {T : Type 0} → Node T → View T
view_of n = record { next = goes_to n.next; prev = goes_to n.prev; linked = n.linked; element = n.element }

-- what each of the nodes says
abbrev pub views : {T : Type 0} → List (Node T) → List (View T)
views ns = map view_of ns

-- a node that is out, with the element x
abbrev pub out_with : {T : Type 0} → T → View T
out_with x = record { next = None; prev = None; linked = false; element = x }

-- ---- what stands at a place: nothing past the end
-- the link to the next node
abbrev pub next_in : {T : Type 0} → Option (View T) → Option ℕ
next_in None = None
next_in (Some n) = n.next

-- the link to the node before
abbrev pub prev_in : {T : Type 0} → Option (View T) → Option ℕ
prev_in None = None
prev_in (Some n) = n.prev

-- the mark
abbrev pub linked_in : {T : Type 0} → Option (View T) → Bool
linked_in None = false
linked_in (Some n) = n.linked

-- the element
abbrev pub element_in : {T : Type 0} → Option (View T) → Option T
element_in None = None
element_in (Some n) = Some n.element

-- the node after node j, as its link says
abbrev pub next_of : {T : Type 0} → List (View T) → ℕ → Option ℕ
next_of ns j = next_in (slice_get ns j)

-- the node before node j, as its link says
abbrev pub prev_of : {T : Type 0} → List (View T) → ℕ → Option ℕ
prev_of ns j = prev_in (slice_get ns j)

-- whether node j is marked as linked
abbrev pub linked_of : {T : Type 0} → List (View T) → ℕ → Bool
linked_of ns j = linked_in (slice_get ns j)

-- the element of node j, linked or not
abbrev pub element_of : {T : Type 0} → List (View T) → ℕ → Option T
element_of ns j = element_in (slice_get ns j)

-- how many nodes are marked as linked
abbrev pub linked_count : {T : Type 0} → List (View T) → ℕ
linked_count [] = 0
linked_count (n ∷ ns) = cond n.linked (suc (linked_count ns)) (linked_count ns)
