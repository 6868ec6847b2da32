-- What a queue holds, and what each call answers and makes of it.
use Rattle.std.specs.Prelude.{◌≡◌, ℕ, ◌<◌, Bool, false, cond, not, true, List, [], ◌∷◌, ◌++◌, map, length, Some, None, Ok, Err, Option, Result, ◌==◌, nat_lt}
use Rattle.deque.specs.declared.Deque.{Deque}
use Rattle.deque.specs.declared.refusal.Refusal.{Refusal}
use Rattle.deque.specs.declared.refusal.Refusal.TheVariants.{NotLinked, NotFree}
use Rattle.links.specs.Places.{has, after}
use Rattle.links.specs.Links.{goes_to}
use Rattle.std.specs.List.{slice_get}
use Rattle.deque.specs.declared.node.Node.{Node}
use Rattle.deque.specs.Views.{View, view_of, element_of}
use Rattle.deque.specs.Chain.{State, said, meaning}

-- what the memory says
abbrev pub state : {T : Type 0} → Deque T → State T
state d = said d.nodes.now d.head d.tail d.len

-- the linked nodes with their elements, front first
abbrev pub items : {T : Type 0} → Deque T → List (ℕ × T)
items d = meaning (state d)

-- the lent nodes as they lie
abbrev pub nodes : {T : Type 0} → Deque T → List (View T)
nodes d = (state d).ns

-- how many nodes are lent
abbrev pub lent : {T : Type 0} → Deque T → ℕ
lent d = length (nodes d)

-- the element of node j, linked or not
abbrev pub value_at : {T : Type 0} → Deque T → ℕ → Option T
value_at d j = element_of (nodes d) j

-- whose nodes these are
abbrev pub lender : {T : Type 0} → Deque T → ℕ
lender d = d.nodes.ghost_name

-- ---- on items
-- the node numbers, front first
abbrev pub places : {T : Type 0} → List (ℕ × T) → List ℕ
places ps = map (λ p. p.0) ps

-- without node i
abbrev pub dropped : {T : Type 0} → ℕ → List (ℕ × T) → List (ℕ × T)
dropped i [] = []
dropped i (p ∷ ps) = cond (i == p.0) ps (p ∷ dropped i ps)

-- with node i and its element x behind all others
abbrev pub pushed : {T : Type 0} → List (ℕ × T) → ℕ → T → List (ℕ × T)
pushed ps i x = ps ++ (i, x) ∷ []

-- the first item, if there is one
abbrev pub front : {T : Type 0} → List (ℕ × T) → Option (ℕ × T)
front [] = None
front (p ∷ ps) = Some p

-- all but the front
abbrev pub rest : {T : Type 0} → List (ℕ × T) → List (ℕ × T)
rest [] = []
rest (p ∷ ps) = ps

-- the element of node i
abbrev pub found : {T : Type 0} → ℕ → List (ℕ × T) → Option T
found i [] = None
found i (p ∷ ps) = cond (i == p.0) (Some p.1) (found i ps)

-- the same order, with x at node i
abbrev pub replaced : {T : Type 0} → ℕ → T → List (ℕ × T) → List (ℕ × T)
replaced i x [] = []
replaced i x (p ∷ ps) = (p.0, cond (i == p.0) x p.1) ∷ replaced i x ps

-- the item of node i, if it has one
abbrev pub entry : {T : Type 0} → ℕ → List (ℕ × T) → List (ℕ × T)
entry i [] = []
entry i (p ∷ ps) = cond (i == p.0) (p ∷ []) (entry i ps)

-- node i behind all others
abbrev pub moved : {T : Type 0} → ℕ → List (ℕ × T) → List (ℕ × T)
moved i ps = dropped i ps ++ entry i ps

-- whether node i can be pushed where n nodes are lent: it is lent and stands nowhere
abbrev pub free : {T : Type 0} → ℕ → List (ℕ × T) → ℕ → Bool
free n ps i = cond (nat_lt i n) (not (has (places ps) i)) false

-- ---- answers
-- of a call that wants node i linked
abbrev pub when_linked : {T : Type 0} → Deque T → ℕ → Result (Unit {0}) Refusal
when_linked d i = cond (has (places (items d)) i) (Ok tt) (Err NotLinked)

-- of a push of node i
abbrev pub when_pushed : {T : Type 0} → Deque T → ℕ → Result (Unit {0}) Refusal
when_pushed d i = cond (free (lent d) (items d) i) (Ok tt) (Err NotFree)

-- what stands behind node i
abbrev pub next_answer : {T : Type 0} → Deque T → ℕ → Result (Option ℕ) Refusal
next_answer d i = cond (has (places (items d)) i) (Ok (after (places (items d)) i)) (Err NotLinked)

-- the element of node i, where it has one
abbrev pub found_answer : {A : Type 0} → Option A → Result A Refusal
found_answer None = Err NotLinked
found_answer (Some a) = Ok a

-- a where the call was done, b where it was refused
abbrev pub by_ok : {X : Type 0} → Result (Unit {0}) Refusal → X → X → X
by_ok (Ok u) a b = a
by_ok (Err e) a b = b

-- v, but x at place i
abbrev pub at_place : {T : Type 0} → ℕ → T → ℕ → Option T → Option T
at_place i x j v = cond (j == i) (Some x) v

-- where the call was refused, the memory is as it was: every node and both ends
abbrev pub Untouched : {T : Type 0} → Result (Unit {0}) Refusal → Deque T → Deque T → Type 0
Untouched (Ok u) d e = Unit {0}
Untouched (Err r) d e = e ≡ d

-- ---- of one node
-- node i is linked, and lies as n; what its links name is lent too
pub record Linked {T : Type 0} (d : Deque T) (i : ℕ) (n : Node T) : Type 0 where
  pub lies : slice_get (nodes d) i ≡ Some (view_of n)
  pub among : has (places (items d)) i ≡ true
  pub here : i < length d.nodes.now
  pub before : (j : ℕ) → Some j ≡ goes_to n.prev → j < length d.nodes.now
  pub behind : (j : ℕ) → Some j ≡ goes_to n.next → j < length d.nodes.now

-- node i is refused as not linked
pub record Unlinked {T : Type 0} (d : Deque T) (i : ℕ) (e : Refusal) : Type 0 where
  pub refusal : e ≡ NotLinked
  pub absent : has (places (items d)) i ≡ false

-- e is over the same nodes as d, with the items ps and the elements vs
pub record Becomes {T : Type 0} (d e : Deque T) (ps : List (ℕ × T)) (vs : ℕ → Option T) : Type 0 where
  pub order : items e ≡ ps
  pub size : lent e ≡ lent d
  pub owner : lender e ≡ lender d
  pub values : (j : ℕ) → value_at e j ≡ vs j
