-- Laws above the definitions. Each is about a list of items, and is named by a call's contract for the list that it finds.
use Rattle.std.specs.Prelude.{◌≡◌, ℕ, ◌<◌, true, cond, List, [], ◌∷◌, ◌++◌, Some, None, Option}
use Rattle.links.specs.Places.{has, last, after, distinct}
use Rattle.deque.specs.Meaning.{places, dropped, pushed, front, rest, found, moved, free}

-- no node stands twice, and every linked node is lent
pub record EachOnce {T : Type 0} (n : ℕ) (ps : List (ℕ × T)) : Type 0 where
  pub apart : distinct (places ps) ≡ true
  pub within : (i : ℕ) → has (places ps) i ≡ true → i < n

-- the last node has no next
pub record LastHasNoNext {T : Type 0} (ps : List (ℕ × T)) : Type 0 where
  pub end : (i : ℕ) → last (places ps) ≡ Some i → after (places ps) i ≡ None

-- moving a node to the back puts it last, keeps the others in their order, and changes nothing where it was the last
pub record MovesToBack {T : Type 0} (ps : List (ℕ × T)) : Type 0 where
  pub back : (i : ℕ) → has (places ps) i ≡ true → last (places (moved i ps)) ≡ Some i
  pub others : (i : ℕ) → dropped i (moved i ps) ≡ dropped i ps
  pub stays : (i : ℕ) → last (places ps) ≡ Some i → moved i ps ≡ ps

-- a node that is unlinked and pushed again with its element has been moved to the back
pub record UnlinkThenPushMoves {T : Type 0} (ps : List (ℕ × T)) : Type 0 where
  pub same : (i : ℕ) (x : T) → found i ps ≡ Some x → pushed (dropped i ps) i x ≡ moved i ps

-- ---- first in, first out
-- a push of a node with an element, or a pop
pub data Turn (T : Type 0) : Type 0 where
  push : ℕ → T → Turn T
  pop : Turn T

-- the list after a turn, where n nodes are lent; a push that is refused changes nothing
abbrev pub turned : {T : Type 0} → ℕ → List (ℕ × T) → Turn T → List (ℕ × T)
turned n ps (push i x) = cond (free n ps i) (pushed ps i x) ps
turned n ps pop = rest ps

-- what a turn puts in
abbrev pub put_in : {T : Type 0} → ℕ → List (ℕ × T) → Turn T → List (ℕ × T)
put_in n ps (push i x) = cond (free n ps i) ((i, x) ∷ []) []
put_in n ps pop = []

-- an option as a list
abbrev pub at_most_one : {A : Type 0} → Option A → List A
at_most_one None = []
at_most_one (Some a) = a ∷ []

-- what a turn hands out
abbrev pub handed_out : {T : Type 0} → List (ℕ × T) → Turn T → List (ℕ × T)
handed_out ps (push i x) = []
handed_out ps pop = at_most_one (front ps)

-- all that a run of turns puts in, in the order of the pushes
abbrev pub all_in : {T : Type 0} → ℕ → List (ℕ × T) → List (Turn T) → List (ℕ × T)
all_in n ps [] = []
all_in n ps (t ∷ ts) = put_in n ps t ++ all_in n (turned n ps t) ts

-- all that a run of turns hands out, in the order of the pops
abbrev pub all_out : {T : Type 0} → ℕ → List (ℕ × T) → List (Turn T) → List (ℕ × T)
all_out n ps [] = []
all_out n ps (t ∷ ts) = handed_out ps t ++ all_out n (turned n ps t) ts

-- what a run of turns leaves
abbrev pub left : {T : Type 0} → ℕ → List (ℕ × T) → List (Turn T) → List (ℕ × T)
left n ps [] = ps
left n ps (t ∷ ts) = left n (turned n ps t) ts

-- over any run of pushes and pops, what was handed out, and then what is left, is what was there, and then what was put in
pub record FirstInFirstOut {T : Type 0} (n : ℕ) (ps : List (ℕ × T)) : Type 0 where
  pub runs : (ts : List (Turn T)) → all_out n ps ts ++ left n ps ts ≡ ps ++ all_in n ps ts
