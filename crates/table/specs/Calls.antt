-- What each call makes of the state.
use Rattle.std.specs.Prelude.{◌≡◌, ℕ, ◌+◌, ◌<◌, true, cond, List, length, is_some, Some, None, Option, ◌==◌, nat_lt}
use Rattle.std.specs.List.{slice_get}
use Rattle.table.specs.declared.cell.Cell.{Cell}
use Rattle.table.specs.declared.cell.Content.{Content}
use Rattle.table.specs.declared.cell.Entry.{Entry}
use Rattle.table.specs.declared.vacancy.Vacancy.{Vacancy}
use Rattle.links.specs.Links.{goes_to}
use Rattle.links.specs.Places.{is, pick}
use Rattle.table.specs.Chain.{State, capacity, chain_in, entry_at, Sound}
use Rattle.table.specs.Edits.{anew}

-- the entry, if there is one, with another content
abbrev pub anew_in : {A B : Type 0} → Content B → Option (Entry A B) → Option (Entry A B)
anew_in c None = None
anew_in c (Some e) = Some (anew c e)

-- cell i was used, can be reached, and is c, marked as held
pub record Marked {A B : Type 0} (s : State A B) (i : ℕ) (c : Cell A B) : Type 0 where
  pub used : i < s.used
  pub within : i < capacity s
  pub here : slice_get s.cs i ≡ Some c
  pub marked : c.held ≡ true

-- the cell to take next, given where `free` leads: the first of the free ones, or else the first never used
abbrev pub vacancy_of : {A B : Type 0} → State A B → Option ℕ → Option Vacancy
vacancy_of s (Some i) = cond (nat_lt i (capacity s)) (Some (record { place = i; used = s.used; rest = chain_in (slice_get s.cs i) })) None
vacancy_of s None = cond (nat_lt s.used (capacity s)) (Some (record { place = s.used; used = s.used + 1; rest = s.free })) None

-- and that of a state
abbrev pub vacancy_in : {A B : Type 0} → State A B → Option Vacancy
vacancy_in s = vacancy_of s (goes_to s.free)

-- r is the cell that was taken for e
pub record Took {A B : Type 0} (s t : State A B) (e : Entry A B) (r : Option ℕ) : Type 0 where
  pub sound : Sound t
  pub entries : (j : ℕ) → entry_at t j ≡ cond (is r j) (Some e) (entry_at s j)
  pub fresh : (i : ℕ) → r ≡ Some i → entry_at s i ≡ None
  pub within : (i : ℕ) → r ≡ Some i → i < capacity s
  pub full : r ≡ None → (j : ℕ) → j < capacity s → is_some (entry_at s j) ≡ true
  pub held : t.held ≡ s.held + pick r 0 1
  pub cells : length t.cs ≡ length s.cs
  pub heads : length t.hs ≡ length s.hs

-- cell i was given up, if it was held, and r is what it held
pub record Parted {A B : Type 0} (s t : State A B) (i : ℕ) (r : Option (Entry A B)) : Type 0 where
  pub sound : Sound t
  pub answer : r ≡ entry_at s i
  pub entries : (j : ℕ) → entry_at t j ≡ cond (j == i) None (entry_at s j)
  pub held : t.held + cond (is_some r) 1 0 ≡ s.held
  pub cells : length t.cs ≡ length s.cs
  pub heads : length t.hs ≡ length s.hs

-- the entry of cell i, if it was held, has another content, and r is what it held
pub record Renewed {A B : Type 0} (s t : State A B) (i : ℕ) (c : Content B) (r : Option (Entry A B)) : Type 0 where
  pub sound : Sound t
  pub answer : r ≡ entry_at s i
  pub entries : (j : ℕ) → entry_at t j ≡ cond (j == i) (anew_in c (entry_at s j)) (entry_at s j)
  pub held : t.held ≡ s.held
  pub cells : length t.cs ≡ length s.cs
  pub heads : length t.hs ≡ length s.hs

-- nothing is held, and the cells lie as they did
pub record Emptied {A B : Type 0} (cs : List (Cell A B)) (n : ℕ) (t : State A B) : Type 0 where
  pub sound : Sound t
  pub entries : (j : ℕ) → entry_at t j ≡ None
  pub cells : t.cs ≡ cs
  pub heads : length t.hs ≡ n
