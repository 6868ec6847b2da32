-- Sample runs, as the rules have them.
use Rattle.std.specs.Prelude.{◌≡◌, ℕ, ◌-◌, true, List, [], ◌∷◌, map, length, take, Some, None, Option}
use Rattle.sketch.specs.Sketches.{closed}
use Rattle.rules.specs.declared.choices.Choices.{Choices}
use Rattle.rules.specs.declared.call.Call.{Call}
use Rattle.rules.specs.declared.call.Call.TheVariants.{Get, Contains, Insert, Invalidate}
use Rattle.rules.specs.declared.answer.Answer.{Answer}
use Rattle.rules.specs.declared.answer.Answer.TheVariants.{Hit, Miss, Yes, New, Replaced, TurnedAway, Struck}
use Rattle.rules.specs.declared.departure.Cause.{Cause}
use Rattle.rules.specs.declared.departure.Cause.TheVariants.{LivedOut, IdledOut, Trimmed, Outvoted, StruckOut}
use Rattle.rules.specs.declared.departure.Departure.{Departure}
use Rattle.rules.specs.Entries.{Sizes, State, fresh, Entry}
use Rattle.rules.specs.Opening.{opening, opening_size}
use Rattle.rules.specs.Runs.{Turn, Line, end, log}
use Rattle.kinds.specs.declared.by_serial.Reading.{Reading}
use Rattle.kinds.specs.declared.by_tag.Log.{Log}
use Rattle.rules.specs.Account.{AllFree}
use Rattle.rules.specs.Hub.{serials, tags}

-- an answer, with who left
pub record Told (Value : Type 0) : Type 0 where
  pub answer : Answer Value
  pub departures : List Departure

module _ {Value : Type 0} where
  -- an answer with departures
  abbrev pub tells : Answer Value → List Departure → Told Value
  tells a ds = record { answer = a; departures = ds }

  -- an answer with none
  abbrev pub says : Answer Value → Told Value
  says a = tells a []

-- a departure
abbrev pub left : ℕ → Cause → Departure
left t why = record { ticket = t; cause = why }

-- choices: capacity, life, idle time
abbrev pub chosen : Option ℕ → Option ℕ → Option ℕ → Choices
chosen c l i = record { capacity = c; life = l; idle = i }

-- eight cells and 128 words, which suffice
abbrev pub lent : Sizes
lent = record { cells = 8; words = 128 }

-- a call, with the cell that it would use
abbrev pub at_cell : {Value : Type 0} → ℕ → Call ℕ Value → Turn ℕ Value
at_cell c call = record { free = c; call = call }

-- what is told of a run with serials
abbrev pub serial_told : Choices → List (Turn ℕ Reading) → List (Told Reading)
serial_told ch ts = map (λ (l : Line ℕ Reading). tells l.answer l.departures) (log serials ch lent fresh ts)

-- the state at its end
abbrev pub serial_end : Choices → List (Turn ℕ Reading) → State ℕ Reading
serial_end ch ts = end serials ch lent fresh ts

-- what is told of a run with tags
abbrev pub tag_told : Choices → List (Turn ℕ Log) → List (Told Log)
tag_told ch ts = map (λ (l : Line ℕ Log). tells l.answer l.departures) (log tags ch lent fresh ts)

-- the state at its end
abbrev pub tag_end : Choices → List (Turn ℕ Log) → State ℕ Log
tag_end ch ts = end tags ch lent fresh ts

-- a reading
abbrev pub some_reading : Reading
some_reading = record { descents = 2300; day = 14 }

-- a serial taken in at an instant, into a cell of its own
abbrev pub put : ℕ → ℕ → Turn ℕ Reading
put k now = at_cell (k - 1) (Insert k some_reading now)

-- a serial asked for at an instant
abbrev pub get : ℕ → ℕ → Turn ℕ Reading
get k now = at_cell 7 (Get k now)

-- a log of a length taken in under a tag
abbrev pub put_tag : ℕ → ℕ → ℕ → Turn ℕ Log
put_tag cell k n = at_cell cell (Insert k (record { length = n; place = 0 }) 0)

-- rows 1 and 2: capacity 2
abbrev pub two : List (Turn ℕ Reading)
two = put 1 0 ∷ put 2 0 ∷ put 3 0 ∷ get 3 0 ∷ put 3 0 ∷ []

-- rows 9 and 10: the tags GYM-0001 to GYM-0004, and gym-0003
abbrev pub gym : List (Turn ℕ Log)
gym =
    put_tag 0 0x47594d2d30303031 22 ∷ put_tag 1 0x47594d2d30303032 32 ∷ put_tag 2 0x47594d2d30303033 12
    ∷ at_cell 7 (Get 0x47594d2d30303034 0) ∷ put_tag 3 0x47594d2d30303034 27 ∷ []

-- row 10 goes on from row 9
abbrev pub gym_more : List (Turn ℕ Log)
gym_more =
    put_tag 0 0x47594d2d30303031 22 ∷ put_tag 1 0x47594d2d30303032 32 ∷ put_tag 2 0x47594d2d30303033 12
    ∷ at_cell 7 (Get 0x47594d2d30303034 0) ∷ put_tag 3 0x47594d2d30303034 27
    ∷ put_tag 4 0x67796d2d30303033 92 ∷ at_cell 7 (Contains 0x67796d2d30303033 0) ∷ []

-- the weights held, in touch order
abbrev pub weights : State ℕ Log → List ℕ
weights s = map (λ (e : Entry ℕ Log). e.weight) s.touch

-- all rows
pub record Samples : Type 0 where
  pub rows_1_2 :
      serial_told (chosen (Some 2) None None) two
      ≡ says (New 1) ∷ says (New 2) ∷ says TurnedAway ∷ says Miss ∷ tells (New 3) (left 1 Outvoted ∷ []) ∷ []
  pub row_3 :
      serial_told (chosen (Some 1) None None) (put 1 0 ∷ get 1 0 ∷ get 2 0 ∷ put 2 0 ∷ [])
      ≡ says (New 1) ∷ says (Hit some_reading) ∷ says Miss ∷ says TurnedAway ∷ []
  pub row_4 :
      serial_told (chosen (Some 1) (Some 10) None) (put 1 0 ∷ put 2 10 ∷ [])
      ≡ says (New 1) ∷ tells (New 2) (left 1 LivedOut ∷ []) ∷ []
  pub row_4_recorded : (serial_end (chosen (Some 1) (Some 10) None) (put 1 0 ∷ put 2 10 ∷ [])).recorded ≡ 1
  pub row_5 :
      serial_told (chosen None (Some 10) None) (put 1 0 ∷ get 1 9 ∷ get 1 10 ∷ [])
      ≡ says (New 1) ∷ says (Hit some_reading) ∷ tells Miss (left 1 LivedOut ∷ []) ∷ []
  pub row_6 :
      serial_told (chosen None None (Some 10)) (put 1 0 ∷ get 1 9 ∷ get 1 18 ∷ get 1 28 ∷ [])
      ≡ says (New 1) ∷ says (Hit some_reading) ∷ says (Hit some_reading) ∷ tells Miss (left 1 IdledOut ∷ []) ∷ []
  pub row_7 :
      serial_told (chosen None (Some 10) None) (put 1 20 ∷ put 2 5 ∷ get 2 15 ∷ []) ≡ says (New 1) ∷ says (New 2) ∷ says Miss ∷ []
  pub row_7_held : length (serial_end (chosen None (Some 10) None) (put 1 20 ∷ put 2 5 ∷ get 2 15 ∷ [])).touch ≡ 2
  pub row_8 :
      serial_told (chosen None None None) (put 1 0 ∷ at_cell 7 (Invalidate 1 0) ∷ []) ≡ says (New 1) ∷ tells Struck (left 1 StruckOut ∷ []) ∷ []
  pub row_8_count : (serial_end (chosen None None None) (put 1 0 ∷ at_cell 7 (Invalidate 1 0) ∷ [])).count ≡ 0
  pub row_8_held : length (serial_end (chosen None None None) (put 1 0 ∷ at_cell 7 (Invalidate 1 0) ∷ [])).touch ≡ 0
  pub row_9 :
      tag_told (chosen (Some 100) None None) gym
      ≡ says (New 1) ∷ says (New 2) ∷ says (New 3) ∷ says Miss ∷ tells (New 4) (left 1 Outvoted ∷ left 2 Outvoted ∷ []) ∷ []
  pub row_9_three : weights (tag_end (chosen (Some 100) None None) (take 3 gym)) ≡ 30 ∷ 40 ∷ 20 ∷ []
  pub row_9_weights : weights (tag_end (chosen (Some 100) None None) (gym)) ≡ 20 ∷ 35 ∷ []
  pub row_9_recorded : (tag_end (chosen (Some 100) None None) gym).recorded ≡ 55
  pub row_10 :
      tag_told (chosen (Some 100) None None) gym_more
      ≡ says (New 1) ∷ says (New 2) ∷ says (New 3) ∷ says Miss ∷ tells (New 4) (left 1 Outvoted ∷ left 2 Outvoted ∷ [])
      ∷ says (Replaced 3) ∷ tells Yes (left 4 Trimmed ∷ []) ∷ []
  pub row_10_replaced : (tag_end (chosen (Some 100) None None) (take 6 gym_more)).recorded ≡ 135
  pub row_10_recorded : (tag_end (chosen (Some 100) None None) gym_more).recorded ≡ 100
  -- the cells chosen in rows 9 and 10 were free: the premise of the account is met
  pub cells_free : AllFree tags (chosen (Some 100) None None) lent fresh gym_more
  pub row_11 : opening_size true 400 570 1000 ≡ 227
  pub row_11_sample : (opening true 256 400 570 (Some 1000) closed).sample ≡ 2270
