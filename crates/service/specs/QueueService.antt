-- What a queue is asked for by a script, what it answers, and what it then holds. A queue is here the list of its linked nodes
-- with their elements, front first, and n the number of nodes that are lent.
use Rattle.std.specs.Prelude.{ℕ, cond, List, Some, None, Ok, Err, Option, Result}
use Rattle.script.specs.declared.answer.Answer.{Answer}
use Rattle.script.specs.declared.answer.Answer.TheVariants as answer
use Rattle.script.specs.declared.command.QueueCommand.{QueueCommand}
use Rattle.script.specs.declared.command.QueueCommand.TheVariants.{Push, Pop, Front, Back, Unlink, Next, Member}
use Rattle.refusals.specs.declared.Refusal as all
use Rattle.refusals.specs.Numbers as all_numbers
use Rattle.deque.specs.declared.refusal.Refusal.TheVariants.{NotLinked, NotFree}
use Rattle.deque.specs.Refusals.{refusal_number}
use Rattle.links.specs.Places.{has, after}
use Rattle.deque.specs.Meaning.{places, pushed, dropped, front, rest, moved, free}

-- the list after a command: a refused one changes nothing
abbrev pub queue_after : ℕ → List (ℕ × ℕ) → QueueCommand → List (ℕ × ℕ)
queue_after n ps (Push i x) = cond (free n ps i) (pushed ps i x) ps
queue_after n ps Pop = rest ps
queue_after n ps Front = ps
queue_after n ps (Back i) = cond (has (places ps) i) (moved i ps) ps
queue_after n ps (Unlink i) = cond (has (places ps) i) (dropped i ps) ps
queue_after n ps (Next i) = ps
queue_after n ps (Member i) = ps

abbrev pub popped_answer : Option (ℕ × ℕ) → Answer
popped_answer None = answer.Empty
popped_answer (Some p) = answer.Popped p.0 p.1

abbrev pub front_answer : Option (ℕ × ℕ) → Answer
front_answer None = answer.Empty
front_answer (Some p) = answer.Front p.0 p.1

abbrev pub next_answer : Option ℕ → Answer
next_answer None = answer.Last
next_answer (Some j) = answer.Next j

-- the answer, or the number of the refusal as an answer
abbrev pub told : Result Answer all.Refusal → Answer
told (Ok a) = a
told (Err e) = answer.Refused (all_numbers.refusal_number e)

-- an answer where node i is linked, and the refusal where it is not
abbrev pub if_linked : List (ℕ × ℕ) → ℕ → Answer → Answer
if_linked ps i a = cond (has (places ps) i) a (answer.Refused (refusal_number NotLinked))

-- the answer to a command
abbrev pub queue_answer : ℕ → List (ℕ × ℕ) → QueueCommand → Answer
queue_answer n ps (Push i x) = cond (free n ps i) answer.Pushed (answer.Refused (refusal_number NotFree))
queue_answer n ps Pop = popped_answer (front ps)
queue_answer n ps Front = front_answer (front ps)
queue_answer n ps (Back i) = if_linked ps i answer.Moved
queue_answer n ps (Unlink i) = if_linked ps i answer.Unlinked
queue_answer n ps (Next i) = if_linked ps i (next_answer (after (places ps) i))
queue_answer n ps (Member i) = cond (has (places ps) i) answer.Yes answer.No
