-- What a line asks of a queue.
use Rattle.std.specs.Prelude.{ℕ, cond, List, None, Ok, codes}
use Rattle.std.specs.Str.{bytes_eq}
use Rattle.script.specs.declared.command.Command.TheVariants.{MakeQueue, Queue, ListQueue}
use Rattle.script.specs.declared.command.QueueCommand.TheVariants.{Push, Pop, Front, Back, Unlink, Next, Member}
use Rattle.script.specs.Readings.{Asked, only_number, only_field, only_pair, asking, asking_pair, asking_alone, or_else}

-- `pop`, `front`, `list`
abbrev pub plain_queue_reading : List ℕ → List (List ℕ) → Asked
plain_queue_reading w ws =
    cond (bytes_eq w (codes "pop")) (asking_alone ws (Queue Pop))
    (cond (bytes_eq w (codes "front")) (asking_alone ws (Queue Front))
    (cond (bytes_eq w (codes "list")) (asking_alone ws ListQueue) (Ok None)))

-- `back I`, `unlink I`, `next I`, `member I`
abbrev pub node_queue_reading : List ℕ → List (List ℕ) → Asked
node_queue_reading w ws =
    cond (bytes_eq w (codes "back")) (asking (only_number ws) (λ i. Queue (Back i)))
    (cond (bytes_eq w (codes "unlink")) (asking (only_number ws) (λ i. Queue (Unlink i)))
    (cond (bytes_eq w (codes "next")) (asking (only_number ws) (λ i. Queue (Next i)))
    (cond (bytes_eq w (codes "member")) (asking (only_number ws) (λ i. Queue (Member i))) (Ok None))))

-- these, `queue nodes=N` and `push I X`
abbrev pub queue_reading : List ℕ → List (List ℕ) → Asked
queue_reading w ws =
    cond (bytes_eq w (codes "queue")) (asking (only_field (codes "nodes=") ws) MakeQueue)
    (cond (bytes_eq w (codes "push")) (asking_pair (only_pair ws) (λ i x. Queue (Push i x)))
    (or_else (plain_queue_reading w ws) (node_queue_reading w ws)))
