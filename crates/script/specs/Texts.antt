-- What each answer says, byte for byte.
use Rattle.std.specs.Prelude.{ℕ, List, ◌++◌, codes, decimal}
use Rattle.script.specs.declared.answer.Answer.{Answer}
use Rattle.script.specs.declared.answer.Answer.TheVariants.{Error, Made, Refused, Opened, Closed, Counted, Halved, Full, Estimate, Pushed, Popped, Front, Empty, Moved, Unlinked, Next, Last, Yes, No}
use Rattle.script.specs.declared.answer.Item.{Item}
use Rattle.script.specs.declared.command.Fault.{Fault}
use Rattle.script.specs.declared.command.Fault.TheVariants.{UnknownCommand, WrongWords, NoSketch, NoQueue, TooLarge}

abbrev pub text : Answer → List ℕ
text Error = codes "error"
text Made = codes "made"
text (Refused number) = codes "refused " ++ decimal number
text (Opened words sample) = codes "opened " ++ (decimal words ++ (codes " " ++ decimal sample))
text Closed = codes "closed"
text (Counted size) = codes "counted " ++ decimal size
text (Halved size) = codes "halved " ++ decimal size
text (Full size) = codes "full " ++ decimal size
text (Estimate least) = codes "estimate " ++ decimal least
text Pushed = codes "pushed"
text (Popped node x) = codes "popped " ++ (decimal node ++ (codes " " ++ decimal x))
text (Front node x) = codes "front " ++ (decimal node ++ (codes " " ++ decimal x))
text Empty = codes "empty"
text Moved = codes "moved"
text Unlinked = codes "unlinked"
text (Next node) = codes "next " ++ decimal node
text Last = codes "last"
text Yes = codes "yes"
text No = codes "no"

-- one of a list: `list` stands before the first
abbrev pub item_text : Item → List ℕ
item_text i = codes " " ++ (decimal i.node ++ (codes ":" ++ decimal i.element))

-- the reason that standard error is given for an `error`
abbrev pub reason : Fault → List ℕ
reason UnknownCommand = codes "no such command"
reason WrongWords = codes "wrong words for this command"
reason NoSketch = codes "no sketch was made last"
reason NoQueue = codes "no queue was made last"
reason TooLarge = codes "more memory than there is to lend"
