-- What the arguments stand for: numbers and commands. Assumes nothing: these are definitions.
use Rattle.std.specs.Prelude.{Bool, ◌&&◌, ◌||◌, cond, List, ℕ, leb, eqb, length, Option, Some, None, codes}
use Rattle.std.specs.Str.{bytes_eq}
use Rattle.lines.specs.Lines.{all_digits, value}
use Rattle.commands.specs.declared.Command.{Command}
use Rattle.commands.specs.declared.Command.TheVariants.{Table, Total, Place, Spread, Page, Trial, Session, Help, Version}

-- a NUMBER: 1 to 10 decimal digits, at most 4294967295
unfoldable pub is_number : List ℕ → Bool
is_number xs = (leb 1 (length xs) && leb (length xs) 10) && (all_digits xs && leb (value xs) 4294967295)

-- which number, where it is one
unfoldable pub number_in : List ℕ → Option ℕ
number_in xs = cond (is_number xs) (Some (value xs)) None

-- a COMMAND of one word: help by its name or an option, or the version
unfoldable pub is_help : List ℕ → Bool
is_help w = bytes_eq w (codes "help") || (bytes_eq w (codes "-h") || bytes_eq w (codes "--help"))

unfoldable pub command_alone : List ℕ → Option Command
command_alone w = cond (is_help w) (Some Help) (cond (bytes_eq w (codes "--version")) (Some Version) None)

-- a COMMAND of a word and a number, and of a word and two
unfoldable pub command_with_number : List ℕ → Option Command
command_with_number w =
    cond (bytes_eq w (codes "session")) (Some Session)
    (cond (bytes_eq w (codes "total")) (Some Total) (cond (bytes_eq w (codes "spread")) (Some Spread) None))

unfoldable pub command_with_two : List ℕ → Option Command
command_with_two w = cond (bytes_eq w (codes "place")) (Some Place) (cond (bytes_eq w (codes "page")) (Some Page) None)

-- a COMMAND of so many words, of which w is the first: none is the table; total, spread and session have one number, place and page two, trial some
unfoldable pub command_in : List ℕ → (words : ℕ) → Option Command
command_in w n =
    cond (eqb n 0) (Some Table)
    (cond (eqb n 1) (command_alone w)
    (cond (bytes_eq w (codes "trial")) (Some Trial)
    (cond (eqb n 2) (command_with_number w)
    (cond (eqb n 3) (command_with_two w) None))))
