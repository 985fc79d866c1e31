-- A refusal in words, as the program says it on standard error. Assumes nothing: these are definitions.
use Rattle.std.specs.Prelude.{cond, List, [] as []ᴸ, ◌∷◌ as ◌∷ᴸ◌, ◌++◌, ℕ, eqb}
use Prim.Native.String.{String}
use Rattle.text.specs.Text.{Refusal}
use Rattle.writing.specs.TableText.{digits}
use Rattle.meaning.specs.Meaning.{bytes, meaning}

-- a word and a number
unfoldable pub named : (word : String) → (v : ℕ) → List ℕ
named w v = bytes w ++ digits v

-- where a refusal is: line and field, each left out where it is 0
unfoldable pub place : (line field : ℕ) → List ℕ
place l f =
    cond (eqb f 0) (cond (eqb l 0) []ᴸ (named "line " l ++ bytes ": "))
    (cond (eqb l 0) (named "field " f ++ bytes ": ") (named "line " l ++ named ", field " f ++ bytes ": "))

-- the line that tells a refusal: nothing where there is none
unfoldable pub complaint : Refusal → List ℕ
complaint r =
    cond (eqb r.number 0) []ᴸ (bytes "stacktable: " ++ place r.line r.field ++ bytes (meaning r.number) ++ (10 ∷ᴸ []ᴸ))

-- the line that tells where the program's input is no step of a session
unfoldable pub no_step : (line : ℕ) → List ℕ
no_step l = named "stacktable: line " l ++ (bytes ": no step" ++ (10 ∷ᴸ []ᴸ))
