-- The meaning of every refusal ends with its number and its word in brackets: computed for each. Assumes nothing.
use mathlib.Core.Path.{◌≡◌, refl}
use mathlib.Core.List.{List, ◌++◌}
use Prim.Native.Nat.{ℕ, ◌-◌}
use Prim.Native.String.{String}
use lib.ListN.{length, drop}
use Rattle.text.specs.Outcome.{number_of}
use Rattle.text.specs.declared.Refusal.{Refusal as Why}
use Rattle.text.specs.declared.Refusal.TheVariants.{Overlong, Layout, Crowd, Length, Overhang, Crossing, Narrow, ShortSpace, Broad, Unmet, Count, IllFormed, Empty, Inverted}
use Rattle.writing.specs.TableText.{digits_from, digits}
use Rattle.meaning.specs.Meaning.{bytes, meaning}

word : Why → String
word Overlong = "overlong"
word Layout = "layout"
word Crowd = "crowd"
word Length = "length"
word Overhang = "overhang"
word Crossing = "crossing"
word Narrow = "narrow"
word ShortSpace = "short space"
word Broad = "broad"
word Unmet = "unmet"
word Count = "count"
word IllFormed = "number"
word Empty = "empty"
word Inverted = "window"

pub bracketed : Why → List ℕ
bracketed w = bytes " (" ++ digits (number_of w) ++ bytes ", " ++ bytes (word w) ++ bytes ")"

pub last_of : (n : ℕ) → List ℕ → List ℕ
last_of n xs = drop (length xs - n) xs

pub numbered : (w : Why) → last_of (length (bracketed w)) (bytes (meaning (number_of w))) ≡ bracketed w
unfolding bytes meaning digits_from digits word bracketed last_of
numbered Overlong = refl
numbered Layout = refl
numbered Crowd = refl
numbered Length = refl
numbered Overhang = refl
numbered Crossing = refl
numbered Narrow = refl
numbered ShortSpace = refl
numbered Broad = refl
numbered Unmet = refl
numbered Count = refl
numbered IllFormed = refl
numbered Empty = refl
numbered Inverted = refl
