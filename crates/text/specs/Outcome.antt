-- TRUSTED. The number, line and field for a refusal, and for a result that may be one. Document 01, "Sent back at the counter"; document 02, P1, P3 and P5 to P7. Assumes nothing: these are definitions.
use Rattle.std.specs.Prelude.{Result, Ok, Err, ℕ}
use Rattle.text.specs.Text.{Refusal, refusal, fine}
use Rattle.text.specs.declared.Refusal.{Refusal as Why}
use Rattle.text.specs.declared.Refusal.TheVariants.{Overlong, Layout, Crowd, Length, Overhang, Crossing, Narrow, ShortSpace, Broad, Unmet, Count, IllFormed, Empty, Inverted}
use Rattle.text.specs.declared.Refused.{Refused}

abbrev pub number_of : Why → ℕ
number_of Overlong = 1
number_of Layout = 2
number_of Crowd = 3
number_of Length = 4
number_of Overhang = 5
number_of Crossing = 6
number_of Narrow = 7
number_of ShortSpace = 8
number_of Broad = 9
number_of Unmet = 10
number_of Count = 11
number_of IllFormed = 12
number_of Empty = 13
number_of Inverted = 14

abbrev pub refusal_of : {A : Type 0} → Result A Refused → Refusal
refusal_of (Ok a) = fine
refusal_of (Err r) = refusal (number_of r.why) r.line r.field

-- a refusal at a line and field
abbrev pub refused : Why → (line field : ℕ) → Refused
refused w l f = record { why = w; line = l; field = f }
