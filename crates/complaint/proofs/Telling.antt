-- The line that tells a refusal, since no refusal has the number 0; nothing is told where nothing is refused. Assumes nothing.
use mathlib.Core.Path.{◌≡◌, refl}
use mathlib.Core.List.{[], ◌∷◌, ◌++◌}
use Prim.Native.Nat.{ℕ}
use borrow.Author.Tests.{ne_eqb}
use Rattle.text.specs.Text.{refusal, fine}
use Rattle.text.specs.Outcome.{number_of}
use Rattle.text.specs.declared.Refusal.{Refusal as Why}
use Rattle.text.proofs.Refusals.{word_not_fine}
use Rattle.meaning.specs.Meaning.{bytes, meaning}
use Rattle.complaint.specs.Complaint.{place, complaint}

pub refusal_told : (w : Why) (l f : ℕ) → complaint (refusal (number_of w) l f) ≡ bytes "stacktable: " ++ place l f ++ bytes (meaning (number_of w)) ++ (10 ∷ [])
unfolding complaint refusal
refusal_told w l f = rw (ne_eqb (number_of w) 0 (word_not_fine (record { why = w; line = l; field = f })))

pub none_told : complaint fine ≡ []
unfolding complaint fine refusal
none_told = refl
