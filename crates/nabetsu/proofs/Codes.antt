-- A refusal, and an answer that may be one, in one number. Assumes nothing.
use mathlib.Core.Path.{◌≡◌, refl}
use Prim.Native.Nat.{ℕ, ◌+◌, ◌*◌}
use Rattle.std.specs.Prelude.{Result, Ok, Err, MatchResult}
use Rattle.text.specs.Text.{refusal, fine}
use Rattle.text.specs.Outcome.{number_of, refusal_of}
use Rattle.text.specs.declared.Refused.{Refused}
use Rattle.text.specs.declared.Refusal.{Refusal as Why}
use Rattle.text.specs.declared.Refusal.TheVariants.{Overlong, Layout, Crowd, Length, Overhang, Crossing, Narrow, ShortSpace, Broad, Unmet, Count, IllFormed, Empty, Inverted}
use Rattle.nabetsu.specs.Entry.{code}

pub code_refused : (w : Why) (l f v : ℕ) → number_of w * 1099511627776 + l * 1048576 + f ≡ code (refusal (number_of w) l f) v
unfolding code refusal
code_refused Overlong l f v = refl
code_refused Layout l f v = refl
code_refused Crowd l f v = refl
code_refused Length l f v = refl
code_refused Overhang l f v = refl
code_refused Crossing l f v = refl
code_refused Narrow l f v = refl
code_refused ShortSpace l f v = refl
code_refused Broad l f v = refl
code_refused Unmet l f v = refl
code_refused Count l f v = refl
code_refused IllFormed l f v = refl
code_refused Empty l f v = refl
code_refused Inverted l f v = refl

-- an answer's value, or its refusal
pub answer_coded : {A : Type 0} (value : Result A Refused → ℕ) (a : Result A Refused) (r : ℕ) (P : A → Type 0) (Q : Refused → Type 0) → MatchResult a P Q → ((x : A) → P x → r ≡ value (Ok x)) →
    ((e : Refused) → Q e → (v : ℕ) → r ≡ code (refusal (number_of e.why) e.line e.field) v) → r ≡ code (refusal_of a) (value a)
unfolding code fine refusal
answer_coded value (Ok x) r P Q m p q = p x m
answer_coded value (Err e) r P Q m p q = q e m (value (Err e))
