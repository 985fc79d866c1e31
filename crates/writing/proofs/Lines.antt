-- Lines written over an output. A text written behind another is their append written; each line is written if there is space for it, and if there is space for
-- the whole text it stands whole, since no line before it was left out. Assumes nothing.
use mathlib.Core.Path.{◌≡◌, refl, ◌∙◌}
use mathlib.Core.List.{List, [], ◌++◌, append_assoc, append-nil}
use mathlib.Core.Logic.{◌⊎◌, inl, inr}
use Prim.Native.Nat.{ℕ, ◌+◌, ◌-◌, ◌≤◌, ◌<◌, min}
use native.Mathlib.Nat.{zero-add, sub-zero}
use native.Mathlib.Omega.{arith}
use lib.ListN.{length, take, drop, replicate, length-append, length-drop, drop_of_length-le, take-append-drop}
use lib.Seq.{take-append_seam, take_all, length-take-le}
use borrow.Author.Tests.{le-leb, lt-leb}
use Rattle.numbers.proofs.Orders.{le_or_lt}
use Rattle.writing.specs.Output.{over, over_at, fitted, written, written_at, cleared, Written, line_bytes, LinePut, LinePutAt}

pub over_length : (t o : List ℕ) → length t ≤ length o → length (over t o) ≡ length o
unfolding over
over_length t o h = rw (length-append, length-drop) (omega arith)

pub over_at_length : (at : ℕ) (t o : List ℕ) → at + length t ≤ length o → length (over_at at t o) ≡ length o
unfolding over_at
over_at_length at t o h =
    let rest : length (drop at o) ≡ length o - at = length-drop at o in
    rw (length-append, length-take-le at o (omega arith), over_length t (drop at o) (omega arith), length-drop) (omega arith)

-- where there is space, and where there is none
pub written_at_fits : (at : ℕ) (t o : List ℕ) → at + length t ≤ length o → written_at at t o ≡ over_at at t o
unfolding written_at fitted
written_at_fits at t o h = rw (le-leb (at + length t) (length o) h)

pub written_at_short : (at : ℕ) (t o : List ℕ) → length o < at + length t → written_at at t o ≡ o
unfolding written_at fitted
written_at_short at t o h = rw (lt-leb (at + length t) (length o) h)

pub written_at_start : (t o : List ℕ) → written_at 0 t o ≡ written t o
unfolding written_at written over_at
written_at_start t o = rw zero-add

pub written_starts : (o : List ℕ) → Written [] o o
written_starts o = record { stands = λ h. refl; same_length = refl }

-- one line more
pub written_steps : {s before now : List ℕ} (t : List ℕ) → Written s before now → Written (s ++ t) before (written_at (length s) t now)
unfolding over_at over
written_steps {s} {before} {now} t w = go (le_or_lt (length s + length t) (length now))
  where
    go : (length s + length t ≤ length now) ⊎ (length now < length s + length t) → Written (s ++ t) before (written_at (length s) t now)
    go (inl h) =
        let rest = drop (length t) (drop (length s) now) in
        let whole : over_at (length s) t now ≡ (s ++ t) ++ rest = rw (w.stands (omega arith), append_assoc) in
        rw (written_at_fits (length s) t now h)
        (record { stands = λ _. rw whole (take-append_seam (s ++ t) rest); same_length = over_at_length (length s) t now h ∙ w.same_length })
    go (inr h) =
        rw (written_at_short (length s) t now h)
        (record { stands = λ k. absurd (omega (arith, length-append s t)); same_length = w.same_length })

-- the whole text with zeros behind it
pub written_ends : {t before after : List ℕ} → Written t before after → length t ≤ length before →
    cleared (length t) after ≡ t ++ replicate (length before - length t) 0
unfolding cleared
written_ends w h = rw (w.stands (omega (arith, w.same_length)), w.same_length)

-- zeros over the part from a place on, where there is one
pub cleared_part : (from m : ℕ) (out zeros : List ℕ) → m ≡ min from (length out) → zeros ≡ replicate (length out - m) 0 →
    take m out ++ (zeros ++ drop (length out - m) (drop m out)) ≡ cleared from out
unfolding cleared
cleared_part from m out zeros e z =
    let none : drop (length out - m) (drop m out) ≡ [] = drop_of_length-le (drop m out) {i = length out - m} (rw length-drop (omega arith)) in
    rw (none, append-nil, z) (go (le_or_lt from (length out)))
  where
    go : (from ≤ length out) ⊎ (length out < from) → take m out ++ replicate (length out - m) 0 ≡ take from out ++ replicate (length out - from) 0
    go (inl h) = let same : m ≡ from = omega arith in rw same
    go (inr h) =
        let no_part : length out - m ≡ 0 = omega arith in
        let none_behind : length out - from ≡ 0 = omega arith in
        rw (no_part, none_behind, take_all m out (omega arith), take_all from out (omega arith))

pub cleared_all : (o : List ℕ) → cleared 0 o ≡ replicate (length o) 0
unfolding cleared
cleared_all o = rw sub-zero

-- a line where there is space for it, and where there is none
pub line_fits : {line before : List ℕ} → length line ≤ length before → length line ≤ line_bytes → LinePut line before (line ++ drop (length line) before) (length line)
unfolding written fitted over
line_fits {line} {before} h few = record { stands = rw (le-leb (length line) (length before) h); counted = refl; few = few }

pub line_short : {line before : List ℕ} → length before < length line → length line ≤ line_bytes → LinePut line before before (length line)
unfolding written fitted
line_short {line} {before} h few = record { stands = rw (lt-leb (length line) (length before) h); counted = refl; few = few }

-- a line over the part from a place on; from a place behind the output there is no part, and no line fits
written_behind : (at : ℕ) (t o : List ℕ) → 0 < length t → take (min at (length o)) o ++ written t (drop (min at (length o)) o) ≡ written_at at t o
unfolding written fitted over_at
written_behind at t o some = go (le_or_lt (at + length t) (length o))
  where
    go : (at + length t ≤ length o) ⊎ (length o < at + length t) → take (min at (length o)) o ++ written t (drop (min at (length o)) o) ≡ written_at at t o
    go (inl h) =
        let e : min at (length o) ≡ at = omega arith in
        rw (e, le-leb (length t) (length (drop at o)) (rw length-drop (omega arith)), written_at_fits at t o h)
    go (inr h) =
        let n = min at (length o) in
        rw (lt-leb (length t) (length (drop n o)) (rw length-drop (omega arith)), written_at_short at t o h, take-append-drop n o)

-- the part from a place on, lent to a line's writer
pub lent_put : {t o part : List ℕ} {at from r : ℕ} → from ≡ min at (length o) → 0 < length t → LinePut t (take (length o - from) (drop from o)) part r →
    LinePutAt at t o (take from o ++ (part ++ drop (length o - from) (drop from o))) (at + r)
lent_put {t} {o} {part} {at} {from} e some p =
    let rest : length (drop from o) ≡ length o - from = length-drop from o in
    let all : take (length o - from) (drop from o) ≡ drop from o = take_all (length o - from) (drop from o) (omega arith) in
    let none : drop (length o - from) (drop from o) ≡ [] = drop_of_length-le (drop from o) {i = length o - from} (omega arith) in
    record {
      stands = rw (none, append-nil, p.stands, all, e) (written_behind at t o some);
      counted = rw p.counted;
      few = omega (arith, p.few);
    }
