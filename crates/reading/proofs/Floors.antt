-- What a GAP line that is accepted says, and the floors that lines name, one line more at a time. Assumes nothing.
use mathlib.Core.Path.{◌≡◌, refl, ap}
use mathlib.Core.Bool.{Bool, true, false, ◌&&◌, cond}
use mathlib.Core.List.{List}
use Prim.Native.Nat.{ℕ, zero, suc, ◌+◌, ◌≤◌, ◌<◌}
use native.Mathlib.Omega.{arith}
use lib.Dec.{ltb, leb, eqb}
use lib.ListN.{get_or}
use borrow.Author.Tests.{leb-true, leb-false, ltb-false, eq-eqb, ne_eqb}
use Rattle.numbers.specs.Lists.{tabulate}
use Rattle.numbers.proofs.Bools.{ands}
use Rattle.text.specs.Text.{refusal, fine, Entry, first_of, second_of, fault_at, gap_content, floor_in}
use Rattle.text.proofs.Refusals.{when_fine}

-- WHAT IS ACCEPTED: a channel of the stack, above the one before, and a floor within the limit
pub record GapSays (k b : ℕ) (e : Entry) : Type 0 where
  pub some : 1 ≤ first_of e
  pub within : first_of e ≤ k
  pub small : second_of e ≤ 64
  pub above : b < first_of e

pub gap_says : (k b : ℕ) (e : Entry) → (gap_content k b e).number ≡ 0 → GapSays k b e
unfolding gap_content fault_at refusal
gap_says k b e h = go (leb 1 (first_of e) && leb (first_of e) k) refl h
  where
    go : (v : Bool) → (leb 1 (first_of e) && leb (first_of e) k) ≡ v →
        (cond v (cond (ltb 64 (second_of e)) (refusal 3 e.origin (e.shift + 3)) (cond (leb (first_of e) b) (refusal 6 e.origin (e.shift + 2)) fine))
        (refusal 3 e.origin (e.shift + 2))).number ≡ 0 → GapSays k b e
    go true q h =
        let s = when_fine (ltb 64 (second_of e)) 2 e.origin (e.shift + 3) _ h in
        let u = when_fine (leb (first_of e) b) 5 e.origin (e.shift + 2) fine s.1 in
        record {
          some = leb-true 1 (first_of e) (search ands);
          within = leb-true (first_of e) k (search ands);
          small = ltb-false 64 (second_of e) s.0;
          above = leb-false (first_of e) b u.0;
        }
    go false q h = absurd (omega arith)

-- THE FLOORS that lines name: of the last line's channel where no line before names it, of another channel, and of any
module _ (line : ℕ → List ℕ) where
  pub floor_named : (n i c : ℕ) → get_or (line (i + n)) 0 0 ≡ c → ((j : ℕ) → j < n → get_or (line (i + j)) 0 0 ≡ c → ⊥) →
      floor_in (tabulate (suc n) i line) c ≡ get_or (line (i + n)) 1 0
  unfolding floor_in tabulate
  floor_named zero i c h none = let e : i + 0 ≡ i = omega arith in rw (e, eq-eqb (get_or (line i) 0 0) c (rw e at h))
  floor_named (suc n) i c h none =
      let e : i + 0 ≡ i = omega arith in
      let next : (j : ℕ) → i + suc j ≡ suc i + j = λ j. omega arith in
      rw (ne_eqb (get_or (line i) 0 0) c (rw e at (none 0 (omega arith))), next n)
      (floor_named n (suc i) c (rw (next n) at h) (λ j l. rw (next j) at (none (suc j) (omega arith))))

  pub floor_unnamed : (n i c : ℕ) → (get_or (line (i + n)) 0 0 ≡ c → ⊥) → floor_in (tabulate (suc n) i line) c ≡ floor_in (tabulate n i line) c
  unfolding floor_in tabulate
  floor_unnamed zero i c h = let e : i + 0 ≡ i = omega arith in rw (ne_eqb (get_or (line i) 0 0) c (rw e at h))
  floor_unnamed (suc n) i c h =
      let e : i + suc n ≡ suc i + n = omega arith in
      ap (λ r. cond (eqb (get_or (line i) 0 0) c) (get_or (line i) 1 0) r) (floor_unnamed n (suc i) c (rw e at h))
