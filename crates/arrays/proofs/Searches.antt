-- The laws of a search: how it starts, goes on by one and ends. Assumes nothing.
use mathlib.Core.Path.{◌≡◌, refl, sym, ap, ◌∙◌}
use mathlib.Core.Bool.{Bool, true, false}
use Prim.Native.Nat.{ℕ, zero, suc, ◌+◌, ◌-◌, ◌≤◌, ◌<◌}
use native.Mathlib.Nat.{add-zero, sub-zero}
use native.Mathlib.Numerals.{add-one}
use native.Mathlib.Omega.{arith}
use borrow.Author.Tests.{lt-ltb, le-ltb}
use Rattle.std.specs.List.{find, range_with_len}
use Rattle.std.specs.Option.{unwrap_or, option_map}
use Rattle.std.specs.Prelude.{Option, None, Some}
use Rattle.spans.specs.Spans.{span, nonempty}
use Rattle.spans.specs.declared.Span.{Span}
use Rattle.spans.specs.Solver.{first, first_total}
use Rattle.arrays.specs.Search.{Searching}
use Rattle.spans.proofs.First.{first_hit, first_miss}

pub one_left : (stop q : ℕ) → q < stop → suc (stop - suc q) ≡ stop - q
one_left stop q h = omega arith

pub none_left : (stop q : ℕ) → stop ≤ q → 0 ≡ stop - q
none_left stop q h = omega arith

module _ (f : ℕ → Bool) (stop q : ℕ) where
  module _ (found : ℕ) (s : Searching f stop q found) where
    pub searching_hit : q < stop → f q ≡ true → q ≡ found
    searching_hit h e = sym (first_hit f q (stop - suc q) e) ∙ (ap (first f q) (one_left stop q h) ∙ s.left)

    pub searching_miss : q < stop → f q ≡ false → Searching f stop (q + 1) found
    searching_miss h e =
        rw add-one (record { left = sym (first_miss f q (stop - suc q) e) ∙ (ap (first f q) (one_left stop q h) ∙ s.left) })

    pub searching_end : stop ≤ q → q ≡ found
    unfolding first
    searching_end h = ap (first f q) (none_left stop q h) ∙ s.left

-- WHAT `find` FINDS among the n numbers from q on, or else q + n, is the first at which f is true
found_or : (f : ℕ → Bool) (q n : ℕ) → unwrap_or (find f (range_with_len q n)) (q + n) ≡ first f q n
unfolding first
found_or f q zero = add-zero q
found_or f q (suc n) = go (f q) refl (found_or f (q + 1) n)
  where
    go : (b : Bool) → f q ≡ b → unwrap_or (find f (range_with_len (q + 1) n)) (q + 1 + n) ≡ first f (q + 1) n →
        unwrap_or (find f (range_with_len q (suc n))) (q + suc n) ≡ first f q (suc n)
    go true e r = rw e (sym (first_hit f q n e))
    go false e r = let s : q + suc n ≡ q + 1 + n = omega arith in rw (e, s) (r ∙ rw add-one (sym (first_miss f q n e)))

same_or : (r : Option ℕ) (d : ℕ) → unwrap_or r d ≡ unwrap_or (option_map (λ x. x) r) d
same_or None d = refl
same_or (Some x) d = refl

pub found_first : (f : ℕ → Bool) (q n d : ℕ) (r : Option ℕ) → option_map (λ x. x) r ≡ find f (range_with_len q n) → d ≡ q + n → unwrap_or r d ≡ first f q n
found_first f q n d r e k = same_or r d ∙ (rw (e, k) (found_or f q n))

-- the search for the first total
pub totalling_start : (f : ℕ → Span) (m : ℕ) → Searching (λ v. nonempty (f v)) (suc m) 0 (first_total f m)
unfolding first_total
totalling_start f m = record { left = ap (first (λ v. nonempty (f v)) 0) (sub-zero (suc m)) }

-- the ends of a span tell whether it is empty
module _ (x y : ℕ) (s : Span) (e : span x y ≡ s) where
  pub ends_full : x < y → nonempty s ≡ true
  ends_full h = rw (← e) (lt-ltb x y h)

  pub ends_empty : y ≤ x → nonempty s ≡ false
  ends_empty h = rw (← e) (le-ltb x y h)
