-- The laws of the loop that fills the arrays of limits from separation 1 on, and of the separation 0 that repeats the first: start, step and end. Assumes nothing.
use mathlib.Core.Path.{◌≡◌, refl, sym, ◌∙◌, ap}
use mathlib.Core.Bool.{true}
use mathlib.Core.List.{List}
use mathlib.Core.Logic.{◌⊎◌, inl, inr}
use Prim.Native.Nat.{ℕ, zero, suc, ◌+◌, ◌*◌, ◌-◌, ◌≤◌, ◌<◌}
use native.Mathlib.Numerals.{add-one}
use native.Mathlib.Omega.{arith}
use lib.ListN.{get_or, set, replicate}
use borrow.Author.Tests.{lt-ltb, le-ltb}
use Rattle.numbers.specs.Lists.{tabulate}
use Rattle.numbers.proofs.Lists.{get_or_tabulate, tabulate_same, tabulate_constant, tabulate_set}
use Rattle.numbers.proofs.Orders.{le_or_lt}
use Rattle.stack.specs.Limits.{on_strips}
use Rattle.stack.specs.Sizes.{separations_held}
use Rattle.stack.specs.Value.{channel_of}
use Rattle.stack.specs.declared.Terminals.{Terminals}
use Rattle.stack.proofs.Values.{channel_length}
use Rattle.limits.specs.Limits.{low_limit, high_limit}
use Rattle.channel.specs.Seeking.{bias, term_bias, narrowed, low_found, high_found, row_from_one, Filling, PairsLimits}
use Rattle.limits.proofs.Between.{low_open, high_open}
use Rattle.channel.proofs.Terms.{narrowed_padded, low_limit_found, high_limit_found}

-- ONE ROW
module _ (f : ℕ → ℕ) (d : ℕ) where
  row_empty : (s : ℕ) → row_from_one f d 0 s ≡ d
  unfolding row_from_one
  row_empty zero = refl
  row_empty (suc s) = rw (le-ltb s 0 (omega arith))

  row_filled : (t s : ℕ) → s < t → row_from_one f d t (suc s) ≡ f s
  unfolding row_from_one
  row_filled t s h = rw (lt-ltb s t h)

  row_open : (t s : ℕ) → t ≤ s → row_from_one f d t (suc s) ≡ d
  unfolding row_from_one
  row_open t s h = rw (le-ltb s t h)

  row_starts : replicate separations_held d ≡ tabulate separations_held 0 (λ s. row_from_one f d 0 s)
  row_starts =
      sym (tabulate_same separations_held 0 (λ s. row_from_one f d 0 s) (λ s. d) (λ j a b. row_empty j) ∙ tabulate_constant separations_held 0 d)

  -- one place more
  row_other : (t j : ℕ) → (j ≡ t + 1 → ⊥) → row_from_one f d (t + 1) j ≡ row_from_one f d t j
  unfolding row_from_one
  row_other t zero n = refl
  row_other t (suc s) n = go (le_or_lt t s)
    where
      go : (t ≤ s) ⊎ (s < t) → row_from_one f d (t + 1) (suc s) ≡ row_from_one f d t (suc s)
      go (inl l) = row_open (t + 1) s (omega arith) ∙ sym (row_open t s l)
      go (inr l) = row_filled (t + 1) s (omega arith) ∙ sym (row_filled t s l)

  row_new : (t : ℕ) → row_from_one f d (t + 1) (t + 1) ≡ f t
  row_new t = ap (λ j. row_from_one f d (t + 1) j) (add-one t) ∙ row_filled (t + 1) t (omega arith)

  row_steps : (t v : ℕ) (row : List ℕ) → v ≡ f t → row ≡ tabulate separations_held 0 (λ s. row_from_one f d t s) →
      set row (t + 1) v ≡ tabulate separations_held 0 (λ s. row_from_one f d (t + 1) s)
  row_steps t v row a r =
      rw r
      (sym (tabulate_set separations_held (t + 1) (λ s. row_from_one f d t s) (λ s. row_from_one f d (t + 1) s) v (row_new t ∙ sym a) (row_other t)))

  -- the first place repeats the second: then the row is a rule's, a place later, if that rule is f for the first n and d from there on
  module _ (n : ℕ) (g : ℕ → ℕ) (same : (s : ℕ) → s < n → f s ≡ g s) (past : (s : ℕ) → n ≤ s → g s ≡ d) where
    row_is : (s : ℕ) → row_from_one f d n (suc s) ≡ g s
    row_is s = go (le_or_lt n s)
      where
        go : (n ≤ s) ⊎ (s < n) → row_from_one f d n (suc s) ≡ g s
        go (inl l) = row_open n s l ∙ sym (past s l)
        go (inr l) = row_filled n s l ∙ same s l

    row_later : (j : ℕ) → (j ≡ 0 → ⊥) → g (j - 1) ≡ row_from_one f d n j
    row_later zero h = absurd (h refl)
    row_later (suc s) h = let e : suc s - 1 ≡ s = omega arith in rw e (sym (row_is s))

    row_ends : (row : List ℕ) → row ≡ tabulate separations_held 0 (λ s. row_from_one f d n s) →
        set row 0 (get_or row 1 0) ≡ tabulate separations_held 0 (λ s. g (s - 1))
    row_ends row r =
        rw r
        (sym (tabulate_set separations_held 0 (λ s. row_from_one f d n s) (λ s. g (s - 1)) _
        (sym (get_or_tabulate separations_held 1 (λ s. row_from_one f d n s) 0 (omega arith) ∙ row_is 0)) row_later))

-- BOTH ROWS
pub filling_starts : (f g : ℕ → ℕ) (n : ℕ) → Filling f g n 0 (replicate separations_held 0) (replicate separations_held (2 * bias))
filling_starts f g n = record { below = omega arith; lows = row_starts f 0; highs = row_starts g (2 * bias) }

pub filling_steps : (f g : ℕ → ℕ) (n t : ℕ) (low high : List ℕ) (l u : ℕ) → t < n → Filling f g n t low high → l ≡ f t → u ≡ g t →
    Filling f g n (t + 1) (set low (t + 1) l) (set high (t + 1) u)
filling_steps f g n t low high l u h s a b =
    record { below = omega arith; lows = row_steps f 0 t l low a s.lows; highs = row_steps g (2 * bias) t u high b s.highs }

pub filling_ends : (k : Terminals) (t : ℕ) (ps qs ps_on qs_on low high : List ℕ) → k.count ≤ 32 → on_strips 1000 1000 (channel_of k) ≡ true → k.count ≤ t →
    ps ≡ narrowed k.lower k.count 0 → qs ≡ narrowed k.upper k.count 0 →
    ps_on ≡ narrowed k.lower k.count term_bias → qs_on ≡ narrowed k.upper k.count term_bias →
    Filling (λ s. low_found ps qs_on s) (λ s. high_found ps_on qs s) k.count t low high →
    PairsLimits (channel_of k) (set low 0 (get_or low 1 0)) (set high 0 (get_or high 1 0))
filling_ends k t ps qs ps_on qs_on low high few on past p q p_on q_on s =
    let c = channel_of k in
    let long = channel_length k in
    let e : t ≡ k.count = omega (arith, s.below) in
    record {
      lows =
          row_ends (λ s. low_found ps qs_on s) 0 k.count (λ s. low_limit bias c s)
          (λ s h. rw (p, q_on) (low_limit_found c _ s (omega arith) (omega arith) on (narrowed_padded k 0 term_bias few)))
          (λ s h. low_open bias c s (omega arith)) low (rw e at s.lows);
      highs =
          row_ends (λ s. high_found ps_on qs s) (2 * bias) k.count (λ s. high_limit bias c s)
          (λ s h. rw (p_on, q) (high_limit_found c _ s (omega arith) (omega arith) on (narrowed_padded k term_bias 0 few)))
          (λ s h. high_open bias c s (omega arith)) high (rw e at s.highs);
    }
