-- A row of limits closed below a floor; limits of pairs, so closed, are the channel's. Assumes nothing.
use mathlib.Core.Path.{◌≡◌, sym, ap, ◌∙◌}
use mathlib.Core.List.{List, ◌++◌}
use mathlib.Core.Logic.{◌⊎◌, inl, inr}
use Prim.Native.Nat.{ℕ, ◌+◌, ◌*◌, ◌-◌, ◌≤◌, ◌<◌}
use native.Mathlib.Omega.{arith}
use lib.ListN.{length, get_or, drop, replicate, get_or-append, get_or-replicate}
use Rattle.std.proofs.lemmas.List.{get_or-drop, length-append, length-replicate, length-drop}
use lib.Seq.{ext_get_or, get_or-append-add}
use Rattle.numbers.specs.Lists.{tabulate}
use Rattle.numbers.proofs.Orders.{le_or_lt}
use Rattle.numbers.proofs.Lists.{length_tabulate, get_or_tabulate, tabulate_same}
use Rattle.stack.specs.Stack.{Channel}
use Rattle.stack.specs.Sizes.{separations_held}
use Rattle.limits.specs.Limits.{low_limit, high_limit, from_floor, low_floored, high_floored}
use Rattle.limits.proofs.Floors.{from_below, from_at}
use Rattle.channel.specs.Seeking.{bias, PairsLimits, LimitsOf}

-- a row whose first places are filled anew
pub closed_below : (xs : List ℕ) (d n : ℕ) → n ≤ separations_held → length xs ≡ separations_held →
    replicate n d ++ drop n xs ≡ tabulate separations_held 0 (λ q. from_floor n d (λ s. get_or xs s 0) q)
closed_below xs d n h long =
    let g : ℕ → ℕ = λ q. from_floor n d (λ s. get_or xs s 0) q in
    let all : length (replicate n d ++ drop n xs) ≡ separations_held = omega (arith, length-append (replicate n d) (drop n xs), length-replicate n d, length-drop n xs) in
    ext_get_or 0 (replicate n d ++ drop n xs) (tabulate separations_held 0 g) (all ∙ sym (length_tabulate separations_held 0 g))
    (λ j k. at j (le_or_lt n j) ∙ sym (get_or_tabulate separations_held j g 0 (omega arith)))
  where
    at : (j : ℕ) → (n ≤ j) ⊎ (j < n) → get_or (replicate n d ++ drop n xs) j 0 ≡ from_floor n d (λ s. get_or xs s 0) j
    at j (inl l) =
        let place : j ≡ length (replicate n d) + (j - n) = omega (arith, length-replicate n d) in
        let old : n + (j - n) ≡ j = omega arith in
        ap (λ i. get_or (replicate n d ++ drop n xs) i 0) place ∙ get_or-append-add (replicate n d) (drop n xs) (j - n) 0
        ∙ (get_or-drop n xs (j - n) 0 ∙ rw old (sym (from_at n d (λ s. get_or xs s 0) j l)))
    at j (inr l) =
        get_or-append (replicate n d) (drop n xs) 0 j (omega (arith, length-replicate n d)) ∙ get_or-replicate n j d 0 l
        ∙ sym (from_below n d (λ s. get_or xs s 0) j l)

-- limits of pairs, closed below the floor, are the channel's
closed_rule : (f d : ℕ) (g : ℕ → ℕ) (xs : List ℕ) → xs ≡ tabulate separations_held 0 g →
    tabulate separations_held 0 (λ q. from_floor f d (λ s. get_or xs s 0) q) ≡ tabulate separations_held 0 (λ q. from_floor f d g q)
unfolding from_floor
closed_rule f d g xs e =
    tabulate_same separations_held 0 (λ q. from_floor f d (λ s. get_or xs s 0) q) (λ q. from_floor f d g q)
    (λ j a b. let same : get_or xs j 0 ≡ g j = rw e (get_or_tabulate separations_held j g 0 (omega arith)) in rw same)

pub limits_closed : (c : Channel) (xs ys low high : List ℕ) → PairsLimits c.pairs xs ys →
    low ≡ tabulate separations_held 0 (λ q. from_floor c.floor (2 * bias) (λ s. get_or xs s 0) q) →
    high ≡ tabulate separations_held 0 (λ q. from_floor c.floor 0 (λ s. get_or ys s 0) q) → LimitsOf c (record { low = low; high = high })
unfolding low_floored high_floored
limits_closed c xs ys low high p l h = record {
  low = l ∙ closed_rule c.floor (2 * bias) (λ s. low_limit bias c.pairs (s - 1)) xs p.lows;
  high = h ∙ closed_rule c.floor 0 (λ s. high_limit bias c.pairs (s - 1)) ys p.highs;
}
