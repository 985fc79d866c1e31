-- Pairs are wirable exactly if the code's test passes at each. Assumes nothing.
use mathlib.Core.Path.{◌≡◌, refl, sym, ◌∙◌}
use mathlib.Core.Bool.{Bool, true, false}
use mathlib.Core.List.{List}
use Prim.Native.Nat.{ℕ, zero, suc, ◌+◌, ◌-◌, ◌≤◌, ◌<◌}
use native.Mathlib.Omega.{arith}
use lib.ListN.{length, get_or}
use Rattle.std.specs.List.{list_all, range_with_len}
use native.Mathlib.Nat.{add-zero, zero-add}
use borrow.Author.Tests.{leb-true, le-leb}
use Rattle.numbers.proofs.Bools.{and_left, and_right, and_both, ands, not_true_false, impossible}
use Rattle.stack.specs.Stack.{Pair, p_at, q_at, wirable}
use Rattle.stack.specs.Value.{columns, channel_of}
use Rattle.stack.specs.declared.Terminals.{Terminals}
use Rattle.stack.proofs.Values.{channel_length, channel_p_at, channel_q_at}
use Rattle.stack.proofs.Feasible.{ByPairs, by_pairs_wirable, wirable_by_pairs}
use Rattle.feasibility.specs.Trying.{clear, clear_at}

-- what the test says
clear_says : (p q pt qt t a b : ℕ) → clear p q pt qt t a b ≡ true → (p + t + a ≤ b + qt) × (b + t + q ≤ pt + a)
unfolding clear
clear_says p q pt qt t a b e = (leb-true (p + t + a) (b + qt) (search ands), leb-true (b + t + q) (pt + a) (search ands))

says_clear : (p q pt qt t a b : ℕ) → p + t + a ≤ b + qt → b + t + q ≤ pt + a → clear p q pt qt t a b ≡ true
unfolding clear
says_clear p q pt qt t a b l r = rw (le-leb (p + t + a) (b + qt) l, le-leb (b + t + q) (pt + a) r)

all_clear_wirable : (c : List Pair) (t a b : ℕ) → ((i : ℕ) → i < length c - t → clear_at c t a b i ≡ true) → wirable c t a b ≡ true
unfolding clear_at
all_clear_wirable c t a b f =
    by_pairs_wirable c t a b
    (record {
      left = λ j i e h. let k : i ≡ j + t = omega arith in rw k (omega (arith, says j (omega arith)));
      right = λ j i e h. let k : i ≡ j + t = omega arith in rw k (omega (arith, says j (omega arith)));
    })
  where
    says : (j : ℕ) → j < length c - t → (p_at c j + t + a ≤ b + q_at c (j + t)) × (b + t + q_at c j ≤ p_at c (j + t) + a)
    says j h = clear_says (p_at c j) (q_at c j) (p_at c (j + t)) (q_at c (j + t)) t a b (f j h)

wirable_all_clear : (c : List Pair) (t a b i : ℕ) → i < length c - t → wirable c t a b ≡ true → clear_at c t a b i ≡ true
unfolding clear_at
wirable_all_clear c t a b i h e =
    let f : ByPairs c t a b = wirable_by_pairs c t a b e in
    let l = f.left i (i + t) refl (omega arith) in
    let r = f.right i (i + t) refl (omega arith) in
    says_clear (p_at c i) (q_at c i) (p_at c (i + t)) (q_at c (i + t)) t a b (omega arith) (omega arith)

-- a test of each of the n numbers from i on
passes_each : (p : ℕ → Bool) (n i j : ℕ) → list_all p (range_with_len i n) ≡ true → j < n → p (i + j) ≡ true
passes_each p zero i j e h = absurd (omega arith)
passes_each p (suc n) i zero e h = rw add-zero (and_left (p i) _ e)
passes_each p (suc n) i (suc j) e h = let s : i + suc j ≡ i + 1 + j = omega arith in rw s (passes_each p n (i + 1) j (and_right (p i) _ e) (omega arith))

each_passes : (p : ℕ → Bool) (n i : ℕ) → ((j : ℕ) → j < n → p (i + j) ≡ true) → list_all p (range_with_len i n) ≡ true
each_passes p zero i f = refl
each_passes p (suc n) i f =
    and_both (p i) _ (rw add-zero at (f 0 (omega arith)))
    (each_passes p n (i + 1) (λ j h. let s : i + 1 + j ≡ i + suc j = omega arith in rw s (f (suc j) (omega arith))))

-- pairs are wirable exactly if the test passes at each of them that has one t places on
pub all_clear_is : (k : Terminals) (t a b : ℕ) →
    list_all (λ i. clear (get_or k.lower i (columns 0)).0 (get_or k.upper i (columns 0)).0 (get_or k.lower (i + t) (columns 0)).0 (get_or k.upper (i + t) (columns 0)).0 t a b)
    (range_with_len 0 (k.count - t)) ≡ wirable (channel_of k) t a b
unfolding clear_at
all_clear_is k t a b = go (wirable (channel_of k) t a b) refl
  where
    p : ℕ → Bool
    p i = clear (get_or k.lower i (columns 0)).0 (get_or k.upper i (columns 0)).0 (get_or k.lower (i + t) (columns 0)).0 (get_or k.upper (i + t) (columns 0)).0 t a b

    same : (i : ℕ) → i < k.count - t → clear_at (channel_of k) t a b i ≡ p i
    same i h = rw (channel_p_at k i (omega arith), channel_q_at k i (omega arith), channel_p_at k (i + t) (omega arith), channel_q_at k (i + t) (omega arith)) refl

    go : (w : Bool) → wirable (channel_of k) t a b ≡ w → list_all p (range_with_len 0 (k.count - t)) ≡ w
    go true e = each_passes p (k.count - t) 0 (λ j h. rw zero-add (sym (same j h) ∙ wirable_all_clear (channel_of k) t a b j (omega (arith, channel_length k)) e))
    go false e =
        not_true_false _ (λ f.
        let all : wirable (channel_of k) t a b ≡ true =
        all_clear_wirable (channel_of k) t a b (λ j h. let l : j < k.count - t = omega (arith, channel_length k) in same j l ∙ rw zero-add at (passes_each p (k.count - t) 0 j f l)) in
        impossible (sym e ∙ all))
