-- Eight marks, 1 where a path only passes upward, compared as one number: where it is that of eight ones, no path of the eight runs. The code compares the eight columns
-- themselves; they are the same exactly where the marks are eight ones. Assumes nothing.
use mathlib.Core.Path.{◌≡◌, refl, sym, ◌∙◌}
use mathlib.Core.Bool.{Bool, true, false, cond}
use mathlib.Core.List.{List}
use mathlib.Core.Logic.{◌⊎◌, inl, inr}
use Prim.Native.Nat.{ℕ, zero, suc, ◌+◌, ◌*◌, ◌≤◌, ◌<◌}
use native.Mathlib.Nat.{zero-add}
use native.Mathlib.Omega.{arith}
use borrow.Author.Tests.{ne_eqb, eq-eqb}
use lib.Dec.{eqb}
use lib.ListN.{length, get_or, replicate, get_or-replicate}
use lib.Seq.{ext_get_or}
use Rattle.numbers.specs.Lists.{tabulate}
use Rattle.numbers.proofs.Lists.{get_or_tabulate}
use Rattle.numbers.proofs.Orders.{eq_or_not}
use Rattle.track.specs.Marks.{eight_of, upward}

same_two : (a b c d : ℕ) → a < 256 → c < 256 → a + 256 * b ≡ c + 256 * d → (a ≡ c) × (b ≡ d)
same_two a b c d l m e = (omega arith, omega arith)

same_four : (a c x y : ℕ) → a < 65536 → c < 65536 → a + 65536 * x ≡ c + 65536 * y → (a ≡ c) × (x ≡ y)
same_four a c x y l m e = (omega arith, omega arith)

same_eight : (xs ys : List ℕ) (a : ℕ) → ((i : ℕ) → i < 8 → get_or xs (a + i) 0 < 256) → ((i : ℕ) → i < 8 → get_or ys (a + i) 0 < 256) → eight_of xs a ≡ eight_of ys a
    → (i : ℕ) → i < 8 → get_or xs (a + i) 0 ≡ get_or ys (a + i) 0
unfolding eight_of
same_eight xs ys a f g e =
    let p = same_four _ _ _ _ (omega (arith, f 0 (omega arith), f 1 (omega arith))) (omega (arith, g 0 (omega arith), g 1 (omega arith))) e in
    let q = same_four _ _ _ _ (omega (arith, f 2 (omega arith), f 3 (omega arith))) (omega (arith, g 2 (omega arith), g 3 (omega arith))) p.1 in
    let r = same_four _ _ _ _ (omega (arith, f 4 (omega arith), f 5 (omega arith))) (omega (arith, g 4 (omega arith), g 5 (omega arith))) q.1 in
    let h = same_two _ _ _ _ (f 0 (omega arith)) (g 0 (omega arith)) p.0 in
    let k = same_two _ _ _ _ (f 2 (omega arith)) (g 2 (omega arith)) q.0 in
    let l = same_two _ _ _ _ (f 4 (omega arith)) (g 4 (omega arith)) r.0 in
    let m = same_two _ _ _ _ (f 6 (omega arith)) (g 6 (omega arith)) r.1 in
    among h.0 h.1 k.0 k.1 l.0 l.1 m.0 m.1
  where
    among : get_or xs (a + 0) 0 ≡ get_or ys (a + 0) 0 → get_or xs (a + 1) 0 ≡ get_or ys (a + 1) 0 → get_or xs (a + 2) 0 ≡ get_or ys (a + 2) 0 → get_or xs (a + 3) 0 ≡ get_or ys (a + 3) 0
        → get_or xs (a + 4) 0 ≡ get_or ys (a + 4) 0 → get_or xs (a + 5) 0 ≡ get_or ys (a + 5) 0 → get_or xs (a + 6) 0 ≡ get_or ys (a + 6) 0 → get_or xs (a + 7) 0 ≡ get_or ys (a + 7) 0
        → (i : ℕ) → i < 8 → get_or xs (a + i) 0 ≡ get_or ys (a + i) 0
    among h0 h1 h2 h3 h4 h5 h6 h7 zero l = h0
    among h0 h1 h2 h3 h4 h5 h6 h7 (suc zero) l = h1
    among h0 h1 h2 h3 h4 h5 h6 h7 (suc (suc zero)) l = h2
    among h0 h1 h2 h3 h4 h5 h6 h7 (suc (suc (suc zero))) l = h3
    among h0 h1 h2 h3 h4 h5 h6 h7 (suc (suc (suc (suc zero)))) l = h4
    among h0 h1 h2 h3 h4 h5 h6 h7 (suc (suc (suc (suc (suc zero))))) l = h5
    among h0 h1 h2 h3 h4 h5 h6 h7 (suc (suc (suc (suc (suc (suc zero)))))) l = h6
    among h0 h1 h2 h3 h4 h5 h6 h7 (suc (suc (suc (suc (suc (suc (suc zero))))))) l = h7
    among h0 h1 h2 h3 h4 h5 h6 h7 (suc (suc (suc (suc (suc (suc (suc (suc i)))))))) l = absurd (omega arith)

upward_one : (s e : ℕ) → upward s e ≡ 1 → s ≡ e
unfolding upward
upward_one s e h = go (eq_or_not s e)
  where
    go : (s ≡ e) ⊎ (s ≡ e → ⊥) → s ≡ e
    go (inl k) = k
    go (inr k) = let z : ◌≡◌ {A = ℕ} 0 1 = rw (ne_eqb s e k) at h in absurd (omega arith)

upward_low : (s e : ℕ) → upward s e < 256
unfolding upward
upward_low s e = go (eqb s e)
  where
    go : (b : Bool) → cond b 1 0 < 256
    go true = omega arith
    go false = omega arith

ones_at : (a i : ℕ) → a ≤ 24 → i < 8 → ◌≡◌ {A = ℕ} (get_or (replicate 32 1) (a + i) 0) 1
ones_at a i l h = get_or-replicate 32 (a + i) 1 0 (omega arith)

eight_ones : (a : ℕ) → a ≤ 24 → eight_of (replicate 32 1) a ≡ 72340172838076673
unfolding eight_of
eight_ones a l =
    rw (ones_at a 0 l (omega arith), ones_at a 1 l (omega arith), ones_at a 2 l (omega arith), ones_at a 3 l (omega arith), ones_at a 4 l (omega arith), ones_at a 5 l (omega arith), ones_at a 6 l (omega arith), ones_at a 7 l (omega arith))

-- eight ones: none of eight paths runs
pub none_run : (starts ends marks : List ℕ) (a : ℕ) → a ≤ 24 → marks ≡ tabulate 32 0 (λ j. upward (get_or starts j 0) (get_or ends j 0)) → eight_of marks a ≡ 72340172838076673
    → (i : ℕ) → i < 8 → get_or starts (a + i) 0 ≡ get_or ends (a + i) 0
none_run starts ends marks a l m h i k =
    upward_one (get_or starts (a + i) 0) (get_or ends (a + i) 0)
    (sym (mark_at i k) ∙ same_eight marks (replicate 32 1) a (λ n o. rw (mark_at n o) (upward_low _ _)) (λ n o. rw (ones_at a n l o) (omega arith)) (h ∙ sym (eight_ones a l)) i k ∙ ones_at a i l k)
  where
    mark_at : (n : ℕ) → n < 8 → get_or marks (a + n) 0 ≡ upward (get_or starts (a + n) 0) (get_or ends (a + n) 0)
    mark_at n o = rw m (get_or_tabulate 32 (a + n) (λ j. upward (get_or starts j 0) (get_or ends j 0)) 0 (omega arith))

-- WHAT THE CODE COMPARES: the columns of eight paths where they come and where they leave
abbrev pub marks_of : (starts ends : List ℕ) → List ℕ
marks_of starts ends = tabulate 32 0 (λ j. upward (get_or starts j 0) (get_or ends j 0))

upward_same : (s : ℕ) → upward s s ≡ 1
unfolding upward
upward_same s = rw (eq-eqb s s refl)

same_marks : (xs : List ℕ) (i : ℕ) → i < 8 → get_or (marks_of xs xs) i 0 ≡ 1
same_marks xs i l = get_or_tabulate 32 i (λ j. upward (get_or xs j 0) (get_or xs j 0)) 0 (omega arith) ∙ upward_same (get_or xs i 0)

-- they are the same exactly where the marks are eight ones
pub columns_same : (starts ends : List ℕ) → starts ≡ ends → eight_of (marks_of starts ends) 0 ≡ 72340172838076673
unfolding eight_of
columns_same starts ends e =
    rw (← e) (rw (same_marks starts 0 (omega arith), same_marks starts 1 (omega arith), same_marks starts 2 (omega arith), same_marks starts 3 (omega arith), same_marks starts 4 (omega arith), same_marks starts 5 (omega arith), same_marks starts 6 (omega arith), same_marks starts 7 (omega arith)))

ones_run : (starts ends : List ℕ) → eight_of (marks_of starts ends) 0 ≡ 72340172838076673 → (i : ℕ) → i < 8 → get_or starts i 0 ≡ get_or ends i 0
ones_run starts ends h i k = rw (zero-add i) at (none_run starts ends (marks_of starts ends) 0 (omega arith) refl h i k)

pub marks_same : (starts ends : List ℕ) → length starts ≡ 8 → length ends ≡ 8 → eight_of (marks_of starts ends) 0 ≡ 72340172838076673 → starts ≡ ends
marks_same starts ends l m h = ext_get_or 0 starts ends (l ∙ sym m) (λ i k. ones_run starts ends h i (omega arith))

-- so eight paths at the same columns where they come and where they leave do not run
pub none_runs : (starts ends : List ℕ) → starts ≡ ends → (i : ℕ) → i < 8 → get_or starts i 0 ≡ get_or ends i 0
none_runs starts ends e = ones_run starts ends (columns_same starts ends e)
