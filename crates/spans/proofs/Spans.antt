-- Shifting a span by a limit is exact; gathering spans is exact if any two of them touch. Assumes nothing.
-- A position in the gathered span is at or above the start of one of the spans and below the end of another; if it is in neither, the two do not touch.
use mathlib.Core.Path.{◌≡◌, refl}
use mathlib.Core.Bool.{Bool, true, false}
use mathlib.Core.Logic.{◌⊎◌, inl, inr}
use Prim.Native.Nat.{ℕ, zero, suc, ◌+◌, ◌-◌, ◌≤◌, ◌<◌, min, max}
use native.Mathlib.Omega.{arith}
use borrow.Author.Tests.{ltb-true, lt-ltb}
use Rattle.numbers.proofs.Orders.{le_or_lt, lt_or_eq}
use Rattle.spans.specs.Spans.{In, Fits, cut, shift_back, shift_on, nonempty, join_if, gather}
use Rattle.spans.specs.declared.Span.{Span}

-- a position of the other strip, within the limit
pub record Partner (b l r : ℕ) (s : Span) (x : ℕ) : Type 0 where
  pub other : ℕ
  pub inside : In s other
  pub fits : Fits b l r x other

pub record PartnerBelow (b l r : ℕ) (s : Span) (y : ℕ) : Type 0 where
  pub other : ℕ
  pub inside : In s other
  pub fits : Fits b l r other y

-- the partner that is furthest left
pub leftmost : (b l r : ℕ) (s : Span) (x : ℕ) → l ≤ r → s.from < s.upto → In (shift_back b l r s) x → In s (max s.from (x + l - b)) × Fits b l r x (max s.from (x + l - b))
leftmost b l r s x h k i = omega arith

pub shift_back_sound : (b l r : ℕ) (s : Span) (x : ℕ) → l ≤ r → s.from < s.upto → In (shift_back b l r s) x → Partner b l r s x
shift_back_sound b l r s x h k i = let m : _ = leftmost b l r s x h k i in record { other = _; inside = m.0; fits = m.1 }

pub shift_back_complete : (b l r : ℕ) (s : Span) (x y : ℕ) → In s y → Fits b l r x y → In (shift_back b l r s) x
shift_back_complete b l r s x y i f = omega arith

pub shift_on_sound : (b l r : ℕ) (s : Span) (y : ℕ) → l ≤ r → s.from < s.upto → In (shift_on b l r s) y → PartnerBelow b l r s y
shift_on_sound b l r s y h k i = record { other = max s.from (y + b - r); inside = omega arith; fits = omega arith }

pub shift_on_complete : (b l r : ℕ) (s : Span) (x y : ℕ) → In s x → Fits b l r x y → In (shift_on b l r s) y
shift_on_complete b l r s x y i f = omega arith

-- a limit within which something is, is open
pub fits_open : (b l r x y : ℕ) → Fits b l r x y → l ≤ r
fits_open b l r x y f = omega arith

pub cut_both : (w s : Span) (x : ℕ) → In w x → In s x → In (cut w s) x
cut_both w s x i j = omega arith

pub cut_left : (w s : Span) (x : ℕ) → In (cut w s) x → In w x
cut_left w s x i = omega arith

pub cut_right : (w s : Span) (x : ℕ) → In (cut w s) x → In s x
cut_right w s x i = omega arith

pub in_nonempty : (s : Span) (x : ℕ) → In s x → nonempty s ≡ true
in_nonempty s x i = lt-ltb s.from s.upto (omega arith)

pub nonempty_in : (s : Span) → nonempty s ≡ true → In s s.from
nonempty_in s e = record { above = omega arith; below = ltb-true s.from s.upto e }

-- one of the n numbers q, q + 1, .. has the property
pub record Among (P : ℕ → Type 0) (q n : ℕ) : Type 0 where
  pub at : ℕ
  pub early : q ≤ at
  pub late : at < q + n
  pub holds : P at

later : (P : ℕ → Type 0) (q n : ℕ) → Among P (suc q) n → Among P q (suc n)
later P q n a = record { at = a.at; early = omega arith; late = omega arith; holds = a.holds }

now_at : (P : ℕ → Type 0) (q n : ℕ) → P q → Among P q (suc n)
now_at P q n h = record { at = q; early = omega arith; late = omega arith; holds = h }

-- a span that is not empty starts, shifted back, at or below x; one that is not empty ends above x
pub record Starts (b : ℕ) (low high : ℕ → ℕ) (f : ℕ → Span) (x j : ℕ) : Type 0 where
  pub full : (f j).from < (f j).upto
  pub reach : (f j).from + b - high j ≤ x

pub record Ends (b : ℕ) (low high : ℕ → ℕ) (f : ℕ → Span) (x j : ℕ) : Type 0 where
  pub full : (f j).from < (f j).upto
  pub reach : x < (f j).upto + b - low j

-- shifted back, the spans at i and at j have no gap between them
pub record Touch (b : ℕ) (low high : ℕ → ℕ) (f : ℕ → Span) (i j : ℕ) : Type 0 where
  pub touch : (f j).from + b - high j ≤ (f i).upto + b - low i

abbrev pub Touching : (b : ℕ) → (low high : ℕ → ℕ) → (ℕ → Span) → (q n : ℕ) → Type 0
Touching b low high f q n = (i j : ℕ) → q ≤ i → i < q + n → q ≤ j → j < q + n → (f i).from < (f i).upto → (f j).from < (f j).upto → Touch b low high f i j

pub record Inside (b : ℕ) (low high : ℕ → ℕ) (f : ℕ → Span) (x j : ℕ) : Type 0 where
  pub full : (f j).from < (f j).upto
  pub inside : In (shift_back b (low j) (high j) (f j)) x

module _ (b : ℕ) (low high : ℕ → ℕ) (f : ℕ → Span) (x : ℕ) where
  gather_start : (q n : ℕ) (t : Span) → (gather b low high f q n t).from ≤ x → (t.from ≤ x) ⊎ Among (Starts b low high f x) q n
  unfolding gather
  gather_start q zero t h = inl h
  gather_start q (suc n) t h = go (nonempty (f q)) refl (gather_start (suc q) n _ h)
    where
      started : (f q).from < (f q).upto → (t.from ≤ x) ⊎ (x < t.from) → min t.from ((f q).from + b - high q) ≤ x → (t.from ≤ x) ⊎ Among (Starts b low high f x) q (suc n)
      started o (inl k) m = inl k
      started o (inr k) m = inr (now_at (Starts b low high f x) q n (omega arith))

      go : (v : Bool) → nonempty (f q) ≡ v → ((join_if v b (low q) (high q) (f q) t).from ≤ x) ⊎ Among (Starts b low high f x) (suc q) n → (t.from ≤ x) ⊎ Among (Starts b low high f x) q (suc n)
      go v e (inr a) = inr (later _ q n a)
      go false e (inl k) = inl k
      go true e (inl k) = started (ltb-true _ _ e) (le_or_lt _ _) k

  gather_end : (q n : ℕ) (t : Span) → x < (gather b low high f q n t).upto → (x < t.upto) ⊎ Among (Ends b low high f x) q n
  unfolding gather
  gather_end q zero t h = inl h
  gather_end q (suc n) t h = go (nonempty (f q)) refl (gather_end (suc q) n _ h)
    where
      ended : (f q).from < (f q).upto → (t.upto ≤ x) ⊎ (x < t.upto) → x < max t.upto ((f q).upto + b - low q) → (x < t.upto) ⊎ Among (Ends b low high f x) q (suc n)
      ended o (inl k) m = inr (now_at (Ends b low high f x) q n (omega arith))
      ended o (inr k) m = inl k

      go : (v : Bool) → nonempty (f q) ≡ v → (x < (join_if v b (low q) (high q) (f q) t).upto) ⊎ Among (Ends b low high f x) (suc q) n → (x < t.upto) ⊎ Among (Ends b low high f x) q (suc n)
      go v e (inr a) = inr (later _ q n a)
      go false e (inl k) = inl k
      go true e (inl k) = ended (ltb-true _ _ e) (le_or_lt _ _) k

  gather_keeps : (q n : ℕ) (t : Span) → In t x → In (gather b low high f q n t) x
  unfolding gather
  gather_keeps q zero t i = i
  gather_keeps q (suc n) t i = gather_keeps (suc q) n _ (go (nonempty (f q)))
    where
      go : (v : Bool) → In (join_if v b (low q) (high q) (f q) t) x
      go true = omega arith
      go false = i

  gather_now : (q n : ℕ) (t : Span) → nonempty (f q) ≡ true → In (shift_back b (low q) (high q) (f q)) x → In (gather b low high f q (suc n) t) x
  unfolding gather
  gather_now q n t e i = gather_keeps (suc q) n _ (go (nonempty (f q)) e)
    where
      go : (v : Bool) → v ≡ true → In (join_if v b (low q) (high q) (f q) t) x
      go true k = omega arith
      go false k = let z : ◌≡◌ {A = ℕ} 0 1 = cc in absurd (omega arith)

  -- what is in one of the spans shifted back, is in the gathered span
  pub gather_complete : (q n : ℕ) (t : Span) (j : ℕ) → q ≤ j → j < q + n → nonempty (f j) ≡ true → In (shift_back b (low j) (high j) (f j)) x → In (gather b low high f q n t) x
  unfolding gather
  gather_complete q zero t j h k e i = absurd (omega arith)
  gather_complete q (suc n) t j h k e i = go (λ m. gather_complete (suc q) n _ j m (omega arith) e i) (lt_or_eq q j h)
    where
      go : (q < j → In (gather b low high f q (suc n) t) x) → (q < j) ⊎ (q ≡ j) → In (gather b low high f q (suc n) t) x
      go rec (inl m) = rec m
      go rec (inr m) = gather_now q n t (rw m e) (rw m i)

  -- what is in the gathered span is in one of the spans shifted back, if any two of these touch
  pub gather_sound : (q n : ℕ) (t : Span) → x < t.from → t.upto ≡ 0 → Touching b low high f q n → In (gather b low high f q n t) x → Among (Inside b low high f x) q n
  gather_sound q n t k z touching i = go (gather_start q n t i.above) (gather_end q n t i.below)
    where
      one : (s : Among (Starts b low high f x) q n) (e : Among (Ends b low high f x) q n) → ((f s.at).upto + b - low s.at ≤ x) ⊎ (x < (f s.at).upto + b - low s.at) → Among (Inside b low high f x) q n
      one s e (inr h) = record { at = s.at; early = s.early; late = s.late; holds = omega arith }
      one s e (inl h) =
          let m : Touch b low high f s.at e.at = touching s.at e.at s.early s.late e.early e.late s.holds.full e.holds.full in
          record { at = e.at; early = e.early; late = e.late; holds = omega arith }

      go : (t.from ≤ x) ⊎ Among (Starts b low high f x) q n → (x < t.upto) ⊎ Among (Ends b low high f x) q n → Among (Inside b low high f x) q n
      go (inl h) e = absurd (omega arith)
      go (inr s) (inl h) = absurd (omega arith)
      go (inr s) (inr e) = one s e (le_or_lt _ _)
