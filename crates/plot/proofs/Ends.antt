-- What arrivals are worked out from: filled in pair by pair, it is the channel's, and what it gives are the arrivals of the channel's paths. Assumes nothing.
use mathlib.Core.Path.{◌≡◌, refl, sym, ◌∙◌}
use mathlib.Core.Bool.{cond}
use mathlib.Core.List.{List}
use mathlib.Core.Logic.{◌⊎◌, inl, inr}
use Prim.Native.Nat.{ℕ, zero, suc, ◌+◌, ◌-◌, ◌≤◌, ◌<◌, min, max}
use native.Mathlib.Omega.{arith}
use borrow.Author.Tests.{lt-ltb, le-ltb, le-leb, lt-leb}
use lib.Dec.{ltb, leb}
use lib.ListN.{length, get_or, set, replicate, length-replicate, get_or-replicate, get_or-eq_default}
use lib.Seq.{get_or-set_same, get_or-set_other}
use Rattle.numbers.specs.Lists.{tabulate}
use Rattle.numbers.proofs.Lists.{get_or_tabulate, zeros_at}
use Rattle.numbers.proofs.Orders.{le_or_lt, eq_or_not}
use Rattle.stack.specs.Stack.{p_at}
use Rattle.stack.specs.Value.{channel_of}
use Rattle.stack.specs.declared.Terminals.{Terminals}
use Rattle.stack.proofs.Values.{channel_length, channel_p_at, channel_q_at}
use Rattle.stack.proofs.Rising.{rising_before}
use Rattle.routing.specs.Wiring.{wiring}
use Rattle.page.specs.Page.{character}
use Rattle.page.specs.Arrivals.{ChannelPlaced, EndsAre, right_arrival, left_arrival, arrival, track_painted}
use Rattle.page.proofs.Painted.{painted_right}
use Rattle.plot.specs.declared.Levels.{Levels}
use Rattle.plot.specs.Drawing.{passing, reached, track_drawn, ArrivalsShown, EndsAsk, LevelsFilled}
use denote.Param.Members.{Mut, Called}
use Rattle.std.specs.Array.{IsFromFnResult, IsFromFnResultFrom}
use Rattle.track.proofs.Rows.{front_end, painted_same}

-- what the code works out
pub reached_by : (levels : Levels) (y j n h v : ℕ) → n ≡ y - 1 → h ≡ min n 32
    → v ≡ min (get_or levels.upto j 0) (get_or levels.ahead (j + n) 0 + j) + max (get_or levels.upto j 0) (get_or levels.back (32 + j - h) 0 + j) - get_or levels.upto j 0
    → v ≡ reached levels y j
unfolding reached passing
reached_by levels y j n h v a e d = rw (← a) (rw e at d)

-- an array made by a closure that computes h and stays as it was
closure_made : {F : Type 0} (g : Mut F (ℕ × Unit {0}) ℕ) (h : ℕ → ℕ) (f : F) (ys : List ℕ) (i n : ℕ) → ((j r : ℕ) (q : F) → j < i + n → Called g f (j, tt) r q → (q ≡ f) × (r ≡ h j))
    → IsFromFnResultFrom g f ys i n → (j : ℕ) → i ≤ j → j < i + n → get_or ys j 0 ≡ h j
closure_made g h f ys i zero gives made j l m = absurd (omega arith)
closure_made g h f ys i (suc n) gives made j l m =
    let told = gives i made.1 made.0 (omega arith) made.3 in
    go (eq_or_not j i) told (λ e o. closure_made g h f ys (i + 1) n (λ k r q o. gives k r q (omega arith)) (rw o.0 at made.4) j (omega arith) (omega arith))
  where
    go : (j ≡ i) ⊎ (j ≡ i → ⊥) → (made.0 ≡ f) × (made.1 ≡ h i) → ((j ≡ i → ⊥) → (made.0 ≡ f) × (made.1 ≡ h i) → get_or ys j 0 ≡ h j) → get_or ys j 0 ≡ h j
    go (inl e) told rest = rw e (made.2.1 0 ∙ told.1)
    go (inr e) told rest = rest e told

pub arrivals_made : {F : Type 0} (g : Mut F (ℕ × Unit {0}) ℕ) (h : ℕ → ℕ) (f : F) (ys : List ℕ) → ((j r : ℕ) (q : F) → j < 32 → Called g f (j, tt) r q → (q ≡ f) × (r ≡ h j))
    → IsFromFnResult g f ys 32 → ys ≡ tabulate 32 0 h
arrivals_made g h f ys gives made = front_end h ys 32 32 (omega arith) made.long (λ j l. closure_made g h f ys 0 32 (λ k r q m. gives k r q (omega arith)) made.each j (omega arith) (omega arith))

-- LOW NUMBERS stay low
low_copies : (n v b i : ℕ) → v ≤ b → get_or (replicate n v) i 0 ≤ b
low_copies n v b i h = go (le_or_lt n i)
  where
    go : (n ≤ i) ⊎ (i < n) → get_or (replicate n v) i 0 ≤ b
    go (inl l) = rw (get_or-eq_default (replicate n v) 0 {n = i} (rw length-replicate l)) (omega arith)
    go (inr l) = rw (get_or-replicate n i v 0 l) h

-- PAIR BY PAIR
pub levels_start : (k : Terminals) (a b : ℕ) → LevelsFilled k a b 0 (record { ahead = replicate 96 64; back = replicate 64 0; upto = replicate 32 0; count = k.count })
levels_start k a b =
    record {
      counted = refl;
      sized_ahead = length-replicate {A = ℕ} 96 64;
      sized_back = length-replicate {A = ℕ} 64 0;
      sized_upto = length-replicate {A = ℕ} 32 0;
      ahead_are = λ j l. absurd (omega arith);
      ahead_none = λ j l m. get_or-replicate 96 j 64 0 m;
      back_are = λ j l. absurd (omega arith);
      back_none = λ j l. zeros_at 64 j;
      upto_are = λ j l. absurd (omega arith);
      low = record {
        ahead_low = λ i. low_copies 96 64 64 i (omega arith);
        back_low = λ i. low_copies 64 0 64 i (omega arith);
        upto_low = λ i. let h = low_copies 32 0 63 i (omega arith) in omega arith;
      };
    }

-- THE CHANNEL'S
module _ (k : Terminals) (t a b : ℕ) (p : ChannelPlaced 63 (channel_of k) t a b) where
  pub ends_asked : EndsAsk k a b
  ends_asked = record {
    few = omega (arith, p.few, channel_length k);
    lower_shown = λ j l. let h = p.from_within j (omega (arith, channel_length k)) in omega (arith, channel_p_at k j l);
    upper_shown = λ j l. let h = p.upto_within j (omega (arith, channel_length k)) in omega (arith, channel_q_at k j l);
    past = λ j l.
        let o = rising_before (channel_of k) p.rises 0 j j (omega arith) (omega (arith, channel_length k)) in
        omega (arith, o.lower, channel_p_at k j l);
  }

  module _ (levels : Levels) (f : LevelsFilled k a b k.count levels) where
    -- the columns of the lower terminals
    pub from : List ℕ
    from = tabulate 32 0 (λ j. a + p_at (channel_of k) j)

    abbrev pub m : ℕ
    m = k.count

    few : m ≤ 32
    few = omega (arith, p.few, channel_length k)

    from_at : (j : ℕ) → j < m → get_or from j 0 ≡ a + p_at (channel_of k) j
    unfolding from
    from_at j l = get_or_tabulate 32 j (λ j. a + p_at (channel_of k) j) 0 (omega (arith, few))

    pub ends_are : EndsAre (channel_of k) a b k.count from levels.upto
    ends_are = record {
      count = sym (channel_length k);
      from_are = from_at;
      upto_are = λ j l. f.upto_are j l ∙ rw (channel_q_at k j l);
    }

    ahead_at : (j : ℕ) → j < m → get_or levels.ahead j 0 ≡ get_or from j 0 - j
    ahead_at j l = f.ahead_are j l ∙ rw (from_at j l, channel_p_at k j l)

    back_at : (j : ℕ) → j < m → get_or levels.back (32 + j) 0 ≡ get_or from j 0 - j
    back_at j l = f.back_are j l ∙ rw (from_at j l, channel_p_at k j l)

    -- they rise, so no column is below its pair's number
    apart : (i n j : ℕ) → i + n ≡ j → j < m → get_or from i 0 + n ≤ get_or from j 0
    apart i n j e l =
        let o = rising_before (channel_of k) p.rises i n j e (omega (arith, channel_length k)) in
        omega (arith, from_at i (omega arith), from_at j l, o.lower)

    past : (j : ℕ) → j < m → (j ≤ get_or from j 0) × (j ≤ get_or levels.upto j 0)
    past j l =
        let o = rising_before (channel_of k) p.rises 0 j j (omega arith) (omega (arith, channel_length k)) in
        (omega (arith, apart 0 j j (omega arith) l), omega (arith, ends_are.upto_are j l, o.upper))

    module _ (j n : ℕ) (l : j < m) (h : n ≤ 64) where
      q : ℕ
      q = get_or levels.upto j 0

      on : ℕ
      on = get_or levels.ahead (j + n) 0 + j

      behind : ℕ
      behind = get_or levels.back (32 + j - min n 32) 0 + j

      -- ahead: what the terminal n pairs further says, or a column behind the last
      ahead_is : (j + n < m → on ≡ get_or from (j + n) 0 - n) × (m ≤ j + n → q < on)
      unfolding on q
      ahead_is = (
        λ i. omega (arith, ahead_at (j + n) i, (past (j + n) i).0),
        λ i. omega (arith, f.ahead_none (j + n) i (omega (arith, few)), f.low.upto_low j),
      )

      -- back: what the terminal n pairs back says, or a column before the first
      back_is : (n ≤ j → behind ≡ get_or from (j - n) 0 + n) × (j < n → behind ≤ q)
      unfolding behind q
      back_is = (
        λ i.
            let e : 32 + j - min n 32 ≡ 32 + (j - n) = omega (arith, few) in
            rw e (omega (arith, back_at (j - n) (omega arith), (past (j - n) (omega arith)).0)),
        λ i. omega (arith, f.back_none (32 + j - min n 32) (omega (arith, few)), (past j l).1),
      )

      passing_is : passing levels n j ≡ cond (leb (get_or from j 0) (get_or levels.upto j 0)) (right_arrival from m (get_or levels.upto j 0) j n) (left_arrival from (get_or levels.upto j 0) j n)
      unfolding passing right_arrival left_arrival q on behind
      passing_is = go (le_or_lt (get_or from j 0) (get_or levels.upto j 0)) (le_or_lt m (j + n)) (le_or_lt n j)
        where
          go : (get_or from j 0 ≤ get_or levels.upto j 0) ⊎ (get_or levels.upto j 0 < get_or from j 0) → (m ≤ j + n) ⊎ (j + n < m) → (n ≤ j) ⊎ (j < n)
              → min q on + max q behind - q
              ≡ cond (leb (get_or from j 0) (get_or levels.upto j 0)) (cond (ltb (j + n) m) (min q (get_or from (j + n) 0 - n)) q) (cond (leb n j) (max q (get_or from (j - n) 0 + n)) q)
          go (inl r) (inl i) (inl o) = rw (le-leb (get_or from j 0) (get_or levels.upto j 0) r, le-ltb (j + n) m i) (omega (arith, ahead_is.1 i, back_is.0 o, apart (j - n) n j (omega arith) l))
          go (inl r) (inl i) (inr o) = rw (le-leb (get_or from j 0) (get_or levels.upto j 0) r, le-ltb (j + n) m i) (omega (arith, ahead_is.1 i, back_is.1 o))
          go (inl r) (inr i) (inl o) = rw (le-leb (get_or from j 0) (get_or levels.upto j 0) r, lt-ltb (j + n) m i) (omega (arith, ahead_is.0 i, back_is.0 o, apart (j - n) n j (omega arith) l))
          go (inl r) (inr i) (inr o) = rw (le-leb (get_or from j 0) (get_or levels.upto j 0) r, lt-ltb (j + n) m i) (omega (arith, ahead_is.0 i, back_is.1 o))
          go (inr r) (inl i) (inl o) = rw (lt-leb (get_or from j 0) (get_or levels.upto j 0) r, le-leb n j o) (omega (arith, ahead_is.1 i, back_is.0 o))
          go (inr r) (inl i) (inr o) = rw (lt-leb (get_or from j 0) (get_or levels.upto j 0) r, lt-leb n j o) (omega (arith, ahead_is.1 i, back_is.1 o))
          go (inr r) (inr i) (inl o) = rw (lt-leb (get_or from j 0) (get_or levels.upto j 0) r, le-leb n j o) (omega (arith, ahead_is.0 i, back_is.0 o, apart j n (j + n) (omega arith) i))
          go (inr r) (inr i) (inr o) = rw (lt-leb (get_or from j 0) (get_or levels.upto j 0) r, lt-leb n j o) (omega (arith, ahead_is.0 i, back_is.1 o, apart j n (j + n) (omega arith) i))

      passing_shown : passing levels n j < 64
      unfolding passing q on behind
      passing_shown = go (le_or_lt (get_or from j 0) (get_or levels.upto j 0)) (le_or_lt n j)
        where
          first : get_or from j 0 < 64
          first = let w = p.from_within j (omega (arith, channel_length k)) in omega (arith, from_at j l)

          go : (get_or from j 0 ≤ get_or levels.upto j 0) ⊎ (get_or levels.upto j 0 < get_or from j 0) → (n ≤ j) ⊎ (j < n) → min q on + max q behind - q < 64
          go (inl r) (inl o) = omega (arith, f.low.upto_low j, back_is.0 o, apart (j - n) n j (omega arith) l)
          go (inl r) (inr o) = omega (arith, f.low.upto_low j, back_is.1 o)
          go (inr r) (inl o) = omega (arith, f.low.upto_low j, first, back_is.0 o, apart (j - n) n j (omega arith) l)
          go (inr r) (inr o) = omega (arith, f.low.upto_low j, back_is.1 o)

    pub reached_is : (j y : ℕ) → j < m → y ≤ 65 → reached levels y j ≡ arrival from levels.upto k.count j y
    unfolding reached arrival
    reached_is j y l h = passing_is j (y - 1) l (omega arith)

    -- and they are on the page
    pub arrivals_shown : ArrivalsShown levels
    unfolding ArrivalsShown reached
    arrivals_shown j y l h = passing_shown j (y - 1) (omega (arith, f.counted)) (omega arith)

    -- what the code draws is the page's
    pub drawn_right : t ≤ 64 → (y x : ℕ) → y ≤ t → track_drawn levels t y x ≡ character x y (wiring (channel_of k) t a b)
    unfolding track_drawn track_painted reached passing
    drawn_right h y x l =
        rw f.counted
        (painted_same (λ j. reached levels y j) (λ j. reached levels (suc y) j) (ltb y t) (ltb 0 y) (λ j. arrival from levels.upto m j y) (λ j. arrival from levels.upto m j (suc y)) m x 46
        (λ j i. (reached_is j y (omega arith) (omega arith), reached_is j (suc y) (omega arith) (omega arith)))
        ∙ painted_right (channel_of k) t a b m from levels.upto ends_are p.rises p.good x y l)
