-- The trial's tests of each place make its verdicts: zeros, the spread, the channels. By induction on the places. Assumes nothing.
use mathlib.Core.Path.{◌≡◌, refl, ap, ◌∙◌}
use mathlib.Core.Bool.{◌&&◌}
use mathlib.Core.List.{List, [], ◌∷◌, map}
use Prim.Native.Nat.{ℕ, zero, suc, ◌+◌, ◌≤◌, ◌<◌}
use native.Mathlib.Nat.{add-zero}
use native.Mathlib.Numerals.{add-one}
use native.Mathlib.Omega.{arith}
use lib.Dec.{eqb}
use lib.ListN.{length, get_or, drop, drop_of_length-le}
use lib.Seq.{drop-cons, get_or-take, get_or-drop, length-take-le}
use Rattle.std.specs.List.{list_all, range_with_len}
use Rattle.stack.specs.Stack.{Channel, no_channel, Strip, no_strip, feasible, stands, in_spread, channels_good}
use Rattle.stack.specs.Value.{tracks, columns, strip_at, channel_at, stack_of, tracks_of, columns_of}
use Rattle.stack.specs.declared.Tracks.{Tracks}
use Rattle.stack.specs.declared.Columns.{Columns}
use Rattle.stack.specs.declared.Stack.{Stack as StackStruct}
use Rattle.stack.proofs.Values.{track_at, column_at, tracks_long, columns_long, stack_channel}
use Rattle.stack.proofs.Within.{stack_channels, stack_strips, stack_strip}
use Rattle.trial.specs.Legal.{all_zero}
use Rattle.trial.specs.Trying.{used_separations, used_positions}

-- numbers that are all zero
pub zeros_are : {A : Type 0} (f : A → ℕ) (xs : List A) → list_all (λ x. eqb (f x) 0) xs ≡ all_zero (map f xs)
unfolding all_zero
zeros_are f [] = refl
zeros_are f (x ∷ xs) = rw (zeros_are f xs) refl

-- THE SPREAD
spread_next : (s : ℕ) (ls : List Strip) (xs : List ℕ) (i : ℕ) → i < length ls → i < length xs →
    in_spread s (drop i ls) (drop i xs) ≡ (stands s (get_or ls i no_strip) (get_or xs i 0) && in_spread s (drop (suc i) ls) (drop (suc i) xs))
unfolding in_spread
spread_next s ls xs i h k = rw (drop-cons ls i no_strip h, drop-cons xs i 0 k)

module _ (k : StackStruct) (few : k.count ≤ 8) (xs : List Columns) (long : length xs ≡ 9) where
  positions_long : length (used_positions k xs) ≡ suc k.count
  positions_long = length-take-le (suc k.count) (columns_of xs) (omega (arith, columns_long xs 9 long))

  position_at : (i : ℕ) → i < suc k.count → get_or (used_positions k xs) i 0 ≡ (get_or xs i (columns 0)).0
  position_at i h = get_or-take (suc k.count) (columns_of xs) i 0 h ∙ column_at xs i

  spread_from : (s n i : ℕ) → n + i ≡ suc k.count →
      list_all (λ j. stands s (strip_at k j) (get_or xs j (columns 0)).0) (range_with_len i n) ≡ in_spread s (drop i (stack_of k).strips) (drop i (used_positions k xs))
  unfolding in_spread
  spread_from s zero i e =
      rw (drop_of_length-le (stack_of k).strips {i = i} (omega (arith, stack_strips k)), drop_of_length-le (used_positions k xs) {i = i} (omega (arith, positions_long))) refl
  spread_from s (suc n) i e =
      rw (
        spread_from s n (i + 1) (omega arith),
        add-one i,
        spread_next s (stack_of k).strips (used_positions k xs) i (omega (arith, stack_strips k)) (omega (arith, positions_long)),
        stack_strip k i (omega arith),
        position_at i (omega arith),
      ) refl

  pub spread_is : (s : ℕ) → list_all (λ j. stands s (strip_at k j) (get_or xs j (columns 0)).0) (range_with_len 0 (k.count + 1)) ≡ in_spread s (stack_of k).strips (used_positions k xs)
  spread_is s = spread_from s (k.count + 1) 0 (omega arith)

-- THE CHANNELS
channels_next : (cs : List Channel) (ts xs : List ℕ) (i : ℕ) → i < length cs → i < length ts → i < length xs →
    channels_good (drop i cs) (drop i ts) (drop i xs)
    ≡ (feasible (get_or cs i no_channel) (get_or ts i 0) (get_or xs i 0) (get_or xs (suc i) 0) && channels_good (drop (suc i) cs) (drop (suc i) ts) (drop (suc i) xs))
unfolding channels_good
channels_next cs ts xs i h k l =
    let above : get_or (drop (suc i) xs) 0 0 ≡ get_or xs (suc i) 0 = get_or-drop (suc i) xs 0 0 ∙ ap (λ j. get_or xs j 0) (add-zero (suc i)) in
    rw (drop-cons cs i no_channel h, drop-cons ts i 0 k, drop-cons xs i 0 l, above)

module _ (k : StackStruct) (few : k.count ≤ 8) (ts : List Tracks) (xs : List Columns) (tracks_all : length ts ≡ 8) (columns_all : length xs ≡ 9) where
  separations_long : length (used_separations k ts) ≡ k.count
  separations_long = length-take-le k.count (tracks_of ts) (omega (arith, tracks_long ts 8 tracks_all))

  separation_at : (i : ℕ) → i < k.count → get_or (used_separations k ts) i 0 ≡ (get_or ts i (tracks 0)).0
  separation_at i h = get_or-take k.count (tracks_of ts) i 0 h ∙ track_at ts i

  channels_from : (n i : ℕ) → n + i ≡ k.count →
      list_all (λ j. feasible (channel_at k j) (get_or ts j (tracks 0)).0 (get_or xs j (columns 0)).0 (get_or xs (j + 1) (columns 0)).0) (range_with_len i n)
      ≡ channels_good (drop i (stack_of k).channels) (drop i (used_separations k ts)) (drop i (used_positions k xs))
  unfolding channels_good
  channels_from zero i e =
      rw (drop_of_length-le (stack_of k).channels {i = i} (omega (arith, stack_channels k)), drop_of_length-le (used_separations k ts) {i = i} (omega (arith, separations_long))) refl
  channels_from (suc n) i e =
      rw (
        channels_from n (i + 1) (omega arith),
        add-one i,
        channels_next (stack_of k).channels (used_separations k ts) (used_positions k xs) i (omega (arith, stack_channels k)) (omega (arith, separations_long))
            (omega (arith, positions_long k few xs columns_all)),
        stack_channel k i (omega arith),
        separation_at i (omega arith),
        position_at k few xs columns_all i (omega arith),
        position_at k few xs columns_all (suc i) (omega arith),
      ) refl

  pub channels_are :
      list_all (λ j. feasible (channel_at k j) (get_or ts j (tracks 0)).0 (get_or xs j (columns 0)).0 (get_or xs (j + 1) (columns 0)).0) (range_with_len 0 k.count)
      ≡ channels_good (stack_of k).channels (used_separations k ts) (used_positions k xs)
  channels_are = channels_from k.count 0 (omega arith)
