-- The four verdicts, on unused separations, unused positions, the spread and the channels, make the trial's. Assumes nothing.
use mathlib.Core.Path.{◌≡◌, refl}
use mathlib.Core.Bool.{◌&&◌}
use mathlib.Core.List.{List}
use Prim.Native.Nat.{ℕ, suc, ◌+◌, ◌-◌}
use native.Mathlib.Numerals.{add-one}
use native.Mathlib.Omega.{arith}
use lib.ListN.{length, take, drop}
use Rattle.std.proofs.lemmas.List.{drop-map, length-drop, take_all}
use Rattle.stack.specs.Stack.{in_spread, channels_good, legal}
use Rattle.stack.specs.Value.{stack_of, tracks_of, columns_of}
use Rattle.stack.specs.declared.Stack.{Stack as StackStruct}
use Rattle.stack.specs.declared.Tracks.{Tracks}
use Rattle.stack.specs.declared.Columns.{Columns}
use Rattle.stack.proofs.Within.{stack_channels}
use Rattle.trial.specs.Legal.{all_zero, is_legal}
use Rattle.trial.specs.Trying.{used_separations, used_positions}

pub legal_parts : (k : StackStruct) (s : ℕ) (ts : List Tracks) (xs : List Columns) → length ts ≡ 8 → length xs ≡ 9 → is_legal (stack_of k) s (tracks_of ts) (columns_of xs)
    ≡ ((all_zero (tracks_of (take (8 - k.count) (drop k.count ts))) && all_zero (columns_of (take (9 - (k.count + 1)) (drop (k.count + 1) xs))))
    && (in_spread s (stack_of k).strips (used_positions k xs) && channels_good (stack_of k).channels (used_separations k ts) (used_positions k xs)))
unfolding is_legal legal
legal_parts k s ts xs h l =
    rw (
      take_all (8 - k.count) (drop k.count ts) (omega (arith, length-drop k.count ts)),
      take_all (9 - (k.count + 1)) (drop (k.count + 1) xs) (omega (arith, length-drop (k.count + 1) xs)),
      stack_channels k,
      add-one k.count,
      drop-map (λ (t : Tracks). t.0) k.count ts,
      drop-map (λ (x : Columns). x.0) (suc k.count) xs,
    ) refl
