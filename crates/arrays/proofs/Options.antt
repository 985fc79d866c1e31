-- Numbers with None for 0: unless_zero, and the numbers read off again. Assumes nothing.
use mathlib.Core.Path.{◌≡◌, refl, ap}
use mathlib.Core.Bool.{Bool, true, false, cond}
use mathlib.Core.List.{List}
use Prim.Native.Nat.{ℕ, zero, suc, ◌<◌, min}
use native.Mathlib.Omega.{arith}
use lib.ListN.{get_or}
use borrow.Author.Tests.{ltb-true, ltb-false}
use Rattle.std.specs.Prelude.{Option, None, Some, is_some, unwrap_or, eqb, ltb}
use Rattle.std.specs.Option.{option_cmp}
use Rattle.std.specs.Ordering.{is_lt, nat_cmp, ord_min}
use Rattle.std.proofs.Common.{Less, Equal, Greater}
use Rattle.std.proofs.Math.ListN.{get_or-map}
use Rattle.numbers.proofs.Bools.{impossible}
use Rattle.arrays.specs.Arrays.{entry, unless_zero, ends_of}

pub some_number : (x y : ℕ) → 0 < y → x ≡ y → Some x ≡ unless_zero y
some_number x zero h e = absurd (omega arith)
some_number x (suc y) h e = ap Some e

pub no_number : (y : ℕ) → y ≡ 0 → None ≡ unless_zero y
no_number zero e = refl
no_number (suc y) e = absurd (omega arith)

pub number_some : (y : ℕ) → is_some (unless_zero y) ≡ true → 0 < y
number_some zero e = impossible e
number_some (suc y) e = omega arith

pub read_off : (y : ℕ) → unwrap_or (unless_zero y) 0 ≡ y
read_off zero = refl
read_off (suc y) = refl

pub end_there : (hs : List (Option ℕ)) (i : ℕ) → entry (ends_of hs) i ≡ unwrap_or (get_or hs i None) 0
end_there hs i = get_or-map (λ h. unwrap_or h 0) hs i None

-- by the order of options the lesser of two, None where one of them is None
pub lesser_end : (m n : ℕ) → ord_min (option_cmp nat_cmp) (unless_zero m) (unless_zero n) ≡ unless_zero (min m n)
lesser_end zero zero = refl
lesser_end zero (suc n) = no_number (min 0 (suc n)) (omega arith)
lesser_end (suc m) zero = no_number (min (suc m) 0) (omega arith)
lesser_end (suc m) (suc n) = go (ltb (suc n) (suc m)) (eqb (suc n) (suc m)) refl
  where
    go : (v w : Bool) → ltb (suc n) (suc m) ≡ v → cond (is_lt (cond v Less (cond w Equal Greater))) (Some (suc n)) (Some (suc m)) ≡ unless_zero (min (suc m) (suc n))
    go true w e = some_number (suc n) (min (suc m) (suc n)) (omega arith) (omega (arith, ltb-true (suc n) (suc m) e))
    go false true e = some_number (suc m) (min (suc m) (suc n)) (omega arith) (omega (arith, ltb-false (suc n) (suc m) e))
    go false false e = some_number (suc m) (min (suc m) (suc n)) (omega arith) (omega (arith, ltb-false (suc n) (suc m) e))
