-- The laws of the greatest number and of the sum over a stack's strips. By induction on the strips. Assumes nothing.
use mathlib.Core.Path.{◌≡◌, refl, ap, ◌∙◌}
use mathlib.Core.List.{List, [], ◌∷◌, map}
use Prim.Native.Nat.{ℕ, zero, suc, ◌+◌, ◌≤◌, ◌<◌, max}
use native.Mathlib.Omega.{arith}
use lib.ListN.{length, get_or, take, drop, drop_of_length-le}
use native.Mathlib.Numerals.{add-one}
use Rattle.std.proofs.lemmas.List.{length-take}
use Rattle.std.proofs.lemmas.List.Sums.{sum_by-cons}
use lib.Seq.{drop-cons}
use Rattle.std.specs.List.{sum_by}
use Rattle.numbers.specs.Lists.{tabulate}
use Rattle.stack.specs.Stack.{Strip, greatest_of, sum, stack}
use Rattle.stack.specs.Value.{free_strip, strip_of, stack_of}
use Rattle.stack.specs.Lengths.{lengths}
use Rattle.stack.specs.Made.{NumberOf}
use Rattle.stack.specs.declared.Stack.{Stack as StackStruct}
use Rattle.stack.specs.declared.Strip.{Strip as StripStruct}
use Rattle.extent.specs.Extent.{values, StripsOf, Reads, Greatest, GreatestSoFar}

-- the first n elements by place
tabulate_take : {A B : Type 0} (f : A → B) (d : A) (xs : List A) (n i : ℕ) → n + i ≤ length xs → map f (take n (drop i xs)) ≡ tabulate n i (λ j. f (get_or xs j d))
unfolding tabulate
tabulate_take f d xs zero i h = refl
tabulate_take f d xs (suc n) i h = rw (drop-cons xs i d (omega arith), tabulate_take f d xs n (suc i) (omega arith)) refl

pub strips_used : (k : StackStruct) → length (take (k.count + 1) k.strips) ≡ k.count + 1 → StripsOf k (take (k.count + 1) k.strips)
unfolding stack_of stack
strips_used k h =
    let more : k.count + 1 ≡ suc k.count = omega arith in
    rw more (record {
      are = tabulate_take (λ (s : StripStruct). strip_of s) (free_strip 0) k.strips (suc k.count) 0 (omega (arith, h, length-take (k.count + 1) k.strips));
      many = rw (← more) h;
    })

sum_lengths : (ls : List StripStruct) → sum_by (λ (s : StripStruct). s.length.0) ls ≡ sum (lengths (values ls))
unfolding sum lengths
sum_lengths [] = refl
sum_lengths (l ∷ ls) = sum_by-cons (λ (s : StripStruct). s.length.0) l ls ∙ rw (sum_lengths ls) refl

pub lengths_are : (k : StackStruct) (ls : List StripStruct) → StripsOf k ls → sum_by (λ (s : StripStruct). s.length.0) ls ≡ sum (lengths (stack_of k).strips)
lengths_are k ls h = sum_lengths ls ∙ ap (λ (vs : List Strip). sum (lengths vs)) h.are

module _ (R : StripStruct → ℕ → Type 0) (ls : List StripStruct) where
  pub greatest_step : (d : StripStruct) (i most x next : ℕ) → i < length ls → R (get_or ls i d) x → next ≡ max most x → GreatestSoFar R ls i most → GreatestSoFar R ls (i + 1) next
  unfolding greatest_of
  greatest_step d i most x next h r e s f reads =
      let n = reads (get_or ls i d) x r in
      let w = s f reads in
      let all = rw (drop-cons ls i d h) at w.0 in
      (rw (add-one i) (omega (arith, all, n.is, e)), omega (arith, w.1, n.small, e))

  pub greatest_end : (i most : ℕ) → length ls ≤ i → GreatestSoFar R ls i most → Greatest R ls most
  unfolding greatest_of
  greatest_end i most h s f reads =
      let w = s f reads in
      let none : drop i ls ≡ [] = drop_of_length-le ls {i = i} h in
      record { is = omega (arith, rw none at w.0); small = w.1 }

-- over the strips of a stack
pub greatest_in : (R : StripStruct → ℕ → Type 0) (f : Strip → ℕ) (k : StackStruct) (ls : List StripStruct) (most : ℕ) → StripsOf k ls → Greatest R ls most → Reads R f →
    NumberOf (greatest_of f (stack_of k).strips) most
greatest_in R f k ls most h s reads = rw h.are at (s f reads)
