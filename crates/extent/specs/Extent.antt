-- The strips that a stack uses, and the greatest number that a call reads of strips. Assumes nothing: these are definitions.
use Rattle.std.specs.Prelude.{◌≡◌, List, map, ℕ, suc, ◌<◌, max, length, drop}
use Rattle.stack.specs.Stack.{Strip, greatest_of}
use Rattle.stack.specs.Value.{strip_of, stack_of}
use Rattle.stack.specs.Made.{NumberOf}
use Rattle.stack.specs.declared.Stack.{Stack as StackStruct}
use Rattle.stack.specs.declared.Strip.{Strip as StripStruct}

-- strips as list values
abbrev pub values : List StripStruct → List Strip
values ls = map (λ (s : StripStruct). strip_of s) ls

-- the strips that a stack uses: one more than it has channels
pub record StripsOf (k : StackStruct) (ls : List StripStruct) : Type 0 where
  pub are : values ls ≡ (stack_of k).strips
  pub many : length ls ≡ suc k.count

-- what a call reads of a strip is its number by f
abbrev pub Reads : (read : StripStruct → ℕ → Type 0) → (f : Strip → ℕ) → Type 0
Reads R f = (l : StripStruct) (x : ℕ) → R l x → NumberOf (f (strip_of l)) x

-- whatever number a call reads, the greatest over the strips
abbrev pub Greatest : (read : StripStruct → ℕ → Type 0) → List StripStruct → (most : ℕ) → Type 0
Greatest R ls r = (f : Strip → ℕ) → Reads R f → NumberOf (greatest_of f (values ls)) r

-- while it is sought: the greatest of all is the greater of the greatest so far and that of the strips from i on
abbrev pub GreatestSoFar : (read : StripStruct → ℕ → Type 0) → List StripStruct → (i most : ℕ) → Type 0
GreatestSoFar R ls i m = (f : Strip → ℕ) → Reads R f → (max m (greatest_of f (values (drop i ls))) ≡ greatest_of f (values ls)) × (m < 8589934592)
