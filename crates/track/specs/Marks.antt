-- Marks of paths, and eight of them as one number. Assumes nothing: these are definitions.
use Rattle.std.specs.Prelude.{cond, List, ℕ, ◌+◌, ◌*◌, eqb, get_or}

-- eight bytes from place a on as one number
unfoldable pub eight_of : List ℕ → (a : ℕ) → ℕ
eight_of xs a =
    let x : ℕ → ℕ = λ i. get_or xs (a + i) 0 in
    x 0 + 256 * x 1 + 65536 * (x 2 + 256 * x 3 + 65536 * (x 4 + 256 * x 5 + 65536 * (x 6 + 256 * x 7)))

-- 1 where a path only passes upward, 0 where it runs
unfoldable pub upward : (start end : ℕ) → ℕ
upward s e = cond (eqb s e) 1 0
