-- What a refusal's number means, in words. Assumes nothing: these are definitions.
use Rattle.std.specs.Prelude.{cond, List, [] as []ᴸ, ◌∷◌ as ◌∷ᴸ◌, ℕ, eqb}
use Prim.Native.Char.{code}
use Prim.Native.String.{String, [], ◌∷◌}

-- a string's characters as bytes
unfoldable pub bytes : String → List ℕ
bytes [] = []ᴸ
bytes (c ∷ s) = code c ∷ᴸ bytes s

-- what a refusal's number means
unfoldable pub meaning : (number : ℕ) → String
meaning n =
    cond (eqb n 1) "text above 8,192 bytes (1, overlong)"
    (cond (eqb n 2) "wrong word, or a line missing, extra or unended (2, layout)"
    (cond (eqb n 3) "count, channel or floor outside its limits (3, crowd)"
    (cond (eqb n 4) "strip length outside 1 to 1,000 (4, length)"
    (cond (eqb n 5) "terminal beyond its strip's length (5, overhang)"
    (cond (eqb n 6) "terminal or channel not above the one before it (6, crossing)"
    (cond (eqb n 7) "spread below the first row's (7, narrow)"
    (cond (eqb n 8) "output space shorter than the whole text to be written (8, short space)"
    (cond (eqb n 9) "spread above 63, too broad for a page (9, broad)"
    (cond (eqb n 10) "no legal placement in this spread has that total (10, unmet)"
    (cond (eqb n 11) "wrong count of fields, here the first missing or extra (11, count)"
    (cond (eqb n 12) "ill-formed number (12, number)"
    (cond (eqb n 13) "session without a strip, or with none to take off (13, empty)"
    (cond (eqb n 14) "least position above the greatest (14, window)" "")))))))))))))
