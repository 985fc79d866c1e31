-- TRUSTED. The text of a file and of a stack. Document 01, "Lines and tabs"; document 02, P2 and P7. Assumes nothing: these are definitions.
use Rattle.std.specs.Prelude.{◌≡◌, true, cond, List, [], ◌∷◌, ◌++◌, map, ℕ, suc, eqb, length}
use Rattle.stack.specs.Stack.{Pair, Channel, Window, free, held, Strip, Stack}
use Rattle.stack.specs.Limits.{within_limits}
use Rattle.text.specs.Text.{fine, stack_word, part_word, nets_word, gap_word, text_refusal, File, file, stack_in}
use Rattle.writing.specs.TableText.{tabbed}

-- a LINE: its word, its numbers, a line feed
unfoldable pub line_text : (word numbers : List ℕ) → List ℕ
line_text w ns = w ++ (tabbed ns ++ (10 ∷ []))

unfoldable pub lines_text : (word : List ℕ) → List (List ℕ) → List ℕ
lines_text w [] = []
lines_text w (ns ∷ nss) = line_text w ns ++ lines_text w nss

-- the text of a FILE
unfoldable pub file_text : File → List ℕ
file_text f =
    line_text stack_word (length f.nets ∷ [])
    ++ (lines_text part_word f.parts ++ (lines_text nets_word f.nets ++ lines_text gap_word f.gaps))

-- THE TEXT OF A STACK: a window where a strip is held
unfoldable pub part_numbers : (length : ℕ) → Window → List ℕ
part_numbers l free = l ∷ []
part_numbers l (held a e) = l ∷ a ∷ e ∷ []

abbrev pub parts_of : List Strip → List (List ℕ)
parts_of ls = map (λ (l : Strip). part_numbers l.length l.window) ls

unfoldable pub terminals_of : List Pair → List ℕ
terminals_of [] = []
terminals_of (x ∷ xs) = x.p ∷ x.q ∷ terminals_of xs

-- a GAP line where a floor is not 0, for the channels from number n on
unfoldable pub gaps_of : (n : ℕ) → List Channel → List (List ℕ)
gaps_of n [] = []
gaps_of n (c ∷ cs) = cond (eqb c.floor 0) (gaps_of (suc n) cs) ((n ∷ c.floor ∷ []) ∷ gaps_of (suc n) cs)

unfoldable pub file_of : Stack → File
file_of k = file (parts_of k.strips) (map (λ c. terminals_of c.pairs) k.channels) (gaps_of 1 k.channels)

unfoldable pub stack_text : Stack → List ℕ
stack_text k = file_text (file_of k)

-- STATEMENT: within the limits it is accepted, and the stack in it is that stack
unfoldable pub StackTextRead : Type 0
StackTextRead = (k : Stack) → within_limits k ≡ true → (text_refusal (stack_text k) ≡ fine) × (stack_in (stack_text k) ≡ k)
