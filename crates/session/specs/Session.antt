-- TRUSTED. Sessions: what one holds, what each step is refused for and leaves, and what a spread answers. Document 02, P6 and P7. Assumes nothing: these are
-- definitions.
use Rattle.std.specs.Prelude.{cond, List, [], ◌∷◌, ◌++◌, ℕ, ◌-◌, leb, eqb, length, get_or, take}
use Rattle.stack.specs.Stack.{Stack, stack, channel, free, strip, no_strip}
use Rattle.text.specs.Text.{Refusal, refusal, fine, or_else, entry, in_pairs, misplaced, part_content, nets_content, pairs_of}
use Rattle.reply.specs.Refusals.{narrow_refusal}
use Rattle.spread.specs.Answers.{TotalResult, PlacementResult, TotalOr, PlacementOr}

-- what a session HOLDS is a stack; where it is empty, one without strips
unfoldable pub nothing : Stack
nothing = stack [] []

-- a STEP: begin with one strip; add a strip on top, with the terminals of the channel below it; take the top strip off
pub data Step : Type 0 where
  begin : (length : ℕ) → Step
  add : (length : ℕ) → (terminals : List ℕ) → Step
  off : Step

-- room for one strip more: an empty session is 13, a tenth strip 3
unfoldable pub room_refusal : Stack → Refusal
room_refusal k = cond (eqb (length k.strips) 0) (refusal 13 0 0) (cond (leb 9 (length k.strips)) (refusal 3 0 0) fine)

unfoldable pub top_length : Stack → ℕ
top_length k = (get_or k.strips (length k.strips - 1) no_strip).length

-- the length as in a PART line, 4; the channel as in a NETS line, an odd list 11, then 3, 5 and 6; both at line 0
unfoldable pub length_refusal : (length : ℕ) → Refusal
length_refusal l = part_content (entry 0 0 (l ∷ []))

unfoldable pub nets_refusal : (lower upper : ℕ) → (terminals : List ℕ) → Refusal
nets_refusal lo hi ns = or_else (misplaced 11 0 0 (in_pairs (length ns))) (nets_content lo hi (entry 0 0 ns))

-- what a step is REFUSED for; taking off the only strip, or one of an empty session, is 13
unfoldable pub step_refusal : Stack → Step → Refusal
step_refusal k (begin l) = length_refusal l
step_refusal k (add l ns) = or_else (or_else (room_refusal k) (length_refusal l)) (nets_refusal (top_length k) l ns)
step_refusal k off = cond (leb (length k.strips) 1) (refusal 13 0 0) fine

-- what is held after a step that is TAKEN; a session's strips are free, and its channels have floor 0
unfoldable pub taken : Stack → Step → Stack
taken k (begin l) = stack (strip l free ∷ []) []
taken k (add l ns) = stack (k.strips ++ (strip l free ∷ [])) (k.channels ++ (channel (pairs_of ns) 0 ∷ []))
taken k off = stack (take (length k.strips - 1) k.strips) (take (length k.channels - 1) k.channels)

-- what is LEFT by a step that is refused: nothing by a beginning, by another what was held
unfoldable pub left : Stack → Step → Stack
left k (begin l) = nothing
left k (add l ns) = k
left k off = k

unfoldable pub after : Stack → Step → Stack
after k a = cond (eqb (step_refusal k a).number 0) (taken k a) (left k a)

-- what steps have MADE from an empty session
pub data Made : Stack → Type 0 where
  made_empty : Made nothing
  made_after : {k : Stack} → Made k → (a : Step) → Made (after k a)

-- A SPREAD: an empty session is 13, then narrow 7
unfoldable pub session_refusal : Stack → (s : ℕ) → Refusal
session_refusal k s = cond (eqb (length k.strips) 0) (refusal 13 0 0) (narrow_refusal k s)

unfoldable pub SessionTotalSays : Stack → (s : ℕ) → TotalResult → Type 0
SessionTotalSays k s r = TotalOr (session_refusal k s) k s r

unfoldable pub SessionPlacementSays : Stack → (s v : ℕ) → PlacementResult → Type 0
SessionPlacementSays k s v r = PlacementOr (session_refusal k s) k s v r
