-- What the entries answer, as executable definitions of their inputs. Assumes nothing: these are definitions. proofs/Replies.antt proves that a result
-- is promised exactly if it is the reply; nobody has to believe them.
use Rattle.std.specs.Prelude.{Bool, true, false, ◌&&◌, cond, List, [], ◌++◌, ℕ, zero, suc, ◌-◌, leb, eqb, length, replicate}
use Rattle.stack.specs.Stack.{Stack}
use Rattle.lines.specs.Lines.{same_bytes}
use Rattle.text.specs.Text.{Refusal, refusal, fine, text_refusal, stack_in}
use Rattle.answer.specs.Solve.{answer_total, separations_for, positions_for, answer_separations, answer_positions}
use Rattle.rows.specs.Walk.{rows_of}
use Rattle.writing.specs.TableText.{table_text}
use Rattle.page.specs.Page.{channel_page}
use Rattle.spread.specs.Answers.{spread_refusal}
use Rattle.replay.specs.Replay.{replayed, steps_refusal}
use Rattle.nabetsu.specs.Pages.{page_refusal}

unfoldable pub same_refusal : (a b : Refusal) → Bool
same_refusal a b = eqb a.number b.number && (eqb a.line b.line && eqb a.field b.field)

-- THE LEAST TOTAL
pub record TotalReply : Type 0 where
  pub refused : Refusal
  pub total : ℕ

unfoldable pub total_is : Refusal → (total : ℕ) → TotalReply
total_is f v = record { refused = f; total = v }

unfoldable pub same_total : (a b : TotalReply) → Bool
same_total a b = same_refusal a.refused b.refused && eqb a.total b.total

unfoldable pub total_for : (number : ℕ) → Refusal → Stack → (s : ℕ) → TotalReply
total_for zero f k s = total_is f (answer_total k s)
total_for (suc n) f k s = total_is f 0

unfoldable pub total_reply : List ℕ → (s : ℕ) → TotalReply
total_reply bs s = total_for (spread_refusal bs s).number (spread_refusal bs s) (stack_in bs) s

unfoldable pub steps_total_reply : List ℕ → (s : ℕ) → TotalReply
steps_total_reply bs s = total_for (steps_refusal bs s).number (steps_refusal bs s) (replayed bs).held s

-- THE PLACEMENT FOR A TOTAL
pub record PlacementReply : Type 0 where
  pub refused : Refusal
  pub total : ℕ
  pub separations : List ℕ
  pub positions : List ℕ

unfoldable pub placement : Refusal → (total : ℕ) → (ts xs : List ℕ) → PlacementReply
placement f v ts xs = record { refused = f; total = v; separations = ts; positions = xs }

unfoldable pub same_placement : (a b : PlacementReply) → Bool
same_placement a b =
    same_refusal a.refused b.refused
    && (eqb a.total b.total && (same_bytes a.separations b.separations && same_bytes a.positions b.positions))

-- a total is met from the least one on; without channels 0 alone is
unfoldable pub is_met : Stack → (s v : ℕ) → Bool
is_met k s v = cond (eqb (length k.channels) 0) (eqb v 0) (leb (answer_total k s) v)

unfoldable pub if_met : (met : Bool) → Stack → (s v : ℕ) → PlacementReply
if_met true k s v = placement fine v (separations_for k s v) (positions_for k s v)
if_met false k s v = placement (refusal 10 0 0) 0 [] []

unfoldable pub placement_for : (number : ℕ) → Refusal → Stack → (s v : ℕ) → PlacementReply
placement_for zero f k s v = if_met (is_met k s v) k s v
placement_for (suc n) f k s v = placement f 0 [] []

unfoldable pub placement_reply : List ℕ → (s v : ℕ) → PlacementReply
placement_reply bs s v = placement_for (spread_refusal bs s).number (spread_refusal bs s) (stack_in bs) s v

unfoldable pub steps_placement_reply : List ℕ → (s v : ℕ) → PlacementReply
steps_placement_reply bs s v = placement_for (steps_refusal bs s).number (steps_refusal bs s) (replayed bs).held s v

-- THE TABLE
pub record TableReply : Type 0 where
  pub refused : Refusal
  pub written : ℕ
  pub output : List ℕ

unfoldable pub writes : (text : List ℕ) → (space : ℕ) → TableReply
writes t n = record { refused = refusal 0 0 0; written = length t; output = t ++ replicate (n - length t) 0 }

unfoldable pub refuses : Refusal → (space : ℕ) → TableReply
refuses f n = record { refused = f; written = 0; output = replicate n 0 }

unfoldable pub same_table : (a b : TableReply) → Bool
same_table a b = same_refusal a.refused b.refused && (eqb a.written b.written && same_bytes a.output b.output)

unfoldable pub if_fits : (fits : Bool) → (text : List ℕ) → (space : ℕ) → TableReply
if_fits true t n = writes t n
if_fits false t n = refuses (refusal 8 0 0) n

unfoldable pub table_for : (number : ℕ) → Refusal → Stack → (space : ℕ) → TableReply
table_for zero f k n =
    let t = table_text (length k.channels) (rows_of k) in
    if_fits (leb (length t) n) t n
table_for (suc m) f k n = refuses f n

unfoldable pub table_reply : List ℕ → (space : ℕ) → TableReply
table_reply bs n = table_for (text_refusal bs).number (text_refusal bs) (stack_in bs) n

-- A PAGE
unfoldable pub page_for : (number : ℕ) → Refusal → Stack → (s channel : ℕ) → (space : ℕ) → TableReply
page_for zero f k s c n =
    let t = channel_page k (answer_separations k s) (answer_positions k s) (c - 1) in
    if_fits (leb (length t) n) t n
page_for (suc m) f k s c n = refuses f n

unfoldable pub page_reply : List ℕ → (s channel : ℕ) → (space : ℕ) → TableReply
page_reply bs s c n = page_for (page_refusal bs s c).number (page_refusal bs s c) (stack_in bs) s c n
