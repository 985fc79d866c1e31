-- TRUSTED. What the entries answer and leave behind; what they answer of one spread is in spread/specs/Answers.antt. Document 01, "Lines and tabs" and "Sent back at
-- the counter". Assumes nothing: these are definitions.
use Rattle.std.specs.Prelude.{◌≡◌, Bool, true, false, cond, ◌&&◌, List, ◌∷◌, ◌++◌, ℕ, zero, suc, ◌+◌, ◌*◌, ◌-◌, leb, eqb, length, get_or, take, drop, replicate, Result, Ok, Err}
use Rattle.stack.specs.Value.{tracks_of, columns_of}
use Rattle.numbers.specs.Lists.{tabulate}
use Rattle.stack.specs.Stack.{Stack, Row, RowsAre}
use Rattle.text.specs.Text.{Refusal, refusal, or_else, text_refusal, stack_in}
use Rattle.text.specs.Outcome.{refusal_of}
use Rattle.text.specs.declared.Refused.{Refused}
use Rattle.writing.specs.TableText.{table_text}
use Rattle.trial.specs.Legal.{is_legal}
use Rattle.stack.specs.declared.Placement.{Placement}
use Rattle.reply.specs.Told.{TableResult, zeros, written_in, table_told}
use Rattle.spread.specs.Answers.{TotalResult, PlacementResult, total_in, placed_total, separations_of, positions_of, TotalSays, PlacementSays}

-- THE TABLE: its whole text and zeros behind it; or the text's refusals, then 8, with zeros everywhere
unfoldable pub Fits : (fits : Bool) → (text : List ℕ) → TableResult → (o o_now : List ℕ) → Type 0
Fits true t r o x = table_told (refusal 0 0 0) (length t) r × (x ≡ t ++ replicate (length o - length t) 0)
Fits false t r o x = table_told (refusal 8 0 0) 0 r × (x ≡ zeros o)

unfoldable pub Tabled : (number : ℕ) → Refusal → Stack → TableResult → (o o_now : List ℕ) → Type 0
Tabled zero f k r o x =
    (rs : List Row) × RowsAre k rs × Fits (leb (length (table_text (length k.channels) rs)) (length o)) (table_text (length k.channels) rs) r o x
Tabled (suc n) f k r o x = table_told f 0 r × (x ≡ zeros o)

unfoldable pub TableSays : List ℕ → TableResult → (o o_now : List ℕ) → Type 0
TableSays bs r o x = Tabled (text_refusal bs).number (text_refusal bs) (stack_in bs) r o x

-- THE TRIAL: the text's refusals, else the verdict; false where the text is refused
abbrev pub TrialResult : Type 0
TrialResult = Result Bool Refused

abbrev pub legal_in : TrialResult → Bool
legal_in (Ok v) = v
legal_in (Err r) = false

unfoldable pub TrialSays : List ℕ → (s : ℕ) → (ts xs : List ℕ) → TrialResult → Type 0
TrialSays bs s ts xs r = (refusal_of r ≡ text_refusal bs) × (legal_in r ≡ (eqb (text_refusal bs).number 0 && is_legal (stack_in bs) s ts xs))

-- ONE NUMBER for callers in other languages: the value where nothing is refused, else the refusal's number, line and field in places of 2^40, 2^20 and 1
unfoldable pub code : Refusal → (value : ℕ) → ℕ
code f v = cond (eqb f.number 0) v (f.number * 1099511627776 + f.line * 1048576 + f.field)

pub record TotalCoded (bs : List ℕ) (s r : ℕ) : Type 0 where
  pub answer : TotalResult
  pub says : TotalSays bs s answer
  pub coded : r ≡ code (refusal_of answer) (total_in answer)

pub record TableCoded (bs : List ℕ) (r : ℕ) (o o_now : List ℕ) : Type 0 where
  pub answer : TableResult
  pub says : TableSays bs answer o o_now
  pub coded : r ≡ code (refusal_of answer) (written_in answer)

-- the total, separations and positions of a placement
abbrev pub numbers_placed : Placement → List ℕ
numbers_placed p = p.total.0 ∷ (tracks_of p.separations ++ columns_of p.positions)

-- THE EIGHTEEN NUMBERS of a placement: total, separations, positions; over so many places, zeros behind them
unfoldable pub numbers : PlacementResult → List ℕ
numbers a = placed_total a ∷ (separations_of a ++ positions_of a)

unfoldable pub numbers_in : (places : ℕ) → PlacementResult → List ℕ
numbers_in n a = tabulate n 0 (λ i. get_or (numbers a) i 0)

-- an output of fewer than eighteen places is short space, after every other refusal
unfoldable pub NumbersPut : (fits : Bool) → PlacementResult → (r : ℕ) → (o o_now : List ℕ) → Type 0
NumbersPut true a r o x = (r ≡ code (refusal_of a) 0) × (x ≡ numbers_in (length o) a)
NumbersPut false a r o x = (r ≡ code (or_else (refusal_of a) (refusal 8 0 0)) 0) × (x ≡ zeros o)

pub record PlacementCoded (bs : List ℕ) (s v r : ℕ) (o o_now : List ℕ) : Type 0 where
  pub answer : PlacementResult
  pub says : PlacementSays bs s v answer
  pub put : NumbersPut (leb 18 (length o)) answer r o o_now

-- a verdict's number is document 03's: 1 legal, 2 not
unfoldable pub verdict : Bool → ℕ
verdict true = 1
verdict false = 2

-- a placement given as eight separations and nine positions; numbers that are not seventeen are no placement, and so not legal
unfoldable pub is_legal_numbers : Stack → (s : ℕ) → List ℕ → Bool
is_legal_numbers k s ns = eqb (length ns) 17 && is_legal k s (take 8 ns) (drop 8 ns)
