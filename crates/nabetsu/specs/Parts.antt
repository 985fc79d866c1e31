-- What the entries' parts answer. Assumes nothing: these are definitions.
use Rattle.std.specs.Prelude.{◌≡◌, List, ℕ, ◌-◌, length, IfOk, OnOk}
use Rattle.stack.specs.Stack.{Stack}
use Rattle.text.specs.Text.{Refusal, text_refusal, stack_in}
use Rattle.text.specs.Outcome.{refusal_of}
use Rattle.answer.specs.Solve.{answer_separations, answer_positions}
use Rattle.rows.specs.Walk.{rows_of}
use Rattle.writing.specs.Output.{Written}
use Rattle.writing.specs.TableText.{table_text}
use Rattle.page.specs.Page.{channel_page}
use Rattle.reply.specs.Told.{TableResult}
use Rattle.nabetsu.specs.Entry.{TrialResult, legal_in, is_legal_numbers}

-- a text that stands if there is space for it, and its length; or a refusal
pub record TextPut (f : Refusal) (t before after : List ℕ) (r : TableResult) : Type 0 where
  pub refused : refusal_of r ≡ f
  pub counted : IfOk r (λ n. n ≡ length t)
  pub written : OnOk r (Written t before after)

-- the table of the stack in a text, and the page of a channel of its answer
unfoldable pub table_in : List ℕ → List ℕ
table_in bs = table_text (length (stack_in bs).channels) (rows_of (stack_in bs))

unfoldable pub page_in : List ℕ → (s channel : ℕ) → List ℕ
page_in bs s n = channel_page (stack_in bs) (answer_separations (stack_in bs) s) (answer_positions (stack_in bs) s) (n - 1)

-- the page of a channel of the answer stands if there is space for it
pub record ChannelPut (k : Stack) (s channel : ℕ) (before after : List ℕ) (r : ℕ) : Type 0 where
  pub counted : r ≡ length (channel_page k (answer_separations k s) (answer_positions k s) (channel - 1))
  pub written : Written (channel_page k (answer_separations k s) (answer_positions k s) (channel - 1)) before after

-- the verdict on a placement given as numbers, beside the text's refusal
pub record NumbersTried (bs : List ℕ) (s : ℕ) (ns : List ℕ) (r : TrialResult) : Type 0 where
  pub refused : refusal_of r ≡ text_refusal bs
  pub legal_is : (text_refusal bs).number ≡ 0 → legal_in r ≡ is_legal_numbers (stack_in bs) s ns
