-- TRUSTED. What the page's entry answers and leaves behind, and what is promised of the paths that it shows. Document 02, P1 and P4. Assumes nothing: these
-- are definitions.
use Rattle.std.specs.Prelude.{◌≡◌, true, List, ℕ, zero, suc, ◌-◌, ◌≤◌, leb, length, get_or, take}
use Rattle.stack.specs.Stack.{channel_in, Stack, Answer}
use Rattle.text.specs.Text.{Refusal, or_else, text_refusal, stack_in}
use Rattle.text.specs.Outcome.{refusal_of}
use Rattle.page.specs.Page.{channel_paths, channel_page, lacks}
use Rattle.page.specs.Promise.{PathsShown}
use Rattle.reply.specs.Refusals.{asked_refusal}
use Rattle.reply.specs.Told.{TableResult, zeros, written_in, table_told}
use Rattle.nabetsu.specs.Entry.{Fits, code}

-- THE PAGE: the text's refusals, then 3 for the channel, 7, 9, and at last 8
unfoldable pub page_refusal : List ℕ → (s channel : ℕ) → Refusal
page_refusal bs s n = or_else (text_refusal bs) (asked_refusal (stack_in bs) s n)

-- the page of the one-spread answer's channel and zeros behind it, or 8; or a refusal; zeros everywhere after a refusal
unfoldable pub Paged : (number : ℕ) → Refusal → Stack → (s channel : ℕ) → TableResult → (o o_now : List ℕ) → Type 0
Paged zero f k s n r o x =
    (ts : List ℕ) × (xs : List ℕ) × Answer k s ts xs × Fits (leb (length (channel_page k ts xs (n - 1))) (length o)) (channel_page k ts xs (n - 1)) r o x
Paged (suc m) f k s n r o x = table_told f 0 r × (x ≡ zeros o)

unfoldable pub PageSays : List ℕ → (s channel : ℕ) → TableResult → (o o_now : List ℕ) → Type 0
PageSays bs s n r o x = Paged (page_refusal bs s n).number (page_refusal bs s n) (stack_in bs) s n r o x

-- with so many bytes of output, a page is refused only where its text, its channel or its spread is
unfoldable pub PageEnough : (bytes : ℕ) → List ℕ → (s channel : ℕ) → TableResult → (o : List ℕ) → Type 0
PageEnough b bs s n r o = (page_refusal bs s n).number ≡ 0 → b ≤ length o → (refusal_of r).number ≡ 0

-- THE PAGE WRITTEN shows the answer's paths: by the rule of routing/specs/Paths.antt, one for each of the channel's pairs, none of which leaves the spread, each on
-- the tracks above those that P1 counts (P4), and nothing else
pub record PageDrawn (bs : List ℕ) (s channel : ℕ) (r : TableResult) (o_now : List ℕ) : Type 0 where
  pub separations : List ℕ
  pub positions : List ℕ
  pub answer : Answer (stack_in bs) s separations positions
  pub shown : take (written_in r) o_now ≡ channel_page (stack_in bs) separations positions (channel - 1)
  pub paths_shown :
      PathsShown s (channel_in (stack_in bs) (channel - 1)).pairs (get_or separations (channel - 1) 0) (get_or positions (channel - 1) 0)
      (get_or positions (suc (channel - 1)) 0) (channel_paths (stack_in bs) separations positions (channel - 1)) (take (written_in r) o_now)

-- of what is returned: where nothing is refused such a page is written, and # never appears
pub record PageShows (bs : List ℕ) (s channel : ℕ) (r : TableResult) (o_now : List ℕ) : Type 0 where
  pub drawn : (refusal_of r).number ≡ 0 → PageDrawn bs s channel r o_now
  pub plain : lacks 35 o_now ≡ true

-- for callers in other languages
pub record PageCoded (bs : List ℕ) (s channel r : ℕ) (o o_now : List ℕ) : Type 0 where
  pub answer : TableResult
  pub says : PageSays bs s channel answer o o_now
  pub coded : r ≡ code (refusal_of answer) (written_in answer)
