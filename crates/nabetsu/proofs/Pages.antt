-- The laws of write_page: a refused text, a channel or spread for which there is no page, and the page where it was put; how much space is enough; and what the
-- page shows. Assumes nothing.
use mathlib.Core.Path.{◌≡◌, refl, sym, ap, ◌∙◌}
use mathlib.Core.Bool.{Bool, true, false}
use mathlib.Core.List.{List}
use Prim.Native.Nat.{ℕ, zero, suc, ◌+◌, ◌-◌, ◌≤◌, ◌<◌}
use native.Mathlib.Numerals.{add-one}
use native.Mathlib.Omega.{arith}
use lib.Dec.{leb}
use lib.ListN.{length, get_or, take, replicate, get_or-append}
use lib.Seq.{take_at}
use Rattle.numbers.specs.Lists.{padded}
use Rattle.stack.specs.Stack.{Channel, channel_in, Stack, Answer}
use Rattle.stack.specs.Limits.{within_limits}
use Rattle.stack.specs.Value.{tracks, columns, no_terminals, channel_of, stack_of}
use Rattle.stack.specs.declared.Stack.{Stack as StackStruct}
use Rattle.stack.proofs.Values.{track_at, column_at, stack_channel}
use Rattle.stack.proofs.Within.{stack_channels, strips_count, few_channels}
use Rattle.text.specs.Text.{Refusal, refusal, fine, text_refusal, stack_in}
use Rattle.std.specs.Prelude.{Ok, Err}
use Rattle.text.specs.Outcome.{number_of}
use Rattle.text.specs.declared.Refused.{Refused}
use Rattle.text.proofs.Refusals.{or_else_fine, first_refused, or_else_then, fine_number}
use Rattle.reading.proofs.Within.{accepted_within}
use Rattle.stack.specs.declared.Placement.{Placement}
use Rattle.answer.specs.Solve.{answer_separations, answer_positions}
use Rattle.answer.specs.Arrays.{AnswerIs}
use Rattle.answer.proofs.Alone.{legal_lengths}
use Rattle.answer.proofs.Answers.{answer_there}
use Rattle.table.proofs.Space.{separations_small}
use Rattle.page.specs.Page.{channel_paths, channel_page, lacks}
use Rattle.page.specs.Promise.{PathsShown}
use Rattle.page.specs.Arrivals.{ChannelPlaced}
use Rattle.page.proofs.Plain.{lacks_both, lacks_copies, wiring_page_lacks}
use Rattle.page.proofs.Inside.{channel_placed}
use Rattle.plot.specs.Drawing.{PagePut}
use Rattle.plot.proofs.Lines.{page_long}
use Rattle.plot.proofs.Shown.{placed_shown}
use Rattle.reply.specs.Told.{TableResult, written_in, zeros, table_told}
use Rattle.nabetsu.specs.Entry.{Fits}
use Rattle.nabetsu.specs.Pages.{page_refusal, Paged, PageSays, PageEnough, PageShows}
use Rattle.reading.specs.Driver.{StackRead}
use Rattle.nabetsu.specs.Parts.{TextPut, page_in, ChannelPut}
use Rattle.reply.specs.Refusals.{asked_refusal}
use Rattle.reply.proofs.Outcomes.{Asked, asked_fine}
use Rattle.nabetsu.proofs.Tables.{Settled, fits, sent_back}
use Rattle.nabetsu.proofs.Space.{fits_fine}

-- THE CHANNEL of the answer
padded_at : (n : ℕ) (xs : List ℕ) (i : ℕ) → i < length xs → get_or (padded n xs) i 0 ≡ get_or xs i 0
unfolding padded
padded_at n xs i h = get_or-append xs (replicate (n - length xs) 0) 0 i h

module _ (k : StackStruct) (s n : ℕ) (w : within_limits (stack_of k) ≡ true) (p : Asked (stack_of k) s n) where
  ts : List ℕ
  ts = answer_separations (stack_of k) s

  xs : List ℕ
  xs = answer_positions (stack_of k) s

  there : Answer (stack_of k) s ts xs
  unfolding ts xs
  there = answer_there (stack_of k) s w p.wide

  long : (length ts ≡ k.count) × (length xs ≡ suc k.count)
  long =
      let m = legal_lengths (stack_of k) s ts xs there.is_legal in
      (m.0 ∙ stack_channels k, m.1 ∙ strips_count (stack_of k) w ∙ ap suc (stack_channels k))

  channel_below : n - 1 < k.count
  channel_below = omega (arith, p.some, p.within, stack_channels k)

  module _ (r : Placement) (a : AnswerIs (stack_of k) s r) where
    separation_is : (get_or r.separations (n - 1) (tracks 0)).0 ≡ get_or ts (n - 1) 0
    unfolding ts
    separation_is =
        sym (track_at r.separations (n - 1)) ∙ ap (λ (l : List ℕ). get_or l (n - 1) 0) a.separations_are ∙ padded_at 8 ts (n - 1) (omega (arith, channel_below, long.0))

    position_is : (i : ℕ) → i ≤ k.count → (get_or r.positions i (columns 0)).0 ≡ get_or xs i 0
    unfolding xs
    position_is i h = sym (column_at r.positions i) ∙ ap (λ (l : List ℕ). get_or l i 0) a.positions_are ∙ padded_at 9 xs i (omega (arith, long.1))

    -- what the page's writer is given is the answer's
    channel_is : channel_of (get_or k.channels (n - 1) no_terminals) ≡ (channel_in (stack_of k) (n - 1)).pairs
    channel_is = ap (λ (c : Channel). c.pairs) (sym (stack_channel k (n - 1) channel_below))

    upper_is : (get_or r.positions (n - 1 + 1) (columns 0)).0 ≡ get_or xs (suc (n - 1)) 0
    upper_is = position_is (n - 1 + 1) (omega (arith, channel_below)) ∙ ap (λ (i : ℕ). get_or xs i 0) (add-one (n - 1))

    pub channel_asks : ChannelPlaced 63 (channel_of (get_or k.channels (n - 1) no_terminals)) (get_or r.separations (n - 1) (tracks 0)).0 (get_or r.positions (n - 1) (columns 0)).0
        (get_or r.positions (n - 1 + 1) (columns 0)).0 × ((get_or r.separations (n - 1) (tracks 0)).0 ≤ 64)
    channel_asks =
        let few = separations_small (stack_of k) w s ts xs there (n - 1) (omega (arith, channel_below, long.0)) in
        let placed = channel_placed (stack_of k) s ts xs (n - 1) w there.is_legal (omega (arith, channel_below, stack_channels k)) in
        rw (channel_is, separation_is, position_is (n - 1) (omega (arith, channel_below)), upper_is) (
          record {
            rises = placed.rises;
            good = placed.good;
            few = placed.few;
            from_within = λ j h. omega (arith, placed.from_within j h, p.shown);
            upto_within = λ j h. omega (arith, placed.upto_within j h, p.shown);
          },
          omega (arith, few),
        )

    pub channel_put : (before after : List ℕ) (v : ℕ)
        → PagePut (channel_of (get_or k.channels (n - 1) no_terminals)) (get_or r.separations (n - 1) (tracks 0)).0 (get_or r.positions (n - 1) (columns 0)).0 (get_or r.positions (n - 1 + 1) (columns 0)).0 before after v
        → ChannelPut (stack_of k) s n before after v
    unfolding channel_page channel_paths ts xs
    channel_put before after v q =
        let d = rw (channel_is, separation_is, position_is (n - 1) (omega (arith, channel_below)), upper_is) at q in
        record { counted = d.counted; written = d.written }

-- the channel's place is one of eight
pub channel_place : (k : StackStruct) (s n : ℕ) → within_limits (stack_of k) ≡ true → (asked_refusal (stack_of k) s n).number ≡ 0 → n - 1 < 8
channel_place k s n w e = omega (arith, channel_below k s n w (asked_fine (stack_of k) s n e), few_channels k w)

-- THE PAGE of a text
module _ (bs : List ℕ) (s n : ℕ) (o m : List ℕ) where
  pub page_text_refused : (e : Refused) → refusal (number_of e.why) e.line e.field ≡ text_refusal bs → TextPut (page_refusal bs s n) (page_in bs s n) o m (Err e)
  unfolding page_refusal
  page_text_refused e q = record { refused = first_refused e (text_refusal bs) _ q; counted = tt; written = tt }

  module _ (k : StackStruct) (t : StackRead bs (Ok k)) where
    refusal_is : (f : Refusal) → f ≡ asked_refusal (stack_of k) s n → f ≡ page_refusal bs s n
    unfolding page_refusal
    refusal_is f q = or_else_then (text_refusal bs) (asked_refusal (stack_in bs) s n) f t.outcome (rw (← t.stack) q)

    pub page_not_asked : (e : Refused) → refusal (number_of e.why) e.line e.field ≡ asked_refusal (stack_of k) s n → TextPut (page_refusal bs s n) (page_in bs s n) o m (Err e)
    page_not_asked e q = record { refused = refusal_is _ q; counted = tt; written = tt }

    pub page_put : (v : ℕ) → fine ≡ asked_refusal (stack_of k) s n → ChannelPut (stack_of k) s n o m v → TextPut (page_refusal bs s n) (page_in bs s n) o m (Ok v)
    unfolding page_in
    page_put v q p =
        let c : ChannelPut (stack_in bs) s n o m v = rw t.stack at p in
        record { refused = refusal_is fine q; counted = c.counted; written = c.written }

-- ENOUGH SPACE, and what the page shows
module _ (bs : List ℕ) (s n : ℕ) (e : (page_refusal bs s n).number ≡ 0) where
  both_fine : ((text_refusal bs).number ≡ 0) × ((asked_refusal (stack_in bs) s n).number ≡ 0)
  unfolding page_refusal
  both_fine = or_else_fine (text_refusal bs) (asked_refusal (stack_in bs) s n) e

  good : within_limits (stack_in bs) ≡ true
  good = accepted_within bs both_fine.0

  -- nothing refused, there is an answer
  pub page_answered : Answer (stack_in bs) s (answer_separations (stack_in bs) s) (answer_positions (stack_in bs) s)
  page_answered = answer_there (stack_in bs) s good (asked_fine (stack_in bs) s n both_fine.1).wide

  there_is : n - 1 < length (stack_in bs).channels
  there_is = let p = asked_fine (stack_in bs) s n both_fine.1 in omega (arith, p.some, p.within)

  module _ (ts xs : List ℕ) (a : Answer (stack_in bs) s ts xs) where
    small : get_or ts (n - 1) 0 ≤ 64
    small = separations_small (stack_in bs) good s ts xs a (n - 1) (omega (arith, there_is, (legal_lengths (stack_in bs) s ts xs a.is_legal).0))

    page_below : length (channel_page (stack_in bs) ts xs (n - 1)) ≤ 4485
    unfolding channel_page
    page_below = omega (arith, page_long (channel_paths (stack_in bs) ts xs (n - 1)) (get_or ts (n - 1) 0) (omega (arith, small)), small)

    shown_placed : ChannelPlaced s (channel_in (stack_in bs) (n - 1)).pairs (get_or ts (n - 1) 0) (get_or xs (n - 1) 0) (get_or xs (suc (n - 1)) 0)
    shown_placed = channel_placed (stack_in bs) s ts xs (n - 1) good a.is_legal there_is

    shown_paths : PathsShown s (channel_in (stack_in bs) (n - 1)).pairs (get_or ts (n - 1) 0) (get_or xs (n - 1) 0) (get_or xs (suc (n - 1)) 0)
        (channel_paths (stack_in bs) ts xs (n - 1)) (channel_page (stack_in bs) ts xs (n - 1))
    unfolding channel_page channel_paths
    shown_paths = placed_shown s (channel_in (stack_in bs) (n - 1)).pairs (get_or ts (n - 1) 0) (get_or xs (n - 1) 0) (get_or xs (suc (n - 1)) 0) (omega (arith, small)) shown_placed

    page_plain : lacks 35 (channel_page (stack_in bs) ts xs (n - 1)) ≡ true
    unfolding channel_page channel_paths
    page_plain = wiring_page_lacks (channel_in (stack_in bs) (n - 1)).pairs (get_or ts (n - 1) 0) (get_or xs (n - 1) 0) (get_or xs (suc (n - 1)) 0) shown_placed.rises shown_placed.good

    fits_shows : (r : TableResult) (o x : List ℕ) (v : Bool) → Fits v (channel_page (stack_in bs) ts xs (n - 1)) r o x → PageShows bs s n r x
    unfolding Fits table_told refusal zeros channel_paths
    fits_shows r o x true f =
        let page = channel_page (stack_in bs) ts xs (n - 1) in
        let front : take (written_in r) x ≡ page = rw (f.1, f.0.1) (take_at page (replicate (length o - length page) 0) (length page) refl) in
        record {
          drawn = λ z. record {
            separations = ts;
            positions = xs;
            answer = a;
            shown = front;
            paths_shown = rw front shown_paths;
          };
          plain = rw f.1 (lacks_both 35 page (replicate (length o - length page) 0) page_plain (lacks_copies 35 0 (length o - length page) refl));
        }
    fits_shows r o x false f =
        record {
          drawn = λ z. let k = ap (λ (f : Refusal). f.number) f.0.0 in absurd (omega arith);
          plain = rw f.1 (lacks_copies 35 0 (length o) refl);
        }

paged_refused : (c : ℕ) (f : Refusal) (k : Stack) (s n : ℕ) (r : TableResult) (o x : List ℕ) → (c ≡ 0 → ⊥) → table_told f 0 r → x ≡ zeros o → Paged c f k s n r o x
unfolding Paged
paged_refused zero f k s n r o x h t z = absurd (h refl)
paged_refused (suc c) f k s n r o x h t z = (t, z)

pub page_said : (bs : List ℕ) (s n : ℕ) (r : TableResult) (o x : List ℕ) → Settled (page_refusal bs s n) (page_in bs s n) r o x → PageSays bs s n r o x
unfolding PageSays Paged page_in fine refusal
page_said bs s n r o x (fits q p) =
    let there = page_answered bs s n (fine_number (page_refusal bs s n) (sym q)) in
    rw q (answer_separations (stack_in bs) s, answer_positions (stack_in bs) s, there, p)
page_said bs s n r o x (sent_back h t z) = paged_refused (page_refusal bs s n).number (page_refusal bs s n) (stack_in bs) s n r o x h t z

pub page_enough : (bs : List ℕ) (s n : ℕ) (r : TableResult) (o x : List ℕ) → PageSays bs s n r o x → PageEnough 4485 bs s n r o
unfolding PageSays Paged PageEnough
page_enough bs s n r o x says z l =
    let t = rw z at says in
    fits_fine (channel_page (stack_in bs) t.0 t.1 (n - 1)) r o x (omega (arith, page_below bs s n z t.0 t.1 t.2)) t.3

pub page_shows : (bs : List ℕ) (s n : ℕ) (r : TableResult) (o x : List ℕ) → PageSays bs s n r o x → PageShows bs s n r x
unfolding PageSays Paged table_told zeros
page_shows bs s n r o x says = go (page_refusal bs s n).number refl says
  where
    go : (c : ℕ) → (page_refusal bs s n).number ≡ c → Paged c (page_refusal bs s n) (stack_in bs) s n r o x → PageShows bs s n r x
    go zero e t = fits_shows bs s n e t.0 t.1 t.2 r o x (leb (length (channel_page (stack_in bs) t.0 t.1 (n - 1))) (length o)) t.3
    go (suc c) e t =
        record {
          drawn = λ z. let k = ap (λ (f : Refusal). f.number) t.0.0 in absurd (omega arith);
          plain = rw t.1 (lacks_copies 35 0 (length o) refl);
        }
