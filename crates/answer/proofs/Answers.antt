-- The solver's total is the least total of Stack.antt, and its separations and positions for a total are the placement, whatever bias of at least s + 32 they are
-- worked out with: for every spread from the first one on, and every total from the least one on. Assumes nothing.
use mathlib.Core.Path.{◌≡◌}
use mathlib.Core.Bool.{true, ◌&&◌}
use mathlib.Core.List.{List, [], ◌∷◌}
use mathlib.Core.Logic.{◌↔◌}
use Prim.Native.Nat.{ℕ, ◌+◌, ◌≤◌, ◌<◌}
use native.Mathlib.Omega.{arith}
use lib.ListN.{length}
use borrow.Author.Tests.{leb-true}
use Rattle.numbers.proofs.Bools.{ands, impossible}
use Rattle.stack.specs.Stack.{Channel, Window, free, held, Strip, Stack, stack, in_spread, channels_good, legal, sum, least_position, first_spread, not_later, TotalMet, LeastTotal, Placement, Answer}
use Rattle.stack.specs.Limits.{channels_within, within_limits}
use Rattle.stack.proofs.Placements.{total_alone}
use Rattle.spans.specs.Spans.{In}
use Rattle.spans.specs.Solver.{most, positions}
use Rattle.spans.specs.Placed.{Placed, alone, under, Widening, Exactly, Chosen}
use Rattle.spans.proofs.Total.{no_smaller_total, least_total_at_most, least_total_reached, greater_total_reached}
use Rattle.spans.proofs.Chosen.{chosen}
use Rattle.answer.specs.Solve.{last_use, window_span, window, stack_levels, bottom, levels_of, total_with, separations_with, positions_with, answer_total, separations_for, positions_for, answer_separations, answer_positions}
use Rattle.answer.proofs.Legal.{Stand, stand, legal_placed, placed_legal, stack_widening, channel_fits_open}
use Rattle.answer.proofs.Alone.{legal_wide, placement_alone, placement_met, both_answer}

-- every strip at its least position and every separation the last of use
unfoldable pub lasts_of : List Channel → List ℕ
lasts_of [] = []
lasts_of (c ∷ cs) = last_use c ∷ lasts_of cs

unfoldable pub leasts_of : List Strip → List ℕ
leasts_of [] = []
leasts_of (l ∷ ls) = least_position l.window ∷ leasts_of ls

least_in : (s n : ℕ) (w : Window) → n ≤ s → (window_span s n w).from < (window_span s n w).upto → In (window_span s n w) (least_position w) × (least_position w ≤ s)
unfolding window_span least_position
least_in s n free h i = (omega arith, omega arith)
least_in s n (held a e) h i = (omega arith, omega arith)

module _ (b s : ℕ) (wide : s + 32 ≤ b) where
  pub some_placed : (l : Strip) (ls : List Strip) (cs : List Channel) → channels_within (l ∷ ls) cs ≡ true → Stand s (l ∷ ls) →
      Placed b (window s l) (stack_levels b s ls cs) (lasts_of cs) (least_position l.window) (leasts_of ls)
  unfolding channels_within stack_levels lasts_of leasts_of Stand
  some_placed l [] [] e h = alone (least_in s l.length l.window h.0 h.1).0
  some_placed l [] (c ∷ cs) e h = impossible e
  some_placed l (u ∷ ls) [] e h = impossible e
  some_placed l (u ∷ ls) (c ∷ cs) e h =
      let here = least_in s l.length l.window h.0 h.1 in
      let above = least_in s u.length u.window h.2.0 h.2.1 in
      under here.0 (channel_fits_open b s wide c (least_position l.window) (least_position u.window) here.1 above.1) (some_placed u ls cs (search ands) h.2)

  -- a legal placement is one of the solver's
  module _ (l : Strip) (ls : List Strip) (cs : List Channel) (e : channels_within (l ∷ ls) cs ≡ true) where
    abbrev OfSolver : (ts : List ℕ) → (x : ℕ) → (xs : List ℕ) → Type 0
    OfSolver ts x xs = Placed b (window s l) (stack_levels b s ls cs) ts x xs

    abbrev here : Stack
    here = stack (l ∷ ls) cs

    placed : (us : List ℕ) (y : ℕ) (zs : List ℕ) → (in_spread s (l ∷ ls) (y ∷ zs) && channels_good cs us (y ∷ zs)) ≡ true → OfSolver us y zs
    placed us y zs h = legal_placed b s wide l ls cs us y zs e (search ands) (search ands)

    -- so is one with this total, and a bound of the solver's totals is one of all
    met_from : (v : ℕ) → Exactly b (window s l) (stack_levels b s ls cs) v → TotalMet here s v
    unfolding legal stack
    met_from v x =
        record { separations = x.ts; positions = x.x ∷ x.ys; is_legal = placed_legal b s wide l ls cs x.ts x.x x.ys e x.placed; exact = x.total }

    least_from : (v : ℕ) → ((us : List ℕ) (y : ℕ) (zs : List ℕ) → OfSolver us y zs → v ≤ sum us) → (us ys : List ℕ) → legal here s us ys ≡ true → v ≤ sum us
    unfolding legal stack in_spread
    least_from v least us [] h = impossible h
    least_from v least us (y ∷ zs) h = least us y zs (placed us y zs h)

    placement_from : (v : ℕ) (ts : List ℕ) (x : ℕ) (xs : List ℕ) → Chosen b (window s l) (stack_levels b s ls cs) v ts x xs → Placement here s v ts (x ∷ xs)
    unfolding legal stack in_spread
    placement_from v ts x xs c =
        record {
          is_legal = placed_legal b s wide l ls cs ts x xs e c.is_placed;
          exact = c.total;
          first = λ us ys h k. go_first us ys h k;
          first_places = λ ys h. go_places ys h;
        }
      where
        go_first : (us ys : List ℕ) → (in_spread s (l ∷ ls) ys && channels_good cs us ys) ≡ true → sum us ≡ v → not_later ts us ≡ true
        go_first us [] h k = impossible h
        go_first us (y ∷ zs) h k = c.first us y zs (placed us y zs h) k

        go_places : (ys : List ℕ) → (in_spread s (l ∷ ls) ys && channels_good cs ts ys) ≡ true → not_later (x ∷ xs) ys ≡ true
        go_places [] h = impossible h
        go_places (y ∷ zs) h = c.first_places y zs (placed ts y zs h)

  -- strips and channels of a stack
  widening_of : (ls : List Strip) (cs : List Channel) → channels_within ls cs ≡ true → Stand s ls → Widening (levels_of b (stack ls cs) s)
  unfolding channels_within levels_of stack
  widening_of [] cs e h = impossible e
  widening_of (l ∷ ls) cs e h = stack_widening b s wide l ls cs h e

  most_of : (ls : List Strip) (cs : List Channel) → channels_within ls cs ≡ true → Stand s ls → total_with b (stack ls cs) s ≤ most (levels_of b (stack ls cs) s)
  unfolding channels_within total_with bottom levels_of stack
  most_of [] cs e h = impossible e
  most_of (l ∷ ls) cs e h =
      least_total_at_most b (window s l) (stack_levels b s ls cs) (stack_widening b s wide l ls cs h e) (lasts_of cs) (least_position l.window) (leasts_of ls) (some_placed l ls cs e h)

  -- with a channel every total from the least one on is that of some placement
  exactly_of : (ls : List Strip) (cs : List Channel) (v : ℕ) → channels_within ls cs ≡ true → Stand s ls → 1 ≤ length cs → total_with b (stack ls cs) s ≤ v →
      Exactly b (bottom (stack ls cs) s) (levels_of b (stack ls cs) s) v
  unfolding channels_within total_with bottom levels_of stack stack_levels
  exactly_of [] cs v e h c m = impossible e
  exactly_of (l ∷ ls) [] v e h c m = absurd (omega arith)
  exactly_of (l ∷ []) (d ∷ cs) v e h c m = impossible e
  exactly_of (l ∷ u ∷ ls) (d ∷ cs) v e h c m =
      greater_total_reached b (window s l) _ (stack_levels b s ls cs) v (widening_of (l ∷ u ∷ ls) (d ∷ cs) e h) (most_of (l ∷ u ∷ ls) (d ∷ cs) e h) m

  least_of : (ls : List Strip) (cs : List Channel) → channels_within ls cs ≡ true → Stand s ls → LeastTotal (stack ls cs) s (total_with b (stack ls cs) s)
  unfolding channels_within total_with bottom levels_of stack
  least_of [] cs e h = impossible e
  least_of (l ∷ ls) cs e h =
      record {
        met = met_from l ls cs e _ (least_total_reached b (window s l) (stack_levels b s ls cs) (widening_of (l ∷ ls) cs e h) (most_of (l ∷ ls) cs e h));
        least = least_from l ls cs e _ (λ us y zs p. no_smaller_total b (window s l) (stack_levels b s ls cs) (widening_of (l ∷ ls) cs e h) us y zs p);
      }

  placement_of : (ls : List Strip) (cs : List Channel) (v : ℕ) → channels_within ls cs ≡ true → Stand s ls → Exactly b (bottom (stack ls cs) s) (levels_of b (stack ls cs) s) v →
      Placement (stack ls cs) s v (separations_with b (stack ls cs) s v) (positions_with b (stack ls cs) s (separations_with b (stack ls cs) s v))
  unfolding channels_within separations_with positions_with positions bottom levels_of stack
  placement_of [] cs v e h x = impossible e
  placement_of (l ∷ ls) cs v e h x =
      placement_from l ls cs e v _ _ _ (chosen b (window s l) (stack_levels b s ls cs) v (widening_of (l ∷ ls) cs e h) x)

  module _ (k : Stack) (e : within_limits k ≡ true) (h : first_spread k.strips ≤ s) where
    pub all_stand : Stand s k.strips
    unfolding within_limits
    all_stand = stand s k.strips (search ands) h

    -- the least total is one of use
    pub total_most : total_with b k s ≤ most (levels_of b k s)
    unfolding within_limits stack
    total_most = most_of k.strips k.channels (search ands) all_stand

    pub widening_with : Widening (levels_of b k s)
    unfolding within_limits stack
    widening_with = widening_of k.strips k.channels (search ands) all_stand

    pub exactly_with : (v : ℕ) → total_with b k s ≤ v → Exactly b (bottom k s) (levels_of b k s) v
    unfolding within_limits stack
    exactly_with v m = exactly_of k.strips k.channels v (search ands) all_stand (leb-true 1 (length k.channels) (search ands)) m

    -- THE LEAST TOTAL and THE PLACEMENT with a bias of at least s + 32
    pub least_with : LeastTotal k s (total_with b k s)
    unfolding within_limits stack
    least_with = least_of k.strips k.channels (search ands) all_stand

    pub placement_with : (v : ℕ) → total_with b k s ≤ v → Placement k s v (separations_with b k s v) (positions_with b k s (separations_with b k s v))
    unfolding within_limits stack
    placement_with v m = placement_of k.strips k.channels v (search ands) all_stand (exactly_with v m)

module _ (k : Stack) (s : ℕ) (e : within_limits k ≡ true) where
  module _ (h : first_spread k.strips ≤ s) where
    -- THE LEAST TOTAL, for every spread from the first one on
    pub least_there : LeastTotal k s (answer_total k s)
    unfolding answer_total
    least_there = least_with (s + 32) s (omega arith) k e h

    -- THE PLACEMENT, for every total from the least one on
    pub placement_there : (v : ℕ) → answer_total k s ≤ v → Placement k s v (separations_for k s v) (positions_for k s v)
    unfolding answer_total separations_for positions_for
    placement_there v m = placement_with (s + 32) s (omega arith) k e h v m

    -- THE ANSWER
    pub answer_there : Answer k s (answer_separations k s) (answer_positions k s)
    answer_there = both_answer k s (answer_total k s) _ _ least_there (placement_there (answer_total k s) (omega arith))

    pub answer_sum : sum (answer_separations k s) ≡ answer_total k s
    answer_sum = (placement_there (answer_total k s) (omega arith)).exact

    -- they are the same with every bias that serves
    module _ (b : ℕ) (w : s + 32 ≤ b) where
      pub total_any_bias : total_with b k s ≡ answer_total k s
      total_any_bias = total_alone k s _ _ (least_with b s w k e h) least_there

      pub placement_any_bias : (v : ℕ) → answer_total k s ≤ v → (separations_with b k s v ≡ separations_for k s v) × (positions_with b k s (separations_with b k s v) ≡ positions_for k s v)
      placement_any_bias v m = placement_alone k s v _ _ _ _ (placement_with b s w k e h v (omega (arith, total_any_bias))) (placement_there v m)

  -- THE TOTALS THAT ARE MET are the least one and all above it
  pub met_from_least : (v w : ℕ) → LeastTotal k s v → TotalMet k s w ↔ (v ≤ w)
  met_from_least v w l = (down, up)
    where
      down : TotalMet k s w → v ≤ w
      down m = omega (arith, l.least m.separations m.positions m.is_legal, m.exact)

      up : v ≤ w → TotalMet k s w
      up m =
          let h = legal_wide k s l.met.separations l.met.positions l.met.is_legal in
          placement_met k s w _ _ (placement_there h w (omega (arith, total_alone k s _ _ l (least_there h))))
