-- Paths that stay inside the spread draw the very same placements: what is drawable is legal, and the paths of a legal placement's wiring stay between their
-- terminals, which lie within the spread. Assumes nothing.
use mathlib.Core.Path.{◌≡◌, refl}
use mathlib.Core.Bool.{true}
use mathlib.Core.List.{List, [], ◌∷◌}
use mathlib.Core.Logic.{◌↔◌}
use Prim.Native.Nat.{ℕ, suc, ◌≤◌, ◌<◌}
use native.Mathlib.Omega.{arith}
use lib.ListN.{length, get_or}
use Rattle.numbers.proofs.Bools.{ands}
use Rattle.stack.specs.Stack.{Channel, no_channel, channel_in, Stack, legal, LeastTotal}
use Rattle.stack.specs.Limits.{within_limits}
use Rattle.stack.proofs.Feasible.{feasible_says}
use Rattle.stack.proofs.Within.{within_rising, limits_each}
use Rattle.stack.proofs.Placements.{positions_long, legal_each}
use Rattle.routing.specs.Paths.{ChannelDrawn, ChannelsDrawn, Drawable}
use Rattle.routing.specs.Wiring.{wiring}
use Rattle.routing.proofs.Drawable.{drawable_legal}
use Rattle.page.proofs.Inside.{channel_placed, placed_led}
use Rattle.turned.specs.Inside.{DrawableInside, InsideSame, LeastOf, InsideSameTotal}

-- channel by channel
all_drawn : (cs : List Channel) (ts xs : List ℕ) → length ts ≡ length cs → length cs ≤ length xs
    → ((i : ℕ) → i < length cs → ((get_or cs i no_channel).floor ≤ get_or ts i 0) × ChannelDrawn (get_or cs i no_channel).pairs (get_or ts i 0) (get_or xs i 0) (get_or xs (suc i) 0))
    → ChannelsDrawn cs ts xs
unfolding ChannelsDrawn
all_drawn [] [] xs e l h = refl
all_drawn [] (t ∷ ts) xs e l h = absurd (omega arith)
all_drawn (c ∷ cs) [] xs e l h = absurd (omega arith)
all_drawn (c ∷ cs) (t ∷ ts) [] e l h = absurd (omega arith)
all_drawn (c ∷ cs) (t ∷ ts) (x ∷ xs) e l h =
    let d = h 0 (omega arith) in
    (d.0, d.1, all_drawn cs ts xs (omega arith) (omega arith) (λ i m. h (suc i) (omega arith)))

module _ (k : Stack) (s : ℕ) (e : within_limits k ≡ true) where
  inside_drawable : (ts xs : List ℕ) → DrawableInside k s ts xs → Drawable k s ts xs
  inside_drawable ts xs d = record {
    within = d.within;
    drawn =
        all_drawn k.channels ts xs d.counted (omega (arith, positions_long s k.strips xs d.within, (limits_each k e).count))
        (λ i l. (d.floors i l, record { paths = d.paths i; led = (d.led i l).led; clear = (d.led i l).clear }));
  }

  legal_inside : (ts xs : List ℕ) → legal k s ts xs ≡ true → DrawableInside k s ts xs
  unfolding legal
  legal_inside ts xs g =
      let p = legal_each k s ts xs g in
      record {
        within = search ands;
        counted = p.separations;
        floors = λ i l. (feasible_says (channel_in k i) _ _ _ (p.wired i l)).0;
        paths = λ i. wiring (channel_in k i).pairs (get_or ts i 0) (get_or xs i 0) (get_or xs (suc i) 0);
        led = λ i l. placed_led s _ _ _ _ (channel_placed k s ts xs i e g l);
      }

  inside_legal : (ts xs : List ℕ) → DrawableInside k s ts xs → legal k s ts xs ≡ true
  inside_legal ts xs d = drawable_legal k s ts xs (within_rising k e) (inside_drawable ts xs d)

-- THE VERY SAME PLACEMENTS CAN BE DRAWN INSIDE THE SPREAD
pub inside_same : InsideSame
unfolding InsideSame
inside_same k s ts xs e =
    (λ d. legal_inside k s e ts xs (drawable_legal k s ts xs (within_rising k e) d), inside_drawable k s e ts xs)

-- of two kinds with the same placements the least total is the same
least_of : (P Q : (ts xs : List ℕ) → Type 0) (v : ℕ) → ((ts xs : List ℕ) → P ts xs → Q ts xs) → ((ts xs : List ℕ) → Q ts xs → P ts xs) → LeastOf P v → LeastOf Q v
least_of P Q v f g m = record {
  separations = m.separations;
  positions = m.positions;
  is = f m.separations m.positions m.is;
  exact = m.exact;
  least = λ us ys q. m.least us ys (g us ys q);
}

-- NO TOTAL CHANGES
pub inside_same_total : InsideSameTotal
unfolding InsideSameTotal InsideSame
inside_same_total k s v e =
    ((least_of _ _ v (λ ts xs. (same ts xs).0) (λ ts xs. (same ts xs).1), least_of _ _ v (λ ts xs. (same ts xs).1) (λ ts xs. (same ts xs).0)), (to, from))
  where
    same : (ts xs : List ℕ) → Drawable k s ts xs ↔ DrawableInside k s ts xs
    same ts xs = inside_same k s ts xs e

    to : LeastTotal k s v → LeastOf (λ ts xs. DrawableInside k s ts xs) v
    to m = record {
      separations = m.met.separations;
      positions = m.met.positions;
      is = legal_inside k s e m.met.separations m.met.positions m.met.is_legal;
      exact = m.met.exact;
      least = λ us ys d. m.least us ys (inside_legal k s e us ys d);
    }

    from : LeastOf (λ ts xs. DrawableInside k s ts xs) v → LeastTotal k s v
    from m = record {
      met = record { separations = m.separations; positions = m.positions; is_legal = inside_legal k s e m.separations m.positions m.is; exact = m.exact };
      least = λ us ys g. m.least us ys (legal_inside k s e us ys g);
    }
