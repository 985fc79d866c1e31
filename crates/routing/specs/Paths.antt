-- TRUSTED. Paths over the grid, and when a placement is drawable; L, R and feasibility have no part.
-- Document 01, "When a channel can be wired", from "Demand 3 uses paths instead" on; document 02, P2 and P4. Assumes nothing: these are definitions.
use Rattle.std.specs.Prelude.{◌≡◌, Bool, true, false, ◌&&◌, ◌||◌, not, List, [], ◌∷◌, ℕ, zero, suc, ◌+◌, ◌≤◌, ltb, leb, eqb, get_or, ℤ, pos, negsuc}
use Rattle.stack.specs.Stack.{Stack, Channel, Pair, in_spread}

-- a grid point: a column, which may lie outside the spread, and a track
pub record Point : Type 0 where
  pub column : ℤ
  pub track : ℕ

unfoldable pub point : ℤ → (track : ℕ) → Point
point c t = record { column = c; track = t }

unfoldable pub next : ℤ → ℤ
next (pos n) = pos (suc n)
next (negsuc zero) = pos zero
next (negsuc (suc n)) = negsuc n

unfoldable pub same_column : ℤ → ℤ → Bool
same_column (pos a) (pos b) = eqb a b
same_column (pos a) (negsuc b) = false
same_column (negsuc a) (pos b) = false
same_column (negsuc a) (negsuc b) = eqb a b

unfoldable pub same_point : Point → Point → Bool
same_point a b = same_column a.column b.column && eqb a.track b.track

-- a unit step within tracks 0 to t: up or down a track, or along one of tracks 1 to t - 1
unfoldable pub is_step : (t : ℕ) → Point → Point → Bool
is_step t a b =
    (leb a.track t && leb b.track t)
    && ((same_column a.column b.column && (eqb (suc a.track) b.track || eqb (suc b.track) a.track))
    || ((eqb a.track b.track && (ltb 0 a.track && ltb a.track t))
    && (same_column (next a.column) b.column || same_column (next b.column) a.column)))

-- unit steps from a point through the points listed to the goal
unfoldable pub chain : (t : ℕ) → (goal : Point) → (at : Point) → List Point → Bool
chain t g a [] = same_point a g && leb a.track t
chain t g a (b ∷ bs) = is_step t a b && chain t g b bs

-- a PATH: its points in order, the first and the last as given
unfoldable pub is_path : (t : ℕ) → (from goal : Point) → List Point → Bool
is_path t a g [] = false
is_path t a g (b ∷ bs) = same_point a b && chain t g b bs

unfoldable pub on_path : Point → List Point → Bool
on_path a [] = false
on_path a (b ∷ bs) = same_point a b || on_path a bs

-- no point in common
unfoldable pub apart : (xs ys : List Point) → Bool
apart [] ys = true
apart (x ∷ xs) ys = not (on_path x ys) && apart xs ys

unfoldable pub apart_from_all : List Point → List (List Point) → Bool
apart_from_all xs [] = true
apart_from_all xs (ys ∷ yss) = apart xs ys && apart_from_all xs yss

unfoldable pub none_meet : List (List Point) → Bool
none_meet [] = true
none_meet (xs ∷ xss) = apart_from_all xs xss && none_meet xss

-- one path for each pair, from the lower strip's terminal on track 0 to the upper's on track t
unfoldable pub all_paths : (t lower upper : ℕ) → List Pair → List (List Point) → Bool
all_paths t a b [] [] = true
all_paths t a b [] (w ∷ ws) = false
all_paths t a b (p ∷ ps) [] = false
all_paths t a b (p ∷ ps) (w ∷ ws) = is_path t (point (pos (a + p.p)) 0) (point (pos (b + p.q)) t) w && all_paths t a b ps ws

pub record ChannelDrawn (c : List Pair) (t lower upper : ℕ) : Type 0 where
  pub paths : List (List Point)
  pub led : all_paths t lower upper c paths ≡ true
  pub clear : none_meet paths ≡ true

-- no channel is below its floor, and each is drawn
unfoldable pub ChannelsDrawn : List Channel → (separations positions : List ℕ) → Type 0
ChannelsDrawn [] [] xs = zero ≡ zero
ChannelsDrawn [] (t ∷ ts) xs = ⊥
ChannelsDrawn (c ∷ cs) [] xs = ⊥
ChannelsDrawn (c ∷ cs) (t ∷ ts) [] = ⊥
ChannelsDrawn (c ∷ cs) (t ∷ ts) (x ∷ xs) = (c.floor ≤ t) × ChannelDrawn c.pairs t x (get_or xs 0 0) × ChannelsDrawn cs ts xs

-- DRAWABLE in a spread
pub record Drawable (k : Stack) (s : ℕ) (ts xs : List ℕ) : Type 0 where
  pub within : in_spread s k.strips xs ≡ true
  pub drawn : ChannelsDrawn k.channels ts xs
