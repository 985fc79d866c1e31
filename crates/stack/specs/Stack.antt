-- TRUSTED. Stacks of strips and channels; when a channel can be wired; legal placements, the least total and the placement for a total, a table's rows.
-- Document 01, "Strips, columns and tracks", "When a channel can be wired" and "Choosing among equals"; document 02, P2 to P4 and P7. Assumes nothing: these are
-- definitions.
use Rattle.std.specs.Prelude.{◌≡◌, Bool, true, false, ◌&&◌, ◌||◌, List, [], ◌∷◌, ℕ, zero, suc, ◌+◌, ◌-◌, ◌≤◌, ◌<◌, max, ltb, leb, eqb, length, get_or}

-- a PAIR joins terminal p of the lower strip's upper edge to terminal q of the upper strip's lower edge
pub record Pair : Type 0 where
  pub p : ℕ
  pub q : ℕ

-- a CHANNEL: its pairs, and the floor of its separation
pub record Channel : Type 0 where
  pub pairs : List Pair
  pub floor : ℕ

-- the WINDOW of a strip, document 02's P7: free, or held from a least to a greatest position
pub data Window : Type 0 where
  free : Window
  held : (least greatest : ℕ) → Window

-- a STRIP: its length and its window
pub record Strip : Type 0 where
  pub length : ℕ
  pub window : Window

-- a STACK: its strips from the bottom, and the channel above each strip but the last
pub record Stack : Type 0 where
  pub strips : List Strip
  pub channels : List Channel

unfoldable pub pair : (p q : ℕ) → Pair
pair a b = record { p = a; q = b }

abbrev pub channel : List Pair → (floor : ℕ) → Channel
channel ps f = record { pairs = ps; floor = f }

abbrev pub strip : (length : ℕ) → Window → Strip
strip l w = record { length = l; window = w }

unfoldable pub stack : List Strip → List Channel → Stack
stack s c = record { strips = s; channels = c }

-- a channel without pairs and with floor 0
abbrev pub no_channel : Channel
no_channel = channel [] 0

-- a free strip of length 0
abbrev pub no_strip : Strip
no_strip = strip 0 free

-- the strip at place i, from the bottom
abbrev pub strip_in : Stack → (i : ℕ) → Strip
strip_in k i = get_or k.strips i no_strip

-- the channel between strips i and i + 1
abbrev pub channel_in : Stack → (i : ℕ) → Channel
channel_in k i = get_or k.channels i no_channel

unfoldable pub p_at : List Pair → (j : ℕ) → ℕ
p_at ps j = (get_or ps j (pair 0 0)).p

unfoldable pub q_at : List Pair → (j : ℕ) → ℕ
q_at ps j = (get_or ps j (pair 0 0)).q

-- a test passes at each of the numbers j, j + 1, .., as many as are left
unfoldable pub every : (left j : ℕ) → (ℕ → Bool) → Bool
every zero j f = true
every (suc k) j f = f j && every k (suc j) f

-- L(t) ≤ w at j: p(j - t) + t - q(j) ≤ upper - lower, each side kept above zero
unfoldable pub left_good : List Pair → (t lower upper j : ℕ) → Bool
left_good ps t a b j = leb (p_at ps (j - t) + t + a) (b + q_at ps j)

-- w ≤ R(t) at j: upper - lower ≤ p(j + t) - t - q(j), each side kept above zero
unfoldable pub right_good : List Pair → (t lower upper j : ℕ) → Bool
right_good ps t a b j = leb (b + t + q_at ps j) (p_at ps (j + t) + a)

-- pairs that are WIRABLE at separation t with the strips at these positions, by document 004's condition, where paths may run along track 0: L(t) at most the
-- offset upper - lower, the offset at most R(t); from t = m on every offset
unfoldable pub wirable : List Pair → (t lower upper : ℕ) → Bool
wirable ps t a b =
    leb (length ps) t
    || (every (length ps - t) t (λ j. left_good ps t a b j) && every (length ps - t) 0 (λ j. right_good ps t a b j))

-- wirable with the LOWER EDGE CLEAR, document 02's P4: for t ≥ 1 and at least one pair that condition at t - 1; at t = 0, and without pairs, that condition itself
unfoldable pub edge_clear : List Pair → (t lower upper : ℕ) → Bool
edge_clear [] t a b = wirable [] t a b
edge_clear (p ∷ ps) zero a b = wirable (p ∷ ps) 0 a b
edge_clear (p ∷ ps) (suc t) a b = wirable (p ∷ ps) t a b

-- FEASIBLE: from the floor upward, and wirable with the lower edge clear
unfoldable pub feasible : Channel → (t lower upper : ℕ) → Bool
feasible c t a b = leb c.floor t && edge_clear c.pairs t a b

-- a position INSIDE the window
unfoldable pub in_window : Window → (position : ℕ) → Bool
in_window free x = true
in_window (held a e) x = leb a x && leb x e

-- a strip at a position lies within the spread and inside its window
unfoldable pub stands : (s : ℕ) → Strip → (position : ℕ) → Bool
stands s l x = leb (x + l.length) s && in_window l.window x

-- a PLACEMENT, separations and positions, lies WITHIN the spread, each strip inside its window
unfoldable pub in_spread : (s : ℕ) → List Strip → (positions : List ℕ) → Bool
in_spread s [] [] = true
in_spread s [] (x ∷ xs) = false
in_spread s (l ∷ ls) [] = false
in_spread s (l ∷ ls) (x ∷ xs) = stands s l x && in_spread s ls xs

unfoldable pub channels_good : List Channel → (separations positions : List ℕ) → Bool
channels_good [] [] xs = true
channels_good [] (t ∷ ts) xs = false
channels_good (c ∷ cs) [] xs = false
channels_good (c ∷ cs) (t ∷ ts) [] = false
channels_good (c ∷ cs) (t ∷ ts) (x ∷ xs) = feasible c t x (get_or xs 0 0) && channels_good cs ts xs

-- LEGAL in a spread
unfoldable pub legal : Stack → (s : ℕ) → (separations positions : List ℕ) → Bool
legal k s ts xs = in_spread s k.strips xs && channels_good k.channels ts xs

-- the TOTAL of separations
unfoldable pub sum : List ℕ → ℕ
sum [] = 0
sum (x ∷ xs) = x + sum xs

-- the GREATEST, over strips, of a number that each has
unfoldable pub greatest_of : (Strip → ℕ) → List Strip → ℕ
greatest_of f [] = 0
greatest_of f (l ∷ ls) = max (f l) (greatest_of f ls)

unfoldable pub least_position : Window → ℕ
least_position free = 0
least_position (held a e) = a

-- where a strip ends at its least position
abbrev pub reach : Strip → ℕ
reach l = l.length + least_position l.window

-- THE FIRST SPREAD: the greatest, over all strips, of length plus least position
unfoldable pub first_spread : List Strip → ℕ
first_spread ls = greatest_of (λ (l : Strip). reach l) ls

-- DICTIONARY ORDER of lists of one length: not later
unfoldable pub not_later : (xs ys : List ℕ) → Bool
not_later [] ys = true
not_later (x ∷ xs) [] = false
not_later (x ∷ xs) (y ∷ ys) = ltb x y || (eqb x y && not_later xs ys)

-- a total that is MET in a spread: some legal placement has exactly it
pub record TotalMet (k : Stack) (s v : ℕ) : Type 0 where
  pub separations : List ℕ
  pub positions : List ℕ
  pub is_legal : legal k s separations positions ≡ true
  pub exact : sum separations ≡ v

-- THE LEAST TOTAL in a spread
pub record LeastTotal (k : Stack) (s v : ℕ) : Type 0 where
  pub met : TotalMet k s v
  pub least : (us ys : List ℕ) → legal k s us ys ≡ true → v ≤ sum us

-- THE PLACEMENT FOR A TOTAL: of the legal placements with exactly that total, separations and then positions first in dictionary order
pub record Placement (k : Stack) (s v : ℕ) (ts xs : List ℕ) : Type 0 where
  pub is_legal : legal k s ts xs ≡ true
  pub exact : sum ts ≡ v
  pub first : (us ys : List ℕ) → legal k s us ys ≡ true → sum us ≡ v → not_later ts us ≡ true
  pub first_places : (ys : List ℕ) → legal k s ts ys ≡ true → not_later xs ys ≡ true

-- THE ANSWER for a spread, both together: least total, then separations, then positions first in dictionary order
pub record Answer (k : Stack) (s : ℕ) (ts xs : List ℕ) : Type 0 where
  pub is_legal : legal k s ts xs ≡ true
  pub least : (us ys : List ℕ) → legal k s us ys ≡ true → sum ts ≤ sum us
  pub first : (us ys : List ℕ) → legal k s us ys ≡ true → sum us ≡ sum ts → not_later ts us ≡ true
  pub first_places : (ys : List ℕ) → legal k s ts ys ≡ true → not_later xs ys ≡ true

-- a ROW of the table
pub record Row : Type 0 where
  pub spread : ℕ
  pub separations : List ℕ
  pub positions : List ℕ

unfoldable pub row : (spread : ℕ) → (ts xs : List ℕ) → Row
row s ts xs = record { spread = s; separations = ts; positions = xs }

unfoldable pub total : Row → ℕ
total r = sum r.separations

-- nothing legal from a spread up to below another has a smaller total
unfoldable pub Stays : Stack → (from upto total : ℕ) → Type 0
Stays k a b v = (s : ℕ) (us ys : List ℕ) → a ≤ s → s < b → legal k s us ys ≡ true → v ≤ sum us

unfoldable pub StaysOn : Stack → (from total : ℕ) → Type 0
StaysOn k a v = (s : ℕ) (us ys : List ℕ) → a ≤ s → legal k s us ys ≡ true → v ≤ sum us

-- ROWS: the first spread and every greater one at which the least total falls
unfoldable pub RowsAfter : Stack → Row → List Row → Type 0
RowsAfter k r [] = StaysOn k r.spread (total r)
RowsAfter k r (q ∷ qs) =
    (r.spread < q.spread) × (total q < total r) × Stays k r.spread q.spread (total r)
    × Answer k q.spread q.separations q.positions × RowsAfter k q qs

unfoldable pub RowsAre : Stack → List Row → Type 0
RowsAre k [] = ⊥
RowsAre k (r ∷ rs) = (r.spread ≡ first_spread k.strips) × Answer k r.spread r.separations r.positions × RowsAfter k r rs
