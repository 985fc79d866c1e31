-- What a page shows: its byte for a track and a column is the point's character, and that is a dot exactly if no path is there. Assumes nothing.
use mathlib.Core.Path.{◌≡◌, refl, ◌∙◌}
use mathlib.Core.Bool.{Bool, true, false, ◌&&◌, not, cond}
use mathlib.Core.List.{List, [], ◌∷◌, ◌++◌}
use mathlib.Core.Logic.{◌⊎◌, inl, inr}
use Prim.Native.Nat.{ℕ, zero, suc, ◌+◌, ◌*◌, ◌-◌, ◌≤◌, ◌<◌}
use native.Mathlib.Omega.{arith}
use lib.Dec.{ltb, eqb}
use lib.IntN.{pos}
use lib.ListN.{length, get_or, get_or-append}
use lib.Seq.{get_or-append-add}
use Rattle.numbers.specs.Lists.{tabulate}
use Rattle.numbers.proofs.Lists.{length_tabulate, get_or_tabulate}
use Rattle.numbers.proofs.Orders.{lt_or_eq}
use Rattle.stack.specs.Stack.{Pair}
use Rattle.routing.specs.Paths.{Point, point}
use Rattle.routing.specs.Wiring.{wiring}
use Rattle.routing.proofs.Points.{path_at}
use Rattle.routing.proofs.Runs.{wiring_at}
use Rattle.page.specs.Page.{on_some, arm_left, arm_right, arm_up, arm_down, how_many, arms_character, character, line_of, track_line, page_text}
use Rattle.page.specs.Promise.{PathTold, PathsShown, Told}
use Rattle.page.specs.Arrivals.{ChannelPlaced}
use Rattle.page.proofs.Told.{told}
use Rattle.page.proofs.Inside.{placed_led}
use Rattle.plot.proofs.Lines.{line_bytes, line_long}

-- A POINT'S CHARACTER
never_dot : (a b c d : Bool) → eqb (cond a 35 (cond b 111 (cond c 45 (cond d 124 43)))) 46 ≡ false
never_dot true b c d = refl
never_dot false true c d = refl
never_dot false false true d = refl
never_dot false false false true = refl
never_dot false false false false = refl

arms_never_dot : (l r u d : Bool) → eqb (arms_character l r u d) 46 ≡ false
unfolding arms_character
arms_never_dot l r u d = never_dot (ltb 2 (how_many l r u d)) (ltb (how_many l r u d) 2) (l && r) (u && d)

character_dot : (x y : ℕ) (ws : List (List Point)) → eqb (character x y ws) 46 ≡ not (on_some (point (pos x) y) ws)
unfolding character
character_dot x y ws = go (on_some (point (pos x) y) ws) (arms_never_dot (arm_left x y ws) (arm_right x y ws) (arm_up x y ws) (arm_down x y ws))
  where
    shown : ℕ
    shown = arms_character (arm_left x y ws) (arm_right x y ws) (arm_up x y ws) (arm_down x y ws)

    go : (v : Bool) → eqb shown 46 ≡ false → eqb (cond v shown 46) 46 ≡ not v
    go true e = e
    go false e = refl

-- ITS PLACE on the page
line_at : (y x : ℕ) (f : ℕ → ℕ) → y < 1000 → x < 64 → get_or (line_of y f) (4 + x) 0 ≡ f x
line_at y x f l m =
    let e : 4 + x ≡ suc (suc (suc (suc x))) = omega arith in
    rw (line_bytes y f l, e) (get_or-append (tabulate 64 0 f) (10 ∷ []) 0 x (rw length_tabulate m) ∙ get_or_tabulate 64 x f 0 m)

page_at : (ws : List (List Point)) (t y x : ℕ) → t < 1000 → y ≤ t → x < 64 → get_or (page_text t ws) (69 * (t - y) + (4 + x)) 0 ≡ character x y ws
unfolding page_text track_line
page_at ws zero y x l m n =
    let none : y ≡ 0 = omega arith in
    let e : 69 * (0 - y) + (4 + x) ≡ 4 + x = omega arith in
    rw (e, none) (line_at 0 x (λ c. character c 0 ws) l n)
page_at ws (suc t) y x l m n = go (lt_or_eq y (suc t) m) (λ h. page_at ws t y x (omega arith) h n)
  where
    line : List ℕ
    line = line_of (suc t) (λ c. character c (suc t) ws)

    long : length line ≡ 69
    long = line_long (suc t) (λ c. character c (suc t) ws) l

    go : (y < suc t) ⊎ (y ≡ suc t) → (y ≤ t → get_or (page_text t ws) (69 * (t - y) + (4 + x)) 0 ≡ character x y ws) → get_or (line ++ page_text t ws) (69 * (suc t - y) + (4 + x)) 0 ≡ character x y ws
    go (inl h) below =
        let e : 69 * (suc t - y) + (4 + x) ≡ length line + (69 * (t - y) + (4 + x)) = omega (arith, long) in
        rw e (get_or-append-add line (page_text t ws) (69 * (t - y) + (4 + x)) 0 ∙ below (omega arith))
    go (inr h) below =
        let e : 69 * (suc t - y) + (4 + x) ≡ 4 + x = omega arith in
        rw (e, h) (get_or-append line (page_text t ws) 0 (4 + x) (omega (arith, long)) ∙ line_at (suc t) x (λ c. character c (suc t) ws) l n)

-- WHAT THE PAGE OF A CHANNEL SHOWS
module _ (s : ℕ) (c : List Pair) (t a b : ℕ) (small : t < 1000) (p : ChannelPlaced s c t a b) where
  each_told : (j : ℕ) → j < length c → PathTold c t a b j (get_or (wiring c t a b) j [])
  unfolding Told path_at
  each_told j l = rw (wiring_at c t a b j l) (told c t a b j p.rises p.good l).0

  pub placed_shown : PathsShown s c t a b (wiring c t a b) (page_text t (wiring c t a b))
  placed_shown = record {
    led = placed_led s c t a b p;
    told = each_told;
    dots = λ y x m n. rw (page_at (wiring c t a b) t y x small m n) (character_dot x y (wiring c t a b));
  }
