-- Steps of a path: both ends are on it, and a path that is nowhere twice has no step back to where it was. Assumes nothing.
use mathlib.Core.Path.{◌≡◌, refl}
use mathlib.Core.Bool.{Bool, true, false, ◌&&◌, not}
use mathlib.Core.List.{List, [], ◌∷◌}
use mathlib.Core.Logic.{◌⊎◌, inl, inr, ⊎_elim}
use Prim.Native.Nat.{ℕ}
use lib.IntN.{ℤ}
use Rattle.numbers.proofs.Bools.{and_left, and_right, and_both, or_either, or_left, or_right, impossible}
use Rattle.routing.specs.Paths.{Point, point, same_point, on_path}
use Rattle.routing.specs.Wiring.{leads, begins}
use Rattle.routing.proofs.Points.{same_point_equal, same_point_self}
use Rattle.routing.proofs.Runs.{begins_on}
use Rattle.page.specs.Promise.{once}

pub column_is : (x : ℤ) (y : ℕ) → (point x y).column ≡ x
unfolding point
column_is x y = refl

pub track_is : (x : ℤ) (y : ℕ) → (point x y).track ≡ y
unfolding point
track_is x y = refl

pub not_on : (a : Point) (ws : List Point) → once (a ∷ ws) ≡ true → on_path a ws ≡ true → ⊥
unfolding once
not_on a ws e o = go (on_path a ws) o (and_left (not (on_path a ws)) (once ws) e)
  where
    go : (v : Bool) → v ≡ true → not v ≡ true → ⊥
    go true k h = impossible h
    go false k h = impossible k

pub once_rest : (a : Point) (ws : List Point) → once (a ∷ ws) ≡ true → once ws ≡ true
unfolding once
once_rest a ws e = and_right (not (on_path a ws)) (once ws) e

pub on_here : (z a : Point) (ws : List Point) → z ≡ a → on_path z (a ∷ ws) ≡ true
unfolding on_path
on_here z a ws e = or_left (same_point z a) (on_path z ws) (rw e (same_point_self a))

pub on_later : (z a : Point) (ws : List Point) → on_path z ws ≡ true → on_path z (a ∷ ws) ≡ true
unfolding on_path
on_later z a ws o = or_right (same_point z a) (on_path z ws) o

pub leads_first : (a b : Point) (bs : List Point) → leads a b (a ∷ b ∷ bs) ≡ true
unfolding leads begins
leads_first a b bs = or_left (same_point a a && same_point b b) _ (and_both (same_point a a) (same_point b b) (same_point_self a) (same_point_self b))

pub leads_later : (u v a : Point) (ws : List Point) → leads u v ws ≡ true → leads u v (a ∷ ws) ≡ true
unfolding leads
leads_later u v a ws e = or_right (same_point u a && begins v ws) (leads u v ws) e

pub here_or_later : (u v a : Point) (ws : List Point) → leads u v (a ∷ ws) ≡ true → ((u ≡ a) × (begins v ws ≡ true)) ⊎ (leads u v ws ≡ true)
unfolding leads
here_or_later u v a ws e =
    ⊎_elim (λ h. inl (same_point_equal u a (and_left (same_point u a) (begins v ws) h), and_right (same_point u a) (begins v ws) h)) (λ h. inr h)
    (or_either (same_point u a && begins v ws) (leads u v ws) e)

pub begins_is : (v b : Point) (bs : List Point) → begins v (b ∷ bs) ≡ true → v ≡ b
unfolding begins
begins_is v b bs e = same_point_equal v b e

pub no_lead : (u v a : Point) → leads u v (a ∷ []) ≡ true → ⊥
unfolding leads begins
no_lead u v a e = ⊎_elim (λ h. impossible (and_right (same_point u a) false h)) (λ h. impossible h) (or_either (same_point u a && false) false e)

-- the point led to is behind the first
pub leads_behind : (u v a : Point) (ws : List Point) → leads u v (a ∷ ws) ≡ true → on_path v ws ≡ true
leads_behind u v a [] e = absurd (no_lead u v a e)
leads_behind u v a (b ∷ bs) e =
    ⊎_elim (λ h. begins_on v (b ∷ bs) h.1) (λ h. on_later v b bs (leads_behind u v b bs h)) (here_or_later u v a (b ∷ bs) e)
