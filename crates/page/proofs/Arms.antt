-- At most two arms: on a path that is nowhere twice a point has one point before it and one behind it, and it is on one path only. Assumes nothing.
use mathlib.Core.Path.{◌≡◌, sym, ◌∙◌}
use mathlib.Core.Bool.{true}
use mathlib.Core.List.{List, [], ◌∷◌}
use mathlib.Core.Logic.{◌⊎◌, inl, inr, ⊎_elim}
use Prim.Native.Nat.{ℕ, suc, ◌<◌}
use native.Mathlib.Omega.{arith}
use native.Mathlib.Decide.{dec_lt}
use Rattle.numbers.proofs.Bools.{or_either, impossible}
use Rattle.routing.specs.Paths.{Point, on_path, none_meet}
use Rattle.routing.specs.Wiring.{leads, begins}
use Rattle.routing.proofs.Points.{same_point_equal, path_at, none_meet_elim}
use Rattle.routing.proofs.Runs.{leads_on}
use Rattle.page.specs.Page.{steps_between, joined}
use Rattle.page.specs.Promise.{once}
use Rattle.page.proofs.Leads.{not_on, once_rest, here_or_later, begins_is, leads_behind}

-- NEIGHBOURS on a path
begins_same : (u v : Point) (ws : List Point) → begins u ws ≡ true → begins v ws ≡ true → u ≡ v
unfolding begins
begins_same u v [] e f = impossible e
begins_same u v (b ∷ bs) e f = same_point_equal u b e ∙ sym (same_point_equal v b f)

next_alone : (z u v : Point) (w : List Point) → once w ≡ true → leads z u w ≡ true → leads z v w ≡ true → u ≡ v
unfolding leads
next_alone z u v [] o e f = impossible e
next_alone z u v (a ∷ ws) o e f = go (here_or_later z u a ws e) (here_or_later z v a ws f) (λ x y. next_alone z u v ws (once_rest a ws o) x y)
  where
    twice : (s : Point) → z ≡ a → leads z s ws ≡ true → ⊥
    twice s q k = not_on a ws o (rw q at (leads_on z s ws k).0)

    go : ((z ≡ a) × (begins u ws ≡ true)) ⊎ (leads z u ws ≡ true) → ((z ≡ a) × (begins v ws ≡ true)) ⊎ (leads z v ws ≡ true)
        → (leads z u ws ≡ true → leads z v ws ≡ true → u ≡ v) → u ≡ v
    go (inl (q, b)) (inl (r, c)) ih = begins_same u v ws b c
    go (inl (q, b)) (inr k) ih = absurd (twice v q k)
    go (inr k) (inl (q, b)) ih = absurd (twice u q k)
    go (inr k) (inr l) ih = ih k l

before_alone : (z u v : Point) (w : List Point) → once w ≡ true → leads u z w ≡ true → leads v z w ≡ true → u ≡ v
unfolding leads begins
before_alone z u v [] o e f = impossible e
before_alone z u v (a ∷ ws) o e f = go (here_or_later u z a ws e) (here_or_later v z a ws f) (λ x y. before_alone z u v ws (once_rest a ws o) x y)
  where
    twice : (s : Point) (ws : List Point) → once ws ≡ true → begins z ws ≡ true → leads s z ws ≡ true → ⊥
    twice s [] o b k = impossible b
    twice s (c ∷ cs) o b k = not_on c cs o (rw (begins_is z c cs b) at (leads_behind s z c cs k))

    go : ((u ≡ a) × (begins z ws ≡ true)) ⊎ (leads u z ws ≡ true) → ((v ≡ a) × (begins z ws ≡ true)) ⊎ (leads v z ws ≡ true)
        → (leads u z ws ≡ true → leads v z ws ≡ true → u ≡ v) → u ≡ v
    go (inl (q, b)) (inl (r, c)) ih = q ∙ sym r
    go (inl (q, b)) (inr k) ih = absurd (twice v ws (once_rest a ws o) b k)
    go (inr k) (inl (q, b)) ih = absurd (twice u ws (once_rest a ws o) b k)
    go (inr k) (inr l) ih = ih k l

-- AN ARM of a point: on one of the paths
pub record Arm (z u : Point) (ws : List (List Point)) : Type 0 where
  pub at : ℕ
  pub step : (leads z u (path_at ws at) ≡ true) ⊎ (leads u z (path_at ws at) ≡ true)

pub joined_arm : (z u : Point) (ws : List (List Point)) → joined z u ws ≡ true → Arm z u ws
unfolding joined steps_between path_at
joined_arm z u [] e = impossible e
joined_arm z u (w ∷ ws) e =
    ⊎_elim (λ h. record { at = 0; step = or_either (leads z u w) (leads u z w) h })
    (λ h. let m = joined_arm z u ws h in record { at = suc m.at; step = m.step })
    (or_either (steps_between z u w) (joined z u ws) e)

pub arm_on : (z u : Point) (ws : List (List Point)) (m : Arm z u ws) → on_path z (path_at ws m.at) ≡ true
arm_on z u ws m = ⊎_elim (λ h. (leads_on z u (path_at ws m.at) h).0) (λ h. (leads_on u z (path_at ws m.at) h).1) m.step

pub same_path : (z : Point) (ws : List (List Point)) → none_meet ws ≡ true → (i j : ℕ) → on_path z (path_at ws i) ≡ true → on_path z (path_at ws j) ≡ true → i ≡ j
same_path z ws n i j o k = go (dec_lt i j) (dec_lt j i)
  where
    go : Dec (i < j) → Dec (j < i) → i ≡ j
    go (yes l) d = absurd (none_meet_elim z ws n i j l o k)
    go (no m) (yes l) = absurd (none_meet_elim z ws n j i l k o)
    go (no m) (no l) = omega arith

-- of three arms two lead to one point
pub two_arms : (z u v s : Point) (ws : List (List Point)) → none_meet ws ≡ true → ((i : ℕ) → once (path_at ws i) ≡ true)
    → joined z u ws ≡ true → joined z v ws ≡ true → joined z s ws ≡ true → (u ≡ v) ⊎ ((u ≡ s) ⊎ (v ≡ s))
two_arms z u v s ws n o e f g =
    let a = joined_arm z u ws e in
    let b = joined_arm z v ws f in
    let c = joined_arm z s ws g in
    let p : b.at ≡ a.at = same_path z ws n b.at a.at (arm_on z v ws b) (arm_on z u ws a) in
    let q : c.at ≡ a.at = same_path z ws n c.at a.at (arm_on z s ws c) (arm_on z u ws a) in
    go (path_at ws a.at) (o a.at) a.step (rw p at b.step) (rw q at c.step)
  where
    go : (w : List Point) → once w ≡ true → (leads z u w ≡ true) ⊎ (leads u z w ≡ true) → (leads z v w ≡ true) ⊎ (leads v z w ≡ true)
        → (leads z s w ≡ true) ⊎ (leads s z w ≡ true) → (u ≡ v) ⊎ ((u ≡ s) ⊎ (v ≡ s))
    go w o (inl a) (inl b) c = inl (next_alone z u v w o a b)
    go w o (inr a) (inr b) c = inl (before_alone z u v w o a b)
    go w o (inl a) (inr b) (inl c) = inr (inl (next_alone z u s w o a c))
    go w o (inl a) (inr b) (inr c) = inr (inr (before_alone z v s w o b c))
    go w o (inr a) (inl b) (inl c) = inr (inr (next_alone z v s w o b c))
    go w o (inr a) (inl b) (inr c) = inr (inl (before_alone z u s w o a c))
