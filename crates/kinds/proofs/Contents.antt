-- Numbers that are not refused keep the limits: each test that refuses is a limit. By induction on the terminals of a line. Assumes nothing.
use mathlib.Core.Path.{◌≡◌, refl}
use mathlib.Core.Bool.{Bool, true, false, ◌&&◌, not}
use mathlib.Core.List.{List, [], ◌∷◌}
use Prim.Native.Nat.{ℕ, suc, ◌+◌, ◌≤◌, ◌<◌}
use native.Mathlib.Omega.{arith}
use lib.Dec.{ltb, leb}
use lib.ListN.{length, get_or}
use borrow.Author.Tests.{leb-false, ltb-false, le-leb, lt-ltb}
use Rattle.stack.specs.Stack.{pair}
use Rattle.stack.specs.Limits.{rises_above, rising, on_strips, pairs_within, window_within, strip_within}
use Rattle.text.specs.Text.{fine, Entry, first_of, second_of, third_of, fault_at, part_content, terminals_refusal, nets_content, pairs_of, window_in, strip_in}
use Rattle.text.proofs.Refusals.{when_fine, unless_fine}
use Rattle.kinds.proofs.Nets.{pairs_length}

-- a window whose least position is not above the greatest, which has at most four digits
window_fine : (ns : List ℕ) → ltb (get_or ns 2 0) (get_or ns 1 0) ≡ false → get_or ns 2 0 < 10000 → window_within (window_in ns) ≡ true
unfolding window_in window_within
window_fine [] h few = refl
window_fine (l ∷ []) h few = refl
window_fine (l ∷ a ∷ []) h few = refl
window_fine (l ∷ a ∷ e ∷ ns) h few = rw (le-leb a e (ltb-false e a h), le-leb e 9999 (omega arith))

pub strip_fine : (e : Entry) → (part_content e).number ≡ 0 → get_or e.numbers 2 0 < 10000 → strip_within (strip_in e.numbers) ≡ true
unfolding part_content fault_at strip_within strip_in first_of second_of third_of
strip_fine e h few =
    let ns = e.numbers in
    let u = unless_fine (leb 1 (get_or ns 0 0) && leb (get_or ns 0 0) 1000) 3 e.origin (e.shift + 2) _ h in
    let w = when_fine (ltb (get_or ns 2 0) (get_or ns 1 0)) 13 e.origin (e.shift + 4) fine u.1 in
    rw u.0 (window_fine ns w.0 few)

module _ (lo hi n : ℕ) where
  -- the tests of one pair, and the pairs behind it
  record PairSays (f : ℕ) (b : Bool) (u v x y : ℕ) (vs : List ℕ) : Type 0 where
    pub p_on : x ≤ lo
    pub p_above : (not b && leb x u) ≡ false
    pub q_on : y ≤ hi
    pub q_above : (not b && leb y v) ≡ false
    pub rest : (terminals_refusal (f + 2) false x y lo hi n vs).number ≡ 0

  pair_says : (f : ℕ) (b : Bool) (u v x y : ℕ) (vs : List ℕ) → (terminals_refusal f b u v lo hi n (x ∷ y ∷ vs)).number ≡ 0 → PairSays f b u v x y vs
  unfolding terminals_refusal
  pair_says f b u v x y vs h =
      let rest = terminals_refusal (f + 2) false x y lo hi n vs in
      let a = when_fine (ltb lo x) 4 n f _ h in
      let c = when_fine (not b && leb x u) 5 n f _ a.1 in
      let d = when_fine (ltb hi y) 4 n (suc f) _ c.1 in
      let e = when_fine (not b && leb y v) 5 n (suc f) rest d.1 in
      record { p_on = ltb-false lo x a.0; p_above = c.0; q_on = ltb-false hi y d.0; q_above = e.0; rest = e.1 }

  rises_fine : (f u v : ℕ) (vs : List ℕ) → (terminals_refusal f false u v lo hi n vs).number ≡ 0 →
      (on_strips lo hi (pairs_of vs) ≡ true) × (rises_above u v (pairs_of vs) ≡ true)
  unfolding on_strips rises_above pairs_of pair
  rises_fine f u v [] h = (refl, refl)
  rises_fine f u v (x ∷ []) h = (refl, refl)
  rises_fine f u v (x ∷ y ∷ vs) h =
      let s = pair_says f false u v x y vs h in
      let r = rises_fine (f + 2) x y vs s.rest in (
        rw (le-leb x lo s.p_on, le-leb y hi s.q_on) r.0,
        rw (lt-ltb u x (leb-false x u s.p_above), lt-ltb v y (leb-false y v s.q_above)) r.1,
      )

  terminals_fine : (f u v : ℕ) (vs : List ℕ) → (terminals_refusal f true u v lo hi n vs).number ≡ 0 →
      (on_strips lo hi (pairs_of vs) ≡ true) × (rising (pairs_of vs) ≡ true)
  unfolding on_strips rising pairs_of pair
  terminals_fine f u v [] h = (refl, refl)
  terminals_fine f u v (x ∷ []) h = (refl, refl)
  terminals_fine f u v (x ∷ y ∷ vs) h =
      let s = pair_says f true u v x y vs h in
      let r = rises_fine (f + 2) x y vs s.rest in
      (rw (le-leb x lo s.p_on, le-leb y hi s.q_on) r.0, r.1)

pub pairs_fine : (lo hi : ℕ) (e : Entry) → (nets_content lo hi e).number ≡ 0 → pairs_within lo hi (pairs_of e.numbers) ≡ true
unfolding nets_content fault_at pairs_within
pairs_fine lo hi e h =
    let vs = e.numbers in
    let u = when_fine (ltb 64 (length vs)) 2 e.origin (e.shift + 66) _ h in
    let few : length (pairs_of vs) ≤ 32 = omega (arith, pairs_length vs, ltb-false 64 (length vs) u.0) in
    let t = terminals_fine lo hi e.origin (e.shift + 2) 0 0 vs u.1 in
    rw (le-leb (length (pairs_of vs)) 32 few, t.1) t.0
