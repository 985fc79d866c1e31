-- The refusals of a spread and of a channel in their order, and what may be asked where there is none. Assumes nothing.
use mathlib.Core.Path.{◌≡◌, refl}
use mathlib.Core.Bool.{Bool, true, false, ◌&&◌, cond}
use Prim.Native.Nat.{ℕ, ◌≤◌, ◌<◌}
use lib.Dec.{leb, ltb}
use lib.ListN.{length}
use borrow.Author.Tests.{le-leb, lt-leb, lt-ltb, le-ltb, leb-true, ltb-false}
use Rattle.numbers.proofs.Bools.{and_left, and_right}
use Rattle.stack.specs.Stack.{Stack, first_spread}
use Rattle.text.specs.Text.{Refusal, refusal, fine, or_else}
use Rattle.std.specs.Prelude.{Result, Ok, Err, ⊤}
use Rattle.std.specs.Result.{result_and}
use Rattle.text.specs.Outcome.{refusal_of}
use Rattle.text.specs.declared.Refused.{Refused}
use Rattle.text.proofs.Refusals.{or_else_fine, or_else_then, first_refused, when_fine, only_fine}
use Rattle.reply.specs.Refusals.{narrow_refusal, channel_refusal, broad_refusal, asked_refusal}

-- WHAT MAY BE ASKED: a channel from 1 to k, and a spread from the first one to 63
pub record Asked (k : Stack) (s n : ℕ) : Type 0 where
  pub some : 1 ≤ n
  pub within : n ≤ length k.channels
  pub wide : first_spread k.strips ≤ s
  pub shown : s ≤ 63

pub asked_fine : (k : Stack) (s n : ℕ) → (asked_refusal k s n).number ≡ 0 → Asked k s n
unfolding asked_refusal channel_refusal narrow_refusal broad_refusal
asked_fine k s n e =
    let a = or_else_fine (channel_refusal k n) (or_else (narrow_refusal k s) (broad_refusal s)) e in
    let b = or_else_fine (narrow_refusal k s) (broad_refusal s) a.1 in
    let c = only_fine (leb 1 n && leb n (length k.channels)) 2 0 0 a.0 in
    record {
      some = leb-true 1 n (and_left (leb 1 n) (leb n (length k.channels)) c);
      within = leb-true n (length k.channels) (and_right (leb 1 n) (leb n (length k.channels)) c);
      wide = ltb-false s (first_spread k.strips) (when_fine (ltb s (first_spread k.strips)) 6 0 0 fine b.0).0;
      shown = ltb-false 63 s (when_fine (ltb 63 s) 8 0 0 fine b.1).0;
    }

-- the refusals in their order
module _ (k : Stack) (s n : ℕ) where
  pub asked_none : n < 1 → refusal 3 0 0 ≡ asked_refusal k s n
  unfolding asked_refusal channel_refusal or_else refusal
  asked_none h = rw (lt-leb 1 n h)

  pub asked_past : length k.channels < n → refusal 3 0 0 ≡ asked_refusal k s n
  unfolding asked_refusal channel_refusal or_else refusal
  asked_past h = go (leb 1 n) refl
    where
      go : (v : Bool) → leb 1 n ≡ v → refusal 3 0 0 ≡ or_else (cond (v && leb n (length k.channels)) fine (refusal 3 0 0)) (or_else (narrow_refusal k s) (broad_refusal s))
      go true e = rw (lt-leb n (length k.channels) h)
      go false e = refl

  module _ (some : 1 ≤ n) (within : n ≤ length k.channels) where
    channel_there : fine ≡ channel_refusal k n
    unfolding channel_refusal
    channel_there = rw (le-leb 1 n some, le-leb n (length k.channels) within)

    pub asked_next : (f : Refusal) → f ≡ or_else (narrow_refusal k s) (broad_refusal s) → f ≡ asked_refusal k s n
    unfolding asked_refusal
    asked_next f e = or_else_then (channel_refusal k n) (or_else (narrow_refusal k s) (broad_refusal s)) f channel_there e

    module _ (wide : fine ≡ narrow_refusal k s) where
      pub asked_broad : 63 < s → refusal 9 0 0 ≡ asked_refusal k s n
      unfolding broad_refusal
      asked_broad l = asked_next _ (or_else_then (narrow_refusal k s) (broad_refusal s) _ wide (rw (lt-ltb 63 s l)))

      pub asked_all : s ≤ 63 → fine ≡ asked_refusal k s n
      unfolding broad_refusal
      asked_all l = asked_next _ (or_else_then (narrow_refusal k s) (broad_refusal s) _ wide (rw (le-ltb 63 s l)))

-- what two outcomes joined by `and` are refused for: the second counts where the first refuses nothing
pub and_refused : (a b : Result ⊤ Refused) (f g : Refusal) → refusal_of a ≡ f → (fine ≡ f → refusal_of b ≡ g) → refusal_of (result_and a b) ≡ or_else f g
and_refused (Ok x) b f g p q = or_else_then f g (refusal_of b) p (q p)
and_refused (Err e) b f g p q = first_refused e f g p
