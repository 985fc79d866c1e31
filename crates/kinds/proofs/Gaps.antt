-- GAP: what the reader answers is what document 02 says of the line, test by test. Assumes nothing.
use mathlib.Core.Path.{◌≡◌, refl, sym, ◌∙◌}
use mathlib.Core.List.{List, [], ◌∷◌}
use Prim.Native.Nat.{ℕ}
use native.Mathlib.Omega.{arith}
use lib.ListN.{get_or}
use Rattle.std.specs.Prelude.{Result, Ok, Err, IfOk}
use Rattle.lines.specs.Lines.{Line, numbers_of}
use Rattle.text.specs.Text.{gap_word, entry, first_of, second_of, fault_at, kind, exactly, gap_content, gap_kind}
use Rattle.text.specs.Outcome.{refusal_of}
use Rattle.text.specs.Kinds.{IsKindRead}
use Rattle.text.specs.declared.Refused.{Refused}
use Rattle.kinds.specs.Readers.{gap, IsGapRead}
use Rattle.kinds.specs.declared.Gap.{Gap}
use Rattle.text.proofs.Layouts.{layout_refused, layout_then, number_kept}

-- THE LINE
module _ (k b n : ℕ) (l : Line) (vs : List ℕ) where
  pub gap_ill : (x : Refused) → IsKindRead gap_word (λ n. exactly 2 n) n l (Err x) vs → IsGapRead k b n l (Err x)
  unfolding gap_kind kind
  gap_ill x m = record { outcome = layout_refused (gap_kind k b) n l vs x m; content = tt }

  -- the content of a line's numbers is that of the first two
  by_two : gap_content k b (entry n 0 (get_or (numbers_of l) 0 0 ∷ get_or (numbers_of l) 1 0 ∷ [])) ≡ gap_content k b (entry n 0 (numbers_of l))
  unfolding gap_content first_of second_of entry fault_at
  by_two = refl

  pub gap_there : (count : ℕ) → IsKindRead gap_word (λ n. exactly 2 n) n l (Ok count) vs → (q : Result Gap Refused) →
      refusal_of q ≡ gap_content k b (entry n 0 (get_or vs 0 0 ∷ get_or vs 1 0 ∷ [])) → IfOk q (λ g. g ≡ gap (get_or vs 0 0) (get_or vs 1 0)) → IsGapRead k b n l q
  unfolding gap_kind kind
  gap_there count m q h g =
      let first : get_or vs 0 0 ≡ get_or (numbers_of l) 0 0 = number_kept (gap_kind k b) n l vs count m 0 (omega arith) in
      let second : get_or vs 1 0 ≡ get_or (numbers_of l) 1 0 = number_kept (gap_kind k b) n l vs count m 1 (omega arith) in
      record {
        outcome = h ∙ (rw (first, second) by_two ∙ sym (layout_then (gap_kind k b) n l vs count m));
        content = rw (first, second) at g;
      }
