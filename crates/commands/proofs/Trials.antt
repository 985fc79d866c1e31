-- A trial's numbers in arrays, with zeros in unused places. Assumes nothing.
use mathlib.Core.Path.{◌≡◌, ap, sym, ◌∙◌}
use mathlib.Core.List.{List}
use Prim.Native.Nat.{ℕ, ◌+◌, ◌*◌, ◌-◌, ◌≤◌, ◌<◌}
use native.Mathlib.Omega.{arith}
use lib.ListN.{length, get_or, take, drop, length-take, length-drop}
use lib.Seq.{get_or-take, get_or-drop}
use Rattle.std.proofs.lemmas.List.{ext_get_or, take_all}
use Rattle.numbers.specs.Lists.{tabulate, filled, padded}
use Rattle.numbers.proofs.Lists.{length_tabulate, get_or_tabulate}
use Rattle.commands.specs.Output.{separations_in, positions_in}

padded_filled : (n t : ℕ) (us : List ℕ) (rule : ℕ → ℕ) → length us ≡ t → ((j : ℕ) → j < t → get_or us j 0 ≡ rule j) → padded n us ≡ filled n t rule 0
unfolding padded filled
padded_filled n t us rule l at =
    let e : us ≡ tabulate t 0 rule = ext_get_or 0 us (tabulate t 0 rule) (l ∙ sym (length_tabulate t 0 rule)) (λ j h. let m : j < t = omega (arith, l) in at j m ∙ sym (get_or_tabulate t j rule 0 m)) in
    rw (e, length_tabulate t 0 rule)

-- behind the spread
module _ (k : ℕ) (vs : List ℕ) (fits : length vs ≡ 2 * k + 2) (few : k ≤ 8) (rest : List ℕ) (r : rest ≡ take (length vs - 1) (drop 1 vs)) where
  rest_is : rest ≡ drop 1 vs
  rest_is = r ∙ take_all (length vs - 1) (drop 1 vs) (omega (arith, length-drop 1 vs))

  pub separations_put : (ts us : List ℕ) → us ≡ take k rest → ts ≡ padded 8 (take 8 us) → ts ≡ separations_in k vs
  unfolding separations_in
  separations_put ts us e p =
      let f : us ≡ take k (drop 1 vs) = e ∙ ap (take k) rest_is in
      let l : length us ≡ k = rw f (omega (arith, length-take k (drop 1 vs), length-drop 1 vs)) in
      p ∙ ap (padded 8) (take_all 8 us (omega arith)) ∙ padded_filled 8 k us (λ i. get_or vs (1 + i) 0) l (λ j h. rw f (get_or-take k (drop 1 vs) j 0 h ∙ get_or-drop 1 vs j 0))

  pub positions_put : (xs ys : List ℕ) → ys ≡ drop k rest → xs ≡ padded 9 (take 9 ys) → xs ≡ positions_in k vs
  unfolding positions_in
  positions_put xs ys e p =
      let f : ys ≡ drop k (drop 1 vs) = e ∙ ap (drop k) rest_is in
      let l : length ys ≡ k + 1 = rw f (omega (arith, length-drop k (drop 1 vs), length-drop 1 vs)) in
      p ∙ ap (padded 9) (take_all 9 ys (omega arith)) ∙ padded_filled 9 (k + 1) ys (λ i. get_or vs (1 + k + i) 0) l
      (λ j h. let i : 1 + k + j ≡ 1 + (k + j) = omega arith in
      rw (f, i) (get_or-drop k (drop 1 vs) j 0 ∙ get_or-drop 1 vs (k + j) 0))
