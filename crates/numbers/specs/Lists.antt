-- TRUSTED. A list by its elements' rule, and a list with zeros in unused places. Assumes nothing: these are definitions.
use Rattle.std.specs.Prelude.{List, [], ◌∷◌, ◌++◌, ℕ, zero, suc, ◌-◌, length, replicate}

-- f i, f (i + 1), .., as many as are left
unfoldable pub tabulate {ℓ} : {A : Type ℓ} → (left i : ℕ) → (ℕ → A) → List A
tabulate zero i f = []
tabulate (suc n) i f = f i ∷ tabulate n (suc i) f

-- n elements, the first t by a rule and the rest d
unfoldable pub filled {ℓ} : {A : Type ℓ} → (n t : ℕ) → (ℕ → A) → (d : A) → List A
filled n t f d = tabulate t 0 f ++ replicate (n - t) d

-- n places, zeros in those that the list leaves unused
unfoldable pub padded : (n : ℕ) → List ℕ → List ℕ
padded n xs = xs ++ replicate (n - length xs) 0
