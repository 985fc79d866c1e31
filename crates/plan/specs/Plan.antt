-- What the plan of a stack is made from. Assumes nothing: these are definitions.
use Rattle.std.specs.Prelude.{◌≡◌, List, ℕ, ◌≤◌, ◌<◌}
use Rattle.stack.specs.Sizes.{channels_held, separations_held}
use Rattle.arrays.specs.Arrays.{entry, PlanIs}
use Rattle.arrays.specs.declared.ChannelLimits.{ChannelLimits}
use Rattle.arrays.specs.declared.Plan.{Plan}

-- k channels whose last separations are within the arrays
pub record LastsAsk (lasts : List ℕ) (k : ℕ) : Type 0 where
  pub channels : k ≤ channels_held
  pub listed : (i : ℕ) → i < k → entry lasts i < separations_held

-- the plan of k channels with these limits and last separations
pub record Planned (limits : List ChannelLimits) (lasts : List ℕ) (k : ℕ) (plan : Plan) : Type 0 where
  pub kept : plan.lasts ≡ lasts
  pub plan_is : PlanIs limits k plan
