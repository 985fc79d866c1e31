-- The sizes of the code's arrays: channels, strips, separations from 0, totals from 0. Assumes nothing: these are definitions.
use Rattle.std.specs.Prelude.{ℕ, suc, ◌*◌}

abbrev pub channels_held : ℕ
channels_held = 8

abbrev pub strips_held : ℕ
strips_held = suc channels_held

-- the last separation that is held: no less than the most pairs and the greatest floor
abbrev pub last_held : ℕ
last_held = 64

abbrev pub separations_held : ℕ
separations_held = suc last_held

abbrev pub totals_held : ℕ
totals_held = suc (channels_held * last_held)
