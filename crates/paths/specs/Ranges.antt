-- The ranges of the numbers that panels, times and knobs are made of.
use Rattle.std.specs.Prelude.{ℕ, Bool, ◌&&◌, ℤ, pos, negsuc, int_le, nat_le}

abbrev pub is_panel : ℕ → Bool
is_panel k = nat_le 1 k && nat_le k 8

abbrev pub is_time : ℕ → Bool
is_time t = nat_le 1 t && nat_le t 1000000

abbrev pub is_knob : ℤ → Bool
is_knob x = int_le (negsuc 999) x && int_le x (pos 1000)
