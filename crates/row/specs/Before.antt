-- The carry: "each channel's CRC register after a row's active words", or none.
use Rattle.std.specs.Prelude.{Bool, true, false, ◌&&◌, ℕ, Option, None, Some}
use Rattle.crc.specs.Crc.{register_ok}
use Rattle.folding.specs.declared.Registers.{Registers}
use Rattle.row.specs.declared.ByChannel.{ByChannel}

abbrev pub Carry : Type 0
Carry = Option Registers

-- what each case says: whether there was a row before, and the registers after it; zeros with no row before
pub record Before : Type 0 where
  pub known : Bool
  pub y : ℕ
  pub c : ℕ

abbrev pub carried : Carry → Before
carried None = record { known = false; y = 0; c = 0 }
carried (Some r) = record { known = true; y = r.y; c = r.c }

-- the same, channel by channel
abbrev pub by_channel : Carry → ByChannel
by_channel None = record { y = None; c = None }
by_channel (Some r) = record { y = Some r.y; c = Some r.c }

-- "3: .. a carry above 3FFFF"
abbrev pub carry_ok : Carry → Bool
carry_ok None = true
carry_ok (Some r) = register_ok r.y && register_ok r.c
