-- Results of the polyfills with the bits that the Rust gives, as one statement over a list.
use Rattle.std.specs.Prelude.{◌≡◌, ℕ, List, [], ◌∷◌, pos, to_bits, Float}
use Rattle.std.specs.Float.{binary64}
use Rattle.std.specs.Float.Ieee.{of_int}
use Rattle.floats.specs.Arithmetic.{bits}
use Rattle.floats.specs.Methods.{PI, to_radians_of}
use Rattle.floats.specs.Polyfills.{FRAC-1-PI, round_of, sin_of, cos_of}

-- a result, and its bits
pub record Sample : Type 0 where
  pub result : Float
  pub has : ℕ

abbrev pub radians : ℕ → Float
radians degrees = to_radians_of (of_int binary64 (pos degrees))

abbrev pub samples : List Sample
samples =
    -- Document 01: 'PI has bits 400921FB54442D18, FRAC_1_PI 3FD45F306DC9C883'
    record { result = PI; has = 0x4009_21FB_5444_2D18 }
    ∷ record { result = FRAC-1-PI; has = 0x3FD4_5F30_6DC9_C883 }
    -- Document 01: '0.49999999999999994 gives 1'
    ∷ record { result = round_of (bits 0x3FDF_FFFF_FFFF_FFFF); has = 0x3FF0_0000_0000_0000 }
    -- the circle's angles of 0, 30, 90, 180 and 359 degrees, computed with the Rust
    ∷ record { result = cos_of (radians 0); has = 0x3FF0_0000_0000_0000 }
    ∷ record { result = sin_of (radians 0); has = 0 }
    ∷ record { result = cos_of (radians 30); has = 0x3FEB_BBBB_BBBB_BBBC }
    ∷ record { result = sin_of (radians 30); has = 0x3FDF_FFFF_FFFF_FFFE }
    ∷ record { result = cos_of (radians 90); has = 0 }
    ∷ record { result = sin_of (radians 90); has = 0x3FF0_0000_0000_0000 }
    ∷ record { result = cos_of (radians 180); has = 0xBFF0_0000_0000_0000 }
    ∷ record { result = sin_of (radians 180); has = 0 }
    ∷ record { result = cos_of (radians 359); has = 0x3FEF_FEC2_D866_95FB }
    ∷ record { result = sin_of (radians 359); has = 0xBF91_A66C_C779_7316 }
    ∷ []

abbrev pub Hold : List Sample → Type 0
Hold [] = Unit
Hold (s ∷ rest) = (to_bits binary64 s.result ≡ s.has) × Hold rest
