-- What is read past the last pair of a list.
use Rattle.floats.specs.Arithmetic.{bits}
use Rattle.walk.specs.declared.clip.Pair.{Pair}

abbrev pub origin : Pair
origin = record { x = bits 0; y = bits 0 }
