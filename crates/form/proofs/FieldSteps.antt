-- Fields read one after the other: where the reader stands after each, and what it read.
use Rattle.std.proofs.Common.{◌≡◌, ℕ, ◌+◌, ◌*◌, ◌%◌, ◌^◌, ◌<◌, ◌≤◌, Bool, true, false, cond, List, Float, Bor, Option, Some, None, arith}
use Rattle.form.specs.declared.fields.Fields.{Fields}
use Rattle.form.specs.Fields.{stands, number_at, width_in, number_in, float_in}

-- the reader at a place, before the field of a weight; no place is near 2^64
pub record Stand (f : Fields) (part : Bor (List ℕ)) (map at weight : ℕ) : Type 0 where
  pub is : f ≡ record { part = part; map = map; at = at; weight = weight }
  pub low : at ≤ 2097152 + 128 * weight
  pub some : 1 ≤ weight

pub begun : {f : Fields} {part : Bor (List ℕ)} {map : ℕ} → f ≡ record { part = part; map = map; at = 0; weight = 1 } → Stand f part map 0 1
begun e = record { is = e; low = omega arith; some = omega arith }

width-le : (map weight width : ℕ) → width_in map weight width ≤ width
width-le map weight width = go (stands map weight)
  where
    go : (b : Bool) → cond b width 0 ≤ width
    go true = omega arith
    go false = omega arith

-- past a field of so many bytes
moved : {old new : Fields} {part : Bor (List ℕ)} {map at weight : ℕ} (width : ℕ) → Stand old part map at weight
    → (1 ≤ old.weight → old.at + width < 2 ^ 64 → new ≡ record { part = old.part; map = old.map; at = old.at + width_in old.map old.weight width; weight = old.weight * 2 % 256 })
    → width + weight < 128 → Stand new part map (at + width_in map weight width) (weight * 2 % 256)
moved {map = map} {weight = weight} width s h few =
    let l = s.low in
    let w = s.some in
    let e = rw s.is at h in
    record { is = e w (omega arith); low = omega (arith, width-le map weight width); some = omega arith }

-- what was read there, and where the reader stands then: a number, a float, a number that may be absent
pub number-step : {old new : Fields} {part : Bor (List ℕ)} {map at weight value : ℕ} (width absent : ℕ) → Stand old part map at weight
    → (1 ≤ old.weight → value ≡ cond (stands old.map old.weight) (number_at old.part.now old.at width) absent)
    → (1 ≤ old.weight → old.at + width < 2 ^ 64 → new ≡ record { part = old.part; map = old.map; at = old.at + width_in old.map old.weight width; weight = old.weight * 2 % 256 })
    → width + weight < 128 → (value ≡ number_in part.now at map weight width absent) × Stand new part map (at + width_in map weight width) (weight * 2 % 256)
number-step width absent s v h few = let e = rw s.is at v in (e s.some, moved width s h few)

pub real-step : {old new : Fields} {part : Bor (List ℕ)} {map at weight : ℕ} {value : Float} → Stand old part map at weight
    → (1 ≤ old.weight → value ≡ float_in old.part.now old.at old.map old.weight)
    → (1 ≤ old.weight → old.at + 8 < 2 ^ 64 → new ≡ record { part = old.part; map = old.map; at = old.at + width_in old.map old.weight 8; weight = old.weight * 2 % 256 })
    → 8 + weight < 128 → (value ≡ float_in part.now at map weight) × Stand new part map (at + width_in map weight 8) (weight * 2 % 256)
real-step s v h few = let e = rw s.is at v in (e s.some, moved 8 s h few)

pub option_read : {old : Fields} {part : Bor (List ℕ)} {map at weight : ℕ} {value : Option ℕ} (width : ℕ) → Stand old part map at weight
    → (1 ≤ old.weight → value ≡ cond (stands old.map old.weight) (Some (number_at old.part.now old.at width)) None) → value ≡ cond (stands map weight) (Some (number_at part.now at width)) None
option_read width s v = let e = rw s.is at v in e s.some
