-- Records that have all their fields: the numbers in their bytes, the form and the end that they have.
use mathlib.Core.Path.{◌≡◌, refl, sym}
use mathlib.Core.Logic.{◌⊎◌, inl, inr}
use mathlib.Core.Bool.{Bool, true, false, not, ◌&&◌, ◌||◌}
use mathlib.Core.List.{List}
use Prim.Native.Nat.{ℕ, ◌+◌, ◌-◌, ◌<◌, ◌^◌}
use native.Mathlib.Omega.{arith}
use lib.ListN.{length, take, drop}
use lib.Seq.{drop-drop}
use borrow.Author.Rules.{part_to_end}
use Rattle.std.proofs.lemmas.Bool.{cases_lt}
use Rattle.floats.specs.Arithmetic.{bits}
use Rattle.floats.specs.Domain.{in_domain}
use Rattle.shapes.specs.declared.painters.Shape.TheVariants.{Line, FilledLine, Circle}
use Rattle.walk.specs.declared.clip.Segment.{Segment}
use Rattle.ledger.specs.Calls.{draw, bad_segment, bad_shape}
use Rattle.records.specs.declared.complete.EndBits.{EndBits}
use Rattle.form.specs.Fields.{stands, number_at}
use Rattle.form.specs.Forms.{is_unknown, kind_at, map_at, widths_of, record_widths, record_end, record_form}
use Rattle.records.specs.Records.{line_call, filled_line_call, circle_call, call_of, record_call, complete_map, complete_size, CompleteKind, CompleteAt}
use Rattle.form.proofs.FormSteps.{well-formed}

-- ---- numbers outside the domain, one or another
some-of-three : (a b c : Bool) → (not a || not b) || not c ≡ not ((a && b) && c)
some-of-three true true c = refl
some-of-three true false c = refl
some-of-three false b c = refl

-- ---- the call in the bytes: with every bit of the map each field's place is a number
abbrev pub ends : EndBits → Segment
ends e = record { x1 = bits e.x1; y1 = bits e.y1; x2 = bits e.x2; y2 = bits e.y2 }

abbrev pub ends_at : List ℕ → EndBits
ends_at part = record { x1 = number_at part 0 8; y1 = number_at part 8 8; x2 = number_at part 16 8; y2 = number_at part 24 8 }

pub line-is : (part : List ℕ) (e : EndBits) (colour : ℕ) → e ≡ ends_at part → colour ≡ number_at part 32 4 → draw (Line (ends e)) colour ≡ line_call 31 part
unfolding stands
line-is part e colour h k = rw (h, k)

pub filled-line-is : (part : List ℕ) (e : EndBits) (fill colour : ℕ) → e ≡ ends_at part → fill ≡ number_at part 32 8 → colour ≡ number_at part 40 4
    → draw (FilledLine (ends e) (bits fill)) colour ≡ filled_line_call 63 part
unfolding stands
filled-line-is part e fill colour h f k = rw (h, f, k)

pub circle-is : (part : List ℕ) (a b c colour : ℕ) → a ≡ number_at part 0 8 → b ≡ number_at part 8 8 → c ≡ number_at part 16 8 → colour ≡ number_at part 24 4
    → draw (Circle (bits a) (bits b) (bits c)) colour ≡ circle_call 15 part
unfolding stands
circle-is part a b c colour e f g h = rw (e, f, g, h)

-- whether a number of it is bad
pub bad-line : (e : EndBits) (t : Bool) → t ≡ bad_segment (ends e) → t ≡ bad_shape (Line (ends e))
unfolding bad_shape
bad-line e t h = h

pub bad-filled-line : (e : EndBits) (fill : ℕ) (t u : Bool) → t ≡ bad_segment (ends e) → u ≡ not (in_domain (bits fill)) → t || u ≡ bad_shape (FilledLine (ends e) (bits fill))
unfolding bad_shape
bad-filled-line e fill t u h k = rw (h, k)

pub bad-circle : (a b c : ℕ) (t u v : Bool) → t ≡ not (in_domain (bits a)) → u ≡ not (in_domain (bits b)) → v ≡ not (in_domain (bits c)) → (t || u) || v ≡ bad_shape (Circle (bits a) (bits b) (bits c))
unfolding bad_shape
bad-circle a b c t u v h k l = rw (h, k, l) (some-of-three (in_domain (bits a)) (in_domain (bits b)) (in_domain (bits c)))

-- ---- the three kinds
which : (k : ℕ) → CompleteKind k → (k ≡ 1) ⊎ ((k ≡ 2) ⊎ (k ≡ 4))
which k h = elim (cases_lt k 2) [
  | inl a ↦ inl (omega (arith, h.0, a))
  | inr b ↦ elim (cases_lt k 3) [
    | inl c ↦ inr (inl (omega (arith, b, c)))
    | inr d ↦ elim (cases_lt k 4) [ inl e ↦ absurd (h.1.1 (omega (arith, d, e))) | inr e ↦ inr (inr (omega (arith, e, h.1.0))) ]
  ]
]

-- ---- the form and the end of a record
record Bounds (file : List ℕ) (at kind : ℕ) : Type 0 where
  end : record_end file at ≡ at + 2 + complete_size kind
  few : map_at file at < 2 ^ length (record_widths file at)
  known : is_unknown (kind_at file at) ≡ false

bounds : (file : List ℕ) (at kind : ℕ) → CompleteKind kind → kind_at file at ≡ kind → map_at file at ≡ complete_map kind → Bounds file at kind
unfolding record_end widths_of stands
bounds file at kind h k m = elim (which kind h) [
  | inl e ↦ rw (e) (record { end = rw (rw (e) at k, rw (e) at m); few = rw (rw (e) at k, rw (e) at m) (omega arith); known = rw (rw (e) at k) })
  | inr (inl e) ↦ rw (e) (record { end = rw (rw (e) at k, rw (e) at m); few = rw (rw (e) at k, rw (e) at m) (omega arith); known = rw (rw (e) at k) })
  | inr (inr e) ↦ rw (e) (record { end = rw (rw (e) at k, rw (e) at m); few = rw (rw (e) at k, rw (e) at m) (omega arith); known = rw (rw (e) at k) })
]

module _ (file : List ℕ) (at kind : ℕ) (h : CompleteAt file at kind) where
  facts : Bounds file at kind
  facts = bounds file at kind h.0 h.1.1.1.0 h.1.1.1.1

  pub complete-end : at + 2 + complete_size kind ≡ record_end file at
  complete-end = sym facts.end

  pub complete-form : 0 ≡ record_form file at
  complete-form = well-formed file at (record { within = h.1.0; header = omega (arith, h.1.1.0); known = facts.known }) facts.few (rw facts.end h.1.1.0)

  -- of the part as it is lent: of the file from the record on, what follows its two bytes
  pub complete-call-is : call_of kind (complete_map kind) (take (length (take (length file - at) (drop at file)) - 2) (drop 2 (take (length file - at) (drop at file)))) ≡ record_call file at
  unfolding record_call
  complete-call-is = rw (part_to_end file at, part_to_end (drop at file) 2, drop-drop 2 at file, h.1.1.1.0, h.1.1.1.1)
