use Rattle.std.specs.Prelude.{Option, Some, None, ℕ}
-- Every record that is written is read back: its map says which fields stand, and each is read where its bytes begin.
use mathlib.Core.Path.{◌≡◌, refl, ap, ◌∙◌}
use mathlib.Core.Bool.{false}
use mathlib.Core.List.{List, ◌++◌, append_assoc}
use Prim.Native.Nat.{ℕ, ◌+◌, ◌*◌, ◌<◌, ◌^◌}
use native.Mathlib.Omega.{arith}
use lib.Dec.{lit<}
use lib.Ieee.{Float}
use lib.ListN.{length, drop, take, length-append}
use lib.Seq.{take-append_seam}
use Rattle.floats.specs.Arithmetic.{bits}
use Rattle.walk.specs.declared.clip.Segment.{Segment}
use Rattle.shapes.specs.declared.painters.Shape.{Shape}
use Rattle.shapes.specs.declared.painters.Shape.TheVariants.{Line, FilledLine, Rectangle, Circle}
use Rattle.ledger.specs.Calls.{Call, draw, points, dot, layer, marker, print, render}
use Rattle.form.specs.Fields.{stands, number_at}
use Rattle.form.specs.Forms.{is_unknown, kind_at, map_at, widths_of, record_widths, record_end}
use Rattle.lists.specs.Lists.{pairs_at}
use Rattle.records.specs.Records.{call_of, record_call}
use Rattle.picture.specs.Encoding.{bytes_of, segment_bytes, pair_bytes, shape_bytes, label_bytes, record_bytes, IsFloat, HasFloats, WritableShape, WritableChoice, Writable}
use Rattle.picture.proofs.ByteLists.{drop_past, number-back, float_back}
use Rattle.picture.proofs.PairBytes.{length_pairs, pairs-back}

-- bytes with others after them begin with a call's record, which ends where the others begin
pub record ReadBack (call : Call) (bytes rest : List ℕ) : Type 0 where
  pub known : is_unknown (kind_at (bytes ++ rest) 0) ≡ false
  pub standing : map_at (bytes ++ rest) 0 < 2 ^ length (record_widths (bytes ++ rest) 0)
  pub end : record_end (bytes ++ rest) 0 ≡ length bytes
  pub read : record_call (bytes ++ rest) 0 ≡ call

-- the same, by its four facts
back_by : {call : Call} {bytes rest : List ℕ} → is_unknown (kind_at (bytes ++ rest) 0) ≡ false → map_at (bytes ++ rest) 0 < 2 ^ length (record_widths (bytes ++ rest) 0)
    → record_end (bytes ++ rest) 0 ≡ length bytes → record_call (bytes ++ rest) 0 ≡ call → ReadBack call bytes rest
back_by k s e r = record { known = k; standing = s; end = e; read = r }

-- four floats from the part's first byte on
abbrev segment_at : List ℕ → Segment
segment_at part = record { x1 = bits (number_at part 0 8); y1 = bits (number_at part 8 8); x2 = bits (number_at part 16 8); y2 = bits (number_at part 24 8) }

segment-back : (s : Segment) (rest : List ℕ) → HasFloats s → segment_at (segment_bytes s ++ rest) ≡ s
segment-back s rest h =
    let part = segment_bytes s ++ rest in
    λ k. record {
      x1 = float_back part 0 s.x1 _ h.0 refl k;
      y1 = float_back part 8 s.y1 _ h.1 refl k;
      x2 = float_back part 16 s.x2 _ h.2 refl k;
      y2 = float_back part 24 s.y2 rest h.3 refl k;
    }

shape-back : (shape : Shape) (colour : ℕ) (rest : List ℕ) → WritableShape shape → colour < 2 ^ 32 → ReadBack (draw shape colour) (shape_bytes shape colour) rest
unfolding stands widths_of call_of record_call record_end
shape-back (Line s) colour rest h c =
    let part = drop 2 (shape_bytes (Line s) colour) ++ rest in
    let ink = number-back part 32 4 colour rest c refl in
    back_by refl (lit< tt) refl λ k. draw (Line (segment-back s (drop 32 part) h k)) (ink k)
shape-back (FilledLine s fill_to) colour rest h c =
    let part = drop 2 (shape_bytes (FilledLine s fill_to) colour) ++ rest in
    let ink = number-back part 40 4 colour rest c refl in
    back_by refl (lit< tt) refl λ k. draw (FilledLine (segment-back s (drop 32 part) h.0 k) (float_back part 32 fill_to _ h.1 refl k)) (ink k)
shape-back (Rectangle x y width height) colour rest h c =
    let part = drop 2 (shape_bytes (Rectangle x y width height) colour) ++ rest in
    let left = float_back part 0 x _ h.0 refl in
    let bottom = float_back part 8 y _ h.1 refl in
    let wide = float_back part 16 width _ h.2 refl in
    let high = float_back part 24 height _ h.3 refl in
    let ink = number-back part 32 4 colour rest c refl in
    back_by refl (lit< tt) refl λ k. draw (Rectangle (left k) (bottom k) (wide k) (high k)) (ink k)
shape-back (Circle x y radius) colour rest h c =
    let part = drop 2 (shape_bytes (Circle x y radius) colour) ++ rest in
    let ink = number-back part 24 4 colour rest c refl in
    back_by refl (lit< tt) refl λ k. draw (Circle (float_back part 0 x _ h.0 refl k) (float_back part 8 y _ h.1 refl k) (float_back part 16 radius _ h.2 refl k)) (ink k)

-- a text of as many bytes as the number before it says
text-back : (n : ℕ) (text rest : List ℕ) → n ≡ length text → take n (text ++ rest) ≡ text
text-back n text rest e = rw (e, take-append_seam)

label-back : (x y : Float) (text : List ℕ) (choice : Option ℕ) (rest : List ℕ) → IsFloat x → IsFloat y → length text < 2 ^ 8 → WritableChoice choice
    → ReadBack (print x y text choice) (label_bytes x y text choice) rest
unfolding stands widths_of call_of record_call record_end
label-back x y text None rest hx hy l c =
    let part = drop 2 (label_bytes x y text None) ++ rest in
    let n = number-back part 16 1 (length text) (text ++ rest) l refl in
    back_by refl (lit< tt) (omega arith) λ k. print (float_back part 0 x _ hx refl k) (float_back part 8 y _ hy refl k) (text-back _ text rest n k) None
label-back x y text (Some colour) rest hx hy l c =
    let part = drop 2 (label_bytes x y text (Some colour)) ++ rest in
    let n = number-back part 20 1 (length text) (text ++ rest) l refl in
    let ink = number-back part 16 4 colour _ c refl in
    back_by refl (lit< tt) (omega arith) λ k. print (float_back part 0 x _ hx refl k) (float_back part 8 y _ hy refl k) (text-back _ text rest n k) (Some (ink k))

pub read_back : (call : Call) (rest : List ℕ) → Writable call → ReadBack call (record_bytes call) rest
unfolding stands widths_of call_of record_call record_end
read_back (draw shape colour) rest h = shape-back shape colour rest h.0 h.1
read_back (points pairs colour) rest h =
    let ink = bytes_of 4 colour in
    let part = drop 2 (record_bytes (points pairs colour)) ++ rest in
    let left : drop 2 part ≡ pair_bytes pairs ++ (ink ++ rest) = append_assoc (pair_bytes pairs) ink rest in
    let past = drop_past part 2 (pair_bytes pairs) (ink ++ rest) (16 * length pairs) (length_pairs pairs) left in
    let n = number-back part 0 2 (length pairs) _ h.1 refl in
    let place : 0 + (2 + 16 * number_at part 0 2) ≡ 2 + 16 * length pairs = omega arith in
    let list = ap (pairs_at part 2) n ∙ pairs-back part 2 pairs (ink ++ rest) h.0 left in
    let last = ap (λ at. number_at part at 4) place ∙ number-back part (2 + 16 * length pairs) 4 colour rest h.2 past in
    back_by refl (lit< tt) (omega (arith, length-append (pair_bytes pairs) ink, length_pairs pairs)) λ k. points (list k) (last k)
read_back layer rest h = back_by refl (lit< tt) refl refl
read_back (marker m character) rest h =
    let part = drop 2 (record_bytes (marker m character)) ++ rest in
    back_by refl (lit< tt) refl λ k. marker (number-back part 0 1 m _ h.0 refl k) (number-back part 1 4 character rest h.1 refl k)
read_back (print x y text choice) rest h = label-back x y text choice rest h.0 h.1 h.2 h.4
read_back (dot column row colour) rest h =
    let part = drop 2 (record_bytes (dot column row colour)) ++ rest in
    back_by refl (lit< tt) refl λ k. dot (number-back part 0 4 column _ h.0 refl k) (number-back part 4 4 row _ h.1 refl k) (number-back part 8 4 colour rest h.2 refl k)
read_back (render area words) rest h = absurd h
