use Rattle.std.specs.Prelude.{Option, Some, None, ℕ}
-- What is written is a list of bytes, part after part.
use mathlib.Core.List.{List, [], ◌∷◌, ◌++◌}
use Prim.Native.Nat.{ℕ, zero, suc, ◌/◌, ◌%◌}
use native.Mathlib.Omega.{arith}
use lib.Dec.{T, ltb, lit<}
use lib.Ieee.{Float, binary64, to_bits}
use lib.ListN.{length}
use Rattle.walk.specs.declared.clip.Segment.{Segment}
use Rattle.walk.specs.declared.clip.Pair.{Pair}
use Rattle.shapes.specs.declared.painters.Shape.{Shape}
use Rattle.shapes.specs.declared.painters.Shape.TheVariants.{Line, FilledLine, Rectangle, Circle}
use Rattle.ledger.specs.Calls.{Call, draw, points, dot, layer, marker, print, render}
use Rattle.ledger.specs.declared.state.Opening.{Opening}
use Rattle.ledger.specs.Promise.{Every, nil, cons}
use Rattle.picture.specs.Encoding.{bytes_of, float_bytes, segment_bytes, pair_bytes, opening_bytes, shape_bytes, label_bytes, record_bytes, records_bytes, file_bytes, IsByte, Writable}

-- one list after another
infixr 60 ◌then◌
◌then◌ : {A : Type 0} {P : A → Type 0} {xs ys : List A} → Every P xs → Every P ys → Every P (xs ++ ys)
nil then more = more
cons h all then more = cons h (all then more)

bytes-number : (n value : ℕ) → Every IsByte (bytes_of n value)
bytes-number zero value = nil
bytes-number (suc n) value = cons {x = value % 256} (omega arith) (bytes-number n (value / 256))

bytes-float : (x : Float) → Every IsByte (float_bytes x)
bytes-float x = bytes-number 8 (to_bits binary64 x)

bytes-segment : (s : Segment) → Every IsByte (segment_bytes s)
bytes-segment s = bytes-float s.x1 then bytes-float s.y1 then bytes-float s.x2 then bytes-float s.y2

bytes-pairs : (pairs : List Pair) → Every IsByte (pair_bytes pairs)
bytes-pairs [] = nil
bytes-pairs (p ∷ pairs) = bytes-float p.x then bytes-float p.y then bytes-pairs pairs

-- a kind and a map before the fields
headed : (kind map : ℕ) {fields : List ℕ} → T (ltb kind 256) → T (ltb map 256) → Every IsByte fields → Every IsByte (kind ∷ map ∷ fields)
headed kind map k m all = cons (lit< k) (cons (lit< m) all)

bytes-shape : (shape : Shape) (colour : ℕ) → Every IsByte (shape_bytes shape colour)
bytes-shape (Line s) colour = headed 1 31 tt tt (bytes-segment s then bytes-number 4 colour)
bytes-shape (FilledLine s fill_to) colour = headed 2 63 tt tt (bytes-segment s then bytes-float fill_to then bytes-number 4 colour)
bytes-shape (Rectangle x y width height) colour =
    headed 3 31 tt tt (bytes-float x then bytes-float y then bytes-float width then bytes-float height then bytes-number 4 colour)
bytes-shape (Circle x y radius) colour = headed 4 15 tt tt (bytes-float x then bytes-float y then bytes-float radius then bytes-number 4 colour)

bytes-label : (x y : Float) (text : List ℕ) (choice : Option ℕ) → Every IsByte text → Every IsByte (label_bytes x y text choice)
bytes-label x y text None all = headed 8 11 tt tt (bytes-float x then bytes-float y then bytes-number 1 (length text) then all)
bytes-label x y text (Some colour) all =
    headed 8 15 tt tt (bytes-float x then bytes-float y then bytes-number 4 colour then bytes-number 1 (length text) then all)

bytes-record : (call : Call) → Writable call → Every IsByte (record_bytes call)
bytes-record (draw shape colour) h = bytes-shape shape colour
bytes-record (points pairs colour) h = headed 5 3 tt tt (bytes-number 2 (length pairs) then bytes-pairs pairs then bytes-number 4 colour)
bytes-record layer h = headed 6 0 tt tt nil
bytes-record (marker m character) h = headed 7 3 tt tt (bytes-number 1 m then bytes-number 4 character)
bytes-record (print x y text choice) h = bytes-label x y text choice h.3
bytes-record (dot column row colour) h = headed 9 7 tt tt (bytes-number 4 column then bytes-number 4 row then bytes-number 4 colour)
bytes-record (render area words) h = absurd h

bytes-records : (calls : List Call) → Every Writable calls → Every IsByte (records_bytes calls)
bytes-records [] nil = nil
bytes-records (call ∷ calls) (cons h all) = bytes-record call h then bytes-records calls all

bytes-opening : (o : Opening) → Every IsByte (opening_bytes o)
bytes-opening o =
    bytes-number 2 o.columns
    then bytes-number 2 o.rows
    then cons {x = 127} (lit< tt) (bytes-float o.bounds.left
    then bytes-float o.bounds.right
    then bytes-float o.bounds.bottom
    then bytes-float o.bounds.top
    then bytes-number 1 o.marker
    then bytes-number 4 o.character
    then bytes-number 4 o.background)

pub bytes-file : (o : Opening) (calls : List Call) → Every Writable calls → Every IsByte (file_bytes o calls)
bytes-file o calls all = bytes-opening o then bytes-records calls all
