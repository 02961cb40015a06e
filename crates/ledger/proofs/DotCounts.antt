-- A call has at most 160,000 dots on a canvas of at most 200 by 100 cells.
use Prim.Native.Nat.{ℕ, ◌≤◌, zero-le}
use native.Mathlib.Nat.{le_trans}
use lib.Dec.{lit≤}
use lib.ListN.{length}
use Rattle.walk.specs.declared.clip.Bounds.{Bounds}
use Rattle.grids.specs.declared.markers.Marker.{Marker}
use Rattle.view.specs.Limits.{max_columns, max_rows, max_painted, max_pairs}
use Rattle.view.specs.Point.{view_of}
use Rattle.shapes.proofs.DotCounts.{pairs-count, shape-few, view-small}
use Rattle.ledger.specs.Calls.{Call, draw, points, dot, layer, marker, print, render, call_dots}

abbrev pub FewPairs : Call → Type 0
FewPairs (draw shape colour) = Unit {0}
FewPairs (points pairs colour) = length pairs ≤ max_pairs
FewPairs (dot column row colour) = Unit {0}
FewPairs layer = Unit {0}
FewPairs (marker m character) = Unit {0}
FewPairs (print x y text choice) = Unit {0}
FewPairs (render area words) = Unit {0}

pub few-dots : (bounds : Bounds) (columns rows : ℕ) (m : Marker) (c : Call) → columns ≤ max_columns → rows ≤ max_rows → FewPairs c → length (call_dots (view_of bounds columns rows m) c) ≤ max_painted
unfolding call_dots
few-dots bounds columns rows m (draw shape colour) h k f = shape-few (view_of bounds columns rows m) shape (view-small bounds columns rows m h k)
few-dots bounds columns rows m (points pairs colour) h k f = le_trans (pairs-count (view_of bounds columns rows m) pairs) (le_trans f (lit≤ tt))
few-dots bounds columns rows m (dot column row colour) h k f = lit≤ tt
few-dots bounds columns rows m layer h k f = zero-le
few-dots bounds columns rows m (marker number character) h k f = zero-le
few-dots bounds columns rows m (print x y text choice) h k f = zero-le
few-dots bounds columns rows m (render area words) h k f = zero-le
