-- The canvas that words mean after its fields were put into them.
use Prim.Native.Nat.{ℕ, ◌^◌, ◌≤◌, ◌<◌}
use mathlib.Core.Path.{◌≡◌, refl}
use mathlib.Core.Bool.{Bool, true, false, cond}
use mathlib.Core.List.{List, [], ◌∷◌}
use native.Mathlib.Nat.{mod-lt, mod-eq_of_lt}
use native.Mathlib.Omega.{arith}
use lib.ListN.{length, get_or, length-set}
use borrow.Author.Tests.{ltb-false}
use Rattle.floats.specs.Arithmetic.{bits}
use Rattle.ledger.specs.Model.{zero_canvas}
use Rattle.ledger.specs.declared.state.Canvas.{Canvas}
use Rattle.words.specs.Words.{canvas_words, short_words, mark_of, word_of, canvas_in, canvas_of, changed_words, cleared_words, fixed_words, kept_words, all_words}
use Rattle.form.specs.Fields.{bits_of}

pub length-changed : (words : List ℕ) (c : Canvas) → length (changed_words words c) ≡ length words
length-changed words c = simp length-set

pub length-cleared : (words : List ℕ) → length (cleared_words words) ≡ length words
length-cleared words = simp length-set

pub length-fixed : (words : List ℕ) (c : Canvas) → length (fixed_words words c) ≡ length words
length-fixed words c = simp length-set

-- ---- a list that is long enough for the words with a meaning, word by word

data Split : List ℕ → Type 0 where
  split : (w0 w1 w2 w3 w4 w5 w6 w7 w8 w9 w10 w11 w12 w13 : ℕ) (rest : List ℕ) → Split (w0 ∷ w1 ∷ w2 ∷ w3 ∷ w4 ∷ w5 ∷ w6 ∷ w7 ∷ w8 ∷ w9 ∷ w10 ∷ w11 ∷ w12 ∷ w13 ∷ rest)

long-split : (words : List ℕ) → 14 ≤ length words → Split words
long-split (w0 ∷ w1 ∷ w2 ∷ w3 ∷ w4 ∷ w5 ∷ w6 ∷ w7 ∷ w8 ∷ w9 ∷ w10 ∷ w11 ∷ w12 ∷ w13 ∷ rest) h = split w0 w1 w2 w3 w4 w5 w6 w7 w8 w9 w10 w11 w12 w13 rest
long-split [] h = absurd (omega arith)
long-split (w0 ∷ []) h = absurd (omega arith)
long-split (w0 ∷ w1 ∷ []) h = absurd (omega arith)
long-split (w0 ∷ w1 ∷ w2 ∷ []) h = absurd (omega arith)
long-split (w0 ∷ w1 ∷ w2 ∷ w3 ∷ []) h = absurd (omega arith)
long-split (w0 ∷ w1 ∷ w2 ∷ w3 ∷ w4 ∷ []) h = absurd (omega arith)
long-split (w0 ∷ w1 ∷ w2 ∷ w3 ∷ w4 ∷ w5 ∷ []) h = absurd (omega arith)
long-split (w0 ∷ w1 ∷ w2 ∷ w3 ∷ w4 ∷ w5 ∷ w6 ∷ []) h = absurd (omega arith)
long-split (w0 ∷ w1 ∷ w2 ∷ w3 ∷ w4 ∷ w5 ∷ w6 ∷ w7 ∷ []) h = absurd (omega arith)
long-split (w0 ∷ w1 ∷ w2 ∷ w3 ∷ w4 ∷ w5 ∷ w6 ∷ w7 ∷ w8 ∷ []) h = absurd (omega arith)
long-split (w0 ∷ w1 ∷ w2 ∷ w3 ∷ w4 ∷ w5 ∷ w6 ∷ w7 ∷ w8 ∷ w9 ∷ []) h = absurd (omega arith)
long-split (w0 ∷ w1 ∷ w2 ∷ w3 ∷ w4 ∷ w5 ∷ w6 ∷ w7 ∷ w8 ∷ w9 ∷ w10 ∷ []) h = absurd (omega arith)
long-split (w0 ∷ w1 ∷ w2 ∷ w3 ∷ w4 ∷ w5 ∷ w6 ∷ w7 ∷ w8 ∷ w9 ∷ w10 ∷ w11 ∷ []) h = absurd (omega arith)
long-split (w0 ∷ w1 ∷ w2 ∷ w3 ∷ w4 ∷ w5 ∷ w6 ∷ w7 ∷ w8 ∷ w9 ∷ w10 ∷ w11 ∷ w12 ∷ []) h = absurd (omega arith)

-- ---- a canvas whose numbers have their fields' widths

pub mark-back : (mark : Bool) → mark_of (word_of mark) ≡ mark
mark-back true = refl
mark-back false = refl

-- the fields that calls change
pub record Narrow (c : Canvas) : Type 0 where
  pub character : c.character < 2 ^ 32
  pub labels : c.labels < 2 ^ 32
  pub draws : c.draws < 2 ^ 32
  pub marker : c.marker < 2 ^ 8

-- the others, as in another canvas
pub record Alike (c d : Canvas) : Type 0 where
  pub columns : c.columns ≡ d.columns
  pub rows : c.rows ≡ d.rows
  pub bounds : c.bounds ≡ d.bounds
  pub background : c.background ≡ d.background

changed-back : (words : List ℕ) (c : Canvas) → 14 ≤ length words → Narrow c → Alike (canvas_in words) c → canvas_in (changed_words words c) ≡ c
changed-back words c h narrow alike = go words (long-split words h) alike
  where
    go : (words : List ℕ) → Split words → Alike (canvas_in words) c → canvas_in (changed_words words c) ≡ c
    go words (split w0 w1 w2 w3 w4 w5 w6 w7 w8 w9 w10 w11 w12 w13 rest) alike =
        rw (
          alike.columns,
          alike.rows,
          alike.bounds,
          alike.background,
          mod-eq_of_lt narrow.character,
          mod-eq_of_lt narrow.labels,
          mod-eq_of_lt narrow.draws,
          mod-eq_of_lt narrow.marker,
          mark-back c.dirty,
          mark-back c.rendered,
        )

-- with the fixed fields too, as at an opening
pub record Wide (c : Canvas) : Type 0 where
  pub narrow : Narrow c
  pub columns : c.columns < 2 ^ 16
  pub rows : c.rows < 2 ^ 16
  pub background : c.background < 2 ^ 32
  pub left : bits (bits_of c.bounds.left) ≡ c.bounds.left
  pub right : bits (bits_of c.bounds.right) ≡ c.bounds.right
  pub bottom : bits (bits_of c.bounds.bottom) ≡ c.bounds.bottom
  pub top : bits (bits_of c.bounds.top) ≡ c.bounds.top

fixed_alike : (words : List ℕ) (c : Canvas) → 14 ≤ length words → Wide c → Alike (canvas_in (fixed_words words c)) c
fixed_alike words c h wide = go words (long-split words h)
  where
    go : (words : List ℕ) → Split words → Alike (canvas_in (fixed_words words c)) c
    go words (split w0 w1 w2 w3 w4 w5 w6 w7 w8 w9 w10 w11 w12 w13 rest) = record {
      columns = mod-eq_of_lt wide.columns;
      rows = mod-eq_of_lt wide.rows;
      bounds = rw (wide.left, wide.right, wide.bottom, wide.top);
      background = mod-eq_of_lt wide.background;
    }

-- ---- the same of the words that calls leave

long-enough : (words : List ℕ) → short_words words ≡ false → 14 ≤ length words
long-enough words e = omega (arith, ltb-false (length words) canvas_words e)

pub short-kept : (words : List ℕ) (c : Canvas) → short_words (kept_words words c) ≡ short_words words
unfolding kept_words
short-kept words c = go (short_words words)
  where
    go : (short : Bool) → short_words (cond short words (changed_words words c)) ≡ short_words words
    go true = refl
    go false = rw (length-changed words c)

pub short-all : (words : List ℕ) (c : Canvas) → short_words (all_words words c) ≡ short_words words
unfolding all_words
short-all words c = go (short_words words)
  where
    go : (short : Bool) → short_words (cond short words (changed_words (fixed_words (cleared_words words) c) c)) ≡ short_words words
    go true = refl
    go false = rw (length-changed (fixed_words (cleared_words words) c) c, length-fixed (cleared_words words) c, length-cleared words)

module _ (words : List ℕ) (long : short_words words ≡ false) where
  pub long-canvas : canvas_of words ≡ canvas_in words
  unfolding canvas_of
  long-canvas = rw long

  pub kept-canvas : (c : Canvas) → Narrow c → Alike (canvas_of words) c → canvas_of (kept_words words c) ≡ c
  unfolding canvas_of kept_words
  kept-canvas c narrow alike =
      let h = long-enough words long in
      rw (long, length-changed words c, long) (changed-back words c h narrow (rw long at alike))

  pub all-canvas : (c : Canvas) → Wide c → canvas_of (all_words words c) ≡ c
  unfolding canvas_of all_words
  all-canvas c wide =
      let cleared = cleared_words words in
      let h : 14 ≤ length cleared = rw (length-cleared words) (long-enough words long) in
      rw (long, length-changed (fixed_words cleared c) c, length-fixed cleared c, length-cleared words, long)
      (changed-back (fixed_words cleared c) c (rw (length-fixed cleared c) h) wide.narrow (fixed_alike cleared c h wide))

-- the words without a meaning change nothing
pub cleared-canvas : (words : List ℕ) → canvas_of (cleared_words words) ≡ canvas_of words
unfolding canvas_of
cleared-canvas words = rw (length-cleared words) (go (short_words words) refl)
  where
    unread : (words : List ℕ) → Split words → canvas_in (cleared_words words) ≡ canvas_in words
    unread words (split w0 w1 w2 w3 w4 w5 w6 w7 w8 w9 w10 w11 w12 w13 rest) = refl

    go : (short : Bool) → short_words words ≡ short → cond short zero_canvas (canvas_in (cleared_words words)) ≡ cond short zero_canvas (canvas_in words)
    go true e = refl
    go false e = unread words (long-split words (long-enough words e))

pub short-canvas : (words : List ℕ) → short_words words ≡ true → canvas_of words ≡ zero_canvas
unfolding canvas_of
short-canvas words short = rw short

-- the canvas that words mean has its fields' widths
pub canvas-narrow : (words : List ℕ) → Narrow (canvas_of words)
unfolding canvas_of
canvas-narrow words = go (short_words words)
  where
    go : (short : Bool) → Narrow (cond short zero_canvas (canvas_in words))
    go true = record { character = omega arith; labels = omega arith; draws = omega arith; marker = omega arith }
    go false = record {
      character = mod-lt (get_or words 5 0) (omega arith);
      labels = mod-lt (get_or words 7 0) (omega arith);
      draws = mod-lt (get_or words 8 0) (omega arith);
      marker = mod-lt (get_or words 11 0) (omega arith);
    }
