-- What is printed with any stores and screen that are long enough is what the bytes alone say: the stores are never too short for the
-- limits, the part of the screen that the picture takes is blank, and picture's theorem gives the rest.
use Prim.Native.Nat.{ℕ, zero, suc, ◌*◌, ◌≤◌}
use mathlib.Core.Path.{◌≡◌, refl, sym, ap, ◌∙◌}
use mathlib.Core.Bool.{Bool, true, false, cond, ◌||◌}
use mathlib.Core.List.{List, [], ◌∷◌}
use native.Mathlib.Nat.{mul-le-mul}
use native.Mathlib.Omega.{arith}
use lib.Dec.{ltb}
use lib.ListN.{length, take}
use lib.Seq.{length-take-le}
use borrow.Author.Tests.{ltb-false, le-ltb}
use Rattle.std.proofs.lemmas.Bool.{or_parts}
use Rattle.grids.proofs.Cases.{cond-none}
use Rattle.view.specs.Limits.{max_labels, cell_words, label_words, screen_words}
use Rattle.ledger.specs.Calls.{open_refusal}
use Rattle.ledger.specs.declared.state.Opening.{Opening}
use Rattle.ledger.specs.Ledger.{opened, unless, ledger_replies}
use Rattle.ledger.specs.Model.{or_refusal}
use Rattle.ledger.proofs.CallSteps.{or-none}
use Rattle.form.specs.Forms.{max_file, opening_form}
use Rattle.picture.specs.Opening.{opening_of}
use Rattle.picture.specs.Run.{too_large, form_or_size, opening_refusal, Picture}
use Rattle.picture.specs.Meaning.{entries_of, calls_of}
use Rattle.picture.specs.Faithful.{Result, refused_at, last_call, judged, result_of, shown_as}
use Rattle.picture.specs.Drawn.{Drawn}
use Rattle.picture.specs.Drawn.{Shown, Refused}
use Rattle.picture.proofs.Faithful.{faithful}
use Rattle.report.specs.Screen.{blank_screen, columns_of, rows_of, picture_size}
use Rattle.report.specs.Printing.{printed_by, printed_of, on_blank}
use Rattle.report.specs.Program.{widest, highest, opening_fault, fault, blank, result_in, listing_in, terminal_in, layout_prints, show_prints, text_in, printed_in}
use Rattle.text.specs.Screen.{Cells}
use Rattle.text.specs.Listing.{listing}
use Rattle.text.specs.Terminal.{terminal}
use Rattle.report.proofs.Blank.{blank-screen-is}

-- ---- the opening: with long enough stores 5 never comes

stores-fit : (o : Opening) (cells labels : ℕ) → o.columns * o.rows * cell_words ≤ cells → max_labels * label_words ≤ labels → open_refusal o cells labels ≡ opening_fault o
unfolding open_refusal opening_fault
stores-fit o cells labels c l = rw (le-ltb cells (o.columns * o.rows * cell_words) c, le-ltb labels (max_labels * label_words) l)

pub within-limits : (file : List ℕ) (columns rows : ℕ) → form_or_size file columns rows ≡ 0 → ((opening_of file).columns ≤ columns) × ((opening_of file).rows ≤ rows)
unfolding form_or_size
within-limits file columns rows e =
    let o = opening_of file in
    let t = (cond-none (too_large o columns rows) 0 0 (or-none (opening_form file) _ e).1).0 in (
      ltb-false columns o.columns (or_parts (ltb columns o.columns) _ t).0,
      ltb-false rows o.rows (or_parts (ltb columns o.columns) _ t).1,
    )

pub within-file : (file : List ℕ) (columns rows : ℕ) → form_or_size file columns rows ≡ 0 → length file ≤ max_file
unfolding form_or_size opening_form
within-file file columns rows e = ltb-false max_file (length file) (cond-none (ltb max_file (length file)) 16 _ (or-none (opening_form file) _ e).0).0

pub no-fault : (file : List ℕ) (columns rows : ℕ) → fault columns rows file ≡ 0 → (form_or_size file columns rows ≡ 0) × (opening_fault (opening_of file) ≡ 0)
unfolding fault
no-fault file columns rows e = or-none (form_or_size file columns rows) _ e

-- a screen of the limits' size has room for the picture's
pub size_room : (file : List ℕ) (columns rows : ℕ) → picture_size file columns rows ≤ columns * rows * screen_words
unfolding picture_size
size_room file columns rows = go (ltb columns (columns_of file)) (ltb rows (rows_of file)) refl refl
  where
    go : (s t : Bool) → ltb columns (columns_of file) ≡ s → ltb rows (rows_of file) ≡ t → cond (s || t) 0 (columns_of file * rows_of file * 3) ≤ columns * rows * screen_words
    go true t e f = omega arith
    go false true e f = omega arith
    go false false e f =
        omega (arith, mul-le-mul {n₁ = columns_of file} {m₁ = rows_of file} {n₂ = columns} {m₂ = rows} (ltb-false columns (columns_of file) e) (ltb-false rows (rows_of file) f))

-- ---- what is printed of an outcome, by the cells of the screen

text-cells : (text : ℕ → ℕ → ℕ → Cells → List ℕ) (file words : List ℕ) (d : Drawn) → printed_by text file words d ≡ text_in text (opening_of file) (result_of d words)
unfolding opening_of
text-cells text file words (Shown painted label_cells) = refl
text-cells text file words (Refused number place) = refl

-- ---- the two programs' texts

lists : (o : Opening) (r : Result) → text_in listing o r ≡ listing_in o r
lists o (refused_at number place) = refl
lists o (shown_as cells painted) = refl

shows : (o : Opening) (r : Result) → text_in (λ columns rows painted cells. terminal columns rows cells) o r ≡ terminal_in o r
shows o (refused_at number place) = refl
shows o (shown_as cells painted) = refl

pub layout-printed : (file : List ℕ) → printed_in listing file ≡ layout_prints file
unfolding printed_in layout_prints
layout-printed file = lists (opening_of file) (result_in widest highest file)

pub show-printed : (file : List ℕ) → printed_in (λ columns rows painted cells. terminal columns rows cells) file ≡ show_prints file
unfolding printed_in show_prints
show-printed file = shows (opening_of file) (result_in widest highest file)

-- ---- a whole file with limits, stores that hold a canvas of that size, and a screen that holds its cells

module _ (file cells labels screen : List ℕ) (columns rows : ℕ) (cell_room : columns * rows * cell_words ≤ length cells) (label-room : max_labels * label_words ≤ length labels)
    (screen-room : columns * rows * screen_words ≤ length screen) where
  fault-same : opening_refusal file columns rows (length cells) (length labels) ≡ fault columns rows file
  unfolding opening_refusal fault
  fault-same = go (form_or_size file columns rows) refl
    where
      o : Opening
      o = opening_of file

      go : (k : ℕ) → form_or_size file columns rows ≡ k → or_refusal k (open_refusal o (length cells) (length labels)) ≡ or_refusal k (opening_fault o)
      go zero e =
          let w = within-limits file columns rows e in
          stores-fit o (length cells) (length labels) (omega (arith, mul-le-mul {n₁ = o.columns} {m₁ = o.rows} {n₂ = columns} {m₂ = rows} w.0 w.1)) label-room
      go (suc k) e = refl

  abbrev lent : List ℕ
  lent = take (picture_size file columns rows) screen

  lent-size : form_or_size file columns rows ≡ 0 → picture_size file columns rows ≡ (opening_of file).columns * (opening_of file).rows * screen_words
  unfolding picture_size opening_of
  lent-size e =
      let w = within-limits file columns rows e in
      rw (le-ltb columns (columns_of file) w.0, le-ltb rows (rows_of file) w.1)

  lent-blank : form_or_size file columns rows ≡ 0 → blank_screen lent ≡ blank ((opening_of file).columns * (opening_of file).rows)
  lent-blank e =
      let o = opening_of file in
      let room : picture_size file columns rows ≤ length screen = omega (arith, size_room file columns rows) in
      blank-screen-is lent (o.columns * o.rows) (length-take-le (picture_size file columns rows) screen room ∙ lent-size e)

  abbrev drawn : Picture
  drawn = on_blank file columns rows cells labels lent

  abbrev replied : List ℕ → Result
  replied words = judged (entries_of file) (ledger_replies (opening_of file) (opened (opening_of file)) (calls_of (entries_of file) (last_call (opening_of file) words ∷ [])))

  result-same : result_of drawn.drawn drawn.screen ≡ result_in columns rows file
  unfolding result_in
  result-same = go (fault columns rows file) refl
    where
      go : (k : ℕ) → fault columns rows file ≡ k → result_of drawn.drawn drawn.screen ≡ unless k (refused_at k 0) (replied (blank ((opening_of file).columns * (opening_of file).rows)))
      go zero e = faithful.ledger file columns rows cells labels (blank_screen lent) (fault-same ∙ e) ∙ ap replied (lent-blank (no-fault file columns rows e).0)
      go (suc k) e =
          let refused = faithful.opening file columns rows cells labels (blank_screen lent) (λ z. omega (arith, sym fault-same ∙ z, e)) in
          ap (λ (d : Drawn). result_of d drawn.screen) refused ∙ ap (λ (n : ℕ). refused_at n 0) (fault-same ∙ e)

  -- what is printed of it
  pub text-result : (text : ℕ → ℕ → ℕ → Cells → List ℕ) → printed_of text file drawn ≡ text_in text (opening_of file) (result_in columns rows file)
  text-result text = text-cells text file drawn.screen drawn.drawn ∙ ap (text_in text (opening_of file)) result-same

-- ---- the programs

module _ (file cells labels screen : List ℕ) {n : ℕ} (size : n ≡ picture_size file widest highest) (cell_room : widest * highest * cell_words ≤ length cells)
    (label-room : max_labels * label_words ≤ length labels) (screen-room : widest * highest * screen_words ≤ length screen) where
  pub printed-by-bytes : (text : ℕ → ℕ → ℕ → Cells → List ℕ) → printed_of text file (on_blank file widest highest cells labels (take n screen)) ≡ printed_in text file
  unfolding printed_in
  printed-by-bytes text =
      ap (λ (k : ℕ). printed_of text file (on_blank file widest highest cells labels (take k screen))) size
      ∙ text-result file cells labels screen widest highest cell_room label-room screen-room text
