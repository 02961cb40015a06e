-- The programs' numbers are enough: what is printed fits, 17 is given for more than 65,536 bytes and for no other file, and a file that is
-- cut after 65,537 bytes is refused as the whole one is.
use Prim.Native.Nat.{ℕ, zero, suc, ◌+◌, ◌*◌, ◌≤◌, ◌<◌}
use mathlib.Core.Path.{◌≡◌, refl, sym, ap, ◌∙◌}
use mathlib.Core.Bool.{Bool, true, false}
use mathlib.Core.List.{List, ◌++◌}
use native.Mathlib.Nat.{mul-le-mul}
use native.Mathlib.Omega.{arith}
use lib.Dec.{leb}
use lib.ListN.{length, take, drop}
use lib.Seq.{take_all, length-take-le}
use borrow.Author.Tests.{leb-true, leb-false}
use Rattle.std.proofs.lemmas.Bool.{and_parts}
use Rattle.floats.proofs.Cases.{false-not-true}
use Rattle.ledger.specs.declared.state.Opening.{Opening}
use Rattle.ledger.specs.Ledger.{unless}
use Rattle.form.specs.Forms.{max_file}
use Rattle.picture.specs.Opening.{opening_of}
use Rattle.picture.specs.Faithful.{Result, refused_at, shown_as}
use Rattle.picture.proofs.Openings.{too_long}
use Rattle.text.specs.Bytes.{laid}
use Rattle.text.specs.Listing.{refusal_line}
use Rattle.text.proofs.Laid.{laid-front, length-laid}
use Rattle.text.proofs.Lengths.{refusal-length, listing-length, terminal-length}
use Rattle.report.specs.Program.{widest, highest, fault, ledger_result, result_in, cells_by, listing_in, terminal_in, layout_prints, show_prints, is_met, Enough}
use Rattle.report.proofs.FromBytes.{within-limits, within-file, no-fault}
use Rattle.report.proofs.Outcomes.{is_met_short, GoodResult, result-good}

-- ---- room for what is printed

module _ (o : Opening) (narrow : o.columns ≤ widest) (low : o.rows ≤ highest) where
  listing-room : (r : Result) → GoodResult r → length (listing_in o r) ≤ 59561
  listing-room (refused_at number place) g = omega (arith, refusal-length number place)
  listing-room (shown_as cells painted) g =
      let n = listing-length o.columns o.rows painted (cells_by cells) (omega arith) (omega arith) g in
      omega (arith, n, mul-le-mul {n₁ = o.columns} {m₁ = o.rows} {n₂ = widest} {m₂ = highest} narrow low)

  terminal-room : (r : Result) → length (terminal_in o r) ≤ 80760
  terminal-room (refused_at number place) = omega (arith, refusal-length number place)
  terminal-room (shown_as cells painted) =
      let n = terminal-length o.columns o.rows (cells_by cells) in
      omega (arith, n, mul-le-mul {n₁ = o.rows} {m₁ = o.columns * 42 + 5} {n₂ = highest} {m₂ = 3365} low (omega arith))

-- where the opening is accepted, the size and the file are within their limits
abbrev Within : List ℕ → Type 0
Within file = ((opening_of file).columns ≤ widest) × ((opening_of file).rows ≤ highest) × (length file ≤ max_file)

sized : (file : List ℕ) (P : Result → Type 0) → ((number : ℕ) → P (refused_at number 0)) → (Within file → P (result_in widest highest file)) → P (result_in widest highest file)
unfolding result_in
sized file P small shown = go (fault widest highest file) refl (ledger_result file) shown
  where
    go : (k : ℕ) → fault widest highest file ≡ k → (r : Result) → (Within file → P (unless k (refused_at k 0) r)) → P (unless k (refused_at k 0) r)
    go zero e r f =
        let formed = (no-fault file widest highest e).0 in
        let w = within-limits file widest highest formed in
        f (w.0, w.1, within-file file widest highest formed)
    go (suc k) e r f = small (suc k)

pub layout-room : (file : List ℕ) → length (layout_prints file) ≤ 59561
unfolding layout_prints
layout-room file =
    sized file (λ (r : Result). length (listing_in (opening_of file) r) ≤ 59561) (λ number. omega (arith, refusal-length number 0))
    (λ w. listing-room (opening_of file) w.0 w.1 (result_in widest highest file) (result-good widest highest file w.2))

pub show-room : (file : List ℕ) → length (show_prints file) ≤ 80760
unfolding show_prints
show-room file =
    sized file (λ (r : Result). length (terminal_in (opening_of file) r) ≤ 80760) (λ number. omega (arith, refusal-length number 0))
    (λ w. terminal-room (opening_of file) w.0 w.1 (result_in widest highest file))

-- what is laid from the start of a list that has room, as the contracts say it
pub printed : (out : List ℕ) {bytes listed after : List ℕ} {r : ℕ} → listed ≡ bytes → length bytes ≤ length out → (after ≡ laid out 0 listed) × (r ≡ length listed)
    → ((after ≡ bytes ++ drop r out) × (r ≡ length bytes)) × ((r ≤ length after) × (r ≡ length (take r after)))
printed out {bytes} {listed} {after} {r} e room w =
    let n = w.1 ∙ ap length e in
    let front = w.0 ∙ ap (laid out 0) e ∙ laid-front out bytes room ∙ ap (λ (k : ℕ). bytes ++ drop k out) (sym n) in
    let all : length after ≡ length out = ap length w.0 ∙ length-laid out 0 listed in
    let within : r ≤ length after = omega (arith, n) in
    ((front, n), (within, sym (length-take-le r after within)))

-- ---- a file that is too long

long-refused : (file : List ℕ) (columns rows : ℕ) → max_file < length file → result_in columns rows file ≡ refused_at 17 0
unfolding result_in fault
long-refused file columns rows h = rw (← (too_long file columns rows h))

-- a refusal's number
abbrev number_of : Result → ℕ
number_of (refused_at number place) = number
number_of (shown_as cells painted) = 0

module _ (columns rows : ℕ) (file : List ℕ) (number place : ℕ) (e : result_in columns rows file ≡ refused_at number place) where
  short-met : length file ≤ max_file → is_met_short number ≡ true
  short-met short = rw e at (result-good columns rows file short)

  met : is_met number ≡ true
  met = go (leb (length file) max_file) refl
    where
      go : (t : Bool) → leb (length file) max_file ≡ t → is_met number ≡ true
      go true s = (and_parts (is_met number) _ (short-met (leb-true (length file) max_file s))).0
      go false s = ap (λ (r : Result). is_met (number_of r)) (sym e ∙ long-refused file columns rows (leb-false (length file) max_file s))

only-long-refused : (columns rows : ℕ) (file : List ℕ) (place : ℕ) → result_in columns rows file ≡ refused_at 17 place → max_file < length file
only-long-refused columns rows file place e = go (leb (length file) max_file) refl
  where
    go : (t : Bool) → leb (length file) max_file ≡ t → max_file < length file
    go true s = false-not-true (short-met columns rows file 17 place e (leb-true (length file) max_file s))
    go false s = leb-false (length file) max_file s

cut-result : (file : List ℕ) (columns rows : ℕ) (by : Opening → Result → List ℕ) → ((o : Opening) → by o (refused_at 17 0) ≡ refusal_line 17 0)
    → by (opening_of (take 65537 file)) (result_in columns rows (take 65537 file)) ≡ by (opening_of file) (result_in columns rows file)
cut-result file columns rows by line = go (leb (length file) 65537) refl
  where
    go : (t : Bool) → leb (length file) 65537 ≡ t → by (opening_of (take 65537 file)) (result_in columns rows (take 65537 file)) ≡ by (opening_of file) (result_in columns rows file)
    go true e = ap (λ (f : List ℕ). by (opening_of f) (result_in columns rows f)) (take_all 65537 file (leb-true (length file) 65537 e))
    go false e =
        let long = leb-false (length file) 65537 e in
        let cut : length (take 65537 file) ≡ 65537 = length-take-le 65537 file (omega arith) in
        ap (by (opening_of (take 65537 file))) (long-refused (take 65537 file) columns rows (omega arith)) ∙ line (opening_of (take 65537 file))
        ∙ sym (ap (by (opening_of file)) (long-refused file columns rows (omega arith)) ∙ line (opening_of file))

layout-cut : (file : List ℕ) → layout_prints (take 65537 file) ≡ layout_prints file
unfolding layout_prints
layout-cut file = cut-result file widest highest listing_in (λ o. refl)

show-cut : (file : List ℕ) → show_prints (take 65537 file) ≡ show_prints file
unfolding show_prints
show-cut file = cut-result file widest highest terminal_in (λ o. refl)

pub enough : Enough
enough = record {
  refusals = met;
  long = λ columns rows file h. long-refused file columns rows h;
  only-long = only-long-refused;
  layout = layout-room;
  show = show-room;
  layout-read = layout-cut;
  show-read = show-cut;
}
