-- What an opening is refused with before its call, from the first test to the last, and what it leaves.
use mathlib.Core.Path.{◌≡◌, refl}
use mathlib.Core.Bool.{Bool, cond, ◌||◌}
use mathlib.Core.List.{List}
use Prim.Native.Nat.{ℕ, zero, suc, ◌+◌, ◌≤◌, ◌<◌}
use lib.Dec.{ltb}
use lib.ListN.{length}
use borrow.Author.Tests.{lt-ltb, le-ltb, le-leb, lt-leb}
use Rattle.ledger.specs.Calls.{open_refusal}
use Rattle.ledger.specs.Model.{zero_canvas, open_cells}
use Rattle.ledger.specs.Outcomes.{open_called}
use Rattle.ledger.specs.Answer.{Called, Answer}
use Rattle.refusals.specs.declared.refusal.Refusal.{Refusal}
use Rattle.refusals.specs.Refusals.{number_of}
use Rattle.refusals.proofs.Numbers.{some-number}
use Rattle.form.specs.Fields.{number_at, size_by}
use Rattle.form.specs.Forms.{max_file, opening_map, opening_widths, opening_part, opening_end, opening_form}
use Rattle.picture.specs.Opening.{opening_from, opening_of}
use Rattle.ledger.specs.declared.state.Opening.{Opening}
use Rattle.picture.specs.Run.{too_large, form_or_size, opening_refusal, opened_state, opening_taken}
use Rattle.records.specs.Step.{Step, step_unless}
use Rattle.records.specs.Step as step
use Rattle.ledger.specs.Outcomes.{answer_unless}
use Rattle.ledger.specs.Answer as answer

pub too_long : (file : List ℕ) (widest highest : ℕ) → max_file < length file → 17 ≡ form_or_size file widest highest
unfolding form_or_size opening_form
too_long file widest highest h = rw (lt-ltb max_file (length file) h)

pub ended-early : (file : List ℕ) (widest highest : ℕ) → length file ≤ max_file → length file < 5 → 14 ≡ form_or_size file widest highest
unfolding form_or_size opening_form
ended-early file widest highest w h = rw (le-ltb max_file (length file) w, lt-ltb (length file) 5 h)

-- an opening whose map byte is there
pub record Headed (file : List ℕ) : Type 0 where
  pub within : length file ≤ max_file
  pub header : 5 ≤ length file

pub extra-bit : (file : List ℕ) (widest highest : ℕ) → Headed file → 128 ≤ opening_map file → 16 ≡ form_or_size file widest highest
unfolding form_or_size opening_form
extra-bit file widest highest g h = rw (le-ltb max_file (length file) g.within, le-ltb (length file) 5 g.header, le-leb _ _ h)

-- the opening as the code reads it, and how many bytes its fields take
pub record Read (file : List ℕ) (columns rows : ℕ) (read : Opening × ℕ) : Type 0 where
  pub headed : Headed file
  pub known : opening_map file < 128
  pub is : read.0 ≡ opening_of file
  pub end : 5 + read.1 ≡ opening_end file
  pub size : (widest highest : ℕ) → ltb widest columns || ltb highest rows ≡ too_large (opening_of file) widest highest

pub read-made : (file : List ℕ) (columns rows : ℕ) (part : List ℕ) (read : Opening × ℕ) → Headed file → opening_map file < 128
    → columns ≡ number_at file 0 2 → rows ≡ number_at file 2 2
    → part ≡ opening_part file → read ≡ (opening_from columns rows (opening_map file) part, size_by (opening_map file) opening_widths) → Read file columns rows read
unfolding opening_of opening_end
read-made file columns rows part read g b c r p e = record { headed = g; known = b; is = rw (e, c, r, p); end = rw e; size = λ widest highest. rw (c, r) }

pub cut_short : {file : List ℕ} {columns rows : ℕ} {read : Opening × ℕ} (widest highest : ℕ) → Read file columns rows read
    → length file < 5 + read.1 → 14 ≡ form_or_size file widest highest
unfolding form_or_size opening_form
cut_short {file = file} widest highest r h = let e = rw r.end at h in rw (le-ltb max_file (length file) r.headed.within, le-ltb (length file) 5 r.headed.header, lt-leb _ _ r.known, lt-ltb _ _ e)

-- by the form alone none, then by the size
pub sized : {file : List ℕ} {columns rows : ℕ} {read : Opening × ℕ} (widest highest : ℕ) (t : Bool) → Read file columns rows read
    → 5 + read.1 ≤ length file → ltb widest columns || ltb highest rows ≡ t
    → cond t 1 0 ≡ form_or_size file widest highest
unfolding form_or_size opening_form
sized {file = file} widest highest t r h e =
    let f = rw r.end at h in
    rw (le-ltb max_file (length file) r.headed.within, le-ltb (length file) 5 r.headed.header, lt-leb _ _ r.known, le-ltb _ _ f, ← r.size widest highest, e)

-- ---- what it leaves

-- the step that an opening's answer makes, which is done or refused
abbrev pub step_by : Answer → ℕ → Step
step_by (answer.Refused number) next = step.Refused number
step_by (answer.Painted n) next = step.Next next
step_by answer.Done next = step.Next next
step_by (answer.Rendered n label_cells) next = step.Next next

opened-step : (n next : ℕ) → step_by (answer_unless n answer.Done) next ≡ step_unless n next
opened-step zero next = refl
opened-step (suc n) next = refl

pub opening-refused : (file : List ℕ) (widest highest : ℕ) (cells labels : List ℕ) (r : Refusal)
    → number_of r ≡ form_or_size file widest highest
    → (record { canvas = zero_canvas; step = step.Refused (number_of r) } ≡ opening_taken file widest highest cells labels) × (cells ≡ (opened_state file widest highest cells labels).cells)
unfolding opening_refusal opened_state
opening-refused file widest highest cells labels r e = go (number_of r) e (some-number r)
  where
    go : (n : ℕ) → n ≡ form_or_size file widest highest → (n ≡ 0 → ⊥)
        → (record { canvas = zero_canvas; step = step.Refused n } ≡ opening_taken file widest highest cells labels) × (cells ≡ (opened_state file widest highest cells labels).cells)
    go zero e some = absurd (some refl)
    go (suc n) e some = rw (← e) (refl, refl)

pub opening-called : (file : List ℕ) (widest highest : ℕ) (cells labels after : List ℕ) (called : Called) (next : Step) (end : ℕ)
    → 0 ≡ form_or_size file widest highest
    → called ≡ open_called (opening_of file) cells (length labels) → after ≡ open_cells (opening_of file) cells (length labels) → next ≡ step_by called.answer end → end ≡ opening_end file
    → (record { canvas = called.canvas; step = next } ≡ opening_taken file widest highest cells labels) × (after ≡ (opened_state file widest highest cells labels).cells)
unfolding opening_refusal opened_state
opening-called file widest highest cells labels after called next end e made a n z = rw (← e) (rw (n, made, opened-step (open_refusal (opening_of file) (length cells) (length labels)) end, z), a)
