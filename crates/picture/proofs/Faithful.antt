-- What a whole file comes to is what the ledger says of its calls: record by record the run and the judged replies go the same way, by induction on the number of records,
-- and canvas' promise turns the replies into the ledger's.
use mathlib.Core.Path.{◌≡◌, refl, sym, ap, ◌∙◌}
use mathlib.Core.Bool.{Bool, true, false, cond}
use mathlib.Core.List.{List, [], ◌∷◌}
use Prim.Native.Nat.{ℕ, zero, suc, ◌+◌, ◌≤◌}
use native.Mathlib.Omega.{arith}
use lib.Dec.{ltb}
use lib.ListN.{length}
use borrow.Author.Tests.{le-ltb}
use Rattle.ledger.specs.Screen.{cell_on}
use Rattle.ledger.specs.Calls.{Call, draw, points, dot, layer, marker, print, render, open_refusal}
use Rattle.ledger.specs.declared.state.Opening.{Opening}
use Rattle.ledger.specs.Ledger.{opened, Reply, unless, reply_unless, ledger_replies}
use Rattle.ledger.specs.Model.{State, or_refusal, refusal_on, accepted_on, reply_on, screen_after, state_after, reply_after, replies}
use Rattle.ledger.specs.Outcomes.{accepted_answer, answer_unless, answer_on, reply_of}
use Rattle.ledger.specs.Promise.{open_state}
use Rattle.ledger.specs.declared.screen.Area.{Area}
use Rattle.ledger.specs.Answer.{Answer}
use Rattle.ledger.specs.Answer as answer
use Rattle.ledger.proofs.CallSteps.{or-none}
use Rattle.ledger.proofs.Promise.{promise}
use Rattle.picture.specs.Opening.{opening_of}
use Rattle.form.specs.Forms.{opening_end, record_end, record_form}
use Rattle.records.specs.Records.{record_call}
use Rattle.picture.specs.Run.{form_or_size, opening_refusal, opened_state, Ended, run_from, records_from, Picture, area_of, drawn_of, picture_by, ended, picture_of}
use Rattle.records.specs.Steps.{refusal_at, record_state}
use Rattle.picture.specs.Meaning.{Entries, end, entry, entry_unless, entries_from, entries_of, calls_of}
use Rattle.picture.specs.Faithful.{Result, last_call, judged_last, judged, result_of, Faithful}
use Rattle.picture.specs.Stop.{Stop}
use Rattle.picture.specs.Stop as stop
use Rattle.picture.specs.Drawn as drawn
use Rattle.picture.proofs.RunSteps.{further}

-- ---- the canvas keeps the opening's size

abbrev Sized : Opening → State → Type 0
Sized o s = (s.canvas.columns ≡ o.columns) × (s.canvas.rows ≡ o.rows)

accepted-sized : (o : Opening) (s : State) (c : Call) → Sized o s → Sized o (accepted_on s c)
accepted-sized o s (draw shape colour) h = h
accepted-sized o s (points pairs colour) h = h
accepted-sized o s (dot column row colour) h = h
accepted-sized o s layer h = h
accepted-sized o s (marker number character) h = h
accepted-sized o s (print x y text choice) h = h
accepted-sized o s (render area words) h = h

after-sized : (o : Opening) (s : State) (c : Call) → Sized o s → Sized o (state_after s c)
unfolding state_after
after-sized o s c h = go (refusal_on s c)
  where
    go : (k : ℕ) → Sized o (unless k s (accepted_on s c))
    go zero = accepted-sized o s c h
    go (suc k) = h

open-sized : (o : Opening) (cells labels : List ℕ) → open_refusal o (length cells) (length labels) ≡ 0 → Sized o (open_state o cells labels)
open-sized o cells labels e = (rw e, rw e)

-- ---- a reply judged: the last one as the render's answer, an accepted record's by the rest

drawn-as-judged : (a : Answer) (place : ℕ) (screen : List ℕ) → result_of (drawn_of a place) screen ≡ judged_last place (reply_of a (cell_on screen) ∷ [])
drawn-as-judged (answer.Refused number) place screen = refl
drawn-as-judged (answer.Painted n) place screen = refl
drawn-as-judged answer.Done place screen = refl
drawn-as-judged (answer.Rendered n label_cells) place screen = refl

accepted-judged : (s : State) (c : Call) (at : ℕ) (rest : Entries) (rs : List Reply) → judged (entry at c rest) (reply_on s c ∷ rs) ≡ judged rest rs
accepted-judged s (draw shape colour) at rest rs = refl
accepted-judged s (points pairs colour) at rest rs = refl
accepted-judged s (dot column row colour) at rest rs = refl
accepted-judged s layer at rest rs = refl
accepted-judged s (marker number character) at rest rs = refl
accepted-judged s (print x y text choice) at rest rs = refl
accepted-judged s (render area words) at rest rs = refl

-- ---- what a run and the screen come to, and what the replies from the same state are judged

module _ (file screen : List ℕ) where
  abbrev comes_to : Ended → Result
  comes_to run = result_of (picture_by run.stop run.state (length file) screen).drawn (picture_by run.stop run.state (length file) screen).screen

  abbrev judged_from : Opening → State → Entries → Result
  judged_from o s entries = judged entries (replies s (calls_of entries (last_call o screen ∷ [])))

  end-judged : (o : Opening) (s : State) → Sized o s → comes_to (record { state = s; stop = stop.End }) ≡ judged_from o s (end (length file))
  end-judged o s sized =
      let last : Call = render (area_of s.canvas) screen in
      drawn-as-judged (answer_on s last) (length file) _ ∙ ap (λ (r : Reply). judged_last (length file) (r ∷ [])) (sym (promise.answers s last))
      ∙ ap (λ (a : Area). judged_last (length file) (reply_after s (render a screen) ∷ [])) (λ i. record { columns = sized.0 i; rows = sized.1 i; x = 0; y = 0 })

  -- a record: its form, then its call, then the run of the rest
  record-judged : (o : Opening) (s : State) (at : ℕ) (c : Call) (rest : Entries) (run : State → Ended) → comes_to (run (state_after s c)) ≡ judged_from o (state_after s c) rest → (form : ℕ)
      → comes_to (unless (or_refusal form (refusal_on s c)) (record { state = s; stop = stop.Refused (or_refusal form (refusal_on s c)) at }) (run (unless form s (state_after s c))))
      ≡ judged_from o s (entry_unless form at c rest)
  unfolding reply_after
  record-judged o s at c rest run same (suc number) = refl
  record-judged o s at c rest run same zero = go (refusal_on s c)
    where
      go : (k : ℕ) → comes_to (unless k (record { state = s; stop = stop.Refused k at }) (run (state_after s c)))
          ≡ judged (entry at c rest) (reply_unless k (reply_on s c) ∷ replies (state_after s c) (calls_of rest (last_call o screen ∷ [])))
      go zero = same ∙ sym (accepted-judged s c at rest _)
      go (suc k) = refl

  records-judged : (n at : ℕ) (o : Opening) (s : State) → Sized o s → comes_to (run_from n file at s) ≡ judged_from o s (entries_from n file at)
  unfolding run_from entries_from refusal_at record_state
  records-judged zero at o s sized = end-judged o s sized
  records-judged (suc n) at o s sized =
      go (ltb at (length file)) _ _
      (record-judged o s at c (entries_from n file next) (run_from n file next) (records-judged n next o (state_after s c) (after-sized o s c sized)) (record_form file at))
    where
      c : Call
      c = record_call file at

      next : ℕ
      next = record_end file at

      go : (more : Bool) (run : Ended) (entries : Entries) → comes_to run ≡ judged_from o s entries
          → comes_to (cond more run (record { state = s; stop = stop.End })) ≡ judged_from o s (cond more entries (end (length file)))
      go true run entries same = same
      go false run entries same = end-judged o s sized

-- ---- a refused file leaves the screen: what is shown is no refusal

kept_by : (run : Ended) (place : ℕ) (screen : List ℕ) (number at : ℕ) → (picture_by run.stop run.state place screen).drawn ≡ drawn.Refused number at
    → (picture_by run.stop run.state place screen).screen ≡ screen
unfolding answer_on
kept_by run place screen number at = by-stop run.stop
  where
    last : Call
    last = render (area_of run.state.canvas) screen

    by-refusal : (k : ℕ) → drawn_of (answer_unless k (accepted_answer run.state last)) place ≡ drawn.Refused number at
        → unless k screen (screen_after run.state (area_of run.state.canvas) screen) ≡ screen
    by-refusal zero e = cc
    by-refusal (suc k) e = refl

    by-stop : (how : Stop) → (picture_by how run.state place screen).drawn ≡ drawn.Refused number at → (picture_by how run.state place screen).screen ≡ screen
    by-stop (stop.Refused k there) e = refl
    by-stop stop.End e = by-refusal (refusal_on run.state last) e

-- ---- a whole file

module _ (file : List ℕ) (widest highest : ℕ) (cells labels screen : List ℕ) where
  abbrev refused_by : ℕ
  refused_by = opening_refusal file widest highest (length cells) (length labels)

  abbrev whole : Picture
  whole = picture_of file widest highest cells labels screen

  opening-refused : (refused_by ≡ 0 → ⊥) → whole.drawn ≡ drawn.Refused refused_by 0
  unfolding picture_of ended
  opening-refused = go refused_by _ _
    where
      go : (k : ℕ) (s : State) (run : Ended) → (k ≡ 0 → ⊥)
          → (picture_by (unless k (record { state = s; stop = stop.Refused k 0 }) run).stop (unless k (record { state = s; stop = stop.Refused k 0 }) run).state (length file) screen).drawn
          ≡ drawn.Refused k 0
      go zero s run some = absurd (some refl)
      go (suc k) s run some = refl

  -- an accepted opening: the records are run from the state that canvas' opening leaves
  opening-accepted : refused_by ≡ 0 → (form_or_size file widest highest ≡ 0) × (open_refusal (opening_of file) (length cells) (length labels) ≡ 0)
  unfolding opening_refusal
  opening-accepted e = or-none (form_or_size file widest highest) _ e

  ended-as-run : refused_by ≡ 0 → ended file widest highest cells labels ≡ records_from file (opening_end file) (open_state (opening_of file) cells labels)
  unfolding ended opened_state
  ended-as-run e = rw (e, (opening-accepted e).0)

  file-judged : refused_by ≡ 0 → result_of whole.drawn whole.screen
      ≡ judged (entries_of file) (ledger_replies (opening_of file) (opened (opening_of file)) (calls_of (entries_of file) (last_call (opening_of file) screen ∷ [])))
  unfolding picture_of
  file-judged e =
      let o : Opening = opening_of file in
      let accepted : open_refusal o (length cells) (length labels) ≡ 0 = (opening-accepted e).1 in
      ap (comes_to file screen) (ended-as-run e) ∙ records-judged file screen (length file) (opening_end file) o (open_state o cells labels) (open-sized o cells labels accepted)
      ∙ ap (judged (entries_of file)) (promise.ledger o cells labels accepted (calls_of (entries_of file) (last_call o screen ∷ [])))

  refused-kept : (number at : ℕ) → whole.drawn ≡ drawn.Refused number at → whole.screen ≡ screen
  unfolding picture_of
  refused-kept = kept_by (ended file widest highest cells labels) (length file) screen

-- ---- fuel for every byte that is left is enough

enough : (n m : ℕ) (file : List ℕ) (at : ℕ) → length file ≤ n + at → length file ≤ m + at → entries_from n file at ≡ entries_from m file at
unfolding entries_from
enough zero zero file at h k = refl
enough zero (suc m) file at h k = rw (le-ltb at (length file) (omega (arith, h)))
enough (suc n) zero file at h k = rw (le-ltb at (length file) (omega (arith, k)))
enough (suc n) (suc m) file at h k = rw (enough n m file (record_end file at) (omega (arith, further file at, h)) (omega (arith, further file at, k)))

pub faithful : Faithful
faithful = record {
  opening = opening-refused;
  ledger = file-judged;
  kept = refused-kept;
  whole = λ file n at h. enough n (length file) file at h (omega arith);
}
