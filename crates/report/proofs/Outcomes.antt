-- What a file of at most 65,536 bytes comes to: cells in their ranges, or a refusal that a file can meet and that is not 17.
-- By induction on the records, of which each has at least two bytes, so that the draws stay below 65,535.
use Prim.Native.Nat.{ℕ, zero, suc, ◌+◌, ◌-◌, ◌*◌, ◌^◌, ◌≤◌, ◌<◌}
use mathlib.Core.Path.{◌≡◌, refl, sym, ap, ◌∙◌}
use mathlib.Core.Bool.{Bool, true, false, cond, not, ◌&&◌, ◌||◌}
use mathlib.Core.List.{List, [], ◌∷◌}
use native.Mathlib.Omega.{arith}
use lib.Dec.{eqb, ltb, leb}
use lib.ListN.{length}
use borrow.Author.Tests.{ltb-false, le-ltb, lt-leb, eq-eqb, ne_eqb, not-false}
use Rattle.grids.specs.Markers.{is_marker}
use Rattle.grids.proofs.Cases.{either, cond-none}
use Rattle.view.specs.Limits.{reset, max_draws, max_pairs, max_labels, screen_words}
use Rattle.ledger.specs.Calls.{Call, draw, points, dot, layer, marker, print, render, bad_size, bad_bounds, bad_colour, bad_shape, bad_pairs, bad_point, bad_choice, bad_text, outside_grid, refusal}
use Rattle.ledger.specs.declared.state.Opening.{Opening}
use Rattle.ledger.specs.Ledger.{Ledger, layers, opened, refusal_in, accepted, Reply, reply, reply_unless, unless, ledger_after, ledger_reply, ledger_replies}
use Rattle.ledger.specs.Model.{or_refusal}
use Rattle.form.specs.Forms.{max_file, opening_map, opening_end, opening_form, kind_at, map_at, is_unknown, record_widths, record_end, record_form}
use Rattle.form.proofs.FormSteps.{formed}
use Rattle.records.specs.Records.{call_of, record_call}
use Rattle.picture.specs.Opening.{opening_of}
use Rattle.picture.specs.Run.{too_large, form_or_size}
use Rattle.picture.specs.Meaning.{Entries, end, broken, entry, entry_unless, entries_from, entries_of, calls_of}
use Rattle.picture.specs.Faithful.{Result, refused_at, shown_as, last_call, judged}
use Rattle.report.specs.Program.{opening_fault, fault, blank, ledger_result, result_in, is_met}
use Rattle.report.proofs.Blank.{length-blank}
use Rattle.report.proofs.FromBytes.{no-fault}
use Rattle.report.proofs.Ranges.{GoodCell, GoodLedger, screen-good, opened-good, layers-good, accepted-good}

-- ---- refusals: none, or one that a file of at most 65,536 bytes can meet

abbrev pub is_met_short : ℕ → Bool
is_met_short n = is_met n && not (eqb n 17)

abbrev Fine : ℕ → Type 0
Fine n = (eqb n 0 || is_met_short n) ≡ true

fine-met : (k : ℕ) → Fine (suc k) → is_met_short (suc k) ≡ true
fine-met k h = rw (ne_eqb (suc k) 0 (λ e. omega arith)) at h

or-fine : (a b : ℕ) → Fine a → Fine b → Fine (or_refusal a b)
or-fine zero b h k = k
or-fine (suc a) b h k = h

module _ (file : List ℕ) (short : length file ≤ max_file) where
  opening-form-fine : Fine (opening_form file)
  unfolding opening_form
  opening-form-fine =
      rw (le-ltb max_file (length file) short)
      (either Fine (ltb (length file) 5) refl (either Fine (leb 128 (opening_map file)) refl (either Fine (ltb (length file) (opening_end file)) refl refl)))

  opening-fine : (columns rows : ℕ) → Fine (fault columns rows file)
  unfolding fault form_or_size opening_fault
  opening-fine columns rows =
      let o = opening_of file in
      or-fine (form_or_size file columns rows) (opening_fault o) (or-fine (opening_form file) _ opening-form-fine (either Fine (too_large o columns rows) refl refl))
      (either Fine (bad_size o.columns o.rows) refl (either Fine (bad_bounds o.bounds) refl (either Fine (bad_colour o.background) refl (either Fine (not (is_marker o.marker o.character)) refl refl))))

  form-fine : (at : ℕ) → Fine (record_form file at)
  unfolding record_form
  form-fine at =
      rw (le-ltb max_file (length file) short)
      (either Fine (ltb (length file) (at + 2)) refl
      (either Fine (is_unknown (kind_at file at)) refl
      (either Fine (leb (2 ^ length (record_widths file at)) (map_at file at)) refl (either Fine (ltb (length file) (record_end file at)) refl refl))))

-- a record is no render
abbrev NoRender : Call → Type 0
NoRender (draw shape colour) = Unit {0}
NoRender (points pairs colour) = Unit {0}
NoRender (dot column row colour) = Unit {0}
NoRender layer = Unit {0}
NoRender (marker m character) = Unit {0}
NoRender (print x y text choice) = Unit {0}
NoRender (render area words) = ⊥

record-no-render : (file : List ℕ) (at : ℕ) → NoRender (record_call file at)
unfolding record_call call_of
record-no-render file at =
    let kind = kind_at file at in
    either NoRender (eqb kind 1) tt
    (either NoRender (eqb kind 2) tt
    (either NoRender (eqb kind 3) tt
    (either NoRender (eqb kind 4) tt
    (either NoRender (eqb kind 5) tt (either NoRender (eqb kind 7) tt (either NoRender (eqb kind 8) tt (either NoRender (eqb kind 9) tt tt)))))))

-- 7 is the one refusal of the draws that are held
call-fine : (o : Opening) (held n m : ℕ) (c : Call) → NoRender c → held < max_draws → Fine (refusal o held n m c)
unfolding refusal
call-fine o held n m (draw shape colour) h few = rw (lt-leb max_draws held few) (either Fine (bad_shape shape) refl (either Fine (bad_colour colour) refl refl))
call-fine o held n m (points pairs colour) h few =
    rw (lt-leb max_draws held few) (either Fine (bad_pairs pairs) refl (either Fine (bad_colour colour) refl (either Fine (ltb max_pairs (length pairs)) refl refl)))
call-fine o held n m (dot column row colour) h few =
    rw (lt-leb max_draws held few) (either Fine (bad_colour colour) refl (either Fine (outside_grid m o.columns o.rows column row) refl refl))
call-fine o held n m layer h few = refl
call-fine o held n m (marker number character) h few = either Fine (not (is_marker number character)) refl refl
call-fine o held n m (print x y text choice) h few =
    either Fine (bad_point x y) refl (either Fine (bad_choice choice) refl (either Fine (bad_text text) refl (either Fine (leb max_labels n) refl refl)))
call-fine o held n m (render area words) h few = absurd h

-- ---- the records of a file

abbrev GoodEntries : Entries → Type 0
GoodEntries (end place) = Unit {0}
GoodEntries (broken at number) = is_met_short number ≡ true
GoodEntries (entry at c rest) = NoRender c × GoodEntries rest

entries-good : (n : ℕ) (file : List ℕ) (at : ℕ) → length file ≤ max_file → GoodEntries (entries_from n file at)
unfolding entries_from
entries-good zero file at short = tt
entries-good (suc n) file at short =
    either GoodEntries (ltb at (length file)) (go (record_form file at) (form-fine file short at) _ (entries-good n file (record_end file at) short)) tt
  where
    go : (k : ℕ) → Fine k → (rest : Entries) → GoodEntries rest → GoodEntries (entry_unless k at (record_call file at) rest)
    go zero h rest g = (record-no-render file at, g)
    go (suc k) h rest g = fine-met k h

-- how many calls they stand for
abbrev count_of : Entries → ℕ
count_of (end place) = 0
count_of (broken at number) = 0
count_of (entry at c rest) = suc (count_of rest)

-- 'kind, bit map': two bytes at the least
end_after : (file : List ℕ) (at : ℕ) → at + 2 ≤ record_end file at
unfolding record_end
end_after file at = omega arith

few-entries : (n : ℕ) (file : List ℕ) (at : ℕ) → count_of (entries_from n file at) * 2 ≤ length file - at
unfolding entries_from
few-entries zero file at = omega arith
few-entries (suc n) file at =
    either (λ (e : Entries). count_of e * 2 ≤ length file - at) (ltb at (length file))
    (go (record_form file at) refl (entries_from n file (record_end file at)) (few-entries n file (record_end file at))) (omega arith)
  where
    go : (k : ℕ) → record_form file at ≡ k → (rest : Entries) → count_of rest * 2 ≤ length file - record_end file at
        → count_of (entry_unless k at (record_call file at) rest) * 2 ≤ length file - at
    go zero e rest h = omega (arith, (formed file at (sym e)).header, end_after file at, h)
    go (suc k) e rest h = omega arith

-- ---- what the replies to a file's calls come to

abbrev pub GoodResult : Result → Type 0
GoodResult (refused_at number place) = is_met_short number ≡ true
GoodResult (shown_as cells painted) = (k : ℕ) → GoodCell (cells k)

module _ (o : Opening) (background : o.background ≤ reset) where
  abbrev ending : Call
  ending = last_call o (blank (o.columns * o.rows))

  -- the render is accepted
  ending-accepted : (l : Ledger) → l.closed ≡ false → refusal_in o l ending ≡ 0
  unfolding refusal
  ending-accepted l e =
      rw (
        e,
        le-ltb o.columns (0 + o.columns) (omega arith),
        le-ltb o.rows (0 + o.rows) (omega arith),
        eq-eqb (length (blank (o.columns * o.rows))) (o.columns * o.rows * screen_words) (length-blank (o.columns * o.rows)),
      )

  stays_open : (l : Ledger) (c : Call) → NoRender c → l.closed ≡ false → (accepted o l c).closed ≡ false
  stays_open l (draw shape colour) h e = e
  stays_open l (points pairs colour) h e = e
  stays_open l (dot column row colour) h e = e
  stays_open l layer h e = e
  stays_open l (marker m character) h e = e
  stays_open l (print x y text choice) h e = e
  stays_open l (render a words) h e = absurd h

  one-draw-more : (l : Ledger) (c : Call) → (accepted o l c).draws ≤ suc l.draws
  one-draw-more l (draw shape colour) = omega arith
  one-draw-more l (points pairs colour) = omega arith
  one-draw-more l (dot column row colour) = omega arith
  one-draw-more l layer = omega arith
  one-draw-more l (marker m character) = omega arith
  one-draw-more l (print x y text choice) = omega arith
  one-draw-more l (render a words) = omega arith

  replied-good : (at : ℕ) (rest : Entries) (l : Ledger) (c : Call) (rs : List Reply) → GoodResult (judged rest rs) → GoodResult (judged (entry at c rest) (reply o l c ∷ rs))
  replied-good at rest l (draw shape colour) rs h = h
  replied-good at rest l (points pairs colour) rs h = h
  replied-good at rest l (dot column row colour) rs h = h
  replied-good at rest l layer rs h = h
  replied-good at rest l (marker m character) rs h = h
  replied-good at rest l (print x y text choice) rs h = h
  replied-good at rest l (render a words) rs h = h

  -- with so many calls to come
  abbrev Kept : Ledger → ℕ → Type 0
  Kept l left = GoodLedger l × (l.closed ≡ false) × (l.draws + left ≤ max_draws)

  entry-good : (at : ℕ) (rest : Entries) (l : Ledger) (c : Call) → NoRender c → Kept l (suc (count_of rest))
      → ((after : Ledger) → Kept after (count_of rest) → GoodResult (judged rest (ledger_replies o after (calls_of rest (ending ∷ [])))))
      → (k : ℕ) → refusal_in o l c ≡ k → GoodResult (judged (entry at c rest) (reply_unless k (reply o l c) ∷ ledger_replies o (unless k l (accepted o l c)) (calls_of rest (ending ∷ []))))
  entry-good at rest l c r g ih zero e =
      replied-good at rest l c _
      (ih (accepted o l c) (accepted-good o l g.0 c (cond-none l.closed 5 _ e).1, stays_open l c r g.1, omega (arith, one-draw-more l c, g.2)))
  entry-good at rest l c r g ih (suc k) e =
      let own = refusal o l.draws (length l.labels) l.last.marker c in
      let same : own ≡ suc k = sym (ap (λ (b : Bool). cond b 6 own) g.1) ∙ e in
      fine-met k (rw same at (call-fine o l.draws (length l.labels) l.last.marker c r (omega (arith, g.2))))

  judged-good : (entries : Entries) → GoodEntries entries → (l : Ledger) → Kept l (count_of entries) → GoodResult (judged entries (ledger_replies o l (calls_of entries (ending ∷ []))))
  unfolding ledger_reply ledger_after
  judged-good (end place) h l g = rw (ending-accepted l g.1) (λ (j : ℕ). screen-good o (layers l) l.labels _ (o.columns * o.rows) j background (layers-good l g.0) g.0.2)
  judged-good (broken at number) h l g = h
  judged-good (entry at c rest) h l g = entry-good at rest l c h.0 g (judged-good rest h.1) (refusal_in o l c) refl

-- ---- a whole file

good-opening : (o : Opening) → opening_fault o ≡ 0 → (o.background ≤ reset) × (is_marker o.marker o.character ≡ true)
unfolding opening_fault
good-opening o e =
    let e₁ = cond-none (bad_size o.columns o.rows) 0 _ e in
    let e₂ = cond-none (bad_bounds o.bounds) 1 _ e₁.1 in
    let e₃ = cond-none (bad_colour o.background) 2 _ e₂.1 in
    let e₄ = cond-none (not (is_marker o.marker o.character)) 3 _ e₃.1 in
    (ltb-false reset o.background e₃.0, not-false _ e₄.0)

replies-good : (file : List ℕ) → length file ≤ max_file → opening_fault (opening_of file) ≡ 0 → GoodResult (ledger_result file)
replies-good file short e =
    let o = opening_of file in
    let h = good-opening o e in
    let few = few-entries (length file) file (opening_end file) in
    judged-good o h.0 (entries_of file) (entries-good (length file) file (opening_end file) short) (opened o) (opened-good o h.1, refl, omega (arith, few, short))

pub result-good : (columns rows : ℕ) (file : List ℕ) → length file ≤ max_file → GoodResult (result_in columns rows file)
unfolding result_in
result-good columns rows file short = go (fault columns rows file) refl
  where
    go : (k : ℕ) → fault columns rows file ≡ k → GoodResult (unless k (refused_at k 0) (ledger_result file))
    go zero e = replies-good file short (no-fault file columns rows e).1
    go (suc k) e = fine-met k (rw e at (opening-fine file short columns rows))
