-- What is written for an opening and a list of calls is read back: what is left of the file from a record on is what the calls from there on were written in.
use mathlib.Core.Path.{◌≡◌, refl, sym, ap}
use mathlib.Core.List.{List, [], ◌∷◌, ◌++◌}
use Prim.Native.Nat.{ℕ, zero, suc, ◌+◌, ◌≤◌, ◌<◌}
use native.Mathlib.Omega.{arith}
use lib.ListN.{length, drop, length-append, length-drop}
use lib.Seq.{get_or-drop, drop-drop}
use borrow.Author.Tests.{lt-ltb, le-ltb}
use Rattle.ledger.specs.Calls.{Call}
use Rattle.ledger.specs.declared.state.Opening.{Opening}
use Rattle.ledger.specs.Promise.{Every, cons}
use Rattle.form.specs.Fields.{stands}
use Rattle.form.specs.Forms.{max_file, record_form, record_end, opening_end, opening_form}
use Rattle.records.specs.Records.{record_call}
use Rattle.picture.specs.Opening.{opening_of}
use Rattle.picture.specs.Meaning.{entries_from, calls_of}
use Rattle.picture.specs.Encoding.{record_bytes, records_bytes, file_bytes, WritableOpening, Writable, RoundTrip}
use Rattle.form.proofs.FormSteps.{well-formed}
use Rattle.picture.proofs.ByteLists.{drop_past, get_d-left, number-back, float_back}
use Rattle.picture.proofs.ReadBack.{read_back}
use Rattle.picture.proofs.WrittenBytes.{bytes-file}

-- the record at a place is the call's and of good form, and the rest is left after it
record RecordOf (call : Call) (file : List ℕ) (at : ℕ) (rest : List ℕ) : Type 0 where
  within : at < length file
  form : 0 ≡ record_form file at
  read : record_call file at ≡ call
  further : at < record_end file at
  left : drop (record_end file at) file ≡ rest

record_of : (call : Call) (file : List ℕ) (at : ℕ) (rest : List ℕ) → Writable call → length file ≤ max_file → drop at file ≡ record_bytes call ++ rest → RecordOf call file at rest
unfolding record_call record_end
record_of call file at rest h short e =
    let bytes = record_bytes call in
    let back = read_back call rest h in
    let kind = rw e at (get_d-left file at) in
    let map = rw e at (sym (get_or-drop at file 1 0)) in
    let part = rw e at (sym (drop-drop 2 at file)) in
    let end : record_end file at ≡ at + length bytes = rw (kind, map, part) (omega (arith, back.end)) in
    let long : at + length bytes + length rest ≡ length file = omega (arith, length-drop at file, ap length e, length-append bytes rest) in
    record {
      within = omega arith;
      form = well-formed file at (record { within = short; header = omega arith; known = rw kind back.known }) (rw (kind, map, part) back.standing) (omega arith);
      read = rw (kind, map, part) back.read;
      further = omega arith;
      left = rw end (drop_past file at bytes rest _ refl e);
    }

-- the entries from a place on are the calls that are left, if there is fuel for every byte
calls_back : (fuel : ℕ) (file : List ℕ) (at : ℕ) (calls last : List Call) → Every Writable calls → length file ≤ max_file → length file ≤ at + fuel → drop at file ≡ records_bytes calls
    → calls_of (entries_from fuel file at) last ≡ calls ++ last
unfolding entries_from
calls_back zero file at [] last all short enough e = refl
calls_back (suc fuel) file at [] last all short enough e = rw (le-ltb at (length file) (omega (arith, length-drop at file, ap length e)))
calls_back zero file at (call ∷ calls) last (cons h all) short enough e = absurd (omega (arith, (record_of call file at (records_bytes calls) h short e).within))
calls_back (suc fuel) file at (call ∷ calls) last (cons h all) short enough e =
    let here = record_of call file at (records_bytes calls) h short e in
    let others = calls_back fuel file (record_end file at) calls last all short (omega (arith, here.further)) here.left in
    rw (lt-ltb at (length file) here.within, ← here.form, here.read, others)

-- ---- the opening, every field of which stands

opening-back : (o : Opening) (calls : List Call) → WritableOpening o → opening_of (file_bytes o calls) ≡ o
unfolding opening_of stands
opening-back o calls h =
    let file = file_bytes o calls in
    let part = drop 5 file in
    λ k. record {
      columns = number-back file 0 2 o.columns _ h.0 refl k;
      rows = number-back file 2 2 o.rows _ h.1 refl k;
      bounds = record {
        left = float_back part 0 o.bounds.left _ h.5 refl k;
        right = float_back part 8 o.bounds.right _ h.6 refl k;
        bottom = float_back part 16 o.bounds.bottom _ h.7 refl k;
        top = float_back part 24 o.bounds.top _ h.8 refl k;
      };
      marker = number-back part 32 1 o.marker _ h.2 refl k;
      character = number-back part 33 4 o.character _ h.3 refl k;
      background = number-back part 37 4 o.background _ h.4 refl k;
    }

opening-form : (o : Opening) (calls : List Call) → length (file_bytes o calls) ≤ max_file → opening_form (file_bytes o calls) ≡ 0
unfolding opening_form opening_end stands
opening-form o calls short =
    let file = file_bytes o calls in
    rw (le-ltb max_file (length file) short, le-ltb (length file) 5 (omega arith), le-ltb (length file) (opening_end file) (omega arith))

opening-left : (o : Opening) (calls : List Call) → drop (opening_end (file_bytes o calls)) (file_bytes o calls) ≡ records_bytes calls
unfolding opening_end stands
opening-left o calls = refl

pub round_trip : RoundTrip
round_trip = record {
  bytes = bytes-file;
  form = opening-form;
  opening = opening-back;
  calls = λ o calls last all short. calls_back (length (file_bytes o calls)) (file_bytes o calls) _ calls last all short (omega arith) (opening-left o calls);
}
