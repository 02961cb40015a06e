-- The calls that a picture file stands for, by its bytes alone.
use Rattle.std.specs.Prelude.{ℕ, zero, suc, cond, List, [], ◌∷◌, ltb, length}
use Rattle.ledger.specs.Calls.{Call}
use Rattle.form.specs.Forms.{opening_end, record_end, record_form}
use Rattle.records.specs.Records.{record_call}

-- the records one after the other, each with the place of its first byte, to the end of the file or to a record that breaks the form, with its number
pub data Entries : Type 0 where
  end : ℕ → Entries
  broken : ℕ → ℕ → Entries
  entry : ℕ → Call → Entries → Entries

abbrev pub entry_unless : ℕ → ℕ → Call → Entries → Entries
entry_unless zero at call rest = entry at call rest
entry_unless (suc number) at call rest = broken at (suc number)

-- at most n records from a place on
unfoldable pub entries_from : ℕ → List ℕ → ℕ → Entries
entries_from zero file at = end (length file)
entries_from (suc n) file at =
    cond (ltb at (length file)) (entry_unless (record_form file at) at (record_call file at) (entries_from n file (record_end file at))) (end (length file))

abbrev pub entries_of : List ℕ → Entries
entries_of file = entries_from (length file) file (opening_end file)

-- the calls, followed by a last one where no record breaks the form
abbrev pub calls_of : Entries → List Call → List Call
calls_of (end at) last = last
calls_of (broken at number) last = []
calls_of (entry at call rest) last = call ∷ calls_of rest last
