-- The label store: 44 words a label. Its column + 1, or 0 where it is outside the bounds; its row; its colour's word; its length; 40 bytes.
use Rattle.std.specs.Prelude.{ℕ, zero, suc, ◌+◌, ◌*◌, min, List, [], ◌∷◌, ◌++◌, length, get_or, Option, Some, None}
use Rattle.std.proofs.lemmas.List.Edits.{sets}
use Rattle.view.specs.Limits.{max_text, label_words}
use Rattle.ledger.specs.Screen.{Placed}

abbrev pub column_word : Option (ℕ × ℕ) → ℕ
column_word None = 0
column_word (Some (column, row)) = suc column

abbrev pub row_word : Option (ℕ × ℕ) → ℕ
row_word None = 0
row_word (Some (column, row)) = row

abbrev pub place_of : ℕ → ℕ → Option (ℕ × ℕ)
place_of zero row = None
place_of (suc column) row = Some (column, row)

-- n words from the place i on
abbrev pub words_from : List ℕ → ℕ → ℕ → List ℕ
words_from labels i zero = []
words_from labels i (suc n) = get_or labels i 0 ∷ words_from labels (suc i) n

-- the label k; 'a stored label length above 40' is read 'as 40'
unfoldable pub label_at : List ℕ → ℕ → Placed
label_at labels k = record {
  place = place_of (get_or labels (k * label_words) 0) (get_or labels (k * label_words + 1) 0);
  word = get_or labels (k * label_words + 2) 0;
  text = words_from labels (k * label_words + 4) (min max_text (get_or labels (k * label_words + 3) 0));
}

unfoldable pub put_label : List ℕ → ℕ → Placed → List ℕ
put_label labels k l = sets labels (k * label_words) (column_word l.place ∷ row_word l.place ∷ l.word ∷ length l.text ∷ l.text)

-- the first n labels
abbrev pub held_labels : List ℕ → ℕ → List Placed
held_labels labels zero = []
held_labels labels (suc n) = held_labels labels n ++ (label_at labels n ∷ [])
