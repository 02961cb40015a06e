-- A label that is put into the store is read back, and those before it stay: by the words that a run of stores leaves and sets.
use mathlib.Core.Path.{◌≡◌, refl, ap, ap₂, ◌∙◌}
use mathlib.Core.List.{List, [], ◌∷◌, ◌++◌, head-eq_of_cons-eq, tail-eq_of_cons-eq}
use Prim.Native.Nat.{ℕ, zero, suc, ◌+◌, ◌*◌, ◌≤◌, ◌<◌, min}
use native.Mathlib.Numerals.{add-one, add-two, add-three, add-four}
use native.Mathlib.Omega.{arith}
use lib.ListN.{get_or, length, set, length-set}
use lib.Seq.{sets, length-sets, get_or-set_same, get_or-set_other}
use Rattle.std.specs.Prelude.{Option, Some, None}
use Rattle.ledger.specs.Screen.{Placed}
use Rattle.ledger.specs.Labels.{column_word, row_word, place_of, words_from, label_at, put_label, held_labels}

place-of-words : (f : Option (ℕ × ℕ)) → place_of (column_word f) (row_word f) ≡ f
place-of-words (Some (column, row)) = refl
place-of-words None = refl

-- ---- a run of stores
sets-before : (values words : List ℕ) (i j : ℕ) → j < i → get_or (sets words i values) j 0 ≡ get_or words j 0
sets-before [] words i j h = refl
sets-before (v ∷ values) words i j h = sets-before values (set words i v) (suc i) j (omega arith) ∙ get_or-set_other words i j v 0 (omega arith)

words-of-sets : (values words : List ℕ) (i : ℕ) → i + length values ≤ length words → words_from (sets words i values) i (length values) ≡ values
words-of-sets [] words i h = refl
words-of-sets (v ∷ values) words i h =
    let first : get_or (sets (set words i v) (suc i) values) i 0 ≡ v = sets-before values (set words i v) (suc i) i (omega arith) ∙ get_or-set_same words i v 0 (omega arith) in
    let others = words-of-sets values (set words i v) (suc i) (rw length-set (omega arith)) in
    λ k. first k ∷ others k

words-before : (values words : List ℕ) (i j n : ℕ) → j + n ≤ i → words_from (sets words i values) j n ≡ words_from words j n
words-before values words i j zero h = refl
words-before values words i j (suc n) h =
    let first = sets-before values words i j (omega arith) in
    let others = words-before values words i (suc j) n (omega arith) in
    λ k. first k ∷ others k

-- ---- a label put
abbrev label_line : Placed → List ℕ
label_line l = column_word l.place ∷ row_word l.place ∷ l.word ∷ length l.text ∷ l.text

pub length-put-label : (labels : List ℕ) (k : ℕ) (l : Placed) → length (put_label labels k l) ≡ length labels
unfolding put_label
length-put-label labels k l = length-sets labels (k * 44) (label_line l)

label-put-same : (labels : List ℕ) (k : ℕ) (l : Placed) → k * 44 + 44 ≤ length labels → length l.text ≤ 40 → label_at (put_label labels k l) k ≡ l
unfolding label_at put_label
label-put-same labels k l room short =
    let after : List ℕ = sets labels (k * 44) (label_line l) in
    let w : words_from after (k * 44) (length (label_line l)) ≡ label_line l = words-of-sets (label_line l) labels (k * 44) (omega arith) in
    let w₁ = tail-eq_of_cons-eq w in
    let w₂ = tail-eq_of_cons-eq w₁ in
    let w₃ = tail-eq_of_cons-eq w₂ in
    let column : get_or after (k * 44) 0 ≡ column_word l.place = head-eq_of_cons-eq w in
    let row : get_or after (k * 44 + 1) 0 ≡ row_word l.place = rw add-one (head-eq_of_cons-eq w₁) in
    let word : get_or after (k * 44 + 2) 0 ≡ l.word = rw add-two (head-eq_of_cons-eq w₂) in
    let size : get_or after (k * 44 + 3) 0 ≡ length l.text = rw add-three (head-eq_of_cons-eq w₃) in
    let read : min 40 (get_or after (k * 44 + 3) 0) ≡ length l.text = omega arith in
    let text : words_from after (k * 44 + 4) (min 40 (get_or after (k * 44 + 3) 0)) ≡ l.text = ap (words_from after (k * 44 + 4)) read ∙ rw add-four (tail-eq_of_cons-eq w₃) in
    let place : place_of (get_or after (k * 44) 0) (get_or after (k * 44 + 1) 0) ≡ l.place = ap₂ place_of column row ∙ place-of-words l.place in
    λ i. record { place = place i; word = word i; text = text i }

label-put-before : (labels : List ℕ) (k j : ℕ) (l : Placed) → j < k → label_at (put_label labels k l) j ≡ label_at labels j
unfolding label_at put_label
label-put-before labels k j l h =
    let after : List ℕ = sets labels (k * 44) (label_line l) in
    let kept : (i : ℕ) → i < k * 44 → get_or after i 0 ≡ get_or labels i 0 = sets-before (label_line l) labels (k * 44) in
    let place = ap₂ place_of (kept (j * 44) (omega arith)) (kept (j * 44 + 1) (omega arith)) in
    let word = kept (j * 44 + 2) (omega arith) in
    let size = kept (j * 44 + 3) (omega arith) in
    let text : words_from after (j * 44 + 4) (min 40 (get_or after (j * 44 + 3) 0)) ≡ words_from labels (j * 44 + 4) (min 40 (get_or labels (j * 44 + 3) 0))
    = ap (λ (n : ℕ). words_from after (j * 44 + 4) (min 40 n)) size ∙ words-before (label_line l) labels (k * 44) (j * 44 + 4) (min 40 (get_or labels (j * 44 + 3) 0)) (omega arith) in
    λ i. record { place = place i; word = word i; text = text i }

-- ---- the labels held
held-put-before : (labels : List ℕ) (k : ℕ) (l : Placed) (n : ℕ) → n ≤ k → held_labels (put_label labels k l) n ≡ held_labels labels n
held-put-before labels k l zero h = refl
held-put-before labels k l (suc n) h =
    ap₂ (λ (held : List Placed) (one : Placed). held ++ (one ∷ [])) (held-put-before labels k l n (omega arith)) (label-put-before labels k n l h)

pub held-put : (labels : List ℕ) (n : ℕ) (l : Placed) → n * 44 + 44 ≤ length labels → length l.text ≤ 40 → held_labels (put_label labels n l) (suc n) ≡ held_labels labels n ++ (l ∷ [])
held-put labels n l room short =
    ap₂ (λ (held : List Placed) (one : Placed). held ++ (one ∷ [])) (held-put-before labels n l n (omega arith)) (label-put-same labels n l room short)
