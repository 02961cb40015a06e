-- List functions that the definitions use.
use Rattle.std.specs.Prelude.{Bool, cond, List, [], ◌∷◌, ℕ, zero, suc}

-- f done with each element, one after the other
abbrev pub foldl : {A B : Type 0} → (B → A → B) → B → List A → B
foldl f b [] = b
foldl f b (x ∷ xs) = foldl f (f b x) xs

-- the elements that pass the test
abbrev pub keep : {A : Type 0} → (A → Bool) → List A → List A
keep test [] = []
keep test (x ∷ xs) = cond (test x) (x ∷ keep test xs) (keep test xs)

-- a word over another: what the upper one sets, else what the lower one does. A word of 0 sets nothing
abbrev pub over : ℕ → ℕ → ℕ
over zero lower = lower
over (suc upper) lower = suc upper

-- the word of the last element that sets one
abbrev pub last_word : {A : Type 0} → (A → ℕ) → List A → ℕ
last_word word [] = 0
last_word word (x ∷ xs) = over (last_word word xs) (word x)

-- of conditions with their numbers the first one that holds gives its number; 0 where none does
abbrev pub first : List (Bool × ℕ) → ℕ
first [] = 0
first (t ∷ ts) = cond t.0 t.1 (first ts)
