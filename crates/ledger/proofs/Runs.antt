-- A run of words stored one after the other: one more of them, and the words of a label.
use mathlib.Core.Path.{◌≡◌, refl, sym, ap, ◌∙◌}
use mathlib.Core.List.{List, [], ◌∷◌, ◌++◌, append_assoc}
use Prim.Native.Nat.{ℕ, suc, ◌+◌, ◌-◌, ◌≤◌, ◌<◌}
use native.Mathlib.Omega.{arith}
use native.Mathlib.Numerals.{add-one}
use lib.ListN.{length, get_or, set, take, drop, length-take, length-drop}
use lib.Seq.{sets, sets-eq, take-suc, length-take-le, drop-drop}
use Rattle.std.proofs.lemmas.List.{take-append-drop, drop-append-le}
use borrow.Rule.Slice.PartMut.{put_mid, post_of}

sets-snoc : (l : List ℕ) (i : ℕ) (vs : List ℕ) (v : ℕ) → sets l i (vs ++ (v ∷ [])) ≡ set (sets l i vs) (i + length vs) v
sets-snoc l i [] v = let e : i + 0 ≡ i = omega arith in rw e
sets-snoc l i (a ∷ vs) v = let e : i + suc (length vs) ≡ suc i + length vs = omega arith in rw e (sets-snoc (set l i a) (suc i) vs v)

-- one more word of s
pub sets_more : (l : List ℕ) (i : ℕ) (s : List ℕ) (j : ℕ) → j < length s → set (sets l i (take j s)) (i + j) (get_or s j 0) ≡ sets l i (take (j + 1) s)
sets_more l i s j h =
    let n : length (take j s) ≡ j = length-take-le j s (omega arith) in
    rw (add-one, take-suc s j 0 h, sets-snoc l i (take j s) (get_or s j 0), n)

-- in a part of a list, as in the list
sets-in-part : (l : List ℕ) (at n : ℕ) (vs : List ℕ) → at + n ≤ length l → length vs ≤ n → put_mid at n l (sets (take n (drop at l)) 0 vs) ≡ sets l at vs
sets-in-part l at n vs room few =
    let long : length (take n (drop at l)) ≡ n = simp (length-take, length-drop) (omega arith) in
    let rest : drop (length vs) (take n (drop at l)) ++ drop n (drop at l) ≡ drop (at + length vs) l =
    sym (drop-append-le (length vs) (take n (drop at l)) (drop n (drop at l)) (rw long few)) ∙ ap (drop (length vs)) (take-append-drop n (drop at l)) ∙ drop-drop (length vs) at l in
    let zeroth : 0 + length vs ≡ length vs = omega arith in
    let past : post_of at n l ≡ drop n (drop at l) = refl in
    rw (sets-eq vs (take n (drop at l)) 0 (rw long (omega arith)), sets-eq vs l at (omega arith), zeroth, past, ← rest) (simp append_assoc)

-- a label's words: four, and its text
pub sets-label : (l : List ℕ) (at a b c d : ℕ) (s : List ℕ) → at + 44 ≤ length l → length s ≤ 40
    → put_mid at (at + 44 - at) l (sets (set (set (set (set (take (at + 44 - at) (drop at l)) 0 a) 1 b) 2 c) 3 d) 4 s) ≡ sets l at (a ∷ b ∷ c ∷ d ∷ s)
sets-label l at a b c d s room few = let e : at + 44 - at ≡ 44 = omega arith in rw e (sets-in-part l at 44 (a ∷ b ∷ c ∷ d ∷ s) room (omega arith))
