-- Laws of `tabulate`.
use Rattle.std.proofs.Common.{◌≡◌, ℕ, zero, suc, ◌<◌, List, [], ◌∷◌, ◌++◌, length, get_or, sym, refl, ap, ◌∙◌, inl, inr, arith, length-append}
use Rattle.std.proofs.Math.ListN.{get_or-append}
use Rattle.std.proofs.Math.Seq.{get_or-append_seam}
use Rattle.std.proofs.lemmas.Bool.{cases_lt}
use Rattle.walk.specs.Tabulate.{tabulate}

pub length-tabulate : {A : Type 0} (n : ℕ) (f : ℕ → A) → length (tabulate n f) ≡ n
length-tabulate zero f = refl
length-tabulate (suc n) f = simp length-append (omega (arith, length-tabulate n f))

pub tabulate-same : {A : Type 0} (n : ℕ) (f g : ℕ → A) → ((k : ℕ) → k < n → f k ≡ g k) → tabulate n f ≡ tabulate n g
tabulate-same zero f g h = refl
tabulate-same (suc n) f g h = rw (h n (omega arith), tabulate-same n f g (λ k l. h k (omega arith)))

pub tabulate-first : {A : Type 0} (n : ℕ) (f : ℕ → A) → tabulate (suc n) f ≡ f 0 ∷ tabulate n (λ k. f (suc k))
tabulate-first zero f = refl
tabulate-first {A} (suc n) f = ap (λ (xs : List A). xs ++ (f (suc n) ∷ [])) (tabulate-first n f)

pub get_or-tabulate : {A : Type 0} (n k : ℕ) (f : ℕ → A) (d : A) → k < n → get_or (tabulate n f) k d ≡ f k
get_or-tabulate zero k f d h = absurd (omega arith)
get_or-tabulate (suc n) k f d h = elim (cases_lt k n) [
  | inl l ↦
      let m : k < length (tabulate n f) = rw (length-tabulate n f) l in
      get_or-append (tabulate n f) (f n ∷ []) d k m ∙ get_or-tabulate n k f d l
  | inr l ↦
      let e : k ≡ length (tabulate n f) = rw (length-tabulate n f) (omega arith) in
      ap (λ (i : ℕ). get_or (tabulate n f ++ (f n ∷ [])) i d) e ∙ get_or-append_seam (tabulate n f) (f n) [] d ∙ ap f (sym (length-tabulate n f) ∙ sym e)
]
