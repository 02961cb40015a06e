-- Lists in another order by exchanges of neighbours that a relation allows, and the reorderings that are made of such exchanges.
use mathlib.Core.Path.{◌≡◌, refl, ap, ◌∙◌}
use mathlib.Core.Bool.{Bool, true, false, cond}
use mathlib.Core.List.{List, [], ◌∷◌, ◌++◌}
use Prim.Native.Nat.{suc}
use lib.ListN.{length}
use Rattle.grids.specs.Lists.{keep}
use Rattle.ledger.specs.Promise.{Reordered, none, same, swap, both, Every, nil, cons}

pub data Exchanged {A : Type 0} (R : A → A → Type 0) : List A → List A → Type 0 where
  ex-none : Exchanged R [] []
  ex-same : (x : A) {xs ys : List A} → Exchanged R xs ys → Exchanged R (x ∷ xs) (x ∷ ys)
  ex-swap : (x y : A) (xs : List A) → R x y → Exchanged R (x ∷ y ∷ xs) (y ∷ x ∷ xs)
  ex-both : {xs ys zs : List A} → Exchanged R xs ys → Exchanged R ys zs → Exchanged R xs zs

module _ {A : Type 0} {R : A → A → Type 0} where
  pub exchanged-refl : (xs : List A) → Exchanged R xs xs
  exchanged-refl [] = ex-none
  exchanged-refl (x ∷ xs) = ex-same x (exchanged-refl xs)

  pub exchanged-front : (front : List A) {xs ys : List A} → Exchanged R xs ys → Exchanged R (front ++ xs) (front ++ ys)
  exchanged-front [] p = p
  exchanged-front (x ∷ front) p = ex-same x (exchanged-front front p)

  pub exchanged-back : {xs ys : List A} (back : List A) → Exchanged R xs ys → Exchanged R (xs ++ back) (ys ++ back)
  exchanged-back back ex-none = exchanged-refl back
  exchanged-back back (ex-same x p) = ex-same x (exchanged-back back p)
  exchanged-back back (ex-swap x y xs r) = ex-swap x y (xs ++ back) r
  exchanged-back back (ex-both p q) = ex-both (exchanged-back back p) (exchanged-back back q)

  pub exchanged-length : {xs ys : List A} → Exchanged R xs ys → length xs ≡ length ys
  exchanged-length ex-none = refl
  exchanged-length (ex-same x p) = ap suc (exchanged-length p)
  exchanged-length (ex-swap x y xs r) = refl
  exchanged-length (ex-both p q) = exchanged-length p ∙ exchanged-length q

  pub exchanged-sym : ((x y : A) → R x y → R y x) → {xs ys : List A} → Exchanged R xs ys → Exchanged R ys xs
  exchanged-sym turn ex-none = ex-none
  exchanged-sym turn (ex-same x p) = ex-same x (exchanged-sym turn p)
  exchanged-sym turn (ex-swap x y xs r) = ex-swap y x xs (turn x y r)
  exchanged-sym turn (ex-both p q) = ex-both (exchanged-sym turn q) (exchanged-sym turn p)

  -- one after another list, and two lists in either order
  module _ (P Q : A → Type 0) (allowed : (x y : A) → P x → Q y → R x y) where
    pub exchanged-past : (x : A) → P x → {ys : List A} → Every Q ys → (zs : List A) → Exchanged R (x ∷ (ys ++ zs)) (ys ++ x ∷ zs)
    exchanged-past x h nil zs = exchanged-refl (x ∷ zs)
    exchanged-past x h (cons {x = y} {xs = ys} k all) zs = ex-both (ex-swap x y (ys ++ zs) (allowed x y h k)) (ex-same y (exchanged-past x h all zs))

    pub exchanged-lists : {xs ys : List A} → Every P xs → Every Q ys → (zs : List A) → Exchanged R (xs ++ (ys ++ zs)) (ys ++ (xs ++ zs))
    exchanged-lists {ys} nil all zs = exchanged-refl (ys ++ zs)
    exchanged-lists (cons {x} {xs} h some) all zs = ex-both (ex-same x (exchanged-lists some all zs)) (exchanged-past x h all (xs ++ zs))

-- ---- reorderings
module _ {A : Type 0} where
  pub every-reordered : {P : A → Type 0} {xs ys : List A} → Reordered xs ys → Every P xs → Every P ys
  every-reordered none all = all
  every-reordered (same x p) (cons h all) = cons h (every-reordered p all)
  every-reordered (swap x y xs) (cons h (cons k all)) = cons k (cons h all)
  every-reordered (both p q) all = every-reordered q (every-reordered p all)

  pub exchanged-reordered : (P : A → Type 0) (R : A → A → Type 0) → ((x y : A) → P x → P y → R x y) → {xs ys : List A} → Reordered xs ys → Every P xs → Exchanged R xs ys
  exchanged-reordered P R allowed none all = ex-none
  exchanged-reordered P R allowed (same x p) (cons h all) = ex-same x (exchanged-reordered P R allowed p all)
  exchanged-reordered P R allowed (swap x y xs) (cons h (cons k all)) = ex-swap x y xs (allowed x y h k)
  exchanged-reordered P R allowed (both p q) all = ex-both (exchanged-reordered P R allowed p all) (exchanged-reordered P R allowed q (every-reordered p all))

  reordered-refl : (xs : List A) → Reordered xs xs
  reordered-refl [] = none
  reordered-refl (x ∷ xs) = same x (reordered-refl xs)

  pub reordered-keep : (test : A → Bool) {xs ys : List A} → Reordered xs ys → Reordered (keep test xs) (keep test ys)
  reordered-keep test none = none
  reordered-keep test (same x {xs} {ys} p) = go (test x) (reordered-keep test p)
    where
      go : (t : Bool) → Reordered (keep test xs) (keep test ys) → Reordered (cond t (x ∷ keep test xs) (keep test xs)) (cond t (x ∷ keep test ys) (keep test ys))
      go true q = same x q
      go false q = q
  reordered-keep test (swap x y xs) = go (test x) (test y)
    where
      go : (t u : Bool) → Reordered (cond t (x ∷ cond u (y ∷ keep test xs) (keep test xs)) (cond u (y ∷ keep test xs) (keep test xs))) (cond u (y ∷ cond t (x ∷ keep test xs) (keep test xs)) (cond t (x ∷ keep test xs) (keep test xs)))
      go true true = swap x y (keep test xs)
      go true false = reordered-refl (x ∷ keep test xs)
      go false true = reordered-refl (y ∷ keep test xs)
      go false false = reordered-refl (keep test xs)
  reordered-keep test (both p q) = both (reordered-keep test p) (reordered-keep test q)
