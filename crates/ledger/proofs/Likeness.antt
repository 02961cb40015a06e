-- Ledgers that differ only in the order of dots of one ink show the same and give the same replies from there on, as two neighbours of one ink may change places.
use mathlib.Core.Path.{◌≡◌, refl, ap, ap₂, ◌∙◌, subst, fun_ext}
use mathlib.Core.List.{List, [], ◌∷◌, ◌++◌, append_assoc}
use Prim.Native.Nat.{ℕ, zero, suc, ◌+◌, ◌-◌, ◌*◌, ◌/◌, ◌%◌}
use lib.ListN.{length, length-append}
use Rattle.grids.specs.Lists.{over, last_word}
use Rattle.grids.specs.Markers.{marker_of}
use Rattle.grids.specs.Dots.{Inked, layer_sets}
use Rattle.grids.specs.declared.markers.Marker.{Marker}
use Rattle.grids.specs.declared.layer.LayerCell.{LayerCell}
use Rattle.grids.proofs.OneInk.{layer-swap}
use Rattle.lines.specs.Painted.{flat}
use Rattle.ledger.specs.Calls.{Call, draw, points, dot, layer, marker, print, render}
use Rattle.ledger.specs.declared.state.Opening.{Opening}
use Rattle.ledger.specs.Ledger.{Layer, Label, Ledger, layers, layer_at, picture_of, screen_cell, painted_in, refusal_in, with_dots, added_dots, accepted, Reply, painted, shown, reply, unless, reply_unless, ledger_after, ledger_reply, ledger_replies}
use Rattle.ledger.specs.declared.screen.Area.{Area}
use Rattle.ledger.proofs.Exchanges.{Exchanged, ex-none, ex-same, ex-swap, ex-both, exchanged-refl, exchanged-back, exchanged-length}

abbrev pub SameInk : Inked → Inked → Type 0
SameInk a b = a.ink ≡ b.ink

pub record AlikeLayer (x y : Layer) : Type 0 where
  pub marker : x.marker ≡ y.marker
  pub character : x.character ≡ y.character
  pub dots : Exchanged SameInk x.dots y.dots

pub data AlikeLayers : List Layer → List Layer → Type 0 where
  alike-none : AlikeLayers [] []
  alike-more : {x y : Layer} {xs ys : List Layer} → AlikeLayer x y → AlikeLayers xs ys → AlikeLayers (x ∷ xs) (y ∷ ys)

pub record Alike (l l' : Ledger) : Type 0 where
  pub before : AlikeLayers l.before l'.before
  pub last : AlikeLayer l.last l'.last
  pub labels : l.labels ≡ l'.labels
  pub draws : l.draws ≡ l'.draws
  pub closed : l.closed ≡ l'.closed

-- ---- alike is an order
layer-alike-refl : (x : Layer) → AlikeLayer x x
layer-alike-refl x = record { marker = refl; character = refl; dots = exchanged-refl x.dots }

pub layers-alike-refl : (xs : List Layer) → AlikeLayers xs xs
layers-alike-refl [] = alike-none
layers-alike-refl (x ∷ xs) = alike-more (layer-alike-refl x) (layers-alike-refl xs)

layer-alike-trans : {x y z : Layer} → AlikeLayer x y → AlikeLayer y z → AlikeLayer x z
layer-alike-trans p q = record { marker = p.marker ∙ q.marker; character = p.character ∙ q.character; dots = ex-both p.dots q.dots }

layers-alike-trans : {xs ys zs : List Layer} → AlikeLayers xs ys → AlikeLayers ys zs → AlikeLayers xs zs
layers-alike-trans alike-none alike-none = alike-none
layers-alike-trans (alike-more p ps) (alike-more q qs) = alike-more (layer-alike-trans p q) (layers-alike-trans ps qs)

layers-alike-snoc : {xs ys : List Layer} {x y : Layer} → AlikeLayers xs ys → AlikeLayer x y → AlikeLayers (xs ++ (x ∷ [])) (ys ++ (y ∷ []))
layers-alike-snoc alike-none q = alike-more q alike-none
layers-alike-snoc (alike-more p ps) q = alike-more p (layers-alike-snoc ps q)

pub alike_refl : (l : Ledger) → Alike l l
alike_refl l = record { before = layers-alike-refl l.before; last = layer-alike-refl l.last; labels = refl; draws = refl; closed = refl }

pub alike-trans : {l l' l'' : Ledger} → Alike l l' → Alike l' l'' → Alike l l''
alike-trans a b = record {
  before = layers-alike-trans a.before b.before;
  last = layer-alike-trans a.last b.last;
  labels = a.labels ∙ b.labels;
  draws = a.draws ∙ b.draws;
  closed = a.closed ∙ b.closed;
}

-- ---- what they show
sets-exchanged : (m : Marker) (character columns i : ℕ) (front : List Inked) {xs ys : List Inked} → Exchanged SameInk xs ys → layer_sets m character columns (front ++ xs) i ≡ layer_sets m character columns (front ++ ys) i
sets-exchanged m character columns i front ex-none = refl
sets-exchanged m character columns i front (ex-same x {xs} {ys} p) =
    rw (append_assoc front (x ∷ []) xs, append_assoc front (x ∷ []) ys) at (sets-exchanged m character columns i (front ++ (x ∷ [])) p)
sets-exchanged m character columns i front (ex-swap x y xs r) = layer-swap m character columns front x y xs i r
sets-exchanged m character columns i front (ex-both p q) = sets-exchanged m character columns i front p ∙ sets-exchanged m character columns i front q

sets-alike : (columns i : ℕ) (x y : Layer) → AlikeLayer x y → layer_at columns i x ≡ layer_at columns i y
sets-alike columns i x y p =
    sets-exchanged (marker_of x.marker) x.character columns i [] p.dots ∙ ap₂ (λ (m character : ℕ). layer_sets (marker_of m) character columns y.dots i) p.marker p.character

last-alike : (word : Layer → ℕ) → ((x y : Layer) → AlikeLayer x y → word x ≡ word y) → {xs ys : List Layer} → AlikeLayers xs ys → last_word word xs ≡ last_word word ys
last-alike word each alike-none = refl
last-alike word each (alike-more {x} {y} p ps) = ap₂ over (last-alike word each ps) (each x y p)

picture-alike : (columns : ℕ) {xs ys : List Layer} → AlikeLayers xs ys → (i : ℕ) → picture_of columns xs i ≡ picture_of columns ys i
unfolding picture_of
picture-alike columns ps i =
    let symbol = last-alike (λ l. (layer_at columns i l).symbol) (λ x y q. ap (λ (c : LayerCell). c.symbol) (sets-alike columns i x y q)) ps in
    let foreground = last-alike (λ l. (layer_at columns i l).foreground) (λ x y q. ap (λ (c : LayerCell). c.foreground) (sets-alike columns i x y q)) ps in
    let background = last-alike (λ l. (layer_at columns i l).background) (λ x y q. ap (λ (c : LayerCell). c.background) (sets-alike columns i x y q)) ps in
    λ k. record { symbol = symbol k; foreground = foreground k; background = background k }

layers-alike : {l l' : Ledger} → Alike l l' → AlikeLayers (layers l) (layers l')
layers-alike a = layers-alike-snoc a.before a.last

dots-alike : {xs ys : List Layer} → AlikeLayers xs ys → length (flat (λ (y : Layer). y.dots) xs) ≡ length (flat (λ (y : Layer). y.dots) ys)
dots-alike alike-none = refl
dots-alike (alike-more p ps) = simp length-append (ap₂ ◌+◌ (exchanged-length p.dots) (dots-alike ps))

painted-alike : {l l' : Ledger} → Alike l l' → painted_in l ≡ painted_in l'
unfolding painted_in
painted-alike a = dots-alike (layers-alike a)

screen-alike : (o : Opening) {xs ys : List Layer} (labels : List Label) (a : Area) (words : List ℕ) → AlikeLayers xs ys → (j : ℕ) → screen_cell o xs labels a words j ≡ screen_cell o ys labels a words j
unfolding screen_cell
screen-alike o labels a words ps j = rw (picture-alike o.columns ps ((j / a.columns - a.y) * o.columns + (j % a.columns - a.x)))

-- ---- call by call
refusal-alike : (o : Opening) (l l' : Ledger) (c : Call) → Alike l l' → refusal_in o l c ≡ refusal_in o l' c
refusal-alike o l l' c a = rw (a.closed, a.draws, a.labels, a.last.marker)

dots-added-alike : (l l' : Ledger) (dots : List Inked) → Alike l l' → Alike (with_dots l dots) (with_dots l' dots)
dots-added-alike l l' dots a = record {
  before = a.before;
  last = record { marker = a.last.marker; character = a.last.character; dots = exchanged-back dots a.last.dots };
  labels = a.labels;
  draws = ap suc a.draws;
  closed = a.closed;
}

accepted-alike : (o : Opening) (l l' : Ledger) (c : Call) → Alike l l' → Alike (accepted o l c) (accepted o l' c)
accepted-alike o l l' c a = go c
  where
    more : (c : Call) → Alike (with_dots l (added_dots o l.last.marker c)) (with_dots l' (added_dots o l'.last.marker c))
    more c =
        subst (λ (m : ℕ). Alike (with_dots l (added_dots o l.last.marker c)) (with_dots l' (added_dots o m c))) a.last.marker
        (dots-added-alike l l' (added_dots o l.last.marker c) a)

    go : (c : Call) → Alike (accepted o l c) (accepted o l' c)
    go (draw shape colour) = more (draw shape colour)
    go (points pairs colour) = more (points pairs colour)
    go (dot column row colour) = more (dot column row colour)
    go layer = record { before = layers-alike a; last = record { marker = a.last.marker; character = a.last.character; dots = ex-none }; labels = a.labels; draws = a.draws; closed = a.closed }
    go (marker m character) = record { before = layers-alike a; last = record { marker = refl; character = refl; dots = ex-none }; labels = a.labels; draws = a.draws; closed = a.closed }
    go (print x y text choice) = record { before = a.before; last = a.last; labels = rw a.labels; draws = a.draws; closed = a.closed }
    go (render area words) = record { before = layers-alike a; last = record { marker = a.last.marker; character = a.last.character; dots = ex-none }; labels = a.labels; draws = a.draws; closed = refl }

reply-alike : (o : Opening) (l l' : Ledger) (c : Call) → Alike l l' → reply o l c ≡ reply o l' c
reply-alike o l l' (draw shape colour) a = ap (λ (m : ℕ). painted (length (added_dots o m (draw shape colour)))) a.last.marker
reply-alike o l l' (points pairs colour) a = ap (λ (m : ℕ). painted (length (added_dots o m (points pairs colour)))) a.last.marker
reply-alike o l l' (dot column row colour) a = ap (λ (m : ℕ). painted (length (added_dots o m (dot column row colour)))) a.last.marker
reply-alike o l l' layer a = refl
reply-alike o l l' (marker m character) a = refl
reply-alike o l l' (print x y text choice) a = refl
reply-alike o l l' (render area words) a =
    ap (λ (ls : List Label). shown (screen_cell o (layers l) ls area words) (painted_in l)) a.labels
    ∙ ap₂ shown (fun_ext (screen-alike o l'.labels area words (layers-alike a))) (painted-alike a)

pub after-alike : (o : Opening) (l l' : Ledger) (c : Call) → Alike l l' → Alike (ledger_after o l c) (ledger_after o l' c)
unfolding ledger_after
after-alike o l l' c a = rw (refusal-alike o l l' c a) (go (refusal_in o l' c))
  where
    go : (k : ℕ) → Alike (unless k l (accepted o l c)) (unless k l' (accepted o l' c))
    go zero = accepted-alike o l l' c a
    go (suc k) = a

pub replies-alike : (o : Opening) (calls : List Call) (l l' : Ledger) → Alike l l' → ledger_replies o l calls ≡ ledger_replies o l' calls
unfolding ledger_reply
replies-alike o [] l l' a = refl
replies-alike o (c ∷ calls) l l' a =
    ap₂ (λ (x : Reply) (xs : List Reply). x ∷ xs) (ap₂ reply_unless (refusal-alike o l l' c a) (reply-alike o l l' c a)) (replies-alike o calls (ledger_after o l c) (ledger_after o l' c) (after-alike o l l' c a))
