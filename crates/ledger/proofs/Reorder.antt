-- A stretch of draws and dots of one colour with its prints, in another order: it is made of exchanges of two neighbours, each of which leaves a ledger alike and refuses nothing.
use mathlib.Core.Path.{◌≡◌, refl, sym, ap, ◌∙◌, subst}
use mathlib.Core.Bool.{true, false, not}
use mathlib.Core.List.{List, [], ◌∷◌, ◌++◌, append_assoc, append-nil}
use Prim.Native.Nat.{ℕ, zero, suc, ◌<◌}
use native.Mathlib.Omega.{arith}
use lib.Ieee.{Float}
use Rattle.std.specs.Prelude.{Option}
use lib.ListN.{length}
use Rattle.floats.proofs.Cases.{false-not-true}
use Rattle.walk.specs.declared.bresenham.Dot.{Dot}
use Rattle.grids.specs.Lists.{keep}
use Rattle.grids.specs.Markers.{marker_of}
use Rattle.grids.specs.Dots.{Inked}
use Rattle.grids.specs.Painting.{inked}
use Rattle.view.specs.Limits.{max_draws}
use Rattle.view.specs.Point.{view_of}
use Rattle.ledger.specs.Calls.{Call, draw, points, dot, layer, marker, print, render, refusal, call_dots}
use Rattle.ledger.specs.declared.state.Opening.{Opening}
use Rattle.ledger.specs.Ledger.{Label, Ledger, refusal_in, with_dots, with_label, ink_of, added_dots, accepted, Reply, refused, painted, done, shown, reply, reply_unless, ledger_after, ledger_reply, ledger_replies}
use Rattle.ledger.specs.Promise.{first_shown, is_accepted, NoRefusal, Reordered, Every, nil, cons, OfColour, is_print}
use Rattle.grids.proofs.Cases.{cond-none}
use Rattle.ledger.proofs.Refusals.{Paints, by-draw, by-points, by-dot, Prints, by-print, paints-room, paints-again}
use Rattle.ledger.proofs.Sums.{ledger_through}
use Rattle.ledger.proofs.Exchanges.{Exchanged, ex-none, ex-same, ex-swap, ex-both, exchanged-front, exchanged-back, exchanged-sym, exchanged-past, exchanged-lists, every-reordered, exchanged-reordered, reordered-keep}
use Rattle.ledger.proofs.Likeness.{SameInk, Alike, layers-alike-refl, alike_refl, alike-trans, after-alike, replies-alike}

-- ---- the calls of a stretch
record Inks (k : ℕ) (c : Call) : Type 0 where
  pub paints : Paints c
  pub ink : ink_of c ≡ k
  pub other : is_print c ≡ false

data Part (k : ℕ) (c : Call) : Type 0 where
  inks : Inks k c → Part k c
  label : Prints c → is_print c ≡ true → Part k c

part : (k : ℕ) (c : Call) → OfColour k c → Part k c
part k (draw shape colour) h = inks (record { paints = by-draw shape colour; ink = h; other = refl })
part k (points list colour) h = inks (record { paints = by-points list colour; ink = h; other = refl })
part k (dot column row colour) h = inks (record { paints = by-dot column row colour; ink = h; other = refl })
part k layer h = absurd h
part k (marker m character) h = absurd h
part k (print x y text choice) h = label (by-print x y text choice) refl
part k (render area words) h = absurd h

data MaySwap (k : ℕ) (x y : Call) : Type 0 where
  two-inks : Inks k x → Inks k y → MaySwap k x y
  ink-print : Inks k x → Prints y → MaySwap k x y
  print-ink : Prints x → Inks k y → MaySwap k x y

turned : (k : ℕ) (x y : Call) → MaySwap k x y → MaySwap k y x
turned k x y (two-inks p q) = two-inks q p
turned k x y (ink-print p q) = print-ink q p
turned k x y (print-ink p q) = ink-print q p

-- ---- the dots of one colour, two lists of them in either order
abbrev OfInk : ℕ → Inked → Type 0
OfInk k d = d.ink ≡ k

every-inked : (k ink : ℕ) → ink ≡ k → (dots : List Dot) → Every (OfInk k) (inked ink dots)
every-inked k ink e [] = nil
every-inked k ink e (d ∷ dots) = cons e (every-inked k ink e dots)

every-added : (o : Opening) (k m : ℕ) (c : Call) → ink_of c ≡ k → Every (OfInk k) (added_dots o m c)
every-added o k m c e = every-inked k (ink_of c) e (call_dots (view_of o.bounds o.columns o.rows (marker_of m)) c)

two-lists : (k : ℕ) (front xs ys : List Inked) → Every (OfInk k) xs → Every (OfInk k) ys → Exchanged SameInk ((front ++ xs) ++ ys) ((front ++ ys) ++ xs)
two-lists k front xs ys a b =
    rw (append_assoc front xs ys, append_assoc front ys xs)
    (exchanged-front front (rw (append-nil ys, append-nil xs) at (exchanged-lists (OfInk k) (OfInk k) (λ x y p q. p ∙ sym q) a b [])))

-- ---- two neighbours change places
module _ (o : Opening) where
  after-accepted : (l : Ledger) (c : Call) → refusal_in o l c ≡ 0 → ledger_after o l c ≡ accepted o l c
  unfolding ledger_after
  after-accepted l c e = rw e

  after-paints : (l : Ledger) {c : Call} → Paints c → refusal_in o l c ≡ 0 → ledger_after o l c ≡ with_dots l (added_dots o l.last.marker c)
  after-paints l (by-draw shape colour) e = after-accepted l (draw shape colour) e
  after-paints l (by-points list colour) e = after-accepted l (points list colour) e
  after-paints l (by-dot column row colour) e = after-accepted l (dot column row colour) e

  -- a painting call that is accepted somewhere is accepted in an open ledger of the same marker with room
  paints-in : (l l' : Ledger) {c : Call} → Paints c → refusal_in o l c ≡ 0 → l'.last.marker ≡ l.last.marker → l'.closed ≡ l.closed → l'.draws < max_draws → refusal_in o l' c ≡ 0
  paints-in l l' {c} p e m same room =
      let t = cond-none l.closed 5 _ e in
      rw (same, t.0, m) (paints-again o l.draws (length l.labels) l.last.marker l'.draws (length l'.labels) p t.1 room)

  paints-room-in : (l : Ledger) {c : Call} → Paints c → refusal_in o l c ≡ 0 → l.draws < max_draws
  paints-room-in l p e = paints-room o l.draws (length l.labels) l.last.marker p (cond-none l.closed 5 _ e).1

  abbrev Swapped : Ledger → Call → Call → Type 0
  Swapped l x y = (refusal_in o l y ≡ 0) × (refusal_in o (ledger_after o l y) x ≡ 0) × Alike (ledger_after o (ledger_after o l x) y) (ledger_after o (ledger_after o l y) x)

  swap-inks : (k : ℕ) (l : Ledger) (x y : Call) → Inks k x → Inks k y → refusal_in o l x ≡ 0 → refusal_in o (ledger_after o l x) y ≡ 0 → Swapped l x y
  swap-inks k l x y hx hy ex ey =
      let m : ℕ = l.last.marker in
      let dx : List Inked = added_dots o m x in
      let dy : List Inked = added_dots o m y in
      let sx : ledger_after o l x ≡ with_dots l dx = after-paints l hx.paints ex in
      let gy : refusal_in o (with_dots l dx) y ≡ 0 = rw sx at ey in
      let room : suc l.draws < max_draws = paints-room-in (with_dots l dx) hy.paints gy in
      let fy : refusal_in o l y ≡ 0 = paints-in (with_dots l dx) l hy.paints gy refl refl (omega arith) in
      let sy : ledger_after o l y ≡ with_dots l dy = after-paints l hy.paints fy in
      let fx : refusal_in o (with_dots l dy) x ≡ 0 = paints-in l (with_dots l dy) hx.paints ex refl refl room in
      let sxy : ledger_after o (with_dots l dx) y ≡ with_dots (with_dots l dx) dy = after-paints (with_dots l dx) hy.paints gy in
      let syx : ledger_after o (with_dots l dy) x ≡ with_dots (with_dots l dy) dx = after-paints (with_dots l dy) hx.paints fx in (
        fy,
        rw sy fx,
        rw (sx, sy, sxy, syx) (record {
          before = layers-alike-refl l.before;
          last = record { marker = refl; character = refl; dots = two-lists k l.last.dots dx dy (every-added o k m x hx.ink) (every-added o k m y hy.ink) };
          labels = refl;
          draws = refl;
          closed = refl;
        }),
      )

  module _ (k : ℕ) (l : Ledger) (c : Call) (h : Inks k c) (x y : Float) (text : List ℕ) (choice : Option ℕ) where
    abbrev added : List Inked
    added = added_dots o l.last.marker c

    abbrev printed : Label
    printed = record { x = x; y = y; text = text; choice = choice }

    swap-ink-print : refusal_in o l c ≡ 0 → refusal_in o (ledger_after o l c) (print x y text choice) ≡ 0 → Swapped l c (print x y text choice)
    unfolding refusal
    swap-ink-print ec ep =
        let p : Call = print x y text choice in
        let sc : ledger_after o l c ≡ with_dots l added = after-paints l h.paints ec in
        let gp : refusal_in o (with_dots l added) p ≡ 0 = rw sc at ep in
        let sp : ledger_after o l p ≡ with_label l printed = after-accepted l p gp in
        let fc : refusal_in o (with_label l printed) c ≡ 0 = paints-in l (with_label l printed) h.paints ec refl refl (paints-room-in l h.paints ec) in
        let scp : ledger_after o (with_dots l added) p ≡ with_label (with_dots l added) printed = after-accepted (with_dots l added) p gp in
        let spc : ledger_after o (with_label l printed) c ≡ with_dots (with_label l printed) added = after-paints (with_label l printed) h.paints fc in
        (gp, rw sp fc, rw (sc, sp, scp, spc) (alike_refl (with_dots (with_label l printed) added)))

    swap-print-ink : refusal_in o l (print x y text choice) ≡ 0 → refusal_in o (ledger_after o l (print x y text choice)) c ≡ 0 → Swapped l (print x y text choice) c
    unfolding refusal
    swap-print-ink ep ec =
        let p : Call = print x y text choice in
        let sp : ledger_after o l p ≡ with_label l printed = after-accepted l p ep in
        let gc : refusal_in o (with_label l printed) c ≡ 0 = rw sp at ec in
        let fc : refusal_in o l c ≡ 0 = paints-in (with_label l printed) l h.paints gc refl refl (paints-room-in (with_label l printed) h.paints gc) in
        let sc : ledger_after o l c ≡ with_dots l added = after-paints l h.paints fc in
        let spc : ledger_after o (with_label l printed) c ≡ with_dots (with_label l printed) added = after-paints (with_label l printed) h.paints gc in
        let scp : ledger_after o (with_dots l added) p ≡ with_label (with_dots l added) printed = after-accepted (with_dots l added) p ep in
        (fc, rw sc ep, rw (sc, sp, scp, spc) (alike_refl (with_dots (with_label l printed) added)))

  swap_any : (k : ℕ) (l : Ledger) (x y : Call) → MaySwap k x y → refusal_in o l x ≡ 0 → refusal_in o (ledger_after o l x) y ≡ 0 → Swapped l x y
  swap_any k l x y (two-inks p q) ex ey = swap-inks k l x y p q ex ey
  swap_any k l x y (ink-print p (by-print u v text choice)) ex ey = swap-ink-print k l x p u v text choice ex ey
  swap_any k l x y (print-ink (by-print u v text choice) q) ex ey = swap-print-ink k l y q u v text choice ex ey

  -- ---- exchanges in a list of which no call is refused
  accepted-none : (l : Ledger) (c : Call) → is_accepted (ledger_reply o l c) ≡ true → refusal_in o l c ≡ 0
  unfolding ledger_reply
  accepted-none l c = go (refusal_in o l c)
    where
      go : (k : ℕ) → is_accepted (reply_unless k (reply o l c)) ≡ true → k ≡ 0
      go zero e = refl
      go (suc k) e = false-not-true e

  reply-accepted : (l : Ledger) (c : Call) → is_accepted (reply o l c) ≡ true
  reply-accepted l (draw shape colour) = refl
  reply-accepted l (points list colour) = refl
  reply-accepted l (dot column row colour) = refl
  reply-accepted l layer = refl
  reply-accepted l (marker m character) = refl
  reply-accepted l (print x y text choice) = refl
  reply-accepted l (render area words) = refl

  none-accepted : (l : Ledger) (c : Call) → refusal_in o l c ≡ 0 → is_accepted (ledger_reply o l c) ≡ true
  unfolding ledger_reply
  none-accepted l c e = rw e (reply-accepted l c)

  abbrev Fine : Ledger → List Call → Type 0
  Fine l calls = NoRefusal (ledger_replies o l calls)

  through-alike : (calls : List Call) (l l' : Ledger) → Alike l l' → Alike (ledger_through o l calls) (ledger_through o l' calls)
  through-alike [] l l' a = a
  through-alike (c ∷ calls) l l' a = through-alike calls (ledger_after o l c) (ledger_after o l' c) (after-alike o l l' c a)

  fine-alike : (calls : List Call) (l l' : Ledger) → Alike l l' → Fine l calls → Fine l' calls
  fine-alike calls l l' a f = subst NoRefusal (replies-alike o calls l l' a) f

  exchanged-through : (k : ℕ) {xs ys : List Call} → Exchanged (MaySwap k) xs ys → (l : Ledger) → Fine l xs → Fine l ys × Alike (ledger_through o l xs) (ledger_through o l ys)
  exchanged-through k ex-none l f = (tt, alike_refl l)
  exchanged-through k (ex-same x p) l f =
      let t = exchanged-through k p (ledger_after o l x) f.1 in
      ((f.0, t.0), t.1)
  exchanged-through k (ex-swap x y xs r) l f =
      let t = swap_any k l x y r (accepted-none l x f.0) (accepted-none (ledger_after o l x) y f.1.0) in
      let lx : Ledger = ledger_after o (ledger_after o l x) y in
      let ly : Ledger = ledger_after o (ledger_after o l y) x in
      ((none-accepted l y t.0, (none-accepted (ledger_after o l y) x t.1, fine-alike xs lx ly t.2 f.1.1)), through-alike xs lx ly t.2)
  exchanged-through k (ex-both p q) l f =
      let t = exchanged-through k p l f in
      let u = exchanged-through k q l t.0 in
      (u.0, alike-trans t.1 u.1)

  fine-parts : (xs ys : List Call) (l : Ledger) → Fine l (xs ++ ys) → Fine l xs × Fine (ledger_through o l xs) ys
  fine-parts [] ys l f = (tt, f)
  fine-parts (x ∷ xs) ys l f = let t = fine-parts xs ys (ledger_after o l x) f.1 in ((f.0, t.0), t.1)

  fine-whole : (xs ys : List Call) (l : Ledger) → Fine l xs → Fine (ledger_through o l xs) ys → Fine l (xs ++ ys)
  fine-whole [] ys l f g = g
  fine-whole (x ∷ xs) ys l f g = (f.0, fine-whole xs ys (ledger_after o l x) f.1 g)

  -- ---- a stretch shows nothing itself
  quiet-reply : (k : ℕ) (l : Ledger) (c : Call) → Part k c → (others : List Reply) → first_shown (ledger_reply o l c ∷ others) ≡ first_shown others
  unfolding ledger_reply
  quiet-reply k l c p others = go (refusal_in o l c)
    where
      ink : {c : Call} → Paints c → first_shown (reply o l c ∷ others) ≡ first_shown others
      ink (by-draw shape colour) = refl
      ink (by-points list colour) = refl
      ink (by-dot column row colour) = refl

      either : {c : Call} → Part k c → first_shown (reply o l c ∷ others) ≡ first_shown others
      either (inks h) = ink h.paints
      either (label (by-print x y text choice) e) = refl

      go : (n : ℕ) → first_shown (reply_unless n (reply o l c) ∷ others) ≡ first_shown others
      go zero = either p
      go (suc n) = refl

  quiet-stretch : (k : ℕ) {calls : List Call} → Every (OfColour k) calls → (rest : List Call) (l : Ledger) → first_shown (ledger_replies o l (calls ++ rest)) ≡ first_shown (ledger_replies o (ledger_through o l calls) rest)
  quiet-stretch k nil rest l = refl
  quiet-stretch k (cons {x} {xs} h all) rest l = quiet-reply k l x (part k x h) (ledger_replies o (ledger_after o l x) (xs ++ rest)) ∙ quiet-stretch k all rest (ledger_after o l x)

  shown-cons : (r : Reply) (xs ys : List Reply) → first_shown xs ≡ first_shown ys → first_shown (r ∷ xs) ≡ first_shown (r ∷ ys)
  shown-cons (refused n) xs ys e = e
  shown-cons (painted n) xs ys e = e
  shown-cons done xs ys e = e
  shown-cons (shown cells n) xs ys e = refl

  shown-front : (front xs ys : List Call) (l : Ledger) → first_shown (ledger_replies o (ledger_through o l front) xs) ≡ first_shown (ledger_replies o (ledger_through o l front) ys)
      → first_shown (ledger_replies o l (front ++ xs)) ≡ first_shown (ledger_replies o l (front ++ ys))
  shown-front [] xs ys l e = e
  shown-front (c ∷ front) xs ys l e =
      shown-cons (ledger_reply o l c) (ledger_replies o (ledger_after o l c) (front ++ xs)) (ledger_replies o (ledger_after o l c) (front ++ ys)) (shown-front front xs ys (ledger_after o l c) e)

-- ---- any order of a stretch, its prints in their own order, is made of exchanges: first the draws and dots, then the prints
abbrev drawn : List Call → List Call
drawn calls = keep (λ c. not (is_print c)) calls

every-drawn : (k : ℕ) {calls : List Call} → Every (OfColour k) calls → Every (Inks k) (drawn calls)
every-drawn k nil = nil
every-drawn k (cons {x} {xs} h all) = go (part k x h) (every-drawn k all)
  where
    go : Part k x → Every (Inks k) (drawn xs) → Every (Inks k) (drawn (x ∷ xs))
    go (inks p) t = rw p.other (cons p t)
    go (label p e) t = rw e t

sorted : (k : ℕ) {calls : List Call} → Every (OfColour k) calls → Exchanged (MaySwap k) calls (drawn calls ++ keep is_print calls)
sorted k nil = ex-none
sorted k (cons {x} {xs} h all) = go (part k x h) (every-drawn k all) (sorted k all)
  where
    go : Part k x → Every (Inks k) (drawn xs) → Exchanged (MaySwap k) xs (drawn xs ++ keep is_print xs) → Exchanged (MaySwap k) (x ∷ xs) (drawn (x ∷ xs) ++ keep is_print (x ∷ xs))
    go (inks p) some t = rw p.other (ex-same x t)
    go (label p e) some t = rw e (ex-both (ex-same x t) (exchanged-past Prints (Inks k) (λ u v. print-ink) x p some (keep is_print xs)))

stretch-exchanged : (k : ℕ) {xs ys : List Call} → Every (OfColour k) xs → Reordered xs ys → keep is_print xs ≡ keep is_print ys → Exchanged (MaySwap k) xs ys
stretch-exchanged k {xs} {ys} all p e =
    let middle : Exchanged (MaySwap k) (drawn xs) (drawn ys) = exchanged-reordered (Inks k) (MaySwap k) (λ x y. two-inks) (reordered-keep (λ c. not (is_print c)) p) (every-drawn k all) in
    ex-both (sorted k all) (ex-both (exchanged-back (keep is_print xs) middle)
    (subst (λ (prints : List Call). Exchanged (MaySwap k) (drawn ys ++ prints) ys) (sym e) (exchanged-sym (turned k) (sorted k (every-reordered p all)))))

pub ledger-reordered : (k : ℕ) (o : Opening) (l : Ledger) (front stretch other rest : List Call) → Every (OfColour k) stretch → Reordered stretch other → keep is_print stretch ≡ keep is_print other
    → NoRefusal (ledger_replies o l (front ++ (stretch ++ rest)))
    → (first_shown (ledger_replies o l (front ++ (other ++ rest))) ≡ first_shown (ledger_replies o l (front ++ (stretch ++ rest)))) × NoRefusal (ledger_replies o l (front ++ (other ++ rest)))
ledger-reordered k o l front stretch other rest all p e fine =
    let here : Ledger = ledger_through o l front in
    let f = fine-parts o front (stretch ++ rest) l fine in
    let g = fine-parts o stretch rest here f.1 in
    let t = exchanged-through o k (stretch-exchanged k all p e) here g.0 in
    let same : first_shown (ledger_replies o here (stretch ++ rest)) ≡ first_shown (ledger_replies o here (other ++ rest))
    = quiet-stretch o k all rest here
    ∙ ap first_shown (replies-alike o rest (ledger_through o here stretch) (ledger_through o here other) t.1)
    ∙ sym (quiet-stretch o k (every-reordered p all) rest here) in (
      shown-front o front (other ++ rest) (stretch ++ rest) l (sym same),
      fine-whole o front (other ++ rest) l f.0 (fine-whole o other rest here t.0 (fine-alike o rest (ledger_through o here stretch) (ledger_through o here other) t.1 g.1)),
    )
