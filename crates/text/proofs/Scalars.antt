-- UTF-8 read back gives the scalar value; what is shown is a scalar value and no control character, and has no control character's byte. By cases on the ranges of RFC 3629's table.
use Prim.Native.Nat.{ℕ, ◌+◌, ◌/◌, ◌≤◌, ◌<◌}
use mathlib.Core.Path.{◌≡◌, refl, ap, sym, ◌∙◌}
use mathlib.Core.Bool.{Bool, true, false, cond, not, ◌&&◌, ◌||◌}
use mathlib.Core.List.{[], ◌∷◌}
use mathlib.Core.Option.{some}
use native.Mathlib.Nat.{div-div-eq-div-mul}
use native.Mathlib.Omega.{arith}
use lib.Dec.{ltb, leb}
use lib.Utf8.{scalar, encode}
use borrow.Author.Tests.{lt-ltb, le-leb, ltb-true, ltb-false, not-true}
use Rattle.std.proofs.lemmas.Bool.{and_from}
use Rattle.std.proofs.lemmas.Grind.{common_steps}
use Rattle.std.specs.Char.{is_control as std_control}
use Rattle.std.specs.Prelude.{Option, Some, None, SomeIff, MatchOption}
use Rattle.std.specs.Option.{unwrap_or}
use Rattle.std.specs.Bool.{then_some}
use Rattle.text.specs.Utf8.{is_scalar, is_control, shown_symbol, continuation, utf8, symbol_bytes, within, given_that, two, three, four, decode, AllPlain}

-- ---- tests that hold together

both-parts : (a b : Bool) → a && b ≡ true → (a ≡ true) × (b ≡ true)
both-parts true true e = (refl, refl)
both-parts true false e = (refl, e)
both-parts false b e = let no : ◌≡◌ {A = ℕ} 0 1 = cc in absurd (omega arith)

inside : (low high x : ℕ) → low ≤ x → x < high → within low high x ≡ true
inside low high x l h = and_from _ _ (le-leb low x l) (lt-ltb x high h)

given : (right : Bool) (v s : ℕ) → right ≡ true → v ≡ s → given_that right v ≡ some s
given right v s e f = rw (e, f)

scalar_below : (s : ℕ) → is_scalar s ≡ true → s < 0x110000
scalar_below s = go (ltb s 0xD800) (leb 0xE000 s) (ltb s 0x110000) refl refl
  where
    go : (a b c : Bool) → ltb s 0xD800 ≡ a → ltb s 0x110000 ≡ c → a || (b && c) ≡ true → s < 0x110000
    go true b c e f h = omega (arith, ltb-true s 0xD800 e)
    go false b true e f h = ltb-true s 0x110000 f
    go false true false e f h = let no : ◌≡◌ {A = ℕ} 0 1 = cc in absurd (omega arith)
    go false false false e f h = let no : ◌≡◌ {A = ℕ} 0 1 = cc in absurd (omega arith)

-- ---- the four lengths

module _ (s : ℕ) where
  decode-one : s < 0x80 → decode (s ∷ []) ≡ some s
  unfolding decode
  decode-one h = given _ s s (lt-ltb s 0x80 h) refl

  decode-two : 0x80 ≤ s → s < 0x800 → decode ((0xC0 + s / 64) ∷ continuation s ∷ []) ≡ some s
  unfolding decode
  decode-two l h =
      let e : two (0xC0 + s / 64) (continuation s) ≡ s = omega arith in
      given _ _ s
      (and_from _ _
      (and_from _ _ (inside 0xC0 0xE0 (0xC0 + s / 64) (omega arith) (omega arith)) (inside 0x80 0xC0 (continuation s) (omega arith) (omega arith)))
      (le-leb 0x80 (two (0xC0 + s / 64) (continuation s)) (omega arith)))
      e

  decode-three : is_scalar s ≡ true → 0x800 ≤ s → s < 0x10000 → decode ((0xE0 + s / 4096) ∷ continuation (s / 64) ∷ continuation s ∷ []) ≡ some s
  unfolding decode
  decode-three scalar l h =
      let e : three (0xE0 + s / 4096) (continuation (s / 64)) (continuation s) ≡ s = omega arith in
      given _ _ s
      (and_from _ _
      (and_from _ _
      (inside 0xE0 0xF0 (0xE0 + s / 4096) (omega arith) (omega arith))
      (and_from _ _ (inside 0x80 0xC0 (continuation (s / 64)) (omega arith) (omega arith)) (inside 0x80 0xC0 (continuation s) (omega arith) (omega arith))))
      (and_from _ _ (le-leb 0x800 (three (0xE0 + s / 4096) (continuation (s / 64)) (continuation s)) (omega arith)) (ap is_scalar e ∙ scalar)))
      e

  decode-four : is_scalar s ≡ true → 0x10000 ≤ s → decode ((0xF0 + s / 262144) ∷ continuation (s / 4096) ∷ continuation (s / 64) ∷ continuation s ∷ []) ≡ some s
  unfolding decode
  decode-four scalar l =
      let h : s < 0x110000 = scalar_below s scalar in
      let e : four (0xF0 + s / 262144) (continuation (s / 4096)) (continuation (s / 64)) (continuation s) ≡ s =
      omega (arith, div-div-eq-div-mul s 64 64, div-div-eq-div-mul s 4096 64) in
      given _ _ s
      (and_from _ _
      (and_from _ _
      (inside 0xF0 0xF8 (0xF0 + s / 262144) (omega arith) (omega arith))
      (and_from _ _
      (inside 0x80 0xC0 (continuation (s / 4096)) (omega arith) (omega arith))
      (and_from _ _ (inside 0x80 0xC0 (continuation (s / 64)) (omega arith) (omega arith)) (inside 0x80 0xC0 (continuation s) (omega arith) (omega arith)))))
      (and_from _ _ (le-leb 0x10000 (four (0xF0 + s / 262144) (continuation (s / 4096)) (continuation (s / 64)) (continuation s)) (omega arith)) (ap is_scalar e ∙ scalar)))
      e

pub utf8-decodes : (s : ℕ) → is_scalar s ≡ true → decode (utf8 s) ≡ some s
unfolding utf8
utf8-decodes s scalar = go (ltb s 0x80) (ltb s 0x800) (ltb s 0x10000) refl refl refl
  where
    go : (a b c : Bool) → ltb s 0x80 ≡ a → ltb s 0x800 ≡ b → ltb s 0x10000 ≡ c
        → decode
        (cond a (s ∷ [])
        (cond b ((0xC0 + s / 64) ∷ continuation s ∷ [])
        (cond c ((0xE0 + s / 4096) ∷ continuation (s / 64) ∷ continuation s ∷ [])
        ((0xF0 + s / 262144) ∷ continuation (s / 4096) ∷ continuation (s / 64) ∷ continuation s ∷ [])))) ≡ some s
    go true b c e f g = decode-one s (ltb-true s 0x80 e)
    go false true c e f g = decode-two s (ltb-false s 0x80 e) (ltb-true s 0x800 f)
    go false false true e f g = decode-three s scalar (ltb-false s 0x800 f) (ltb-true s 0x10000 g)
    go false false false e f g = decode-four s scalar (ltb-false s 0x10000 g)

-- ---- what is shown

pub shown-printable : (word : ℕ) → (is_scalar (shown_symbol word) ≡ true) × (is_control (shown_symbol word) ≡ false)
unfolding shown_symbol
shown-printable word = go (is_scalar word && not (is_control word)) refl
  where
    go : (t : Bool) → is_scalar word && not (is_control word) ≡ t → (is_scalar (cond t word 0xFFFD) ≡ true) × (is_control (cond t word 0xFFFD) ≡ false)
    go true e = let h = both-parts (is_scalar word) (not (is_control word)) e in (h.0, not-true (is_control word) h.1)
    go false e = (refl, refl)

-- ---- std's tests and its bytes are these

pub encode-utf8 : (s : ℕ) → encode s ≡ utf8 s
unfolding encode utf8
encode-utf8 s = refl

scalar-is : (c : ℕ) → scalar c ≡ is_scalar c
scalar-is c = go (ltb c 0xD800)
  where
    go : (t : Bool) → cond t true (leb 0xE000 c && ltb c 0x110000) ≡ t || (leb 0xE000 c && ltb c 0x110000)
    go true = refl
    go false = refl

control-is : (c : ℕ) → std_control c ≡ is_control c
control-is c = ap (λ (b : Bool). b || (leb 0x7F c && leb c 0x9F)) (grind (arith, common_steps))

-- the symbol where it is a scalar value that passes the test, else U+FFFD
pub shown_by : (symbol : ℕ) (o r : Option ℕ) {Q : ℕ → Bool → Type 0} → ((x : ℕ) (b : Bool) → Q x b → b ≡ not (std_control x))
    → SomeIff o (scalar symbol ≡ true) symbol → MatchOption o (r ≡ None) (λ x. (b : Bool) × Q x b × (r ≡ then_some b x))
    → unwrap_or r 0xFFFD ≡ shown_symbol symbol
unfolding shown_symbol
shown_by symbol None r q s m = rw m (go (is_scalar symbol) (scalar-is symbol))
  where
    go : (t : Bool) → scalar symbol ≡ t → 0xFFFD ≡ cond (t && not (is_control symbol)) symbol 0xFFFD
    go true e = absurd (s e)
    go false e = refl
shown_by symbol (Some x) r q s m =
    let control : is_control symbol ≡ std_control x = sym (control-is symbol) ∙ ap std_control (sym s.1) in
    rw (m.2, sym (scalar-is symbol) ∙ s.0, control, sym (q x m.0 m.1)) (go m.0)
  where
    go : (b : Bool) → unwrap_or (then_some b x) 0xFFFD ≡ cond b symbol 0xFFFD
    go true = s.1
    go false = refl

pub symbol-decodes : (word : ℕ) → decode (symbol_bytes word) ≡ some (shown_symbol word)
unfolding symbol_bytes
symbol-decodes word = utf8-decodes (shown_symbol word) (shown-printable word).0

-- ---- its bytes

high : (byte : ℕ) → 0x80 ≤ byte → (0x20 ≤ byte) × (byte ≡ 0x7F → ⊥)
high byte h = (omega arith, λ e. omega arith)

low : (s : ℕ) → is_control s ≡ false → (0x20 ≤ s) × (s ≡ 0x7F → ⊥)
low s h = (go (ltb s 0x20) refl h, λ e. let no : ◌≡◌ {A = ℕ} 0 1 = cc (rw e at h) in omega arith)
  where
    go : (t : Bool) → ltb s 0x20 ≡ t → t || (leb 0x7F s && leb s 0x9F) ≡ false → 0x20 ≤ s
    go true e f = let no : ◌≡◌ {A = ℕ} 0 1 = cc in absurd (omega arith)
    go false e f = ltb-false s 0x20 e

utf8-plain : (s : ℕ) → is_control s ≡ false → AllPlain (utf8 s)
unfolding utf8
utf8-plain s h = go (ltb s 0x80) (ltb s 0x800) (ltb s 0x10000)
  where
    tail : (bits : ℕ) → (0x20 ≤ continuation bits) × (continuation bits ≡ 0x7F → ⊥)
    tail bits = high (continuation bits) (omega arith)

    go : (a b c : Bool)
        → AllPlain
        (cond a (s ∷ [])
        (cond b ((0xC0 + s / 64) ∷ continuation s ∷ [])
        (cond c ((0xE0 + s / 4096) ∷ continuation (s / 64) ∷ continuation s ∷ [])
        ((0xF0 + s / 262144) ∷ continuation (s / 4096) ∷ continuation (s / 64) ∷ continuation s ∷ []))))
    go true b c = (low s h, tt)
    go false true c = (high (0xC0 + s / 64) (omega arith), (tail s, tt))
    go false false true = (high (0xE0 + s / 4096) (omega arith), (tail (s / 64), (tail s, tt)))
    go false false false = (high (0xF0 + s / 262144) (omega arith), (tail (s / 4096), (tail (s / 64), (tail s, tt))))

pub symbol-plain : (word : ℕ) → AllPlain (symbol_bytes word)
unfolding symbol_bytes
symbol-plain word = utf8-plain (shown_symbol word) (shown-printable word).1
