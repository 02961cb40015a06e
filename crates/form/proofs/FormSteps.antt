-- What a record's form is refused with, from its first test to its last.
use Rattle.std.proofs.Common.{◌≡◌, ℕ, ◌+◌, ◌-◌, ◌^◌, ◌<◌, ◌≤◌, Bool, true, false, cond, ltb, leb, List, length, take, drop, refl, sym, ◌∙◌, ltb-false, le-ltb, lt-ltb, le-leb}
use borrow.Author.Tests.{lt-leb, leb-true, leb-false}
use Rattle.refusals.specs.declared.refusal.Refusal.{Refusal}
use Rattle.refusals.specs.Refusals.{number_of}
use Rattle.refusals.proofs.Numbers.{some-number}
use Rattle.grids.proofs.Cases.{cond-none}
use Rattle.form.specs.declared.kind.Kind.{Kind}
use Rattle.form.specs.declared.kind.Kind.TheVariants.{Line, FilledLine, Rectangle, Circle, Points, Layer, Marker, Label, Dot}
use Rattle.form.specs.Forms.{max_file, is_unknown, kind_at, map_at, widths_of, record_widths, record_end, record_form}
use Rattle.form.specs.Kinds.{kind_number}
use borrow.Author.Rules.{part_to_end}
use Rattle.std.proofs.lemmas.Bool.{or_parts}

-- a record of a known kind whose map byte is there
pub record Headed (file : List ℕ) (at : ℕ) : Type 0 where
  pub within : length file ≤ max_file
  pub header : at + 2 ≤ length file
  pub known : is_unknown (kind_at file at) ≡ false

pub too_long : (file : List ℕ) (at : ℕ) → max_file < length file → 17 ≡ record_form file at
unfolding record_form
too_long file at h = rw (lt-ltb max_file (length file) h)

pub ended-early : (file : List ℕ) (at : ℕ) → length file ≤ max_file → length file < at + 2 → 14 ≡ record_form file at
unfolding record_form
ended-early file at w h = rw (le-ltb max_file (length file) w, lt-ltb (length file) (at + 2) h)

pub unknown-kind : (file : List ℕ) (at : ℕ) → length file ≤ max_file → at + 2 ≤ length file → is_unknown (kind_at file at) ≡ true → 15 ≡ record_form file at
unfolding record_form
unknown-kind file at w h k = rw (le-ltb max_file (length file) w, le-ltb (length file) (at + 2) h, k)

pub extra-bit : (file : List ℕ) (at : ℕ) → Headed file at → 2 ^ length (record_widths file at) ≤ map_at file at → 16 ≡ record_form file at
unfolding record_form
extra-bit file at g h = rw (le-ltb max_file (length file) g.within, le-ltb (length file) (at + 2) g.header, g.known, le-leb _ _ h)

pub cut_short : (file : List ℕ) (at : ℕ) → Headed file at → map_at file at < 2 ^ length (record_widths file at) → length file < record_end file at → 14 ≡ record_form file at
unfolding record_form
cut_short file at g b h = rw (le-ltb max_file (length file) g.within, le-ltb (length file) (at + 2) g.header, g.known, lt-leb _ _ b, lt-ltb _ _ h)

pub well-formed : (file : List ℕ) (at : ℕ) → Headed file at → map_at file at < 2 ^ length (record_widths file at) → record_end file at ≤ length file → 0 ≡ record_form file at
unfolding record_form
well-formed file at g b h = rw (le-ltb max_file (length file) g.within, le-ltb (length file) (at + 2) g.header, g.known, lt-leb _ _ b, le-ltb _ _ h)

-- a record that meets none of them
pub record Formed (file : List ℕ) (at : ℕ) : Type 0 where
  pub within : length file ≤ max_file
  pub header : at + 2 ≤ length file
  pub low : 1 ≤ kind_at file at
  pub high : kind_at file at ≤ 9
  pub fit : record_end file at ≤ length file

pub formed : (file : List ℕ) (at : ℕ) → 0 ≡ record_form file at → Formed file at
unfolding record_form
formed file at e =
    let a = cond-none (ltb max_file (length file)) 16 _ (sym e) in
    let b = cond-none (ltb (length file) (at + 2)) 13 _ a.1 in
    let k = cond-none (is_unknown (kind_at file at)) 14 _ b.1 in
    let m = cond-none (leb (2 ^ length (record_widths file at)) (map_at file at)) 15 _ k.1 in
    let f = cond-none (ltb (length file) (record_end file at)) 13 _ m.1 in
    record {
      within = ltb-false _ _ a.0;
      header = ltb-false _ _ b.0;
      low = ltb-false _ _ (or_parts _ _ k.0).0;
      high = ltb-false _ _ (or_parts (ltb (kind_at file at) 1) _ k.0).1;
      fit = ltb-false _ _ f.0;
    }

-- a kind's number is known
pub known_kind : (kind : Kind) → is_unknown (kind_number kind) ≡ false
known_kind Line = refl
known_kind FilledLine = refl
known_kind Rectangle = refl
known_kind Circle = refl
known_kind Points = refl
known_kind Layer = refl
known_kind Marker = refl
known_kind Label = refl
known_kind Dot = refl

-- the widths, read by the kind in the rest of the file
pub widths-are : (file : List ℕ) (at n : ℕ) → n ≡ kind_at file at → widths_of n (map_at file at) (take (length file - (at + 2)) (drop (at + 2) file)) ≡ record_widths file at
widths-are file at n e = rw (part_to_end file (at + 2), e)

-- what the map is refused with, as a number
pub extra-refused : (file : List ℕ) (at : ℕ) (refusal : Refusal) → Headed file at → number_of refusal ≡ cond (leb (2 ^ length (record_widths file at)) (map_at file at)) 16 0
    → number_of refusal ≡ record_form file at
extra-refused file at refusal g e = go (leb (2 ^ length (record_widths file at)) (map_at file at)) refl
  where
    go : (b : Bool) → leb (2 ^ length (record_widths file at)) (map_at file at) ≡ b → number_of refusal ≡ record_form file at
    go true t = e ∙ rw t (extra-bit file at g (leb-true _ _ t))
    go false t = absurd (some-number refusal (e ∙ rw t))

pub map-bound : (file : List ℕ) (at : ℕ) → ◌≡◌ {A = ℕ} 0 (cond (leb (2 ^ length (record_widths file at)) (map_at file at)) 16 0) → map_at file at < 2 ^ length (record_widths file at)
map-bound file at e = leb-false _ _ (cond-none (leb (2 ^ length (record_widths file at)) (map_at file at)) 15 0 (sym e)).0

pub headed : (file : List ℕ) (at : ℕ) (kind : Kind) → kind_number kind ≡ kind_at file at → length file ≤ max_file → at + 2 ≤ length file → Headed file at
headed file at kind e w h = record { within = w; header = h; known = rw (← e) (known_kind kind) }

pub known-formed : (file : List ℕ) (at : ℕ) → Formed file at → is_unknown (kind_at file at) ≡ false
known-formed file at f = rw (le-ltb (kind_at file at) 1 f.low, le-ltb 9 (kind_at file at) f.high)
