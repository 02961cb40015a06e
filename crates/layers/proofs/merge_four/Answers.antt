-- Four cells without ink stay as they are; the others go by the marker.
use mathlib.Core.Path.{◌≡◌, refl, ◌∙◌}
use mathlib.Core.Logic.{inl, inr}
use Rattle.std.proofs.Common.{rules}
use Rattle.grids.specs.declared.markers.Marker.TheVariants.{Braille, Dot, Custom}
use Rattle.grids.specs.Symbols.{pattern_count}
use Rattle.layers.proofs.merge_four.Goals as goal

pub returns-in-Braille : goal.returns-in-Braille
unfolding pattern_count
returns-in-Braille c =
    rw c.in-Braille.is (c.merge_four_symbols.ensures Braille _ refl refl refl (λ pattern word below called. search rules))

pub returns-in-Dot : goal.returns-in-Dot
unfolding pattern_count
returns-in-Dot c =
    elim c.in-Dot.is [
      | inl e ↦ rw e (c.merge_four_symbols-in-Dot.ensures Dot _ refl refl refl (λ pattern word below called.
          let one : word ≡ c.args.word = search rules in
          one ∙ rw e at c.requires.1))
      | inr e ↦ rw e (c.merge_four_symbols-in-Dot.ensures Custom _ refl refl refl (λ pattern word below called.
          let one : word ≡ c.args.word = search rules in
          one ∙ rw e at c.requires.1))
    ]
