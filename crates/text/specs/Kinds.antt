-- The kinds of spaces as the code has them, and the front of an S line.
use Rattle.std.specs.Prelude.{ℕ, List, [], ◌∷◌, map}
use Rattle.model.specs.Spaces as model
use Rattle.model.specs.Text.{decimal, kind_letter, colon, spaced}
use Rattle.text.specs.Letters.{letter_s}
use Rattle.text.specs.declared.kinds.Kind.{Kind}
use Rattle.text.specs.declared.kinds.Kind.TheVariants.{Static, Attribute, Property, Mixed, Wide, Rescued}

unfoldable pub kind_says : Kind → model.Kind
kind_says Static = model.static
kind_says Attribute = model.attribute
kind_says Property = model.property
kind_says Mixed = model.mixed
kind_says Wide = model.wide
kind_says Rescued = model.rescued

-- an S line up to its properties
unfoldable pub space_front : ℕ → model.Kind → List ℕ → List ℕ
space_front n kind properties = spaced ((letter_s ∷ []) ∷ decimal n ∷ (kind_letter kind ∷ []) ∷ colon ∷ map decimal properties)
