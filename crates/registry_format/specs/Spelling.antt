-- A saved registry as words of 32 bits, and as bytes.
use Rattle.std.specs.Prelude.{ℕ, ℤ, ◌/◌, ◌%◌, ◌^◌, List, [], ◌∷◌, ◌++◌, length}
use Rattle.std.specs.List.{flat_map}
use Rattle.std.specs.Int.{w32, cast_unsigned, to_le_bytes}
use Rattle.nav_base.specs.declared.point.Point.{Point}
use Rattle.nav_ground.specs.declared.prism.PrismBase.{PrismBase}
use Rattle.nav_ground.specs.declared.shape.Shape.{Shape}
use Rattle.nav_ground.specs.declared.shape.Shape.TheVariants.{Block, Cylinder, AreaBlock, AreaCylinder, Prism, Disc}
use Rattle.registry_format.specs.declared.saved.SavedObstacle.{SavedObstacle}
use Rattle.registry_format.specs.declared.saved.SavedRegistry.{SavedRegistry}

-- a number of 64 bits is two words, the low one first
abbrev pub low : ℕ → ℕ
low n = n % 2 ^ 32

abbrev pub high : ℕ → ℕ
high n = n / 2 ^ 32

-- a number with a sign is the word of the same bits
abbrev pub part_word : ℤ → ℕ
part_word = cast_unsigned w32

-- a shape is 17 words: its kind (0 a block, 1 a cylinder, 2 a prism, 3 a disc), the area that it sets or 0, its two heights, its other numbers, and zeros
abbrev pub block_words : ℕ → ℕ → ℕ → ℕ → ℕ → ℕ → ℕ → List ℕ
block_words area x0 x1 y0 y1 z0 z1 = 0 ∷ area ∷ y0 ∷ y1 ∷ x0 ∷ x1 ∷ z0 ∷ z1 ∷ 0 ∷ 0 ∷ 0 ∷ 0 ∷ 0 ∷ 0 ∷ 0 ∷ 0 ∷ 0 ∷ []

abbrev pub cylinder_words : ℕ → ℕ → ℕ → ℕ → ℕ → ℕ → List ℕ
cylinder_words area cx cz r y0 y1 = 1 ∷ area ∷ y0 ∷ y1 ∷ cx ∷ cz ∷ r ∷ 0 ∷ 0 ∷ 0 ∷ 0 ∷ 0 ∷ 0 ∷ 0 ∷ 0 ∷ 0 ∷ 0 ∷ []

-- all six places of a prism's base are kept
abbrev pub corner_words : Point → List ℕ
corner_words corner = part_word corner.x ∷ part_word corner.z ∷ []

abbrev pub prism_words : PrismBase → ℕ → ℕ → ℕ → List ℕ
prism_words base area y0 y1 =
    2 ∷ area ∷ y0 ∷ y1 ∷ base.count ∷ flat_map corner_words base.corners

abbrev pub disc_words : ℤ → ℤ → ℕ → ℕ → ℕ → ℕ → List ℕ
disc_words x z r area y0 y1 = 3 ∷ area ∷ y0 ∷ y1 ∷ part_word x ∷ part_word z ∷ r ∷ 0 ∷ 0 ∷ 0 ∷ 0 ∷ 0 ∷ 0 ∷ 0 ∷ 0 ∷ 0 ∷ 0 ∷ []

abbrev pub shape_words : Shape → List ℕ
shape_words (Block x0 x1 y0 y1 z0 z1) = block_words 0 x0 x1 y0 y1 z0 z1
shape_words (AreaBlock area x0 x1 y0 y1 z0 z1) = block_words area x0 x1 y0 y1 z0 z1
shape_words (Cylinder cx cz r y0 y1) = cylinder_words 0 cx cz r y0 y1
shape_words (AreaCylinder area cx cz r y0 y1) = cylinder_words area cx cz r y0 y1
shape_words (Prism base area y0 y1) = prism_words base area y0 y1
shape_words (Disc x z r area y0 y1) = disc_words x z r area y0 y1

-- a row is its id, the host's number, and its shape: 21 words
abbrev pub row_words : SavedObstacle → List ℕ
row_words row = low row.id ∷ high row.id ∷ low row.user ∷ high row.user ∷ shape_words row.shape

-- the word that the bytes of a saved registry begin with: the letters "navd"
abbrev pub magic : ℕ
magic = 1685479790

-- the version of the format
abbrev pub format : ℕ
format = 1

-- what stands in front of the rows: 12 words
abbrev pub head_words : SavedRegistry → List ℕ
head_words saved =
    magic ∷ format ∷ saved.field.width ∷ saved.field.depth ∷ saved.field.tile ∷ saved.field.limit ∷ low saved.last ∷ high saved.last
    ∷ low saved.version ∷ high saved.version ∷ length saved.rows ∷ length saved.on ∷ []

-- the words of a saved registry: its head, its rows, and the places of those that are on
unfoldable pub saved_words : SavedRegistry → List ℕ
saved_words saved = head_words saved ++ (flat_map row_words saved.rows ++ saved.on)

-- words as bytes: four each, the least first
abbrev pub word_bytes : List ℕ → List ℕ
word_bytes words = flat_map (to_le_bytes w32) words

abbrev pub saved_bytes : SavedRegistry → List ℕ
saved_bytes saved = word_bytes (saved_words saved)
