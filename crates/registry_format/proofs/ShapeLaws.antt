-- A shape that is written as words is read again.
use Rattle.std.proofs.Common.{◌≡◌, ℕ, suc, ◌*◌, List, [], ◌∷◌, ◌++◌, length, drop, flat_map, refl, ap, ◌∙◌, arith, append_assoc, length-append}
use Rattle.std.specs.Prelude.{All, if◌then◌else◌}
use Rattle.std.proofs.lemmas.Bool.{ne_eqb}
use Rattle.std.proofs.lemmas.List.{drop_at}
use Rattle.nav_base.specs.declared.point.Point.{Point}
use Rattle.nav_ground.specs.Limits.{IsShape}
use Rattle.nav_ground.specs.declared.shape.Shape.{Shape}
use Rattle.nav_ground.specs.declared.shape.Shape.TheVariants.{Block, Cylinder, AreaBlock, AreaCylinder, Prism, Disc}
use Rattle.registry_format.specs.Reading.{row_of, rows_of, shape_of}
use Rattle.registry_format.specs.Saved.{FitsPoint, FitsParts}
use Rattle.registry_format.specs.Spelling.{corner_words, prism_words, row_words, shape_words}
use Rattle.registry_format.specs.declared.saved.SavedObstacle.{SavedObstacle}
use Rattle.registry_format.proofs.Numbers.{part_again, point_again, wide_again}

prism_again : (corners : List Point) (count area y0 y1 : ℕ) (rest : List ℕ) → length corners ≡ 6 → All FitsPoint corners
    → shape_of (prism_words (record { count = count; corners = corners }) area y0 y1 ++ rest) ≡ Prism (record { count = count; corners = corners }) area y0 y1
prism_again [] count area y0 y1 rest six fits = absurd (omega (arith, six))
prism_again (a ∷ []) count area y0 y1 rest six fits = absurd (omega (arith, six))
prism_again (a ∷ b ∷ []) count area y0 y1 rest six fits = absurd (omega (arith, six))
prism_again (a ∷ b ∷ c ∷ []) count area y0 y1 rest six fits = absurd (omega (arith, six))
prism_again (a ∷ b ∷ c ∷ d ∷ []) count area y0 y1 rest six fits = absurd (omega (arith, six))
prism_again (a ∷ b ∷ c ∷ d ∷ e ∷ []) count area y0 y1 rest six fits = absurd (omega (arith, six))
prism_again (a ∷ b ∷ c ∷ d ∷ e ∷ f ∷ []) count area y0 y1 rest six fits =
    let first = point_again a (fits 0 a (omega arith)) in
    let second = point_again b (fits 1 b (omega arith)) in
    let third = point_again c (fits 2 c (omega arith)) in
    let fourth = point_again d (fits 3 d (omega arith)) in
    let fifth = point_again e (fits 4 e (omega arith)) in
    let sixth = point_again f (fits 5 f (omega arith)) in
    λ i. Prism (record { count = count; corners = first i ∷ second i ∷ third i ∷ fourth i ∷ fifth i ∷ sixth i ∷ [] }) area y0 y1
prism_again (a ∷ b ∷ c ∷ d ∷ e ∷ f ∷ g ∷ more) count area y0 y1 rest six fits = absurd (omega (arith, six))

pub shape_again : (shape : Shape) (rest : List ℕ) → IsShape shape → FitsParts shape → shape_of (shape_words shape ++ rest) ≡ shape
shape_again (Block x0 x1 y0 y1 z0 z1) rest limits places = refl
shape_again (AreaBlock area x0 x1 y0 y1 z0 z1) rest limits places =
    ap (λ b. if b then Block x0 x1 y0 y1 z0 z1 else AreaBlock area x0 x1 y0 y1 z0 z1) (ne_eqb area 0 (λ same. omega (arith, same, limits.0.least)))
shape_again (Cylinder cx cz r y0 y1) rest limits places = refl
shape_again (AreaCylinder area cx cz r y0 y1) rest limits places =
    ap (λ b. if b then Cylinder cx cz r y0 y1 else AreaCylinder area cx cz r y0 y1) (ne_eqb area 0 (λ same. omega (arith, same, limits.0.least)))
shape_again (Prism base area y0 y1) rest limits places = prism_again base.corners base.count area y0 y1 rest places.0 places.1
shape_again (Disc x z r area y0 y1) rest limits places =
    let across : FitsPoint (record { x = x; z = z }) = places in
    λ i. Disc (part_again x across.x i) (part_again z across.z i) r area y0 y1

corners_long : (corners : List Point) → length (flat_map corner_words corners) ≡ 2 * length corners
corners_long [] = refl
corners_long (corner ∷ corners) = let rest = corners_long corners in omega (arith, rest)

shape_long : (shape : Shape) → FitsParts shape → length (shape_words shape) ≡ 17
shape_long (Block x0 x1 y0 y1 z0 z1) places = refl
shape_long (AreaBlock area x0 x1 y0 y1 z0 z1) places = refl
shape_long (Cylinder cx cz r y0 y1) places = refl
shape_long (AreaCylinder area cx cz r y0 y1) places = refl
shape_long (Prism base area y0 y1) places = let long = corners_long base.corners in omega (arith, long, places.0)
shape_long (Disc x z r area y0 y1) places = refl

-- a row has 21 words
pub row_long : (row : SavedObstacle) → FitsParts row.shape → length (row_words row) ≡ 21
row_long row places = let long = shape_long row.shape places in omega (arith, long)

row_again : (row : SavedObstacle) (rest : List ℕ) → IsShape row.shape → FitsParts row.shape → row_of (row_words row ++ rest) ≡ row
row_again row rest limits places =
    λ i. record { id = wide_again row.id i; user = wide_again row.user i; shape = shape_again row.shape rest limits places i }

-- so is a list of rows, whatever follows
pub rows_again : (rows : List SavedObstacle) (rest : List ℕ) → All (λ (row : SavedObstacle). IsShape row.shape) rows
    → All (λ (row : SavedObstacle). FitsParts row.shape) rows → rows_of (length rows) (flat_map row_words rows ++ rest) ≡ rows
unfolding rows_of
rows_again [] rest limits places = refl
rows_again (row ∷ rows) rest limits places =
    let later = rows_again rows rest (λ k d within. limits (suc k) d (omega (arith, within))) (λ k d within. places (suc k) d (omega (arith, within))) in
    let here = places 0 row (omega arith) in
    let split : flat_map row_words (row ∷ rows) ++ rest ≡ row_words row ++ (flat_map row_words rows ++ rest) = append_assoc (row_words row) (flat_map row_words rows) rest in
    let first : row_of (flat_map row_words (row ∷ rows) ++ rest) ≡ row =
    ap row_of split ∙ row_again row (flat_map row_words rows ++ rest) (limits 0 row (omega arith)) here in
    let past : drop 21 (flat_map row_words (row ∷ rows) ++ rest) ≡ flat_map row_words rows ++ rest =
    ap (drop 21) split ∙ drop_at (row_words row) (flat_map row_words rows ++ rest) 21 (row_long row here) in
    λ i. first i ∷ (ap (rows_of (length rows)) past ∙ later) i

pub rows_long : (rows : List SavedObstacle) → All (λ (row : SavedObstacle). FitsParts row.shape) rows → length (flat_map row_words rows) ≡ 21 * length rows
rows_long [] places = refl
rows_long (row ∷ rows) places =
    let later = rows_long rows (λ k d within. places (suc k) d (omega (arith, within))) in
    omega (arith, later, row_long row (places 0 row (omega arith)), length-append (row_words row) (flat_map row_words rows))
