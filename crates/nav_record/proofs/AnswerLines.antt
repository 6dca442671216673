-- The text of an answer is whole lines.
use Rattle.std.proofs.Common.{◌≡◌, ◌∙◌, refl, sym, ap, ℕ, ◌+◌, ℤ, pos, negsuc, suc, true, List, [], ◌∷◌, ◌++◌, length, codes, decimal, arith}
use Rattle.std.specs.Fmt.{signed_decimal}
use Rattle.std.specs.List.{flat_map}
use Rattle.std.proofs.lemmas.Bool.{and_from}
use Rattle.std.proofs.lemmas.Grind.{flat_map-append}
use Rattle.std.proofs.lemmas.List.{append-nil, length-append}
use Rattle.std.proofs.lemmas.List.Folds.{list_all-append}
use Rattle.nav_base.specs.declared.point.FloorAt.{FloorAt}
use Rattle.nav_base.specs.declared.point.Point.{Point}
use Rattle.mesh_types.specs.declared.answers.Answer.{Answer}
use Rattle.mesh_types.specs.declared.answers.Answer.TheVariants.{Floors, Path, NoStart, NoGoal, NoPath, Reached, Wall}
use Rattle.mesh_types.specs.declared.answers.PathFound.{PathFound}
use Rattle.mesh_types.specs.declared.answers.Corner.{Corner}
use Rattle.mesh_types.specs.declared.answers.Side.{Side}
use Rattle.mesh_types.specs.declared.answers.Side.TheVariants.{L, R}
use Rattle.mesh_types.specs.declared.links.Link.{Link}
use Rattle.mesh_types.specs.declared.links.PolyRef.{PolyRef}
use Rattle.nav_text.specs.Lines.{ended, is_line, text_of}
use Rattle.nav_record.specs.OneLine.{IsOneLine, HasLines}
use Rattle.nav_record.specs.AnswerTexts.{floor_text, floors_text, poly_text, point_text, link_text, side_text, turn_text, first_line_text, answer_text, line_count}
use Rattle.nav_record.proofs.OneLineLaws.{is_line-decimal, is_line-append}

-- one line
pub one : {text : List ℕ} → IsOneLine text → HasLines text 1
one (line, is, plain) = (line ∷ [], is ∙ sym (append-nil (ended line)), and_from _ _ plain refl, refl)

-- the lines of two texts
pub both : {front back : List ℕ} {n m : ℕ} (count : ℕ) → HasLines front n → HasLines back m → n + m ≡ count → HasLines (front ++ back) count
both {front} {back} {n} {m} count (those, is, plain, long) (more, equal, well, far) sum = (
  those ++ more,
  ap (λ t. t ++ back) is ∙ ap (λ t. text_of those ++ t) equal ∙ sym (flat_map-append ended those more),
  list_all-append is_line those more ∙ and_from _ _ plain well,
  length-append those more ∙ ap (λ k. k + length more) long ∙ ap (λ k. n + k) far ∙ sum,
)

-- a line for each element
pub each : {X : Type 0} (f : X → List ℕ) → ((x : X) → IsOneLine (f x)) → (xs : List X) → HasLines (flat_map f xs) (length xs)
each f line [] = ([], refl, refl, refl)
each f line (x ∷ xs) = both (length (x ∷ xs)) (one (line x)) (each f line xs) (omega arith)

-- a sign and a number have no line feed in them
signed_plain : (z : ℤ) → is_line (signed_decimal z) ≡ true
signed_plain (pos n) = is_line-decimal n
signed_plain (negsuc n) = is_line-append (45 ∷ []) (decimal (suc n)) refl (is_line-decimal (suc n))

-- a text without a line feed
abbrev pub Plain : Type 0
Plain = (text : List ℕ) × (is_line text ≡ true)

-- a text and another behind it
abbrev pub then : Plain → (more : List ℕ) → is_line more ≡ true → Plain
then (text, plain) more well = (text ++ more, is_line-append text more plain well)

-- a text, a space and another text
abbrev pub spaced : Plain → (more : List ℕ) → is_line more ≡ true → Plain
spaced front more well = then (then front (codes " ") refl) more well

-- a text and a line feed
pub line_of : (line : Plain) → IsOneLine (line.0 ++ codes "\n")
line_of (text, plain) = (text, refl, plain)

pub poly_plain : (at : PolyRef) → is_line (poly_text at) ≡ true
poly_plain at = (spaced (decimal at.tile, is_line-decimal at.tile) (decimal at.index) (is_line-decimal at.index)).1

pub point_plain : (p : Point) → is_line (point_text p) ≡ true
point_plain p = (spaced (signed_decimal p.x, signed_plain p.x) (signed_decimal p.z) (signed_plain p.z)).1

side_plain : (side : Side) → is_line (side_text side) ≡ true
side_plain L = refl
side_plain R = refl

floors_plain : (floors : List FloorAt) → is_line (flat_map floor_text floors) ≡ true
floors_plain [] = refl
floors_plain (floor ∷ more) =
    let y = spaced ([], refl) (decimal floor.y) (is_line-decimal floor.y) in
    is_line-append (floor_text floor) (flat_map floor_text more) (spaced y (decimal floor.area) (is_line-decimal floor.area)).1 (floors_plain more)

-- a word and a number
abbrev pub named : (word : List ℕ) → is_line word ≡ true → ℕ → Plain
named word plain k = then (word, plain) (decimal k) (is_line-decimal k)

floors_line : (k : ℕ) (floors : List FloorAt) → IsOneLine (floors_text k floors)
floors_line k floors =
    let front = spaced (named (codes "floors ") refl k) (decimal (length floors)) (is_line-decimal (length floors)) in
    line_of (then front (flat_map floor_text floors) (floors_plain floors))

pub link_line : (link : Link) → IsOneLine (link_text link)
link_line link =
    let to = then (codes "link ", refl) (poly_text link.to) (poly_plain link.to) in
    let left = spaced to (point_text link.portal.left) (point_plain link.portal.left) in
    line_of (spaced left (point_text link.portal.right) (point_plain link.portal.right))

pub turn_line : (turn : Corner) → IsOneLine (turn_text turn)
turn_line turn =
    let at = then (codes "turn ", refl) (point_text turn.at) (point_plain turn.at) in
    line_of (spaced (spaced at (side_text turn.side) (side_plain turn.side)) (decimal turn.portal) (is_line-decimal turn.portal))

first_line : (k : ℕ) (found : PathFound) → IsOneLine (first_line_text k found)
first_line k found =
    let cost = spaced (named (codes "path ") refl k) (decimal found.cost) (is_line-decimal found.cost) in
    let first = spaced cost (poly_text found.first) (poly_plain found.first) in
    let links = spaced first (decimal (length found.links)) (is_line-decimal (length found.links)) in
    line_of (spaced links (decimal (length found.turns)) (is_line-decimal (length found.turns)))

reached_line : (k : ℕ) (at : PolyRef) → IsOneLine (answer_text k (Reached at))
reached_line k at = line_of (spaced (named (codes "reached ") refl k) (poly_text at) (poly_plain at))

wall_line : (k : ℕ) (a b : Point) (num den : ℤ) → IsOneLine (answer_text k (Wall a b num den))
wall_line k a b num den =
    let edge = spaced (spaced (named (codes "wall ") refl k) (point_text a) (point_plain a)) (point_text b) (point_plain b) in
    line_of (spaced (spaced edge (signed_decimal num) (signed_plain num)) (signed_decimal den) (signed_plain den))

pub answer_lines : (k : ℕ) (answer : Answer) → HasLines (answer_text k answer) (line_count answer)
answer_lines k (Floors floors) = one (floors_line k floors)
answer_lines k (Path found) =
    let steps = both (length found.links + length found.turns) (each link_text link_line found.links) (each turn_text turn_line found.turns) refl in
    both (line_count (Path found)) (one (first_line k found)) steps (omega arith)
answer_lines k NoStart = one (line_of (named (codes "nostart ") refl k))
answer_lines k NoGoal = one (line_of (named (codes "nogoal ") refl k))
answer_lines k NoPath = one (line_of (named (codes "nopath ") refl k))
answer_lines k (Reached at) = one (reached_line k at)
answer_lines k (Wall a b num den) = one (wall_line k a b num den)
