-- The texts of answers to questions: the exact lines of each, each with its line feed, and how many there are.
use Rattle.std.specs.Prelude.{ℕ, ◌+◌, List, ◌++◌, length, codes, decimal}
use Rattle.std.specs.Fmt.{signed_decimal}
use Rattle.std.specs.List.{flat_map}
use Rattle.nav_base.specs.declared.point.FloorAt.{FloorAt}
use Rattle.nav_base.specs.declared.point.Point.{Point}
use Rattle.mesh_types.specs.declared.answers.Answer.{Answer}
use Rattle.mesh_types.specs.declared.answers.Answer.TheVariants.{Floors, Path, NoStart, NoGoal, NoPath, Reached, Wall}
use Rattle.mesh_types.specs.declared.answers.PathFound.{PathFound}
use Rattle.mesh_types.specs.declared.answers.Corner.{Corner}
use Rattle.mesh_types.specs.declared.answers.Side.{Side}
use Rattle.mesh_types.specs.declared.answers.Side.TheVariants.{L, R}
use Rattle.mesh_types.specs.declared.links.Link.{Link}
use Rattle.mesh_types.specs.declared.links.PolyRef.{PolyRef}

-- a floor: its height and its area
abbrev pub floor_text : FloorAt → List ℕ
floor_text floor = codes " " ++ decimal floor.y ++ codes " " ++ decimal floor.area

-- the length of the version that was read, how many floors there are, and then each of them
abbrev pub floors_text : ℕ → List FloorAt → List ℕ
floors_text k floors = codes "floors " ++ decimal k ++ codes " " ++ decimal (length floors) ++ flat_map floor_text floors ++ codes "\n"

-- a polygon: its tile and its place in the tile; a point: x and z, in sixteenths of a cell
abbrev pub poly_text : PolyRef → List ℕ
poly_text at = decimal at.tile ++ codes " " ++ decimal at.index

-- a point as x and z
abbrev pub point_text : Point → List ℕ
point_text p = signed_decimal p.x ++ codes " " ++ signed_decimal p.z

-- a step of a path: the polygon entered, and the left and the right end of the portal
abbrev pub link_text : Link → List ℕ
link_text link = codes "link " ++ poly_text link.to ++ codes " " ++ point_text link.portal.left ++ codes " " ++ point_text link.portal.right ++ codes "\n"

-- a turn of a path: where it is, on which side of the portal, and the portal's place in the path
abbrev pub side_text : Side → List ℕ
side_text L = codes "L"
side_text R = codes "R"

-- the line of a turn
abbrev pub turn_text : Corner → List ℕ
turn_text turn = codes "turn " ++ point_text turn.at ++ codes " " ++ side_text turn.side ++ codes " " ++ decimal turn.portal ++ codes "\n"

-- a path: its cost, its first polygon, and how many links and turns it has; then a line for each link, and then one for each turn
abbrev pub first_line_text : ℕ → PathFound → List ℕ
first_line_text k found =
    codes "path " ++ decimal k ++ codes " " ++ decimal found.cost ++ codes " " ++ poly_text found.first ++ codes " " ++ decimal (length found.links)
    ++ codes " " ++ decimal (length found.turns) ++ codes "\n"

-- all lines of a path
abbrev pub path_text : ℕ → PathFound → List ℕ
path_text k found = first_line_text k found ++ (flat_map link_text found.links ++ flat_map turn_text found.turns)

-- an answer, with the length of the version that was read
abbrev pub answer_text : ℕ → Answer → List ℕ
answer_text k (Floors floors) = floors_text k floors
answer_text k (Path found) = path_text k found
answer_text k NoStart = codes "nostart " ++ decimal k ++ codes "\n"
answer_text k NoGoal = codes "nogoal " ++ decimal k ++ codes "\n"
answer_text k NoPath = codes "nopath " ++ decimal k ++ codes "\n"
answer_text k (Reached at) = codes "reached " ++ decimal k ++ codes " " ++ poly_text at ++ codes "\n"
answer_text k (Wall a b num den) =
    codes "wall " ++ decimal k ++ codes " " ++ point_text a ++ codes " " ++ point_text b ++ codes " " ++ signed_decimal num ++ codes " "
    ++ signed_decimal den ++ codes "\n"

-- an answer is one line; a path is one, and one more for each link and for each turn
abbrev pub line_count : Answer → ℕ
line_count (Path found) = 1 + length found.links + length found.turns
line_count _ = 1
