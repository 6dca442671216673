-- What every saved registry keeps.
use Rattle.std.specs.Prelude.{◌≡◌, ◌≢◌, ℕ, ◌<◌, ◌≤◌, ◌^◌, ⊤, length, All, AllPairs, FitsSigned}
use Rattle.std.specs.Int.{w32}
use Rattle.nav_base.specs.declared.point.Point.{Point}
use Rattle.nav_ground.specs.Limits.{IsShape}
use Rattle.nav_ground.specs.declared.shape.Shape.{Shape}
use Rattle.nav_ground.specs.declared.shape.Shape.TheVariants.{Prism, Disc}
use Rattle.registry_format.specs.Spelling.{saved_words}
use Rattle.registry_format.specs.declared.saved.SavedObstacle.{SavedObstacle}
use Rattle.registry_format.specs.declared.saved.SavedRegistry.{SavedRegistry}

-- the parts of a point are numbers of 32 bits with a sign
pub record FitsPoint (point : Point) : Type 0 where
  pub x : FitsSigned w32 point.x
  pub z : FitsSigned w32 point.z

-- so do those of a shape, and a prism's base has six places, also behind its last corner
abbrev pub FitsParts : Shape → Type 0
FitsParts (Prism base area y0 y1) = (length base.corners ≡ 6) × All FitsPoint base.corners
FitsParts (Disc x z r area y0 y1) = FitsPoint (record { x = x; z = z })
FitsParts _ = ⊤

-- the numbers fit their words, and so do those with a sign: each value of the program does
pub record FitsWords (saved : SavedRegistry) : Type 0 where
  pub words : All (λ word. word < 2 ^ 32) (saved_words saved)
  pub parts : All (λ (row : SavedObstacle). FitsParts row.shape) saved.rows

-- a row has an id from 1 up to the last one, and a shape within its limits
pub record IsSavedRow (last : ℕ) (row : SavedObstacle) : Type 0 where
  pub from_one : 1 ≤ row.id
  pub given : row.id ≤ last
  pub limits : IsShape row.shape

-- there are no more rows than may be, by rising ids; and those that are on are rows, each once, and no more of them than the field allows
pub record KeepsRules (saved : SavedRegistry) : Type 0 where
  pub few : length saved.rows ≤ 65536
  pub rising : AllPairs (λ (a b : SavedObstacle). a.id < b.id) saved.rows
  pub each : All (IsSavedRow saved.last) saved.rows
  pub there : All (λ place. place < length saved.rows) saved.on
  pub once : AllPairs (λ (a b : ℕ). a ≢ b) saved.on
  pub few_on : length saved.on ≤ saved.field.limit

-- a saved registry
pub record IsSaved (saved : SavedRegistry) : Type 0 where
  pub fits : FitsWords saved
  pub rules : KeepsRules saved
