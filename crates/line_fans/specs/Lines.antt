-- Lines over portals, and numbers below which no such line comes.
-- A length is a sum of roots, and no whole number. So a line is held together with whole numbers that its legs do not exceed, counted in d-ths of
-- a sixteenth for any d: its points may be any rational ones, and bounds as fine as one likes.
use Rattle.std.specs.Prelude.{◌≡◌, ℕ, pos, ◌+◌, ◌*◌, ◌≤◌, ◌<◌, ◌*ℤ◌, ◌≤ℤ◌, List, [], ◌∷◌}
use Rattle.nav_base.specs.declared.point.Point.{Point}
use Rattle.nav_base.specs.Deviation.{square_of}
use Rattle.nav_base.specs.Point.{from_to, dot_of, orient_of}
use Rattle.mesh_types.specs.declared.links.Portal.{Portal}

-- a point d times as far out: the same place, where d-ths are counted
abbrev pub spread : ℕ → Point → Point
spread d p = record { x = pos d *ℤ p.x; z = pos d *ℤ p.z }

-- a number is no less than the distance of two points
abbrev pub Reaches : ℕ → Point → Point → Type 0
Reaches r a b = square_of (from_to a b) ≤ r * r

-- a point lies on a portal, in d-ths of a sixteenth
pub record IsOn (d : ℕ) (portal : Portal) (p : Point) : Type 0 where
  pub on_line : orient_of (spread d portal.left) (spread d portal.right) p ≡ pos 0
  pub between : dot_of (from_to p (spread d portal.left)) (from_to p (spread d portal.right)) ≤ℤ pos 0

-- a line from a point, over a point of each portal, to a goal, no longer than r: all in d-ths
abbrev pub IsLine : ℕ → Point → List Portal → Point → ℕ → Type 0
IsLine d a [] goal r = Reaches r a goal
IsLine d a (portal ∷ portals) goal r =
    (p : Point) × (q s : ℕ) × IsOn d portal p × Reaches q a p × IsLine d p portals goal s × (q + s ≡ r)

-- no line over portals is shorter than a number of parts, 4096 to a sixteenth
pub record IsUnder (portals : List Portal) (start goal : Point) (parts : ℕ) : Type 0 where
  pub each : (d r : ℕ) → 0 < d → IsLine d (spread d start) portals (spread d goal) r → parts * d ≤ 4096 * r
