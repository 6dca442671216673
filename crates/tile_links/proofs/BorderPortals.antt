-- The portal of a link over a border lies on the edges of both polygons: on the one in its direction, on the other in the opposite one.
use Rattle.std.proofs.Common.{◌≡◌, ℕ, zero, suc, ◌+◌, ◌-◌, ◌*◌, ◌<◌, ◌≤◌, ℤ, pos, ◌≤ℤ◌, ◌+ℤ◌, ap, ◌∙◌, sym, subst, arith}
use Rattle.std.specs.Prelude.{min}
use Rattle.std.specs.Int.{div_ceil}
use Rattle.std.proofs.lemmas.Int.{ints}
use Rattle.nav_base.specs.declared.point.Point.{Point}
use Rattle.nav_ground.specs.declared.setting.Setting.{Setting}
use Rattle.nav_ground.specs.declared.cell.Window.{Window}
use Rattle.nav_ground.specs.Limits.{IsSetting}
use Rattle.nav_ground.specs.Cells.{opposite}
use Rattle.nav_ground.specs.Tiling.{tile_window}
use Rattle.nav_ground.proofs.Places.{begins_inside}
use Rattle.mesh_types.specs.BorderLinks.{scaled, side_portal}
use Rattle.mesh_types.specs.FitTiles.{LiesOnSide, RunsOver}
use Rattle.mesh_types.specs.Portals.{LiesAlong}
use Rattle.tile_links.specs.Across.{fixed_of}
use Rattle.tile_links.proofs.TilesAcross.{IsPlacedAcross}
use Rattle.tile_links.proofs.AxisWalks.{Rises, up_z, down_z, up_x, down_x}

-- where a side of a tile lies
abbrev pub side_line : Window → ℕ → ℤ
side_line window zero = window.x0
side_line window (suc zero) = window.z1 +ℤ pos 1
side_line window (suc (suc zero)) = window.x1 +ℤ pos 1
side_line window (suc (suc (suc side))) = window.z0

-- an edge on a line of x or of z, moved to where its ends are known to lie
on_x : (line ux vx : ℤ) (uz vz : ℤ) (right left : Point) → ux ≡ line → vx ≡ line → LiesAlong (scaled line uz) (scaled line vz) right left
    → LiesAlong (scaled ux uz) (scaled vx vz) right left
on_x line ux vx uz vz right left u v lies =
    subst (λ (n : ℤ). LiesAlong (scaled n uz) (scaled vx vz) right left) (sym u)
    (subst (λ (n : ℤ). LiesAlong (scaled line uz) (scaled n vz) right left) (sym v) lies)

on_z : (line uz vz : ℤ) (ux vx : ℤ) (right left : Point) → uz ≡ line → vz ≡ line → LiesAlong (scaled ux line) (scaled vx line) right left
    → LiesAlong (scaled ux uz) (scaled vx vz) right left
on_z line uz vz ux vx right left u v lies =
    subst (λ (n : ℤ). LiesAlong (scaled ux n) (scaled vx vz) right left) (sym u)
    (subst (λ (n : ℤ). LiesAlong (scaled ux line) (scaled vx n) right left) (sym v) lies)

-- positions along an edge
pub record AreOn (lo hi first last : ℕ) : Type 0 where
  pub least : lo ≤ first
  pub order : first ≤ last
  pub most : last < hi

rises : (u v : ℤ) (lo hi first last : ℕ) → AreOn lo hi first last → u ≤ℤ pos lo → pos hi ≤ℤ v → Rises u v (pos first) (pos (last + 1))
rises u v lo hi first last are low high = record {
  begins = omega (arith, ints, low, are.least);
  forward = omega (arith, ints, are.order);
  ends = omega (arith, ints, high, are.most);
}

-- out of a tile over a side
pub portal_out : (side : ℕ) (window : Window) (u v : Point) (line : ℤ) (lo hi first last : ℕ) → side < 4 → LiesOnSide window side u v → RunsOver side u v lo hi
    → AreOn lo hi first last → line ≡ side_line window side
    → LiesAlong (scaled u.x u.z) (scaled v.x v.z) (side_portal side line first last).right (side_portal side line first last).left
portal_out zero window u v line lo hi first last four lies runs are at =
    on_x line u.x v.x u.z v.z _ _ (lies.0 ∙ sym at) (lies.1 ∙ sym at) (down_z line u.z v.z _ _ (rises v.z u.z lo hi first last are runs.0 runs.1))
portal_out (suc zero) window u v line lo hi first last four lies runs are at =
    on_z line u.z v.z u.x v.x _ _ (lies.0 ∙ sym at) (lies.1 ∙ sym at) (down_x line u.x v.x _ _ (rises v.x u.x lo hi first last are runs.0 runs.1))
portal_out (suc (suc zero)) window u v line lo hi first last four lies runs are at =
    on_x line u.x v.x u.z v.z _ _ (lies.0 ∙ sym at) (lies.1 ∙ sym at) (up_z line u.z v.z _ _ (rises u.z v.z lo hi first last are runs.0 runs.1))
portal_out (suc (suc (suc zero))) window u v line lo hi first last four lies runs are at =
    on_z line u.z v.z u.x v.x _ _ (lies.0 ∙ sym at) (lies.1 ∙ sym at) (up_x line u.x v.x _ _ (rises u.x v.x lo hi first last are runs.0 runs.1))
portal_out (suc (suc (suc (suc side)))) window u v line lo hi first last four lies runs are at = absurd (omega (arith, four))

-- into the tile across
pub portal_in : (side : ℕ) (window : Window) (u v : Point) (line : ℤ) (lo hi first last : ℕ) → side < 4 → LiesOnSide window (opposite side) u v
    → RunsOver (opposite side) u v lo hi → AreOn lo hi first last → line ≡ side_line window (opposite side)
    → LiesAlong (scaled u.x u.z) (scaled v.x v.z) (side_portal side line first last).left (side_portal side line first last).right
portal_in zero window u v line lo hi first last four lies runs are at =
    on_x line u.x v.x u.z v.z _ _ (lies.0 ∙ sym at) (lies.1 ∙ sym at) (up_z line u.z v.z _ _ (rises u.z v.z lo hi first last are runs.0 runs.1))
portal_in (suc zero) window u v line lo hi first last four lies runs are at =
    on_z line u.z v.z u.x v.x _ _ (lies.0 ∙ sym at) (lies.1 ∙ sym at) (up_x line u.x v.x _ _ (rises u.x v.x lo hi first last are runs.0 runs.1))
portal_in (suc (suc zero)) window u v line lo hi first last four lies runs are at =
    on_x line u.x v.x u.z v.z _ _ (lies.0 ∙ sym at) (lies.1 ∙ sym at) (down_z line u.z v.z _ _ (rises v.z u.z lo hi first last are runs.0 runs.1))
portal_in (suc (suc (suc zero))) window u v line lo hi first last four lies runs are at =
    on_z line u.z v.z u.x v.x _ _ (lies.0 ∙ sym at) (lies.1 ∙ sym at) (down_x line u.x v.x _ _ (rises v.x u.x lo hi first last are runs.0 runs.1))
portal_in (suc (suc (suc (suc side)))) window u v line lo hi first last four lies runs are at = absurd (omega (arith, four))

-- a tile ends where the next one begins
next_begins : (edge tile place next : ℕ) → 1 ≤ tile → place + 1 ≡ next → next < div_ceil edge tile → min edge (place * tile + tile) - 1 + 1 ≡ next * tile
next_begins edge tile place next some is there =
    let inside = begins_inside next tile edge some there in
    let product = ap (λ n. n * tile) is in
    omega (arith, inside, product)

-- the side of a tile and the opposite side of the tile across are one line
pub one_line : (setting : Setting) (tile side other : ℕ) → IsSetting setting → side < 4 → IsPlacedAcross setting tile side other
    → side_line (tile_window setting tile) side ≡ side_line (tile_window setting other) (opposite side)
one_line setting tile zero other limits four at =
    ap pos (sym (next_begins setting.width setting.tile _ _ (omega (arith, limits.tile_least)) at.beside.0 at.column))
one_line setting tile (suc zero) other limits four at =
    ap pos (next_begins setting.depth setting.tile _ _ (omega (arith, limits.tile_least)) (sym at.beside.1) at.other_row)
one_line setting tile (suc (suc zero)) other limits four at =
    ap pos (next_begins setting.width setting.tile _ _ (omega (arith, limits.tile_least)) (sym at.beside.0) at.other_column)
one_line setting tile (suc (suc (suc zero))) other limits four at =
    ap pos (sym (next_begins setting.depth setting.tile _ _ (omega (arith, limits.tile_least)) at.beside.1 at.row))
one_line setting tile (suc (suc (suc (suc side)))) other limits four at = absurd (omega (arith, four))

-- an edge on a side has the side's line
pub fixed_on_side : (side : ℕ) (window : Window) (u v : Point) → side < 4 → LiesOnSide window side u v → fixed_of side u ≡ side_line window side
fixed_on_side zero window u v four lies = lies.0
fixed_on_side (suc zero) window u v four lies = lies.0
fixed_on_side (suc (suc zero)) window u v four lies = lies.0
fixed_on_side (suc (suc (suc zero))) window u v four lies = lies.0
fixed_on_side (suc (suc (suc (suc side)))) window u v four lies = absurd (omega (arith, four))
