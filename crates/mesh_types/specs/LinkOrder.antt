-- LinkOrder: the one order of links.
use Rattle.std.specs.Prelude.{Bool, if◌then◌else◌, List, [], ◌∷◌}
use Rattle.std.specs.Ordering.{is_lt, nat_cmp, int_cmp, ordering_then}
use Rattle.std.specs.declared.cmp.Ordering.{Ordering}
use Rattle.nav_base.specs.declared.point.Point.{Point}
use Rattle.mesh_types.specs.declared.links.PolyRef.{PolyRef}
use Rattle.mesh_types.specs.declared.links.Link.{Link}

-- polygons by tile, then by place
abbrev pub poly_cmp : PolyRef → PolyRef → Ordering
poly_cmp a b = ordering_then (nat_cmp a.tile b.tile) (nat_cmp a.index b.index)

-- points by x, then by z
abbrev pub point_cmp : Point → Point → Ordering
point_cmp a b = ordering_then (int_cmp a.x b.x) (int_cmp a.z b.z)

-- a point comes before another: by x, then by z
abbrev pub is_point_before : Point → Point → Bool
is_point_before a b = is_lt (point_cmp a b)

-- links by the polygon that they leave, then by the edge, then by the polygon entered, then by the right and by the left end of the portal
abbrev pub link_cmp : Link → Link → Ordering
link_cmp a b =
    ordering_then (poly_cmp a.from b.from) (ordering_then (nat_cmp a.edge b.edge) (ordering_then (poly_cmp a.to b.to)
    (ordering_then (point_cmp a.portal.right b.portal.right) (point_cmp a.portal.left b.portal.left))))

-- a link put into links that stand in order: before the first that it comes before
abbrev pub put_link : Link → List Link → List Link
put_link link [] = link ∷ []
put_link link (other ∷ links) = if is_lt (link_cmp link other) then link ∷ other ∷ links else other ∷ put_link link links

-- links put in order
unfoldable pub ordered_links : List Link → List Link
ordered_links [] = []
ordered_links (link ∷ links) = put_link link (ordered_links links)
