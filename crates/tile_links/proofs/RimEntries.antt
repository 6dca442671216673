-- What the entries of a fit tile's rim name, and links entry by entry.
use Rattle.std.proofs.Common.{◌≡◌, ℕ, zero, suc, ◌+◌, ◌<◌, ◌≤◌, pos, Bool, true, false, cond, List, [], ◌∷◌, ◌++◌, length, take, filter, get_or, ap, ◌∙◌, sym, subst, arith, append_assoc}
use Rattle.std.specs.Prelude.{All, Some, slice_get}
use Rattle.std.specs.List.{flat_map}
use Rattle.std.proofs.lemmas.Int.{ints}
use Rattle.std.proofs.lemmas.Grind.{flat_map-append}
use Rattle.std.proofs.lemmas.List.{append-nil}
use Rattle.std.proofs.lemmas.List.Elements.{filter_more}
use Rattle.std.proofs.lemmas.Option.{get_or_from_slice_get, slice_get_within}
use Rattle.nav_base.specs.declared.point.Point.{Point}
use Rattle.nav_base.specs.Point.{IsCellCorner}
use Rattle.nav_base.specs.Convex.{place_after}
use Rattle.nav_base.proofs.ConvexLaws.{place_after-in}
use Rattle.nav_ground.specs.declared.setting.Setting.{Setting}
use Rattle.mesh_types.specs.declared.polygon.Polygon.{Polygon}
use Rattle.mesh_types.specs.declared.mesh.RimEdge.{RimEdge}
use Rattle.mesh_types.specs.declared.mesh.TileMesh.{TileMesh}
use Rattle.mesh_types.specs.FitTiles.{IsFit, IsPolygon, IsRimOf, RunsOver}
use Rattle.tile_links.specs.Across.{IsNamed, IsWithinField}

-- positions that an edge between cell corners runs over lie in the largest field
within_field : (side : ℕ) (u v : Point) (first end : ℕ) → IsCellCorner u → IsCellCorner v → RunsOver side u v first end → end ≤ 1024
within_field zero u v first end cu cv runs = omega (arith, ints, cu.top, runs.1)
within_field (suc zero) u v first end cu cv runs = omega (arith, ints, cu.right, runs.1)
within_field (suc (suc zero)) u v first end cu cv runs = omega (arith, ints, cv.top, runs.1)
within_field (suc (suc (suc side))) u v first end cu cv runs = omega (arith, ints, cv.right, runs.1)

-- a polygon that is there keeps the rules of all
pub polygon_at : (polys : List Polygon) (i : ℕ) (polygon : Polygon) → All IsPolygon polys → slice_get polys i ≡ Some polygon → IsPolygon polygon
polygon_at polys i polygon each there =
    subst IsPolygon (get_or_from_slice_get polys i polygon polygon there) (each i polygon (slice_get_within polys i polygon there))

pub named : (setting : Setting) (tile : TileMesh) (entry : RimEdge) → All IsPolygon tile.polys → IsRimOf setting tile entry → IsNamed tile entry
named setting tile entry polys rim =
    let rules = polygon_at tile.polys entry.poly rim.polygon polys rim.is_there in
    let first = rules.corners entry.edge (record { x = pos 0; z = pos 0 }) rim.edge in
    let next = rules.corners (place_after (length rim.polygon.corners) entry.edge) (record { x = pos 0; z = pos 0 })
    (place_after-in (length rim.polygon.corners) entry.edge rim.edge) in
    record {
      polygon = rim.polygon;
      is_there = rim.is_there;
      x = record { least = first.left; most = first.right };
      z = record { least = first.bottom; most = first.top };
      positions = λ some. within_field entry.side _ _ entry.first (entry.first + length entry.pairs) first next (rim.runs some);
    }

-- so the positions of all entries do
pub rim_within_field : (setting : Setting) (tile : TileMesh) → IsFit setting tile → All IsWithinField tile.rim
rim_within_field setting tile fit k d there = (named setting tile (get_or tile.rim k d) fit.polys (fit.rim k d there)).positions

pub named_in : (setting : Setting) (tile : TileMesh) (entries : List RimEdge) (i : ℕ) (entry : RimEdge) → IsFit setting tile → entries ≡ tile.rim
    → i < length entries → entry ≡ get_or entries i entry → IsNamed tile entry
named_in setting tile entries i entry fit same there is =
    named setting tile entry fit.polys
    (subst (IsRimOf setting tile) (sym (is ∙ ap (λ xs. get_or xs i entry) same)) (fit.rim i entry (omega (arith, there, ap length same))))

-- what is made of one element more that a test keeps
made_more : {X Y : Type 0} (p : X → Bool) (f : X → List Y) (xs : List X) (i : ℕ) (d : X) (keeps : Bool) → i < length xs → p (get_or xs i d) ≡ keeps
    → flat_map f (filter p (take (i + 1) xs)) ≡ flat_map f (filter p (take i xs)) ++ flat_map f (cond keeps (get_or xs i d ∷ []) [])
made_more p f xs i d keeps there is =
    ap (flat_map f) (filter_more p xs i d there)
    ∙ flat_map-append f (filter p (take i xs)) (cond (p (get_or xs i d)) (get_or xs i d ∷ []) [])
    ∙ ap (λ b. flat_map f (filter p (take i xs)) ++ flat_map f (cond b (get_or xs i d ∷ []) [])) is

pub one_more_kept : {X Y : Type 0} (p : X → Bool) (f : X → List Y) (xs : List X) (i : ℕ) (x : X) (old made new : List Y) → i < length xs
    → x ≡ get_or xs i x → p x ≡ true → made ≡ old ++ flat_map f (filter p (take i xs)) → new ≡ made ++ f x
    → new ≡ old ++ flat_map f (filter p (take (i + 1) xs))
one_more_kept {X = X} p f xs i x old made new there is keeps before pushed =
    pushed
    ∙ ap (λ ys. ys ++ f x) before
    ∙ append_assoc old (flat_map f (filter p (take i xs))) (f x)
    ∙ ap (λ ys. old ++ (flat_map f (filter p (take i xs)) ++ ys)) (sym (append-nil (f x)) ∙ ap (λ (y : X). flat_map f (y ∷ [])) is)
    ∙ ap (λ ys. old ++ ys) (sym (made_more p f xs i x true there (sym (ap p is) ∙ keeps)))

pub one_more_left : {X Y : Type 0} (p : X → Bool) (f : X → List Y) (xs : List X) (i : ℕ) (x : X) (old made new : List Y) → i < length xs
    → x ≡ get_or xs i x → p x ≡ false → made ≡ old ++ flat_map f (filter p (take i xs)) → new ≡ made
    → new ≡ old ++ flat_map f (filter p (take (i + 1) xs))
one_more_left p f xs i x old made new there is fails before same =
    same ∙ before
    ∙ ap (λ ys. old ++ ys) (sym (append-nil (flat_map f (filter p (take i xs)))) ∙ sym (made_more p f xs i x false there (sym (ap p is) ∙ fails)))
