-- The walls that are appended: those of an edge, portal by portal, and those of a polygon, edge by edge.
use Rattle.std.proofs.Common.{◌≡◌, ℕ, ◌+◌, ◌<◌, ◌≤◌, ◌⊎◌, inl, inr, ℤ, pos, ◌-ℤ◌, ◌≤ℤ◌, ◌<ℤ◌, List, length, refl, sym, ap, subst, ◌∙◌, arith}
use Rattle.std.specs.Prelude.{Some, None, unsigned_abs}
use Rattle.std.proofs.lemmas.Bool.{cases_lt}
use Rattle.std.proofs.lemmas.Int.{ints}
use Rattle.std.proofs.lemmas.Option.{same_Some}
use Rattle.nav_base.specs.declared.point.Point.{Point}
use Rattle.nav_base.specs.Deviation.{deviation_of}
use Rattle.nav_base.specs.Point.{IsInField}
use Rattle.mesh_types.specs.declared.links.Link.{Link}
use Rattle.mesh_types.specs.declared.links.PolyRef.{PolyRef}
use Rattle.mesh_types.specs.declared.links.Portal.{Portal}
use Rattle.mesh_types.specs.declared.mesh.Mesh.{Mesh}
use Rattle.mesh_types.specs.declared.polygon.Polygon.{Polygon}
use Rattle.mesh_types.specs.Portals.{edge_begin, edge_end}
use Rattle.mesh_types.specs.Soundness.{IsSound}
use Rattle.mesh_types.specs.WholeMesh.{poly_at}
use Rattle.mesh_types.proofs.MeshLinks.{leads}
use Rattle.wall_query.specs.declared.around.Around.{Around}
use Rattle.wall_query.specs.declared.parts.PolygonEdge.{PolygonEdge}
use Rattle.wall_query.specs.declared.questions.Wall.{Wall}
use Rattle.wall_query.specs.Lists.{Adds}
use Rattle.wall_query.specs.Parts.{IsEdgeOf, IsEdgePart, IsFirstPortal, IsWallPart, LeadsOver, far_along, far_on}
use Rattle.wall_query.specs.Walls.{AddsWalls, ComesBefore, IsOn, IsWallAround, IsWallBetween}
use Rattle.wall_query.proofs.FieldPoints.{edge_field, portal_field}
use Rattle.wall_query.proofs.ListLaws.{adds_both, adds_none, adds_same}
use Rattle.wall_query.proofs.PartLaws.{IsCursorOn, along_start, at_start, gone_on, goes_forward, part_before, part_last, starts_at, stops_at, starts_at_last, stops_at_last, whole_edge}

-- the walls of an edge that begin before a point
abbrev pub IsBeforeOn : Mesh → Around → PolygonEdge → Point → Wall → Type 0
IsBeforeOn mesh around edge c wall = IsWallAround mesh around wall × (IsOn edge wall × (far_on edge wall.begin <ℤ far_on edge c))

before_or_not : (a b : ℤ) → (a <ℤ b) ⊎ (b ≤ℤ a)
before_or_not a b = grind (arith, ints)

module _ (mesh : Mesh) (around : Around) (at : PolyRef) (polygon : Polygon) (n : ℕ) (sound : IsSound mesh) (there : poly_at mesh at ≡ Some polygon)
    (is_edge : n < length polygon.corners) where
  abbrev edge : PolygonEdge
  edge = whole_edge at polygon n

  abbrev t : Point → ℤ
  t p = far_along polygon n p

  abbrev Part : Point → Point → Type 0
  Part a b = IsEdgePart mesh around.areas at polygon n a b

  part_of : (w : Wall) → IsWallAround mesh around w → IsOn edge w → Part w.begin w.end
  part_of w is on =
      let moved = subst (λ (e : ℕ). IsWallPart mesh around.areas at e w.begin w.end) on.1 (subst (λ (p : PolyRef). IsWallPart mesh around.areas p w.edge w.begin w.end) on.0 is.part) in
      subst (λ (p : Polygon). IsEdgePart mesh around.areas at p n w.begin w.end) (same_Some moved.polygon polygon (sym moved.there ∙ there)) moved.part

  between : (w : Wall) (a b : Point) → IsWallAround mesh around w → IsOn edge w → w.begin ≡ a → w.end ≡ b → IsWallBetween around edge a b w
  between w a b is on begins ends = record {
    is = λ i. record {
      polygon = on.0 i;
      edge = on.1 i;
      begin = begins i;
      end = ends i;
      far = (is.distance ∙ (λ j. deviation_of (begins j) (ends j) around.from.point)) i;
    };
    forward = subst (λ (p : Point). t p <ℤ t b) begins (subst (λ (p : Point). t w.begin <ℤ t p) ends (part_of w is on).lies.forward);
    within = is.within;
  }

  from_between : (w : Wall) (a b : Point) → Part a b → IsWallBetween around edge a b w → IsWallAround mesh around w × IsOn edge w
  from_between w a b part is = (
    record {
      part = subst (λ (x : Wall). IsWallPart mesh around.areas x.polygon x.edge x.begin x.end) (sym is.is)
          (record { polygon = polygon; there = there; is_edge = is_edge; part = part });
      distance = subst (λ (x : Wall). x.far ≡ deviation_of x.begin x.end around.from.point) (sym is.is) refl;
      within = is.within;
    },
    (ap (λ (x : Wall). x.polygon) is.is, ap (λ (x : Wall). x.edge) is.is),
  )

  begin_is : (w : Wall) (a b : Point) → IsWallBetween around edge a b w → w.begin ≡ a
  begin_is w a b is = ap (λ (x : Wall). x.begin) is.is

  -- walls of the edge are in order along it
  in_order : (x y : Wall) (c b : Point) → IsBeforeOn mesh around edge c x → IsWallBetween around edge c b y → ComesBefore mesh x y
  in_order x y c b is next =
      let same : x.polygon ≡ y.polygon = is.1.0.0 ∙ sym (ap (λ (w : Wall). w.polygon) next.is) in
      let edges : x.edge ≡ y.edge = is.1.0.1 ∙ sym (ap (λ (w : Wall). w.edge) next.is) in
      inr (
        ap (λ (p : PolyRef). p.tile) same,
        inr (
          ap (λ (p : PolyRef). p.index) same,
          inr (
            edges,
            λ other there'.
                let is_polygon : polygon ≡ other = same_Some polygon other (sym there ∙ ap (poly_at mesh) (sym is.1.0.0) ∙ there') in
                subst (λ (p : Polygon). far_along p x.edge x.begin <ℤ far_along p x.edge y.begin) is_polygon
                (subst (λ (e : ℕ). far_along polygon e x.begin <ℤ far_along polygon e y.begin) (sym is.1.0.1)
                (subst (λ (p : Point). t x.begin <ℤ t p) (sym (begin_is y c b next)) is.1.1)),
          ),
        ),
      )

  abbrev Among : Point → Wall → Type 0
  Among c w = IsBeforeOn mesh around edge c w

  none_before : (list : List Wall) → Adds (ComesBefore mesh) (Among (edge_begin polygon n)) list list
  none_before list = adds_none (ComesBefore mesh) (Among (edge_begin polygon n)) list (λ w is.
      before_start (t w.begin) (t (edge_begin polygon n)) (at_start mesh around.areas at polygon n sound there).after
      (part_of w is.0 is.1.0).lies.after (starts (t w.begin) (t (edge_begin polygon n)) (t_start) is.1.1))
    where
      t_start : t (edge_begin polygon n) ≡ pos 0
      t_start = along_start (edge_begin polygon n) (edge_end polygon n)

      starts : (a b : ℤ) → b ≡ pos 0 → a <ℤ b → a <ℤ pos 0
      starts a b e h = omega (arith, ints)

      before_start : (a b : ℤ) → pos 0 ≤ℤ b → pos 0 ≤ℤ a → a <ℤ pos 0 → ⊥
      before_start a b g h k = omega (arith, ints)

  module _ (c : Point) (cursor : IsCursorOn mesh around.areas at polygon n c) where
    step : (portal : Portal) → IsFirstPortal mesh around.areas edge c (Some portal) → (old mid new : List Wall) → Adds (ComesBefore mesh) (Among c) old mid
        → Adds (ComesBefore mesh) (IsWallBetween around edge c portal.right) mid new → Adds (ComesBefore mesh) (Among portal.left) old new
    step portal is old mid new first second =
        adds_both (ComesBefore mesh) (Among c) (IsWallBetween around edge c portal.right) (Among portal.left) old mid new first second
        (λ w among. (among.0, (among.1.0, less (t w.begin) (t c) (t portal.left) among.1.1 forward)))
        (λ w next.
        let is_wall = from_between w c portal.right (part_before mesh around.areas at polygon n sound there c cursor portal is next.forward) next in
        (is_wall.0, (is_wall.1, subst (λ (p : Point). t p <ℤ t portal.left) (sym (begin_is w c portal.right next)) forward)))
        (λ w among. elim (before_or_not (t w.begin) (t c)) [
          | inl earlier ↦ inl (among.0, (among.1.0, earlier))
          | inr later ↦
              let part = part_of w among.0 among.1.0 in
              inr (between w c portal.right among.0 among.1.0
              (starts_at mesh around.areas at polygon n sound there c cursor portal is w.begin w.end part later among.1.1)
              (stops_at mesh around.areas at polygon n sound there c cursor portal is w.begin w.end part later among.1.1))
        ])
        (λ x y among next. in_order x y c portal.right among next)
      where
        forward : t c <ℤ t portal.left
        forward = goes_forward mesh around.areas at polygon n sound there c cursor portal is

        less : (a b c : ℤ) → a <ℤ b → b <ℤ c → a <ℤ c
        less a b c h k = omega (arith, ints)

    last : IsFirstPortal mesh around.areas edge c None → (old mid new : List Wall) → Adds (ComesBefore mesh) (Among c) old mid
        → Adds (ComesBefore mesh) (IsWallBetween around edge c (edge_end polygon n)) mid new → AddsWalls mesh around (IsOn edge) old new
    last none old mid new first second =
        adds_both (ComesBefore mesh) (Among c) (IsWallBetween around edge c (edge_end polygon n)) (λ w. IsWallAround mesh around w × IsOn edge w) old mid new first second
        (λ w among. (among.0, among.1.0))
        (λ w next. from_between w c (edge_end polygon n) (part_last mesh around.areas at polygon n sound there c cursor none next.forward) next)
        (λ w among. elim (before_or_not (t w.begin) (t c)) [
          | inl earlier ↦ inl (among.0, (among.1, earlier))
          | inr later ↦
              let part = part_of w among.0 among.1 in
              inr (between w c (edge_end polygon n) among.0 among.1
              (starts_at_last mesh around.areas at polygon n sound there c cursor none w.begin w.end part later)
              (stops_at_last mesh around.areas at polygon n sound there c cursor none w.begin w.end part later))
        ])
        (λ x y among next. in_order x y c (edge_end polygon n) among next)

-- ---- the same of an edge that is known by its number and ends

pub same_edge : (mesh : Mesh) (edge : PolygonEdge) (of : IsEdgeOf mesh edge) → whole_edge edge.polygon of.polygon edge.edge ≡ edge
same_edge mesh edge of = λ i. record { polygon = edge.polygon; edge = edge.edge; begin = sym of.begins i; end = sym of.ends i }

-- how far the walls of an edge are appended
pub record IsGoing (mesh : Mesh) (around : Around) (edge : PolygonEdge) (old new : List Wall) (c : Point) : Type 0 where
  pub of : IsEdgeOf mesh edge
  pub cursor : IsCursorOn mesh around.areas edge.polygon of.polygon edge.edge c
  pub adds : Adds (ComesBefore mesh) (IsBeforeOn mesh around edge c) old new

module _ (mesh : Mesh) (around : Around) (edge : PolygonEdge) (sound : IsSound mesh) where
  pub begun : IsEdgeOf mesh edge → (list : List Wall) → IsGoing mesh around edge list list edge.begin
  begun of list = record {
    of = of;
    cursor = subst (IsCursorOn mesh around.areas edge.polygon of.polygon edge.edge) (sym of.begins)
        (at_start mesh around.areas edge.polygon of.polygon edge.edge sound of.there);
    adds = subst (λ (e : PolygonEdge). Adds (ComesBefore mesh) (IsBeforeOn mesh around e e.begin) list list) (same_edge mesh edge of)
        (none_before mesh around edge.polygon of.polygon edge.edge sound of.there of.is_edge list);
  }

  module _ (old mid new : List Wall) (c : Point) (going : IsGoing mesh around edge old mid c) where
    abbrev whole : PolygonEdge
    whole = whole_edge edge.polygon going.of.polygon edge.edge

    is_edge : whole ≡ edge
    is_edge = same_edge mesh edge going.of

    abbrev AtFirst : Portal → PolygonEdge → Type 0
    AtFirst portal e = IsFirstPortal mesh around.areas e c (Some portal)

    first_is : (portal : Portal) → AtFirst portal edge → AtFirst portal whole
    first_is portal is = subst (AtFirst portal) (sym is_edge) is

    pub more : (portal : Portal) → IsFirstPortal mesh around.areas edge c (Some portal) → Adds (ComesBefore mesh) (IsWallBetween around edge c portal.right) mid new
        → IsGoing mesh around edge old new portal.left
    more portal is adds = record {
      of = going.of;
      cursor = gone_on mesh around.areas edge.polygon going.of.polygon edge.edge sound going.of.there c going.cursor portal (first_is portal is);
      adds = subst (λ (e : PolygonEdge). Adds (ComesBefore mesh) (IsBeforeOn mesh around e portal.left) old new) is_edge
          (step mesh around edge.polygon going.of.polygon edge.edge sound going.of.there going.of.is_edge c going.cursor portal (first_is portal is) old mid new
          (subst (λ (e : PolygonEdge). Adds (ComesBefore mesh) (IsBeforeOn mesh around e c) old mid) (sym is_edge) going.adds)
          (subst (λ (e : PolygonEdge). Adds (ComesBefore mesh) (IsWallBetween around e c portal.right) mid new) (sym is_edge) adds));
    }

    pub ended : IsFirstPortal mesh around.areas edge c None → Adds (ComesBefore mesh) (IsWallBetween around edge c edge.end) mid new
        → AddsWalls mesh around (IsOn edge) old new
    ended none adds =
        subst (λ (e : PolygonEdge). AddsWalls mesh around (IsOn e) old new) is_edge
        (last mesh around edge.polygon going.of.polygon edge.edge sound going.of.there going.of.is_edge c going.cursor
        (subst (λ (e : PolygonEdge). IsFirstPortal mesh around.areas e c None) (sym is_edge) none) old mid new
        (subst (λ (e : PolygonEdge). Adds (ComesBefore mesh) (IsBeforeOn mesh around e c) old mid) (sym is_edge) going.adds)
        (subst (λ (e : PolygonEdge). Adds (ComesBefore mesh) (IsWallBetween around e c e.end) mid new) (sym is_edge) adds))

    -- what is left of the edge
    pub goes_on : (portal : Portal) → IsFirstPortal mesh around.areas edge c (Some portal) → far_on edge c <ℤ far_on edge portal.left
    goes_on portal is =
        subst (λ (e : PolygonEdge). far_on e c <ℤ far_on e portal.left) is_edge
        (goes_forward mesh around.areas edge.polygon going.of.polygon edge.edge sound going.of.there c going.cursor portal (first_is portal is))

    pub not_past : (portal : Portal) → IsFirstPortal mesh around.areas edge c (Some portal) → far_on edge portal.left ≤ℤ far_on edge edge.end
    not_past portal is =
        subst (λ (e : PolygonEdge). far_on e portal.left ≤ℤ far_on e e.end) is_edge
        (gone_on mesh around.areas edge.polygon going.of.polygon edge.edge sound going.of.there c going.cursor portal (first_is portal is)).before

-- ---- edge by edge

-- the walls of a polygon's edges before one
abbrev pub IsOnEarlier : PolyRef → ℕ → Wall → Type 0
IsOnEarlier at n wall = (wall.polygon ≡ at) × (wall.edge < n)

module _ (mesh : Mesh) (around : Around) (at : PolyRef) (polygon : Polygon) (there : poly_at mesh at ≡ Some polygon) where
  pub no_edges : (list : List Wall) → AddsWalls mesh around (IsOnEarlier at 0) list list
  no_edges list = adds_none (ComesBefore mesh) (λ w. IsWallAround mesh around w × IsOnEarlier at 0 w) list (λ w is. omega (arith, is.1.1))

  pub next_edge : (n : ℕ) (edge : PolygonEdge) → edge.polygon ≡ at → edge.edge ≡ n → (old mid new : List Wall) → AddsWalls mesh around (IsOnEarlier at n) old mid
      → AddsWalls mesh around (IsOn edge) mid new → AddsWalls mesh around (IsOnEarlier at (n + 1)) old new
  next_edge n edge of number old mid new first second =
      adds_both (ComesBefore mesh) (λ w. IsWallAround mesh around w × IsOnEarlier at n w) (λ w. IsWallAround mesh around w × IsOn edge w)
      (λ w. IsWallAround mesh around w × IsOnEarlier at (n + 1) w) old mid new first second
      (λ w is. (is.0, (is.1.0, omega (arith, is.1.1))))
      (λ w is. (is.0, (is.1.0 ∙ of, omega (arith, is.1.1, number))))
      (λ w is. elim (cases_lt w.edge n) [
        | inl less ↦ inl (is.0, (is.1.0, less))
        | inr least ↦ inr (is.0, (is.1.0 ∙ sym of, omega (arith, is.1.1, number, least)))
      ])
      (λ x y is is'.
      let same : x.polygon ≡ y.polygon = is.1.0 ∙ sym of ∙ sym is'.1.0 in
      inr (ap (λ (p : PolyRef). p.tile) same, inr (ap (λ (p : PolyRef). p.index) same, inl (omega (arith, is.1.1, is'.1.1, number)))))

  pub all_edges : (n : ℕ) → length polygon.corners ≤ n → (old new : List Wall) → AddsWalls mesh around (IsOnEarlier at n) old new
      → AddsWalls mesh around (λ w. w.polygon ≡ at) old new
  all_edges n most old new adds =
      adds_same (ComesBefore mesh) (λ w. IsWallAround mesh around w × IsOnEarlier at n w) (λ w. IsWallAround mesh around w × (w.polygon ≡ at)) old new adds
      (λ w is. (is.0, is.1.0))
      (λ w is. (is.0, (is.1, below w is.0 is.1)))
    where
      below : (w : Wall) → IsWallAround mesh around w → w.polygon ≡ at → w.edge < n
      below w is same =
          let polygon_is : is.part.polygon ≡ polygon = same_Some is.part.polygon polygon (sym is.part.there ∙ ap (poly_at mesh) same ∙ there) in
          omega (arith, is.part.is_edge, ap (λ (p : Polygon). length p.corners) polygon_is, most)

-- ---- points of an edge lie in the field

pub cursor_field : (mesh : Mesh) (around : Around) (edge : PolygonEdge) (old new : List Wall) (c : Point) → IsSound mesh → IsGoing mesh around edge old new c → IsInField c
cursor_field mesh around edge old new c sound going = by going.cursor.begins
  where
    by : (c ≡ edge_begin going.of.polygon edge.edge) ⊎ ((link : Link) × LeadsOver mesh around.areas edge.polygon edge.edge link × (link.portal.left ≡ c)) → IsInField c
    by (inl start) = subst IsInField (going.of.begins ∙ sym start) (edge_field mesh edge sound going.of).begin
    by (inr one) = subst IsInField one.2 (portal_field mesh one.0 sound (leads mesh one.0 sound one.1.listed)).left

pub record HasFieldPortal (portal : Portal) : Type 0 where
  pub left : IsInField portal.left
  pub right : IsInField portal.right

pub first_field : (mesh : Mesh) (areas : ℕ) (edge : PolygonEdge) (c : Point) (portal : Portal) → IsSound mesh → IsFirstPortal mesh areas edge c (Some portal) → HasFieldPortal portal
first_field mesh areas on c portal sound is =
    subst HasFieldPortal is.is (record {
      left = (portal_field mesh is.link sound (leads mesh is.link sound is.one.0.listed)).left;
      right = (portal_field mesh is.link sound (leads mesh is.link sound is.one.0.listed)).right;
    })

-- less is left of the edge
pub shorter : (a b c : ℤ) → a <ℤ b → b ≤ℤ c → unsigned_abs (c -ℤ b) < unsigned_abs (c -ℤ a)
shorter a b c h k = omega (arith, ints)
