-- The comparison of shapes, and of lists of shapes, tells whether they are the same.
use Rattle.std.proofs.Common.{◌≡◌, ℕ, ℤ, Bool, false, true, List, refl, ap, sym, subst, ◌↔◌, ◌∙◌}
use Rattle.std.specs.Prelude.{◌==◌, ◌&&◌}
use Rattle.std.specs.Ordering.{int_eq}
use Rattle.std.specs.Cmp.Lexicographic.{pointwise}
use Rattle.std.specs.Bool.{Decides}
use Rattle.std.proofs.lemmas.Bool.{and_parts, and_from, both_ways, eqb-true, eq-eqb}
use Rattle.std.proofs.lemmas.Bool.Decides.{Decides-int_eq}
use Rattle.std.proofs.lemmas.Slice.Eq.{slice_eq-Decides}
use Rattle.nav_base.specs.declared.point.Point.{Point}
use Rattle.nav_ground.specs.declared.shape.Shape.{Shape}
use Rattle.nav_ground.specs.declared.shape.Shape.TheVariants.{Block, Cylinder, AreaBlock, AreaCylinder, Prism, Disc}
use Rattle.nav_ground.specs.declared.prism.PrismBase.{PrismBase}
use Rattle.nav_ground.specs.contracts.shape.ShapePartialEq.TheImpl as shape
use Rattle.build_queue.specs.SameShapes.{is_same_point, is_same_base, is_same_shape, are_same}

-- a number that is the same, and the rest
next_same : (a b : ℕ) (rest : Bool) → (a == b && rest) ≡ true → (a ≡ b) × (rest ≡ true)
next_same a b rest is = let parts = and_parts (a == b) rest is in (eqb-true a b parts.0, parts.1)

next_itself : (a : ℕ) (rest : Bool) → rest ≡ true → (a == a && rest) ≡ true
next_itself a rest is = and_from (a == a) rest (eq-eqb a a refl) is

last_itself : (a : ℕ) → (a == a) ≡ true
last_itself a = eq-eqb a a refl

-- the same for signed numbers
next_same_z : (a b : ℤ) (rest : Bool) → (int_eq a b && rest) ≡ true → (a ≡ b) × (rest ≡ true)
next_same_z a b rest is = let parts = and_parts (int_eq a b) rest is in ((Decides-int_eq a b).0 parts.0, parts.1)

next_itself_z : (a : ℤ) (rest : Bool) → rest ≡ true → (int_eq a a && rest) ≡ true
next_itself_z a rest is = and_from (int_eq a a) rest ((Decides-int_eq a a).1 refl) is

-- points, and bases
same_point_decides : (a b : Point) → Decides (is_same_point a b) (a ≡ b)
same_point_decides a b = (
  λ is. let parts = and_parts (int_eq a.x b.x) _ is in
      let x = (Decides-int_eq a.x b.x).0 parts.0 in
      let z = (Decides-int_eq a.z b.z).0 parts.1 in
      λ i. record { x = x i; z = z i },
  λ same. and_from _ _ ((Decides-int_eq a.x b.x).1 (ap (λ (p : Point). p.x) same)) ((Decides-int_eq a.z b.z).1 (ap (λ (p : Point). p.z) same)),
)

pub same_base_decides : (a b : PrismBase) → Decides (is_same_base a b) (a ≡ b)
same_base_decides a b =
    let points = slice_eq-Decides same_point_decides a.corners b.corners (pointwise is_same_point a.corners b.corners) refl in (
      λ is. let parts = and_parts (a.count == b.count) _ is in
          let counts = eqb-true a.count b.count parts.0 in
          let corners = points.0 parts.1 in
          λ i. record { count = counts i; corners = corners i },
      λ same. and_from _ _ (eq-eqb a.count b.count (ap (λ (base : PrismBase). base.count) same)) (points.1 (ap (λ (base : PrismBase). base.corners) same)),
    )

same_from : (a b : Shape) → is_same_shape a b ≡ true → a ≡ b
same_from (Block x0 x1 y0 y1 z0 z1) (Block a0 a1 b0 b1 c0 c1) is =
    let p = next_same x0 a0 _ is in
    let q = next_same x1 a1 _ p.1 in
    let r = next_same y0 b0 _ q.1 in
    let s = next_same y1 b1 _ r.1 in
    let t = next_same z0 c0 _ s.1 in
    let u = eqb-true z1 c1 t.1 in
    λ i. Block (p.0 i) (q.0 i) (r.0 i) (s.0 i) (t.0 i) (u i)
same_from (Cylinder cx cz r y0 y1) (Cylinder dx dz w b0 b1) is =
    let p = next_same cx dx _ is in
    let q = next_same cz dz _ p.1 in
    let s = next_same r w _ q.1 in
    let t = next_same y0 b0 _ s.1 in
    let u = eqb-true y1 b1 t.1 in
    λ i. Cylinder (p.0 i) (q.0 i) (s.0 i) (t.0 i) (u i)
same_from (AreaBlock area x0 x1 y0 y1 z0 z1) (AreaBlock other a0 a1 b0 b1 c0 c1) is =
    let o = next_same area other _ is in
    let p = next_same x0 a0 _ o.1 in
    let q = next_same x1 a1 _ p.1 in
    let r = next_same y0 b0 _ q.1 in
    let s = next_same y1 b1 _ r.1 in
    let t = next_same z0 c0 _ s.1 in
    let u = eqb-true z1 c1 t.1 in
    λ i. AreaBlock (o.0 i) (p.0 i) (q.0 i) (r.0 i) (s.0 i) (t.0 i) (u i)
same_from (AreaCylinder area cx cz r y0 y1) (AreaCylinder other dx dz w b0 b1) is =
    let o = next_same area other _ is in
    let p = next_same cx dx _ o.1 in
    let q = next_same cz dz _ p.1 in
    let s = next_same r w _ q.1 in
    let t = next_same y0 b0 _ s.1 in
    let u = eqb-true y1 b1 t.1 in
    λ i. AreaCylinder (o.0 i) (p.0 i) (q.0 i) (s.0 i) (t.0 i) (u i)
same_from (Prism base area y0 y1) (Prism other given b0 b1) is =
    let parts = and_parts (is_same_base base other) _ is in
    let o = (same_base_decides base other).0 parts.0 in
    let p = next_same area given _ parts.1 in
    let q = next_same y0 b0 _ p.1 in
    let r = eqb-true y1 b1 q.1 in
    λ i. Prism (o i) (p.0 i) (q.0 i) (r i)
same_from (Disc cx cz r area y0 y1) (Disc dx dz w given b0 b1) is =
    let o = next_same_z cx dx _ is in
    let p = next_same_z cz dz _ o.1 in
    let q = next_same r w _ p.1 in
    let s = next_same area given _ q.1 in
    let t = next_same y0 b0 _ s.1 in
    let u = eqb-true y1 b1 t.1 in
    λ i. Disc (o.0 i) (p.0 i) (q.0 i) (s.0 i) (t.0 i) (u i)
same_from shape other is = absurd (both_ways false refl is)

itself : (a : Shape) → is_same_shape a a ≡ true
itself (Block x0 x1 y0 y1 z0 z1) =
    next_itself x0 _ (next_itself x1 _ (next_itself y0 _ (next_itself y1 _ (next_itself z0 _ (last_itself z1)))))
itself (Cylinder cx cz r y0 y1) = next_itself cx _ (next_itself cz _ (next_itself r _ (next_itself y0 _ (last_itself y1))))
itself (AreaBlock area x0 x1 y0 y1 z0 z1) =
    next_itself area _ (next_itself x0 _ (next_itself x1 _ (next_itself y0 _ (next_itself y1 _ (next_itself z0 _ (last_itself z1))))))
itself (AreaCylinder area cx cz r y0 y1) =
    next_itself area _ (next_itself cx _ (next_itself cz _ (next_itself r _ (next_itself y0 _ (last_itself y1)))))
itself (Prism base area y0 y1) =
    and_from (is_same_base base base) _ ((same_base_decides base base).1 refl) (next_itself area _ (next_itself y0 _ (last_itself y1)))
itself (Disc cx cz r area y0 y1) =
    next_itself_z cx _ (next_itself_z cz _ (next_itself r _ (next_itself area _ (next_itself y0 _ (last_itself y1)))))

pub same_shape_decides : (a b : Shape) → Decides (is_same_shape a b) (a ≡ b)
same_shape_decides a b = (same_from a b, λ same. subst (λ (c : Shape). is_same_shape a c ≡ true) same (itself a))

pub same_lists_decide : (shapes others : List Shape) → Decides (are_same shapes others) (shapes ≡ others)
same_lists_decide shapes others = slice_eq-Decides same_shape_decides shapes others (are_same shapes others) refl

pub test_decides : (shapes others : List Shape) (r : Bool) → r ≡ are_same shapes others → Decides r (shapes ≡ others)
test_decides shapes others r is = slice_eq-Decides same_shape_decides shapes others r is

-- the comparison of two shapes in the code is made by their kinds and numbers
pub equal_decides : (a b : Shape) → Decides (shape.eq-value.it a b) (a ≡ b)
equal_decides (Block x0 x1 y0 y1 z0 z1) (Block a0 a1 b0 b1 c0 c1) = same_shape_decides (Block x0 x1 y0 y1 z0 z1) (Block a0 a1 b0 b1 c0 c1)
equal_decides (Cylinder cx cz r y0 y1) (Cylinder dx dz s b0 b1) = same_shape_decides (Cylinder cx cz r y0 y1) (Cylinder dx dz s b0 b1)
equal_decides (AreaBlock area x0 x1 y0 y1 z0 z1) (AreaBlock other a0 a1 b0 b1 c0 c1) =
    same_shape_decides (AreaBlock area x0 x1 y0 y1 z0 z1) (AreaBlock other a0 a1 b0 b1 c0 c1)
equal_decides (AreaCylinder area cx cz r y0 y1) (AreaCylinder other dx dz s b0 b1) =
    same_shape_decides (AreaCylinder area cx cz r y0 y1) (AreaCylinder other dx dz s b0 b1)
equal_decides (Prism base area y0 y1) (Prism other given b0 b1) = same_shape_decides (Prism base area y0 y1) (Prism other given b0 b1)
equal_decides (Disc cx cz r area y0 y1) (Disc dx dz s given b0 b1) = same_shape_decides (Disc cx cz r area y0 y1) (Disc dx dz s given b0 b1)
equal_decides a b = same_shape_decides a b

pub told_same : (a b : Shape) (r : Bool) → r ≡ shape.eq-value.it a b → (r ≡ true) ↔ (a ≡ b)
told_same a b r is = let d = equal_decides a b in (λ told. d.0 (sym is ∙ told), λ same. is ∙ d.1 same)
