-- A straight way stays on the mesh. At the fraction of its exit it lies on the edge left, in the polygon left, on the portal and in the polygon
-- entered.
use Rattle.std.proofs.Common.{◌≡◌, ℕ, ◌*◌, ◌<◌, ◌≤◌, ℤ, pos, ◌+ℤ◌, ◌-ℤ◌, ◌*ℤ◌, ◌≤ℤ◌, ◌<ℤ◌, List, [], ◌∷◌, length, refl, sym, subst, ap, ◌∙◌, arith}
use Rattle.std.specs.Prelude.{Some, unsigned_abs}
use Rattle.std.proofs.lemmas.Int.{ints, by_lt_z}
use Rattle.std.proofs.lemmas.Option.{same_Some}
use Rattle.nav_base.specs.declared.point.Point.{Point}
use Rattle.nav_base.specs.Point.{from_to, dot_of, orient_of}
use Rattle.nav_base.proofs.Polynomials.{at, number, sum, difference, product, equal}
use Rattle.nav_base.proofs.Signs.{product-not_negative, product-not_positive, factor-not_negative, factor-zero}
use Rattle.mesh_types.specs.declared.links.Link.{Link}
use Rattle.mesh_types.specs.declared.links.PolyRef.{PolyRef}
use Rattle.mesh_types.specs.declared.links.Portal.{Portal}
use Rattle.mesh_types.specs.declared.mesh.Mesh.{Mesh}
use Rattle.mesh_types.specs.declared.polygon.Polygon.{Polygon}
use Rattle.mesh_types.specs.Portals.{edge_begin, edge_end, along}
use Rattle.mesh_types.specs.Soundness.{IsSound}
use Rattle.mesh_types.specs.WholeMesh.{poly_at}
use Rattle.fine_walk.specs.declared.exits.FineRay.{FineRay}
use Rattle.fine_walk.specs.FineRays.{fine_of, fine_side, IsLeastFineExit, IsFineHeld, LeadsFine, GoesFine}
use Rattle.fine_walk.specs.Laws.{DoWaysStay}
use Rattle.fine_walk.specs.Passing.{IsEntered}
use Rattle.fine_walk.specs.Stays.{along_way, IsHeldAlong, StaysFrom}
use Rattle.fine_walk.proofs.Entering.{IsEnteredAt, IsFineLink, IsFineOut, begun, fine_link, joined, long, next_entered, same_turn}

-- ---- a fraction n / (a - b) of a way, where n is a

-- the number of a way at that fraction
at_exit : (a b m n : ℤ) (next below : ℕ) → pos next ≡ a → pos below ≡ a -ℤ b → along_way m n next below ≡ a *ℤ n -ℤ b *ℤ m
at_exit a b m n next below p q =
    (λ i. q i *ℤ m +ℤ p i *ℤ (n -ℤ m))
    ∙ equal (a ∷ b ∷ m ∷ n ∷ []) (sum (product (difference (at 0) (at 1)) (at 2)) (product (at 0) (difference (at 3) (at 2))))
    (difference (product (at 0) (at 3)) (product (at 1) (at 2))) refl

not_below : (x y : ℤ) → x ≡ y → pos 0 ≤ℤ y → pos 0 ≤ℤ x
not_below x y e h = omega (arith, ints)

-- a number that was not negative at an earlier fraction, and does not fall, is not
later_on : (m n : ℤ) (num den next below : ℕ) → 0 < den → num * below ≤ next * den → pos 0 ≤ℤ (n -ℤ m) → pos 0 ≤ℤ along_way m n num den
    → pos 0 ≤ℤ along_way m n next below
later_on m n num den next below some later rises held =
    factor-not_negative (pos den) (along_way m n next below) (above den some)
    (not_below _ _ (spread (pos den) (pos num) (pos below) (pos next) m n)
    (both _ _ (product-not_negative (pos below) (along_way m n num den) (least below) held)
    (product-not_negative (pos next *ℤ pos den -ℤ pos num *ℤ pos below) (n -ℤ m) (left num den next below later) rises)))
  where
    above : (k : ℕ) → 0 < k → pos 0 <ℤ pos k
    above k h = omega (arith, ints)

    least : (k : ℕ) → pos 0 ≤ℤ pos k
    least k = omega (arith, ints)

    both : (x y : ℤ) → pos 0 ≤ℤ x → pos 0 ≤ℤ y → pos 0 ≤ℤ (x +ℤ y)
    both x y h k = omega (arith, ints)

    left : (num den next below : ℕ) → num * below ≤ next * den → pos 0 ≤ℤ (pos next *ℤ pos den -ℤ pos num *ℤ pos below)
    left num den next below h = omega (arith, ints)

    spread : (d c w v m n : ℤ) → d *ℤ (w *ℤ m +ℤ v *ℤ (n -ℤ m)) ≡ w *ℤ (d *ℤ m +ℤ c *ℤ (n -ℤ m)) +ℤ (v *ℤ d -ℤ c *ℤ w) *ℤ (n -ℤ m)
    spread d c w v m n =
        equal (d ∷ c ∷ w ∷ v ∷ m ∷ n ∷ []) (product (at 0) (sum (product (at 2) (at 4)) (product (at 3) (difference (at 5) (at 4)))))
        (sum (product (at 2) (sum (product (at 0) (at 4)) (product (at 1) (difference (at 5) (at 4)))))
        (product (difference (product (at 3) (at 0)) (product (at 1) (at 2))) (difference (at 5) (at 4)))) refl

-- the polygon left holds the place of its exit
held_at_exit : (polygon : Polygon) (from to : Point) (edge : ℕ) (num den next below : ℕ) → 0 < den → IsEntered polygon (record { from = from; to = to })
    → IsLeastFineExit polygon from to edge → pos next ≡ fine_side polygon edge from → pos below ≡ fine_side polygon edge from -ℤ fine_side polygon edge to
    → num * below ≤ next * den
    → ((other : ℕ) → other < length polygon.corners → pos 0 ≤ℤ along_way (fine_side polygon other from) (fine_side polygon other to) num den)
    → (other : ℕ) → other < length polygon.corners → pos 0 ≤ℤ along_way (fine_side polygon other from) (fine_side polygon other to) next below
held_at_exit polygon from to edge num den next below some entered least p q later held other there =
    by_lt_z n (pos 0)
    (λ beyond. not_below _ _ (at_exit a b m n next below p q) (exits a b m n (least.least other (record { there = there; beyond = beyond }))))
    (λ inside. by_lt_z n m
    (λ falls. not_below _ _ (at_exit a b m n next below p q)
    (apart _ _ (product-not_negative a n (entered edge least.exit) inside) (product-not_positive' b m (low b least.exit.beyond) (high m n falls inside))))
    (λ rises. later_on m n num den next below some later (up m n rises) (held other there)))
  where
    a : ℤ
    a = fine_side polygon edge from

    b : ℤ
    b = fine_side polygon edge to

    m : ℤ
    m = fine_side polygon other from

    n : ℤ
    n = fine_side polygon other to

    exits : (a b m n : ℤ) → (a *ℤ (m -ℤ n)) ≤ℤ (m *ℤ (a -ℤ b)) → pos 0 ≤ℤ (a *ℤ n -ℤ b *ℤ m)
    exits a b m n h = together _ _ _ (crossed a b m n) h
      where
        crossed : (a b m n : ℤ) → m *ℤ (a -ℤ b) -ℤ a *ℤ (m -ℤ n) ≡ a *ℤ n -ℤ b *ℤ m
        crossed a b m n =
            equal (a ∷ b ∷ m ∷ n ∷ []) (difference (product (at 2) (difference (at 0) (at 1))) (product (at 0) (difference (at 2) (at 3))))
            (difference (product (at 0) (at 3)) (product (at 1) (at 2))) refl

        together : (x y d : ℤ) → y -ℤ x ≡ d → x ≤ℤ y → pos 0 ≤ℤ d
        together x y d e k = omega (arith, ints)

    low : (k : ℤ) → k <ℤ pos 0 → k ≤ℤ pos 0
    low k h = omega (arith, ints)

    high : (m n : ℤ) → n <ℤ m → pos 0 ≤ℤ n → pos 0 ≤ℤ m
    high m n h k = omega (arith, ints)

    up : (m n : ℤ) → m ≤ℤ n → pos 0 ≤ℤ (n -ℤ m)
    up m n h = omega (arith, ints)

    apart : (x y : ℤ) → pos 0 ≤ℤ x → y ≤ℤ pos 0 → pos 0 ≤ℤ (x -ℤ y)
    apart x y h k = omega (arith, ints)

    product-not_positive' : (b m : ℤ) → b ≤ℤ pos 0 → pos 0 ≤ℤ m → (b *ℤ m) ≤ℤ pos 0
    product-not_positive' b m h k = subst (λ (x : ℤ). x ≤ℤ pos 0) (exchanged m b) (product-not_positive m b k h)
      where
        exchanged : (m b : ℤ) → m *ℤ b ≡ b *ℤ m
        exchanged m b = equal (m ∷ b ∷ []) (product (at 0) (at 1)) (product (at 1) (at 0)) refl

-- the place of the exit lies on the portal's line
on_portal : (polygon : Polygon) (from to : Point) (edge : ℕ) (portal : Portal) (next below : ℕ) → IsFineOut polygon edge portal
    → pos next ≡ fine_side polygon edge from → pos below ≡ fine_side polygon edge from -ℤ fine_side polygon edge to
    → along_way (orient_of (fine_of portal.right) (fine_of portal.left) from) (orient_of (fine_of portal.right) (fine_of portal.left) to) next below ≡ pos 0
on_portal polygon from to edge portal next below out p q =
    at_exit a b c d next below p q
    ∙ factor-zero (along u v v) (a *ℤ d -ℤ b *ℤ c) (long u v right left out.lies)
    (none (along u v v) (dot_of (from_to u v) (from_to right left)) a b c d (same_turn u v right left from out.lies) (same_turn u v right left to out.lies))
  where
    u : Point
    u = fine_of (edge_begin polygon edge)

    v : Point
    v = fine_of (edge_end polygon edge)

    right : Point
    right = fine_of portal.right

    left : Point
    left = fine_of portal.left

    a : ℤ
    a = fine_side polygon edge from

    b : ℤ
    b = fine_side polygon edge to

    c : ℤ
    c = orient_of right left from

    d : ℤ
    d = orient_of right left to

    none : (k w a b c d : ℤ) → k *ℤ c ≡ w *ℤ a → k *ℤ d ≡ w *ℤ b → k *ℤ (a *ℤ d -ℤ b *ℤ c) ≡ pos 0
    none k w a b c d e f =
        equal (k ∷ w ∷ a ∷ b ∷ c ∷ d ∷ []) (product (at 0) (difference (product (at 2) (at 5)) (product (at 3) (at 4))))
        (difference (product (at 2) (product (at 0) (at 5))) (product (at 3) (product (at 0) (at 4)))) refl
        ∙ (λ i. a *ℤ f i -ℤ b *ℤ e i)
        ∙ equal (k ∷ w ∷ a ∷ b ∷ c ∷ d ∷ []) (difference (product (at 2) (product (at 1) (at 3))) (product (at 3) (product (at 1) (at 2)))) (number (pos 0)) refl

-- ---- the fraction of an exit, in natural numbers

numerator : (a : ℤ) → pos 0 ≤ℤ a → pos (unsigned_abs a) ≡ a
numerator a h = omega (arith, ints)

denominator : (a b : ℤ) → pos 0 ≤ℤ a → b <ℤ pos 0 → pos (unsigned_abs (a -ℤ b)) ≡ a -ℤ b
denominator a b h k = omega (arith, ints)

some_below : (a b : ℤ) → pos 0 ≤ℤ a → b <ℤ pos 0 → 0 < unsigned_abs (a -ℤ b)
some_below a b h k = omega (arith, ints)

within_whole : (a b : ℤ) → pos 0 ≤ℤ a → b <ℤ pos 0 → unsigned_abs a ≤ unsigned_abs (a -ℤ b)
within_whole a b h k = omega (arith, ints)

-- no exit comes before a place that is held
no_earlier : (a b : ℤ) (num den next below : ℕ) → pos next ≡ a → pos below ≡ a -ℤ b → pos 0 ≤ℤ along_way a b num den → num * below ≤ next * den
no_earlier a b num den next below p q h = order num den next below (not_below _ _ (sym is) h)
  where
    is : along_way a b num den ≡ pos den *ℤ pos next -ℤ pos num *ℤ pos below
    is =
        equal (a ∷ b ∷ pos num ∷ pos den ∷ []) (sum (product (at 3) (at 0)) (product (at 2) (difference (at 1) (at 0))))
        (difference (product (at 3) (at 0)) (product (at 2) (difference (at 0) (at 1)))) refl
        ∙ (λ i. pos den *ℤ sym p i -ℤ pos num *ℤ sym q i)

    order : (num den next below : ℕ) → pos 0 ≤ℤ (pos den *ℤ pos next -ℤ pos num *ℤ pos below) → num * below ≤ next * den
    order num den next below h = omega (arith, ints)

-- ---- the way

-- the end of a way is its place at the fraction 1 / 1, and its begin that at 0 / 1
held_end : (mesh : Mesh) (from to : Point) (here : PolyRef) → IsFineHeld mesh to here → IsHeldAlong mesh here from to 1 1
held_end mesh from to here held = record { polygon = held.polygon; there = held.there; holds = λ edge there. not_below _ _ (whole (fine_side held.polygon edge from) (fine_side held.polygon edge to)) (held.holds edge there) }
  where
    whole : (m n : ℤ) → along_way m n 1 1 ≡ n
    whole m n = omega (arith, ints)

held_begin : (mesh : Mesh) (from to : Point) (here : PolyRef) → IsFineHeld mesh from here → IsHeldAlong mesh here from to 0 1
held_begin mesh from to here held = record { polygon = held.polygon; there = held.there; holds = λ edge there. not_below _ _ (none (fine_side held.polygon edge from) (fine_side held.polygon edge to)) (held.holds edge there) }
  where
    none : (m n : ℤ) → along_way m n 0 1 ≡ m
    none m n = omega (arith, ints)

stays_from : (mesh : Mesh) (areas : ℕ) (from to : Point) (here : PolyRef) (visited : List PolyRef) (num den : ℕ) (links : List Link) (last : PolyRef)
    → IsSound mesh → 0 < den → IsEnteredAt mesh (record { from = from; to = to }) here → IsHeldAlong mesh here from to num den
    → GoesFine mesh areas from to here visited links last → StaysFrom mesh from to here num den links last
stays_from mesh areas from to here visited num den [] last sound some entered held goes = (goes.0, held, held_end mesh from to here goes.1)
stays_from mesh areas from to here visited num den (link ∷ links) last sound some entered held goes = (
  next,
  below,
  record {
    some = some_below a b begins lead.over.exit.beyond;
    within = within_whole a b begins lead.over.exit.beyond;
    later = later;
    begins = held;
    ends = record { polygon = polygon; there = lead.there; holds = held_at_exit polygon from to link.edge num den next below some inside lead.over num_is den_is later held_now };
    listed = lead.listed;
    leaves = lead.leaves;
    through = record { on_line = on_portal polygon from to link.edge link.portal next below fine.out num_is den_is; meets = lead.meets };
  },
  stays_from mesh areas from to link.to (link.to ∷ visited) next below links last sound (some_below a b begins lead.over.exit.beyond)
      (next_entered mesh ray link polygon sound lead.listed there inside lead.over.exit lead.meets)
      (record {
        polygon = fine.enters;
        there = fine.is_entered;
        holds = λ other other_there. not_below _ _ (at_exit a b (fine_side fine.enters other from) (fine_side fine.enters other to) next below num_is den_is)
            (joined polygon fine.enters ray link.edge other link.portal fine.out fine.into lead.meets other_there);
      }) goes.1,
)
  where
    ray : FineRay
    ray = record { from = from; to = to }

    lead : LeadsFine mesh areas from to here visited link
    lead = goes.0.leads_on

    polygon : Polygon
    polygon = lead.polygon

    there : poly_at mesh link.from ≡ Some polygon
    there = ap (poly_at mesh) lead.leaves ∙ lead.there

    fine : IsFineLink mesh polygon link
    fine = fine_link mesh link polygon sound lead.listed there

    inside : IsEntered polygon ray
    inside = subst (λ (p : Polygon). IsEntered p ray) (same_Some entered.polygon polygon (sym entered.there ∙ lead.there)) entered.entered

    held_now : (other : ℕ) → other < length polygon.corners → pos 0 ≤ℤ along_way (fine_side polygon other from) (fine_side polygon other to) num den
    held_now =
        subst (λ (p : Polygon). (other : ℕ) → other < length p.corners → pos 0 ≤ℤ along_way (fine_side p other from) (fine_side p other to) num den)
        (same_Some held.polygon polygon (sym held.there ∙ lead.there)) held.holds

    a : ℤ
    a = fine_side polygon link.edge from

    b : ℤ
    b = fine_side polygon link.edge to

    begins : pos 0 ≤ℤ a
    begins = inside link.edge lead.over.exit

    next : ℕ
    next = unsigned_abs a

    below : ℕ
    below = unsigned_abs (a -ℤ b)

    num_is : pos next ≡ a
    num_is = numerator a begins

    den_is : pos below ≡ a -ℤ b
    den_is = denominator a b begins lead.over.exit.beyond

    later : num * below ≤ next * den
    later = no_earlier a b num den next below num_is den_is (held_now link.edge lead.over.exit.there)

pub ways_stay : DoWaysStay
ways_stay mesh areas first from to links last sound held way =
    stays_from mesh areas from to first (first ∷ []) 0 1 links last sound (omega arith) (begun mesh (record { from = from; to = to }) first held)
    (held_begin mesh from to first held) way.goes
