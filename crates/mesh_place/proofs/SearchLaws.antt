-- What a search has found, one more place at a time.
use Rattle.std.proofs.Common.{◌≡◌, ℕ, ◌+◌, ◌-◌, ◌*◌, ◌≤◌, ◌<◌, true, false, ◌⊎◌, inl, inr, refl, sym, ap, subst, ◌∙◌, arith}
use Rattle.std.specs.Prelude.{◌≢◌, min, max, Option, Some, None, IfSome}
use Rattle.std.specs.Ordering.{is_lt, nat_cmp, ordering_then, ordering_reverse, on}
use Rattle.std.specs.declared.cmp.Ordering.{Ordering}
use Rattle.std.specs.declared.cmp.Ordering.TheVariants.{Less, Equal, Greater}
use Rattle.std.specs.Cmp.{IsTotalOrder, nat_cmp_is}
use Rattle.std.proofs.lemmas.Bool.{true≢false, cases_lt}
use Rattle.std.proofs.lemmas.Cmp.{then_total, on_total, nat_cmp_total, ranked}
use Rattle.nav_base.specs.Deviation.{square_of}
use Rattle.nav_base.specs.Point.{from_to}
use Rattle.mesh_types.specs.declared.links.PolyRef.{PolyRef}
use Rattle.mesh_types.specs.declared.mesh.Mesh.{Mesh}
use Rattle.mesh_types.specs.declared.storeys.MeshPlace.{MeshPlace}
use Rattle.mesh_types.specs.LinkOrder.{poly_cmp}
use Rattle.mesh_types.specs.Places.{Stands}
use Rattle.mesh_types.specs.Soundness.{IsSound}
use Rattle.mesh_types.proofs.HeldPoints.{held_coordinates}
use Rattle.mesh_types.proofs.MeshPolygons.{placed}
use Rattle.mesh_types.proofs.LinkOrderLaws.{point_total}
use Rattle.mesh_place.specs.declared.near.Near.{Near}
use Rattle.mesh_place.specs.declared.storey_scan.NearSearch.{NearSearch}
use Rattle.mesh_place.specs.Nearest.{IsInReach, off_by, measure, place_cmp}
use Rattle.mesh_place.specs.Searches.{IsFound, IsNotBefore, comes_before, IsFoundAmong, IsMeasurable, IsFoundNear}
use Rattle.mesh_place.specs.Bounds.{AddAtLeast, IsBeyond, height_part, limit_of}

-- ---- the order of places

polygon_total : IsTotalOrder poly_cmp
polygon_total =
    then_total {R = on (λ (p : PolyRef). p.tile) nat_cmp} {S = on (λ (p : PolyRef). p.index) nat_cmp}
    (on_total (λ (p : PolyRef). p.tile) nat_cmp_total) (on_total (λ (p : PolyRef). p.index) nat_cmp_total)

pub place_total : (climb : ℕ) (asked : Near) → IsTotalOrder (place_cmp climb asked)
place_total climb asked =
    then_total (on_total (measure climb asked) nat_cmp_total) (then_total (on_total (off_by asked) nat_cmp_total)
    (then_total (on_total (λ (p : MeshPlace). p.polygon) polygon_total)
    (then_total (on_total (λ (p : MeshPlace). p.point) point_total) (on_total (λ (p : MeshPlace). p.y) nat_cmp_total))))

never_itself : (climb : ℕ) (asked : Near) (a : MeshPlace) → place_cmp climb asked a a ≢ Less
never_itself climb asked a is =
    let turned : Less ≡ ordering_reverse Less = sym is ∙ (place_total climb asked).antisymm a a ∙ ap ordering_reverse is in
    absurd (apart turned)
  where
    apart : Less ≡ Greater → ⊥
    apart e = absurd cc

-- what comes first has no greater measure
no_greater : (m n : ℕ) (rest : Ordering) → ordering_then (nat_cmp m n) rest ≡ Less → m ≤ n
no_greater m n rest less = by (nat_cmp m n) refl less
  where
    by : (o : Ordering) → o ≡ nat_cmp m n → ordering_then o rest ≡ Less → m ≤ n
    by Less is e = omega (arith, ranked m n Less is)
    by Equal is e = omega (arith, ranked m n Equal is)
    by Greater is e = absurd cc

is_less : (o : Ordering) → is_lt o ≡ true → o ≡ Less
is_less Less is = refl
is_less Equal is = absurd (true≢false (sym is))
is_less Greater is = absurd (true≢false (sym is))

not_less : (o : Ordering) → is_lt o ≡ false → o ≢ Less
not_less o is less = true≢false (sym (ap is_lt less) ∙ is)

-- ---- what was found

pub skipped : (mesh : Mesh) (asked : Near) (best : Option MeshPlace) (among : MeshPlace → Type 0) → IsFound mesh asked best
    → ((other : MeshPlace) → Stands mesh other → IsInReach mesh asked other → among other → IsNotBefore mesh.setting.agent.climb asked other best)
    → IsFoundAmong mesh asked best best among
skipped mesh asked best among found all = record { found = found; kept = λ other not. not; all = all }

-- nothing is among these places
pub passed : (mesh : Mesh) (asked : Near) (best : Option MeshPlace) (among : MeshPlace → Type 0) → IsFound mesh asked best
    → ((other : MeshPlace) → Stands mesh other → IsInReach mesh asked other → among other → ⊥) → IsFoundAmong mesh asked best best among
passed mesh asked best among found none = skipped mesh asked best among found (λ other stands near is. absurd (none other stands near is))

-- these places, and then those
pub more : (mesh : Mesh) (asked : Near) (a b c : Option MeshPlace) (first next both : MeshPlace → Type 0) → IsFoundAmong mesh asked a b first
    → IsFoundAmong mesh asked b c next
    → ((other : MeshPlace) → Stands mesh other → IsInReach mesh asked other → both other → first other ⊎ next other)
    → IsFoundAmong mesh asked a c both
more mesh asked a b c first next both left right split = record {
  found = right.found;
  kept = λ other not. right.kept other (left.kept other not);
  all = λ other stands near is.
      elim (split other stands near is) [
        | inl before ↦ right.kept other (left.all other stands near before)
        | inr here ↦ right.all other stands near here
      ];
}

-- fewer places
pub fewer : (mesh : Mesh) (asked : Near) (a b : Option MeshPlace) (among few : MeshPlace → Type 0) → IsFoundAmong mesh asked a b among
    → ((other : MeshPlace) → Stands mesh other → IsInReach mesh asked other → few other → among other) → IsFoundAmong mesh asked a b few
fewer mesh asked a b among few is back = record {
  found = is.found;
  kept = is.kept;
  all = λ other stands near one. is.all other stands near (back other stands near one);
}

-- one place that comes before what was found, or does not
pub taken : (mesh : Mesh) (asked : Near) (best : Option MeshPlace) (place : MeshPlace) → Stands mesh place → IsInReach mesh asked place
    → comes_before mesh.setting.agent.climb asked place best ≡ true → IsFoundAmong mesh asked best (Some place) (λ other. other ≡ place)
taken mesh asked best place stands near before = record {
  found = (stands, near);
  kept = λ other not. kept best before other not;
  all = λ other stands' near' is less. never_itself climb asked place (subst (λ (p : MeshPlace). place_cmp climb asked p place ≡ Less) is less);
}
  where
    climb : ℕ
    climb = mesh.setting.agent.climb

    kept : (best : Option MeshPlace) → comes_before mesh.setting.agent.climb asked place best ≡ true → (other : MeshPlace)
        → IsNotBefore mesh.setting.agent.climb asked other best → place_cmp mesh.setting.agent.climb asked other place ≢ Less
    kept None first other not = absurd not
    kept (Some found) first other not =
        λ less. not ((place_total mesh.setting.agent.climb asked).trans other place found less (is_less (place_cmp mesh.setting.agent.climb asked place found) first))

pub left_out : (mesh : Mesh) (asked : Near) (best : Option MeshPlace) (place : MeshPlace) → IsFound mesh asked best
    → comes_before mesh.setting.agent.climb asked place best ≡ false → IsFoundAmong mesh asked best best (λ other. other ≡ place)
left_out mesh asked best place found not =
    skipped mesh asked best (λ other. other ≡ place) found
    (λ other stands near is. subst (λ (p : MeshPlace). IsNotBefore mesh.setting.agent.climb asked p best) (sym is) (stays best not))
  where
    stays : (best : Option MeshPlace) → comes_before mesh.setting.agent.climb asked place best ≡ false → IsNotBefore mesh.setting.agent.climb asked place best
    stays None is = absurd (true≢false is)
    stays (Some found) is = not_less (place_cmp mesh.setting.agent.climb asked place found) is

-- ---- what is measured

pub measurable : (mesh : Mesh) (asked : Near) (place : MeshPlace) → IsSound mesh → Stands mesh place → IsInReach mesh asked place
    → IsMeasurable asked place
measurable mesh asked place sound stands near = record {
  point = held_coordinates stands.held.polygon place.point (placed mesh place.polygon stands.held.polygon sound stands.held.there).rules stands.held.holds;
  near = record { low = near.low; high = near.high };
}

pub found_measurable : (mesh : Mesh) (asked : Near) (best : Option MeshPlace) → IsSound mesh → IsFound mesh asked best → IfSome best (IsMeasurable asked)
found_measurable mesh asked None sound found = tt
found_measurable mesh asked (Some place) sound found = measurable mesh asked place sound found.0 found.1

-- a place that is beyond does not come before what was found
pub beyond : (mesh : Mesh) (asked : Near) (best : Option MeshPlace) (gap part : ℕ) (other : MeshPlace)
    → IsBeyond mesh.setting.agent.climb asked gap part best → gap ≤ square_of (from_to asked.point other.point)
    → part ≤ height_part mesh.setting.agent.climb asked (off_by asked other) → IsInReach mesh asked other
    → IsNotBefore mesh.setting.agent.climb asked other best
beyond mesh asked None gap part other far least high near = absurd (omega (arith, far, near.flat, least))
beyond mesh asked (Some best) gap part other far least high near =
    λ less.
    never (asked.reach * asked.reach) gap part (square_of (from_to asked.point other.point)) (height_part mesh.setting.agent.climb asked (off_by asked other))
    (measure mesh.setting.agent.climb asked best) far near.flat least high
    (no_greater (measure mesh.setting.agent.climb asked other) (measure mesh.setting.agent.climb asked best) _ less)
  where
    never : (r g p f h m : ℕ) → min (r + p) m < g + p → f ≤ r → g ≤ f → p ≤ h → f + h ≤ m → ⊥
    never r g p f h m far flat least high most = omega arith

-- what is farther than the limit is beyond
pub over_limit : (climb : ℕ) (asked : Near) (part : ℕ) (best : Option MeshPlace) (gap : ℕ) → limit_of climb asked part best < gap
    → IsBeyond climb asked gap part best
over_limit climb asked part None gap far = far
over_limit climb asked part (Some best) gap far = over (asked.reach * asked.reach) (measure climb asked best) far
  where
    over : (r m : ℕ) → min r (m - part) < gap → min (r + part) m < gap + part
    over r m far = omega arith

-- and so does none of some places that are farther
pub not_within : (mesh : Mesh) (asked : Near) (best : Option MeshPlace) (part reach : ℕ) (other : MeshPlace)
    → part ≤ height_part mesh.setting.agent.climb asked (off_by asked other) → limit_of mesh.setting.agent.climb asked part best ≤ reach * reach
    → reach * reach < square_of (from_to asked.point other.point) → IsInReach mesh asked other → IsNotBefore mesh.setting.agent.climb asked other best
not_within mesh asked best part reach other high enough far near =
    beyond mesh asked best (square_of (from_to asked.point other.point)) part other
    (over_limit mesh.setting.agent.climb asked part best (square_of (from_to asked.point other.point)) (omega (arith, enough, far))) (omega arith) high near

-- what was looked at within a reach, beyond which nothing comes before what was found, is all
pub no_more : (mesh : Mesh) (asked : Near) (old new : Option MeshPlace) (part reach : ℕ) (among : MeshPlace → Type 0) → AddAtLeast mesh asked part among
    → limit_of mesh.setting.agent.climb asked part new ≤ reach * reach
    → IsFoundAmong mesh asked old new (λ place. among place × (square_of (from_to asked.point place.point) ≤ reach * reach))
    → IsFoundAmong mesh asked old new among
no_more mesh asked old new part reach among adds enough is = record {
  found = is.found;
  kept = is.kept;
  all = λ other stands near one.
      elim (cases_lt (reach * reach) (square_of (from_to asked.point other.point))) [
        | inl far ↦ not_within mesh asked new part reach other (adds other stands near one) enough far near
        | inr close ↦ is.all other stands near (one, close)
      ];
}

-- no greater reach is left than there was
pub no_less : (mesh : Mesh) (asked : Near) (old new : Option MeshPlace) (part reach : ℕ) (among : MeshPlace → Type 0) → AddAtLeast mesh asked part among
    → limit_of mesh.setting.agent.climb asked part old ≤ reach * reach
    → IsFoundAmong mesh asked old new (λ place. among place × (square_of (from_to asked.point place.point) ≤ reach * reach))
    → IsFoundAmong mesh asked old new among
no_less mesh asked old new part reach among adds enough is = record {
  found = is.found;
  kept = is.kept;
  all = λ other stands near one.
      elim (cases_lt (reach * reach) (square_of (from_to asked.point other.point))) [
        | inl far ↦ is.kept other (not_within mesh asked old part reach other (adds other stands near one) enough far near)
        | inr close ↦ is.all other stands near (one, close)
      ];
}

-- ---- a place that leads others: each of them is it, or farther at the same height

-- of two places of one height the nearer has the lesser measure
abbrev IsFarther : Near → MeshPlace → MeshPlace → Type 0
IsFarther asked a b = (b.y ≡ a.y) × (square_of (from_to asked.point a.point) < square_of (from_to asked.point b.point))

lesser : (climb : ℕ) (asked : Near) (a b : MeshPlace) → IsFarther asked a b → measure climb asked a < measure climb asked b
lesser climb asked a b far =
    subst (λ (y : ℕ). measure climb asked a < square_of (from_to asked.point b.point) + over y * over y) (sym far.0)
    (more_of (square_of (from_to asked.point a.point)) (square_of (from_to asked.point b.point)) (over a.y * over a.y) far.1)
  where
    over : ℕ → ℕ
    over y = asked.weight * (max (y - asked.y) (asked.y - y) - climb)

    more_of : (m n k : ℕ) → m < n → m + k < n + k
    more_of m n k less = omega (arith, less)

first_less : (m n : ℕ) (rest : Ordering) → m < n → ordering_then (nat_cmp m n) rest ≡ Less
first_less m n rest less = ap (λ (o : Ordering). ordering_then o rest) (sym (nat_cmp_is m n Less less))

-- what does not come after the nearer of two does not come after the other
pub farther : (climb : ℕ) (asked : Near) (a b : MeshPlace) (best : Option MeshPlace) → IsFarther asked a b → IsNotBefore climb asked a best
    → IsNotBefore climb asked b best
farther climb asked a b None far not = not
farther climb asked a b (Some best) far not =
    λ less. not ((place_total climb asked).trans a b best (first_less (measure climb asked a) (measure climb asked b) _ (lesser climb asked a b far)) less)

abbrev pub IsLed : Mesh → Near → MeshPlace → (MeshPlace → Type 0) → Type 0
IsLed mesh asked place among = (other : MeshPlace) → Stands mesh other → among other → (other ≡ place) ⊎ IsFarther asked place other

behind : (mesh : Mesh) (asked : Near) (place : MeshPlace) (among : MeshPlace → Type 0) (best : Option MeshPlace) → IsLed mesh asked place among
    → IsNotBefore mesh.setting.agent.climb asked place best → (other : MeshPlace) → Stands mesh other → among other
    → IsNotBefore mesh.setting.agent.climb asked other best
behind mesh asked place among best led not other stands one =
    elim (led other stands one) [
      | inl same ↦ subst (λ (p : MeshPlace). IsNotBefore mesh.setting.agent.climb asked p best) (sym same) not
      | inr far ↦ farther mesh.setting.agent.climb asked place other best far not
    ]

-- where it is not within a reach, none is
pub led_beyond : (mesh : Mesh) (asked : Near) (place : MeshPlace) (among : MeshPlace → Type 0) (best : Option MeshPlace) (reach : ℕ)
    → IsFound mesh asked best → IsLed mesh asked place among → (square_of (from_to asked.point place.point) ≤ reach * reach → ⊥)
    → IsFoundAmong mesh asked best best (λ other. among other × (square_of (from_to asked.point other.point) ≤ reach * reach))
led_beyond mesh asked place among best reach found led never =
    passed mesh asked best (λ other. among other × (square_of (from_to asked.point other.point) ≤ reach * reach)) found
    (λ other stands near one.
    elim (led other stands one.0) [
      | inl same ↦ never (subst (λ (p : MeshPlace). square_of (from_to asked.point p.point) ≤ reach * reach) same one.1)
      | inr far ↦ never (omega (arith, far.1, one.1))
    ])

-- where it does not come before what was found, none does
pub led_left_out : (mesh : Mesh) (asked : Near) (place : MeshPlace) (among few : MeshPlace → Type 0) (best : Option MeshPlace)
    → ((other : MeshPlace) → few other → among other) → IsFound mesh asked best → IsLed mesh asked place among
    → comes_before mesh.setting.agent.climb asked place best ≡ false → IsFoundAmong mesh asked best best few
led_left_out mesh asked place among few best within found led not =
    skipped mesh asked best few found (λ other stands near one. behind mesh asked place among best led (stays best not) other stands (within other one))
  where
    stays : (best : Option MeshPlace) → comes_before mesh.setting.agent.climb asked place best ≡ false → IsNotBefore mesh.setting.agent.climb asked place best
    stays None is = absurd (true≢false is)
    stays (Some found) is = not_less (place_cmp mesh.setting.agent.climb asked place found) is

-- where it was looked at, all were
pub led_found : (mesh : Mesh) (asked : Near) (place : MeshPlace) (among few : MeshPlace → Type 0) (old new : Option MeshPlace)
    → ((other : MeshPlace) → few other → among other) → IsLed mesh asked place among → Stands mesh place → IsInReach mesh asked place
    → IsFoundAmong mesh asked old new (λ other. other ≡ place) → IsFoundAmong mesh asked old new few
led_found mesh asked place among few old new within led stands near is = record {
  found = is.found;
  kept = is.kept;
  all = λ other stands' near' one. behind mesh asked place among new led (is.all place stands near refl) other stands' (within other one);
}

-- one of two kinds, within a reach
pub either_within : {A B W : Type 0} → A ⊎ B → W → (A × W) ⊎ (B × W)
either_within (inl one) within = inl (one, within)
either_within (inr one) within = inr (one, within)

-- no limit is more than the square of the reach
pub limit_most : (climb : ℕ) (asked : Near) (part : ℕ) (best : Option MeshPlace) → limit_of climb asked part best ≤ asked.reach * asked.reach
limit_most climb asked part None = omega arith
limit_most climb asked part (Some best) = omega arith

-- what a search within a reach found, in the words of what is asked
pub near_as : (mesh : Mesh) (search : NearSearch) (asked : Near) (reach : ℕ) (old new : Option MeshPlace) (among : MeshPlace → Type 0)
    → search.asked ≡ asked → search.reach ≡ reach → IsFoundNear mesh search old new among
    → IsFoundAmong mesh asked old new (λ place. among place × (square_of (from_to asked.point place.point) ≤ reach * reach))
near_as mesh search asked reach old new among same same' is =
    subst (λ (a : Near). IsFoundAmong mesh a old new (λ place. among place × (square_of (from_to a.point place.point) ≤ reach * reach))) same
    (subst (λ (n : ℕ). IsFoundAmong mesh search.asked old new (λ place. among place × (square_of (from_to search.asked.point place.point) ≤ n * n))) same' is)

-- what was looked at last is all that is wanted
pub after_more : (mesh : Mesh) (asked : Near) (a b c : Option MeshPlace) (first next : MeshPlace → Type 0) → IsFoundAmong mesh asked a b first
    → IsFoundAmong mesh asked b c next → IsFoundAmong mesh asked a c next
after_more mesh asked a b c first next left right = more mesh asked a b c first next next left right (λ other stands near one. inr one)
