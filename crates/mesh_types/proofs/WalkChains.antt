-- The portals of a walk are a chain, from each point that the first polygon holds to each that the last one holds.
use Rattle.std.proofs.Common.{◌≡◌, ◌≢◌, ℕ, zero, suc, ◌+◌, ◌-◌, ◌<◌, Bool, true, false, List, [], ◌∷◌, ◌++◌, length, get_or, refl, sym, ap, subst, ◌∙◌, arith}
use Rattle.std.specs.Prelude.{All, nat_lt, ◌==◌, if◌then◌else◌}
use Rattle.std.proofs.lemmas.Bool.{eqb-true, eqb-false, ltb-true, ltb-false}
use Rattle.std.proofs.lemmas.List.{get_or-map, length-map}
use Rattle.std.proofs.lemmas.List.Elements.{All-nil, All-cons, All-weaker}
use Rattle.nav_base.specs.declared.point.Point.{Point}
use Rattle.nav_base.specs.Point.{HasCoordinates}
use Rattle.mesh_types.specs.declared.links.Link.{Link}
use Rattle.mesh_types.specs.declared.links.PolyRef.{PolyRef}
use Rattle.mesh_types.specs.declared.links.Portal.{Portal}
use Rattle.mesh_types.specs.declared.mesh.Mesh.{Mesh}
use Rattle.mesh_types.specs.Chains.{portal_at, IsBehind, IsAhead, points_before, points_after, IsChain}
use Rattle.mesh_types.proofs.Words.{some_portal}
use Rattle.mesh_types.specs.Corridors.{IsLinkOf, WalksTo}
use Rattle.mesh_types.specs.Right.{portals_of}
use Rattle.mesh_types.specs.Soundness.{IsSound}
use Rattle.mesh_types.proofs.HeldPoints.{held_coordinates}
use Rattle.mesh_types.proofs.MeshPolygons.{placed}
use Rattle.mesh_types.proofs.MeshLinks.{Leads, leads, IsHeldIn, ends_left, ends_entered, behind_link, ahead_link, wide_link}

-- a link that stands for none, and the link at a place
abbrev pub some_link : Link
some_link = record { from = record { tile = 0; index = 0 }; edge = 0; to = record { tile = 0; index = 0 }; portal = some_portal }

abbrev pub link_at : List Link → ℕ → Link
link_at links m = get_or links m some_link

-- ---- the links of a walk

pub walk_link : (mesh : Mesh) (from : PolyRef) (links : List Link) (to : PolyRef) → WalksTo mesh from links to → (m : ℕ) → m < length links
    → IsLinkOf mesh (link_at links m)
walk_link mesh from [] to walk m there = absurd (omega (arith, there))
walk_link mesh from (link ∷ links) to walk zero there = walk.0
walk_link mesh from (link ∷ links) to walk (suc m) there = walk_link mesh link.to links to walk.2 m (omega (arith, there))

pub walk_first : (mesh : Mesh) (from : PolyRef) (links : List Link) (to : PolyRef) → WalksTo mesh from links to → 0 < length links
    → (link_at links 0).from ≡ from
walk_first mesh from [] to walk some = absurd (omega (arith, some))
walk_first mesh from (link ∷ links) to walk some = walk.1

pub walk_next : (mesh : Mesh) (from : PolyRef) (links : List Link) (to : PolyRef) → WalksTo mesh from links to → (m : ℕ) → suc m < length links
    → (link_at links (suc m)).from ≡ (link_at links m).to
walk_next mesh from [] to walk m there = absurd (omega (arith, there))
walk_next mesh from (link ∷ links) to walk zero there = walk_first mesh link.to links to walk.2 (omega (arith, there))
walk_next mesh from (link ∷ links) to walk (suc m) there = walk_next mesh link.to links to walk.2 m (omega (arith, there))

pub walk_last : (mesh : Mesh) (from : PolyRef) (links : List Link) (to : PolyRef) → WalksTo mesh from links to → (m : ℕ) → suc m ≡ length links
    → (link_at links m).to ≡ to
walk_last mesh from [] to walk m there = absurd (omega (arith, there))
walk_last mesh from (link ∷ []) to walk zero there = walk.2
walk_last mesh from (link ∷ other ∷ links) to walk zero there = absurd (omega (arith, there))
walk_last mesh from (link ∷ links) to walk (suc m) there = walk_last mesh link.to links to walk.2 m (omega (arith, there))

-- a walk goes on by a link that leaves the polygon that it leads to
pub walk_push : (mesh : Mesh) (from : PolyRef) (links : List Link) (at : PolyRef) (link : Link) → WalksTo mesh from links at → IsLinkOf mesh link → link.from ≡ at
    → WalksTo mesh from (links ++ link ∷ []) link.to
walk_push mesh from [] at link walk is leaves = (is, leaves ∙ sym walk, refl)
walk_push mesh from (first ∷ links) at link walk is leaves = (walk.0, walk.1, walk_push mesh first.to links at link walk.2 is leaves)

-- ---- the chain

portal_is : (links : List Link) (m : ℕ) → m < length links → portal_at (portals_of links) m ≡ (link_at links m).portal
portal_is links m there = get_or-map (λ (link : Link). link.portal) links m some_link some_portal there

-- what all elements of either of two lists keep
All-if : {X : Type 0} (P : X → Type 0) (b : Bool) (xs ys : List X) → (b ≡ true → All P xs) → (b ≡ false → All P ys) → All P (if b then xs else ys)
All-if P true xs ys then' else' = then' refl
All-if P false xs ys then' else' = else' refl

one : {X : Type 0} (P : X → Type 0) (x : X) → P x → All P (x ∷ [])
one P x h = All-cons P x [] h (All-nil P)

two : {X : Type 0} (P : X → Type 0) (x y : X) → P x → P y → All P (x ∷ y ∷ [])
two P x y h k = All-cons P x (y ∷ []) h (one P y k)

-- what comes before a portal is held by the polygon that it leads out of
before : (mesh : Mesh) (from : PolyRef) (links : List Link) (to : PolyRef) (start : Point) → IsSound mesh → WalksTo mesh from links to → IsHeldIn mesh from start
    → (m : ℕ) → m < length links → All (IsHeldIn mesh (link_at links m).from) (points_before start (portals_of links) m)
before mesh from links to start sound walk held m there =
    All-if (IsHeldIn mesh (link_at links m).from) (m == 0) _ _
    (λ first.
    let e : m ≡ 0 = eqb-true m 0 first in
    let at : (link_at links m).from ≡ from = ap (λ n. (link_at links n).from) e ∙ walk_first mesh from links to walk (omega (arith, there)) in
    one (IsHeldIn mesh (link_at links m).from) start (subst (λ (at : PolyRef). IsHeldIn mesh at start) (sym at) held))
    (λ later.
    let j : ℕ = m - 1 in
    let apart = eqb-false m 0 later in
    let next : m ≡ suc j = omega (arith, apart) in
    let at : (link_at links m).from ≡ (link_at links j).to = ap (λ n. (link_at links n).from) next ∙ walk_next mesh from links to walk j (omega (arith, there, next)) in
    let lead = leads mesh (link_at links j) sound (walk_link mesh from links to walk j (omega (arith, there, next))) in
    let ends = ends_entered mesh (link_at links j) sound lead in
    let portal = portal_is links j (omega (arith, there, next)) in
    subst (λ (at : PolyRef). All (IsHeldIn mesh at) ((portal_at (portals_of links) j).left ∷ (portal_at (portals_of links) j).right ∷ [])) (sym at)
    (subst (λ (p : Portal). All (IsHeldIn mesh (link_at links j).to) (p.left ∷ p.right ∷ [])) (sym portal)
    (two (IsHeldIn mesh (link_at links j).to) _ _ ends.left ends.right)))

-- what comes after it is held by the polygon that it leads into
after : (mesh : Mesh) (from : PolyRef) (links : List Link) (to : PolyRef) (goal : Point) → IsSound mesh → WalksTo mesh from links to → IsHeldIn mesh to goal
    → (m : ℕ) → m < length links → All (IsHeldIn mesh (link_at links m).to) (points_after (portals_of links) goal m)
after mesh from links to goal sound walk held m there =
    All-if (IsHeldIn mesh (link_at links m).to) (nat_lt (m + 1) (length (portals_of links))) _ _
    (λ more.
    let next : m + 1 ≡ suc m = omega arith in
    let there' : suc m < length links = omega (arith, ltb-true (m + 1) (length (portals_of links)) more, count) in
    let at = walk_next mesh from links to walk m there' in
    let lead = leads mesh (link_at links (suc m)) sound (walk_link mesh from links to walk (suc m) there') in
    let ends = ends_left mesh (link_at links (suc m)) sound lead in
    let portal : portal_at (portals_of links) (m + 1) ≡ (link_at links (suc m)).portal = ap (portal_at (portals_of links)) next ∙ portal_is links (suc m) there' in
    subst (λ (at : PolyRef). All (IsHeldIn mesh at) ((portal_at (portals_of links) (m + 1)).left ∷ (portal_at (portals_of links) (m + 1)).right ∷ [])) at
    (subst (λ (p : Portal). All (IsHeldIn mesh (link_at links (suc m)).from) (p.left ∷ p.right ∷ [])) (sym portal)
    (two (IsHeldIn mesh (link_at links (suc m)).from) _ _ ends.left ends.right)))
    (λ last.
    let at = walk_last mesh from links to walk m (omega (arith, ltb-false (m + 1) (length (portals_of links)) last, there, count)) in
    one (IsHeldIn mesh (link_at links m).to) goal (subst (λ (at : PolyRef). IsHeldIn mesh at goal) (sym at) held))
  where
    count : length (portals_of links) ≡ length links
    count = length-map links (λ (link : Link). link.portal)

pub walk_is_chain : (mesh : Mesh) (from : PolyRef) (links : List Link) (to : PolyRef) (start goal : Point) → IsSound mesh → WalksTo mesh from links to
    → IsHeldIn mesh from start → IsHeldIn mesh to goal → IsChain start (portals_of links) goal
walk_is_chain mesh from links to start goal sound walk held held' = record {
  wide = λ m there. subst (λ (p : Portal). p.left ≢ p.right) (sym (portal_is links m (within m there))) (wide_link mesh (link_at links m) (lead m (within m there)));
  behind = λ m there.
      All-weaker (IsHeldIn mesh (link_at links m).from) (IsBehind (portal_at (portals_of links) m))
      (λ p h. subst (λ (portal : Portal). IsBehind portal p) (sym (portal_is links m (within m there))) (behind_link mesh (link_at links m) p (lead m (within m there)) h))
      (points_before start (portals_of links) m) (before mesh from links to start sound walk held m (within m there));
  ahead = λ m there.
      All-weaker (IsHeldIn mesh (link_at links m).to) (IsAhead (portal_at (portals_of links) m))
      (λ p h. subst (λ (portal : Portal). IsAhead portal p) (sym (portal_is links m (within m there))) (ahead_link mesh (link_at links m) p (lead m (within m there)) h))
      (points_after (portals_of links) goal m) (after mesh from links to goal sound walk held' m (within m there));
}
  where
    within : (m : ℕ) → m < length (portals_of links) → m < length links
    within m there = omega (arith, there, length-map links (λ (link : Link). link.portal))

    lead : (m : ℕ) → m < length links → Leads mesh (link_at links m)
    lead m there = leads mesh (link_at links m) sound (walk_link mesh from links to walk m there)

-- all its points have coordinates
pub held_in_coordinates : (mesh : Mesh) (at : PolyRef) (p : Point) → IsSound mesh → IsHeldIn mesh at p → HasCoordinates p
held_in_coordinates mesh at p sound held = held_coordinates held.polygon p (placed mesh at held.polygon sound held.there).rules held.holds

-- both ends of a portal have coordinates
pub record HasEnds (portal : Portal) : Type 0 where
  pub left : HasCoordinates portal.left
  pub right : HasCoordinates portal.right

pub walk_ends : (mesh : Mesh) (from : PolyRef) (links : List Link) (to : PolyRef) → IsSound mesh → WalksTo mesh from links to → All HasEnds (portals_of links)
walk_ends mesh from links to sound walk m d there =
    let within : m < length links = omega (arith, there, length-map links (λ (link : Link). link.portal)) in
    let ends = ends_left mesh (link_at links m) sound (leads mesh (link_at links m) sound (walk_link mesh from links to walk m within)) in
    subst HasEnds (sym (get_or-map (λ (link : Link). link.portal) links m some_link d within))
    (record { left = held_in_coordinates mesh _ _ sound ends.left; right = held_in_coordinates mesh _ _ sound ends.right })
