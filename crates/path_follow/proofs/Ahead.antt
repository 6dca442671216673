-- The polygons from where a walker stands up to what it makes for, and the answers where they lead.
use Rattle.std.proofs.Common.{◌≡◌, ℕ, suc, ◌+◌, ◌-◌, ◌<◌, ◌≤◌, List, [], ◌∷◌, ◌++◌, length, drop, take, get_or, refl, sym, ap, subst, ◌∙◌, arith}
use Rattle.std.specs.Prelude.{◌↔◌, Bool, IsTrue, Option, Some, None, slice_range}
use Rattle.std.specs.Option.{option_map_or}
use Rattle.std.proofs.lemmas.List.{get_or-drop, get_or-map, get_or-take, length-drop, length-map, length-take, take_more}
use Rattle.std.proofs.lemmas.Option.{get_or_from_slice_get, slice_get-get_or}
use Rattle.nav_base.specs.declared.point.Point.{Point}
use Rattle.mesh_types.specs.declared.links.Link.{Link}
use Rattle.mesh_types.specs.declared.links.PolyRef.{PolyRef}
use Rattle.mesh_types.specs.declared.mesh.Mesh.{Mesh}
use Rattle.mesh_types.specs.Corridors.{IsLinkOf}
use Rattle.mesh_types.specs.Rays.{IsHeldAt}
use Rattle.mesh_types.specs.Soundness.{IsSound}
use Rattle.mesh_types.proofs.MeshLinks.{leads}
use Rattle.surface_move.specs.declared.parts.PartEnd.{PartEnd}
use Rattle.surface_move.specs.Moves.{IsPart, IsThere, leg_of, no_polygon, nth_polygon}
use Rattle.agent_walks.specs.Marches.{EndsFrom, Stand, polygons_of}
use Rattle.path_follow.specs.declared.following.Following.{Following}
use Rattle.path_follow.specs.declared.following.FollowAnswer.{FollowAnswer}
use Rattle.path_follow.specs.declared.following.FollowAnswer.TheVariants.{NoStart}
use Rattle.path_follow.specs.declared.lines.NextPoint.{NextPoint}
use Rattle.path_follow.specs.declared.lines.Standing.{Standing}
use Rattle.path_follow.specs.Following.{CanFollow, HoldsGoal, IsFollowed, IsIntact, LeadsAt, looks_to, next_on, next_place, next_point, path_polygons, standing_on, upto_on}
use Rattle.path_follow.specs.Lines.{AreAhead, IsNext, IsStanding, IsToldAt}
use Rattle.path_follow.proofs.Ends.{ends-goal, ends-part}
use Rattle.path_follow.proofs.Standings.{none-left}

-- ---- polygons by their places

pub count-polygons : (first : PolyRef) (links : List Link) → length (polygons_of first links) ≡ length links + 1
count-polygons first links = omega (arith, length-map links (λ (link : Link). link.to))

-- behind a link stands the polygon that it enters
pub entered-at : (first : PolyRef) (links : List Link) (k : ℕ) (d : Link) → k < length links → nth_polygon (polygons_of first links) (k + 1) ≡ (get_or links k d).to
entered-at first links k d there =
    ap (nth_polygon (polygons_of first links)) next ∙ get_or-map (λ (link : Link). link.to) links k d no_polygon there
  where
    next : k + 1 ≡ suc k
    next = omega arith

-- a polygon of a part of a list
nth-between : (polys : List PolyRef) (a b k : ℕ) → a + k < b → nth_polygon (slice_range polys a b) k ≡ nth_polygon polys (a + k)
nth-between polys a b k below = get_or-take (b - a) (drop a polys) k no_polygon (omega (arith, below)) ∙ get_or-drop a polys k no_polygon

length-between : (polys : List PolyRef) (a b : ℕ) → a ≤ b → b ≤ length polys → length (slice_range polys a b) ≡ b - a
length-between polys a b order within = omega (arith, length-take (b - a) (drop a polys), length-drop a polys, order, within)

-- the polygons from a place on, and one more
pub between-more : (first : PolyRef) (links : List Link) (a b i : ℕ) (d : Link) (before after : List PolyRef) → i < length (slice_range links a b) → b ≤ length links
    → before ≡ slice_range (polygons_of first links) a (a + i + 1) → after ≡ before ++ (get_or (slice_range links a b) i d).to ∷ []
    → after ≡ slice_range (polygons_of first links) a (a + (i + 1) + 1)
between-more first links a b i d before after below within is more =
    more
    ∙ (λ j. (is ∙ taken (i + 1) (omega arith)) j ++ at j ∷ [])
    ∙ sym (take_more (drop a polys) (i + 1) no_polygon (omega (arith, length-drop a polys, count-polygons first links, inside)))
    ∙ sym (taken (i + 1 + 1) (omega arith))
  where
    polys : List PolyRef
    polys = polygons_of first links

    inside : a + i < length links
    inside = omega (arith, below, length-take (b - a) (drop a links), length-drop a links, within)

    taken : (n : ℕ) {m : ℕ} → m ≡ a + n → slice_range (polygons_of first links) a m ≡ take n (drop a (polygons_of first links))
    taken n same = ap (λ (k : ℕ). take k (drop a (polygons_of first links))) (omega (arith, same))

    at : (get_or (slice_range links a b) i d).to ≡ get_or (drop a (polygons_of first links)) (i + 1) no_polygon
    at =
        ap (λ (link : Link). link.to) (get_or-take (b - a) (drop a links) i d (omega (arith, below, length-take (b - a) (drop a links))) ∙ get_or-drop a links i d)
        ∙ sym (entered-at first links (a + i) d inside)
        ∙ ap (nth_polygon (polygons_of first links)) next
        ∙ sym (get_or-drop a (polygons_of first links) (i + 1) no_polygon)
      where
        next : a + i + 1 ≡ a + (i + 1)
        next = omega arith

-- ---- answers

module _ (mesh : Mesh) (f : Following) (sound : IsSound mesh) (can : CanFollow f) (intact : IsIntact mesh f) where
  abbrev polys : List PolyRef
  polys = path_polygons f

  last-place : length f.links ≡ length polys - 1
  last-place = omega (arith, count-polygons f.first f.links)

  -- an answer that tells where it is
  told-line : (point : Point) (link : ℕ) (answer : FollowAnswer) → EndsFrom mesh polys f.goal (standing_on f) (standing_on f).left link point
      → IsHeldAt mesh point (nth_polygon polys link) → f.link ≤ link → IsToldAt mesh f point link answer → IsFollowed f mesh answer
  told-line point link answer ends held onward told =
      subst (IsFollowed f mesh) (sym (told held.polygon held.there)) (record {
        intact = intact;
        ends = ends;
        comes_to = refl;
        held = held;
        floor = refl;
        onward = onward;
      })

  module _ (standing : Standing) (stands : IsStanding f standing) (next : NextPoint) (is : IsNext f standing next) where
    point-is : standing.point ≡ (standing_on f).point
    point-is = ap (λ (s : Stand). s.point) stands.is

    place-is : standing.place ≡ (standing_on f).place
    place-is = ap (λ (s : Stand). s.place) stands.is

    budget-is : standing.budget ≡ (standing_on f).budget
    budget-is = ap (λ (s : Stand). s.budget) stands.is

    behind : f.link ≤ standing.place
    behind = omega (arith, place-is)

    looked : next.upto ≤ looks_to f
    looked = omega (arith, is.upto)

    -- at the goal
    pub at-goal : (count : ℕ) (answer : FollowAnswer) → count ≡ length f.links → leg_of standing.point next.point ≤ standing.budget
        → IsToldAt mesh f f.goal count answer → IsFollowed f mesh answer
    at-goal count answer all reached told' =
        let told = subst (λ (n : ℕ). IsToldAt mesh f f.goal n answer) all told' in
        let none = none-left f can standing stands next is reached in
        let last : next_place f ≡ length f.links = ap (upto_on (length f.links) (standing_on f).place) none in
        let holds : HoldsGoal mesh f = intact.goal (omega (arith, last)) in
        let goal : next.point ≡ f.goal = is.point ∙ ap (next_on f.goal) none in
        let near : leg_of (standing_on f).point f.goal ≤ (standing_on f).budget =
        omega (arith, reached, budget-is, ap (leg_of standing.point) goal, ap (λ (p : Point). leg_of p f.goal) point-is) in
        told-line f.goal (length f.links) answer (ends-goal mesh polys f.goal (standing_on f) (length f.links) last-place (standing_on f).left none near)
        holds can.behind told

    abbrev between : List PolyRef
    between = slice_range polys standing.place (next.upto + 1)

    count : length between ≡ next.upto + 1 - standing.place
    count = length-between polys standing.place (next.upto + 1) (omega (arith, is.onward)) (omega (arith, is.within, count-polygons f.first f.links))

    nth : (k : ℕ) → k < length between → nth_polygon between k ≡ nth_polygon polys (standing.place + k)
    nth k there = nth-between polys standing.place (next.upto + 1) k (omega (arith, there, count))

    -- the polygon from which a link that is looked at leads, and the one that it enters
    left-there : (k : ℕ) → standing.place ≤ k → k < next.upto → IsThere mesh (nth_polygon polys k)
    left-there k from below =
        let at : LeadsAt mesh f k = intact.links k (omega (arith, from, behind)) (omega (arith, below, looked)) in
        let lead = leads mesh at.link sound at.listed in
        subst (IsThere mesh) at.leaves (record { polygon = lead.leaves; is = lead.is_left })

    entered-there : (k : ℕ) → standing.place ≤ k → k < next.upto → IsThere mesh (nth_polygon polys (k + 1))
    entered-there k from below =
        let at : LeadsAt mesh f k = intact.links k (omega (arith, from, behind)) (omega (arith, below, looked)) in
        let lead = leads mesh at.link sound at.listed in
        subst (IsThere mesh)
        (sym (entered-at f.first f.links k at.link (omega (arith, below, is.within)) ∙ ap (λ (link : Link). link.to) (get_or_from_slice_get f.links k at.link at.link at.there)))
        (record { polygon = lead.enters; is = lead.is_entered })

    -- so those on the way are there
    pub ahead : AreAhead mesh between
    ahead = record {
      some = omega (arith, count, is.onward);
      few = omega (arith, count, is.within, can.few);
      later = λ k some there.
          let before = entered-there (standing.place + (k - 1)) (omega arith) (omega (arith, there, count, some)) in
          subst (IsThere mesh) (sym (nth k there ∙ ap (nth_polygon polys) (step k some))) before;
      first = λ more.
          subst (IsThere mesh) (sym (nth 0 (omega (arith, more)) ∙ ap (nth_polygon polys) (plain standing.place)))
          (left-there standing.place (omega arith) (omega (arith, more, count)));
    }
      where
        step : (k : ℕ) → 0 < k → standing.place + k ≡ standing.place + (k - 1) + 1
        step k some = omega (arith, some)

        plain : (n : ℕ) → n + 0 ≡ n
        plain n = omega arith

    module _ (beyond : standing.budget < leg_of standing.point next.point) where
      beyond-is : (standing_on f).budget < leg_of (standing_on f).point (next_point f)
      beyond-is =
          omega (arith, beyond, budget-is, ap (leg_of standing.point) is.point, ap (λ (p : Point). leg_of p (next_point f)) point-is)

      -- a part as the definition sees it
      part-is : (part : Option PartEnd) → IsPart mesh between standing.point next.point standing.budget part
          → IsPart mesh (slice_range polys (standing_on f).place (next_place f + 1)) (standing_on f).point (next_point f) (standing_on f).budget part
      part-is part made =
          subst (λ (n : ℕ). IsPart mesh (slice_range polys (standing_on f).place (next_place f + 1)) (standing_on f).point (next_point f) n part) budget-is
          (subst (λ (p : Point). IsPart mesh (slice_range polys (standing_on f).place (next_place f + 1)) (standing_on f).point p standing.budget part) is.point
          (subst (λ (p : Point). IsPart mesh (slice_range polys (standing_on f).place (next_place f + 1)) p next.point standing.budget part) point-is
          (subst (λ (n : ℕ). IsPart mesh (slice_range polys (standing_on f).place (n + 1)) standing.point next.point standing.budget part) is.upto
          (subst (λ (n : ℕ). IsPart mesh (slice_range polys n (next.upto + 1)) standing.point next.point standing.budget part) place-is made))))

      takes : (part : Option PartEnd) (to : ℕ) (end : Point) → IsPart mesh between standing.point next.point standing.budget part
          → to ≡ (standing_on f).place + option_map_or (λ (p : PartEnd). p.place) part 0
          → end ≡ option_map_or (λ (p : PartEnd). p.at) part (standing_on f).point
          → EndsFrom mesh polys f.goal (standing_on f) (standing_on f).left to end
      takes part to end made comes ends =
          ends-part mesh polys f.goal (standing_on f) (length f.links) last-place (standing_on f).left to end beyond-is
          (record { part = part; is = part-is part made; comes_to = comes; ends_at = ends })

      -- at the end of a part
      pub at-part : (end : PartEnd) (answer : FollowAnswer) → IsPart mesh between standing.point next.point standing.budget (Some end)
          → IsToldAt mesh f end.at (standing.place + end.place) answer → IsFollowed f mesh answer
      at-part end answer made told =
          told-line end.at (standing.place + end.place) answer (takes (Some end) (standing.place + end.place) end.at made (ap (λ (n : ℕ). n + end.place) place-is) refl)
          (subst (IsHeldAt mesh end.at) (nth end.place made.met.there) made.met.held) (omega (arith, behind)) told

      -- within the path
      pub part-within : (end : PartEnd) → IsPart mesh between standing.point next.point standing.budget (Some end) → standing.place + end.place ≤ length f.links
      part-within end made = omega (arith, made.met.there, count, is.within)

      -- where there is none
      pub at-turn : (answer : FollowAnswer) → IsPart mesh between standing.point next.point standing.budget None
          → IsHeldAt mesh standing.point (nth_polygon polys standing.place) → IsToldAt mesh f standing.point standing.place answer → IsFollowed f mesh answer
      at-turn answer made held told =
          told-line standing.point standing.place answer (takes None standing.place standing.point made (place-is ∙ plain (standing_on f).place) point-is) held behind told
        where
          plain : (n : ℕ) → n ≡ n + 0
          plain n = omega arith

      -- nor does its polygon hold where it stands
      pub lost : IsPart mesh between standing.point next.point standing.budget None → (IsHeldAt mesh standing.point (nth_polygon polys standing.place) → ⊥)
          → IsFollowed f mesh NoStart
      lost made none = record {
        intact = intact;
        beyond = beyond-is;
        no_part = part-is None made;
        not_held = λ held. none (subst (λ (n : ℕ). IsHeldAt mesh standing.point (nth_polygon polys n)) (sym place-is)
            (subst (λ (p : Point). IsHeldAt mesh p (nth_polygon polys (standing_on f).place)) (sym point-is) held));
      }

-- whether a link leads on
pub leads-iff : (mesh : Mesh) (f : Following) (place : ℕ) (links : List Link) (d : Link) (at : PolyRef) (answer : Bool) → links ≡ f.links → place < length f.links
    → at ≡ nth_polygon (polygons_of f.first links) place
    → (IsTrue answer ↔ (IsLinkOf mesh (get_or links place d) × ((get_or links place d).from ≡ at))) → (IsTrue answer ↔ LeadsAt mesh f place)
leads-iff mesh f place links d at answer same there is decides = (gives, takes)
  where
    link : Link
    link = get_or f.links place d

    here : get_or links place d ≡ get_or f.links place d
    here = ap (λ (ls : List Link). get_or ls place d) same

    at-is : at ≡ nth_polygon (path_polygons f) place
    at-is = is ∙ ap (λ (ls : List Link). nth_polygon (polygons_of f.first ls) place) same

    gives : IsTrue answer → LeadsAt mesh f place
    gives held =
        let both = decides.0 held in
        record {
          link = get_or f.links place d;
          there = slice_get-get_or f.links place d there;
          listed = subst (IsLinkOf mesh) here both.0;
          leaves = ap (λ (l : Link). l.from) (sym here) ∙ both.1 ∙ at-is;
        }

    takes : LeadsAt mesh f place → IsTrue answer
    takes lead =
        let own : get_or links place d ≡ lead.link = here ∙ get_or_from_slice_get f.links place lead.link d lead.there in
        decides.1 (subst (IsLinkOf mesh) (sym own) lead.listed, ap (λ (l : Link). l.from) own ∙ lead.leaves ∙ sym at-is)
