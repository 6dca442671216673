use Rattle.std.proofs.Common.{List, ap, subst, sym, ◌∙◌}
use Rattle.std.specs.Prelude.{Some, None}
use Rattle.std.proofs.lemmas.Bool.{iff_false}
use Rattle.mesh_types.specs.declared.links.Link.{Link}
use Rattle.mesh_types.specs.declared.links.PolyRef.{PolyRef}
use Rattle.mesh_types.specs.Rays.{IsHeldAt}
use Rattle.surface_move.specs.Moves.{IsPart, nth_polygon}
use Rattle.agent_walks.specs.Marches.{polygons_of}
use Rattle.path_follow.specs.Lines.{AreAhead}
use Rattle.path_follow.proofs.Ahead as laws
use Rattle.path_follow.proofs.following.on_the_way.Goals as goal

pub part_ahead-requires-clause-ahead : goal.part_ahead-requires-clause-ahead
part_ahead-requires-clause-ahead c =
    subst (AreAhead c.args.mesh.now) (sym (c.as_slice-ahead.ensures.value ∙ c.in_ok-polys.ensures))
    (laws.ahead c.args.mesh.now c.args.following.now c.requires.sound c.requires.can c.requires.intact c.args.standing c.requires.stands c.args.next c.requires.next)

pub returns-in-Some : goal.returns-in-Some
returns-in-Some c =
    let made = subst (λ (polys : List PolyRef). IsPart c.args.mesh.now polys c.args.standing.point c.args.next.point c.args.standing.budget (Some c.in-Some.end))
    (c.as_slice-ahead.ensures.value ∙ c.in_ok-polys.ensures) c.in-Some.ensures in
    laws.at-part c.args.mesh.now c.args.following.now c.requires.sound c.requires.can c.requires.intact c.args.standing c.requires.stands c.args.next c.requires.next
    c.requires.beyond c.in-Some.end c.walking.result made c.walking.ensures

pub returns-then-is_held : goal.returns-then-is_held
returns-then-is_held c =
    let made = subst (λ (polys : List PolyRef). IsPart c.args.mesh.now polys c.args.standing.point c.args.next.point c.args.standing.budget None)
    (c.as_slice-ahead.ensures.value ∙ c.in_ok-polys.ensures) c.in_default.ensures in
    laws.at-turn c.args.mesh.now c.args.following.now c.requires.sound c.requires.can c.requires.intact c.args.standing c.requires.stands c.args.next c.requires.next
    c.requires.beyond c.walking-then-is_held.result made
    (subst (IsHeldAt c.args.mesh.now c.args.standing.point)
    (c.nth_polygon-at.ensures ∙ ap (λ (ls : List Link). nth_polygon (polygons_of c.args.following.now.first ls) c.args.standing.place) c.as_slice.ensures)
    (c.is_held.ensures.0 c.if-is_held.true)) c.walking-then-is_held.ensures

pub returns : goal.returns
returns c =
    let made = subst (λ (polys : List PolyRef). IsPart c.args.mesh.now polys c.args.standing.point c.args.next.point c.args.standing.budget None)
    (c.as_slice-ahead.ensures.value ∙ c.in_ok-polys.ensures) c.in_default.ensures in
    laws.lost c.args.mesh.now c.args.following.now c.requires.sound c.requires.can c.requires.intact c.args.standing c.requires.stands c.args.next c.requires.next
    c.requires.beyond made
    (λ held. iff_false c.is_held.ensures c.if-is_held.false
    (subst (IsHeldAt c.args.mesh.now c.args.standing.point)
    (sym (c.nth_polygon-at.ensures ∙ ap (λ (ls : List Link). nth_polygon (polygons_of c.args.following.now.first ls) c.args.standing.place) c.as_slice.ensures)) held))
