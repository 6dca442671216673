use Rattle.std.proofs.Common.{List, [], ◌↔◌, refl, sym, subst}
use Rattle.std.specs.Prelude.{All, Contains}
use Rattle.std.proofs.lemmas.List.Elements.{Contains-get_or}
use Rattle.mesh_types.specs.declared.links.PolyRef.{PolyRef}
use Rattle.wall_slide.specs.Ends.{IsNearestEnd}
use Rattle.wall_slide.specs.declared.around.Gathered.TheVariants.{Target}
use Rattle.wall_slide.specs.Gathers.{IsGatheredFor}
use Rattle.wall_slide.specs.Slides.{LooksAt}
use Rattle.wall_slide.proofs.EndLaws.{among_all, target_in, target_is}
use Rattle.wall_slide.proofs.slides.end_of.Goals as goal

pub returns-then-holds : goal.returns-then-holds
returns-then-holds c =
    target_is c.args.mesh.now c.args.asked.now c.requires.sound c.requires.start c.args.polygon.now c.requires.polygon
    (c.holds.ensures.0 c.if-holds.true)

pub returns-in-Target : goal.returns-in-Target
returns-in-Target c =
    let told : IsGatheredFor c.args.mesh.now c.args.asked.now (Target c.in-Target.at) =
    subst (IsGatheredFor c.args.mesh.now c.args.asked.now) c.in-Target.is c.in_ok-at.ensures in
    target_in c.args.mesh.now c.args.asked.now c.requires.sound c.requires.start c.in-Target.at told.0 told.1

pub nearest_end-requires-clause-list : goal.nearest_end-requires-clause-list
nearest_end-requires-clause-list c =
    let told : (at : PolyRef) → Contains c.in-All.list.items at ↔ LooksAt c.args.mesh.now c.args.asked.now at =
    subst (IsGatheredFor c.args.mesh.now c.args.asked.now) c.in-All.is c.in_ok-at.ensures in
    subst (λ (list : List PolyRef). All (LooksAt c.args.mesh.now c.args.asked.now) list) (sym c.as_slice.ensures.value)
    (λ k d below. (told _).0 (Contains-get_or c.in-All.list.items k d below))

pub nearest_end-requires-clause-first : goal.nearest_end-requires-clause-first
nearest_end-requires-clause-first c =
    let told : (at : PolyRef) → Contains c.in-All.list.items at ↔ LooksAt c.args.mesh.now c.args.asked.now at =
    subst (IsGatheredFor c.args.mesh.now c.args.asked.now) c.in-All.is c.in_ok-at.ensures in
    subst (λ (list : List PolyRef). Contains list c.args.asked.now.from.polygon) (sym c.as_slice.ensures.value)
    ((told c.args.asked.now.from.polygon).1 ([], refl))

pub returns-in-All : goal.returns-in-All
returns-in-All c =
    let told : (at : PolyRef) → Contains c.in-All.list.items at ↔ LooksAt c.args.mesh.now c.args.asked.now at =
    subst (IsGatheredFor c.args.mesh.now c.args.asked.now) c.in-All.is c.in_ok-at.ensures in
    among_all c.args.mesh.now c.args.asked.now c.requires.sound c.requires.start c.in-All.list.items c.nearest_end.result told
    (subst (λ (list : List PolyRef). IsNearestEnd c.args.mesh.now c.args.asked.now (Contains list) c.nearest_end.result) c.as_slice.ensures.value
    c.nearest_end.ensures)
