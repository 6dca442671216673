use Rattle.std.proofs.Common.{◌+◌, List, take, sym, subst}
use Rattle.std.specs.Prelude.{Contains, Option, Some, None, IfSome}
use Rattle.std.proofs.lemmas.Bool.{iff_false}
use Rattle.std.proofs.lemmas.List.{take_all}
use Rattle.std.proofs.lemmas.List.Elements.{All-contains}
use Rattle.nav_base.specs.Point.{HasCoordinates}
use Rattle.nav_base.proofs.Sizes.{HasCoordinates-field}
use Rattle.mesh_types.specs.declared.links.Link.{Link}
use Rattle.mesh_types.specs.declared.links.Portal.{Portal}
use Rattle.wall_slide.specs.Gathers.{IsLeading}
use Rattle.wall_query.specs.Parts.{IsBeyond, IsFirstAmong}
use Rattle.wall_query.proofs.FieldPoints.{edge_field, portal_field}
use Rattle.wall_query.proofs.FirstLaws.{one_less, one_more, right_coordinates}
use Rattle.wall_query.proofs.ListLaws.{taken_element}
use Rattle.wall_query.proofs.parts.first_of.Goals.{then-is_beyond, else-is_beyond}
use Rattle.wall_query.proofs.parts.first_of.Goals as goal

pub sooner-requires-clause-begin : goal.sooner-requires-clause-begin
sooner-requires-clause-begin c = HasCoordinates-field _ (edge_field c.args.mesh.now c.args.edge.now c.requires.sound c.requires.edge).begin

pub sooner-requires-clause-end : goal.sooner-requires-clause-end
sooner-requires-clause-end c = HasCoordinates-field _ (edge_field c.args.mesh.now c.args.edge.now c.requires.sound c.requires.edge).end

pub sooner-requires-clause-first : goal.sooner-requires-clause-first
sooner-requires-clause-first c = by c.loop-link.first c.loop-link.invariant
  where
    by : (first : Option Portal)
        → IsFirstAmong (λ link. Contains (take c.loop-link.link-index c.args.links.now) link × IsBeyond c.args.mesh.now c.args.areas c.args.edge.now c.args.from link) c.args.edge.now first
        → IfSome first (λ portal. HasCoordinates portal.right)
    by None none = tt
    by (Some portal) is =
        right_coordinates c.args.edge.now c.args.mesh.now _ portal c.requires.sound
        (λ link seen. All-contains (IsLeading c.args.mesh.now) c.args.links.now link c.requires.links (taken_element c.loop-link.link-index c.args.links.now link seen.0)) is

pub sooner-requires-clause-other : goal.sooner-requires-clause-other
sooner-requires-clause-other c =
    HasCoordinates-field _ (portal_field c.args.mesh.now _ c.requires.sound (c.requires.links c.loop-link.link-index _ c.loop-link-test.true)).right

pub loop-link-preserved : goal.loop-link-preserved
loop-link-preserved c =
    elim c.if-is_beyond.branch [
      | then-is_beyond w ↦
          subst (λ (first : Option Portal). IsFirstAmong (λ link. Contains (take (c.loop-link.link-index + 1) c.args.links.now) link
          × IsBeyond c.args.mesh.now c.args.areas c.args.edge.now c.args.from link) c.args.edge.now first) (sym w.first-is)
          (one_more c.args.edge.now c.args.mesh.now c.args.areas c.args.from c.args.links.now c.loop-link.link-index _ c.loop-link-test.true c.loop-link.first
          c.loop-link.invariant (c.is_beyond.ensures.0 w.if-is_beyond.true) _ w.sooner.ensures)
      | else-is_beyond w ↦
          subst (λ (first : Option Portal). IsFirstAmong (λ link. Contains (take (c.loop-link.link-index + 1) c.args.links.now) link
          × IsBeyond c.args.mesh.now c.args.areas c.args.edge.now c.args.from link) c.args.edge.now first) (sym w.first-is)
          (one_less c.args.edge.now c.args.mesh.now c.args.areas c.args.from c.args.links.now c.loop-link.link-index _ c.loop-link-test.true c.loop-link.first
          c.loop-link.invariant (iff_false c.is_beyond.ensures w.if-is_beyond.false))
    ]

pub returns : goal.returns
returns c =
    subst (λ (seen : List Link). IsFirstAmong (λ link. Contains seen link × IsBeyond c.args.mesh.now c.args.areas c.args.edge.now c.args.from link) c.args.edge.now c.loop-link.first)
    (take_all c.loop-link.link-index c.args.links.now c.loop-link-test.false) c.loop-link.invariant
