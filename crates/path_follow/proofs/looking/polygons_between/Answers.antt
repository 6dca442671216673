use Rattle.std.proofs.Common.{◌+◌, ◌≤◌, List, length, ap, arith, sym, ◌∙◌}
use Rattle.std.specs.Prelude.{slice_range}
use Rattle.mesh_types.specs.declared.links.Link.{Link}
use Rattle.agent_walks.specs.Marches.{polygons_of}
use Rattle.path_follow.proofs.Ahead.{between-more}
use Rattle.path_follow.proofs.looking.polygons_between.Goals as goal

pub loop-link-preserved : goal.loop-link-preserved
loop-link-preserved c =
    let f = c.args.following.now in
    let links = c.as_slice-links.result.now in
    let i = c.loop-link.link-index in
    let same = ap (λ (ls : List Link). slice_range (polygons_of f.first ls) c.args.first (c.args.first + i + 1)) (sym c.as_slice-links.ensures) in
    let within : c.args.last ≤ length links = omega (arith, c.requires.within, ap (λ (ls : List Link). length ls) c.as_slice-links.ensures) in
    between-more f.first links c.args.first c.args.last i _ c.loop-link.polys.items _ c.loop-link-test.true within (c.loop-link.invariant ∙ same)
    c.in_ok-push-2.ensures.items
    ∙ ap (λ (ls : List Link). slice_range (polygons_of f.first ls) c.args.first (c.args.first + (i + 1) + 1)) c.as_slice-links.ensures
