use Rattle.std.proofs.Common.{[], ◌∷◌, ◌++◌, List, cond, ap, ◌∙◌, sym, get_or, pos}
use Rattle.std.specs.List.{filter}
use Rattle.std.proofs.lemmas.List.{take_all}
use Rattle.std.proofs.lemmas.List.Elements.{filter_more}
use Rattle.mesh_types.specs.declared.links.Link.{Link}
use Rattle.tile_links.specs.KeptLinks.{leads_to_old}
use Rattle.tile_links.proofs.new_tiles.kept_links.Goals as goal

-- a link of zeros
abbrev blank : Link
blank = record {
  from = record { tile = 0; index = 0 };
  edge = 0;
  to = record { tile = 0; index = 0 };
  portal = record { left = record { x = pos 0; z = pos 0 }; right = record { x = pos 0; z = pos 0 } };
}

pub loop-link-preserved : goal.loop-link-preserved
loop-link-preserved c =
    let q = leads_to_old c.args.news.now in
    let link = get_or c.args.links.now c.loop-link.link-index blank in
    c.in_ok-push_kept.ensures ∙ ap (λ (kept : List Link). kept ++ cond (q link) (link ∷ []) []) c.loop-link.invariant
    ∙ sym (filter_more q c.args.links.now c.loop-link.link-index blank c.loop-link-test.true)

pub returns : goal.returns
returns c = c.loop-link.invariant ∙ ap (filter (leads_to_old c.args.news.now)) (take_all c.loop-link.link-index c.args.links.now c.loop-link-test.false)
