use Rattle.std.proofs.Common.{Some, sym, ap, ◌∙◌, inl, inr, arith}
use Rattle.std.proofs.lemmas.Option.{slice_get-get_or}
use Rattle.crowd_lead.proofs.PlaceLaws.{at_end, at_link}
use Rattle.crowd_lead.proofs.places.is_at.Goals as goal

pub returns-in-Some : goal.returns-in-Some
returns-in-Some c =
    let found = c.in-Some.ensures.lookup in
    let link = c.in-Some.link.now in
    let there = slice_get-get_or c.args.links.now c.args.place link found.3.0 ∙ ap Some (sym (found.3.1 link)) in (
      λ leaves. inl (record { link = link; there = there; leaves = c.leaves_agent.ensures.0 leaves }),
      λ is. c.leaves_agent.ensures.1 (at_link c.args.mesh.now c.args.agent.now c.args.goal c.args.links.now c.args.place link there is),
    )

pub returns-in-None : goal.returns-in-None
returns-in-None c =
    let past = c.in-None.ensures.lookup.3 in (
      λ comes. inr (record { behind = omega (arith, past, c.requires.within); comes = c.comes_to_end.ensures.0 comes }),
      λ is. c.comes_to_end.ensures.1 (at_end c.args.mesh.now c.args.agent.now c.args.goal c.args.links.now c.args.place past is),
    )
