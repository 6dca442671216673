use Rattle.std.proofs.Common.{rules, ◌≡◌, ◌∙◌}
use Rattle.nav_base.specs.Point.{orient_of}
use Rattle.mesh_types.specs.Rays.{side_of}
use Rattle.mesh_types.proofs.polygon.is_right.Goals as goal

pub returns : goal.returns
returns c =
    let e : c.orient.result ≡ side_of c.args.polygon.now c.args.edge c.args.p =
    c.orient.ensures ∙ (λ i. orient_of (c.edge_ends.ensures.begins i) (c.edge_ends.ensures.ends i) c.args.p) in
    rw (← e) (search rules)
