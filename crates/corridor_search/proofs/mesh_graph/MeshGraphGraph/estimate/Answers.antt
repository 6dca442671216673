use Rattle.std.proofs.Common.{◌≡◌, ℕ, ◌*◌, max, min, ap, sym, ◌∙◌}
use Rattle.std.specs.Option.{option_copied}
use Rattle.nav_base.specs.declared.point.Point.{Point}
use Rattle.nav_base.specs.Distance.{distance_of}
use Rattle.corridor_search.specs.MeshGraphs.{polygon_of}
use Rattle.corridor_search.specs.Estimates.{extent_at, estimate_from, estimates_of}
use Rattle.corridor_search.specs.Landmarks.{heights_at, gap_of, estimates_by}
use Rattle.corridor_search.proofs.Vertices.{contains-there}
use Rattle.corridor_search.proofs.Extents.{extent-rules, estimate-by}
use Rattle.corridor_search.proofs.mesh_graph.MeshGraphGraph.estimate.Goals as goal

pub middle-middle-requires : goal.middle-middle-requires
middle-middle-requires c =
    let mesh = c.args.self.now.mesh.now in
    (extent-rules mesh (polygon_of c.args.from) c.extent_at-extent.result c.requires.sound.searched.sound (contains-there mesh c.args.from c.requires.there)
    (c.extent_at-extent.ensures ∙ ap (extent_at mesh) c.polygon_at-at.ensures)).box

pub returns-in-Some : goal.returns-in-Some
returns-in-Some c =
    let mesh = c.args.self.now.mesh.now in
    let goal = c.args.self.now.goal in
    let others = c.args.self.now.heights in
    let least = c.args.self.now.least in
    let middle : distance_of c.middle-middle.result goal ≡ estimate_from mesh goal (polygon_of c.args.from) =
    ap (λ (p : Point). distance_of p goal) c.middle-middle.ensures.value
    ∙ estimate-by mesh goal c.args.from c.extent_at-extent.result (contains-there mesh c.args.from c.requires.there)
    (c.extent_at-extent.ensures ∙ ap (extent_at mesh) c.polygon_at-at.ensures) in
    let heights = c.heights.ensures ∙ ap (heights_at c.in-Some.marks.now) c.polygon_at-at.ensures in
    c.cost_or.ensures
    ∙ ap (λ (n : ℕ). max (n * least) c.bound-bound.result) middle
    ∙ ap (max (estimates_of mesh goal least c.args.from)) (c.bound-bound.ensures ∙ ap (λ hs. min (gap_of 8 hs others) 4294967295) heights)
    ∙ sym (ap (λ marks. estimates_by mesh goal least (option_copied marks) others c.args.from) c.in-Some.is)

pub returns-in-None : goal.returns-in-None
returns-in-None c =
    let mesh = c.args.self.now.mesh.now in
    let goal = c.args.self.now.goal in
    let least = c.args.self.now.least in
    let distance =
    c.from.ensures ∙ c.distance.ensures ∙ ap (λ (p : Point). distance_of p goal) c.middle-middle.ensures.value
    ∙ estimate-by mesh goal c.args.from c.extent_at-extent.result (contains-there mesh c.args.from c.requires.there)
    (c.extent_at-extent.ensures ∙ ap (extent_at mesh) c.polygon_at-at.ensures) in
    (λ i. distance i * c.from-in-None.ensures i)
    ∙ sym (ap (λ marks. estimates_by mesh goal least (option_copied marks) c.args.self.now.heights c.args.from) c.in-None.is)
