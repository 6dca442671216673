use Rattle.std.proofs.Common.{◌≡◌, ℕ, ◌++◌, List, [], take, drop, length, sym, subst, ap, ◌∙◌}
use Rattle.std.specs.Prelude.{All, Contains, slice_get}
use Rattle.std.proofs.Math.Seq.{take-append_seam}
use Rattle.mesh_types.specs.declared.links.Link.{Link}
use Rattle.mesh_types.specs.LinkOrder.{ordered_links}
use Rattle.ray_walk.specs.Walking.{Gathers, IsFirstAmong, IsOnward, IsOutward, inner_links, outer_links, links_from}
use Rattle.ray_walk.proofs.Gathering.{of_both, first_ordered}
use Rattle.ray_walk.proofs.LeavingLinks.{inner_outward, outer_outward, its_corners}
use Rattle.ray_walk.proofs.onward.next_link.Goals as goal

-- what is written through a vector's slice is what the vector holds
written_back : (n : ℕ) (old new : List Link) → n ≡ length new → take n (new ++ drop (length new) old) ≡ new
written_back n old new same = ap (λ i. take i (new ++ drop (length new) old)) same ∙ take-append_seam new (drop (length new) old)

pub push_onward-requires-clause-links : goal.push_onward-requires-clause-links
push_onward-requires-clause-links c =
    subst (λ (links : List Link). All (IsOutward c.args.inside.polygon.now) links) (sym c.inner.ensures)
    (inner_outward c.args.mesh.now c.args.at c.args.inside.polygon.now c.requires.sound c.requires.there)

pub push_onward-requires-clause-corners : goal.push_onward-requires-clause-corners
push_onward-requires-clause-corners c = its_corners c.args.mesh.now c.args.at c.args.inside.polygon.now c.requires.sound c.requires.there

pub push_onward-requires-2-clause-links : goal.push_onward-requires-2-clause-links
push_onward-requires-2-clause-links c =
    subst (λ (links : List Link). All (IsOutward c.args.inside.polygon.now) links) (sym c.outer.ensures)
    (outer_outward c.args.mesh.now c.args.at c.args.inside.polygon.now c.requires.sound c.requires.there)

pub push_onward-requires-2-clause-corners : goal.push_onward-requires-2-clause-corners
push_onward-requires-2-clause-corners c = its_corners c.args.mesh.now c.args.at c.args.inside.polygon.now c.requires.sound c.requires.there

pub returns : goal.returns
returns c =
    let mesh = c.args.mesh.now in
    let P = IsOnward c.args.inside.polygon.now c.args.inside.ray c.args.visited.now in
    let first = c.push_onward.new.onward.items in
    let both = c.push_onward-2.new.onward.items in
    let some : Gathers P [] (inner_links mesh c.args.at) first =
    subst (λ (old : List Link). Gathers P old (inner_links mesh c.args.at) first) c.clear.ensures.items
    (subst (λ (links : List Link). Gathers P c.clear.new.self.items links first) c.inner.ensures c.in_ok-push_onward.ensures) in
    let more : Gathers P first (outer_links mesh c.args.at) both =
    subst (λ (links : List Link). Gathers P first links both) c.outer.ensures c.in_ok-push_onward-2.ensures in
    let same : c.push_onward-2.new.onward.len ≡ length c.order_links.new.links =
    c.push_onward-2.new.onward.ok.0 ∙ sym (ap length c.as_mut_slice.ensures.value) ∙ sym c.order_links.auto.links in
    let sorted : c.deref.result.now ≡ ordered_links both =
    c.deref.ensures.value ∙ written_back c.push_onward-2.new.onward.len both c.order_links.new.links same ∙ c.order_links.ensures
    ∙ ap ordered_links c.as_mut_slice.ensures.value in
    subst (IsFirstAmong (λ link. Contains (links_from mesh c.args.at) link × P link))
    (sym (c.copied.ensures ∙ c.first.ensures.value ∙ ap (λ (links : List Link). slice_get links 0) sorted))
    (first_ordered (λ link. Contains (links_from mesh c.args.at) link × P link) both (of_both P (inner_links mesh c.args.at) (outer_links mesh c.args.at) first both some more))
