use Rattle.std.proofs.Common.{◌≡◌, ℕ, ◌++◌, List, take, drop, length, ap, ◌∙◌, sym, subst}
use Rattle.std.specs.Prelude.{IfOk}
use Rattle.std.proofs.Math.Seq.{take-append_seam}
use Rattle.mesh_types.specs.declared.links.Link.{Link}
use Rattle.mesh_types.specs.LinkIndex.{AreOrderedLinks, AreBelow}
use Rattle.mesh_types.specs.LinkOrder.{ordered_links}
use Rattle.mesh_types.specs.StripLinks.{strip_links}
use Rattle.strip_mesh.specs.Indexed.{runs_in}
use Rattle.strip_mesh.proofs.Parts.{links_ordered, links_below}
use Rattle.strip_mesh.proofs.inner.inner_links.Goals as goal

-- a vector that was put in order through a slice
written_back : (n : ℕ) (old new : List Link) → n ≡ length new → take n (new ++ drop (length new) old) ≡ new
written_back n old new same =
    ap (λ i. take i (new ++ drop (length new) old)) same ∙ take-append_seam new (drop (length new) old)

pub new-requires-clause-order : goal.new-requires-clause-order
new-requires-clause-order c =
    let tile = c.args.strips.now.free.tile in
    let runs = runs_in c.args.strips.now in
    let same : c.in_ok-links.links.len ≡ length c.order_links.new.links =
    c.in_ok-links.links.ok.0 ∙ sym (ap length c.as_mut_slice.ensures.value) ∙ sym c.order_links.auto.links in
    let sorted = written_back c.in_ok-links.links.len c.in_ok-links.links.items c.order_links.new.links same
    ∙ c.order_links.ensures ∙ ap ordered_links (c.as_mut_slice.ensures.value ∙ c.in_ok-links.ensures) in
    subst AreOrderedLinks (sym sorted) (links_ordered tile runs)

pub new-requires-clause-within : goal.new-requires-clause-within
new-requires-clause-within c =
    let tile = c.args.strips.now.free.tile in
    let runs = runs_in c.args.strips.now in
    let same : c.in_ok-links.links.len ≡ length c.order_links.new.links =
    c.in_ok-links.links.ok.0 ∙ sym (ap length c.as_mut_slice.ensures.value) ∙ sym c.order_links.auto.links in
    let sorted = written_back c.in_ok-links.links.len c.in_ok-links.links.items c.order_links.new.links same
    ∙ c.order_links.ensures ∙ ap ordered_links (c.as_mut_slice.ensures.value ∙ c.in_ok-links.ensures) in
    let P : ℕ → Type 0 = λ n. AreBelow n (strip_links tile runs) in
    subst (AreBelow c.count.result) (sym sorted) (subst P (sym c.count.ensures.value) (links_below tile runs))

pub returns : goal.returns
returns c =
    let same : c.in_ok-links.links.len ≡ length c.order_links.new.links =
    c.in_ok-links.links.ok.0 ∙ sym (ap length c.as_mut_slice.ensures.value) ∙ sym c.order_links.auto.links in
    let sorted = written_back c.in_ok-links.links.len c.in_ok-links.links.items c.order_links.new.links same
    ∙ c.order_links.ensures ∙ ap ordered_links (c.as_mut_slice.ensures.value ∙ c.in_ok-links.ensures) in
    let P : List Link → Type 0 = λ links. IfOk c.new.result (λ made. made ≡ links) in
    subst P sorted c.new.ensures
