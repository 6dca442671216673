use Rattle.std.proofs.Common.{◌≡◌, ℕ, ◌++◌, List, take, drop, length, ap, ◌∙◌, sym}
use Rattle.std.proofs.Math.Seq.{take-append_seam}
use Rattle.mesh_types.specs.declared.links.Link.{Link}
use Rattle.mesh_types.specs.LinkOrder.{ordered_links}
use Rattle.mesh_types.specs.Doors.{door_links}
use Rattle.contour_mesh.proofs.links.links_in_order.Goals as goal

-- a vector that was put in order through a slice
written_back : (n : ℕ) (old lent new sorted : List Link) → n ≡ length old → lent ≡ old → length new ≡ length lent → new ≡ sorted
    → take n (new ++ drop (length new) old) ≡ sorted
written_back n old lent new sorted many same kept is =
    ap (λ i. take i (new ++ drop (length new) old)) {x = n} {y = length new} (many ∙ ap length (sym same) ∙ sym kept)
    ∙ take-append_seam new (drop (length new) old) ∙ is

pub returns : goal.returns
returns c =
    written_back c.in_ok-links.links.len c.in_ok-links.links.items c.as_mut_slice.result.now c.order_links.new.links (door_links c.args.tile c.args.doors.now)
    c.in_ok-links.links.ok.0 c.as_mut_slice.ensures.value c.order_links.auto.links
    (c.order_links.ensures ∙ ap ordered_links (c.as_mut_slice.ensures.value ∙ c.in_ok-links.ensures))
