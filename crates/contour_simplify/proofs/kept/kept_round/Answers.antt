use Rattle.std.proofs.Common.{ℕ, ◌+◌, ◌∙◌, ap, sym, List, [], ◌∷◌, ◌++◌, length, get_or, arith}
use Rattle.mesh_types.specs.Simplified.{kept_places, kept_round}
use Rattle.contour_simplify.proofs.Rising.{places_kept, again}
use Rattle.contour_simplify.proofs.kept.kept_round.Goals as goal

pub index-requires : goal.index-requires
index-requires c =
    omega (arith, c.in_ok-places.places.ok.0, ap (λ (ks : List ℕ). length ks) c.in_ok-places.ensures, (places_kept c.args.edges.now c.requires.ring c.requires.some).some)

pub overflow_add-again : goal.overflow_add-again
overflow_add-again c =
    let kept = places_kept c.args.edges.now c.requires.ring c.requires.some in
    let d : ℕ = c.index.result.now in
    omega (arith, c.requires.few, c.index.ensures, ap (λ (ks : List ℕ). get_or ks 0 d) c.in_ok-places.ensures, kept.below 0 d kept.some)

pub returns : goal.returns
unfolding kept_round
returns c =
    let places : List ℕ = kept_places c.args.edges.now in
    let count : ℕ = length c.args.edges.now in
    let kept = places_kept c.args.edges.now c.requires.ring c.requires.some in
    let d : ℕ = c.index.result.now in
    c.in_ok-push.ensures.items
    ∙ ap (λ (ks : List ℕ). ks ++ (d + count) ∷ []) c.in_ok-places.ensures
    ∙ ap (λ (last : List ℕ). places ++ last) (ap (λ (k : ℕ). (k + count) ∷ []) (c.index.ensures ∙ ap (λ (ks : List ℕ). get_or ks 0 d) c.in_ok-places.ensures)
    ∙ sym (again count places d kept.some))
