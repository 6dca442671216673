use Rattle.std.proofs.Common.{ℕ, List, All, refl, sym, subst}
use Rattle.corridor_search.specs.Islands.{IsReached}
use Rattle.corridor_search.proofs.LeftAlone.{apart-outside}
use Rattle.corridor_search.proofs.islands.is_cut_off.Goals as goal

pub is_left_alone-requires-clause-reach : goal.is_left_alone-requires-clause-reach
is_left_alone-requires-clause-reach c =
    subst (λ (ts : List ℕ). All (IsReached ts) c.as_slice-island.result.now) (sym c.as_slice.ensures.value) c.in_ok-tiles.ensures

pub returns : goal.returns
returns c alone =
    apart-outside c.args.mesh.now c.as_slice-island.result.now c.args.from c.args.to (c.is_left_alone.ensures alone) (c.if-not-has.ensures.there refl) (c.if-has.ensures.not refl)
