-- rows of heights that are not there
use Rattle.std.proofs.Common.{◌≡◌, ◌∙◌, arith, ap, sym, ℕ, List, [], get_or, slice_get, None}
use Rattle.std.proofs.lemmas.Option.{unwrap_or-slice_get, slice_get_past}
use Rattle.std.specs.Option.{unwrap_or}
use Rattle.mesh_types.specs.declared.links.PolyRef.{PolyRef}
use Rattle.corridor_search.specs.Landmarks.{Heights, flat, heights_at}

get_or-past : {X : Type 0} (xs : List X) (i : ℕ) (d : X) → slice_get xs i ≡ None → get_or xs i d ≡ d
get_or-past xs i d past = sym (unwrap_or-slice_get xs i d) ∙ ap (λ o. unwrap_or o d) past

pub heights-past : (marks : Heights) (at : PolyRef) → slice_get marks at.tile ≡ None → heights_at marks at ≡ flat
heights-past marks at past =
    ap (λ (rows : List (List ℕ)). get_or rows at.index flat) (get_or-past marks at.tile [] past)
    ∙ get_or-past [] at.index flat (slice_get_past [] at.index (omega arith))
