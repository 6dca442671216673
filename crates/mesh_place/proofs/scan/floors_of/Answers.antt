use Rattle.std.proofs.Common.{◌≡◌, ℕ, List, length, get_or, ap, ◌∙◌, arith}
use Rattle.std.specs.Prelude.{slice_get}
use Rattle.std.proofs.lemmas.Option.{slice_get_within, get_or_from_slice_get, option_and_then_some}
use Rattle.mesh_place.proofs.scan.floors_of.Goals as goal

pub returns-in_default : goal.returns-in_default
returns-in_default c storey is =
    let storeys = c.args.storeys.now in
    let past = c.in_default.ensures.lookup.3 in
    let same = ap length c.homes.ensures in
    option_and_then_some (slice_get storeys.list) (slice_get storeys.homes c.args.polygon) storey is
    (λ home there listed. absurd (omega (arith, past, same, slice_get_within storeys.homes c.args.polygon home there)))

pub returns-then-home-list : goal.returns-then-home-list
returns-then-home-list c storey is =
    let storeys = c.args.storeys.now in
    let found = c.in-Some.ensures.lookup in
    let past = c.if-home-list.true in
    let same = ap length c.list.ensures.value in
    option_and_then_some (slice_get storeys.list) (slice_get storeys.homes c.args.polygon) storey is
    (λ home there listed.
    let at : c.in-Some.home.now ≡ home =
    found.3.1 home ∙ ap (λ (xs : List ℕ). get_or xs c.args.polygon home) c.homes.ensures
    ∙ get_or_from_slice_get storeys.homes c.args.polygon home home there in
    absurd (omega (arith, past, same, at, slice_get_within storeys.list home storey listed)))

pub returns : goal.returns
returns c storey is =
    let storeys = c.args.storeys.now in
    let found = c.in-Some.ensures.lookup in
    option_and_then_some (slice_get storeys.list) (slice_get storeys.homes c.args.polygon) storey is
    (λ home there listed.
    let at : c.in-Some.home.now ≡ home =
    found.3.1 home ∙ ap (λ (xs : List ℕ). get_or xs c.args.polygon home) c.homes.ensures
    ∙ get_or_from_slice_get storeys.homes c.args.polygon home home there in
    (c.reach.ensures storey (ap (slice_get storeys.list) at ∙ listed)).floors)
