-- The portals stand in a row from the start to the goal.
use Rattle.std.proofs.Common.{◌≡◌, ℕ, ◌+◌, ◌*◌, pos, negsuc, ◌-ℤ◌, List, [], ◌∷◌, length, subst, ap, ◌∙◌, arith}
use Rattle.std.proofs.lemmas.Int.{ints}
use Rattle.std.proofs.lemmas.List.{length-append}
use Rattle.mesh_types.specs.declared.links.Portal.{Portal}
use Rattle.bench_calls.specs.Rows.{IsRow}
use Rattle.bench_calls.proofs.RowLaws.{row_grown, row_pulled}
use Rattle.bench_calls.proofs.shapes.straight.Goals as goal

pub loop-place-preserved : goal.loop-place-preserved
loop-place-preserved c =
    let place = c.loop-place.place in (
      ap (λ (portals : List Portal). length portals) c.in_ok-push.ensures.items ∙ length-append c.loop-place.portals.items (c.upright.result ∷ [])
          ∙ omega (arith, c.loop-place.invariant.0),
      row_grown (16 * place) (16 * place) 512 (16 * (place + 1)) (pos 0) c.loop-place.portals.items
          c.push.new.self.items c.upright.result (omega arith) (omega arith) (omega arith) (omega arith)
          (record { low = omega (arith, ints); high = omega (arith, ints) }) (omega (arith, ints)) c.upright.ensures c.in_ok-push.ensures.items c.loop-place.invariant.1,
    )

pub returns : goal.returns
returns c =
    let all : c.loop-place.place ≡ c.args.count = omega arith in
    row_pulled 256 (16 * c.args.count) 256 c.loop-place.portals c.upright-2.result.left (omega arith) (omega arith) (omega arith)
    (ap (λ (p : Portal). p.left) c.upright-2.ensures) (omega (arith, c.loop-place.invariant.0))
    (subst (λ (n : ℕ). IsRow (negsuc 65535) (pos (16 * n) -ℤ pos 65536) c.loop-place.portals.items) all c.loop-place.invariant.1)
