use Rattle.std.proofs.Common.{arith, sym}
use Rattle.std.proofs.lemmas.Nat.{and_mask}
use Rattle.std.specs.Bool.{passes}
use lib.Ieee.{binary32, to_bits}
use lib.Ieee.Bits.{of_bits-to_bits, to_bits-lt}
use Rattle.world_grid.proofs.ValueLaws.{low_value, field_in, high_value}
use Rattle.world_grid.proofs.steps.parts_of.Goals as goal

pub returns-then-field-eq0-clause-found : goal.returns-then-field-eq0-clause-found
returns-then-field-eq0-clause-found c =
    let fits = passes _ c.well_formed.0.1 in
    low_value c.args.x (to_bits binary32 c.args.x) (of_bits-to_bits binary32 c.args.x fits) (to_bits-lt binary32 c.args.x fits) c.if-field-eq0.true

pub invariant_of-result-2 : goal.invariant_of-result-2
invariant_of-result-2 c =
    let fits = passes _ c.well_formed.0.1 in
    let masked = and_mask (to_bits binary32 c.args.x) 23 in
    let field = field_in c.args.x (to_bits binary32 c.args.x) (of_bits-to_bits binary32 c.args.x fits) (to_bits-lt binary32 c.args.x fits) (sym c.if-not-is_finite.ensures.value) in
    record { few = omega arith; leading = λ _. omega arith; low = omega arith }

pub returns-clause-found : goal.returns-clause-found
returns-clause-found c =
    let fits = passes _ c.well_formed.0.1 in
    high_value c.args.x (to_bits binary32 c.args.x) (of_bits-to_bits binary32 c.args.x fits) (to_bits-lt binary32 c.args.x fits) (sym c.if-not-is_finite.ensures.value) c.if-field-eq0.false
