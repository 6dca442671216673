use Rattle.std.proofs.Common.{ℕ, ◌∙◌, ap, arith}
use Rattle.std.proofs.lemmas.Bool.{eq-eqb, eqb-true}
use Rattle.std.proofs.lemmas.Nat.Bits.{bit_at_ones}
use Rattle.path_queries.specs.Filters.{is_open}
use Rattle.path_queries.proofs.filters.are_all_open.Goals as goal

pub returns : goal.returns
returns c = λ same area walked.
    ap (λ (areas : ℕ). is_open areas area) (eqb-true c.args.areas 18446744073709551615 same)
    ∙ eq-eqb _ 1 (bit_at_ones 64 area (omega (arith, walked.most)))
