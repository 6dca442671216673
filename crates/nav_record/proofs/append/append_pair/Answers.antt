use Rattle.std.proofs.Common.{[], ◌∷◌, ap, sym, append_assoc}
use Rattle.nav_text.proofs.AppendLaws.{spelled, and_then, longer, handed}
use Rattle.nav_record.proofs.append.append_pair.Goals as goal

pub returns-in_err-append_number : goal.returns-in_err-append_number
returns-in_err-append_number g c =
    let first = g.I.Integer.text c.args.first in
    let second = g.I.Integer.text c.args.second in
    handed _ _ c.from_residual.ensures.0
    (spelled _ _ (ap (λ t. 32 ∷ t) (sym (append_assoc first (32 ∷ []) second))) (longer (32 ∷ first) (32 ∷ second) c.in_err-append_number.ensures))

pub returns : goal.returns
returns g c =
    let first = g.I.Integer.text c.args.first in
    let second = g.I.Integer.text c.args.second in
    spelled _ _ (ap (λ t. 32 ∷ t) (sym (append_assoc first (32 ∷ []) second))) (and_then (32 ∷ first) (32 ∷ second) c.in_ok-append_number.ensures c.append_number-2.ensures)
